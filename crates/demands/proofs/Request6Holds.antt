-- Request 6 is met, and its cases.
use mathlib.Core.Path.{◌≡◌, refl, sym, ap, ◌∙◌}
use mathlib.Core.Bool.{cond}
use native.Mathlib.Omega.{arith}
use lib.ListN.{length}
use Rattle.answer.specs.Answers.{refused, counted, zeros, padded}
use Rattle.answer.proofs.Settling.{answers}
use Rattle.table.specs.Reading.{Accepted}
use Rattle.table.proofs.Accepting.{found_accepted}
use Rattle.table.proofs.AcceptedIsWellFormed.{well_formed}
use Rattle.ruling.proofs.Computing.{ruling_computes}
use Rattle.attaching.specs.Attached.{attached_bytes, headers_differ, attach_refusals, attached, Attaches}
use Rattle.attaching.proofs.AttachAnswers.{fit_refused}
use Rattle.attaching.proofs.BytesFitted.{size_is, bytes_fitted}
use Rattle.attaching.proofs.FitFaults.{too_large_is, too_many}
use Rattle.attaching.proofs.Trees.{ninth_level}
use Rattle.attaching.proofs.AttachedIsFitted as attaching
use Rattle.attaching.proofs.Computing.{attaching_computes}
use Rattle.demands.specs.Tables.{one_place, empty_root, on_levels, of127_nodes}
use Rattle.demands.specs.Outcomes.{GivesTable}
use Rattle.demands.specs.Request6.{Request6, Request6Cases}
use Rattle.demands.proofs.Computing.{tables_compute}
use Rattle.demands.proofs.ProfileAttached.{attached_standard, attached_mixed}

pub request_6 : Request6
request_6 = record {
  attach_refuses =
      λ b e n. answers refused (zeros n) (counted (length (attached_bytes b e))) (padded (attached_bytes b e) n) (attach_refusals b e n);
  ninth_level = λ b e c d s. let v = well_formed b c in let w = well_formed e d in ninth_level (attached_bytes b e) b e v w (bytes_fitted b e v w s);
  attach_counts = λ b e n a. attaching.attached_written b e a n;
  attached_accepted = attaching.attached_accepted;
  attached_nodes = attaching.attached_fitted;
  attached_last_child = attaching.attached_last_child;
  attached_parents = attaching.attached_parents;
  attached_levels = attaching.attached_levels;
  attached_rules = attaching.attached_rules;
  attached_rules_together = attaching.attached_rules_together;
  attached_holds = attaching.attached_holds;
  attached_holds_together = attaching.attached_holds_together;
  attached_fails = attaching.attached_fails;
  attached_fails_together = attaching.attached_fails_together;
  attached_standard = attached_standard;
  attached_mixed = attached_mixed;
}

-- 19 goes by the nodes of both tables and the levels of the expansion, so that of the large base only the reading is computed

accepted_127 : Accepted of127_nodes
unfolding tables_compute ruling_computes
accepted_127 = found_accepted of127_nodes refl refl

accepted_one : Accepted (empty_root 0 one_place)
unfolding tables_compute ruling_computes
accepted_one = found_accepted (empty_root 0 one_place) refl refl

accepted_two : Accepted (on_levels 2)
unfolding tables_compute ruling_computes
accepted_two = found_accepted (on_levels 2) refl refl

of_128 : attached of127_nodes (empty_root 0 one_place) 1416 ≡ counted 1416
unfolding tables_compute ruling_computes headers_differ
of_128 =
    let b = of127_nodes in
    let e = empty_root 0 one_place in
    let small = too_large_is b e (well_formed b accepted_127) (well_formed e accepted_one) refl in
    let a : Attaches b e = record { base = accepted_127; expansion = accepted_one; fit = (refl, (refl, (small, tt))) } in
    let size : length (attached_bytes b e) ≡ 1416 = sym (size_is b e) in
    (attaching.attached_written b e a 1416 (omega (arith, size))).0 ∙ ap counted size

of_129 : GivesTable of127_nodes (on_levels 2) 1427 (refused 19 0) (zeros 1427)
unfolding tables_compute ruling_computes headers_differ
of_129 =
    let b = of127_nodes in
    let e = on_levels 2 in
    let large = too_many b e (well_formed b accepted_127) (well_formed e accepted_two) refl (omega arith) in
    let h =
    fit_refused b e 1427 accepted_127 accepted_two 19 (refused 19 0) (zeros 1427) (ap (λ x. cond x 19 0) large) (λ z. omega arith) refl refl in
    (sym h.0, sym h.1)

pub request_6_cases : Request6Cases
unfolding tables_compute attaching_computes
request_6_cases = record {
  t_attached = (refl, refl);
  t_attached_in_87 = (refl, refl);
  t_attached_in_84 = (refl, refl);
  t_attached_0_1_1 = (refl, refl);
  t_attached_0_1_attack = (refl, refl);
  t_attached_0_0_0 = (refl, refl);
  base_is_rule = (refl, refl);
  subjects_differ = (refl, refl);
  resources_differ = (refl, refl);
  actions_differ = (refl, refl);
  of_128_nodes = of_128;
  of_129_nodes = of_129;
  on_8_levels = refl;
  on_9_levels = (refl, refl);
  base_on_8_levels = refl;
  base_first = (refl, refl);
  expansion_second = (refl, refl);
  rule_before_headers = (refl, refl);
  headers_before_levels = (refl, refl);
  levels_before_room = (refl, refl);
}
