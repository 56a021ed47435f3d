-- Request 3 is met, and its cases.
use mathlib.Core.Path.{refl}
use borrow.Author.Tests.{leb-false}
use Rattle.answer.specs.Answers.{refused, counted, zeros, padded}
use Rattle.answer.specs.Rulings.{answer_of}
use Rattle.answer.proofs.Settling.{answers}
use Rattle.combining.proofs.Fold.{pick}
use Rattle.encoding.specs.Layout.{count, kind}
use Rattle.table.proofs.AcceptedIsWellFormed.{well_formed}
use Rattle.targets.specs.Subjects.{size}
use Rattle.ruling.specs.Ruling.{groups_together}
use Rattle.targets.proofs.AppliesIsClosed.{applies_closed, applies_to_some_closed}
use Rattle.standard.specs.Profile.{standard_refusals}
use Rattle.standard.specs.RulingStandard.{ruling_standard_refusals}
use Rattle.standard.proofs.Accepting.{standard_accepted}
use Rattle.standard.proofs.EqualAnswers.{equal_reading, equal_ruling}
use Rattle.standard.proofs.GroupsAsPrinted.{rules_as_printed, groups_as_printed, empty_as_printed}
use Rattle.standard.proofs.AlgorithmCasesHold.{algorithm_cases_hold}
use Rattle.standard.proofs.Computing.{profile_computes}
use Rattle.demands.specs.Words.{nothing}
use Rattle.demands.specs.Request3.{Request3, Request3Cases}
use Rattle.demands.proofs.Computing.{tables_compute}

pub request_3 : Request3
request_3 = record {
  standard_reading_refuses = λ t. answers refused nothing (counted (count t)) nothing (standard_refusals t);
  standard_ruling_refuses =
      λ t s others n.
      let r = groups_together t s others in
      answers refused (zeros n) (answer_of r (size s)) (padded r.cards n) (ruling_standard_refusals t s others n);
  standard_accepted = λ t h. (standard_accepted t h, equal_reading t h);
  standard_ruled_alike = λ t s others n h. equal_ruling t h s others n;
  rules_as_printed = λ t a i h c l. rules_as_printed t h a c i l;
  groups_as_printed = λ t a i h c l. groups_as_printed t h a c i l;
  empty_as_printed = λ t a i h c l g. empty_as_printed a t (standard_accepted t h) c i l (leb-false 4 (kind t i) g);
  sets_closed = λ t s others c. applies_to_some_closed t (well_formed t c) s others;
  one_closed = λ t q c. applies_closed t (well_formed t c) q;
}

pub request_3_cases : Request3Cases
unfolding tables_compute profile_computes
request_3_cases = record {
  algorithms = algorithm_cases_hold;
  t_mixed = refl;
  t_mixed_ruled = (refl, refl);
  rule_in_only_one_lem = refl;
  rule_in_only_one_ruled = (refl, refl);
  rule_as_root_lem = refl;
  rule_as_root_ruled = (refl, refl);
  mixed_after_only_one = refl;
  mixed_before_13 = (refl, refl);
  groups_of_rules_lem = refl;
  groups_of_rules_for_0 = (refl, refl);
  groups_of_rules_for_both = (refl, refl);
  groups_of_rules_list_of_1 = (refl, refl);
  groups_of_rules_no_subject = (refl, refl);
  empty_standard = pick 4 _ (refl, (refl, (refl, (refl, tt))));
}
