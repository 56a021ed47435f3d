-- Demand 1 holds, and its cases.
use mathlib.Core.Path.{◌≡◌, refl, sym, ap, ◌∙◌}
use mathlib.Core.Bool.{true, false, not}
use mathlib.Core.Logic.{◌↔◌}
use mathlib.Core.List.{List}
use Prim.Native.Nat.{ℕ, ◌-◌}
use lib.ListN.{length}
use Rattle.answer.specs.Fields.{fields}
use Rattle.answer.specs.Answers.{refused, counted, zeros, padded}
use Rattle.answer.specs.Rulings.{answer_of}
use Rattle.answer.proofs.Settling.{answers}
use Rattle.encoding.specs.Layout.{maxima, count}
use Rattle.table.specs.Reading.{table_refusals}
use Rattle.table.proofs.Accepting.{accepted_reading}
use Rattle.targets.specs.Subjects.{size}
use Rattle.ruling.specs.Ruling.{groups, groups_together, ruling_refusals}
use Rattle.diagram.specs.Layout.{used}
use Rattle.diagram.specs.LookUp.{ruled_by}
use Rattle.diagram.specs.Sound.{Sound}
use Rattle.diagram.specs.Decided.{yes?, yes_decides}
use Rattle.diagram.specs.SoundIsDecided.{sound?}
use Rattle.diagram.specs.LookedUp.{diagram_refusal, look_up_refusals}
use Rattle.diagram.proofs.Deciding.{refuted, sound_is}
use Rattle.diagram.proofs.DiagramHeader.{diagram_used}
use Rattle.building.specs.Built.{diagram_of, build_refusals, built, built_diagram}
use Rattle.building.proofs.BuildAnswers.{succeeds_exactly, accepted_built}
use Rattle.demands.specs.Words.{Builds, nothing}
use Rattle.demands.specs.Demand1.{Demand1, Demand1Cases}
use Rattle.demands.proofs.Computing.{cases_compute}

-- what a test says of a claim that it decides
unsound : (d : List ℕ) → ((diagram_refusal d).when ≡ true) ↔ (Sound fields d → ⊥)
unsound d = (
  λ e. refuted (Sound fields d) (yes? (sound? fields d)) (yes_decides (sound? fields d)) e,
  λ h. ap not (sym (sound_is d false h)),
)

counts : (t : List ℕ) (room : ℕ) → Builds t room →
    built t room ≡ record { number = 0; decision = 0; place = 0; count = used (built_diagram t room); subjects = 0 }
counts t room b =
    let h = (succeeds_exactly t room).0 b.succeeds in
    let e = accepted_built t room h.0 h.1 in
    let places = diagram_used (maxima t) (groups t) (zeros (room - length (diagram_of t))) in
    e.0 ∙ ap counted (sym (ap used e.1 ∙ places))

pub demand_1 : Demand1
demand_1 = record {
  reading_refuses = λ t. answers refused nothing (counted (count t)) nothing (table_refusals t);
  ruling_refuses =
      λ t s others n.
      let r = groups_together t s others in
      answers refused (zeros n) (answer_of r (size s)) (padded r.cards n) (ruling_refusals t s others n);
  build_refuses = λ t n. answers refused (zeros n) (counted (length (diagram_of t))) (padded (diagram_of t) n) (build_refusals t n);
  look_up_refuses = λ d q n. answers refused (zeros n) (answer_of (ruled_by d q) 0) (padded (ruled_by d q).cards n) (look_up_refusals d q n);
  unsound_refused = unsound;
  reading_counts = accepted_reading;
  build_counts = counts;
}

pub demand_1_cases : Demand1Cases
unfolding cases_compute
demand_1_cases = record {
  t_list_of_1 = (refl, refl);
  t_3_0_0 = (refl, refl);
  t_into_62 = (refl, refl);
}
