-- Request 1 is met, and its cases.
use mathlib.Core.Path.{◌≡◌, refl, sym, ap, ◌∙◌, subst}
use mathlib.Core.List.{List, ◌∷◌, ◌++◌}
use Prim.Native.Nat.{ℕ, ◌^◌, ◌<◌}
use Rattle.answer.specs.Answers.{ruled, padded}
use Rattle.answer.specs.Rulings.{answer_of}
use Rattle.encoding.specs.Layout.{maximum}
use Rattle.targets.specs.Subjects.{most_subjects, size}
use Rattle.ruling.specs.Ruling.{groups, ruling, ruled_list}
use Rattle.targets.proofs.SubjectsByParents.{applies_to_some_by_parents}
use Rattle.ruling.proofs.OneSubject.{size_one, one_subject, one_asked}
use Rattle.diagram.specs.LookedUp.{looked_up, looked_up_list}
use Rattle.demands.specs.Words.{WithinFields, LongEnough, Builds, used_part}
use Rattle.demands.specs.Request1.{Request1, Request1Cases}
use Rattle.demands.proofs.Computing.{cases_compute}
use Rattle.demands.proofs.Demand2Holds.{question}
use Rattle.demands.proofs.Demand3Holds.{through}

-- a set of one subject, by the diagram
alone : (t : List ℕ) (room : ℕ) → Builds t room → (following : List ℕ) (k : ℕ) (others : List ℕ) (n : ℕ) → k < most_subjects →
    WithinFields t (k ∷ others) → LongEnough (groups t (k ∷ others)) n →
    let d = used_part t room ++ following in
    let a = looked_up d (k ∷ others) n in
    (ruling t (2 ^ k) others n ≡ ruled a.decision a.count 1) × (ruled_list t (2 ^ k) others n ≡ looked_up_list d (k ∷ others) n)
alone t room b following k others n m w l =
    let q = k ∷ others in
    let e = one_subject k m t others b.accepted in
    let by-groups = question t (2 ^ k) others n b.accepted (one_asked k m (maximum t) others w) (subst (λ r. LongEnough r n) (sym e) l) in
    let by-diagram = through t room b following q n w l in (
      by-groups.answer
          ∙ ap (λ r. answer_of r (size (2 ^ k))) e
          ∙ ap (answer_of (groups t q)) (size_one k m)
          ∙ sym (ap (λ a. ruled a.decision a.count 1) by-diagram.answer),
      by-groups.cards ∙ ap (λ r. padded r.cards n) e ∙ sym by-diagram.cards,
    )

pub request_1 : Request1
request_1 = record {
  applies_worded = λ t s others i c l. applies_to_some_by_parents t s others c i l;
  one_by_groups = λ t k others c l. (one_subject k l t others c, size_one k l);
  one_by_diagram = alone;
}

pub request_1_cases : Request1Cases
unfolding cases_compute
request_1_cases = record {
  t_figure_3 = (refl, refl);
  t_0_2_trade = (refl, refl);
  t_0_2_list_of_1 = (refl, refl);
  t_0_1_2_trade = (refl, refl);
  t_0_2_attack = (refl, refl);
  t_0_1_2_attack = (refl, refl);
  t_empty_set = (refl, refl);
  t_0_3_over = (refl, refl);
  t_resource_over = (refl, refl);
  t_action_over = (refl, refl);
  no_member_by_itself = (refl, refl);
  equal_diagrams = record { first_built = refl; second_built = refl; equal = refl };
  permit_first_lem = (refl, refl);
  deny_first_lem = (refl, refl);
}
