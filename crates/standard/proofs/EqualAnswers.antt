-- What the profile accepts is accepted without it, with equal answers and lists.
use mathlib.Core.Path.{◌≡◌, sym, ◌∙◌}
use mathlib.Core.List.{List, ◌++◌}
use Prim.Native.Nat.{ℕ}
use Rattle.answer.specs.Answers.{refused, counted, zeros, padded}
use Rattle.answer.specs.Refusals.{settled}
use Rattle.answer.specs.Rulings.{Ruling, answer_of}
use Rattle.answer.proofs.Settling.{settled_none, settled_after}
use Rattle.encoding.specs.Layout.{count}
use Rattle.table.specs.Reading.{table_refusals, reading}
use Rattle.table.proofs.Accepting.{accepted_reading}
use Rattle.targets.specs.Subjects.{size}
use Rattle.ruling.specs.Ruling.{groups_together, asked_refusals, ruling, ruled_list}
use Rattle.standard.specs.Profile.{standard_refusals, Standard, reading_standard}
use Rattle.standard.specs.RulingStandard.{ruling_standard, ruled_list_standard}
use Rattle.standard.proofs.Accepting.{standard_accepted}

module _ (t : List ℕ) (h : Standard t) where
  -- "with equal answers": of a reading, the number of nodes
  pub equal_reading : reading_standard t ≡ reading t
  equal_reading =
      settled_none refused (counted (count t)) (standard_refusals t) h ∙ sym (accepted_reading t (standard_accepted t h))

  -- of a ruling, whatever is asked, with any list
  pub equal_ruling : (s : ℕ) (others : List ℕ) (n : ℕ) →
      (ruling_standard t s others n ≡ ruling t s others n) × (ruled_list_standard t s others n ≡ ruled_list t s others n)
  equal_ruling s others n = (same refused (answer_of r (size s)), same (λ number place. zeros n) (padded r.cards n))
    where
      r : Ruling
      r = groups_together t s others

      same : {A : Type 0} (refusal : ℕ → ℕ → A) (success : A) →
          settled refusal success (standard_refusals t ++ asked_refusals t s others n) ≡ settled refusal success (table_refusals t ++ asked_refusals t s others n)
      same refusal success =
          settled_after refusal success (standard_refusals t) (asked_refusals t s others n) h
          ∙ sym (settled_after refusal success (table_refusals t) (asked_refusals t s others n) (standard_accepted t h))
