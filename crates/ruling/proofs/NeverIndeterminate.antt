-- A deny-overrides group never gives indeterminate, at any node, and neither is its running decision, before or after any child: for any test of which
-- nodes apply, and so for one subject and for sets alike. So a table whose root is such a group never answers indeterminate.
use mathlib.Core.Path.{◌≡◌, refl, sym, ap, ◌∙◌}
use mathlib.Core.Bool.{Bool, true, false}
use mathlib.Core.List.{List}
use Prim.Native.Nat.{ℕ, ◌<◌}
use native.Mathlib.Omega.{arith}
use lib.ListN.{length, take}
use lib.Seq.{take-length}
use Rattle.answer.specs.Refusals.{Refusal}
use Rattle.answer.proofs.RequestRefusals.{ruled_so}
use Rattle.combining.specs.Ways.{indeterminate, absent, taken, NeverIndeterminate}
use Rattle.combining.proofs.Fold.{folds}
use Rattle.combining.proofs.NeverIndeterminate.{way_clear, none_clear, taken_clear}
use Rattle.encoding.specs.Layout.{kind}
use Rattle.ruling.specs.Forest.{under}
use Rattle.targets.specs.Subjects.{applies_to_some, size}
use Rattle.ruling.specs.Meaning.{children, decision, running_decision}
use Rattle.ruling.specs.Ruling.{groups_together, ruled_after}
use Rattle.ruling.proofs.Decisions.{gives_not, gives_group, children_below}

module _ (a : ℕ → Bool) (t : List ℕ) where
  -- what a node gives
  pub decision_clear : (i : ℕ) → NeverIndeterminate (kind t i) (decision a t i)
  decision_clear i e = by (a i) refl
    where
      by : (b : Bool) → a i ≡ b → decision a t i ≡ indeterminate → ⊥
      by true h d = way_clear (kind t i) (children a t (under t i)) e (sym (gives_group a t i (children a t (under t i)) h (omega arith)) ∙ d)
      by false h d = none_clear (kind t i) e (sym (gives_not a t i (children a t (under t i)) h) ∙ d)

  -- a group's running decision, with any number of its children taken in
  pub running_clear : (i n : ℕ) → NeverIndeterminate (kind t i) (running_decision a t i n)
  running_clear i n = taken_clear (kind t i) absent (take n (children a t (under t i))) (none_clear (kind t i))

  -- with all its children taken in, a running decision is what the group gives
  pub running_ends : (i : ℕ) → a i ≡ true → kind t i < 4 → running_decision a t i (length (children a t (under t i))) ≡ decision a t i
  running_ends i h l =
      let cs = children a t (under t i) in
      ap (λ cs. (taken (kind t i) absent cs).decision) (take-length cs)
      ∙ folds (kind t i) cs l (children_below a t (under t i))
      ∙ sym (gives_group a t i cs h l)

-- what a call answers that rules by the table, whatever it refuses
pub ruling_clear : (refusals : List Refusal) (t : List ℕ) (s : ℕ) (others : List ℕ) → NeverIndeterminate (kind t 0) (ruled_after refusals t s others).decision
ruling_clear refusals t s others =
    ruled_so (NeverIndeterminate (kind t 0)) (none_clear (kind t 0)) refusals (groups_together t s others) (size s)
    (λ none. decision_clear (applies_to_some t s others) t 0)
