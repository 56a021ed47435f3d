-- The decision of a node that is reached, under targets that hold, is the one that documents 01 and 02 word: a group goes by its own target alone, and
-- only rules by the targets above them too.
use mathlib.Core.Path.{◌≡◌, refl, sym}
use mathlib.Core.Bool.{Bool, true, false, cond}
use mathlib.Core.List.{List}
use Prim.Native.Nat.{ℕ, ◌<◌}
use native.Mathlib.Omega.{arith}
use Rattle.encoding.specs.Layout.{count}
use Rattle.table.specs.Tree.{is_rule}
use Rattle.table.specs.Reading.{Accepted}
use Rattle.table.specs.WellFormed.{WellFormed}
use Rattle.table.proofs.AcceptedIsWellFormed.{well_formed}
use Rattle.targets.specs.Targets.{target_holds, applies}
use Rattle.ruling.specs.Meaning.{decision}
use Rattle.ruling.specs.AsWorded.{holds_as_worded, decision_as_worded}
use Rattle.targets.specs.Targets.{HoldAbove}
use Rattle.targets.proofs.Applies.{applies_is, applies_above}
use Rattle.targets.proofs.Throughout.{pass_after}
use Rattle.ruling.proofs.NodesAlike.{Agree, decision_same}

module _ (t q : List ℕ) (w : WellFormed t) where
  -- where every target above a node holds, its own is what counts
  holds_is : (i : ℕ) → i < count t → HoldAbove t (target_holds t q) i → holds_as_worded t q i ≡ applies t q i
  holds_is i l h = by (is_rule t i)
    where
      by : (r : Bool) → cond r (applies t q i) (target_holds t q i) ≡ applies t q i
      by true = refl
      by false = sym (applies_is t q i h (w.spans i l))

  agree : Agree (holds_as_worded t q) t (applies t q) t (λ i. i) (HoldAbove t (target_holds t q)) (count t)
  agree = record {
    same = holds_is;
    kinds = λ i l h. refl;
    spans = λ i l h. refl;
    down = λ i l h y. applies_above t q i y;
    after = λ i l h. pass_after t (target_holds t q) i w l h;
  }

-- the decision of a node of an accepted table above which every target holds
pub decision_as_worded_lem : (t q : List ℕ) → Accepted t → (i : ℕ) → i < count t → HoldAbove t (target_holds t q) i →
    decision_as_worded t q i ≡ decision (applies t q) t i
decision_as_worded_lem t q c i l h =
    let w = well_formed t c in
    decision_same (holds_as_worded t q) t (applies t q) t (λ i. i) (λ i k. refl) w (omega arith) (agree t q w) i h l (omega (arith, w.inside i l))
