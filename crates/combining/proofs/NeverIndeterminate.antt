-- Deny overrides never gives indeterminate, whatever its children give, and neither is its running decision, however many of them it has taken in.
use mathlib.Core.Path.{◌≡◌, sym, ap, ◌∙◌}
use mathlib.Core.Bool.{Bool, true, false, cond}
use mathlib.Core.List.{List, [], ◌∷◌}
use Prim.Native.Nat.{ℕ}
use native.Mathlib.Omega.{arith}
use Rattle.combining.specs.Ways.{not_applicable, permit, deny, indeterminate, Child, decisions, deny_overrides, way, step, taken, NeverIndeterminate}

-- the three decisions that are not indeterminate
data Clear : ℕ → Type 0 where
  none : Clear not_applicable
  permits : Clear permit
  denies : Clear deny

clear_not : {d : ℕ} → Clear d → d ≡ indeterminate → ⊥
clear_not none e = omega (arith, e)
clear_not permits e = omega (arith, e)
clear_not denies e = omega (arith, e)

-- a choice between two that are not indeterminate is not
chosen : (b : Bool) {x y : ℕ} → Clear x → Clear y → Clear (cond b x y)
chosen true h k = h
chosen false h k = k

-- what deny overrides gives, of any children
pub way_clear : (k : ℕ) (cs : List Child) → NeverIndeterminate k (way k cs)
way_clear k cs e h = clear_not (clear (decisions cs)) (sym (ap (λ k. way k cs) e) ∙ h)
  where
    clear : (ds : List ℕ) → Clear (deny_overrides ds)
    clear ds = search (chosen, none, permits, denies)

-- not applicable, at which a running decision starts, is not indeterminate
pub none_clear : (k : ℕ) → NeverIndeterminate k not_applicable
none_clear k e h = omega (arith, h)

-- a running decision with any children more
pub taken_clear : (k : ℕ) (r : Child) (cs : List Child) → NeverIndeterminate k r.decision → NeverIndeterminate k (taken k r cs).decision
taken_clear k r [] h = h
taken_clear k r (c ∷ cs) h = taken_clear k (step k r c) cs (way_clear k (r ∷ c ∷ []))
