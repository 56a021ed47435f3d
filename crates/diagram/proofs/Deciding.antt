-- What a test tells that decides a claim, and that what decides soundness is its decision.
use mathlib.Core.Path.{◌≡◌, refl, sym, subst}
use mathlib.Core.Bool.{Bool, true, false, not}
use mathlib.Core.List.{List}
use Prim.Native.Nat.{ℕ}
use borrow.Author.Tests.{not-true, not-false}
use Rattle.answer.specs.Fields.{fields}
use Rattle.diagram.specs.Sound.{Sound}
use Rattle.diagram.specs.Decided.{yes?, Decides, yes_decides}
use Rattle.diagram.specs.SoundIsDecided.{sound?}

-- a claim has one outcome
decides_same : (A : Type 0) (a b : Bool) → Decides A a → Decides A b → a ≡ b
decides_same A true true p q = refl
decides_same A true false p q = absurd (q p)
decides_same A false true p q = absurd (p q)
decides_same A false false p q = refl

-- what `not` of a deciding test says
pub refuted : (A : Type 0) (b : Bool) → Decides A b → not b ≡ true → A → ⊥
refuted A b h e = subst (Decides A) (not-true b e) h

pub affirmed : (A : Type 0) (b : Bool) → Decides A b → not b ≡ false → A
affirmed A b h e = subst (Decides A) (not-false b e) h

module _ (d : List ℕ) where
  -- what decides soundness is equal to its decision
  pub sound_is : (b : Bool) → Decides (Sound fields d) b → b ≡ yes? (sound? fields d)
  sound_is b h = decides_same (Sound fields d) b (yes? (sound? fields d)) h (yes_decides (sound? fields d))

  -- what is decided to be sound is sound
  pub sound_so : yes? (sound? fields d) ≡ true → Sound fields d
  sound_so h = subst (Decides (Sound fields d)) h (yes_decides (sound? fields d))

  -- what `not` of the decision about soundness says
  pub found_unsound : (b : Bool) → b ≡ yes? (sound? fields d) → not b ≡ true → Sound fields d → ⊥
  found_unsound b e = refuted (Sound fields d) b (subst (Decides (Sound fields d)) (sym e) (yes_decides (sound? fields d)))

  pub found_sound : (b : Bool) → b ≡ yes? (sound? fields d) → not b ≡ false → Sound fields d
  found_sound b e = affirmed (Sound fields d) b (subst (Decides (Sound fields d)) (sym e) (yes_decides (sound? fields d)))
