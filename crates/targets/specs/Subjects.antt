-- Several subjects that ask together, as paper 1 of document 02 words it: "The party is a 64-bit set: bit k stands for figure k."
-- Assumes nothing: these are definitions.
use Rattle.std.specs.Prelude.{◌≡◌, ℕ, ◌<◌, Bool, true, not, ◌&&◌, ◌||◌, List, ◌∷◌, nat_lt}
use Rattle.answer.specs.Below.{some_below, count_below}
use Rattle.answer.specs.Order.{IsRequest}
use Rattle.sets.specs.Sets.{bit}
use Rattle.targets.specs.Targets.{applies}

-- "a 64-bit set": a member is below this
abbrev pub most_subjects : ℕ
most_subjects = 64

-- "bit k stands for figure k": subject k is in the set s
abbrev pub member : ℕ → ℕ → Bool
member s k = bit s k

-- some subject in the set passes the test
abbrev pub some_member : ℕ → (ℕ → Bool) → Bool
some_member s p = some_below most_subjects (λ k. member s k && p k)

-- "A node holds for the party exactly when at least one member by itself meets its target and every target above it": node i, where the
-- other fields have these values
unfoldable pub applies_to_some : List ℕ → ℕ → List ℕ → ℕ → Bool
applies_to_some t s others i = some_member s (λ k. applies t (k ∷ others) i)

-- "how many figures the party has"
abbrev pub size : ℕ → ℕ
size s = count_below most_subjects (member s)

-- of 13: "the party is empty or names a figure above the who maximum"
unfoldable pub subjects_fault : ℕ → ℕ → Bool
subjects_fault maximum s = not (some_below most_subjects (member s)) || some_member s (λ k. nat_lt maximum k)

-- "A question is within its fields when each value is at most its field's maximum": the set has a member, and what each member asks by
-- itself, where the other fields have these values, is within these maxima
pub record AskedWithin (maximum : ℕ → ℕ) (s : ℕ) (others : List ℕ) : Type 0 where
  pub some : (k : ℕ) × ((k < most_subjects) × (member s k ≡ true))
  pub each : (k : ℕ) → k < most_subjects → member s k ≡ true → IsRequest maximum (k ∷ others)
