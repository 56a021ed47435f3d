-- When a target holds, and when a node applies, as document 01 words it under "How a table rules".
-- Assumes nothing: these are definitions.
use Rattle.std.specs.Prelude.{◌≡◌, ℕ, suc, ◌-◌, ◌<◌, Bool, true, cond, not, ◌&&◌, ◌||◌, List, ◌∷◌, nat_le, nat_lt}
use Rattle.answer.specs.Below.{every_below}
use Rattle.answer.specs.Fields.{fields}
use Rattle.answer.specs.Requests.{value}
use Rattle.encoding.specs.Layout.{low, high}
use Rattle.encoding.specs.Ranges.{low_of, high_of}
use Rattle.table.specs.Tree.{end_of}

-- "low and high [..], both ends included": the value lies in the range; paper 7, "A low above its high now means values from low upward or up to high"
unfoldable pub in_range : ℕ → ℕ → ℕ → Bool
in_range low high value = cond (nat_lt high low) (nat_le low value || nat_le value high) (nat_le low value && nat_le value high)

-- the value of field f lies in node i's range
abbrev pub field_holds : List ℕ → List ℕ → ℕ → ℕ → Bool
field_holds t q i f = in_range (low t i f) (high t i f) (value q f)

-- "A node's target holds when all three values lie in its ranges."
unfoldable pub target_holds : List ℕ → List ℕ → ℕ → Bool
target_holds t q i = every_below fields (field_holds t q i)

-- paper 4, "test from that": the value of field f lies in its range of the word w
abbrev pub field_holds_from : ℕ → List ℕ → ℕ → Bool
field_holds_from w q f = in_range (low_of w f) (high_of w f) (value q f)

-- "the test from it": all values lie in the ranges of the word w
unfoldable pub target_holds_from : ℕ → List ℕ → Bool
target_holds_from w q = every_below fields (field_holds_from w q)

-- "its own target and every target above it hold": node j is node i or above it where it is no later and its span reaches over node i
unfoldable pub applies : List ℕ → List ℕ → ℕ → Bool
applies t q i = every_below (suc i) (λ j. not (nat_lt i (end_of t j)) || target_holds t q j)

-- the values of all fields but the first, the subject, lie in the ranges of the word w (for the contracts inside the library)
unfoldable pub others_hold_from : ℕ → List ℕ → Bool
others_hold_from w others = every_below (fields - 1) (λ f. field_holds_from w (0 ∷ others) (suc f))

-- h, the test of a node's own target, passes at every node above node i (for the contracts inside the library)
abbrev pub HoldAbove : List ℕ → (ℕ → Bool) → ℕ → Type 0
HoldAbove t h i = (j : ℕ) → j < i → i < end_of t j → h j ≡ true
