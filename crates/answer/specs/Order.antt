-- The order of requests, and the first of them that has a property.
-- Assumes nothing: these are definitions.
use Rattle.std.specs.Prelude.{◌≡◌, ◌⊎◌, List, [], ◌∷◌, ℕ, ◌<◌, length}
use Rattle.answer.specs.Fields.{fields}
use Rattle.answer.specs.Requests.{Within}

-- "A question is one value for each field", "within its fields when each value is at most its field's maximum"
abbrev pub IsRequest : (ℕ → ℕ) → List ℕ → Type 0
IsRequest maximum q = (length q ≡ fields) × Within maximum q

-- paper 9, "ordered by who, then where, then deed": q comes before r by the first field in which they differ
unfoldable pub Precedes : List ℕ → List ℕ → Type 0
Precedes [] r = ⊥
Precedes (v ∷ q) [] = ⊥
Precedes (v ∷ q) (w ∷ r) = (v < w) ⊎ ((v ≡ w) × Precedes q r)

-- paper 9, "show the first question that changes": q is within its fields and has the property, and none that has it comes before q
pub record FirstRequest (maximum : ℕ → ℕ) (P : List ℕ → Type 0) (q : List ℕ) : Type 0 where
  pub request : IsRequest maximum q
  pub has : P q
  pub none_before : (r : List ℕ) → IsRequest maximum r → P r → Precedes r q → ⊥
