-- What is asked, and refusal 9, as document 01 words them: shared by every way of ruling.
-- Assumes nothing: these are definitions.
use Rattle.std.specs.Prelude.{Bool, cond, List, ℕ, Option, Some, None, zero, suc, ◌+◌, ◌-◌, ◌≤◌, ◌<◌, ltb, get_or}
use Rattle.answer.specs.Fields.{fields}

-- "A question is one value for each field": the value of field f
abbrev pub value : List ℕ → ℕ → ℕ
value q f = get_or q f 0

-- "A question is within its fields when each value is at most its field's maximum."
abbrev pub Within : (ℕ → ℕ) → List ℕ → Type 0
Within maximum q = (f : ℕ) → f < fields → value q f ≤ maximum f

-- of these, the fields from a given one on
abbrev pub WithinFrom : (ℕ → ℕ) → List ℕ → ℕ → Type 0
WithinFrom maximum q from = (f : ℕ) → from ≤ f → f < fields → value q f ≤ maximum f

-- of 9: "value over its maximum", in field f
abbrev pub value_fault : (ℕ → ℕ) → List ℕ → ℕ → Bool
value_fault maximum q f = ltb (maximum f) (value q f)

-- the first of the k numbers from i upward that passes the test; i + k where none does
abbrev pub first_from : (ℕ → Bool) → ℕ → ℕ → ℕ
first_from p i zero = i
first_from p i (suc k) = cond (p i) i (first_from p (i + 1) k)

-- 9: "value over its maximum; first such field", of the fields from a given one on; the number of fields where there is none
unfoldable pub field_fault : (ℕ → ℕ) → List ℕ → ℕ → ℕ
field_fault maximum q from = first_from (value_fault maximum q) from (fields - from)

-- the field of that number, where there is one
abbrev pub one_of_fields : ℕ → Option ℕ
one_of_fields f = cond (ltb f fields) (Some f) None
