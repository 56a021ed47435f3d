-- The words of the three demands, as document 01 says under "The diagram" what they mean.
use Rattle.std.specs.Prelude.{List, ◌≡◌, ℕ, ◌≤◌, length, take}
use Rattle.answer.specs.Answers.{padded}
use Rattle.answer.specs.Order.{IsRequest}
use Rattle.answer.specs.Rulings.{Ruling, answer_of}
use Rattle.answer.specs.declared.Answer.{Answer}
use Rattle.encoding.specs.Layout.{Bytes, maximum}
use Rattle.table.specs.Reading.{Accepted}
use Rattle.ruling.specs.Ruling.{groups}
use Rattle.diagram.specs.Layout.{used}
use Rattle.building.specs.Built.{built, built_diagram}

-- "A question is one value for each field", "within its fields when each value is at most its field's maximum"
abbrev pub WithinFields : List ℕ → List ℕ → Type 0
WithinFields t q = IsRequest (maximum t) q

-- "A list is long enough when its length is at least that count", the number of matching rules
abbrev pub LongEnough : Ruling → ℕ → Type 0
LongEnough r n = length r.cards ≤ n

-- "A ruling has number 0 and place 0": this answer, and this list of n places, have the decision, the count and the cards of ruling r,
-- "then zeros to the list's end", and the answer has this number of subjects, 0 where no set is asked
pub record Rules (a : Answer) (list : List ℕ) (r : Ruling) (subjects n : ℕ) : Type 0 where
  pub answer : a ≡ answer_of r subjects
  pub cards : list ≡ padded r.cards n

-- "A diagram is built when a build from an accepted table succeeds": into n places
pub record Builds (t : List ℕ) (n : ℕ) : Type 0 where
  -- a table is "Bytes"; of a list of numbers it must be said, since no refusal asks that a maximum is at most 255
  pub bytes : Bytes t
  pub accepted : Accepted t
  pub succeeds : (built t n).number ≡ 0

-- "its used part, what the build left from place 0 up to, not including, the number in place 0"
abbrev pub used_part : List ℕ → ℕ → List ℕ
used_part t n = take (used (built_diagram t n)) (built_diagram t n)

-- "Two tables with the same maxima rule alike when the groups give, for every question within them, the same decision and the same card
-- numbers in the same order."
abbrev pub RuleAlike : List ℕ → List ℕ → Type 0
RuleAlike t u =
    (q : List ℕ) → WithinFields t q → ((groups t q).decision ≡ (groups u q).decision) × ((groups t q).cards ≡ (groups u q).cards)

-- what a call writes that is lent nothing to write
abbrev pub nothing : Unit {0}
nothing = tt
