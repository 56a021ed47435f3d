-- What a request is given, and how it is refused, as document 01 words it: shared by every way of ruling.
-- Assumes nothing: these are definitions.
use Rattle.std.specs.Prelude.{List, [], ◌∷◌, ◌++◌, ℕ, ◌-◌, ltb, length}
use Rattle.answer.specs.Fields.{fields}
use Rattle.answer.specs.Answers.{refused, ruled, zeros, padded}
use Rattle.answer.specs.Requests.{value_fault}
use Rattle.answer.specs.Refusals.{Refusal, row, upward, settled}
use Rattle.answer.specs.declared.Answer.{Answer}

-- what a request is given: a decision, and "the cards of all matching rules in table order"
pub record Ruling : Type 0 where
  pub decision : ℕ
  pub cards : List ℕ

-- "9, field 0 to 2 | value over its maximum; first such field", of the fields from a given one on
abbrev pub value_refusals : (ℕ → ℕ) → List ℕ → ℕ → List Refusal
value_refusals maximum q from = upward (λ f. row 9 f (value_fault maximum q f) ∷ []) from (fields - from)

-- "10, 0 | list shorter than the cards", of n places
abbrev pub list_refusal : Ruling → ℕ → Refusal
list_refusal r n = row 10 0 (ltb n (length r.cards))

-- "then 9, 10 for a question": of request q, by its fields from a given one on, where r is the ruling and the list has n places
abbrev pub request_refusals : (ℕ → ℕ) → List ℕ → ℕ → Ruling → ℕ → List Refusal
request_refusals maximum q from r n = value_refusals maximum q from ++ (list_refusal r n ∷ [])

-- "A ruling has number 0 and place 0", "A ruling's count is its cards": the answer that gives the ruling r to a set of so many subjects,
-- 0 where no set is asked
abbrev pub answer_of : Ruling → ℕ → Answer
answer_of r subjects = ruled r.decision (length r.cards) subjects

-- the answer of a call with these refusals that gives the ruling r
abbrev pub ruled_or : List Refusal → Ruling → ℕ → Answer
ruled_or refusals r subjects = settled refused (answer_of r subjects) refusals

-- "zeros in the whole lent list" of a refusal, else these numbers and then "zeros to the list's end", of n places
abbrev pub listed_or : List Refusal → List ℕ → ℕ → List ℕ
listed_or refusals numbers n = settled (λ number place. zeros n) (padded numbers n) refusals
