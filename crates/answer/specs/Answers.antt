-- What a call hands back, as document 01 words it under "What a refusal hands back".
-- Assumes nothing: these are definitions.
use Rattle.std.specs.Prelude.{List, ◌++◌, ℕ, ◌-◌, length, replicate}
use Rattle.answer.specs.declared.Answer.{Answer}

-- "A refusal has decision 0, count 0, the place below"; "Any further part that a later request gives an answer is 0 in a refusal"
abbrev pub refused : ℕ → ℕ → Answer
refused number place = record { number = number; decision = 0; place = place; count = 0; subjects = 0 }

-- "an associated function making the blank answer": nothing refused, nothing to show
abbrev pub blank : Answer
blank = refused 0 0

-- "a reading alone counts nodes, a build counts places used, both with decision 0"
abbrev pub counted : ℕ → Answer
counted count = record { number = 0; decision = 0; place = 0; count = count; subjects = 0 }

-- "A ruling has number 0 and place 0", "A ruling's count is its cards"; paper 1, "The answer also gives how many figures the party has",
-- 0 "where there is nothing to show"
abbrev pub ruled : ℕ → ℕ → ℕ → Answer
ruled decision count subjects = record { number = 0; decision = decision; place = 0; count = count; subjects = subjects }

-- "zeros in the whole lent list or lent diagram to be built", of n places
abbrev pub zeros : ℕ → List ℕ
zeros n = replicate n 0

-- "the cards of all matching rules in table order, then zeros to the list's end", of n places
abbrev pub padded : List ℕ → ℕ → List ℕ
padded cards n = cards ++ zeros (n - length cards)
