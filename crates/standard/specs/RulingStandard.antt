-- "a second ruling", as paper 3 of document 02 words it: what it answers, and what it leaves in the lent list, for every table, set of subjects,
-- values and list.
-- Assumes nothing: these are definitions.
use Rattle.std.specs.Prelude.{List, ◌++◌, ℕ}
use Rattle.answer.specs.Refusals.{Refusal}
use Rattle.answer.specs.declared.Answer.{Answer}
use Rattle.ruling.specs.Ruling.{asked_refusals, ruled_after, listed_after}
use Rattle.standard.specs.Profile.{standard_refusals}

-- "after all of 1 to 8 and before 13": 1 to 8, 14 to 16, then 13, 9 and 10
abbrev pub ruling_standard_refusals : List ℕ → ℕ → List ℕ → ℕ → List Refusal
ruling_standard_refusals t s others n = standard_refusals t ++ asked_refusals t s others n

-- the answer to the set s, where the other fields have these values, of a list of n places
abbrev pub ruling_standard : List ℕ → ℕ → List ℕ → ℕ → Answer
ruling_standard t s others n = ruled_after (ruling_standard_refusals t s others n) t s others

-- what the list then holds
abbrev pub ruled_list_standard : List ℕ → ℕ → List ℕ → ℕ → List ℕ
ruled_list_standard t s others n = listed_after (ruling_standard_refusals t s others n) t s others n
