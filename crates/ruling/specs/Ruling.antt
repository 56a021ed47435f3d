-- What ruling by groups answers, and what it leaves in the lent list, for every table, set of subjects, values and list: refusals 1 to 8, 13, 9 and
-- 10, in order.
-- Assumes nothing: these are definitions.
use Rattle.std.specs.Prelude.{cond, List, ◌∷◌, ◌++◌, ℕ, eqb, Result}
use Rattle.answer.specs.Answers.{refused, ruled}
use Rattle.answer.specs.Numbers.{answer_by}
use Rattle.answer.specs.Refusals.{Refusal, row}
use Rattle.answer.specs.Rulings.{Ruling, request_refusals, ruled_or, listed_or}
use Rattle.answer.specs.declared.Answer.{Answer}
use Rattle.answer.specs.declared.refusal.Refused.{Refused}
use Rattle.encoding.specs.Layout.{maximum}
use Rattle.table.specs.Reading.{table_refusals}
use Rattle.targets.specs.Targets.{applies}
use Rattle.targets.specs.Subjects.{applies_to_some, size, subjects_fault}
use Rattle.ruling.specs.Meaning.{meaning}
use Rattle.ruling.specs.declared.groups.Ruled.{Ruled}

-- "The groups give a question the decision under 'How a table rules' [..], the cards of all matching rules in table order": a question of one
-- figure
abbrev pub groups : List ℕ → List ℕ → Ruling
groups t q = meaning (applies t q) t

-- paper 1, "A node holds for the party [..]; groups then combine as before": what they give the set s, where the other fields have these values
abbrev pub groups_together : List ℕ → ℕ → List ℕ → Ruling
groups_together t s others = meaning (applies_to_some t s others) t

-- "13 when the party is empty or names a figure above the who maximum"
abbrev pub subjects_refusal : List ℕ → ℕ → Refusal
subjects_refusal t s = row 13 0 (subjects_fault (maximum t 0) s)

-- "before 9, which then looks at where and deed only": 13, then 9 whichever subject asks, here 0, then 10, of a list of n places
abbrev pub asked_refusals : List ℕ → ℕ → List ℕ → ℕ → List Refusal
asked_refusals t s others n = subjects_refusal t s ∷ request_refusals (maximum t) (0 ∷ others) 1 (groups_together t s others) n

-- "checked after the table's faults": 1 to 8, then these
abbrev pub ruling_refusals : List ℕ → ℕ → List ℕ → ℕ → List Refusal
ruling_refusals t s others n = table_refusals t ++ asked_refusals t s others n

-- the answer of a call with these refusals to the set s, where the other fields have these values; "The answer also gives how many figures the
-- party has"
abbrev pub ruled_after : List Refusal → List ℕ → ℕ → List ℕ → Answer
ruled_after refusals t s others = ruled_or refusals (groups_together t s others) (size s)

-- what a list of n places then holds: "the cards of all matching rules in table order, then zeros to the list's end", zeros in a refusal
abbrev pub listed_after : List Refusal → List ℕ → ℕ → List ℕ → ℕ → List ℕ
listed_after refusals t s others n = listed_or refusals (groups_together t s others).cards n

-- the answer that a ruling comes to, or its refusal, before the subjects are counted (for the contracts inside the crate)
abbrev pub ruled_answer : Result Ruled Refused → Answer
ruled_answer = answer_by (λ r. ruled r.decision r.count 0)

-- an answer with "how many figures the party has", 0 in a refusal (for the contracts inside the crate)
abbrev pub for_subjects : Answer → ℕ → Answer
for_subjects a subjects = cond (eqb a.number 0) (ruled a.decision a.count subjects) (refused a.number a.place)

-- the answer to the set s, where the other fields have these values, of a list of n places
abbrev pub ruling : List ℕ → ℕ → List ℕ → ℕ → Answer
ruling t s others n = ruled_after (ruling_refusals t s others n) t s others

-- what the list then holds
abbrev pub ruled_list : List ℕ → ℕ → List ℕ → ℕ → List ℕ
ruled_list t s others n = listed_after (ruling_refusals t s others n) t s others n
