-- The number of each refusal by name, and the answer that a result with such a refusal comes to.
-- Assumes nothing: these are definitions.
use Rattle.std.specs.Prelude.{ℕ, Option, None, Some, Result, Ok, Err}
use Rattle.answer.specs.Answers.{refused}
use Rattle.answer.specs.declared.Answer.{Answer}
use Rattle.answer.specs.declared.refusal.Refusal.{Refusal}
use Rattle.answer.specs.declared.refusal.Refusal.TheVariants.{Length, Version, NodeCount, Kind, Span, Level, Range, Card, Value, ListTooShort, Room, Diagram, Subjects, MixedGroup, RuleInOnlyOne, RuleAsRoot, BaseIsRule, HeadersDiffer, TooLarge}
use Rattle.answer.specs.declared.refusal.Refused.{Refused}

-- the "Number" of document 01's table, and of papers 1, 3 and 6 of document 02, for each refusal
abbrev pub number_of : Refusal → ℕ
number_of Length = 1
number_of Version = 2
number_of NodeCount = 3
number_of Kind = 4
number_of Span = 5
number_of Level = 6
number_of Range = 7
number_of Card = 8
number_of Value = 9
number_of ListTooShort = 10
number_of Room = 11
number_of Diagram = 12
number_of Subjects = 13
number_of MixedGroup = 14
number_of RuleInOnlyOne = 15
number_of RuleAsRoot = 16
number_of BaseIsRule = 17
number_of HeadersDiffer = 18
number_of TooLarge = 19

-- the number of a refusal, 0 where there is none
abbrev pub number_or_zero : Option Refusal → ℕ
number_or_zero None = 0
number_or_zero (Some refusal) = number_of refusal

-- the answer that a result comes to, by what a success gives
abbrev pub answer_by : {A : Type 0} → (A → Answer) → Result A Refused → Answer
answer_by success (Ok x) = success x
answer_by success (Err r) = refused (number_of r.refusal) r.place
