-- The answer of a refusal, and laws of the numbers of refusals.
use Prim.Native.Nat.{◌<◌}
use lib.Dec.{lit<}
use Rattle.answer.specs.Answers.{refused}
use Rattle.answer.specs.Numbers.{number_of}
use Rattle.answer.specs.declared.Answer.{Answer}
use Rattle.answer.specs.declared.refusal.Refused.{Refused}
use Rattle.answer.specs.declared.refusal.Refusal.{Refusal}
use Rattle.answer.specs.declared.refusal.Refusal.TheVariants.{Length, Version, NodeCount, Kind, Span, Level, Range, Card, Value, ListTooShort, Room, Diagram, Subjects, MixedGroup, RuleInOnlyOne, RuleAsRoot, BaseIsRule, HeadersDiffer, TooLarge}

-- the answer of a refusal
abbrev pub answered : Refused → Answer
answered r = refused (number_of r.refusal) r.place

-- none is 0, which is the number of a success
pub number_positive : (refusal : Refusal) → 0 < number_of refusal
number_positive Length = lit< tt
number_positive Version = lit< tt
number_positive NodeCount = lit< tt
number_positive Kind = lit< tt
number_positive Span = lit< tt
number_positive Level = lit< tt
number_positive Range = lit< tt
number_positive Card = lit< tt
number_positive Value = lit< tt
number_positive ListTooShort = lit< tt
number_positive Room = lit< tt
number_positive Diagram = lit< tt
number_positive Subjects = lit< tt
number_positive MixedGroup = lit< tt
number_positive RuleInOnlyOne = lit< tt
number_positive RuleAsRoot = lit< tt
number_positive BaseIsRule = lit< tt
number_positive HeadersDiffer = lit< tt
number_positive TooLarge = lit< tt
