-- `answer::field_fault` meets its contract: no field passed so far is over its maximum.
use mathlib.Core.List.{◌++◌}
use Rattle.answer.proofs.FirstField.{Searched}
use Rattle.answer.specs.Answers.{zeros}
use Rattle.answer.specs.Requests.{value}
use Rattle.answer.proofs.field_fault.Given as goal

abbrev pub invariant-loop-field : goal.invariant-loop-field
invariant-loop-field l = Searched (value l.maxima) (zeros l.from ++ l.values) l.from l.field
