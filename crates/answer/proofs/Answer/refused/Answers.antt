-- `answer::Answer::refused` meets its contract: it is the blank answer with a number and a place.
use mathlib.Core.Path.{ap}
use Rattle.answer.specs.declared.Answer.{Answer}
use Rattle.answer.proofs.Answer.refused.Goals as goal

-- `answer::Answer::refused` meets its contract: it is the blank answer with a number and a place.
pub returns : goal.returns
returns c = ap (λ (a : Answer). record { number = c.args.number; decision = a.decision; place = c.args.place; count = a.count; subjects = a.subjects }) c.blank-answer.ensures
