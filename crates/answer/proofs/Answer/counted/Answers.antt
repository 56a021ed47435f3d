-- `answer::Answer::counted` meets its contract: it is the blank answer with a count.
use mathlib.Core.Path.{ap}
use Rattle.answer.specs.declared.Answer.{Answer}
use Rattle.answer.proofs.Answer.counted.Goals as goal

-- `answer::Answer::counted` meets its contract: it is the blank answer with a count.
pub returns : goal.returns
returns c = ap (λ (a : Answer). record { number = a.number; decision = a.decision; place = a.place; count = c.args.count; subjects = a.subjects }) c.blank-answer.ensures
