-- `answer::Answer::ruled` meets its contract: it is a count's answer with a decision and a number of subjects.
use mathlib.Core.Path.{ap}
use Rattle.answer.specs.declared.Answer.{Answer}
use Rattle.answer.proofs.Answer.ruled.Goals as goal

-- `answer::Answer::ruled` meets its contract: it is a count's answer with a decision and a number of subjects.
pub returns : goal.returns
returns c = ap (λ (a : Answer). record { number = a.number; decision = c.args.decision; place = a.place; count = a.count; subjects = c.args.subjects }) c.counted-answer.ensures
