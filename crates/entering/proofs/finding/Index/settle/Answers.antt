-- `entering::finding::Index::settle` meets its contract, on each way out.
use Rattle.std.proofs.Common.{arith}
use Rattle.entering.proofs.LaidOut.{found_settles, none_fits, end_settles}
use Rattle.entering.proofs.finding.Index.settle.Goals as goal

pub returns-in-Equal-clause-settling : goal.returns-in-Equal-clause-settling
returns-in-Equal-clause-settling c =
    λ es l.
    found_settles es c.args.diagram.now c.args.self.now.slots c.args.self.now.end c.args.entry.now l (c.in-Equal.ensures.finding es l) c.in-Equal.ensures.within

pub returns-then-next-gt-MOST_PLACES-clause-settling : goal.returns-then-next-gt-MOST_PLACES-clause-settling
returns-then-next-gt-MOST_PLACES-clause-settling c =
    λ es l.
    none_fits es c.args.diagram.now c.args.self.now.slots c.args.self.now.end c.args.entry.now l (c.in-Absent.ensures.finding es l) _ (omega arith)

pub returns-then-diagram-next-clause-settling : goal.returns-then-diagram-next-clause-settling
returns-then-diagram-next-clause-settling c =
    λ es l.
    none_fits es c.args.diagram.now c.args.self.now.slots c.args.self.now.end c.args.entry.now l (c.in-Absent.ensures.finding es l) _ (omega arith)

pub returns-else-diagram-next-clause-settling : goal.returns-else-diagram-next-clause-settling
returns-else-diagram-next-clause-settling c =
    λ es l.
    end_settles es c.args.diagram.now c.args.self.now.slots c.args.self.now.end c.args.entry.now l (c.in-Absent.ensures.finding es l) c.note.ensures.0
