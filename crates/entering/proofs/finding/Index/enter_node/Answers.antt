-- `entering::entering::Index::enter_node` meets its contract: an equal entry is pointed to, else it is written.
use Rattle.std.proofs.Common.{refl, inr, arith}
use Rattle.diagram.specs.Entries.{node}
use Rattle.entering.specs.Edges.{edges_of}
use Rattle.entering.proofs.LaidOut.{Sought, sought, is_left, is_written}
use Rattle.entering.proofs.finding.Index.enter_node.Goals as goal
use Rattle.entering.proofs.finding.Index.enter_node.Goals.{In_ok-place}

-- what is known once the entry was looked for
looked_for : (c : In_ok-place) →
    let a = c.args in
    Sought a.diagram.now a.self.now.slots a.self.now.end (node a.level (edges_of a.edges.now)) c.settle.new.self.slots c.settle.new.self.end c.in_ok-place.place
looked_for c =
    sought (inr (c.args.level, edges_of c.args.edges.now, c.requires.1.0, refl)) c.write_node-size.ensures.room_after_2 c.in_ok-place.ensures.bounded c.in_ok-place.ensures.place_value
    c.in_ok-place.ensures.settling

pub returns-then-place-end-clause-standing : goal.returns-then-place-end-clause-standing
returns-then-place-end-clause-standing c =
    is_left (looked_for (goal.at.returns-then-place-end-clause-standing c).In_ok-place) (omega arith)

pub returns-clause-standing : goal.returns-clause-standing
returns-clause-standing c =
    is_written (looked_for (goal.at.returns-clause-standing c).In_ok-place) (omega arith) c.write_node.ensures.room_after
