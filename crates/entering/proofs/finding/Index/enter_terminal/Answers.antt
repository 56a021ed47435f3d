-- `entering::entering::Index::enter_terminal` meets its contract: an equal entry is pointed to, else it is written.
use Rattle.std.proofs.Common.{refl, inl, arith}
use Rattle.diagram.specs.Entries.{terminal}
use Rattle.entering.proofs.LaidOut.{Sought, sought, is_left, is_written}
use Rattle.entering.proofs.finding.Index.enter_terminal.Goals as goal
use Rattle.entering.proofs.finding.Index.enter_terminal.Goals.{In_ok-place}

-- what is known once the entry was looked for
looked_for : (c : In_ok-place) →
    let a = c.args in
    Sought a.diagram.now a.self.now.slots a.self.now.end (terminal (record { decision = a.decision; cards = a.cards.now })) c.settle.new.self.slots c.settle.new.self.end c.in_ok-place.place
looked_for c =
    sought (inl (record { decision = c.args.decision; cards = c.args.cards.now }, refl)) c.write_terminal-size.ensures.room_after_2 c.in_ok-place.ensures.bounded c.in_ok-place.ensures.place_value
    c.in_ok-place.ensures.settling

pub returns-then-place-end-clause-standing : goal.returns-then-place-end-clause-standing
returns-then-place-end-clause-standing c =
    is_left (looked_for (goal.at.returns-then-place-end-clause-standing c).In_ok-place) (omega arith)

pub returns-clause-standing : goal.returns-clause-standing
returns-clause-standing c =
    is_written (looked_for (goal.at.returns-clause-standing c).In_ok-place) (omega arith) c.write_terminal.ensures.room_after
