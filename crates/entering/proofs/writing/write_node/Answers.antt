-- `entering::writing::write_node` meets its contract: the edges so far are written.
use Rattle.std.proofs.Common.{refl, sym, arith}
use Rattle.entering.proofs.NumbersWritten.{start_is, edge_written, node_written, node_length}
use Rattle.entering.proofs.writing.write_node.Goals as goal

pub loop-j-preserved : goal.loop-j-preserved
loop-j-preserved c = let s = c.args.edges.now in
    edge_written _ s.last s.child c.loop-j.j c.loop-j.room c.loop-j.invariant

pub returns : goal.returns
returns c = let s = c.args.edges.now in
    let n = node_length s.last s.child c.args.level s.count _ refl in
    let w = node_written c.args.room.now s.last s.child c.args.level s.count c.loop-j.j c.loop-j.room c.loop-j.invariant (omega arith) (omega arith) in record {
      value = refl;
      room_after = w;
      room_after_2 = start_is c.args.room.now _ _ _ w (sym n) (omega (arith, n));
    }
