-- `lookup::child_of` meets its contract: it reads the child of the edge found.
use Rattle.std.proofs.Common.{◌+◌, ◌*◌, arith}
use Rattle.diagram.specs.LookUp.{edge}
use Rattle.lookup.proofs.Halving.{read_at}
use Rattle.lookup.proofs.child_of.Goals as goal

pub returns : goal.returns
returns c =
    let d = c.args.diagram.now in
    let p = c.args.place in
    (read_at d _ c.from.result c.from.ensures (p + 3 + 2 * edge d p c.args.value) (omega (arith, c.edge_of-edge.ensures.0)), omega (arith, c.type_inv.diagram (p + 3 + 2 * c.edge_of-edge.result)))
