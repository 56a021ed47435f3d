-- `encoding::writing::put_span` meets its contract: the record lies in the table.
use mathlib.Core.List.{List}
use Prim.Native.Nat.{ℕ, ◌+◌, ◌≤◌}
use lib.ListN.{length}
use Rattle.encoding.specs.Layout.{start, NodeHeld}
use Rattle.encoding.proofs.Places.{record_least, record_there}
use Rattle.std.proofs.Common.{arith}
use Rattle.encoding.proofs.writing.put_span.Goals as goal

-- where node i's record lies
held : (table : List ℕ) (node : ℕ) → NodeHeld table node → start table node + 5 ≤ length table
held table node h = omega (arith, record_least table, record_there table node h)

pub start_of-start-requires : goal.start_of-start-requires
start_of-start-requires c = omega (arith, held c.args.table.now c.args.i c.requires)

pub overflow_add-start : goal.overflow_add-start
overflow_add-start c = omega (arith, c.start_of-start.ensures, held c.args.table.now c.args.i c.requires)

pub put_word-requires : goal.put_word-requires
put_word-requires c = omega (arith, c.start_of-start.ensures, held c.args.table.now c.args.i c.requires)
