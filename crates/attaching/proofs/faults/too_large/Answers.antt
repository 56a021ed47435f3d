-- `attaching::faults::too_large` meets its contract: by the nodes of both tables and the levels of the expansion.
use mathlib.Core.Path.{◌∙◌}
use Rattle.encoding.proofs.Places.{header_held}
use Rattle.attaching.proofs.FitFaults.{too_many, by_levels}
use borrow.Author.Tests.{lt-ltb}
use Rattle.std.proofs.Common.{arith}
use Rattle.attaching.proofs.faults.too_large.Goals as goal

pub count_at-requires : goal.count_at-requires
count_at-requires c = header_held c.args.base.bytes.now c.args.base.accepted.records

pub count_at-requires-2 : goal.count_at-requires-2
count_at-requires-2 c = header_held c.args.expansion.bytes.now c.args.expansion.accepted.records

pub returns-then-count_at-gt-NODES : goal.returns-then-count_at-gt-NODES
returns-then-count_at-gt-NODES c =
    lt-ltb _ _ c.if-count_at-gt-NODES.true
    ∙ too_many _ _ c.args.base.accepted c.args.expansion.accepted c.requires
    (omega (arith, c.count_at.ensures.0, c.count_at-2.ensures.0, c.if-count_at-gt-NODES.true))

pub returns-else-count_at-gt-NODES : goal.returns-else-count_at-gt-NODES
returns-else-count_at-gt-NODES c =
    c.has_last_level.ensures
    ∙ by_levels _ _ c.args.base.accepted c.args.expansion.accepted c.requires
    (omega (arith, c.count_at.ensures.0, c.count_at-2.ensures.0, c.if-count_at-gt-NODES.false))
