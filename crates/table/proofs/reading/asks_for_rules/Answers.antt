-- `table::reading::asks_for_rules` meets its contract.
use borrow.Author.Tests.{eq-eqb, ne_eqb}
use Rattle.combining.specs.Kinds.{only_one_applicable_kind}
use Rattle.encoding.specs.Layout.{kind}
use Rattle.table.specs.Conformance.{asks_for_rules}
use Rattle.encoding.proofs.Places.{number_small}
use Rattle.std.proofs.Common.{◌+◌, arith}
use Rattle.table.proofs.reading.asks_for_rules.Goals as goal

pub overflow_add-i : goal.overflow_add-i
overflow_add-i c = omega (arith, number_small c.args.table.now (c.args.i + 1) c.requires.1)

pub returns-then-kind_at-ne-ONLY_ONE_APPLICABLE : goal.returns-then-kind_at-ne-ONLY_ONE_APPLICABLE
unfolding asks_for_rules
returns-then-kind_at-ne-ONLY_ONE_APPLICABLE c = simp
    (c.rule_at.ensures, ne_eqb (kind c.args.table.now c.args.i) only_one_applicable_kind (λ z. c.if-kind_at-ne-ONLY_ONE_APPLICABLE.true (omega (arith, c.kind_at.ensures, z))))

pub returns-else-kind_at-ne-ONLY_ONE_APPLICABLE : goal.returns-else-kind_at-ne-ONLY_ONE_APPLICABLE
unfolding asks_for_rules
returns-else-kind_at-ne-ONLY_ONE_APPLICABLE c = simp
    (c.kind_at.ensures, eq-eqb (kind c.args.table.now c.args.i) only_one_applicable_kind (omega (arith, c.kind_at.ensures, c.if-kind_at-ne-ONLY_ONE_APPLICABLE.false)))
