-- `table::reading::card_fault` meets its contract: each branch gives refusal 8's test for its kind of node.
use mathlib.Core.Path.{sym, ◌∙◌}
use Rattle.table.specs.Reading.{card_fault}
use Rattle.table.proofs.reading.card_fault.Goals as goal

pub returns-then-rule : goal.returns-then-rule
unfolding card_fault
returns-then-rule c = simp (sym c.requires.rule_value ∙ c.if-rule.true, c.card_at-card.ensures.0)

pub returns-else-rule : goal.returns-else-rule
unfolding card_fault
returns-else-rule c = simp (sym c.requires.rule_value ∙ c.if-rule.false, c.card_at-card.ensures.0)
