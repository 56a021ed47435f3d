-- `diagram::layout::size_at` meets its contract: a terminal's size or a node's.
use Rattle.diagram.specs.Starts.{size_terminal, size_node}
use Rattle.std.proofs.Common.{sym, ◌∙◌, arith}
use Rattle.diagram.proofs.layout.size_at.Goals as goal

pub returns-then-number_at-eq0 : goal.returns-then-number_at-eq0
returns-then-number_at-eq0 c = omega (arith, size_terminal c.args.diagram.now c.args.place (sym c.number_at.ensures ∙ c.if-number_at-eq0.true))

pub returns-else-number_at-eq0 : goal.returns-else-number_at-eq0
returns-else-number_at-eq0 c = omega (arith, size_node c.args.diagram.now c.args.place (λ e. c.if-number_at-eq0.false (c.number_at.ensures ∙ e)))
