-- `deciding::decide_root` meets its contract: a root that is out is not applicable.
use mathlib.Core.Path.{sym, ◌∙◌}
use Rattle.ruling.proofs.Decisions.{ruled_not}
use Rattle.sets.specs.Sets.{has}
use Rattle.deciding.proofs.decide_root.Goals as goal

pub returns-else-has : goal.returns-else-has
returns-else-has c = ruled_not (has c.args.applying) c.args.table.bytes.now 0 (sym c.has.ensures ∙ c.if-has.false)
