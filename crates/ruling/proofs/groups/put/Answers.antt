-- `ruling::groups::put` meets its contract: outside the list nothing changes.
use mathlib.Core.Path.{sym}
use lib.Seq.{set_out}
use Rattle.ruling.proofs.groups.put.Goals as goal

pub returns-else-k-cards : goal.returns-else-k-cards
returns-else-k-cards c = sym (set_out _ _ _ c.if-k-cards.false)
