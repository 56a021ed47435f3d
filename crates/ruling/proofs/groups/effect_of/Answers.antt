-- `ruling::groups::effect_of` meets its contract, by the kind.
use mathlib.Core.Bool.{cond}
use mathlib.Core.Path.{sym, ap}
use borrow.Author.Tests.{ne_eqb}
use Rattle.combining.specs.Ways.{permit, deny}
use Rattle.ruling.specs.Meaning.{effect}
use Rattle.std.proofs.Common.{arith}
use Rattle.ruling.proofs.groups.effect_of.Goals as goal

pub returns-in-4 : goal.returns-in-4
returns-in-4 c = sym (ap effect c.in-4.is)

pub returns-in_default : goal.returns-in_default
returns-in_default c = sym (ap (λ b. cond b permit deny) (ne_eqb c.args.kind 4 (omega arith)))
