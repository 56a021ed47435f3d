-- `answer::store` meets its contract: the items passed so far stand in the list.
use native.Mathlib.Omega.{arith}
use Rattle.answer.proofs.Stored.{stored_more, stored_all}
use Rattle.answer.proofs.store.Goals as goal

pub loop-i-preserved : goal.loop-i-preserved
loop-i-preserved g c =
    stored_more c.args.items.now c.args.list.now c.loop-i.list c.args.at c.loop-i.i c.loop-i.invariant c.requires c.loop-i-test.true _ _ (omega arith) c.index-items-i.is

pub returns : goal.returns
returns g c = stored_all c.args.items.now c.args.list.now c.loop-i.list c.args.at c.loop-i.i c.loop-i.invariant c.requires (omega (arith, c.loop-i-test.false, c.loop-i.auto.i-end))
