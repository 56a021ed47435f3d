-- `building::walking::enter_ruling` meets its contract: the cards stored are those of the groups.
use mathlib.Core.Path.{refl, sym}
use lib.Seq.{length-take-le}
use Rattle.answer.specs.Answers.{zeros}
use Rattle.sets.specs.Sets.{has}
use Rattle.building.proofs.Written.{few_counted, stored_long, ruling_entered}
use Rattle.std.proofs.Common.{arith}
use Rattle.building.proofs.walking.enter_ruling.Goals as goal

pub slice_bounds-cards-end : goal.slice_bounds-cards-end
slice_bounds-cards-end c = stored_long c.args.table.bytes.now (has c.args.applying) (zeros 127) c.rule_set-ruled.new.list c.rule_set-ruled.result.decision c.rule_set-ruled.result.count c.args.table.accepted refl c.rule_set-ruled.ensures.decision_value.0 c.rule_set-ruled.ensures.decision_value.1 c.rule_set-ruled.ensures.list_after

pub slice_bounds-enter_terminal-end : goal.slice_bounds-enter_terminal-end
slice_bounds-enter_terminal-end c = sym (length-take-le c.rule_set-ruled.result.count c.rule_set-ruled.new.list (stored_long c.args.table.bytes.now (has c.args.applying) (zeros 127) c.rule_set-ruled.new.list c.rule_set-ruled.result.decision c.rule_set-ruled.result.count c.args.table.accepted refl c.rule_set-ruled.ensures.decision_value.0 c.rule_set-ruled.ensures.decision_value.1 c.rule_set-ruled.ensures.list_after))

pub enter_terminal-requires : goal.enter_terminal-requires
enter_terminal-requires c = let long = stored_long c.args.table.bytes.now (has c.args.applying) (zeros 127) c.rule_set-ruled.new.list c.rule_set-ruled.result.decision c.rule_set-ruled.result.count c.args.table.accepted refl c.rule_set-ruled.ensures.decision_value.0 c.rule_set-ruled.ensures.decision_value.1 c.rule_set-ruled.ensures.list_after in
    let few = few_counted c.args.table.bytes.now (has c.args.applying) (zeros 127) c.rule_set-ruled.new.list c.rule_set-ruled.result.decision c.rule_set-ruled.result.count c.args.table.accepted refl c.rule_set-ruled.ensures.decision_value.0 c.rule_set-ruled.ensures.decision_value.1 c.rule_set-ruled.ensures.list_after in
    (c.requires.room, omega (arith, few, length-take-le c.rule_set-ruled.result.count c.rule_set-ruled.new.list long))

pub returns : goal.returns
returns c = record {
  bounded = c.enter_terminal.ensures.bounded;
  standing = ruling_entered c.args.table.bytes.now (has c.args.applying) (zeros 127) c.rule_set-ruled.new.list c.rule_set-ruled.result.decision c.rule_set-ruled.result.count c.args.table.accepted refl c.rule_set-ruled.ensures.decision_value.0 c.rule_set-ruled.ensures.decision_value.1 c.rule_set-ruled.ensures.list_after
      c.args.diagram.now c.args.index.now.slots c.enter_terminal.new.diagram c.enter_terminal.new.self.slots c.args.index.now.end c.enter_terminal.new.self.end c.enter_terminal.result c.enter_terminal.ensures.standing;
}
