-- `soundness::terminal_sound` meets its contract: no card is 0.
use Rattle.std.proofs.Common.{arith}
use Rattle.soundness.proofs.NumberByNumber.{cards_decide}
use Rattle.soundness.proofs.terminal_sound.Goals as goal

pub returns : goal.returns
returns c =
    cards_decide c.args.diagram.now c.args.place _ (omega arith) c.requires.place_lt_most_places.1 c.requires.place_value (omega arith) (omega arith) c.contains.result c.contains.ensures.cases
