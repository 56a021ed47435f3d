-- `entering::writing::write_terminal` meets its contract: three numbers, and the cards.
use Rattle.std.proofs.Common.{refl, sym, ◌∙◌, arith}
use Rattle.entering.proofs.NumbersWritten.{start_is, terminal_length, terminal_written}
use Rattle.entering.proofs.writing.write_terminal.Goals as goal

pub returns : goal.returns
returns c =
    let s = c.args in
    let n = terminal_length s.decision s.cards.now _ refl in
    let w = (rw c.from.ensures at c.store.ensures) ∙ terminal_written s.room.now s.cards.now s.decision in record {
      value = refl;
      room_after = w;
      room_after_2 = start_is s.room.now _ _ _ w (sym n) (omega (arith, n));
    }
