-- `sets::Set::without` meets its contract: one place of one word is cleared.
use mathlib.Core.Bool.{not, ◌&&◌, and-true}
use lib.Bits.{bit_and as word_and}
use Prim.Native.Nat.{◌-◌}
use Rattle.sets.proofs.WordPlaces.{bit_cleared}
use Rattle.sets.proofs.SetNumbers.{in_low, in_high}
use Rattle.std.proofs.Common.{arith}
use Rattle.sets.proofs.Set.without.Goals as goal

pub returns-then-i-lt-WORD : goal.returns-then-i-lt-WORD
returns-then-i-lt-WORD c = let s = c.args.self in
    let m = c.only.result in
    in_low (λ x y. x && not y) and-true s c.args.i m (word_and s.low (18446744073709551615 - m)) c.if-i-lt-WORD.true c.only.ensures (λ j. bit_cleared s.low m j (omega arith) (omega arith))

pub returns-else-i-lt-WORD : goal.returns-else-i-lt-WORD
returns-else-i-lt-WORD c = let s = c.args.self in
    let m = c.only-else-i-lt-WORD.result in
    in_high (λ x y. x && not y) and-true s c.args.i m (word_and s.high (18446744073709551615 - m)) c.if-i-lt-WORD.false c.only-else-i-lt-WORD.ensures (λ j. bit_cleared s.high m j (omega arith) (omega arith))
