-- `sets::Set::with` meets its contract: one place of one word is set.
use mathlib.Core.Bool.{◌||◌, or-false}
use lib.Bits.{bit_or as word_or}
use Rattle.sets.proofs.WordPlaces.{bit_or}
use Rattle.sets.proofs.SetNumbers.{in_low, in_high}
use Rattle.sets.proofs.Set.with.Goals as goal

pub returns-then-i-lt-WORD : goal.returns-then-i-lt-WORD
returns-then-i-lt-WORD c = let s = c.args.self in
    let m = c.only.result in
    in_low (λ x y. x || y) or-false s c.args.i m (word_or s.low m) c.if-i-lt-WORD.true c.only.ensures (bit_or s.low m)

pub returns-else-i-lt-WORD : goal.returns-else-i-lt-WORD
returns-else-i-lt-WORD c = let s = c.args.self in
    let m = c.only-else-i-lt-WORD.result in
    in_high (λ x y. x || y) or-false s c.args.i m (word_or s.high m) c.if-i-lt-WORD.false c.only-else-i-lt-WORD.ensures (bit_or s.high m)
