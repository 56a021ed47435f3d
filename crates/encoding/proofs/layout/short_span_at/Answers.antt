-- `encoding::layout::short_span_at` meets its contract: the high byte of a short span is 0.
use mathlib.Core.Path.{◌≡◌, ap}
use Prim.Native.Nat.{◌+◌}
use Rattle.encoding.specs.Layout.{byte, word, start, record_byte, record_word}
use Rattle.std.proofs.Common.{arith}
use Rattle.encoding.proofs.layout.short_span_at.Goals as goal

pub returns : goal.returns
unfolding record_byte record_word word
returns c = let s = c in
    let t = s.args.table.now in
    let p = start t s.args.i in
    let e : c.record_byte.result ≡ byte t (p + 2) = c.record_byte.ensures in
    let z : p + 1 + 1 ≡ p + 2 = omega arith in
    let w : byte t (p + 1 + 1) ≡ byte t (p + 2) = ap (byte t) z in
    (omega (arith, e, w, s.requires.1), omega (arith, e, w, s.requires.1))
