-- `sets::Set::has` meets its contract: the word of i is read at its place.
use mathlib.Core.Path.{◌≡◌, sym, ap₂, ◌∙◌}
use Prim.Native.Nat.{◌%◌, ◌-◌}
use Rattle.std.proofs.Common.{arith}
use Rattle.sets.specs.Sets.{bit}
use Rattle.sets.proofs.SetNumbers.{has_low, has_high}
use Rattle.sets.proofs.Set.has.Goals as goal
use Rattle.sets.proofs.Set.has.Goals.{then-i-lt-WORD, else-i-lt-WORD}

pub returns : goal.returns
returns c =
    let s = c.args.self in
    let i = c.args.i in
    elim c.if-i-lt-WORD.branch [
      | then-i-lt-WORD w ↦ let z : i % 64 ≡ i = omega (arith, w.if-i-lt-WORD.true) in c.bit_at.ensures ∙ ap₂ bit w.word-is z ∙ sym (has_low s i w.if-i-lt-WORD.true)
      | else-i-lt-WORD w ↦ let z : i % 64 ≡ i - 64 = omega (arith, w.if-i-lt-WORD.false, c.requires) in c.bit_at.ensures ∙ ap₂ bit w.word-is z ∙ sym (has_high s i w.if-i-lt-WORD.false)
    ]
