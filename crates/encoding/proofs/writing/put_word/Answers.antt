-- `encoding::writing::put_word` meets its contract: the two bytes are those of the number.
use Rattle.std.proofs.Common.{◌≡◌, ◌+◌, ◌/◌, ◌%◌, get_or, ap, ap₂, ◌∙◌, arith}
use lib.ListN.{set}
use Rattle.encoding.specs.Writing.{with_word}
use Rattle.encoding.proofs.writing.put_word.Goals as goal

pub returns : goal.returns
unfolding with_word
returns c =
    let n = c.args.number in
    let high : n / 256 % 256 ≡ n / 256 = omega arith in
    ap₂ (λ a b. set (set c.args.table.now c.args.p a) (c.args.p + 1) b)
    (ap (λ bytes. get_or bytes 0 0) c.to_be_bytes.ensures ∙ high)
    (ap (λ bytes. get_or bytes 1 0) c.to_be_bytes.ensures)
