-- `listing::text::Text::put_all` meets its contract: the bytes before the next are written.
use Rattle.std.proofs.Common.{[], ◌∷◌, get_or}
use Rattle.listing.proofs.Writing.{partly_first, partly_more}
use Rattle.listing.proofs.Parts.{next_left}
use Rattle.listing.proofs.text.Text.put_all.Goals as goal

pub put-requires : goal.put-requires
put-requires c =
    let b = c.args.bytes.now in
    let i = c.loop-byte.byte-index in
    partly_first c.loop-byte.invariant (get_or b i 0 ∷ []) _ (next_left b i c.loop-byte-test.true) c.requires

pub loop-byte-preserved : goal.loop-byte-preserved
loop-byte-preserved c = partly_more c.loop-byte.invariant (next_left c.args.bytes.now c.loop-byte.byte-index c.loop-byte-test.true) c.put.ensures
