-- `listing::paths::next` meets its contract.
use Rattle.std.proofs.Common.{◌≡◌, ap, ◌∙◌, [], length, arith}
use Rattle.answer.specs.Fields.{fields}
use Rattle.answer.specs.Answers.{zeros}
use Rattle.diagram.specs.Layout.{root}
use Rattle.listing.proofs.NextIsLater.{later_where_some, after_request}
use Rattle.listing.proofs.NextPath.{zeros_at_end}
use Rattle.listing.specs.Paths.{after, request_of, next_from, next_of}
use Rattle.soundness.proofs.CheckedNumbers.{numbers_sound}
use Rattle.listing.proofs.paths.next.Goals as goal

pub returns : goal.returns
returns c =
    let d = c.args.diagram.numbers.now in
    let q = c.args.values in
    let n : length q ≡ fields = omega arith in
    let e : after c.next_from.result ≡ next_of d q = ap after c.next_from.ensures ∙ ap (λ p. after (request_of [] (next_from d p q))) c.from.ensures ∙ after_request (next_of d q) (λ z. zeros_at_end d q (root d) z ∙ ap zeros n) in
    record { value = e; later = later_where_some d (numbers_sound c.args.diagram) q c.next_from.result n c.requires e }
