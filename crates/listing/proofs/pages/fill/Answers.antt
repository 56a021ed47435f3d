-- `listing::pages::fill` meets its contract: the lines up to the next request are written, and fewer requests are left.
use Rattle.std.proofs.Common.{◌≡◌, refl, ◌+◌, ◌≤◌, ◌<◌, true, length, arith}
use Rattle.std.proofs.lemmas.Bool.{false≢true}
use Rattle.answer.specs.Fields.{fields}
use Rattle.listing.proofs.Filling.{filling_none, filled, filled_puts, filled_onward, filling_more}
use Rattle.listing.proofs.Writing.{puts_long}
use Rattle.listing.proofs.RequestsLeft.{fewer_left}
use Rattle.listing.specs.Text.{most_line}
use Rattle.listing.specs.Paths.{After, next_of, Later}
use Rattle.listing.specs.Listing.{Paged, Onward}
use Rattle.soundness.proofs.CheckedNumbers.{numbers_sound}
use Rattle.listing.proofs.pages.fill.Goals as goal
use Rattle.listing.proofs.pages.fill.Goals.{After-next}

-- a line is written and the next request found
module _ (c : After-next) where
  long : length c.line.new.text.bytes.now ≡ length c.args.text.now.bytes.now
  long = puts_long (filled_puts c.loop-following.invariant c.line.ensures.puts)

  ends : c.line.new.text.end ≤ length c.args.text.now.bytes.now
  ends = omega (arith, long, c.line.ensures.upper_bound, c.loop-following.invariant.room, puts_long c.line.ensures.puts)

  -- the page may end here, with what is next
  module _ (n : After) (v : n ≡ next_of c.args.diagram.numbers.now c.loop-following.request) where
    paged : (n.more ≡ true → length c.line.new.text.bytes.now < c.line.new.text.end + most_line) →
        Paged c.args.diagram.numbers.now c.args.values c.args.text.now.bytes.now c.line.new.text.bytes.now c.args.text.now.end c.line.new.text.end n
    paged stops = filled c.loop-following.invariant c.line.ensures.puts v stops

    onward : (n.more ≡ true → Later c.args.diagram.numbers.now c.loop-following.request n.values) →
        Onward c.args.diagram.numbers.now c.args.values n × (c.line.new.text.end ≤ length c.args.text.now.bytes.now)
    onward l = (filled_onward c.loop-following.invariant c.line.ensures.puts v l, ends)

pub loop-following-init : goal.loop-following-init
loop-following-init c =
    let n : length c.args.values ≡ fields = omega arith in
    filling_none (n, c.requires.within) c.requires.line_fits

pub returns-in_default : goal.returns-in_default
returns-in_default c =
    let n = (goal.at.returns-in_default c).After-next in
    let v = c.in_default.ensures.value in
    record {
      paged = paged n _ v (λ m. absurd (false≢true m));
      onward = onward n _ v (λ m. absurd (false≢true m));
      same_reference = (filled_puts c.loop-following.invariant c.line.ensures.puts).same_reference;
    }

pub overflow_sub-text : goal.overflow_sub-text
overflow_sub-text c = let n = (goal.at.overflow_sub-text c).After-next in omega (arith, long n, ends n)

pub returns-then-text-lt-LINE : goal.returns-then-text-lt-LINE
returns-then-text-lt-LINE c =
    let n = (goal.at.returns-then-text-lt-LINE c).After-next in
    let v = c.in-Some.ensures.value in
    record {
      paged = paged n _ v (λ m. omega (arith, c.if-text-lt-LINE.true));
      onward = onward n _ v (λ m. c.in-Some.ensures.later);
      same_reference = (filled_puts c.loop-following.invariant c.line.ensures.puts).same_reference;
    }

pub loop-following-smaller : goal.loop-following-smaller
loop-following-smaller c = fewer_left (numbers_sound c.args.diagram) c.loop-following.invariant.request c.in-Some.ensures.later

pub loop-following-preserved : goal.loop-following-preserved
loop-following-preserved c =
    filling_more c.loop-following.invariant c.line.ensures.puts c.in-Some.ensures.value (λ m. c.in-Some.ensures.later) refl
    (omega (arith, c.line.ensures.upper_bound, c.if-text-lt-LINE.false))
