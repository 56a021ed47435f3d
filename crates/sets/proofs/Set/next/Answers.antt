-- `sets::Set::next` meets its contract: the word of i first, then the word above it.
use Rattle.std.proofs.Common.{rules, arith, refl, ◌-◌}
use Rattle.sets.proofs.NextNumber.{next_either, next_high}
use Rattle.sets.proofs.Set.next.Goals as goal

pub returns-then-i-lt-WORD : goal.returns-then-i-lt-WORD
returns-then-i-lt-WORD c =
    next_either c.args.self c.args.i c.next_at.result c.or_else.result c.if-i-lt-WORD.true c.next_at.ensures (λ x e. search rules) (λ e. search rules)

pub returns-then-i-lt-MOST : goal.returns-then-i-lt-MOST
returns-then-i-lt-MOST c =
    next_high c.args.self c.args.i (λ j l m. absurd (omega (arith, c.if-i-lt-WORD.false))) (c.args.i - 64) refl (omega arith) c.next_at-then-i-lt-MOST.result
    c.map.result c.next_at-then-i-lt-MOST.ensures (search rules)
