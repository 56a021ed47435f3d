-- `targets::in_range` meets its contract: both differences are steps from the low end, going round the values of the type.
use Rattle.std.proofs.Common.{◌≡◌, ◌∙◌, arith}
use Rattle.targets.proofs.InRange.{met_in_range}
use Rattle.targets.proofs.in_range.Goals as goal

pub returns : goal.returns
returns g c =
    let t = g.T.Unsigned in
    let laws = g.met.T.Unsigned in
    let low : t.number c.from-low.result ≡ c.args.range.low = omega (arith, laws.keeps_bytes _ c.from-low.result c.from-low.ensures) in
    let high : t.number c.from-high.result ≡ c.args.range.high = omega (arith, laws.keeps_bytes _ c.from-high.result c.from-high.ensures) in
    c.le.ensures
    ∙ laws.ordered c.steps_from.result c.steps_from-2.result
    ∙ met_in_range t.values c.args.range.low (omega (arith, laws.has_bytes)) c.args.range.high (t.number c.args.value)
    (t.number c.steps_from.result) (t.number c.steps_from-2.result) c.steps_from.ensures.bound c.steps_from-2.ensures.bound
    (rw low at c.steps_from.ensures.met) (rw (low, high) at c.steps_from-2.ensures.met)
