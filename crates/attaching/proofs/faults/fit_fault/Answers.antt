-- `attaching::faults::fit_fault` meets its contract: one refusal after another.
use Rattle.std.proofs.Common.{sym, ◌∙◌}
use Rattle.answer.specs.Refusals.{settled}
use Rattle.encoding.proofs.Places.{node_held}
use Rattle.attaching.proofs.FitFaults.{versions_same}
use Rattle.attaching.proofs.faults.fit_fault.Goals as goal

pub rule_at-requires : goal.rule_at-requires
rule_at-requires c = node_held c.args.base.bytes.now c.args.base.accepted.records 0 c.args.base.accepted.some

pub too_large-requires : goal.too_large-requires
too_large-requires c = versions_same c.args.base.bytes.now c.args.expansion.bytes.now (sym c.headers_differ.ensures ∙ c.if-headers_differ.false)

pub returns-then-rule_at : goal.returns-then-rule_at
unfolding settled
returns-then-rule_at c = simp (sym c.rule_at.ensures ∙ c.if-rule_at.true)

pub returns-then-headers_differ : goal.returns-then-headers_differ
unfolding settled
returns-then-headers_differ c = simp (sym c.rule_at.ensures ∙ c.if-rule_at.false, sym c.headers_differ.ensures ∙ c.if-headers_differ.true)

pub returns-then-too_large : goal.returns-then-too_large
unfolding settled
returns-then-too_large c = simp
    (sym c.rule_at.ensures ∙ c.if-rule_at.false, sym c.headers_differ.ensures ∙ c.if-headers_differ.false, sym c.too_large.ensures ∙ c.if-too_large.true)

pub returns-else-too_large : goal.returns-else-too_large
unfolding settled
returns-else-too_large c = simp
    (sym c.rule_at.ensures ∙ c.if-rule_at.false, sym c.headers_differ.ensures ∙ c.if-headers_differ.false, sym c.too_large.ensures ∙ c.if-too_large.false)
