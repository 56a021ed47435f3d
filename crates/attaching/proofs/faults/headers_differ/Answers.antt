-- `attaching::faults::headers_differ` meets its contract: by the versions, or by the maxima.
use borrow.Author.Tests.{ne_eqb}
use Rattle.answer.specs.Fields.{fields}
use Rattle.encoding.proofs.Places.{version_there, header_held}
use Rattle.std.proofs.Common.{not, refl, sym, ap, ◌∙◌, arith, rules, tests}
use Rattle.std.proofs.lemmas.Iterator.{YieldsList-from_range}
use Rattle.std.proofs.lemmas.Iterator.Search.{any_from_yields_List}
use Rattle.table.proofs.FieldByField.{some_of}
use Rattle.attaching.proofs.FitFaults.{differs, version_differs, by_maxima}
use Rattle.attaching.proofs.faults.headers_differ.Goals as goal

pub bounds-base-2 : goal.bounds-base-2
bounds-base-2 c = omega (arith, version_there c.args.base.bytes.now (header_held c.args.base.bytes.now c.args.base.accepted.records))

pub bounds-expansion-2 : goal.bounds-expansion-2
bounds-expansion-2 c = omega (arith, version_there c.args.expansion.bytes.now (header_held c.args.expansion.bytes.now c.args.expansion.accepted.records))

pub returns-then-base-expansion : goal.returns-then-base-expansion
returns-then-base-expansion c =
    ap not (ne_eqb _ _ c.if-base-expansion.true) ∙ version_differs c.args.base.bytes.now c.args.expansion.bytes.now c.if-base-expansion.true

pub returns-else-base-expansion : goal.returns-else-base-expansion
returns-else-base-expansion c =
    any_from_yields_List (differs c.args.base.bytes.now c.args.expansion.bytes.now) _ _ _ c.any.ensures.ran (YieldsList-from_range 0 fields fields refl refl)
    (λ x b q k. search (rules, tests))
    ∙ some_of (differs c.args.base.bytes.now c.args.expansion.bytes.now) fields
    ∙ sym (by_maxima c.args.base.bytes.now c.args.expansion.bytes.now c.if-base-expansion.false)
