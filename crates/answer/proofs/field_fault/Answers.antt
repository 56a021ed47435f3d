-- `answer::field_fault` meets its contract: no field passed so far is over its maximum.
use Rattle.std.proofs.Common.{◌++◌, arith, refl, sym}
use Rattle.answer.proofs.FirstField.{value_after, search_starts, field_found, field_passed, no_field, one_found, none_found}
use Rattle.answer.specs.Answers.{zeros}
use Rattle.answer.specs.Requests.{value}
use Rattle.answer.proofs.field_fault.Goals as goal

pub loop-field-init : goal.loop-field-init
loop-field-init c = search_starts (value c.args.maxima.now) (zeros c.args.from ++ c.args.values.now) c.args.from

pub returns-then-maxima-field : goal.returns-then-maxima-field
returns-then-maxima-field c =
    one_found c.loop-field.field _ (omega arith)
    (field_found (value c.args.maxima.now) (zeros c.args.from ++ c.args.values.now) c.args.from c.loop-field.field _ _ (omega arith) refl
    (sym (value_after c.args.values.now c.args.from c.loop-field.field (omega arith))) c.if-maxima-field.true c.loop-field.invariant)

pub loop-field-preserved : goal.loop-field-preserved
loop-field-preserved c =
    field_passed (value c.args.maxima.now) (zeros c.args.from ++ c.args.values.now) c.args.from c.loop-field.field _ _ (omega arith) refl
    (sym (value_after c.args.values.now c.args.from c.loop-field.field (omega arith))) c.if-maxima-field.false c.loop-field.invariant

pub returns : goal.returns
returns c =
    none_found _ (omega (arith, no_field (value c.args.maxima.now) (zeros c.args.from ++ c.args.values.now) c.args.from c.loop-field.field (omega arith) c.loop-field.invariant))
