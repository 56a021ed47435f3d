-- `table::reading::ranges_fault` meets its contract: some field has a fault.
use Rattle.answer.specs.Fields.{fields}
use Rattle.std.proofs.Common.{refl, ◌∙◌, rules, tests}
use Rattle.std.proofs.lemmas.Iterator.{YieldsList-from_range}
use Rattle.std.proofs.lemmas.Iterator.Search.{any_from_yields_List}
use Rattle.table.specs.Reading.{range_fault, ranges_fault}
use Rattle.table.proofs.FieldByField.{some_of}
use Rattle.table.proofs.reading.ranges_fault.Goals as goal

pub returns : goal.returns
unfolding ranges_fault
returns c =
    any_from_yields_List (range_fault c.args.table.now c.args.i) _ _ _ c.any.ensures.ran (YieldsList-from_range 0 fields fields refl refl) (λ x b q k. search (rules, tests))
    ∙ some_of (range_fault c.args.table.now c.args.i) fields
