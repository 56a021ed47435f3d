-- What a case about a given table computes with.
use Rattle.answer.specs.Below.{some_below}
use Rattle.answer.specs.Refusals.{upward, settled}
use Rattle.encoding.proofs.Computing.{encoding_computes}
use Rattle.table.specs.Tree.{parent, level, has_level}
use Rattle.table.specs.Reading.{length_fault, version_fault, count_fault, kind_fault, span_fault, level_fault, range_fault, ranges_fault, card_fault, table_refusals}

-- To unfold this is to unfold where a table's numbers stand, its tree and its refusals.
unfoldable pub table_computes : Unit {0}
unfolding some_below upward settled encoding_computes parent level has_level length_fault version_fault count_fault kind_fault span_fault level_fault range_fault ranges_fault card_fault table_refusals
table_computes = tt
