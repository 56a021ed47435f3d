-- `listing::lines::put_path` meets its contract: the ranges of the fields so far are written, and lead to the place.
use lib.ListN.{drop}
use Rattle.diagram.proofs.Descent.{Down}
use Rattle.listing.proofs.Writing.{Partly}
use Rattle.listing.specs.Paths.{path_from, path_of}
use Rattle.listing.specs.Text.{ranges}
use Rattle.listing.proofs.lines.put_path.Given as goal

abbrev pub invariant-loop-value : goal.invariant-loop-value
invariant-loop-value l = Down l.diagram.numbers.now l.value-items l.place l.value-index × Partly l.initial.text (ranges (path_of l.diagram.numbers.now l.value-items)) l.text (ranges (path_from l.diagram.numbers.now l.place (drop l.value-index l.value-items)))
