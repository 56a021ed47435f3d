-- `building::header::write_header` meets its contract: the maxima are stored after the first two numbers.
use Rattle.std.proofs.Common.{ap, ◌∙◌, set}
use Rattle.std.proofs.lemmas.List.Edits.{sets}
use Rattle.building.proofs.header.write_header.Goals as goal

pub returns : goal.returns
returns c = c.store.ensures ∙ ap (sets (set (set c.args.diagram.now 0 c.args.used) 1 c.args.root) 2) c.maxima_at-maxima.ensures
