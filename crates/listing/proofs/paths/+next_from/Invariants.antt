-- `paths::next_from` calls itself: the fields left fall.
use Rattle.std.proofs.Common.{◌-◌}
use Rattle.answer.specs.Fields.{fields}
use Rattle.listing.proofs.paths.+next_from.Given as goal

abbrev pub decreases-next_from : goal.decreases-next_from
decreases-next_from l = fields - l.field
