-- What a case about the ruling of a given table computes with.
use Rattle.targets.proofs.Computing.{targets_compute}
use Rattle.ruling.specs.Forest.{forest_within, children_from}
use Rattle.ruling.specs.Meaning.{gives, cards_from}

-- To unfold this is to unfold which nodes apply, and what they give.
unfoldable pub ruling_computes : Unit {0}
unfolding targets_compute forest_within children_from gives cards_from
ruling_computes = tt
