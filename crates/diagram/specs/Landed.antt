-- Where a request arrives in a sound diagram (for the contract of the descent).
-- Assumes nothing: these are definitions.
use Rattle.std.specs.Prelude.{◌≡◌, List, ℕ, ◌+◌, ◌≤◌, ◌<◌, length}
use Rattle.answer.specs.Fields.{fields}
use Rattle.diagram.specs.Layout.{most_places, used, decision_at, count_at}
use Rattle.diagram.specs.LookUp.{ruling_at, ruled_by}
use Rattle.diagram.specs.Sound.{EntryBefore}

-- place p starts the terminal that request q reaches, which lies wholly within the slice
pub record Landed (d q : List ℕ) (p : ℕ) : Type 0 where
  pub entry : EntryBefore fields d (used d) 0 p
  pub early : p < most_places
  pub within : p + 3 + count_at d p ≤ length d
  pub one_of_four : decision_at d p ≤ 3
  pub ruling : ruling_at d p ≡ ruled_by d q
