-- What the one-pass check of soundness knows at each entry (for the contracts inside the crate).
-- Assumes nothing: these are definitions.
use Rattle.std.specs.Prelude.{◌≡◌, List, ℕ, ◌+◌, ◌≤◌, ◌<◌, length, get_or}
use Rattle.answer.specs.Fields.{fields}
use Rattle.answer.specs.Answers.{zeros}
use Rattle.diagram.specs.Layout.{header, most_places, used, maximum, level_at, size_at}
use Rattle.diagram.specs.Sound.{Start}

-- the entry at p lies wholly within the slice
pub record Whole (d : List ℕ) (p : ℕ) : Type 0 where
  pub early : p < most_places
  pub header_there : header fields ≤ length d
  pub within : p + size_at d p ≤ length d

-- the marks of the entries before p: where one starts, one more than its level; elsewhere 0
pub record EntriesMarked (d : List ℕ) (p : ℕ) (marks : List ℕ) : Type 0 where
  pub room : p ≤ length marks
  pub at_start : (q : ℕ) → Start fields d q → q < p → get_or marks q 0 ≡ level_at d q + 1
  pub else_none : (q : ℕ) → 0 < get_or marks q 0 → Start fields d q × (q < p)

-- the clauses of soundness that concern the header
pub record Opened (d : List ℕ) : Type 0 where
  pub header_there : header fields ≤ length d
  pub header_used : header fields ≤ used d
  pub used_there : used d ≤ length d
  pub used_most : used d ≤ most_places
  pub maxima : (f : ℕ) → f < fields → maximum d f ≤ 255

-- the marks before any entry: zeros, as many as the places used or more
pub record Unmarked (d marks : List ℕ) : Type 0 where
  pub none : marks ≡ zeros (length marks)
  pub room : used d ≤ length marks
