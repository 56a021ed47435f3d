-- What ruling a node, or a run of nodes, starts from and leaves (for the contracts inside the crate). The test a says which nodes apply.
-- Assumes nothing: these are definitions.
use Rattle.std.specs.Prelude.{Bool, true, List, ◌∷◌, ◌≡◌, ℕ, ◌+◌, ◌-◌, ◌≤◌, ◌<◌, length}
use Rattle.std.proofs.lemmas.List.Edits.{sets}
use Rattle.encoding.specs.Layout.{count}
use Rattle.table.specs.Tree.{end_of}
use Rattle.targets.specs.Targets.{target_holds, applies, HoldAbove}
use Rattle.targets.specs.Subjects.{member}
use Rattle.ruling.specs.Meaning.{cards_from}

-- What the walk carries to node i: for each member of the set s that is left, every target above it holds.
abbrev pub MembersPass : List ℕ → ℕ → List ℕ → ℕ → Type 0
MembersPass t s others i = (k : ℕ) → member s k ≡ true → HoldAbove t (target_holds t (k ∷ others)) i

-- node i applies to each member of the set s
abbrev pub AppliesToEach : List ℕ → ℕ → List ℕ → ℕ → Type 0
AppliesToEach t s others i = (k : ℕ) → member s k ≡ true → applies t (k ∷ others) i ≡ true

-- Node i is one of the table's, with the nodes under it up to end; it applies, and there are no more cards so far than nodes.
pub record Node (a : ℕ → Bool) (t : List ℕ) (i end cards : ℕ) : Type 0 where
  pub some : i < count t
  pub ends : end ≡ end_of t i
  pub applies : a i ≡ true
  pub few : cards ≤ i

-- The nodes from i up to end are whole: none reaches past end.
pub record SpansInside (t : List ℕ) (i end : ℕ) : Type 0 where
  pub inside : end ≤ count t
  pub each : (j : ℕ) → i ≤ j → j < end → end_of t j ≤ end

-- The nodes from i up to end are whole, and there are no more cards so far than nodes.
pub record ChildRun (t : List ℕ) (i end cards : ℕ) : Type 0 where
  pub order : i ≤ end
  pub whole : SpansInside t i end
  pub few : cards ≤ i

-- the cards of the matching rules from node i up to end
abbrev pub cards_between : (ℕ → Bool) → List ℕ → ℕ → ℕ → List ℕ
cards_between a t i end = cards_from a t i (end - i)

-- The cards of the nodes from i up to end were counted from k to n, and stored from place k on as far as the list reaches.
pub record Gathered (a : ℕ → Bool) (t : List ℕ) (i end k n : ℕ) (before after : List ℕ) : Type 0 where
  pub number : n ≡ k + length (cards_between a t i end)
  pub list : after ≡ sets before k (cards_between a t i end)
