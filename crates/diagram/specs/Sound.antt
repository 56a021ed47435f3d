-- When a slice is a sound diagram over k fields, clause by clause as document 01 words it: "A diagram is sound when".
-- Assumes nothing: these are definitions.
use Rattle.std.specs.Prelude.{◌≡◌, cond, ◌⊎◌, List, ℕ, ◌+◌, ◌-◌, ◌≤◌, ◌<◌, eqb, length, get_or}
use Rattle.answer.specs.Rulings.{Ruling}
use Rattle.diagram.specs.Layout.{header, most_places, used, root, maximum, level_at, decision_at, count_at, card_at, edges_at, last_at, child_at, size_at}

-- "entries tile exactly the places from 5": an entry starts after the header, and after each entry that starts before the used places end
pub data Start (k : ℕ) (d : List ℕ) : ℕ → Type 0 where
  first : Start k d (header k)
  next : (p n : ℕ) → Start k d p → p < used d → n ≡ p + size_at d p → Start k d n

-- "the start of an earlier entry of the next level": place c starts an entry of that level, earlier than place p
pub record EntryBefore (k : ℕ) (d : List ℕ) (p level c : ℕ) : Type 0 where
  pub starts : Start k d c
  pub earlier : c < p
  pub begins : level_at d c ≡ level

-- "the next level (a label below level 3)", which begins with 0
abbrev pub next_level : ℕ → ℕ → ℕ
next_level k level = cond (eqb level k) 0 (level + 1)

-- "a label has decision 0 to 3, at most 127 cards, none of them 0"
pub record TerminalHolds (decision count : ℕ) (card : ℕ → ℕ) : Type 0 where
  pub one_of_four : decision ≤ 3
  pub at_most : count ≤ 127
  pub none_zero : (i : ℕ) → i < count → card i ≡ 0 → ⊥

-- a ruling that such a label can hold
abbrev pub Holdable : Ruling → Type 0
Holdable r = TerminalHolds r.decision (length r.cards) (λ i. get_or r.cards i 0)

-- the entry at p is such a label
pub record SoundTerminal (d : List ℕ) (p : ℕ) : Type 0 where
  pub label : level_at d p ≡ 0
  pub holds : TerminalHolds (decision_at d p) (count_at d p) (card_at d p)

-- the entry at p is such a node
pub record SoundNode (k : ℕ) (d : List ℕ) (p : ℕ) : Type 0 where
  -- "a node has level 1 to 3"
  pub from_one : 1 ≤ level_at d p
  pub to_last : level_at d p ≤ k
  -- "at least one edge"
  pub some_edge : 1 ≤ edges_at d p
  -- "rising last values"
  pub rising : (j : ℕ) → j + 1 < edges_at d p → last_at d p j < last_at d p (j + 1)
  -- "ending at its field's maximum"
  pub ending : last_at d p (edges_at d p - 1) ≡ maximum d (level_at d p - 1)
  -- "and each child is the start of an earlier entry of the next level (a label below level 3)"
  pub children : (j : ℕ) → j < edges_at d p → EntryBefore k d p (next_level k (level_at d p)) (child_at d p j)

-- the entry at p is a label or a node
abbrev pub SoundEntry : ℕ → List ℕ → ℕ → Type 0
SoundEntry k d p = SoundTerminal d p ⊎ SoundNode k d p

-- "A diagram is sound when:"
pub record Sound (k : ℕ) (d : List ℕ) : Type 0 where
  -- "the slice has at least the five header places"
  pub header_there : header k ≤ length d
  -- "used is at most the slice length and 32,768"
  pub used_there : used d ≤ length d
  pub used_most : used d ≤ most_places
  -- "the maxima are at most 255"
  pub maxima : (f : ℕ) → f < k → maximum d f ≤ 255
  -- "entries tile exactly the places from 5 up to, not including, used"
  pub tiled : Start k d (used d)
  -- "a label has [..]; a node has [..]"
  pub entries : (p : ℕ) → Start k d p → p < used d → SoundEntry k d p
  -- "the root place is the start of a level 1 entry", one of the used places
  pub root_entry : EntryBefore k d (used d) 1 (root d)
