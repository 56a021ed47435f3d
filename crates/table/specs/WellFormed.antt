-- What an accepted table is like: the facts that a caller of `read` may build on.
-- Assumes nothing: these are definitions.
use Rattle.std.specs.Prelude.{List, ◌≡◌, ℕ, ◌≤◌, ◌<◌, length}
use Rattle.answer.specs.Fields.{fields}
use Rattle.encoding.specs.Layout.{maximum, count, start, kind, span, card, low, high}
use Rattle.table.specs.Tree.{end_of, level}

pub record WellFormed (t : List ℕ) : Type 0 where
  -- the table holds its records and nothing more, 1 to 128 of them
  pub records : length t ≡ start t (count t)
  pub some : 1 ≤ count t
  pub few : count t ≤ 128
  -- kinds are 0 to 5
  pub kinds : (i : ℕ) → i < count t → kind t i ≤ 5
  -- a span reaches over its own node, a rule's over nothing else, the root's over all nodes
  pub spans : (i : ℕ) → i < count t → 1 ≤ span t i
  pub rules : (i : ℕ) → i < count t → 4 ≤ kind t i → span t i ≡ 1
  pub root : span t 0 ≡ count t
  -- no span ends past the last node, or past the end of a span that it starts in
  pub inside : (i : ℕ) → i < count t → end_of t i ≤ count t
  pub nested : (i j : ℕ) → i < count t → i < j → j < end_of t i → end_of t j ≤ end_of t i
  -- 8 levels
  pub levels : (i : ℕ) → i < count t → level t i ≤ 8
  -- both ends of a range lie within the maximum; either may be the larger
  pub low_within : (i f : ℕ) → i < count t → f < fields → low t i f ≤ maximum t f
  pub high_within : (i f : ℕ) → i < count t → f < fields → high t i f ≤ maximum t f
  -- a rule's card is at least 1, a group's is 0
  pub carded : (i : ℕ) → i < count t → 4 ≤ kind t i → 1 ≤ card t i
  pub plain : (i : ℕ) → i < count t → kind t i < 4 → card t i ≡ 0
