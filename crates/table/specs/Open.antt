-- What the reading keeps of the nodes above the one it reads, so that it need not look for a parent from the start.
-- Assumes nothing: these are definitions.
use Rattle.std.specs.Prelude.{cond, List, ◌≡◌, ℕ, zero, suc, ◌<◌, ltb, get_or}
use Rattle.encoding.specs.Layout.{count}
use Rattle.table.specs.Tree.{end_of, parent}

-- the deepest level, of those up to the one given, whose end is past node i; 0, the table's own, where there is none
abbrev pub deepest : List ℕ → ℕ → ℕ → ℕ
deepest ends i zero = 0
deepest ends i (suc level) = cond (ltb i (get_or ends (suc level) 0)) (suc level) (deepest ends i level)

-- where the nodes that node i stands among end: all nodes for the root, those under its parent for any other
pub record EndAbove (t : List ℕ) (i above : ℕ) : Type 0 where
  pub root : i ≡ 0 → above ≡ count t
  pub child : 0 < i → above ≡ end_of t (parent t i)
