-- The tree of a table's nodes, by their spans.
-- Assumes nothing: these are definitions.
use Rattle.std.specs.Prelude.{true, false, cond, List, [], ◌∷◌, ℕ, zero, suc, ◌+◌, ◌-◌, eqb, ltb}
use Rattle.encoding.specs.Layout.{count}
use Rattle.table.specs.Tree.{end_of, parent}

-- Nodes on one level, in order: a first node with the nodes under it, and then the nodes after those.
pub data Forest : Type 0 where
  empty : Forest
  node : ℕ → Forest → Forest → Forest

-- "A span counts a node and all nodes under it; they follow it directly": the nodes from i up to, not including, end.
-- The first number bounds the steps: end - i is enough, since each takes at least one node.
unfoldable pub forest_within : ℕ → List ℕ → ℕ → ℕ → Forest
forest_within zero t i end = empty
forest_within (suc n) t i end =
    elim (ltb i end) [
      | true ↦ node i (forest_within n t (i + 1) (end_of t i)) (forest_within n t (end_of t i) end)
      | false ↦ empty
    ]

-- the nodes from i up to, not including, end
abbrev pub run : List ℕ → ℕ → ℕ → Forest
run t i end = forest_within (end - i) t i end

-- the nodes under node i
abbrev pub under : List ℕ → ℕ → Forest
under t i = run t (i + 1) (end_of t i)

-- "A node's parent is the latest earlier node whose span reaches over it": of the n nodes from j upward, those whose parent is node i
unfoldable pub children_from : List ℕ → ℕ → ℕ → ℕ → List ℕ
children_from t i j zero = []
children_from t i j (suc n) = cond (eqb (parent t j) i) (j ∷ children_from t i (j + 1) n) (children_from t i (j + 1) n)

-- "a child one level below its parent": the children of node i, of all nodes but the root
abbrev pub children_of : List ℕ → ℕ → List ℕ
children_of t i = children_from t i 1 (count t - 1)

-- nodes on one level, each with the nodes under it
abbrev pub trees : List ℕ → List ℕ → Forest
trees t [] = empty
trees t (i ∷ is) = node i (under t i) (trees t is)
