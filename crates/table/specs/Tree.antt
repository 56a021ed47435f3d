-- The tree of a table's nodes, as document 01 words it under "The table".
-- Assumes nothing: these are definitions.
use Rattle.std.specs.Prelude.{Bool, cond, List, ℕ, zero, suc, ◌+◌, ◌<◌, eqb, leb, ltb}
use Rattle.answer.specs.Below.{some_below}
use Rattle.combining.specs.Kinds.{permit_rule_kind}
use Rattle.encoding.specs.Layout.{count, kind, span}

-- "Kinds 4 and 5 are rules". A kind over 5 is refused before this is asked.
abbrev pub is_rule : List ℕ → ℕ → Bool
is_rule t i = leb permit_rule_kind (kind t i)

-- "A span counts a node and all nodes under it; they follow it directly": the first node after them
abbrev pub end_of : List ℕ → ℕ → ℕ
end_of t i = i + span t i

-- the latest node below n whose span reaches over node i; 0 where there is none
abbrev pub latest : List ℕ → ℕ → ℕ → ℕ
latest t i zero = 0
latest t i (suc n) = cond (ltb i (end_of t n)) n (latest t i n)

-- "A node's parent is the latest earlier node whose span reaches over it"
unfoldable pub parent : List ℕ → ℕ → ℕ
parent t i = latest t i i

-- "The root is on level 1, a child one level below its parent". The first number bounds the steps up: i is enough, since a parent stands earlier.
abbrev pub level_within : ℕ → List ℕ → ℕ → ℕ
level_within zero t i = 1
level_within (suc n) t i = cond (eqb i 0) 1 (suc (level_within n t (parent t i)))

-- the level of node i
unfoldable pub level : List ℕ → ℕ → ℕ
level t i = level_within i t i

-- some node is on level l or deeper
unfoldable pub has_level : List ℕ → ℕ → Bool
has_level t l = some_below (count t) (λ i. leb l (level t i))

-- Node j is node i, or is reached from it by following parents.
pub data Above (t : List ℕ) : ℕ → ℕ → Type 0 where
  itself : {i : ℕ} → Above t i i
  further : {i j : ℕ} → 0 < i → Above t (parent t i) j → Above t i j
