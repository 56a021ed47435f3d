-- What the pass over a table's nodes, from the last to the first, has found from node i on (for the contracts inside the crate).
-- Assumes nothing: these are definitions.
use Rattle.std.specs.Prelude.{Bool, true, false, not, cond, ◌⊎◌, List, map, Option, IfSome, ◌≡◌, ℕ, ◌+◌, ◌≤◌, ◌<◌, length, get_or}
use Rattle.std.specs.Option.{unwrap_or}
use Rattle.encoding.specs.Layout.{count}
use Rattle.table.specs.Tree.{is_rule, end_of}
use Rattle.standard.specs.Profile.{mixed_group, rule_in_only_one}
use Rattle.standard.specs.declared.profile.Row.{Row}
use Rattle.standard.specs.declared.profile.Found.{Found}

-- one more where the test passes
abbrev pub tally : Bool → ℕ → ℕ
tally b x = cond b (x + 1) x

-- For each node from i on, how many nodes that pass the test p stand on its row from it on: the next one on the row stands where it ends.
pub record Tallied (t : List ℕ) (p : ℕ → Bool) (i : ℕ) (on : List ℕ) : Type 0 where
  pub room : count t < length on
  pub each : (j : ℕ) → i ≤ j → j < count t → get_or on j 0 ≡ tally (p j) (get_or on (end_of t j) 0)
  pub few : (j : ℕ) → i ≤ j → j ≤ count t → get_or on j 0 + j ≤ count t

-- Of the n nodes, m is the lowest from i on that is at fault; n where there is none.
pub record Lowest (n : ℕ) (fault : ℕ → Bool) (i m : ℕ) : Type 0 where
  pub lower : (j : ℕ) → i ≤ j → j < m → fault j ≡ false
  pub found : (m ≡ n) ⊎ ((m < n) × (fault m ≡ true))

-- the same of a node, or none
abbrev pub LowestNode : ℕ → (ℕ → Bool) → ℕ → Option ℕ → Type 0
LowestNode n fault i m = Lowest n fault i (unwrap_or m n) × IfSome m (λ j. j < n)

-- the numbers of rules, and of groups, of rows
abbrev pub rules_on : List Row → List ℕ
rules_on rows = map (λ row. row.rules) rows

abbrev pub groups_on : List Row → List ℕ
groups_on rows = map (λ row. row.groups) rows

-- What is found from node i on: the numbers of rules and of groups on each row, those of node i's, and the lowest nodes of 14 and 15.
pub record FoundFrom (t : List ℕ) (i : ℕ) (rules groups : List ℕ) (f : Found) : Type 0 where
  pub rule_rows : Tallied t (is_rule t) i rules
  pub group_rows : Tallied t (λ j. not (is_rule t j)) i groups
  pub rules_here : f.row.rules ≡ get_or rules i 0
  pub groups_here : f.row.groups ≡ get_or groups i 0
  pub mixed : LowestNode (count t) (mixed_group t) i f.mixed
  pub in_only_one : LowestNode (count t) (rule_in_only_one t) i f.in_only_one
