-- The tables that the cases are about, written by a builder in which header and record stand once, as document 01 lays them out under "The table".
use Rattle.std.specs.Prelude.{List, [], ◌∷◌, ◌++◌, map, ℕ, zero, suc, ◌+◌, ◌-◌, ◌/◌, ◌%◌, length}
use Rattle.combining.specs.Kinds.{first_applicable_kind, only_one_applicable_kind, permit_overrides_kind, deny_overrides_kind, permit_rule_kind, deny_rule_kind}

-- "numbers of two bytes are big-endian": the number n, before more bytes
abbrev two : ℕ → List ℕ → List ℕ
two n more = n / 256 ∷ n % 256 ∷ more

-- "low and high [..], both ends included"
abbrev pub Range : Type 0
Range = ℕ × ℕ

-- "low and high of who, of where, of deed (1 byte each [..])"
unfoldable pub ends : List Range → List ℕ
ends [] = []
ends (r ∷ rs) = r.0 ∷ r.1 ∷ ends rs

-- A node with all nodes under it: how many they are, and the bytes of their records.
pub record Tree : Type 0 where
  pub nodes : ℕ
  pub bytes : List ℕ

-- how many nodes the trees have
unfoldable pub nodes_of : List Tree → ℕ
nodes_of [] = 0
nodes_of (x ∷ xs) = x.nodes + nodes_of xs

-- "they follow it directly": the bytes of the trees, one after another
unfoldable pub bytes_of : List Tree → List ℕ
bytes_of [] = []
bytes_of (x ∷ xs) = x.bytes ++ bytes_of xs

-- "A record: kind (1 byte), span (2), card (2), then low and high [..]"; "A span counts a node and all nodes under it"
unfoldable pub node : ℕ → ℕ → List Range → List Tree → Tree
node kind card ranges under = record {
  nodes = suc (nodes_of under);
  bytes = (kind ∷ two (suc (nodes_of under)) (two card (ends ranges))) ++ bytes_of under;
}

-- "a group's is 0": a group of a kind over these trees
abbrev pub group : ℕ → List Range → List Tree → Tree
group kind ranges under = node kind 0 ranges under

-- "4 may": a permit rule
abbrev pub permit_rule : ℕ → List Range → Tree
permit_rule card ranges = node permit_rule_kind card ranges []

-- "5 may not": a deny rule
abbrev pub deny_rule : ℕ → List Range → Tree
deny_rule card ranges = node deny_rule_kind card ranges []

-- "0-1 | number of bytes after these two", "2 | version, 1", "3, 4, 5 | largest value of who, where, deed", "6-7 | number of nodes", "then | one
-- record [..] for each node": the table of these maxima and this root
unfoldable pub table : List ℕ → Tree → List ℕ
table maxima root = two (length maxima + length root.bytes + 3) (1 ∷ (maxima ++ two root.nodes root.bytes))

-- the ranges that hold every value up to these maxima
abbrev pub whole : List ℕ → List Range
whole maxima = map (λ m. (0, m)) maxima

-- value 0 alone of every field
abbrev pub noughts : List Range
noughts = (0, 0) ∷ (0, 0) ∷ (0, 0) ∷ []

-- a range of subjects, and value 0 alone of the other fields
abbrev pub subjects : ℕ → ℕ → List Range
subjects low high = (low, high) ∷ (0, 0) ∷ (0, 0) ∷ []

-- "Who 0 scout, 1 captain, 2 smuggler; where 0 harbour, 1 market; deed 0 trade, 1 attack."
abbrev pub maxima_t : List ℕ
maxima_t = 2 ∷ 1 ∷ 1 ∷ []

-- the children of T's root
unfoldable pub children_t : List Tree
children_t =
    permit_rule 10 ((0, 2) ∷ (0, 1) ∷ (0, 0) ∷ [])
    ∷ deny_rule 20 ((2, 2) ∷ (0, 0) ∷ (0, 0) ∷ [])
    ∷ group first_applicable_kind ((1, 1) ∷ (0, 1) ∷ (1, 1) ∷ []) (permit_rule 30 ((0, 2) ∷ (1, 1) ∷ (0, 1) ∷ []) ∷ [])
    ∷ []

-- "table T", with the root's kind, which is 3 in T itself
unfoldable pub table_t : ℕ → List ℕ
table_t kind = table maxima_t (group kind (whole maxima_t) children_t)

-- every maximum is 0
abbrev pub one_place : List ℕ
one_place = 0 ∷ 0 ∷ 0 ∷ []

-- a root of a kind "over an only-one group with two matching may rules", with cards 1 and 2
unfoldable pub over_only_one : ℕ → List ℕ
over_only_one kind =
    table one_place
    (group kind noughts (group only_one_applicable_kind noughts (permit_rule 1 noughts ∷ permit_rule 2 noughts ∷ []) ∷ []))

-- "An empty root", of a kind and with these maxima, whose ranges hold every value
unfoldable pub empty_root : ℕ → List ℕ → List ℕ
empty_root kind maxima = table maxima (group kind (whole maxima) [])

-- paper 1, a root of a kind over these trees, for subjects 0 and 1, of which there are no others
unfoldable pub root_over : ℕ → List Tree → List ℕ
root_over kind under = table (1 ∷ 0 ∷ 0 ∷ []) (group kind (subjects 0 1) under)

-- "a may card for figure 0", with card 1
abbrev pub permit_for0 : Tree
permit_for0 = permit_rule 1 (subjects 0 0)

-- "a may not card for figure 1", with card 2
abbrev pub deny_for1 : Tree
deny_for1 = deny_rule 2 (subjects 1 1)

-- the two "in a 'first' group"
unfoldable pub permit_first : List ℕ
permit_first = root_over first_applicable_kind (permit_for0 ∷ deny_for1 ∷ [])

-- the same, after they "change places"
unfoldable pub deny_first : List ℕ
deny_first = root_over first_applicable_kind (deny_for1 ∷ permit_for0 ∷ [])

-- a permit rule for subject 1 in a group for subject 0, under a root for both
unfoldable pub rule_for1_in_group_for0 : List ℕ
rule_for1_in_group_for0 =
    root_over first_applicable_kind (group first_applicable_kind (subjects 0 0) (permit_rule 1 (subjects 1 1) ∷ []) ∷ [])

-- paper 2, "A group that holds but is silent": over a permit rule for subject 1, with card 3
abbrev pub silent_for0 : Tree
silent_for0 = group first_applicable_kind (subjects 0 1) (permit_rule 3 (subjects 1 1) ∷ [])

-- an empty group for subject 1
abbrev pub empty_for1 : Tree
empty_for1 = group first_applicable_kind (subjects 1 1) []

-- an "only one" group over these trees
abbrev pub only_one_over : List Tree → List ℕ
only_one_over under = root_over only_one_applicable_kind under

-- paper 3, "the root is a rule": a permit rule, with card 1
unfoldable pub rule_root : List ℕ
rule_root = table one_place (permit_rule 1 noughts)

-- "an 'only one' group holds a rule", node 1, before "a group holds rules and groups", node 3, of which the rule comes first
unfoldable pub two_faults : List ℕ
two_faults =
    root_over first_applicable_kind
    (group only_one_applicable_kind (subjects 0 1) (permit_for0 ∷ [])
    ∷ group first_applicable_kind (subjects 0 1) (permit_for0 ∷ empty_for1 ∷ [])
    ∷ [])

-- a table of the profile: a group of groups, each of which is a group of rules
unfoldable pub groups_of_rules : List ℕ
groups_of_rules =
    root_over deny_overrides_kind
    (group first_applicable_kind (subjects 0 1) (permit_for0 ∷ [])
    ∷ group permit_overrides_kind (subjects 0 1) (deny_for1 ∷ [])
    ∷ [])

-- paper 6, the root of an expansion for T: of all attacks, card 40, the scout may not attack
unfoldable pub no_scout_attacks : Tree
no_scout_attacks =
    group first_applicable_kind ((0, 2) ∷ (0, 1) ∷ (1, 1) ∷ []) (deny_rule 40 ((0, 0) ∷ (0, 1) ∷ (0, 1) ∷ []) ∷ [])

-- that expansion
unfoldable pub expansion_t : List ℕ
expansion_t = table maxima_t no_scout_attacks

-- T "with the expansion's root as the last child of the base root"
unfoldable pub attached_t : List ℕ
attached_t = table maxima_t (group deny_overrides_kind (whole maxima_t) (children_t ++ (no_scout_attacks ∷ [])))

-- a group over groups, each in the one before it, on n levels
unfoldable pub nested : ℕ → Tree
nested zero = group first_applicable_kind noughts []
nested (suc n) = group first_applicable_kind noughts (nested n ∷ [])

-- a table of groups on n levels, each in the one before it
unfoldable pub on_levels : ℕ → List ℕ
on_levels n = table one_place (nested (n - 1))

-- a group over groups of two groups, on n levels
unfoldable pub branching : ℕ → Tree
branching zero = group first_applicable_kind noughts []
branching (suc n) = group first_applicable_kind noughts (branching n ∷ branching n ∷ [])

-- a table of 127 nodes, on 7 levels
unfoldable pub of127_nodes : List ℕ
of127_nodes = table one_place (branching 6)

-- paper 7, "In the naval game seats form a ring": of six seats, 0 to 5, a root over these trees
unfoldable pub naval : List Tree → List ℕ
naval under = table (5 ∷ 0 ∷ 0 ∷ []) (group first_applicable_kind (subjects 0 5) under)

-- "and a card says 'seat 4 to seat 1'": a permit rule with card 1 for the seats from low to high
abbrev pub seats : ℕ → ℕ → List ℕ
seats low high = naval (permit_rule 1 (subjects low high) ∷ [])

-- "values from low upward or up to high", for seat 4 to seat 1: the card once for seats 4 and 5, and once more for seats 0 and 1
unfoldable pub seats_apart : List ℕ
seats_apart = naval (permit_rule 1 (subjects 4 5) ∷ permit_rule 1 (subjects 0 1) ∷ [])
