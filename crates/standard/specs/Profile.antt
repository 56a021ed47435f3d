-- The convention profile, as paper 3 of document 02 words it: "tables that are XACML as printed, with none of our widenings".
-- Assumes nothing: these are definitions.
use Rattle.std.specs.Prelude.{Bool, not, ◌&&◌, List, [], ◌∷◌, ◌++◌, ℕ, eqb}
use Rattle.answer.specs.Answers.{refused, counted}
use Rattle.answer.specs.Refusals.{Refusal, row, upward, settled, None}
use Rattle.answer.specs.declared.Answer.{Answer}
use Rattle.combining.specs.Kinds.{only_one_applicable_kind}
use Rattle.combining.specs.Ways.{any}
use Rattle.encoding.specs.Layout.{count, kind}
use Rattle.table.specs.Tree.{is_rule}
use Rattle.table.specs.Reading.{table_refusals}
use Rattle.ruling.specs.Forest.{children_of}

-- "holds a rule": of the nodes whose parent is node i, some is a rule
unfoldable pub holds_rule : List ℕ → ℕ → Bool
holds_rule t i = any (is_rule t) (children_of t i)

-- some is a group
unfoldable pub holds_group : List ℕ → ℕ → Bool
holds_group t i = any (λ j. not (is_rule t j)) (children_of t i)

-- 14: "when a group holds rules and groups". A rule of an accepted table holds nothing.
unfoldable pub mixed_group : List ℕ → ℕ → Bool
mixed_group t i = holds_rule t i && holds_group t i

-- 15: "when an 'only one' group holds a rule"
unfoldable pub rule_in_only_one : List ℕ → ℕ → Bool
rule_in_only_one t i = eqb (kind t i) only_one_applicable_kind && holds_rule t i

-- 16: "when the root is a rule"
unfoldable pub rule_as_root : List ℕ → Bool
rule_as_root t = is_rule t 0

-- a refusal of node i, by its number and its condition
abbrev pub at_node : ℕ → (ℕ → Bool) → ℕ → List Refusal
at_node number when i = row number i (when i) ∷ []

-- "each with the lowest such group's node as place (0 for 16)", "14 is looked for in all nodes before 15, and 15 before 16"
unfoldable pub profile_refusals : List ℕ → List Refusal
profile_refusals t =
    upward (at_node 14 (mixed_group t)) 0 (count t)
    ++ upward (at_node 15 (rule_in_only_one t)) 0 (count t)
    ++ (row 16 0 (rule_as_root t) ∷ [])

-- "after all of 1 to 8": the refusals of a table by the profile
abbrev pub standard_refusals : List ℕ → List Refusal
standard_refusals t = table_refusals t ++ profile_refusals t

-- "accept just those": the profile accepts a table where none of them applies to it
abbrev pub Standard : List ℕ → Type 0
Standard t = None (standard_refusals t)

-- what the profile answers of a table that is accepted without it: "a reading alone counts nodes"
abbrev pub profiled : List ℕ → Answer
profiled t = settled refused (counted (count t)) (profile_refusals t)

-- "a second reading": what it answers
abbrev pub reading_standard : List ℕ → Answer
reading_standard t = settled refused (counted (count t)) (standard_refusals t)
