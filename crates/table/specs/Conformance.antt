-- What a reading sees of the convention profile, paper 3 of document 02: whether each node is a rule or a group, as is asked for where it
-- stands (for the contracts inside the library; what the profile refuses is defined by itself, in the crate `standard`).
-- Assumes nothing: these are definitions.
use Rattle.std.specs.Prelude.{Bool, false, cond, List, ℕ, ◌+◌, eqb}
use Rattle.std.specs.Bool.{beq}
use Rattle.answer.specs.Below.{every_below}
use Rattle.combining.specs.Kinds.{only_one_applicable_kind}
use Rattle.encoding.specs.Layout.{count, kind}
use Rattle.table.specs.Tree.{is_rule, parent}

-- that no group "holds rules and groups" and no "'only one' group holds a rule": a group asks for rules where its first child is one, unless it
-- is only one applicable
unfoldable pub asks_for_rules : List ℕ → ℕ → Bool
asks_for_rules t i = cond (eqb (kind t i) only_one_applicable_kind) false (is_rule t (i + 1))

-- that not "the root is a rule": a rule is asked for at no root, and at any other node where its parent asks for rules
unfoldable pub rule_asked : List ℕ → ℕ → Bool
rule_asked t i = cond (eqb i 0) false (asks_for_rules t (parent t i))

-- node i is a rule exactly where one is asked for
unfoldable pub node_conforms : List ℕ → ℕ → Bool
node_conforms t i = beq (is_rule t i) (rule_asked t i)

-- all nodes are as is asked for
unfoldable pub conforms : List ℕ → Bool
conforms t = every_below (count t) (node_conforms t)
