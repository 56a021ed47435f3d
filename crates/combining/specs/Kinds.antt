-- The kinds of nodes, as document 01 numbers them under "The table".
-- Assumes nothing: these are definitions.
use Rattle.std.specs.Prelude.{ℕ}

-- "Kinds 0 to 3 are groups: 0 first"
abbrev pub first_applicable_kind : ℕ
first_applicable_kind = 0

-- "1 only one"
abbrev pub only_one_applicable_kind : ℕ
only_one_applicable_kind = 1

-- "2 may beats"
abbrev pub permit_overrides_kind : ℕ
permit_overrides_kind = 2

-- "3 may not beats"
abbrev pub deny_overrides_kind : ℕ
deny_overrides_kind = 3

-- "Kinds 4 and 5 are rules: 4 may"
abbrev pub permit_rule_kind : ℕ
permit_rule_kind = 4

-- "5 may not"
abbrev pub deny_rule_kind : ℕ
deny_rule_kind = 5
