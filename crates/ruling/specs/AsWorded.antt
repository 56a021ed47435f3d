-- The decision of a node, for a question of one figure, as documents 01 and 02 word it: a group goes by its own target alone, and only rules by
-- the targets above them too.
-- Assumes nothing: these are definitions.
use Rattle.std.specs.Prelude.{Bool, cond, List, ℕ}
use Rattle.table.specs.Tree.{is_rule}
use Rattle.targets.specs.Targets.{target_holds, applies}
use Rattle.ruling.specs.Meaning.{decision}

-- "A matching rule gives its effect, any other rule none. A group whose target fails gives none."; paper 2, "a group child counts when its target
-- holds, though no card in it matches. A rule child counts when it matches.": node i is such a rule or group
abbrev pub holds_as_worded : List ℕ → List ℕ → ℕ → Bool
holds_as_worded t q i = cond (is_rule t i) (applies t q i) (target_holds t q i)

-- "Otherwise a group asks its children, and a child that is a group asks its own in turn": the decision of node i
abbrev pub decision_as_worded : List ℕ → List ℕ → ℕ → ℕ
decision_as_worded t q i = decision (holds_as_worded t q) t i
