-- The nodes of a table as the standard's rules and policies, for any test of which nodes apply.
-- Assumes nothing: these are definitions.
use Rattle.std.specs.Prelude.{Bool, true, false, List, map, ℕ}
use Rattle.encoding.specs.Layout.{kind}
use Rattle.ruling.specs.Forest.{children_of}
use Rattle.ruling.specs.Meaning.{effect, decision}
use Rattle.standard.specs.AppendixC.{Rule, Policy, Applicable, matched, unmatched}

-- node j as a rule: its effect, and what it gives
abbrev pub as_rule : (ℕ → Bool) → List ℕ → ℕ → Rule
as_rule a t j = record { effect = effect (kind t j); gives = decision a t j }

-- "Here a target always matches or does not": a node is applicable where it applies
abbrev pub told : Bool → Applicable
told b =
    elim b [
      | true ↦ matched
      | false ↦ unmatched
    ]

-- node j as a policy: whether it is applicable, and what it gives
abbrev pub as_policy : (ℕ → Bool) → List ℕ → ℕ → Policy
as_policy a t j = record { applicable = told (a j); gives = decision a t j }

-- "every group of rules": the rules of group i, in table order
abbrev pub rules_of : (ℕ → Bool) → List ℕ → ℕ → List Rule
rules_of a t i = map (as_rule a t) (children_of t i)

-- "every group of groups": the groups of group i, in table order
abbrev pub policies_of : (ℕ → Bool) → List ℕ → ℕ → List Policy
policies_of a t i = map (as_policy a t) (children_of t i)
