-- Cases of appendix C's algorithms themselves, as one claim: a field for each, beside the words that it holds. A rule of a table never gives I,
-- whether a node of it is applicable can always be told, and no only-one-applicable group of the profile has a rule: so no theorem about tables holds
-- the clauses on these, and the cases do.
-- Assumes nothing: these are definitions.
use Rattle.std.specs.Prelude.{Bool, false, List, [], ◌∷◌, ◌≡◌, ℕ}
use Rattle.std.proofs.Math.Option.{none, some}
use Rattle.combining.specs.Kinds.{first_applicable_kind, only_one_applicable_kind, permit_overrides_kind, deny_overrides_kind, permit_rule_kind, deny_rule_kind}
use Rattle.combining.specs.Ways.{not_applicable, permit, deny, indeterminate}
use Rattle.encoding.specs.Layout.{kind}
use Rattle.standard.specs.AppendixC.{Rule, Policy, matched, unmatched, untold, rule_combining, is_matched, policy_combining}
use Rattle.standard.specs.AsPrinted.{as_rule}

-- a rule with the effect permit, and what it gives
abbrev pub permit_rule : ℕ → Rule
permit_rule d = record { effect = permit; gives = d }

-- a rule with the effect deny, and what it gives
abbrev pub deny_rule : ℕ → Rule
deny_rule d = record { effect = deny; gives = d }

-- a policy whose target matches, and what it gives
abbrev pub policy : ℕ → Policy
policy d = record { applicable = matched; gives = d }

-- a policy whose target does not match
abbrev pub unmatched_policy : Policy
unmatched_policy = record { applicable = unmatched; gives = not_applicable }

-- a policy of which it cannot be told whether its target matches, and what it would give
abbrev pub untold_policy : ℕ → Policy
untold_policy d = record { applicable = untold; gives = d }

-- by the rule-combining algorithm of a kind these rules give d
abbrev pub RulesGive : ℕ → List Rule → ℕ → Type 0
RulesGive k rs d = rule_combining k rs ≡ some d

-- by the policy-combining algorithm of a kind these policies give d
abbrev pub PoliciesGive : ℕ → List Policy → ℕ → Type 0
PoliciesGive k ps d = policy_combining k ps ≡ d

pub record AlgorithmCases : Type 0 where
  -- Rule-combining, "Deny-overrides. A rule that gives D ends it: D.": also after one with the effect deny that gave I
  pub rules_deny_ends : RulesGive deny_overrides_kind (permit_rule permit ∷ deny_rule indeterminate ∷ deny_rule deny ∷ []) deny
  -- "At the end: I if a rule with the effect deny gave I", though another gave P
  pub rules_deny_effect : RulesGive deny_overrides_kind (deny_rule indeterminate ∷ permit_rule permit ∷ []) indeterminate
  -- "else P if any gave P", though one with the effect permit gave I
  pub rules_deny_permit : RulesGive deny_overrides_kind (permit_rule indeterminate ∷ permit_rule permit ∷ []) permit
  -- "else I if any gave I"
  pub rules_deny_indeterminate : RulesGive deny_overrides_kind (permit_rule indeterminate ∷ []) indeterminate
  -- "else N."
  pub rules_deny_none : RulesGive deny_overrides_kind (permit_rule not_applicable ∷ deny_rule not_applicable ∷ []) not_applicable
  -- "Permit-overrides. A rule that gives P ends it: P.": also after one with the effect permit that gave I
  pub rules_permit_ends : RulesGive permit_overrides_kind (deny_rule deny ∷ permit_rule indeterminate ∷ permit_rule permit ∷ []) permit
  -- "At the end: I if a rule with the effect permit gave I", though another gave D
  pub rules_permit_effect : RulesGive permit_overrides_kind (permit_rule indeterminate ∷ deny_rule deny ∷ []) indeterminate
  -- "else D if any gave D", though one with the effect deny gave I
  pub rules_permit_deny : RulesGive permit_overrides_kind (deny_rule indeterminate ∷ deny_rule deny ∷ []) deny
  -- "else I if any gave I"
  pub rules_permit_indeterminate : RulesGive permit_overrides_kind (deny_rule indeterminate ∷ []) indeterminate
  -- "else N."
  pub rules_permit_none : RulesGive permit_overrides_kind (deny_rule not_applicable ∷ permit_rule not_applicable ∷ []) not_applicable
  -- "First-applicable. The first rule that gives P, D or I ends it with that"
  pub rules_first_permit : RulesGive first_applicable_kind (permit_rule permit ∷ deny_rule deny ∷ []) permit
  pub rules_first_deny : RulesGive first_applicable_kind (deny_rule deny ∷ permit_rule permit ∷ []) deny
  pub rules_first_indeterminate : RulesGive first_applicable_kind (permit_rule indeterminate ∷ deny_rule deny ∷ []) indeterminate
  -- "N goes on to the next"
  pub rules_first_next : RulesGive first_applicable_kind (permit_rule not_applicable ∷ deny_rule indeterminate ∷ permit_rule permit ∷ []) indeterminate
  -- "at the end N."
  pub rules_first_none : RulesGive first_applicable_kind (permit_rule not_applicable ∷ deny_rule not_applicable ∷ []) not_applicable
  -- "There is no rule-combining form of only-one-applicable."
  pub rules_only_one : (rs : List Rule) → rule_combining only_one_applicable_kind rs ≡ none
  -- "a rule with the effect permit", and one "with the effect deny": of a table's rules by their kind, whether they apply or not
  pub effect_permit : (a : ℕ → Bool) (t : List ℕ) (j : ℕ) → kind t j ≡ permit_rule_kind → (as_rule a t j).effect ≡ permit
  pub effect_deny : (a : ℕ → Bool) (t : List ℕ) (j : ℕ) → kind t j ≡ deny_rule_kind → (as_rule a t j).effect ≡ deny
  -- Policy-combining, "Deny-overrides. A child that gives D ends it: D"
  pub policies_deny_ends : PoliciesGive deny_overrides_kind (policy permit ∷ policy deny ∷ []) deny
  -- "one that gives I ends it too: D."
  pub policies_deny_indeterminate : PoliciesGive deny_overrides_kind (policy permit ∷ policy indeterminate ∷ []) deny
  -- "At the end: P if any gave P"
  pub policies_deny_permit : PoliciesGive deny_overrides_kind (policy permit ∷ policy not_applicable ∷ []) permit
  -- "else N."
  pub policies_deny_none : PoliciesGive deny_overrides_kind (policy not_applicable ∷ unmatched_policy ∷ []) not_applicable
  -- "Permit-overrides. A child that gives P ends it: P."
  pub policies_permit_ends : PoliciesGive permit_overrides_kind (policy deny ∷ policy indeterminate ∷ policy permit ∷ []) permit
  -- "At the end: D if any gave D"
  pub policies_permit_deny : PoliciesGive permit_overrides_kind (policy indeterminate ∷ policy deny ∷ []) deny
  -- "else I if any gave I"
  pub policies_permit_indeterminate : PoliciesGive permit_overrides_kind (policy indeterminate ∷ policy not_applicable ∷ []) indeterminate
  -- "else N."
  pub policies_permit_none : PoliciesGive permit_overrides_kind (policy not_applicable ∷ unmatched_policy ∷ []) not_applicable
  -- "First-applicable. The first child that gives P, D or I ends it with that"
  pub policies_first_permit : PoliciesGive first_applicable_kind (policy permit ∷ policy deny ∷ []) permit
  pub policies_first_deny : PoliciesGive first_applicable_kind (policy deny ∷ policy permit ∷ []) deny
  pub policies_first_indeterminate : PoliciesGive first_applicable_kind (policy not_applicable ∷ policy indeterminate ∷ policy permit ∷ []) indeterminate
  -- "at the end N."
  pub policies_first_none : PoliciesGive first_applicable_kind (policy not_applicable ∷ unmatched_policy ∷ []) not_applicable
  -- "Only-one-applicable. [..] each is asked whether it is applicable [..]. If that cannot be told of one, I.": of the only one, and beside one that is
  pub policies_untold : (d : ℕ) → PoliciesGive only_one_applicable_kind (untold_policy d ∷ []) indeterminate
  pub policies_untold_beside : (d e : ℕ) → PoliciesGive only_one_applicable_kind (policy d ∷ untold_policy e ∷ []) indeterminate
  -- such a child is not one that "is" applicable
  pub untold_not_matched : (d : ℕ) → is_matched (untold_policy d) ≡ false
  -- "If two are applicable, I."
  pub policies_two : (d e : ℕ) → PoliciesGive only_one_applicable_kind (policy d ∷ policy e ∷ []) indeterminate
  -- "If one is, the result is that child's.": also N
  pub policies_one : (d : ℕ) → PoliciesGive only_one_applicable_kind (unmatched_policy ∷ policy d ∷ []) d
  -- "If none is, N."
  pub policies_none : PoliciesGive only_one_applicable_kind (unmatched_policy ∷ []) not_applicable
