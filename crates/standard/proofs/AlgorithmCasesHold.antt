-- The cases of appendix C's algorithms hold: each is computed.
use mathlib.Core.Path.{refl, ap}
use Rattle.ruling.specs.Meaning.{effect}
use Rattle.standard.specs.AppendixC.{rule_combining, policy_combining}
use Rattle.standard.specs.AlgorithmCases.{AlgorithmCases}

pub algorithm_cases_hold : AlgorithmCases
unfolding rule_combining policy_combining
algorithm_cases_hold =
    record {
      rules_deny_ends = refl;
      rules_deny_effect = refl;
      rules_deny_permit = refl;
      rules_deny_indeterminate = refl;
      rules_deny_none = refl;
      rules_permit_ends = refl;
      rules_permit_effect = refl;
      rules_permit_deny = refl;
      rules_permit_indeterminate = refl;
      rules_permit_none = refl;
      rules_first_permit = refl;
      rules_first_deny = refl;
      rules_first_indeterminate = refl;
      rules_first_next = refl;
      rules_first_none = refl;
      rules_only_one = λ rs. refl;
      effect_permit = λ a t j e. ap effect e;
      effect_deny = λ a t j e. ap effect e;
      policies_deny_ends = refl;
      policies_deny_indeterminate = refl;
      policies_deny_permit = refl;
      policies_deny_none = refl;
      policies_permit_ends = refl;
      policies_permit_deny = refl;
      policies_permit_indeterminate = refl;
      policies_permit_none = refl;
      policies_first_permit = refl;
      policies_first_deny = refl;
      policies_first_indeterminate = refl;
      policies_first_none = refl;
      policies_untold = λ d. refl;
      policies_untold_beside = λ d e. refl;
      untold_not_matched = λ d. refl;
      policies_two = λ d e. refl;
      policies_one = λ d. refl;
      policies_none = refl;
    }
