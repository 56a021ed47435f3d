-- Request 3, "The convention profile": "Judges want tables that are XACML as printed, with none of our widenings. Add a second reading and a second
-- ruling that accept just those."
use Rattle.std.specs.Prelude.{Bool, true, false, List, [], ◌∷◌, ◌≡◌, ℕ, ◌+◌, ◌<◌}
use Rattle.std.proofs.Math.Option.{some}
use Rattle.answer.specs.Answers.{refused, counted, ruled, zeros, padded}
use Rattle.answer.specs.Refusals.{Answers}
use Rattle.answer.specs.Rulings.{answer_of}
use Rattle.combining.specs.Kinds.{only_one_applicable_kind}
use Rattle.combining.specs.Ways.{not_applicable, permit, deny}
use Rattle.encoding.specs.Layout.{count, kind}
use Rattle.table.specs.Tree.{is_rule}
use Rattle.table.specs.Reading.{reading, Accepted}
use Rattle.ruling.specs.Forest.{children_of}
use Rattle.targets.specs.Targets.{applies}
use Rattle.targets.specs.Closed.{Closed}
use Rattle.targets.specs.Subjects.{applies_to_some, size}
use Rattle.ruling.specs.Meaning.{decision}
use Rattle.ruling.specs.Ruling.{groups_together, ruling, ruled_list}
use Rattle.standard.specs.Profile.{holds_rule, holds_group, standard_refusals, Standard, reading_standard}
use Rattle.standard.specs.RulingStandard.{ruling_standard_refusals, ruling_standard, ruled_list_standard}
use Rattle.standard.specs.AppendixC.{rule_combining, policy_combining}
use Rattle.standard.specs.AlgorithmCases.{AlgorithmCases}
use Rattle.standard.specs.AsPrinted.{rules_of, policies_of}
use Rattle.demands.specs.Words.{nothing}
use Rattle.demands.specs.Tables.{one_place, table_t, over_only_one, empty_root, rule_root, two_faults, groups_of_rules}
use Rattle.demands.specs.Outcomes.{other_values, only, GivesStandard}

pub record Request3 : Type 0 where
  -- "14 when a group holds rules and groups, 15 when an 'only one' group holds a rule, 16 when the root is a rule", "after all of 1 to 8 and before 13"
  pub standard_reading_refuses : (t : List ℕ) →
      Answers (standard_refusals t) refused nothing (counted (count t)) nothing (reading_standard t) nothing
  pub standard_ruling_refuses : (t : List ℕ) (s : ℕ) (others : List ℕ) (n : ℕ) →
      let r = groups_together t s others in
      Answers (ruling_standard_refusals t s others n) refused (zeros n) (answer_of r (size s)) (padded r.cards n) (ruling_standard t s others n)
      (ruled_list_standard t s others n)
  -- "Whatever they accept the plain ones accept too, with equal answers": and lists, for every set of subjects
  pub standard_accepted : (t : List ℕ) → Standard t → Accepted t × (reading_standard t ≡ reading t)
  pub standard_ruled_alike : (t : List ℕ) (s : ℕ) (others : List ℕ) (n : ℕ) → Standard t →
      (ruling_standard t s others n ≡ ruling t s others n) × (ruled_list_standard t s others n ≡ ruled_list t s others n)
  -- "and there every group of rules combines by appendix C's rule-combining text and every group of groups by its policy-combining text": for any
  -- test of which nodes apply that is closed, an empty group by both
  pub rules_as_printed : (t : List ℕ) (a : ℕ → Bool) (i : ℕ) → Standard t → Closed t a → i < count t → holds_rule t i ≡ true →
      rule_combining (kind t i) (rules_of a t i) ≡ some (decision a t i)
  pub groups_as_printed : (t : List ℕ) (a : ℕ → Bool) (i : ℕ) → Standard t → Closed t a → i < count t → holds_group t i ≡ true →
      policy_combining (kind t i) (policies_of a t i) ≡ decision a t i
  pub empty_as_printed : (t : List ℕ) (a : ℕ → Bool) (i : ℕ) → Standard t → Closed t a → i < count t → is_rule t i ≡ false → children_of t i ≡ [] →
      (decision a t i ≡ not_applicable)
      × (policy_combining (kind t i) (policies_of a t i) ≡ not_applicable)
      × ((kind t i ≡ only_one_applicable_kind → ⊥) → rule_combining (kind t i) (rules_of a t i) ≡ some not_applicable)
  -- such a test is that of a set of subjects, and that of one
  pub sets_closed : (t : List ℕ) (s : ℕ) (others : List ℕ) → Accepted t → Closed t (applies_to_some t s others)
  pub one_closed : (t q : List ℕ) → Accepted t → Closed t (applies t q)

pub record Request3Cases : Type 0 where
  -- "appendix C's rule-combining text", "its policy-combining text": clause by clause, also where no table reaches them
  pub algorithms : AlgorithmCases
  -- "14 when a group holds rules and groups", "with the lowest such group's node as place": T's root does
  pub t_mixed : reading_standard (table_t 3) ≡ refused 14 0
  pub t_mixed_ruled : GivesStandard (table_t 3) (only 0) (other_values 0 0) 2 (refused 14 0) (0 ∷ 0 ∷ [])
  -- "15 when an 'only one' group holds a rule": node 1
  pub rule_in_only_one_lem : reading_standard (over_only_one 0) ≡ refused 15 1
  pub rule_in_only_one_ruled : GivesStandard (over_only_one 0) (only 0) (other_values 0 0) 2 (refused 15 1) (0 ∷ 0 ∷ [])
  -- "16 when the root is a rule"
  pub rule_as_root_lem : reading_standard rule_root ≡ refused 16 0
  pub rule_as_root_ruled : GivesStandard rule_root (only 0) (other_values 0 0) 1 (refused 16 0) (0 ∷ [])
  -- "14 is looked for in all nodes before 15": node 3, though node 1 is an only-one group that holds a rule; "before 13": asked for no subject
  pub mixed_after_only_one : reading_standard two_faults ≡ refused 14 3
  pub mixed_before_13 : GivesStandard two_faults 0 (other_values 0 0) 1 (refused 14 3) (0 ∷ [])
  -- "accept just those": a group of groups of rules, ruled as without the profile; an empty group of each kind
  pub groups_of_rules_lem : reading_standard groups_of_rules ≡ counted 5
  pub groups_of_rules_for_0 : GivesStandard groups_of_rules (only 0) (other_values 0 0) 2 (ruled permit 1 1) (1 ∷ 0 ∷ [])
  pub groups_of_rules_for_both : GivesStandard groups_of_rules (only 0 + only 1) (other_values 0 0) 2 (ruled deny 2 2) (1 ∷ 2 ∷ [])
  pub groups_of_rules_list_of_1 : GivesStandard groups_of_rules (only 0 + only 1) (other_values 0 0) 1 (refused 10 0) (0 ∷ [])
  pub groups_of_rules_no_subject : GivesStandard groups_of_rules 0 (other_values 0 0) 1 (refused 13 0) (0 ∷ [])
  pub empty_standard : (kind : ℕ) → kind < 4 → reading_standard (empty_root kind one_place) ≡ counted 1
