-- Request 1, "Several figures ask together": "The party is a 64-bit set: bit k stands for figure k."
use Rattle.std.specs.Prelude.{true, List, [], ◌∷◌, ◌++◌, ◌↔◌, ◌≡◌, ℕ, ◌+◌, ◌^◌, ◌<◌}
use Rattle.answer.specs.Answers.{refused, ruled}
use Rattle.combining.specs.Ways.{not_applicable, permit, deny}
use Rattle.encoding.specs.Layout.{count}
use Rattle.table.specs.Tree.{Above}
use Rattle.table.specs.Reading.{Accepted}
use Rattle.targets.specs.Targets.{target_holds}
use Rattle.targets.specs.Subjects.{most_subjects, member, applies_to_some, size}
use Rattle.ruling.specs.Ruling.{groups, groups_together, ruling, ruled_list}
use Rattle.diagram.specs.LookedUp.{looked_up, looked_up_list}
use Rattle.demands.specs.Words.{WithinFields, LongEnough, Builds, used_part}
use Rattle.demands.specs.Tables.{table_t, permit_first, deny_first, rule_for1_in_group_for0}
use Rattle.demands.specs.Outcomes.{other_values, only, GivesRuling, EqualDiagrams}

pub record Request1 : Type 0 where
  -- "A node holds for the party exactly when at least one member by itself meets its target and every target above it": the node's own and those of
  -- its parents
  pub applies_worded : (t : List ℕ) (s : ℕ) (others : List ℕ) (i : ℕ) → Accepted t → i < count t →
      (applies_to_some t s others i ≡ true)
      ↔ ((k : ℕ) × ((k < most_subjects) × ((member s k ≡ true) × ((j : ℕ) → Above t i j → target_holds t (k ∷ others) j ≡ true))))
  -- "A party of one is ruled as that figure": by the groups
  pub one_by_groups : (t : List ℕ) (k : ℕ) (others : List ℕ) → Accepted t → k < most_subjects →
      (groups_together t (2 ^ k) others ≡ groups t (k ∷ others)) × (size (2 ^ k) ≡ 1)
  -- and by a diagram built from the table, whatever follows its used part: the decision, the count and the list are those of the look-up
  pub one_by_diagram : (t : List ℕ) (room : ℕ) → Builds t room → (following : List ℕ) (k : ℕ) (others : List ℕ) (n : ℕ) → k < most_subjects →
      WithinFields t (k ∷ others) → LongEnough (groups t (k ∷ others)) n →
      let d = used_part t room ++ following in
      let a = looked_up d (k ∷ others) n in
      (ruling t (2 ^ k) others n ≡ ruled a.decision a.count 1) × (ruled_list t (2 ^ k) others n ≡ looked_up_list d (k ∷ others) n)

pub record Request1Cases : Type 0 where
  -- "figure 3 alone asked of T now gets 13"
  pub t_figure_3 : GivesRuling (table_t 3) (only 3) (other_values 0 0) 2 (refused 13 0) (0 ∷ 0 ∷ [])
  -- several of T's figures: scout and smuggler trade in the harbour, with the cards of both; in a list of 1, "refusal 10, list 0"
  pub t_0_2_trade : GivesRuling (table_t 3) (only 0 + only 2) (other_values 0 0) 3 (ruled deny 2 2) (10 ∷ 20 ∷ 0 ∷ [])
  pub t_0_2_list_of_1 : GivesRuling (table_t 3) (only 0 + only 2) (other_values 0 0) 1 (refused 10 0) (0 ∷ [])
  -- all three do
  pub t_0_1_2_trade : GivesRuling (table_t 3) (only 0 + only 1 + only 2) (other_values 0 0) 2 (ruled deny 2 3) (10 ∷ 20 ∷ [])
  -- only the captain meets the group of card 30: scout and smuggler attack in the market without it, all three with it
  pub t_0_2_attack : GivesRuling (table_t 3) (only 0 + only 2) (other_values 1 1) 2 (ruled not_applicable 0 2) (0 ∷ 0 ∷ [])
  pub t_0_1_2_attack : GivesRuling (table_t 3) (only 0 + only 1 + only 2) (other_values 1 1) 2 (ruled permit 1 3) (30 ∷ 0 ∷ [])
  -- "13 when the party is empty or names a figure above the who maximum", "before 9, which then looks at where and deed only"
  pub t_empty_set : GivesRuling (table_t 3) 0 (other_values 0 0) 1 (refused 13 0) (0 ∷ [])
  pub t_0_3_over : GivesRuling (table_t 3) (only 0 + only 3) (other_values 2 0) 1 (refused 13 0) (0 ∷ [])
  pub t_resource_over : GivesRuling (table_t 3) (only 0 + only 2) (other_values 2 2) 1 (refused 9 1) (0 ∷ [])
  pub t_action_over : GivesRuling (table_t 3) (only 0 + only 2) (other_values 1 2) 1 (refused 9 2) (0 ∷ [])
  -- "at least one member by itself meets its target and every target above it": a member for each target by itself does not do
  pub no_member_by_itself : GivesRuling rule_for1_in_group_for0 (only 0 + only 1) (other_values 0 0) 1 (ruled not_applicable 0 2) (0 ∷ [])
  -- "two tables with equal diagrams may still rule a party differently, as when a may card for figure 0 and a may not card for figure 1
  -- change places in a 'first' group"
  pub equal_diagrams : EqualDiagrams permit_first deny_first 64
  pub permit_first_lem : GivesRuling permit_first (only 0 + only 1) (other_values 0 0) 2 (ruled permit 2 2) (1 ∷ 2 ∷ [])
  pub deny_first_lem : GivesRuling deny_first (only 0 + only 1) (other_values 0 0) 2 (ruled deny 2 2) (2 ∷ 1 ∷ [])
