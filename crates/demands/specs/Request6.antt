-- Request 6, "Fitting an expansion": "From a base table and an expansion table write one table, with the expansion's root as the last child of the base
-- root; count, root span and length follow, all other bytes are copied."
use Rattle.std.specs.Prelude.{true, false, List, [], ◌∷◌, ◌++◌, ◌≡◌, ℕ, suc, ◌+◌, ◌≤◌, ◌<◌, length}
use Rattle.answer.specs.Answers.{refused, counted, ruled, zeros, padded}
use Rattle.answer.specs.Refusals.{Answers}
use Rattle.combining.specs.Ways.{not_applicable, permit, deny}
use Rattle.encoding.specs.Layout.{version, count}
use Rattle.table.specs.Tree.{parent, level, has_level}
use Rattle.table.specs.Reading.{Accepted}
use Rattle.ruling.specs.Forest.{children_of}
use Rattle.targets.specs.Targets.{target_holds, applies}
use Rattle.targets.specs.Subjects.{most_subjects, member, applies_to_some}
use Rattle.ruling.specs.Ruling.{groups, groups_together}
use Rattle.standard.specs.Profile.{holds_rule, Standard, reading_standard}
use Rattle.attaching.specs.Attached.{attached_bytes, attach_refusals, attached, attached_table, Attaches}
use Rattle.attaching.specs.Fitted.{Fitted}
use Rattle.attaching.specs.Meaning.{meaning_with, groups_with, groups_together_with}
use Rattle.demands.specs.Tables.{one_place, table_t, empty_root, rule_root, expansion_t, attached_t, on_levels, of127_nodes}
use Rattle.demands.specs.Outcomes.{other_values, only, GivesRuling, GivesTable}

pub record Request6 : Type 0 where
  -- "17 when the base root is a rule, 18 when versions or maxima differ, 19 when the result has over 128 nodes or a ninth level, in this order after
  -- both tables' own faults, the base first", 11 "last of all", "and refused output is zeros"
  pub attach_refuses : (b e : List ℕ) (n : ℕ) →
      let t = attached_bytes b e in
      Answers (attach_refusals b e n) refused (zeros n) (counted (length t)) (padded t n) (attached b e n) (attached_table b e n)
  -- "a ninth level": of tables of one version, exactly where the expansion has an eighth
  pub ninth_level : (b e : List ℕ) → Accepted b → Accepted e → version b ≡ version e → has_level (attached_bytes b e) 9 ≡ has_level e 8
  -- "The answer counts the bytes written; lent bytes past them become 0": where the expansion can be fitted and the bytes lent are enough
  pub attach_counts : (b e : List ℕ) (n : ℕ) → Attaches b e → length (attached_bytes b e) ≤ n →
      let t = attached_bytes b e in
      (attached b e n ≡ record { number = 0; decision = 0; place = 0; count = length t; subjects = 0 }) × (attached_table b e n ≡ padded t n)
  -- "write one table": it is accepted, and its nodes are the base's and then the expansion's, with their kinds, cards and ranges
  pub attached_accepted : (b e : List ℕ) → Attaches b e → Accepted (attached_bytes b e)
  pub attached_nodes : (b e : List ℕ) → Attaches b e → Fitted (attached_bytes b e) b e
  -- "with the expansion's root as the last child of the base root": by parents; the other nodes have the parents that they had, and those of the
  -- expansion are one level deeper
  pub attached_last_child : (b e : List ℕ) → Attaches b e → children_of (attached_bytes b e) 0 ≡ children_of b 0 ++ (count b ∷ [])
  pub attached_parents : (b e : List ℕ) → Attaches b e →
      let t = attached_bytes b e in
      ((i : ℕ) → i < count b → parent t i ≡ parent b i)
      × (parent t (count b) ≡ 0)
      × ((i : ℕ) → 0 < i → i < count e → parent t (count b + i) ≡ count b + parent e i)
  pub attached_levels : (b e : List ℕ) → Attaches b e →
      let t = attached_bytes b e in
      ((i : ℕ) → i < count b → level t i ≡ level b i) × ((i : ℕ) → i < count e → level t (count b + i) ≡ suc (level e i))
  -- what its groups give: what the base's root gives of its own children and then the expansion's root, and the cards of both, in this order, where of
  -- the expansion nothing applies but under the base root's target; for a question of one figure, and for a party
  pub attached_rules : (b e : List ℕ) → Attaches b e → (q : List ℕ) → groups (attached_bytes b e) q ≡ groups_with b e q
  pub attached_rules_together : (b e : List ℕ) → Attaches b e → (s : ℕ) (others : List ℕ) →
      groups_together (attached_bytes b e) s others ≡ groups_together_with b e s others
  -- so of the expansion the same applies as without the base, where the base root's target holds, for a party for each of its figures; and where it
  -- fails, for a party for each of them, "A group whose target fails gives none", with no card
  pub attached_holds : (b e : List ℕ) → Attaches b e → (q : List ℕ) → target_holds b q 0 ≡ true →
      groups (attached_bytes b e) q ≡ meaning_with (applies b q) (applies e q) b e
  pub attached_holds_together : (b e : List ℕ) → Attaches b e → (s : ℕ) (others : List ℕ) →
      ((k : ℕ) → k < most_subjects → member s k ≡ true → target_holds b (k ∷ others) 0 ≡ true) →
      groups_together (attached_bytes b e) s others ≡ meaning_with (applies_to_some b s others) (applies_to_some e s others) b e
  pub attached_fails : (b e : List ℕ) → Attaches b e → (q : List ℕ) → target_holds b q 0 ≡ false →
      groups (attached_bytes b e) q ≡ record { decision = not_applicable; cards = [] }
  pub attached_fails_together : (b e : List ℕ) → Attaches b e → (s : ℕ) (others : List ℕ) →
      ((k : ℕ) → k < most_subjects → member s k ≡ true → target_holds b (k ∷ others) 0 ≡ false) →
      groups_together (attached_bytes b e) s others ≡ record { decision = not_applicable; cards = [] }
  -- of two tables of the convention profile it is one again where the base's root holds no rule, and else "a group holds rules and groups"
  pub attached_standard : (b e : List ℕ) → Attaches b e → Standard b → Standard e → holds_rule b 0 ≡ false → Standard (attached_bytes b e)
  pub attached_mixed : (b e : List ℕ) → Attaches b e → Standard b → Standard e → holds_rule b 0 ≡ true →
      reading_standard (attached_bytes b e) ≡ refused 14 0

pub record Request6Cases : Type 0 where
  -- T with an expansion, byte for byte: in as many bytes as it takes, and in two more, which become 0
  pub t_attached : GivesTable (table_t 3) expansion_t 85 (counted 85) attached_t
  pub t_attached_in_87 : GivesTable (table_t 3) expansion_t 87 (counted 85) (padded attached_t 87)
  -- "11 is also returned where the lent output is too short", "and refused output is zeros"
  pub t_attached_in_84 : GivesTable (table_t 3) expansion_t 84 (refused 11 0) (zeros 84)
  -- what it then gives: the scout's attack is denied by the expansion's card, scout and captain together get T's card and then the expansion's, and
  -- trade is as in T
  pub t_attached_0_1_1 : GivesRuling attached_t (only 0) (other_values 1 1) 2 (ruled deny 1 1) (40 ∷ 0 ∷ [])
  pub t_attached_0_1_attack : GivesRuling attached_t (only 0 + only 1) (other_values 1 1) 3 (ruled deny 2 2) (30 ∷ 40 ∷ 0 ∷ [])
  pub t_attached_0_0_0 : GivesRuling attached_t (only 0) (other_values 0 0) 2 (ruled permit 1 1) (10 ∷ 0 ∷ [])
  -- "17 when the base root is a rule"
  pub base_is_rule : GivesTable rule_root (empty_root 0 one_place) 30 (refused 17 0) (zeros 30)
  -- "18 when versions or maxima differ": each maximum
  pub subjects_differ : GivesTable (table_t 3) (empty_root 0 (1 ∷ 1 ∷ 1 ∷ [])) 74 (refused 18 0) (zeros 74)
  pub resources_differ : GivesTable (table_t 3) (empty_root 0 (2 ∷ 0 ∷ 1 ∷ [])) 74 (refused 18 0) (zeros 74)
  pub actions_differ : GivesTable (table_t 3) (empty_root 0 (2 ∷ 1 ∷ 2 ∷ [])) 74 (refused 18 0) (zeros 74)
  -- "19 when the result has over 128 nodes": 128 pass, 129 do not
  pub of_128_nodes : attached of127_nodes (empty_root 0 one_place) 1416 ≡ counted 1416
  pub of_129_nodes : GivesTable of127_nodes (on_levels 2) 1427 (refused 19 0) (zeros 1427)
  -- "or a ninth level": an expansion on 7 levels passes, one on 8 does not; a base on 8 does
  pub on_8_levels : attached (empty_root 0 one_place) (on_levels 7) 96 ≡ counted 96
  pub on_9_levels : GivesTable (empty_root 0 one_place) (on_levels 8) 107 (refused 19 0) (zeros 107)
  pub base_on_8_levels : attached (on_levels 8) (empty_root 0 one_place) 107 ≡ counted 107
  -- "in this order after both tables' own faults, the base first": the base's 4 before the expansion's 1, this before 17, 17 before 18, 18 before 19 and
  -- 19 before 11
  pub base_first : GivesTable (table_t 6) [] 1 (refused 4 0) (0 ∷ [])
  pub expansion_second : GivesTable rule_root [] 1 (refused 1 0) (0 ∷ [])
  pub rule_before_headers : GivesTable rule_root expansion_t 1 (refused 17 0) (0 ∷ [])
  pub headers_before_levels : GivesTable (table_t 3) (on_levels 8) 1 (refused 18 0) (0 ∷ [])
  pub levels_before_room : GivesTable (empty_root 0 one_place) (on_levels 8) 1 (refused 19 0) (0 ∷ [])
