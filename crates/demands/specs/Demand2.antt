-- Demand 2: "Every accepted question gets the decision that the four combining ways give, as document 01 restates them, with every matching card in
-- table order, the true count, and zeros in the rest of the list." Paper 1: "The accuracy rule now speaks of parties asked of a table".
use Rattle.std.specs.Prelude.{true, List, [], ◌∷◌, map, ◌↔◌, ◌≡◌, ℕ, ◌-◌, ◌<◌, length, get_or}
use Rattle.answer.specs.Fields.{fields}
use Rattle.answer.specs.Answers.{ruled}
use Rattle.answer.specs.Refusals.{None}
use Rattle.combining.specs.Ways.{not_applicable, permit, deny, indeterminate}
use Rattle.encoding.specs.Layout.{maximum, count, card}
use Rattle.table.specs.Reading.{Accepted}
use Rattle.ruling.specs.Forest.{under, children_of, trees}
use Rattle.targets.specs.Subjects.{applies_to_some, size, AskedWithin}
use Rattle.ruling.specs.Meaning.{gives, child_of, decision, matches, matching}
use Rattle.ruling.specs.Ruling.{groups_together, ruling_refusals, ruling, ruled_list}
use Rattle.demands.specs.Words.{LongEnough, Rules}
use Rattle.demands.specs.Tables.{table_t, over_only_one}
use Rattle.demands.specs.Outcomes.{other_values, only, GivesRuling}

pub record Demand2 : Type 0 where
  pub question_ruled : (t : List ℕ) (s : ℕ) (others : List ℕ) (n : ℕ) → Accepted t → AskedWithin (maximum t) s others →
      LongEnough (groups_together t s others) n →
      Rules (ruling t s others n) (ruled_list t s others n) (groups_together t s others) (size s) n
  -- "Every accepted question": no refusal applies to a set, and one value for each other field, exactly where the table is accepted, the set has
  -- a member, what each member asks is within the table's fields, and the list is long enough
  pub question_accepted : (t : List ℕ) (s : ℕ) (others : List ℕ) (n : ℕ) → length others ≡ fields - 1 →
      None (ruling_refusals t s others n) ↔ (Accepted t × (AskedWithin (maximum t) s others × LongEnough (groups_together t s others) n))
  -- "a group asks its children, and a child that is a group asks its own in turn": the nodes whose parent it is, each with those under it; a node
  -- gives by the decisions of these
  pub children_worded : (t : List ℕ) (i : ℕ) → Accepted t → i < count t → under t i ≡ trees t (children_of t i)
  pub children_asked : (t : List ℕ) (s : ℕ) (others : List ℕ) (i : ℕ) → Accepted t → i < count t →
      let a = applies_to_some t s others in decision a t i ≡ gives a t i (map (λ j. child_of a j (decision a t j)) (children_of t i))
  -- "every matching card in table order": a matching rule's card stands after those of the rules that match before it
  pub cards_in_order : (t : List ℕ) (s : ℕ) (others : List ℕ) (i : ℕ) → i < count t → matches (applies_to_some t s others) t i ≡ true →
      get_or (groups_together t s others).cards (matching (applies_to_some t s others) t i) 0 ≡ card t i
  -- "the true count": "the number of matching rules"
  pub true_count : (t : List ℕ) (s : ℕ) (others : List ℕ) →
      length (groups_together t s others).cards ≡ matching (applies_to_some t s others) t (count t)

pub record Demand2Cases : Type 0 where
  -- "The 63 bytes of table T, hexadecimal", here in decimal
  pub t_bytes :
      table_t 3
      ≡ 0 ∷ 61 ∷ 1 ∷ 2 ∷ 1 ∷ 1 ∷ 0 ∷ 5
      ∷ 3 ∷ 0 ∷ 5 ∷ 0 ∷ 0 ∷ 0 ∷ 2 ∷ 0 ∷ 1 ∷ 0 ∷ 1
      ∷ 4 ∷ 0 ∷ 1 ∷ 0 ∷ 10 ∷ 0 ∷ 2 ∷ 0 ∷ 1 ∷ 0 ∷ 0
      ∷ 5 ∷ 0 ∷ 1 ∷ 0 ∷ 20 ∷ 2 ∷ 2 ∷ 0 ∷ 0 ∷ 0 ∷ 0
      ∷ 0 ∷ 0 ∷ 2 ∷ 0 ∷ 0 ∷ 1 ∷ 1 ∷ 0 ∷ 1 ∷ 1 ∷ 1
      ∷ 4 ∷ 0 ∷ 1 ∷ 0 ∷ 30 ∷ 0 ∷ 2 ∷ 1 ∷ 1 ∷ 0 ∷ 1
      ∷ []
  -- "T, (0,0,0): may, 10."
  pub t_0_0_0 : GivesRuling (table_t 3) (only 0) (other_values 0 0) 2 (ruled permit 1 1) (10 ∷ 0 ∷ [])
  -- "(1,1,1): may, 30."
  pub t_1_1_1 : GivesRuling (table_t 3) (only 1) (other_values 1 1) 2 (ruled permit 1 1) (30 ∷ 0 ∷ [])
  -- "(2,0,1): none, no card."
  pub t_2_0_1 : GivesRuling (table_t 3) (only 2) (other_values 0 1) 2 (ruled not_applicable 0 1) (0 ∷ 0 ∷ [])
  -- "T, (2,0,0), list of 3: not; 10, 20, 0."
  pub t_2_0_0 : GivesRuling (table_t 3) (only 2) (other_values 0 0) 3 (ruled deny 2 1) (10 ∷ 20 ∷ 0 ∷ [])
  -- "T with root kind 2, (2,0,0): may; 10, 20."
  pub t_root_kind_2 : GivesRuling (table_t 2) (only 2) (other_values 0 0) 2 (ruled permit 2 1) (10 ∷ 20 ∷ [])
  -- "Root kind 1: unclear; same cards."
  pub t_root_kind_1 : GivesRuling (table_t 1) (only 2) (other_values 0 0) 2 (ruled indeterminate 2 1) (10 ∷ 20 ∷ [])
  -- "Root kind 3 over an only-one group with two matching may rules: not."
  pub root_kind_3_over_only_one : GivesRuling (over_only_one 3) (only 0) (other_values 0 0) 3 (ruled deny 2 1) (1 ∷ 2 ∷ 0 ∷ [])
  -- "Root kind 2 over that group: unclear."
  pub root_kind_2_over_only_one : GivesRuling (over_only_one 2) (only 0) (other_values 0 0) 3 (ruled indeterminate 2 1) (1 ∷ 2 ∷ 0 ∷ [])
