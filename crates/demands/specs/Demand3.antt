-- Demand 3: "Through a diagram built here from any accepted table, in whatever room was lent, any question within the table's fields, asked with any
-- list long enough for its cards, gets a ruling whose decision, count and list, number for number, are the ones the groups give to that question; and
-- the used parts of two built diagrams, from any two accepted tables, are equal number for number exactly when the tables have the same field maxima
-- and rule alike, cards included, on every question within them."
use Rattle.std.specs.Prelude.{true, false, List, [], ◌∷◌, ◌++◌, ◌↔◌, ◌≡◌, ℕ, ◌≤◌, ◌<◌, length, get_or}
use Rattle.answer.specs.Fields.{fields}
use Rattle.answer.specs.Answers.{counted, ruled, zeros, padded}
use Rattle.answer.specs.Rulings.{Ruling}
use Rattle.combining.specs.Ways.{not_applicable}
use Rattle.encoding.specs.Layout.{maximum, maxima, count, card}
use Rattle.table.specs.Tree.{is_rule, Above}
use Rattle.table.specs.Reading.{Accepted}
use Rattle.targets.specs.Targets.{target_holds, applies}
use Rattle.targets.specs.Subjects.{size, AskedWithin}
use Rattle.ruling.specs.Meaning.{matches, matching}
use Rattle.ruling.specs.AsWorded.{decision_as_worded}
use Rattle.ruling.specs.Ruling.{groups}
use Rattle.diagram.specs.OneRuling.{one_ruling}
use Rattle.diagram.specs.LookedUp.{looked_up, looked_up_list}
use Rattle.diagram.specs.SmallRulebook.{diagram_t}
use Rattle.building.specs.Built.{diagram_of, room_refusal, built, built_diagram}
use Rattle.demands.specs.Words.{WithinFields, LongEnough, Rules, Builds, used_part, RuleAlike}
use Rattle.demands.specs.Tables.{maxima_t, table_t, empty_root}
use Rattle.demands.specs.Outcomes.{GivesRuling, GivesDiagram}

-- Paper 1: "diagrams still take one figure. So demand 3 keeps to questions of one figure, 0 up to the who maximum, in both its halves".
pub record Demand3 : Type 0 where
  -- "Any slice that starts with this used part is the same built diagram, whatever follows it"
  pub diagram_rules : (t : List ℕ) (room : ℕ) → Builds t room → (following q : List ℕ) (n : ℕ) → WithinFields t q →
      LongEnough (groups t q) n →
      let d = used_part t room ++ following in Rules (looked_up d q n) (looked_up_list d q n) (groups t q) 0 n
  -- "and the used parts of two built diagrams [..] are equal number for number exactly when"
  pub equal_exactly : (t u : List ℕ) (room other : ℕ) → Builds t room → Builds u other →
      (used_part t room ≡ used_part u other) ↔ ((maxima t ≡ maxima u) × RuleAlike t u)
  -- "The groups give a question the decision under 'How a table rules'": the root's, as worded
  pub decision_worded : (t q : List ℕ) → Accepted t → (groups t q).decision ≡ decision_as_worded t q 0
  -- "A rule matches when its own target and every target above it hold": the node's own and those of its parents
  pub matches_worded : (t q : List ℕ) (i : ℕ) → Accepted t → i < count t →
      (applies t q i ≡ true) ↔ ((j : ℕ) → Above t i j → target_holds t q j ≡ true)
  -- "as count, the number of matching rules; as list, the cards of all matching rules in table order"
  pub count_worded : (t q : List ℕ) → length (groups t q).cards ≡ matching (applies t q) t (count t)
  pub list_worded : (t q : List ℕ) (i : ℕ) → i < count t → matches (applies t q) t i ≡ true →
      get_or (groups t q).cards (matching (applies t q) t i) 0 ≡ card t i
  -- "succeeds, as it does wherever 11 doesn't apply"
  pub build_succeeds : (t : List ℕ) (room : ℕ) → Accepted t → (room_refusal t room).when ≡ false → (built t room).number ≡ 0
  -- "is the diagram that the walk gives"; "Places past the used ones become 0"
  pub used_part_walked : (t : List ℕ) (room : ℕ) → Builds t room → used_part t room ≡ diagram_of t
  pub zeros_after : (t : List ℕ) (room : ℕ) → Builds t room → built_diagram t room ≡ padded (used_part t room) room

-- "An empty root": an accepted table that is one group
pub record EmptyRoot (t : List ℕ) : Type 0 where
  pub accepted : Accepted t
  pub alone : count t ≡ 1
  pub group : is_rule t 0 ≡ false

-- "none everywhere": not applicable, with no card
abbrev pub none_ruled : Ruling
none_ruled = record { decision = not_applicable; cards = [] }

pub record Demand3Cases : Type 0 where
  -- "Its diagram has 63 places, root at 55": "T into 62 places: refusal 11. Into 63: built." One place more becomes 0.
  pub t_into_63 : GivesDiagram (table_t 3) 63 (counted 63) diagram_t
  pub t_into_64 : GivesDiagram (table_t 3) 64 (counted 63) (padded diagram_t 64)
  -- "An empty root": of each kind of group, with all maxima
  pub empty_root_accepted : (kind : ℕ) → kind < 4 → (maxima : List ℕ) → length maxima ≡ fields → EmptyRoot (empty_root kind maxima)
  -- "none everywhere": for every set that asks within its maxima and every list
  pub empty_root_lem : (t : List ℕ) → EmptyRoot t → (s : ℕ) (others : List ℕ) → AskedWithin (maximum t) s others →
      (n : ℕ) → GivesRuling t s others n (ruled not_applicable 0 (size s)) (zeros n)
  -- "20 places": in every room that has them
  pub empty_root_built : (t : List ℕ) → EmptyRoot t → (n : ℕ) → 20 ≤ n → GivesDiagram t n (counted 20) (padded (one_ruling (maxima t) none_ruled) n)
  -- "root at 16.": of each kind of group, with T's maxima
  pub empty_root_of_each_kind : (kind : ℕ) → kind < 4 →
      GivesDiagram (empty_root kind maxima_t) 20 (counted 20)
      (20 ∷ 16 ∷ 2 ∷ 1 ∷ 1
      ∷ 0 ∷ 0 ∷ 0
      ∷ 3 ∷ 1 ∷ 1 ∷ 5
      ∷ 2 ∷ 1 ∷ 1 ∷ 8
      ∷ 1 ∷ 1 ∷ 2 ∷ 12
      ∷ [])
