-- Demand 3 holds, and its cases.
use mathlib.Core.Path.{◌≡◌, refl, sym, ap, ◌∙◌}
use mathlib.Core.Bool.{Bool, true, false}
use mathlib.Core.Logic.{◌↔◌}
use mathlib.Core.List.{List, [], ◌∷◌, ◌++◌, map}
use Prim.Native.Nat.{ℕ, ◌-◌, ◌≤◌, ◌<◌}
use native.Mathlib.Omega.{arith}
use borrow.Author.Tests.{leb-false, lt-leb, le-ltb}
use lib.ListN.{length}
use Rattle.answer.specs.Fields.{fields}
use Rattle.answer.specs.Answers.{counted, ruled, zeros, padded}
use Rattle.answer.specs.Rulings.{answer_of}
use Rattle.answer.proofs.SameRuling.{same_ruling}
use Rattle.combining.specs.Ways.{not_applicable, Child}
use Rattle.combining.proofs.Fold.{pick, way_none}
use Rattle.encoding.specs.Layout.{maximum, maxima, kind}
use Rattle.table.specs.Reading.{Accepted}
use Rattle.table.proofs.AcceptedIsWellFormed.{well_formed}
use Rattle.table.proofs.Computing.{table_computes}
use Rattle.ruling.specs.Forest.{children_from}
use Rattle.targets.specs.Targets.{target_holds, applies}
use Rattle.targets.specs.Subjects.{applies_to_some, size, AskedWithin}
use Rattle.ruling.specs.Meaning.{gives, child_of, decision, cards_from, cards, meaning}
use Rattle.ruling.specs.Ruling.{groups}
use Rattle.targets.proofs.Throughout.{pass_root}
use Rattle.targets.proofs.AppliesByParents.{applies_by_parents}
use Rattle.ruling.proofs.Cards.{matches_group}
use Rattle.ruling.proofs.CardsOfMatchingRules.{each_listed, number_of_cards}
use Rattle.ruling.proofs.DecisionAsWorded.{decision_as_worded_lem}
use Rattle.ruling.proofs.DecisionByChildren.{decision_by_children}
use Rattle.ruling.proofs.Decisions.{gives_not, gives_group}
use Rattle.diagram.specs.OneRuling.{one_ruling}
use Rattle.diagram.specs.LookedUp.{looked_up, looked_up_list}
use Rattle.diagram.proofs.Computing.{diagram_computes}
use Rattle.diagram.proofs.DiagramGoesByRulingsWithin.{diagram_goes_by_rulings_within}
use Rattle.diagram.proofs.OneRulingForAll.{one_ruling_for_all}
use Rattle.building.specs.Built.{diagram_of, room_refusal, built, built_diagram}
use Rattle.building.proofs.BuildAnswers.{none_fits, succeeds_exactly, accepted_built, used_part_lem}
use Rattle.building.proofs.BuiltAnswersAsGroups.{built_answers}
use Rattle.building.proofs.EqualExactlyWhenTablesAlike.{equal_exactly_when_tables_alike}
use Rattle.demands.specs.Words.{WithinFields, LongEnough, Rules, Builds, used_part, RuleAlike}
use Rattle.demands.specs.Tables.{empty_root}
use Rattle.demands.specs.Outcomes.{GivesRuling, GivesDiagram}
use Rattle.demands.specs.Demand3.{Demand3, EmptyRoot, none_ruled, Demand3Cases}
use Rattle.demands.proofs.Computing.{tables_compute, cases_compute}
use Rattle.demands.proofs.Demand2Holds.{question}

-- through the walk's diagram, which the used part is
module _ (t : List ℕ) (room : ℕ) (b : Builds t room) where
  pub walked : used_part t room ≡ diagram_of t
  walked = used_part_lem t room b.succeeds

  after : built_diagram t room ≡ padded (used_part t room) room
  after =
      let h = (succeeds_exactly t room).0 b.succeeds in
      (accepted_built t room h.0 h.1).1 ∙ ap (λ d. padded d room) (sym walked)

  pub through : (following q : List ℕ) (n : ℕ) → WithinFields t q → LongEnough (groups t q) n →
      let d = used_part t room ++ following in Rules (looked_up d q n) (looked_up_list d q n) (groups t q) 0 n
  through following q n w l =
      let most = ((succeeds_exactly t room).0 b.succeeds).1.0 in
      let h = built_answers t following b.bytes b.accepted most q n w.0 w.1 l in
      record {
        answer = ap (λ d. looked_up (d ++ following) q n) walked ∙ h.0;
        cards = ap (λ d. looked_up_list (d ++ following) q n) walked ∙ h.1;
      }

equal : (t u : List ℕ) (room other : ℕ) → Builds t room → Builds u other →
    (used_part t room ≡ used_part u other) ↔ ((maxima t ≡ maxima u) × RuleAlike t u)
equal t u room other b c =
    let h = equal_exactly_when_tables_alike t u in (
      λ e.
          let a = h.0 (sym (walked t room b) ∙ e ∙ walked u other c) in
          (a.0, λ q w. let g = a.1 q w.0 w.1 in (ap (λ r. r.decision) g, ap (λ r. r.cards) g)),
      λ a.
          walked t room b
          ∙ h.1 (a.0, λ q n w. let g = a.1 q (n, w) in same_ruling (groups t q) (groups u q) g.0 g.1)
          ∙ sym (walked u other c),
    )

succeeds : (t : List ℕ) (room : ℕ) → Accepted t → (room_refusal t room).when ≡ false → (built t room).number ≡ 0
succeeds t room c none = (succeeds_exactly t room).1 (c, none_fits t room (none, tt))

pub demand_3 : Demand3
demand_3 = record {
  diagram_rules = through;
  equal_exactly = equal;
  decision_worded = λ t q c. sym (decision_as_worded_lem t q c 0 (well_formed t c).some (pass_root t (target_holds t q)));
  matches_worded = λ t q i c l. applies_by_parents t q c i l;
  count_worded = λ t q. number_of_cards (applies t q) t;
  list_worded = λ t q i l e. each_listed (applies t q) t i l e;
  build_succeeds = succeeds;
  used_part_walked = walked;
  zeros_after = after;
}

-- an empty root, whichever nodes apply
module _ (t : List ℕ) (e : EmptyRoot t) (a : ℕ → Bool) where
  group : kind t 0 < 4
  group = leb-false 4 (kind t 0) e.group

  empty_decision : decision a t 0 ≡ not_applicable
  unfolding children_from
  empty_decision =
      let cs : ℕ → List Child = λ n. map (λ j. child_of a j (decision a t j)) (children_from t 0 1 (n - 1)) in
      decision_by_children a t e.accepted 0 (well_formed t e.accepted).some ∙ ap (λ n. gives a t 0 (cs n)) e.alone ∙ by (a 0) refl
    where
      by : (b : Bool) → a 0 ≡ b → gives a t 0 [] ≡ not_applicable
      by true h = gives_group a t 0 [] h group ∙ way_none (kind t 0) group
      by false h = gives_not a t 0 [] h

  empty_cards : cards a t ≡ []
  unfolding cards_from
  empty_cards = ap (cards_from a t 0) e.alone ∙ rw (matches_group a t 0 group) refl

  empty_meaning : meaning a t ≡ none_ruled
  empty_meaning = same_ruling (meaning a t) none_ruled empty_decision empty_cards

empty_rules : (t : List ℕ) → EmptyRoot t → (s : ℕ) (others : List ℕ) → AskedWithin (maximum t) s others →
    (n : ℕ) → GivesRuling t s others n (ruled not_applicable 0 (size s)) (zeros n)
empty_rules t e s others asked n =
    let none : n - 0 ≡ n = omega arith in
    let m = empty_meaning t e (applies_to_some t s others) in
    let h = question t s others n e.accepted asked (omega (arith, ap (λ r. length r.cards) m)) in
    (h.answer ∙ ap (λ r. answer_of r (size s)) m, h.cards ∙ ap (λ r. padded r.cards n) m ∙ ap zeros none)

empty_diagram : (t : List ℕ) → EmptyRoot t → diagram_of t ≡ one_ruling (maxima t) none_ruled
empty_diagram t e =
    diagram_goes_by_rulings_within (maxima t) (groups t) (λ q. none_ruled) (λ q w. empty_meaning t e (applies t q))
    ∙ one_ruling_for_all (maxima t) none_ruled

empty_builds : (t : List ℕ) → EmptyRoot t → (n : ℕ) → 20 ≤ n → GivesDiagram t n (counted 20) (padded (one_ruling (maxima t) none_ruled) n)
unfolding table_computes diagram_computes
empty_builds t e n l =
    let d = empty_diagram t e in
    let size : length (diagram_of t) ≡ 20 = ap length d in
    let h = accepted_built t n e.accepted (omega (arith, size), omega (arith, size)) in
    (h.0 ∙ ap counted size, h.1 ∙ ap (λ d. padded d n) d)

-- the ranges of such a root end at the maxima
module _ (kind a b c : ℕ) (few : kind < 4) where
  empty_accepted : Accepted (empty_root kind (a ∷ b ∷ c ∷ []))
  unfolding tables_compute table_computes
  empty_accepted =
      simp (
        le-ltb 5 kind (omega arith),
        le-ltb 3 kind (omega arith),
        le-ltb a 0 (omega arith),
        le-ltb a a (omega arith),
        le-ltb b 0 (omega arith),
        le-ltb b b (omega arith),
        le-ltb c 0 (omega arith),
        le-ltb c c (omega arith),
      )
      (refl, (refl, (refl, (refl, (refl, (refl, (refl, (refl, tt))))))))

  empty_is : EmptyRoot (empty_root kind (a ∷ b ∷ c ∷ []))
  unfolding tables_compute table_computes
  empty_is = record { accepted = empty_accepted; alone = refl; group = lt-leb 4 kind few }

each_empty : (kind : ℕ) → kind < 4 → (ms : List ℕ) → length ms ≡ fields → EmptyRoot (empty_root kind ms)
each_empty kind few [] e = absurd (omega arith)
each_empty kind few (a ∷ []) e = absurd (omega arith)
each_empty kind few (a ∷ b ∷ []) e = absurd (omega arith)
each_empty kind few (a ∷ b ∷ c ∷ []) e = empty_is kind a b c few
each_empty kind few (a ∷ b ∷ c ∷ d ∷ ms) e = absurd (omega arith)

pub demand_3_cases : Demand3Cases
unfolding cases_compute
demand_3_cases = record {
  t_into_63 = (refl, refl);
  t_into_64 = (refl, refl);
  empty_root_accepted = each_empty;
  empty_root_lem = empty_rules;
  empty_root_built = empty_builds;
  empty_root_of_each_kind = pick 4 _ ((refl, refl), ((refl, refl), ((refl, refl), ((refl, refl), tt))));
}
