-- Request 2, "Only one, by target": "a group child counts when its target holds, though no card in it matches. A rule child counts when it matches.
-- None counted gives none, two or more give unclear, one gives its own decision."
use Rattle.std.specs.Prelude.{Bool, true, List, [], ◌∷◌, map, ◌≡◌, ℕ, ◌+◌, ◌<◌}
use Rattle.answer.specs.Answers.{ruled}
use Rattle.combining.specs.Kinds.{only_one_applicable_kind}
use Rattle.combining.specs.Ways.{not_applicable, permit, indeterminate, counting, sole}
use Rattle.encoding.specs.Layout.{count, kind}
use Rattle.table.specs.Reading.{Accepted}
use Rattle.ruling.specs.Forest.{children_of}
use Rattle.ruling.specs.Meaning.{child_of, decision}
use Rattle.building.specs.Built.{built_diagram}
use Rattle.demands.specs.Tables.{permit_for0, silent_for0, empty_for1, only_one_over}
use Rattle.demands.specs.Outcomes.{other_values, request, only, GivesRuling, GivesLookUp}

pub record Request2 : Type 0 where
  -- what an "only one" group that applies gives: by those of its children, the nodes whose parent it is, that apply, and by nothing else of the
  -- others; for any test of which nodes apply, as a question's and a party's are
  pub only_one_worded : (t : List ℕ) (a : ℕ → Bool) (i : ℕ) → Accepted t → i < count t → kind t i ≡ only_one_applicable_kind → a i ≡ true →
      decision a t i ≡ sole (counting (map (λ j. child_of a j (decision a t j)) (children_of t i)))

pub record Request2Cases : Type 0 where
  -- "A group that holds but is silent, beside one matching may card, is now unclear.": with that card
  pub silent_beside_permit :
      GivesRuling (only_one_over (silent_for0 ∷ permit_for0 ∷ [])) (only 0) (other_values 0 0) 2 (ruled indeterminate 1 1) (1 ∷ 0 ∷ [])
  -- "one gives its own decision": none, of a silent group
  pub one_silent : GivesRuling (only_one_over (silent_for0 ∷ [])) (only 0) (other_values 0 0) 1 (ruled not_applicable 0 1) (0 ∷ [])
  -- "two or more give unclear": with no card, by the groups and by the diagram
  pub two_silent : GivesRuling (only_one_over (silent_for0 ∷ silent_for0 ∷ [])) (only 0) (other_values 0 0) 1 (ruled indeterminate 0 1) (0 ∷ [])
  pub two_silent_looked_up :
      GivesLookUp (built_diagram (only_one_over (silent_for0 ∷ silent_for0 ∷ [])) 64) (request 0 0 0) 1 (ruled indeterminate 0 0) (0 ∷ [])
  -- "For a party, a child counts when it holds for the party.": the rule alone for subject 0, the empty group alone for subject 1, for both
  -- together the two
  pub one_counts_for_0 : GivesRuling (only_one_over (empty_for1 ∷ permit_for0 ∷ [])) (only 0) (other_values 0 0) 1 (ruled permit 1 1) (1 ∷ [])
  pub one_counts_for_1 : GivesRuling (only_one_over (empty_for1 ∷ permit_for0 ∷ [])) (only 1) (other_values 0 0) 1 (ruled not_applicable 0 1) (0 ∷ [])
  pub two_count_for_both :
      GivesRuling (only_one_over (empty_for1 ∷ permit_for0 ∷ [])) (only 0 + only 1) (other_values 0 0) 1 (ruled indeterminate 1 2) (1 ∷ [])
