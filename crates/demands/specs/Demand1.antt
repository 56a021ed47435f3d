-- Demand 1: "If a table, a diagram, a question or a lent list is faulty or too short in a way document 01 names, the call returns the number given
-- there and leaves zeros throughout what it was lent to write; every call ends, on all inputs, and expects no check made beforehand." Each call is
-- proved to end, and none has a requirement.
use Rattle.std.specs.Prelude.{true, List, [], ◌∷◌, ◌↔◌, ◌≡◌, ℕ, length}
use Rattle.answer.specs.Fields.{fields}
use Rattle.answer.specs.Answers.{refused, counted, zeros, padded}
use Rattle.answer.specs.Refusals.{Answers}
use Rattle.answer.specs.Rulings.{answer_of}
use Rattle.encoding.specs.Layout.{count}
use Rattle.table.specs.Reading.{table_refusals, reading, Accepted}
use Rattle.targets.specs.Subjects.{size}
use Rattle.ruling.specs.Ruling.{groups_together, ruling_refusals, ruling, ruled_list}
use Rattle.diagram.specs.Layout.{used}
use Rattle.diagram.specs.LookUp.{ruled_by}
use Rattle.diagram.specs.Sound.{Sound}
use Rattle.diagram.specs.LookedUp.{diagram_refusal, look_up_refusals, looked_up, looked_up_list}
use Rattle.diagram.specs.SmallRulebook.{diagram_t}
use Rattle.building.specs.Built.{diagram_of, build_refusals, built, built_diagram}
use Rattle.demands.specs.Words.{Builds, nothing}
use Rattle.demands.specs.Tables.{table_t}
use Rattle.demands.specs.Outcomes.{other_values, request, only, GivesRuling, GivesLookUp, GivesDiagram}

-- Of each call, its refusals in their order, each "returned where its condition holds and none earlier in this order does, and at no other time";
-- reading is lent nothing to write.
pub record Demand1 : Type 0 where
  pub reading_refuses : (t : List ℕ) → Answers (table_refusals t) refused nothing (counted (count t)) nothing (reading t) nothing
  pub ruling_refuses : (t : List ℕ) (s : ℕ) (others : List ℕ) (n : ℕ) →
      let r = groups_together t s others in
      Answers (ruling_refusals t s others n) refused (zeros n) (answer_of r (size s)) (padded r.cards n) (ruling t s others n) (ruled_list t s others n)
  pub build_refuses : (t : List ℕ) (n : ℕ) →
      Answers (build_refusals t n) refused (zeros n) (counted (length (diagram_of t))) (padded (diagram_of t) n) (built t n) (built_diagram t n)
  pub look_up_refuses : (d q : List ℕ) (n : ℕ) →
      Answers (look_up_refusals d q n) refused (zeros n) (answer_of (ruled_by d q) 0) (padded (ruled_by d q).cards n) (looked_up d q n) (looked_up_list d q n)
  -- "diagram not sound": the condition of 12
  pub unsound_refused : (d : List ℕ) → ((diagram_refusal d).when ≡ true) ↔ (Sound fields d → ⊥)
  -- "Success has number 0 and place 0", "a reading alone counts nodes, a build counts places used, both with decision 0"; "Any further
  -- part that a later request gives an answer is 0 [..] where there is nothing to show"
  pub reading_counts : (t : List ℕ) → Accepted t → reading t ≡ record { number = 0; decision = 0; place = 0; count = count t; subjects = 0 }
  pub build_counts : (t : List ℕ) (room : ℕ) → Builds t room →
      built t room ≡ record { number = 0; decision = 0; place = 0; count = used (built_diagram t room); subjects = 0 }

pub record Demand1Cases : Type 0 where
  -- "T, (2,0,0)", "List of 1: refusal 10, list 0."
  pub t_list_of_1 : GivesRuling (table_t 3) (only 2) (other_values 0 0) 1 (refused 10 0) (0 ∷ [])
  -- "the case (3,0,0) keeps its 9, field 0, by T's diagram"
  pub t_3_0_0 : GivesLookUp diagram_t (request 3 0 0) 2 (refused 9 0) (0 ∷ 0 ∷ [])
  -- "T into 62 places: refusal 11."
  pub t_into_62 : GivesDiagram (table_t 3) 62 (refused 11 0) (zeros 62)
