-- T's diagram and answers of document 01 computed from the definitions: requests looked up in it, unsound slices.
use mathlib.Core.Path.{◌≡◌, refl}
use mathlib.Core.Bool.{true}
use mathlib.Core.List.{List, [], ◌∷◌}
use Prim.Native.Nat.{ℕ, ◌+◌, ◌*◌}
use lib.ListN.{get_or, take, set}
use Rattle.answer.specs.Fields.{fields}
use Rattle.answer.specs.Answers.{refused, ruled}
use Rattle.answer.specs.Refusals.{upward, settled}
use Rattle.answer.specs.Requests.{value}
use Rattle.answer.specs.Rulings.{Ruling}
use Rattle.answer.specs.declared.Answer.{Answer}
use Rattle.diagram.specs.Entries.{terminal, node}
use Rattle.diagram.specs.Walk.{enter, extend, below, walk, diagram}
use Rattle.diagram.specs.LookUp.{edge, look_up}
use Rattle.diagram.specs.Decided.{yes?, le?, lt?, eq?, iff?, not?, and?, or?, when?, one_more?, each?}
use Rattle.diagram.specs.SoundIsDecided.{scan?, start?, entry_before?, terminal_holds?, sound_terminal?, sound_node?, sound_entry?, sound?}
use Rattle.diagram.specs.LookedUp.{looked_up, looked_up_list}
use Rattle.diagram.specs.SmallRulebook.{diagram_t}

abbrev gives : ℕ → List ℕ → Ruling
gives decision cards = record { decision = decision; cards = cards }

-- "none", with no card
abbrev none : Ruling
none = gives 0 []

-- the rulings of T, in rising order of the requests
abbrev listed_t : List Ruling
listed_t =
    gives 1 (10 ∷ []) ∷ none
    ∷ gives 1 (10 ∷ []) ∷ none
    ∷ gives 1 (10 ∷ []) ∷ none
    ∷ gives 1 (10 ∷ []) ∷ gives 1 (30 ∷ [])
    ∷ gives 2 (10 ∷ 20 ∷ []) ∷ none
    ∷ gives 1 (10 ∷ []) ∷ none
    ∷ []

-- the ruling of T for each request
abbrev pub rulings_t : List ℕ → Ruling
rulings_t q = get_or listed_t (4 * value q 0 + 2 * value q 1 + value q 2) none

-- "Its diagram has 63 places, root at 55."
pub walked_t : diagram (2 ∷ 1 ∷ 1 ∷ []) rulings_t ≡ diagram_t
unfolding diagram walk enter extend below terminal node
walked_t = refl

-- T's diagram is sound
pub sound_t : yes? (sound? fields diagram_t) ≡ true
unfolding le? lt? eq? iff? not? and? or? when? one_more? each? scan? start? entry_before? terminal_holds? sound_terminal? sound_node? sound_entry? sound?
sound_t = refl

-- Slice d gives request q this answer, where the list has n places, and the list then holds this.
pub record GivesRuling (d q : List ℕ) (n : ℕ) (a : Answer) (list : List ℕ) : Type 0 where
  pub answer : looked_up d q n ≡ a
  pub holds : looked_up_list d q n ≡ list

-- requests asked of T's diagram, and of two slices that are not sound
pub record Asked : Type 0 where
  -- "T, (0,0,0): may, 10."
  pub t_0_0_0 : GivesRuling diagram_t (0 ∷ 0 ∷ 0 ∷ []) 3 (ruled 1 1 0) (10 ∷ 0 ∷ 0 ∷ [])
  -- "T, (2,0,0), list of 3: not; 10, 20, 0."
  pub t_2_0_0 : GivesRuling diagram_t (2 ∷ 0 ∷ 0 ∷ []) 3 (ruled 2 2 0) (10 ∷ 20 ∷ 0 ∷ [])
  -- "List of 1: refusal 10, list 0."
  pub t_list_of_1 : GivesRuling diagram_t (2 ∷ 0 ∷ 0 ∷ []) 1 (refused 10 0) (0 ∷ [])
  -- "T, (3,0,0): refusal 9, field 0."
  pub t_3_0_0 : GivesRuling diagram_t (3 ∷ 0 ∷ 0 ∷ []) 3 (refused 9 0) (0 ∷ 0 ∷ 0 ∷ [])
  -- 12: cut by one place, and asked what is not within the maxima
  pub cut : GivesRuling (take 62 diagram_t) (3 ∷ 0 ∷ 0 ∷ []) 3 (refused 12 0) (0 ∷ 0 ∷ 0 ∷ [])
  -- 12: the root one place on
  pub root_on : GivesRuling (set diagram_t 1 56) (0 ∷ 0 ∷ 0 ∷ []) 3 (refused 12 0) (0 ∷ 0 ∷ 0 ∷ [])

-- each of these answers is computed
pub asked : Asked
unfolding le? lt? eq? iff? not? and? or? when? one_more? each? scan? start? entry_before? terminal_holds? sound_terminal? sound_node? sound_entry? sound?
    edge look_up upward settled
asked = record {
  t_0_0_0 = record { answer = refl; holds = refl };
  t_2_0_0 = record { answer = refl; holds = refl };
  t_list_of_1 = record { answer = refl; holds = refl };
  t_3_0_0 = record { answer = refl; holds = refl };
  cut = record { answer = refl; holds = refl };
  root_on = record { answer = refl; holds = refl };
}
