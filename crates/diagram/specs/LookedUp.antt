-- What ruling by a diagram answers, and what it leaves in the lent list, for every slice, request and list: refusals 12, 9 and 10, in order.
-- Assumes nothing: these are definitions.
use Rattle.std.specs.Prelude.{not, List, [], ◌∷◌, ◌++◌, ℕ}
use Rattle.answer.specs.Fields.{fields}
use Rattle.answer.specs.Refusals.{Refusal, row}
use Rattle.answer.specs.Rulings.{request_refusals, ruled_or, listed_or}
use Rattle.answer.specs.declared.Answer.{Answer}
use Rattle.diagram.specs.Layout.{maximum}
use Rattle.diagram.specs.LookUp.{ruled_by}
use Rattle.diagram.specs.Decided.{yes?}
use Rattle.diagram.specs.SoundIsDecided.{sound?}

-- "12, 0 | diagram not sound"
abbrev pub diagram_refusal : List ℕ → Refusal
diagram_refusal d = row 12 0 (not (yes? (sound? fields d)))

-- "9, 10" after 12: of request q and a list of n places
abbrev pub sound_refusals : List ℕ → List ℕ → ℕ → List Refusal
sound_refusals d q n = request_refusals (maximum d) q 0 (ruled_by d q) n

-- "By diagram: 12, 9, 10"
abbrev pub look_up_refusals : List ℕ → List ℕ → ℕ → List Refusal
look_up_refusals d q n = (diagram_refusal d ∷ []) ++ sound_refusals d q n

-- the answer to request q, of a list of n places
abbrev pub looked_up : List ℕ → List ℕ → ℕ → Answer
looked_up d q n = ruled_or (look_up_refusals d q n) (ruled_by d q) 0

-- what the list then holds: the cards, "then zeros to the list's end", zeros in a refusal
abbrev pub looked_up_list : List ℕ → List ℕ → ℕ → List ℕ
looked_up_list d q n = listed_or (look_up_refusals d q n) (ruled_by d q).cards n

-- the answer, and what the list then holds, of a diagram that is known to be sound

abbrev pub sound_looked_up : List ℕ → List ℕ → ℕ → Answer
sound_looked_up d q n = ruled_or (sound_refusals d q n) (ruled_by d q) 0

abbrev pub sound_looked_up_list : List ℕ → List ℕ → ℕ → List ℕ
sound_looked_up_list d q n = listed_or (sound_refusals d q n) (ruled_by d q).cards n
