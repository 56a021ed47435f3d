-- What a look-up reads in the numbers of a diagram.
-- Assumes nothing: these are definitions.
use Rattle.std.specs.Prelude.{Bool, List, [], ◌∷◌, ℕ, ◌+◌, leb, take, drop}
use Rattle.answer.specs.Requests.{first_from}
use Rattle.answer.specs.Rulings.{Ruling}
use Rattle.diagram.specs.Layout.{root, decision_at, count_at, edges_at, last_at, child_at}

-- "label: 0, decision, number of cards, the cards": the ruling of the terminal at p
abbrev pub ruling_at : List ℕ → ℕ → Ruling
ruling_at d p = record { decision = decision_at d p; cards = take (count_at d p) (drop (p + 3) d) }

-- edge j of the node at p reaches up to value v
abbrev pub reaches : List ℕ → ℕ → ℕ → ℕ → Bool
reaches d p v j = leb v (last_at d p j)

-- "Edges rise; the first begins at 0, the next one after the last": the edge of value v is the first whose last value is not below v
unfoldable pub edge : List ℕ → ℕ → ℕ → ℕ
edge d p v = first_from (reaches d p v) 0 (edges_at d p)

-- where value v leads from the node at p
abbrev pub child : List ℕ → ℕ → ℕ → ℕ
child d p v = child_at d p (edge d p v)

-- the ruling for the values from place p down: a terminal's where no value is left, else that of the rest at the child
unfoldable pub look_up : List ℕ → ℕ → List ℕ → Ruling
look_up d p [] = ruling_at d p
look_up d p (v ∷ q) = look_up d (child d p v) q

-- the ruling that the diagram gives a request
abbrev pub ruled_by : List ℕ → List ℕ → Ruling
ruled_by d q = look_up d (root d) q
