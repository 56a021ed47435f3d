-- What stands in the places of a diagram over k fields, as document 01 words it under "The diagram".
-- Assumes nothing: these are definitions.
use Rattle.std.specs.Prelude.{cond, List, [], ◌∷◌, ℕ, ◌+◌, ◌*◌, eqb, get_or}

-- "Places 0 to 4 hold: places used, place of the root, the three maxima. Entries follow from place 5": the first entry's place
abbrev pub header : ℕ → ℕ
header k = 2 + k

-- "used is at most [..] 32,768"
abbrev pub most_places : ℕ
most_places = 32768

-- "A lent slice of 16-bit numbers": the number in place p
abbrev pub number_at : List ℕ → ℕ → ℕ
number_at d p = get_or d p 0

-- "places used"
abbrev pub used : List ℕ → ℕ
used d = number_at d 0

-- "place of the root"
abbrev pub root : List ℕ → ℕ
root d = number_at d 1

-- "the three maxima": that of field f
abbrev pub maximum : List ℕ → ℕ → ℕ
maximum d f = number_at d (2 + f)

-- "label: 0", "node: level": what the entry at p begins with
abbrev pub level_at : List ℕ → ℕ → ℕ
level_at d p = number_at d p

-- "label: 0, decision, number of cards, the cards": the decision of the label at p
abbrev pub decision_at : List ℕ → ℕ → ℕ
decision_at d p = number_at d (p + 1)

-- "number of cards"
abbrev pub count_at : List ℕ → ℕ → ℕ
count_at d p = number_at d (p + 2)

-- "the cards": the i-th
abbrev pub card_at : List ℕ → ℕ → ℕ → ℕ
card_at d p i = number_at d (p + 3 + i)

-- "node: level [..], number of edges, then for each edge [..]": the number of edges of the node at p
abbrev pub edges_at : List ℕ → ℕ → ℕ
edges_at d p = number_at d (p + 1)

-- "for each edge its last value": that of the j-th
abbrev pub last_at : List ℕ → ℕ → ℕ → ℕ
last_at d p j = number_at d (p + 2 + 2 * j)

-- "and its child's place": that of the j-th
abbrev pub child_at : List ℕ → ℕ → ℕ → ℕ
child_at d p j = number_at d (p + 3 + 2 * j)

-- "for each edge its last value and its child's place": both of the j-th
abbrev pub edge_at : List ℕ → ℕ → ℕ → List ℕ
edge_at d p j = last_at d p j ∷ child_at d p j ∷ []

-- how many places the entry at p takes: "label: 0, decision, number of cards, the cards", or "node: level [..], number of edges, then for each edge its last value and its child's place"
abbrev pub size_at : List ℕ → ℕ → ℕ
size_at d p = cond (eqb (level_at d p) 0) (3 + count_at d p) (2 + 2 * edges_at d p)
