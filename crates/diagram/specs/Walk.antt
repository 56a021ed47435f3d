-- The walk, and the diagram that it gives, for any list of maxima and any rulings, as document 01 words it: "The built diagram comes from a walk".
-- Assumes nothing: these are definitions.
use Rattle.std.specs.Prelude.{Bool, true, false, cond, ◌&&◌, List, [], ◌∷◌, ◌++◌, ℕ, zero, suc, ◌+◌, ◌-◌, ◌≤◌, eqb, length}
use Rattle.answer.specs.Rulings.{Ruling}
use Rattle.diagram.specs.Layout.{header}
use Rattle.diagram.specs.Entries.{terminal, Edge, node}

-- "Entries follow from place 5": in the order in which they follow one another
abbrev pub Entries : Type 0
Entries = List (List ℕ)

-- the numbers of all entries, one entry after another
abbrev pub joined : Entries → List ℕ
joined [] = []
joined (x ∷ xs) = x ++ joined xs

-- "equal entry": equal number for number
abbrev pub same : List ℕ → List ℕ → Bool
same [] [] = true
same [] (y ∷ ys) = false
same (x ∷ xs) [] = false
same (x ∷ xs) (y ∷ ys) = eqb x y && same xs ys

-- the entries once something is entered, and its place
pub record Entered : Type 0 where
  pub entries : Entries
  pub place : ℕ

-- "entered [..] only if no equal entry stands; an equal one is pointed to": among the entries from place p on
unfoldable pub enter : ℕ → Entries → List ℕ → Entered
enter p [] e = record { entries = e ∷ []; place = p }
enter p (x ∷ xs) e =
    let r = enter (p + length x) xs e in
    cond (same x e) (record { entries = x ∷ xs; place = p }) (record { entries = x ∷ r.entries; place = r.place })

-- "Neighbouring values with the same child share one edge": value v, whose child is at c, follows the open edges
unfoldable pub extend : List Edge → ℕ → ℕ → List Edge
extend [] v c = record { last = v; child = c } ∷ []
extend (e ∷ []) v c = cond (eqb e.child c) (record { last = v; child = c } ∷ []) (e ∷ record { last = v; child = c } ∷ [])
extend (e ∷ f ∷ es) v c = e ∷ extend (f ∷ es) v c

-- the entries so far, and the "open edges" of a level
pub record Open : Type 0 where
  pub entries : Entries
  pub edges : List Edge

-- "a walk of all who values upward, within each all where values": the values of a level below n, where `under v` enters all under value v
unfoldable pub below : (ℕ → Entries → Entered) → Entries → ℕ → Open
below under es zero = record { entries = es; edges = [] }
below under es (suc v) =
    let o = below under es v in
    let r = under v o.entries in
    record { entries = r.entries; edges = extend o.edges v r.place }

-- the rulings where the first value is v
abbrev pub given : (List ℕ → Ruling) → ℕ → List ℕ → Ruling
given f v q = f (v ∷ q)

-- "A label or node is entered once all under it is entered", "No level is left out": the walk over the last fields of k, with the maxima ms; "level (1 who, 2 where, 3 deed)" goes by how many are left
unfoldable pub walk : ℕ → List ℕ → (List ℕ → Ruling) → Entries → Entered
walk k [] f es = enter (header k) es (terminal (f []))
walk k (m ∷ ms) f es =
    let o = below (λ (v : ℕ) (xs : Entries). walk k ms (given f v) xs) es (suc m) in
    enter (header k) o.entries (node (k - length ms) o.edges)

-- "places used, place of the root, the three maxima. Entries follow": the used part of the diagram of the rulings f within the maxima ms
unfoldable pub diagram : List ℕ → (List ℕ → Ruling) → List ℕ
diagram ms f =
    let r = walk (length ms) ms f [] in
    (header (length ms) + length (joined r.entries)) ∷ r.place ∷ ms ++ joined r.entries

-- "A question is within its fields when each value is at most its field's maximum": for a list of maxima
abbrev pub WithinMaxima : List ℕ → List ℕ → Type 0
WithinMaxima [] [] = Unit {0}
WithinMaxima [] (v ∷ q) = ⊥
WithinMaxima (m ∷ ms) [] = ⊥
WithinMaxima (m ∷ ms) (v ∷ q) = (v ≤ m) × WithinMaxima ms q
