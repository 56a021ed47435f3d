-- A lent diagram while it is built, with the index of its entries, and what entering one more entry leaves (for the contracts inside).
-- Assumes nothing: these are definitions.
use Rattle.std.specs.Prelude.{List, [], ◌∷◌, ◌++◌, ◌⊎◌, ◌≡◌, ℕ, ◌+◌, ◌≤◌, ◌<◌, min, length, Option, Some, None}
use Rattle.answer.specs.Fields.{fields}
use Rattle.answer.specs.Answers.{zeros, padded}
use Rattle.answer.specs.Rulings.{Ruling}
use Rattle.diagram.specs.Layout.{header, most_places}
use Rattle.diagram.specs.Entries.{terminal, Edge, node}
use Rattle.diagram.specs.Walk.{Entries, joined, Entered}
use Rattle.entering.specs.Index.{Indexed}

-- the numbers of a terminal or of a node
abbrev pub IsEntry : List ℕ → Type 0
IsEntry e = ((r : Ruling) × (e ≡ terminal r)) ⊎ ((level : ℕ) × (edges : List Edge) × (1 ≤ level) × (e ≡ node level edges))

-- each list of numbers is an entry
abbrev pub AllEntries : Entries → Type 0
AllEntries [] = Unit {0}
AllEntries (e ∷ es) = IsEntry e × AllEntries es

-- Of the lent diagram d, the entries es take the places from the end of the header up to, not including, `end`; every other place is 0.
-- The index is right about them.
pub record Laid (es : Entries) (d index : List ℕ) (end : ℕ) : Type 0 where
  pub is : d ≡ padded (zeros (header fields) ++ joined es) (length d)
  pub ends : header fields + length (joined es) ≡ end
  pub formed : AllEntries es
  pub indexed : Indexed es index

-- of n places, those before `end` may be taken
abbrev pub Room : ℕ → ℕ → Type 0
Room n end = (header fields ≤ end) × (end ≤ n) × (end ≤ most_places)

-- 11: "the built diagram needs over 32,768 places or more than lent": so many entries
abbrev pub NoRoom : Entered → ℕ → Type 0
NoRoom x n = min most_places n < header fields + length (joined x.entries)

-- Nothing is entered: the diagram, the index and the end are left as they were.
pub record Untouched (d index : List ℕ) (end : ℕ) (d' index' : List ℕ) (end' : ℕ) : Type 0 where
  pub diagram : d' ≡ d
  pub slots : index' ≡ index
  pub ends : end' ≡ end

-- of n places, those before `end` may be taken, and a place is small
abbrev pub Within : ℕ → ℕ → ℕ → Type 0
Within n end place = Room n end × (place < most_places)

-- What entering leaves whatever the diagram holds: its end and its place are free in these bounds, and where there is no room nothing is entered.
abbrev pub Bounded : List ℕ → List ℕ → ℕ → List ℕ → List ℕ → ℕ → Option ℕ → Type 0
Bounded d index end d' index' end' None = Untouched d index end d' index' end'
Bounded d index end d' index' end' (Some place) = Within (length d) end' place

-- an entry of so many numbers that does not stand before the end is to stand there, and the next one after it
abbrev pub NewAtEnd : ℕ → ℕ → ℕ → Option ℕ → Type 0
NewAtEnd end size end' None = Unit {0}
NewAtEnd end size end' (Some place) = end ≤ place → (place ≡ end) × (end' ≡ end + size)

-- the entries of x end at `end`, what was entered stands at `place`, and the index is right about them
pub record Settled (x : Entered) (index : List ℕ) (end place : ℕ) : Type 0 where
  pub ends : header fields + length (joined x.entries) ≡ end
  pub at : place ≡ x.place
  pub indexed : Indexed x.entries index

-- where an entry stands or is to stand, before it is written
abbrev pub Settling : Entered → ℕ → List ℕ → ℕ → Option ℕ → Type 0
Settling x n index end None = NoRoom x n
Settling x n index end (Some place) = Settled x index end place

-- the entries of x stand in d up to `end`, and what was entered at `place`
pub record Stood (x : Entered) (d index : List ℕ) (end place : ℕ) : Type 0 where
  pub laid : Laid x.entries d index end
  pub at : place ≡ x.place

-- what entering an entry leaves, once it is written
abbrev pub Standing : Entered → ℕ → List ℕ → List ℕ → ℕ → Option ℕ → Type 0
Standing x n d index end None = NoRoom x n
Standing x n d index end (Some place) = Stood x d index end place
