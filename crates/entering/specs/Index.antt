-- The index of a diagram's entries: slots that hold places of entries, by a number made from an entry's own (for the contracts inside).
-- Assumes nothing: these are definitions.
use Rattle.std.specs.Prelude.{Bool, ◌&&◌, List, [], ◌∷◌, ◌++◌, ◌≡◌, ℕ, ◌+◌, ◌-◌, ◌*◌, ◌%◌, ◌<◌, ltb, leb, length, get_or, take, drop, set, Option, Some, None, IfSome}
use Rattle.answer.specs.Fields.{fields}
use Rattle.diagram.specs.Layout.{header, size_at}
use Rattle.diagram.specs.Walk.{Entries, joined, same, enter}
use Rattle.entering.specs.declared.finding.Found.{Found}
use Rattle.entering.specs.declared.finding.Found.TheVariants.{Equal, Absent}

-- how many slots there are, and how many of them are tried for an entry
abbrev pub slots : ℕ
slots = 8192

abbrev pub tries : ℕ
tries = 32

-- a number made from those of an entry, h from those before them
abbrev pub hashed : ℕ → List ℕ → ℕ
hashed h [] = h
hashed h (x ∷ xs) = hashed ((h * 40503 + x) % 65536) xs

-- the slot that is tried for an entry after j others
abbrev pub slot_of : List ℕ → ℕ → ℕ
slot_of e j = (hashed 0 e + j) % slots

-- what slot s holds: a place, or 0 for none
abbrev pub place_in : List ℕ → ℕ → ℕ
place_in index s = get_or index s 0

-- an equal entry stands at place p already
abbrev pub StandsAt : Entries → List ℕ → ℕ → Type 0
StandsAt es e p = enter (header fields) es e ≡ record { entries = es; place = p }

-- no equal entry stands: it is to follow the last one
abbrev pub IsNew : Entries → List ℕ → Type 0
IsNew es e = enter (header fields) es e ≡ record { entries = es ++ (e ∷ []); place = header fields + length (joined es) }

-- the slots tried for an entry before the j-th hold places of others
abbrev pub Others : Entries → List ℕ → List ℕ → ℕ → Type 0
Others es index e j = (i : ℕ) → i < j → (place_in index (slot_of e i) ≡ 0 → ⊥) × (StandsAt es e (place_in index (slot_of e i)) → ⊥)

-- The index is right about the entries es.
pub record Indexed (es : Entries) (index : List ℕ) : Type 0 where
  -- the index has all the slots
  pub sized : length index ≡ slots
  -- a slot that holds a place holds that of an entry
  pub points : (s : ℕ) → (place_in index s ≡ 0 → ⊥) → (e : List ℕ) × StandsAt es e (place_in index s)
  -- an entry for which an empty slot is tried, after others, is new
  pub covers : (e : List ℕ) (j : ℕ) → j < tries → Others es index e j → place_in index (slot_of e j) ≡ 0 → IsNew es e

-- what starts at place p of the diagram d, and ends before `end`, is equal to e
abbrev pub equal_at : List ℕ → ℕ → ℕ → List ℕ → Bool
equal_at d end p e = ltb p end && (leb (size_at d p) (end - p) && same (take (size_at d p) (drop p d)) e)

-- the index once a place is noted in a slot, where there is one
abbrev pub noted : Option ℕ → List ℕ → ℕ → List ℕ
noted None index place = index
noted (Some s) index place = set index s place

-- an entry found stands before the end, and a slot is one of the index
abbrev pub FoundWithin : ℕ → Found → Type 0
FoundWithin end (Equal place) = place < end
FoundWithin end (Absent slot) = IfSome slot (λ s. s < slots)

-- no entry is equal to e: it is to stand at the end, and may be noted in the slot
pub record NoneFound (es : Entries) (index : List ℕ) (end : ℕ) (e : List ℕ) (slot : Option ℕ) : Type 0 where
  pub is : end ≡ (enter (header fields) es e).place
  pub noted : Indexed (es ++ (e ∷ [])) (noted slot index end)

-- an equal entry was found at its place, or there is none
abbrev pub Finding : Entries → List ℕ → ℕ → List ℕ → Found → Type 0
Finding es index end e (Equal place) = place ≡ (enter (header fields) es e).place
Finding es index end e (Absent slot) = NoneFound es index end e slot
