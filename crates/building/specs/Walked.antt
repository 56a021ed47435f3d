-- The walk of the fields from one on, where a set of nodes is still possible, and what is remembered of it (for the contracts inside).
-- Assumes nothing: these are definitions.
use Rattle.std.specs.Prelude.{Bool, List, [], ◌≡◌, ℕ, get_or, drop, Option, Some, None}
use Rattle.answer.specs.Fields.{fields}
use Rattle.sets.specs.Sets.{has}
use Rattle.sets.specs.declared.Set.{Set}
use Rattle.encoding.specs.Layout.{maxima}
use Rattle.ruling.specs.Ruling.{groups}
use Rattle.applying.specs.Members.{ruling_from}
use Rattle.diagram.specs.Walk.{Entries, Entered, walk}
use Rattle.entering.specs.Walking.{Stays, Remembered, Walks}
use Rattle.building.specs.declared.remembering.Known.{Known}
use Rattle.building.specs.declared.remembering.Seen.{Seen}
use Rattle.building.specs.declared.walking.Root.{Root}

-- the walk of the fields from `field` on, where the fields before it leave the nodes a
abbrev pub walk_by : List ℕ → ℕ → (ℕ → Bool) → Entries → Entered
walk_by t field a es = walk fields (drop field (maxima t)) (ruling_from t field a) es

-- among the entries es that walk adds nothing, and what it gives stands at place p
abbrev pub StaysBy : List ℕ → ℕ → Set → Entries → ℕ → Type 0
StaysBy t field nodes es p = Stays (drop field (maxima t)) (ruling_from t field (has nodes)) es p

-- slot s holds a set, a field and a place: where the walk from that field on ended, with that set
abbrev pub Slot : List (Option Seen) → ℕ → Set → ℕ → ℕ → Type 0
Slot seen s nodes field place = get_or seen s None ≡ Some (record { nodes = nodes; field = field; place = place })

-- what a slot holds stays, among the entries es
abbrev pub SlotStays : List ℕ → ℕ → Option Seen → Entries → Type 0
SlotStays t s None es = Unit {0}
SlotStays t s (Some x) es = StaysBy t x.field x.nodes es x.place

-- all that is remembered stays, among the entries es
abbrev pub Remembers : List ℕ → List (Option Seen) → Entries → Type 0
Remembers t seen es = Remembered None (SlotStays t) seen es

-- the place of the neighbour's walk stays, among the entries es, where there is a neighbour
abbrev pub Near : List ℕ → ℕ → Option Known → Entries → Type 0
Near t field None es = Unit {0}
Near t field (Some near) es = StaysBy t field near.nodes es near.place

-- all that is remembered, and the neighbour's place, stays among the entries es
abbrev pub RemembersNear : List ℕ → List (Option Seen) → ℕ → Option Known → Entries → Type 0
RemembersNear t seen field near es = Remembers t seen es × Near t field near es

-- the walk of all fields, of what the groups give
abbrev pub walk_all : List ℕ → Entries → Entered
walk_all t es = walk fields (maxima t) (groups t) es

-- The walk of all fields, in a cleared diagram of n places.
abbrev pub AllWalked : List ℕ → ℕ → List ℕ → Option Root → Type 0
AllWalked t n d None = (index : List ℕ) × (end : ℕ) × Walks (walk_all t) (λ es. es ≡ []) (λ es. Unit {0}) n d index end None
AllWalked t n d (Some root) = (index : List ℕ) × Walks (walk_all t) (λ es. es ≡ []) (λ es. Unit {0}) n d index root.end (Some root.place)
