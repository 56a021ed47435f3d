-- What is remembered of walks by a set of nodes.
use mathlib.Core.Path.{◌≡◌, sym, ◌∙◌, subst}
use mathlib.Core.List.{List}
use Prim.Native.Nat.{ℕ}
use lib.ListN.{drop, set, replicate}
use Rattle.std.specs.Prelude.{Option, Some, None}
use Rattle.sets.specs.Sets.{has}
use Rattle.sets.specs.declared.Set.{Set}
use Rattle.encoding.specs.Layout.{maxima}
use Rattle.applying.specs.Members.{ruling_from}
use Rattle.diagram.specs.Walk.{Entries}
use Rattle.entering.specs.Walking.{Held, Walks}
use Rattle.entering.proofs.WalkedBefore.{Grows, walked_stays, stays_on, remembered_first, remembered_on, remembered_more, walks_from, walks_new}
use Rattle.building.specs.Walked.{walk_by, StaysBy, SlotStays, Remembers, Near, RemembersNear}
use Rattle.building.specs.declared.remembering.Known.{Known}
use Rattle.building.specs.declared.remembering.Seen.{Seen}

module _ (t : List ℕ) where
  -- empty slots remember nothing
  pub none_remembered : (es : Entries) (n : ℕ) → Remembers t (replicate n None) es
  none_remembered es n = remembered_first None (SlotStays t) es None n (λ s. tt) (λ s. tt)

  -- what a slot holds stays so as more entries follow
  slot_on : (s : ℕ) (x : Option Seen) → Grows (SlotStays t s x)
  slot_on s None es ys b r = tt
  slot_on s (Some x) es ys b r =
      stays_on (drop x.field (maxima t)) (ruling_from t x.field (has x.nodes)) x.place es ys b r

  -- what is remembered stays so as more entries follow
  pub remembers_on : (seen : List (Option Seen)) → Grows (Remembers t seen)
  remembers_on seen = remembered_on None (SlotStays t) slot_on seen

  -- what was walked is known of its set
  pub walked_near : (field : ℕ) (nodes : Set) (place : ℕ) (es : Entries) → place ≡ (walk_by t field (has nodes) es).place →
      Near t field (Some (record { nodes = nodes; place = place })) (walk_by t field (has nodes) es).entries
  walked_near field nodes place es at =
      subst (StaysBy t field nodes (walk_by t field (has nodes) es).entries) (sym at)
      (walked_stays (drop field (maxima t)) (ruling_from t field (has nodes)) es)

-- A walk that was not remembered was walked, from entries about which what is remembered and the neighbour are right: its place is remembered.
pub walked_noted : (t : List ℕ) (field : ℕ) (nodes : Set) (near : Option Known) (seen seen' : List (Option Seen)) {n : ℕ} {d index d' index' : List ℕ}
    {start end place : ℕ} →
    Walks (walk_by t field (has nodes)) (Held (Remembers t seen) d index start) (Remembers t seen') n d' index' end (Some place) →
    (slot : ℕ) {seen'' : List (Option Seen)} → seen'' ≡ set seen' slot (Some (record { nodes = nodes; field = field; place = place })) →
    Walks (walk_by t field (has nodes)) (Held (RemembersNear t seen field near) d index start) (Remembers t seen'') n d' index' end (Some place)
walked_noted t field nodes near seen seen' {place} w slot {seen''} e =
    walks_new (walks_from w (λ es h. (h.0, h.1.0)))
    (λ es p is at r.
    let xs = (walk_by t field (has nodes) es).entries in
    let same : place ≡ p = cc in
    subst (λ l. Remembers t l xs) (sym e)
    (remembered_more None (SlotStays t) seen' xs slot (Some (record { nodes = nodes; field = field; place = place })) r
    (walked_near t field nodes place es (same ∙ at))))
