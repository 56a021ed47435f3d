-- A level of a walk, value by value: what the values below one leave, and the node once all are walked.
use mathlib.Core.Path.{◌≡◌, refl, sym, ap, ◌∙◌}
use mathlib.Core.List.{List, ◌∷◌}
use Prim.Native.Nat.{ℕ, zero, suc, ◌+◌, ◌-◌, ◌≤◌}
use native.Mathlib.Omega.{arith}
use lib.ListN.{length, length-append}
use Rattle.answer.specs.Fields.{fields}
use Rattle.answer.specs.Rulings.{Ruling}
use Rattle.diagram.specs.Layout.{header}
use Rattle.diagram.specs.Entries.{node}
use Rattle.diagram.specs.Walk.{Entries, joined, Entered, enter, extend, Open, below, given, walk}
use Rattle.diagram.proofs.EntryPlaces.{joined_append, Begins}
use Rattle.diagram.proofs.EntriesGrow.{enter_begins, under, walk_node, walk_begins}
use Rattle.diagram.proofs.DiagramGoesByRulingsWithin.{Alike}
use Rattle.diagram.proofs.WalkingAgainAddsNothing.{alike_at_once, below_run}

-- A level: its field, that field's maximum, those of the later fields, and what is given from the field on.
pub record Level : Type 0 where
  pub field : ℕ
  pub most : ℕ
  pub later : List ℕ
  pub rulings : List ℕ → Ruling

-- the walk of a level
abbrev pub walk_level : Level → Entries → Entered
walk_level l es = walk fields (l.most ∷ l.later) l.rulings es

-- all under value v of a level
abbrev pub under_value : Level → ℕ → Entries → Entered
under_value l v xs = under fields l.later l.rulings v xs

-- the entries, and the open edges of a level, once the values below v are walked
abbrev pub opened : Level → Entries → ℕ → Open
opened l es v = below (under_value l) es v

-- entries that others begin take no more places than they
begins_places : (xs ys : Entries) → Begins xs ys → length (joined xs) ≤ length (joined ys)
begins_places xs ys b =
    omega (arith, ap (λ es. length (joined es)) b.1, ap length (joined_append xs b.0), length-append (joined xs) (joined b.0))

module _ (l : Level) (es : Entries) where
  -- values from v up to w that are ruled alike share one edge, and only the first adds entries
  pub opened_run : (v w : ℕ) → v ≤ w → ((u : ℕ) → v ≤ u → u ≤ w → Alike l.later (given l.rulings u) (given l.rulings v)) →
      opened l es (suc w)
      ≡ record {
        entries = (under_value l v (opened l es v).entries).entries;
        edges = extend (opened l es v).edges w (under_value l v (opened l es v).entries).place;
      }
  opened_run v w i same =
      let z : w ≡ w - v + v = omega arith in
      below_run (under_value l) es v (w - v) w z
      (λ u h k.
      alike_at_once fields l.later (given l.rulings v) (given l.rulings u) (opened l es v).entries (same u (omega arith) k))

  -- the places that the entries take once the values below v are walked
  abbrev places : ℕ → ℕ
  places v = length (joined (opened l es v).entries)

  -- later values only add to the places that the entries take
  places_grow : (v k w : ℕ) → w ≡ k + v → places v ≤ places w
  unfolding below
  places_grow v zero w e = let z : v ≡ w = omega arith in omega (arith, ap places z)
  places_grow v (suc k) w e =
      let u = k + v in
      let z : suc u ≡ w = omega arith in
      let xs = (opened l es u).entries in
      let one = begins_places xs (under_value l u xs).entries (walk_begins fields l.later (given l.rulings u) xs) in
      omega (arith, places_grow v k u refl, one, ap places z)

  module _ (deep : l.field + 1 + length l.later ≡ fields) where
    -- the node of a level, once all its values are walked
    pub walk_level_lem : (v : ℕ) → v ≡ suc l.most →
        walk_level l es ≡ enter (header fields) (opened l es v).entries (node (l.field + 1) (opened l es v).edges)
    walk_level_lem v e =
        let o = opened l es v in
        let z : fields - length l.later ≡ l.field + 1 = omega arith in
        walk_node fields l.most l.later l.rulings es o (ap (opened l es) (sym e))
        ∙ ap (λ n. enter (header fields) o.entries (node n o.edges)) z

    -- what stands once a value is walked takes no more places than what stands once the level is
    pub value_places : (v : ℕ) → v ≤ l.most →
        length (joined (under_value l v (opened l es v).entries).entries) ≤ length (joined (walk_level l es).entries)
    unfolding below
    value_places v i =
        let m = suc l.most in
        let o = opened l es m in
        let z : m ≡ l.most - v + suc v = omega arith in
        let e = node (l.field + 1) o.edges in
        omega (
          arith,
          places_grow (suc v) (l.most - v) m z,
          begins_places o.entries (enter (header fields) o.entries e).entries (enter_begins e (header fields) o.entries),
          ap (λ (y : Entered). length (joined y.entries)) (walk_level_lem m refl),
        )
