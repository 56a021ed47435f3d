-- Where the entries that a walk left still stand, walking again adds none and gives the same place; so does walking what rules alike.
-- Values that follow and do so share one edge.
use mathlib.Core.Path.{◌≡◌, refl, ap, ◌∙◌, subst}
use mathlib.Core.Bool.{Bool, true, false, cond}
use mathlib.Core.List.{List, [], ◌∷◌}
use Prim.Native.Nat.{ℕ, zero, suc, ◌+◌, ◌-◌, ◌≤◌, ◌<◌}
use native.Mathlib.Omega.{arith}
use borrow.Author.Tests.{eq-eqb}
use lib.Dec.{eqb}
use lib.ListN.{length}
use Rattle.answer.specs.Rulings.{Ruling}
use Rattle.diagram.specs.Layout.{header}
use Rattle.diagram.specs.Entries.{terminal, Edge, node}
use Rattle.diagram.specs.Walk.{Entries, Entered, enter, extend, below, given, walk}
use Rattle.diagram.proofs.EntryPlaces.{Begins, begins_itself, begins_on}
use Rattle.diagram.proofs.EntriesGrow.{kept, enter_begins, enter_again, below_more, under, walk_node, walk_begins}
use Rattle.diagram.proofs.DiagramGoesByRulingsWithin.{Alike, walk_goes_by_rulings_within}

module _ (under : ℕ → Entries → Entered) (es ys : Entries) (begins : (v : ℕ) (xs : Entries) → Begins xs (under v xs).entries)
    (again : (v : ℕ) (xs : Entries) → Begins (under v xs).entries ys → under v ys ≡ kept ys (under v xs).place) where
  below_again : (n : ℕ) → Begins (below under es n).entries ys → below under ys n ≡ record { entries = ys; edges = (below under es n).edges }
  unfolding below
  below_again zero b = refl
  below_again (suc n) b =
      let o = below under es n in
      let r = under n o.entries in
      below_more under ys n (record { entries = ys; edges = o.edges }) (kept ys r.place)
      (below_again n (begins_on o.entries r.entries ys (begins n o.entries) b))
      (again n o.entries b)

-- the edge to c that ends at v
abbrev edge_to : ℕ → ℕ → Edge
edge_to v c = record { last = v; child = c }

-- an edge that follows with the same child is the same edge
extend_one : (u v c : ℕ) → extend (edge_to u c ∷ []) v c ≡ edge_to v c ∷ []
unfolding extend
extend_one u v c = ap (λ b. cond b (edge_to v c ∷ []) (edge_to u c ∷ edge_to v c ∷ [])) (eq-eqb c c refl)

-- edges stay edges
extend_some : (e : Edge) (es : List Edge) (v c : ℕ) → 0 < length (extend (e ∷ es) v c)
unfolding extend
extend_some e [] v c = by (eqb e.child c)
  where
    by : (b : Bool) → 0 < length (cond b (edge_to v c ∷ []) (e ∷ edge_to v c ∷ []))
    by true = omega arith
    by false = omega arith
extend_some e (f ∷ es) v c = omega arith

-- an edge before others stays
extend_after : (e : Edge) (es : List Edge) (v c : ℕ) → 0 < length es → extend (e ∷ es) v c ≡ e ∷ extend es v c
unfolding extend
extend_after e [] v c l = absurd (omega arith)
extend_after e (f ∷ es) v c l = refl

-- a value that follows with the same child moves the last edge's end
extend_again : (es : List Edge) (u v c : ℕ) → extend (extend es u c) v c ≡ extend es v c
unfolding extend
extend_again [] u v c = extend_one u v c
extend_again (e ∷ []) u v c = by (eqb e.child c)
  where
    by : (b : Bool) →
        extend (cond b (edge_to u c ∷ []) (e ∷ edge_to u c ∷ [])) v c ≡ cond b (edge_to v c ∷ []) (e ∷ edge_to v c ∷ [])
    by true = extend_one u v c
    by false = ap (λ xs. e ∷ xs) (extend_one u v c)
extend_again (e ∷ f ∷ es) u v c =
    extend_after e (extend (f ∷ es) u c) v c (extend_some f es u c) ∙ ap (λ xs. e ∷ xs) (extend_again (f ∷ es) u v c)

-- Values after v, of which each adds nothing once v is walked and gets v's place, share v's edge.
module _ (under : ℕ → Entries → Entered) (es : Entries) (v : ℕ) where
  abbrev first : Entered
  first = under v (below under es v).entries

  pub below_run : (n w : ℕ) → w ≡ n + v →
      ((u : ℕ) → v < u → u ≤ w → under u (under v (below under es v).entries).entries ≡ under v (below under es v).entries) →
      below under es (suc w)
      ≡ record {
        entries = (under v (below under es v).entries).entries;
        edges = extend (below under es v).edges w (under v (below under es v).entries).place;
      }
  below_run zero w e same =
      let z : v ≡ w = omega arith in
      subst (λ n. below under es (suc n) ≡ record { entries = first.entries; edges = extend (below under es v).edges n first.place }) z
      (below_more under es v (below under es v) first refl refl)
  below_run (suc n) w e same =
      let o = below under es v in
      let m = n + v in
      let z : suc m ≡ w = omega arith in
      subst (λ n. below under es (suc n) ≡ record { entries = first.entries; edges = extend o.edges n first.place }) z
      (below_more under es (suc m) (record { entries = first.entries; edges = extend o.edges m first.place }) first
      (below_run n m refl (λ u l h. same u l (omega arith)))
      (same (suc m) (omega arith) (omega arith))
      ∙ ap (λ xs. record { entries = first.entries; edges = xs }) (extend_again o.edges m (suc m) first.place))

module _ (k : ℕ) where
  -- walking again adds nothing, whatever was entered since
  pub walking_again_adds_nothing : (ms : List ℕ) (f : List ℕ → Ruling) (es ys : Entries) → Begins (walk k ms f es).entries ys →
      walk k ms f ys ≡ kept ys (walk k ms f es).place
  unfolding walk
  walking_again_adds_nothing [] f es ys b = enter_again (terminal (f [])) (header k) es ys b
  walking_again_adds_nothing (m ∷ ms) f es ys b =
      let o = below (under k ms f) es (suc m) in
      let e = node (k - length ms) o.edges in
      walk_node k m ms f ys (record { entries = ys; edges = o.edges })
      (below_again (under k ms f) es ys (λ v xs. walk_begins k ms (given f v) xs)
      (λ v xs c. walking_again_adds_nothing ms (given f v) xs ys c) (suc m)
      (begins_on o.entries (enter (header k) o.entries e).entries ys (enter_begins e (header k) o.entries) b))
      ∙ enter_again e (header k) o.entries ys b

  module _ (ms : List ℕ) (f g : List ℕ → Ruling) (es : Entries) (alike : Alike ms g f) where
    -- what rules as something walked before adds nothing either, and gets its place
    pub alike_adds_nothing : (ys : Entries) → Begins (walk k ms f es).entries ys → walk k ms g ys ≡ kept ys (walk k ms f es).place
    alike_adds_nothing ys b = walk_goes_by_rulings_within k ms g f ys alike ∙ walking_again_adds_nothing ms f es ys b

    -- what rules alike adds nothing at once after the walk
    pub alike_at_once : walk k ms g (walk k ms f es).entries ≡ walk k ms f es
    alike_at_once = alike_adds_nothing (walk k ms f es).entries (begins_itself (walk k ms f es).entries)
