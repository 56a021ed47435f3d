-- From the place that a walk gives down, its entries rule as the rulings walked.
use mathlib.Core.List.{List, [], ◌∷◌}
use Prim.Native.Nat.{ℕ, suc, ◌-◌}
use lib.ListN.{length}
use Rattle.answer.specs.Rulings.{Ruling}
use Rattle.diagram.specs.Layout.{header}
use Rattle.diagram.specs.Entries.{terminal, Edge, node}
use Rattle.diagram.specs.Walk.{Entries, Entered, enter, Open, below, given, walk}
use Rattle.diagram.proofs.EntryPlaces.{EntryAt, Begins, entry_stays}
use Rattle.diagram.proofs.EntriesGrow.{enter_entry, enter_begins, under, walk_begins}
use Rattle.diagram.proofs.EdgesRun.{Runs, runs_map, below_runs}

module _ (k : ℕ) where
  -- from place c down, the entries xs rule as f does within the maxima ms of the last fields of k
  abbrev pub Rules : List ℕ → Entries → ℕ → (List ℕ → Ruling) → Type 0
  Rules [] xs c f = EntryAt (header k) xs c (terminal (f []))
  Rules (m ∷ ms) xs c f =
      (es : List Edge) × EntryAt (header k) xs c (node (k - length ms) es) × Runs (λ v p. Rules ms xs p (given f v)) 0 es (suc m)

  -- more entries at the end change nothing
  pub rules_stay : (ms : List ℕ) (xs ys : Entries) (c : ℕ) (f : List ℕ → Ruling) → Begins xs ys → Rules ms xs c f → Rules ms ys c f
  rules_stay [] xs ys c f b h = entry_stays (header k) xs ys c (terminal (f [])) b h
  rules_stay (m ∷ ms) xs ys c f b h = (
    h.0,
    entry_stays (header k) xs ys c (node (k - length ms) h.0) b h.1,
    runs_map (λ v p. Rules ms xs p (given f v)) (λ v p. Rules ms ys p (given f v))
        (λ v p r. rules_stay ms xs ys p (given f v) b r) 0 h.0 (suc m) h.2,
  )

  -- the edges of a level rule as f does
  abbrev pub LevelRules : ℕ → List ℕ → (List ℕ → Ruling) → Open → Type 0
  LevelRules m ms f o = Runs (λ v p. Rules ms o.entries p (given f v)) 0 o.edges (suc m)

  level_by_lem : (m : ℕ) (ms : List ℕ) (f : List ℕ → Ruling) →
      ((v : ℕ) (xs : Entries) → Rules ms (under k ms f v xs).entries (under k ms f v xs).place (given f v)) →
      (es : Entries) → LevelRules m ms f (below (under k ms f) es (suc m))
  level_by_lem m ms f rules es =
      below_runs (λ xs v p. Rules ms xs p (given f v)) (under k ms f) rules
      (λ v xs u p h. rules_stay ms xs (under k ms f v xs).entries p (given f u) (walk_begins k ms (given f v) xs) h)
      es (suc m)

  -- the entries from the place down that a walk gives rule as f does
  pub walk_rules : (ms : List ℕ) (f : List ℕ → Ruling) (es : Entries) → Rules ms (walk k ms f es).entries (walk k ms f es).place f
  unfolding walk
  walk_rules [] f es = enter_entry (terminal (f [])) (header k) es
  walk_rules (m ∷ ms) f es =
      let o : Open = below (under k ms f) es (suc m) in
      let e : List ℕ = node (k - length ms) o.edges in
      let r : Entered = enter (header k) o.entries e in (
        o.edges,
        enter_entry e (header k) o.entries,
        runs_map (λ v p. Rules ms o.entries p (given f v)) (λ v p. Rules ms r.entries p (given f v))
            (λ v p h. rules_stay ms o.entries r.entries p (given f v) (enter_begins e (header k) o.entries) h)
            0 o.edges (suc m) (level_by_lem m ms f (λ v xs. walk_rules ms (given f v) xs) es),
      )

  -- the open edges that the walk of a level leaves rule as f does
  pub level_rules : (m : ℕ) (ms : List ℕ) (f : List ℕ → Ruling) (es : Entries) → LevelRules m ms f (below (under k ms f) es (suc m))
  level_rules m ms f es = level_by_lem m ms f (λ v xs. walk_rules ms (given f v) xs) es
