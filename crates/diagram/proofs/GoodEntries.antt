-- Each entry that a walk enters is a terminal of a ruling walked, or a node whose edges lead to entries before it, of the next level.
use mathlib.Core.Path.{◌≡◌, refl, sym, ap, ◌∙◌, subst}
use mathlib.Core.Bool.{cond}
use mathlib.Core.Logic.{◌⊎◌, inl, inr, ⊎_elim}
use mathlib.Core.List.{List, [], ◌∷◌, ◌++◌}
use Prim.Native.Nat.{ℕ, suc, ◌+◌, ◌-◌, ◌≤◌, ◌<◌}
use native.Mathlib.Omega.{arith}
use borrow.Author.Tests.{eq-eqb, ne_eqb}
use lib.ListN.{length, get_or, take, length-append, get_or-append}
use lib.Seq.{take-append_seam, take-append-le, get_or-append_seam}
use Rattle.answer.specs.Rulings.{Ruling}
use Rattle.diagram.specs.Layout.{header, number_at}
use Rattle.diagram.specs.Entries.{terminal, Edge, node}
use Rattle.diagram.specs.Walk.{Entries, enter, below, given, walk, WithinMaxima}
use Rattle.diagram.specs.Sound.{next_level, Holdable}
use Rattle.diagram.specs.Decided.{lt?}
use Rattle.diagram.proofs.EntryPlaces.{EntryAt}
use Rattle.diagram.proofs.EntriesGrow.{enter_adds, below_keeps, under}
use Rattle.diagram.proofs.EdgesRun.{Runs, runs_map}
use Rattle.diagram.proofs.WalkRules.{Rules, level_rules}

module _ (k : ℕ) where
  -- what an entry begins with where the maxima ms are left below the levels above it: 0 for a terminal, a node's level
  abbrev pub level_of : List ℕ → ℕ
  level_of [] = 0
  level_of (m ∷ ms) = k - length ms

  next_level_lem : (ms : List ℕ) → length ms < k → next_level k (k - length ms) ≡ level_of ms
  next_level_lem [] l = ap (λ b. cond b 0 (k - 0 + 1)) (eq-eqb (k - 0) k (omega arith))
  next_level_lem (m ∷ ms) l =
      let z : k - suc (length ms) + 1 ≡ k - length ms = omega arith in
      ap (λ b. cond b 0 (k - suc (length ms) + 1)) (ne_eqb (k - suc (length ms)) k (λ e. omega arith)) ∙ z

  -- place c starts one of the entries xs, which begins with the number level
  pub record Points (xs : Entries) (c level : ℕ) : Type 0 where
    pub entry : List ℕ
    pub at : EntryAt (header k) xs c entry
    pub some : 1 ≤ length entry
    pub begins : number_at entry 0 ≡ level

  -- from where the entries rule, an entry of the level starts
  pub rules_points : (ms : List ℕ) (xs : Entries) (c : ℕ) (f : List ℕ → Ruling) → Rules k ms xs c f → Points xs c (level_of ms)
  unfolding terminal node
  rules_points [] xs c f h = record { entry = terminal (f []); at = h; some = omega arith; begins = refl }
  rules_points (m ∷ ms) xs c f h = record { entry = node (k - length ms) h.0; at = h.1; some = omega arith; begins = refl }

-- a terminal that may stand
pub record GoodTerminal (e : List ℕ) : Type 0 where
  pub ruling : Ruling
  pub holdable : Holdable ruling
  pub is : e ≡ terminal ruling

module _ (k : ℕ) (maximum : ℕ → ℕ) where
  -- a node that may follow the entries xs
  pub record GoodNode (xs : Entries) (e : List ℕ) : Type 0 where
    pub level : ℕ
    pub edges : List Edge
    pub is : e ≡ node level edges
    pub from_one : 1 ≤ level
    pub to_last : level ≤ k
    pub runs : Runs (λ v c. Points k xs c (next_level k level)) 0 edges (suc (maximum (level - 1)))

  -- an entry that may follow the entries xs
  abbrev pub Good : Entries → List ℕ → Type 0
  Good xs e = GoodTerminal e ⊎ GoodNode xs e

  -- each entry may follow those before it
  abbrev pub AllGood : Entries → Type 0
  AllGood xs = (i : ℕ) → i < length xs → Good (take i xs) (get_or xs i [])

  good_more : (xs : Entries) (e : List ℕ) → AllGood xs → Good xs e → AllGood (xs ++ (e ∷ []))
  good_more xs e h g i l =
      ⊎_elim
      (λ (m : i < length xs).
      subst (Good (take i (xs ++ (e ∷ [])))) (sym (get_or-append xs (e ∷ []) [] i m))
      (subst (λ es. Good es (get_or xs i [])) (sym (take-append-le i xs (e ∷ []) (omega arith))) (h i m)))
      (λ m.
      let z : length xs ≡ i = omega (arith, m, length-append xs (e ∷ [])) in
      subst (λ j. Good (take j (xs ++ (e ∷ []))) (get_or (xs ++ (e ∷ [])) j [])) z
      (subst (Good (take (length xs) (xs ++ (e ∷ [])))) (sym (get_or-append_seam xs e [] []))
      (subst (λ es. Good es e) (sym (take-append_seam xs (e ∷ []))) g)))
      (lt? i (length xs))

  enter_good : (xs : Entries) (e : List ℕ) → AllGood xs → Good xs e → AllGood (enter (header k) xs e).entries
  enter_good xs e h g =
      ⊎_elim (λ a. subst AllGood (sym a) h) (λ a. subst AllGood (sym a) (good_more xs e h g)) (enter_adds e (header k) xs)

  -- the last fields of k have the maxima ms
  abbrev pub Has : List ℕ → Type 0
  Has ms = (i : ℕ) → i < length ms → maximum (k - length ms + i) ≡ get_or ms i 0

  -- the walk keeps them so, where a terminal can hold each ruling
  pub walk_good : (ms : List ℕ) (f : List ℕ → Ruling) (es : Entries) → length ms ≤ k → Has ms →
      ((q : List ℕ) → WithinMaxima ms q → Holdable (f q)) → AllGood es → AllGood (walk k ms f es).entries
  unfolding walk
  walk_good [] f es l has holdable h =
      enter_good es (terminal (f [])) h (inl (record { ruling = f []; holdable = holdable [] tt; is = refl }))
  walk_good (m ∷ ms) f es l has holdable h =
      let o = below (under k ms f) es (suc m) in
      let level : ℕ = k - length ms in
      let here : k - suc (length ms) + 0 ≡ level - 1 = omega arith in
      let top : m ≡ maximum (level - 1) = sym (has 0 (omega arith)) ∙ ap maximum here in
      enter_good o.entries (node level o.edges)
      (below_keeps AllGood (under k ms f) (suc m)
      (λ v b xs g.
      walk_good ms (given f v) xs (omega arith)
      (λ i c. let z : k - length ms + i ≡ k - suc (length ms) + suc i = omega arith in ap maximum z ∙ has (suc i) (omega arith))
      (λ q w. holdable (v ∷ q) (omega arith, w)) g)
      es h)
      (inr (record {
        level = level;
        edges = o.edges;
        is = refl;
        from_one = omega arith;
        to_last = omega arith;
        runs =
            subst (λ n. Runs (λ v c. Points k o.entries c (next_level k level)) 0 o.edges (suc n)) top
            (runs_map (λ v c. Rules k ms o.entries c (given f v)) (λ v c. Points k o.entries c (next_level k level))
            (λ v c r.
            subst (Points k o.entries c) (sym (next_level_lem k ms (omega arith))) (rules_points k ms o.entries c (given f v) r))
            0 o.edges (suc m) (level_rules k m ms f es));
      }))
