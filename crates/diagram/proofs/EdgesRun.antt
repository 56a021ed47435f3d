-- The open edges of a level take the values walked, in runs: each value to the child that it was given.
use mathlib.Core.Path.{◌≡◌, refl, subst}
use mathlib.Core.Bool.{Bool, true, false, cond}
use mathlib.Core.Logic.{⊎_elim}
use mathlib.Core.List.{List, [], ◌∷◌}
use Prim.Native.Nat.{ℕ, zero, suc, ◌+◌, ◌≤◌, ◌<◌}
use native.Mathlib.Omega.{arith}
use borrow.Author.Tests.{eqb-true}
use lib.Dec.{eqb}
use lib.ListN.{length}
use Rattle.diagram.specs.Entries.{Edge}
use Rattle.diagram.specs.Walk.{Entries, Entered, extend, below}
use Rattle.diagram.specs.Decided.{le?}
use Rattle.diagram.proofs.StandsIn.{edge_of}

-- the edges take the values from a up to, not including, n, the next edge those after the last of the one before; P v c: value v may go to place c
abbrev pub Runs : (ℕ → ℕ → Type 0) → ℕ → List Edge → ℕ → Type 0
Runs P a [] n = a ≡ n
Runs P a (e ∷ es) n = (a ≤ e.last) × ((v : ℕ) → a ≤ v → v ≤ e.last → P v e.child) × Runs P (suc e.last) es n

-- a claim about places that follows from another
pub runs_map : (P Q : ℕ → ℕ → Type 0) → ((v c : ℕ) → P v c → Q v c) → (a : ℕ) (es : List Edge) (n : ℕ) → Runs P a es n → Runs Q a es n
runs_map P Q f a [] n h = h
runs_map P Q f a (e ∷ es) n h = (h.0, λ v l r. f v e.child (h.1 v l r), runs_map P Q f (suc e.last) es n h.2)

module _ (P : ℕ → ℕ → Type 0) where
  -- there is an edge where there is a value
  pub runs_some : (es : List Edge) (n : ℕ) → Runs P 0 es (suc n) → 1 ≤ length es
  runs_some [] n h = absurd (omega arith)
  runs_some (e ∷ es) n h = omega arith

  -- last values rise
  pub runs_rise : (es : List Edge) (a n j : ℕ) → Runs P a es n → j + 1 < length es → (edge_of es j).last < (edge_of es (suc j)).last
  runs_rise [] a n j h l = absurd (omega arith)
  runs_rise (e ∷ []) a n j h l = absurd (omega arith)
  runs_rise (e ∷ f ∷ es) a n zero h l = h.2.0
  runs_rise (e ∷ f ∷ es) a n (suc j) h l = runs_rise (f ∷ es) (suc e.last) n j h.2 (omega arith)

  -- the last edge ends with the last value
  pub runs_end : (es : List Edge) (a n j : ℕ) → Runs P a es n → suc j ≡ length es → suc (edge_of es j).last ≡ n
  runs_end [] a n j h e = absurd (omega arith)
  runs_end (e ∷ []) a n zero h l = h.2
  runs_end (e ∷ []) a n (suc j) h l = absurd (omega arith)
  runs_end (e ∷ f ∷ es) a n zero h l = absurd (omega arith)
  runs_end (e ∷ f ∷ es) a n (suc j) h l = runs_end (f ∷ es) (suc e.last) n j h.2 (omega arith)

  -- each edge's child is one for its last value
  pub runs_child : (es : List Edge) (a n j : ℕ) → Runs P a es n → j < length es → P (edge_of es j).last (edge_of es j).child
  runs_child [] a n j h l = absurd (omega arith)
  runs_child (e ∷ es) a n zero h l = h.1 e.last h.0 (omega arith)
  runs_child (e ∷ es) a n (suc j) h l = runs_child es (suc e.last) n j h.2 (omega arith)

  -- each edge's child is one for each value that the edges before it end below and it does not
  pub runs_value : (es : List Edge) (a n j v : ℕ) → Runs P a es n → j < length es → a ≤ v →
      ((i : ℕ) → i < j → (edge_of es i).last < v) → v ≤ (edge_of es j).last → P v (edge_of es j).child
  runs_value [] a n j v h l from before reaches = absurd (omega arith)
  runs_value (e ∷ es) a n zero v h l from before reaches = h.1 v from reaches
  runs_value (e ∷ es) a n (suc j) v h l from before reaches =
      runs_value es (suc e.last) n j v h.2 (omega arith) (before 0 (omega arith)) (λ i m. before (suc i) (omega arith)) reaches

  -- one more value, which goes to c: by itself, after one edge, and after any

  alone : (a n c : ℕ) → a ≡ n → P n c → Runs P a (record { last = n; child = c } ∷ []) (suc n)
  alone a n c e h = (omega arith, λ v l r. let z : n ≡ v = omega arith in subst (λ x. P x c) z h, refl)

  after_one : (e : Edge) (a n c : ℕ) (b : Bool) → eqb e.child c ≡ b → Runs P a (e ∷ []) n → P n c →
      Runs P a (cond b (record { last = n; child = c } ∷ []) (e ∷ record { last = n; child = c } ∷ [])) (suc n)
  after_one e a n c true t h g = (
    omega (arith, h.0, h.2),
    λ v l r.
        ⊎_elim
        (λ (m : v ≤ e.last). subst (P v) (eqb-true e.child c t) (h.1 v l m))
        (λ m. let z : n ≡ v = omega (arith, m, h.2) in subst (λ x. P x c) z g)
        (le? v e.last),
    refl,
  )
  after_one e a n c false t h g = (h.0, h.1, alone (suc e.last) n c h.2 g)

  extend_runs : (es : List Edge) (a n c : ℕ) → Runs P a es n → P n c → Runs P a (extend es n c) (suc n)
  unfolding extend
  extend_runs [] a n c h g = alone a n c h g
  extend_runs (e ∷ []) a n c h g = after_one e a n c (eqb e.child c) refl h g
  extend_runs (e ∷ f ∷ es) a n c h g = (h.0, h.1, extend_runs (f ∷ es) (suc e.last) n c h.2 g)

-- the values of a level: where all under value v gives it a place that P allows, and keeps those of the values before it, so do its edges
pub below_runs : (P : Entries → ℕ → ℕ → Type 0) (under : ℕ → Entries → Entered) →
    ((v : ℕ) (xs : Entries) → P (under v xs).entries v (under v xs).place) →
    ((v : ℕ) (xs : Entries) (u c : ℕ) → P xs u c → P (under v xs).entries u c) →
    (es : Entries) (n : ℕ) → Runs (P (below under es n).entries) 0 (below under es n).edges n
unfolding below
below_runs P under gives stays es zero = refl
below_runs P under gives stays es (suc n) =
    let o = below under es n in
    let r = under n o.entries in
    extend_runs (P r.entries) o.edges 0 n r.place
    (runs_map (P o.entries) (P r.entries) (stays n o.entries) 0 o.edges n (below_runs P under gives stays es n))
    (gives n o.entries)
