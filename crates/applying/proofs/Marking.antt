-- Neighbouring values that have the same set become one run: what holds as the walk over the values goes on.
use mathlib.Core.Path.{◌≡◌, refl, sym, ap, ◌∙◌}
use mathlib.Core.Bool.{Bool, true, false}
use mathlib.Core.Logic.{⊎_elim}
use mathlib.Core.List.{List}
use Prim.Native.Nat.{ℕ, ◌+◌, ◌≤◌, ◌<◌}
use native.Mathlib.Nat.{eq-or-lt_of_le}
use native.Mathlib.Omega.{arith}
use borrow.Author.Tests.{eqb-true, eqb-false}
use lib.Dec.{eqb}
use lib.ListN.{length, get_or, set, length-set}
use lib.Seq.{get_or-set_same, get_or-set_other, drop-set-lt}
use Rattle.applying.specs.declared.Run.{Run}
use Rattle.applying.specs.Filled.{no_run, set_at, last_at, run_end, Runs, KeptPastMaximum}

-- the runs of the values below v are marked in the row: the last of them starts with s, and each value from v up is a run of its own
pub record Marked (most : ℕ) (row₀ row : List Run) (s v : ℕ) : Type 0 where
  pub long : length row ≡ 256
  pub below : s < v
  pub inside : v ≤ most + 1
  pub kept : (u : ℕ) → set_at row u ≡ set_at row₀ u
  pub alone : (u : ℕ) → v ≤ u → u ≤ most → last_at row u ≡ u
  pub runs : (w u : ℕ) → w < v → w ≤ u → u ≤ run_end row w → (u < v) × (set_at row u ≡ set_at row w)
  pub last : (u : ℕ) → s ≤ u → u < v → set_at row u ≡ set_at row s
  pub past : KeptPastMaximum most row₀ row

module _ (most : ℕ) (row₀ : List Run) where
  -- a value that is a run of its own has no other in it
  own : (row : List Run) (n w u : ℕ) → last_at row w ≡ w → w < n → w ≤ u → u ≤ run_end row w → (u < n) × (set_at row u ≡ set_at row w)
  own row n w u e l a b =
      let z : u ≡ w = omega (arith, e) in
      (omega arith, ap (set_at row) z)

  pub marked_first : length row₀ ≡ 256 → ((u : ℕ) → u ≤ most → last_at row₀ u ≡ u) → Marked most row₀ row₀ 0 1
  marked_first l e =
      record {
        long = l;
        below = omega arith;
        inside = omega arith;
        kept = λ u. refl;
        alone = λ u a b. e u b;
        runs = λ w u a b c. own row₀ 1 w u (e w (omega arith)) a b c;
        last = λ u a b. let z : u ≡ 0 = omega arith in ap (set_at row₀) z;
        past = refl;
      }

  pub marked_all : (row : List Run) (s v : ℕ) → most < v → Marked most row₀ row s v → Runs most row
  marked_all row s v l m w u a b c =
      let r = m.runs w u (omega arith) b c in
      (omega (arith, r.0, m.inside), r.1)

  module _ (row : List Run) (s v : ℕ) (l : v ≤ most) (m : Marked most row₀ row s v) where
    -- value v has another set: the next run starts with it
    pub marked_other : Marked most row₀ row v (v + 1)
    marked_other =
        record {
          long = m.long;
          below = omega arith;
          inside = omega arith;
          kept = m.kept;
          alone = λ u a b. m.alone u (omega arith) b;
          runs = λ w u a b c.
              ⊎_elim
              (λ (z : w ≡ v). own row (v + 1) w u (m.alone w (omega arith) (omega arith)) a b c)
              (λ (z : w < v). let r = m.runs w u z b c in (omega (arith, r.0), r.1))
              (eq-or-lt_of_le (omega arith));
          last = λ u a b. let z : u ≡ v = omega arith in ap (set_at row) z;
          past = m.past;
        }

    -- value v has the set of the run before it: the run goes on with it
    module _ (few : most < 256) (e : set_at row s ≡ set_at row v) where
      pub marked_same : Marked most row₀ (set row s (record { set = set_at row s; last = v })) s (v + 1)
      marked_same =
          record {
            long = length-set row s next ∙ m.long;
            below = omega (arith, m.below);
            inside = omega arith;
            kept = λ u. keeps u ∙ m.kept u;
            alone = λ u a b. last u (λ q. omega (arith, m.below)) ∙ m.alone u (omega arith) b;
            runs = λ w u a b c. runs_at w u a b c (eqb w s) refl;
            last = λ u a b. keeps u ∙ upto u a b ∙ sym (keeps s);
            past = drop-set-lt (most + 1) row s next (omega (arith, m.below)) ∙ m.past;
          }
        where
          next : Run
          next = record { set = set_at row s; last = v }

          row' : List Run
          row' = set row s next

          here : get_or row' s no_run ≡ next
          here = get_or-set_same row s next no_run (omega (arith, m.long, m.below))

          there : (u : ℕ) → (u ≡ s → ⊥) → get_or row' u no_run ≡ get_or row u no_run
          there u n = get_or-set_other row s u next no_run n

          last : (u : ℕ) → (u ≡ s → ⊥) → last_at row' u ≡ last_at row u
          last u n = ap (λ r. r.last) (there u n)

          keeps_by : (u : ℕ) (b : Bool) → eqb u s ≡ b → set_at row' u ≡ set_at row u
          keeps_by u true z = ap (set_at row') (eqb-true u s z) ∙ ap (λ r. r.set) here ∙ ap (set_at row) (sym (eqb-true u s z))
          keeps_by u false z = ap (λ r. r.set) (there u (eqb-false u s z))

          keeps : (u : ℕ) → set_at row' u ≡ set_at row u
          keeps u = keeps_by u (eqb u s) refl

          upto : (u : ℕ) → s ≤ u → u < v + 1 → set_at row u ≡ set_at row s
          upto u a b = ⊎_elim (λ (z : u ≡ v). ap (set_at row) z ∙ sym e) (λ (z : u < v). m.last u a z) (eq-or-lt_of_le (omega arith))

          runs_at : (w u : ℕ) → w < v + 1 → w ≤ u → u ≤ run_end row' w → (b : Bool) → eqb w s ≡ b → (u < v + 1) × (set_at row' u ≡ set_at row' w)
          runs_at w u a b c true z =
              let q : w ≡ s = eqb-true w s z in
              let k : u < v + 1 = omega (arith, ap (last_at row') q ∙ ap (λ r. r.last) here, m.below) in
              (k, keeps u ∙ upto u (omega arith) k ∙ sym (ap (set_at row) q) ∙ sym (keeps w))
          runs_at w u a b c false z =
              let r = marked_other.runs w u a b (omega (arith, last w (eqb-false w s z))) in
              (r.0, keeps u ∙ r.1 ∙ sym (keeps w))
