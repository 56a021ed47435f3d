-- Laws of a test of nodes that passes at a node and at every node above it, and above the next node: the first child, and the node after all under it.
use Rattle.std.proofs.Common.{◌≡◌, ℕ, zero, suc, ◌+◌, ◌<◌, ◌≤◌, Bool, true, false, not, ◌&&◌, ◌||◌, ltb, List, sym, refl, ap, ◌∙◌, ⊎_elim, true≢false, eq-or-lt_of_le, arith, le-ltb, lt-ltb}
use Rattle.answer.proofs.Tests.{lt_or_ge}
use Rattle.encoding.specs.Layout.{span, count}
use Rattle.table.specs.Tree.{end_of}
use Rattle.table.specs.WellFormed.{WellFormed}
use Rattle.table.proofs.ParentsAndSpansAgree.{reaches_through}
use Rattle.answer.specs.Below.{every_below}
use Rattle.targets.specs.Targets.{HoldAbove}
use Rattle.answer.proofs.Below.{every_true, every_false, every_each}

-- the test passes at node j, or the span of j does not reach over node i
abbrev pub passes : List ℕ → (ℕ → Bool) → ℕ → ℕ → Bool
passes t h i j = not (ltb i (end_of t j)) || h j

-- the test passes at node i and at every node above it
abbrev pub throughout : List ℕ → (ℕ → Bool) → ℕ → Bool
throughout t h i = every_below (suc i) (passes t h i)

module _ (t : List ℕ) (h : ℕ → Bool) where
  passes_by : (i j : ℕ) (b : Bool) → ltb i (end_of t j) ≡ b → passes t h i j ≡ (not b || h j)
  passes_by i j b e = ap (λ x. not x || h j) e

  passes_over : (i j : ℕ) → i < end_of t j → passes t h i j ≡ h j
  passes_over i j r = passes_by i j true (lt-ltb i (end_of t j) r)

  -- a test passes throughout exactly where it passes at each node that reaches over node i

  pub throughout_where : (i : ℕ) → ((j : ℕ) → j ≤ i → i < end_of t j → h j ≡ true) → throughout t h i ≡ true
  throughout_where i a = every_true (passes t h i) (suc i) each
    where
      each : (j : ℕ) → j < suc i → passes t h i j ≡ true
      each j l =
          ⊎_elim
          (λ (r : i < end_of t j). passes_over i j r ∙ a j (omega arith) r)
          (λ (r : end_of t j ≤ i). passes_by i j false (le-ltb i (end_of t j) r))
          (lt_or_ge i (end_of t j))

  pub throughout_each : (i : ℕ) → throughout t h i ≡ true → (j : ℕ) → j ≤ i → i < end_of t j → h j ≡ true
  throughout_each i e j l r = sym (passes_over i j r) ∙ every_each (passes t h i) (suc i) e j (omega arith)

  -- not at a node under one where it fails
  pub throughout_under : (i m : ℕ) → i ≤ m → m < end_of t i → h i ≡ false → throughout t h m ≡ false
  throughout_under i m l r e = every_false (passes t h m) (suc m) i (omega arith) (passes_over m i r ∙ e)

  -- where it passes at every node above a node, it does throughout where it passes at the node
  pub throughout_is : (i : ℕ) → HoldAbove t h i → 1 ≤ span t i → throughout t h i ≡ h i
  throughout_is i a l = by (h i) refl
    where
      above : h i ≡ true → (j : ℕ) → j ≤ i → i < end_of t j → h j ≡ true
      above e j m r = ⊎_elim (λ (k : j ≡ i). ap h k ∙ e) (λ (k : j < i). a j k r) (eq-or-lt_of_le m)

      by : (b : Bool) → h i ≡ b → throughout t h i ≡ h i
      by true e = throughout_where i (above e) ∙ sym e
      by false e = throughout_under i i (omega arith) (omega arith) e ∙ sym e

  -- what holds above the root, above the first child of a node and above the node after all under it

  pub pass_root : HoldAbove t h 0
  pass_root j l r = absurd (omega arith)

  pub pass_down : (i : ℕ) → throughout t h i ≡ true → HoldAbove t h (i + 1)
  pass_down i e j l r = throughout_each i e j (omega arith) (omega arith)

  pub pass_after : (i : ℕ) → WellFormed t → i < count t → HoldAbove t h i → HoldAbove t h (end_of t i)
  pass_after i w c a j l r =
      ⊎_elim
      (λ (m : j < i). a j m (omega (arith, w.spans i c)))
      (λ (m : i ≤ j).
      ⊎_elim
      (λ (e : i ≡ j). absurd (omega (arith, ap (span t) e)))
      (λ (n : i < j). absurd (omega (arith, w.nested i j c n l)))
      (eq-or-lt_of_le m))
      (lt_or_ge j i)

  -- where it does not pass throughout, it does at nothing under there
  pub throughout_down : WellFormed t → (i m : ℕ) → i < count t → i ≤ m → m < end_of t i → throughout t h i ≡ false → throughout t h m ≡ false
  throughout_down w i m c l r e = by (throughout t h m) refl
    where
      by : (b : Bool) → throughout t h m ≡ b → throughout t h m ≡ false
      by false f = f
      by true f =
          absurd (true≢false (sym (throughout_where i (λ j x y. throughout_each m f j (omega arith) (reaches_through t w j i m (omega arith) x y r))) ∙ e))

-- a test that passes everywhere
pub throughout_true : (t : List ℕ) (i : ℕ) → throughout t (λ j. true) i ≡ true
throughout_true t i = throughout_where t (λ j. true) i (λ j l r. refl)

-- two tests, at once or one after the other
pub throughout_and : (t : List ℕ) (g h : ℕ → Bool) (i : ℕ) → throughout t (λ j. g j && h j) i ≡ (throughout t g i && throughout t h i)
throughout_and t g h i = go (suc i)
  where
    turn : (a g h x y : Bool) → ((x && y) && (a || (g && h))) ≡ ((x && (a || g)) && (y && (a || h)))
    turn a g h false y = refl
    turn true g h true y = refl
    turn false true h true y = refl
    turn false false h true true = refl
    turn false false h true false = refl

    go : (n : ℕ) → every_below n (passes t (λ j. g j && h j) i) ≡ (every_below n (passes t g i) && every_below n (passes t h i))
    go zero = refl
    go (suc n) =
        ap (λ b. b && passes t (λ j. g j && h j) i n) (go n)
        ∙ turn (not (ltb i (end_of t n))) (g n) (h n) (every_below n (passes t g i)) (every_below n (passes t h i))
