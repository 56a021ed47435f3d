-- The tree of a table that is a base with an expansion fitted to it: parents, children and levels.
use mathlib.Core.Path.{◌≡◌, refl, sym, ap, ap₂, ◌∙◌}
use mathlib.Core.Bool.{Bool, true, false}
use mathlib.Core.Logic.{⊎_elim}
use mathlib.Core.List.{List, [], ◌∷◌, ◌++◌}
use Prim.Native.Nat.{ℕ, zero, suc, ◌+◌, ◌-◌, ◌≤◌, ◌<◌}
use native.Mathlib.Nat.{eq-zero-or-pos}
use native.Mathlib.Omega.{arith}
use borrow.Author.Tests.{le-leb, lt-leb, leb-true, leb-false}
use lib.Dec.{leb}
use Rattle.answer.proofs.Tests.{lt_or_ge}
use Rattle.answer.proofs.Below.{some_where, some_none, none_each, some_one}
use Rattle.encoding.specs.Layout.{count, span}
use Rattle.table.specs.Tree.{end_of, latest, parent, level, has_level}
use Rattle.table.specs.WellFormed.{WellFormed}
use Rattle.table.proofs.Tree.{latest_here, latest_next, parent_below, level_root, level_child}
use Rattle.ruling.specs.Forest.{children_from, children_of}
use Rattle.ruling.proofs.ChildrenByParents.{children_join, children_one, children_alike}
use Rattle.attaching.specs.Fitted.{Fitted}

module _ (t b e : List ℕ) (v : WellFormed b) (w : WellFormed e) (f : Fitted t b e) where
  abbrev n : ℕ
  n = count b

  -- where nodes end

  pub root_end : end_of t 0 ≡ n + count e
  root_end = omega (arith, f.root_span, f.counts)

  pub base_end : (i : ℕ) → 0 < i → i < n → end_of t i ≡ end_of b i
  base_end i l h = ap (λ s. i + s) (f.base_spans i l h)

  pub base_inside : (i : ℕ) → 0 < i → i < n → end_of t i ≤ n
  base_inside i l h = omega (arith, base_end i l h, v.inside i h)

  pub expansion_end : (i : ℕ) → i < count e → end_of t (n + i) ≡ n + end_of e i
  expansion_end i l = omega (arith, f.expansion_spans i l)

  -- a node of the base reaches over another exactly where it did

  pub base_reaches : (i j : ℕ) → i < n → j < n → i < end_of t j → i < end_of b j
  base_reaches i j l h r =
      ⊎_elim
      (λ (z : j ≡ 0). omega (arith, ap (span b) z, v.root))
      (λ (z : 0 < j). omega (arith, base_end j z h))
      (eq-zero-or-pos j)

  pub base_reached : (i j : ℕ) → i < n → j < n → i < end_of b j → i < end_of t j
  base_reached i j l h r =
      ⊎_elim
      (λ (z : j ≡ 0). omega (arith, ap (end_of t) z, root_end))
      (λ (z : 0 < j). omega (arith, base_end j z h))
      (eq-zero-or-pos j)

  latest_base : (i k : ℕ) → i < n → k ≤ n → latest t i k ≡ latest b i k
  latest_base i zero l h = refl
  latest_base i (suc k) l h =
      ⊎_elim
      (λ (r : i < end_of b k). latest_here t i k (base_reached i k l (omega arith) r) ∙ sym (latest_here b i k r))
      (λ (r : end_of b k ≤ i).
      latest_next t i k (not_reached r) ∙ latest_base i k l (omega arith) ∙ sym (latest_next b i k r))
      (lt_or_ge i (end_of b k))
    where
      not_reached : end_of b k ≤ i → end_of t k ≤ i
      not_reached r = ⊎_elim (λ (s : i < end_of t k). absurd (omega (arith, base_reaches i k l (omega arith) s))) (λ s. s) (lt_or_ge i (end_of t k))

  -- a node of the base has the parent that it had
  pub parent_base : (i : ℕ) → i < n → parent t i ≡ parent b i
  unfolding parent
  parent_base i l = latest_base i i l (omega arith)

  -- no node of the base but the root reaches over one of the expansion's
  latest_root : (i k : ℕ) → n ≤ i → k ≤ n → latest t i k ≡ 0
  latest_root i zero l h = refl
  latest_root i (suc k) l h =
      ⊎_elim
      (λ (z : k ≡ 0).
      ⊎_elim
      (λ (r : i < end_of t k). latest_here t i k r ∙ z)
      (λ (r : end_of t k ≤ i). latest_next t i k r ∙ latest_root i k l (omega arith))
      (lt_or_ge i (end_of t k)))
      (λ (z : 0 < k). latest_next t i k (omega (arith, base_inside k z (omega arith))) ∙ latest_root i k l (omega arith))
      (eq-zero-or-pos k)

  -- the parent of the expansion's root is the root
  pub parent_attached : parent t n ≡ 0
  unfolding parent
  parent_attached = latest_root n n (omega arith) (omega arith)

  -- one node of the expansion more, by whether it reaches over node i
  latest_more : (i k : ℕ) → k < count e → (end_of e k ≤ i → latest t (n + i) (n + k) ≡ n + latest e i k) →
      latest t (n + i) (n + suc k) ≡ n + latest e i (suc k)
  latest_more i k l before =
      let z : n + suc k ≡ suc (n + k) = omega arith in
      ap (latest t (n + i)) z
      ∙ ⊎_elim
      (λ (r : i < end_of e k). latest_here t (n + i) (n + k) (omega (arith, expansion_end k l)) ∙ ap (λ j. n + j) (sym (latest_here e i k r)))
      (λ (r : end_of e k ≤ i).
      latest_next t (n + i) (n + k) (omega (arith, expansion_end k l)) ∙ before r ∙ ap (λ j. n + j) (sym (latest_next e i k r)))
      (lt_or_ge i (end_of e k))

  latest_expansion : (i k : ℕ) → i < count e → k ≤ i → latest t (n + i) (n + suc k) ≡ n + latest e i (suc k)
  latest_expansion i zero l h = latest_more i 0 (omega arith) (λ r. absurd (omega (arith, w.root)))
  latest_expansion i (suc k) l h = latest_more i (suc k) (omega arith) (λ r. latest_expansion i k l (omega arith))

  -- every other node of the expansion has the parent that it had, which now stands so many nodes later
  pub parent_expansion : (i : ℕ) → 0 < i → i < count e → parent t (n + i) ≡ n + parent e i
  unfolding parent
  parent_expansion zero l h = absurd (omega arith)
  parent_expansion (suc i) l h = latest_expansion (suc i) i h (omega arith)

  level_base_by : (m i : ℕ) → i < m → i < n → level t i ≡ level b i
  level_base_by zero i l h = absurd (omega arith)
  level_base_by (suc m) i l h =
      ⊎_elim
      (λ (z : i ≡ 0). ap (level t) z ∙ level_root t ∙ sym (ap (level b) z ∙ level_root b))
      (λ (z : 0 < i).
      let p = parent_below b i z in
      level_child t i z
      ∙ ap (λ j. suc (level t j)) (parent_base i h)
      ∙ ap suc (level_base_by m (parent b i) (omega arith) (omega arith))
      ∙ sym (level_child b i z))
      (eq-zero-or-pos i)

  -- a node of the base is on the level that it was on
  pub level_base : (i : ℕ) → i < n → level t i ≡ level b i
  level_base i l = level_base_by (suc i) i (omega arith) l

  level_expansion_by : (m i : ℕ) → i < m → i < count e → level t (n + i) ≡ suc (level e i)
  level_expansion_by zero i l h = absurd (omega arith)
  level_expansion_by (suc m) i l h =
      ⊎_elim
      (λ (z : i ≡ 0).
      let y : n + i ≡ n = omega arith in
      ap (level t) y
      ∙ level_child t n v.some
      ∙ ap (λ j. suc (level t j)) parent_attached
      ∙ ap suc (level_root t)
      ∙ sym (ap (λ j. suc (level e j)) z ∙ ap suc (level_root e)))
      (λ (z : 0 < i).
      let p = parent_below e i z in
      level_child t (n + i) (omega arith)
      ∙ ap (λ j. suc (level t j)) (parent_expansion i z h)
      ∙ ap suc (level_expansion_by m (parent e i) (omega arith) (omega arith))
      ∙ sym (ap suc (level_child e i z)))
      (eq-zero-or-pos i)

  -- a node of the expansion is one level deeper than it was
  pub level_expansion : (i : ℕ) → i < count e → level t (n + i) ≡ suc (level e i)
  level_expansion i l = level_expansion_by (suc i) i (omega arith) l

  -- there is a ninth level exactly where the expansion has an eighth
  pub ninth_level : has_level t 9 ≡ has_level e 8
  unfolding has_level
  ninth_level = by (has_level e 8) refl
    where
      deep : ℕ → Bool
      deep i = leb 9 (level t i)

      shallow : has_level e 8 ≡ false → (i : ℕ) → i < count t → deep i ≡ false
      shallow h i l =
          ⊎_elim
          (λ (r : i < n). lt-leb 9 (level t i) (omega (arith, level_base i r, v.levels i r)))
          (λ (r : n ≤ i).
          let m : i - n < count e = omega (arith, f.counts) in
          let z : i ≡ n + (i - n) = omega arith in
          lt-leb 9 (level t i)
          (omega (arith, ap (level t) z, level_expansion (i - n) m, leb-false 8 (level e (i - n)) (none_each (λ j. leb 8 (level e j)) (count e) h (i - n) m))))
          (lt_or_ge i n)

      by : (x : Bool) → has_level e 8 ≡ x → has_level t 9 ≡ has_level e 8
      by true h =
          let s = some_one (λ j. leb 8 (level e j)) (count e) h in
          some_where deep (count t) (n + s.0) (omega (arith, f.counts, s.1.0))
          (le-leb 9 (level t (n + s.0)) (omega (arith, level_expansion s.0 s.1.0, leb-true 8 (level e s.0) s.1.1)))
          ∙ sym h
      by false h = some_none deep (count t) (shallow h) ∙ sym h

  -- the expansion's root is the last child of the root
  pub last_child : children_of t 0 ≡ children_of b 0 ++ (n ∷ [])
  last_child =
      let z : count t - 1 ≡ n - 1 + count e = omega (arith, f.counts, v.some) in
      let y : 1 + (n - 1) ≡ n = omega (arith, v.some) in
      let x : count e ≡ suc (count e - 1) = omega (arith, w.some) in
      ap (children_from t 0 1) z
      ∙ children_join t 0 (n - 1) (count e) 1
      ∙ ap₂ (λ is js. is ++ js)
      (children_alike t b 0 (n - 1) 1 (λ k l h. parent_base k (omega (arith, v.some))))
      (ap₂ (children_from t 0) y x ∙ children_one t 0 n (count e - 1) parent_attached none_after)
    where
      none_after : (k : ℕ) → n < k → k < n + suc (count e - 1) → parent t k ≡ 0 → ⊥
      none_after k l h p =
          let z : k ≡ n + (k - n) = omega arith in
          omega (arith, ap (parent t) z, parent_expansion (k - n) (omega arith) (omega (arith, w.some)), v.some)
