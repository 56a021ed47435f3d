-- Laws of a node's parent and level, and of following parents.
use mathlib.Core.Path.{◌≡◌, refl, sym, ap, ◌∙◌}
use mathlib.Core.Bool.{cond}
use mathlib.Core.Logic.{⊎_elim}
use mathlib.Core.List.{List}
use Prim.Native.Nat.{ℕ, zero, suc, ◌≤◌, ◌<◌}
use native.Mathlib.Nat.{eq-or-lt_of_le, eq-zero-or-pos}
use native.Mathlib.Omega.{arith}
use borrow.Author.Tests.{lt-ltb, le-ltb, eq-eqb, ne_eqb}
use lib.Dec.{eqb}
use Rattle.answer.proofs.Tests.{lt_or_ge}
use Rattle.encoding.specs.Layout.{span}
use Rattle.table.specs.Tree.{end_of, latest, parent, level_within, level, Above, itself, further}

module _ (t : List ℕ) where
  pub latest_here : (i n : ℕ) → i < end_of t n → latest t i (suc n) ≡ n
  latest_here i n h = ap (λ b. cond b n (latest t i n)) (lt-ltb i (end_of t n) h)

  pub latest_next : (i n : ℕ) → end_of t n ≤ i → latest t i (suc n) ≡ latest t i n
  latest_next i n h = ap (λ b. cond b n (latest t i n)) (le-ltb i (end_of t n) h)

  latest_below : (i n : ℕ) → latest t i (suc n) ≤ n
  latest_below i zero =
      ⊎_elim (λ (h : i < end_of t 0). omega (arith, latest_here i 0 h)) (λ (h : end_of t 0 ≤ i). omega (arith, latest_next i 0 h)) (lt_or_ge i (end_of t 0))
  latest_below i (suc n) =
      ⊎_elim
      (λ (h : i < end_of t (suc n)). omega (arith, latest_here i (suc n) h))
      (λ (h : end_of t (suc n) ≤ i). omega (arith, latest_next i (suc n) h, latest_below i n))
      (lt_or_ge i (end_of t (suc n)))

  -- a parent stands earlier
  pub parent_below : (i : ℕ) → 0 < i → parent t i < i
  unfolding parent
  parent_below zero l = absurd (omega arith)
  parent_below (suc m) l = omega (arith, latest_below (suc m) m)

  -- no node between the latest that reaches over a node and the bound reaches over it
  latest_gap : (i n k : ℕ) → latest t i n < k → k < n → end_of t k ≤ i
  latest_gap i zero k l h = absurd (omega arith)
  latest_gap i (suc n) k l h =
      ⊎_elim
      (λ (r : i < end_of t n). absurd (omega (arith, latest_here i n r)))
      (λ (r : end_of t n ≤ i).
      ⊎_elim
      (λ (q : k ≡ n). omega (arith, ap (span t) q))
      (λ (q : k < n). latest_gap i n k (omega (arith, latest_next i n r)) q)
      (eq-or-lt_of_le (omega arith)))
      (lt_or_ge i (end_of t n))

  -- where no node from m up to n reaches over node i, the latest below n is the latest below m
  latest_skip : (i m n : ℕ) → m ≤ n → ((k : ℕ) → m ≤ k → k < n → end_of t k ≤ i) → latest t i n ≡ latest t i m
  latest_skip i m zero l h = let z : ◌≡◌ {A = ℕ} 0 m = omega arith in ap (latest t i) z
  latest_skip i m (suc n) l h =
      ⊎_elim
      (λ (q : m ≡ suc n). ap (latest t i) (sym q))
      (λ (q : m < suc n).
      latest_next i n (h n (omega arith) (omega arith)) ∙ latest_skip i m n (omega arith) (λ k a b. h k a (omega arith)))
      (eq-or-lt_of_le l)

  -- Climbing: where node j does not reach over a later node i, the latest that does is j's parent or stands before it.
  pub latest_climb : (i j : ℕ) → 0 < j → j ≤ i → latest t i j ≡ latest t i (suc (parent t j))
  unfolding parent
  latest_climb i j l h =
      latest_skip i (suc (latest t j j)) j (parent_below j l)
      (λ k a b. let e : end_of t k ≤ j = latest_gap j j k (omega arith) b in omega arith)

  -- where an earlier node reaches over node i, its parent is no earlier and reaches over it too
  pub parent_reaches : (i j : ℕ) → j < i → i < end_of t j → (j ≤ parent t i) × (i < end_of t (parent t i))
  unfolding parent
  parent_reaches i j l h = among i j l h
    where
      among : (n j : ℕ) → j < n → i < end_of t j → (j ≤ latest t i n) × (i < end_of t (latest t i n))
      among zero j l h = absurd (omega arith)
      among (suc n) j l h =
          ⊎_elim
          (λ (r : i < end_of t n). rw (latest_here i n r) (omega arith, r))
          (λ (r : end_of t n ≤ i).
          ⊎_elim
          (λ (q : j ≡ n). absurd (omega (arith, ap (span t) q)))
          (λ (q : j < n). rw (latest_next i n r) (among n j q h))
          (eq-or-lt_of_le (omega arith)))
          (lt_or_ge i (end_of t n))

  level_one : (f i : ℕ) → i ≡ 0 → level_within f t i ≡ 1
  level_one zero i e = refl
  level_one (suc f) i e = ap (λ b. cond b 1 (suc (level_within f t (parent t i)))) (eq-eqb i 0 e)

  level_enough : (f g i : ℕ) → i ≤ f → i ≤ g → level_within f t i ≡ level_within g t i
  level_enough zero g i hf hg = sym (level_one g i (omega arith))
  level_enough (suc f) zero i hf hg = level_one (suc f) i (omega arith)
  level_enough (suc f) (suc g) i hf hg =
      ⊎_elim
      (λ (e : i ≡ 0). level_one (suc f) i e ∙ sym (level_one (suc g) i e))
      (λ (l : 0 < i).
      ap (λ x. cond (eqb i 0) 1 (suc x))
      (level_enough f g (parent t i) (omega (arith, parent_below i l)) (omega (arith, parent_below i l))))
      (eq-zero-or-pos i)

  -- the root is on level 1
  pub level_root : level t 0 ≡ 1
  unfolding level
  level_root = refl

  -- a child one level below its parent
  pub level_child : (i : ℕ) → 0 < i → level t i ≡ suc (level t (parent t i))
  unfolding level
  level_child zero l = absurd (omega arith)
  level_child (suc m) l =
      ap (λ b. cond b 1 (suc (level_within m t (parent t (suc m))))) (ne_eqb (suc m) 0 (λ e. omega arith))
      ∙ ap suc
      (level_enough m (parent t (suc m)) (parent t (suc m)) (omega (arith, parent_below (suc m) l)) (omega arith))

  pub above_trans : {i j k : ℕ} → Above t i j → Above t j k → Above t i k
  above_trans itself u = u
  above_trans (further l v) u = further l (above_trans v u)

  pub above_parent : {i j : ℕ} → Above t i j → 0 < j → Above t i (parent t j)
  above_parent u l = above_trans u (further l itself)

  -- a node above is on no deeper level
  pub above_level : {i j : ℕ} → Above t i j → level t j ≤ level t i
  above_level itself = omega arith
  above_level (further {i = i} l u) = omega (arith, above_level u, level_child i l)

  -- a node above another stands no later
  pub above_earlier : {i j : ℕ} → Above t i j → j ≤ i
  above_earlier itself = omega arith
  above_earlier (further {i = i} l u) = omega (arith, above_earlier u, parent_below i l)
