-- In an accepted table, the nodes under a node are its children, those whose parent it is, each with the nodes under it.
use mathlib.Core.Path.{◌≡◌, refl, sym, ap, ap₂, subst, ◌∙◌}
use mathlib.Core.Bool.{Bool, true, false, cond}
use mathlib.Core.Logic.{⊎_elim}
use mathlib.Core.List.{List, [], ◌∷◌, ◌++◌}
use Prim.Native.Nat.{ℕ, zero, suc, ◌+◌, ◌-◌, ◌≤◌, ◌<◌}
use native.Mathlib.Nat.{eq-or-lt_of_le}
use native.Mathlib.Omega.{arith}
use borrow.Author.Tests.{eq-eqb, ne_eqb, eqb-true, eqb-false}
use lib.Dec.{eqb}
use Rattle.answer.proofs.Tests.{lt_or_ge}
use Rattle.encoding.specs.Layout.{span, count}
use Rattle.table.specs.Tree.{end_of, parent}
use Rattle.table.specs.Reading.{Accepted}
use Rattle.table.specs.WellFormed.{WellFormed}
use Rattle.table.proofs.AcceptedIsWellFormed.{well_formed}
use Rattle.table.proofs.Tree.{parent_below, parent_reaches}
use Rattle.table.proofs.ParentsAndSpansAgree.{parent_over}
use Rattle.ruling.specs.Forest.{node, run, under, children_from, children_of, trees}
use Rattle.ruling.proofs.Forest.{run_none, run_more}
use Rattle.ruling.proofs.Listed.{listed_join}

-- P holds of each number of a list
abbrev pub EachOf : (ℕ → Type 0) → List ℕ → Type 0
EachOf P [] = Unit {0}
EachOf P (j ∷ js) = P j × EachOf P js

module _ (t : List ℕ) (i : ℕ) where
  -- Number j is that of one of node i's children, or where node i ends: no node between i and j reaches past j.
  pub record OnRow (j : ℕ) : Type 0 where
    pub after : i < j
    pub within : j ≤ end_of t i
    pub between : (k : ℕ) → i < k → k < j → end_of t k ≤ j

  -- of node i's children, those from j on
  abbrev pub row_from : ℕ → List ℕ
  row_from j = children_from t i j (count t - j)

  -- one node more, by whether it is a child
  more : (j n : ℕ) (b : Bool) → eqb (parent t j) i ≡ b →
      children_from t i j (suc n) ≡ cond b (j ∷ children_from t i (j + 1) n) (children_from t i (j + 1) n)
  unfolding children_from
  more j n b e = ap (λ x. cond x (j ∷ children_from t i (j + 1) n) (children_from t i (j + 1) n)) e

  none : (j : ℕ) → children_from t i j 0 ≡ []
  unfolding children_from
  none j = refl

  -- nodes that are no children are passed over: of those from j up to e, those from m on are left
  skip : (n j m e : ℕ) → j + n ≡ m → m ≤ e → ((k : ℕ) → j ≤ k → k < m → parent t k ≡ i → ⊥) →
      children_from t i j (e - j) ≡ children_from t i m (e - m)
  skip zero j m e s l h = let z : j ≡ m = omega arith in ap (λ x. children_from t i x (e - x)) z
  skip (suc n) j m e s l h =
      let z : e - j ≡ suc (e - (j + 1)) = omega arith in
      ap (children_from t i j) z
      ∙ more j (e - (j + 1)) _ (ne_eqb (parent t j) i (h j (omega arith) (omega arith)))
      ∙ skip n (j + 1) m e (omega arith) l (λ k a b. h k (omega arith) b)

  -- the children among nodes, and then among those after them
  pub children_join : (m n j : ℕ) → children_from t i j (m + n) ≡ children_from t i j m ++ children_from t i (j + m) n
  children_join = listed_join (children_from t i) (λ j. eqb (parent t j) i) (λ j. j) none more

  -- a first child, and none after it
  pub children_one : (j n : ℕ) → parent t j ≡ i → ((k : ℕ) → j < k → k < j + suc n → parent t k ≡ i → ⊥) → children_from t i j (suc n) ≡ j ∷ []
  children_one j n e h =
      let z : j + suc n - (j + suc n) ≡ 0 = omega arith in
      let y : n ≡ j + suc n - (j + 1) = omega arith in
      more j n _ (eq-eqb (parent t j) i e)
      ∙ ap (λ m. j ∷ children_from t i (j + 1) m) y
      ∙ ap (λ js. j ∷ js)
      (skip n (j + 1) (j + suc n) (j + suc n) (omega arith) (omega arith) (λ k a b. h k (omega arith) b)
      ∙ ap (children_from t i (j + suc n)) z
      ∙ none (j + suc n))

  -- what holds of each node whose parent is node i holds of its children
  each_from : (P : ℕ → Type 0) (n j : ℕ) → ((k : ℕ) → j ≤ k → k < j + n → parent t k ≡ i → P k) → EachOf P (children_from t i j n)
  each_from P zero j h = rw (none j) tt
  each_from P (suc n) j h = by (eqb (parent t j) i) refl (each_from P n (j + 1) (λ k a b. h k (omega arith) (omega arith)))
    where
      by : (b : Bool) → eqb (parent t j) i ≡ b → EachOf P (children_from t i (j + 1) n) → EachOf P (children_from t i j (suc n))
      by true e rest = rw (more j n true e) (h j (omega arith) (omega arith) (eqb-true (parent t j) i e), rest)
      by false e rest = rw (more j n false e) rest

  -- and the other way round
  of_each : (P : ℕ → Type 0) (n j : ℕ) → EachOf P (children_from t i j n) → (k : ℕ) → j ≤ k → k < j + n → parent t k ≡ i → P k
  of_each P zero j e k a b h = absurd (omega arith)
  of_each P (suc n) j e k a b h = by (eqb (parent t j) i) refl (λ rest l. of_each P n (j + 1) rest k l (omega arith) h)
    where
      by : (b : Bool) → eqb (parent t j) i ≡ b → (EachOf P (children_from t i (j + 1) n) → j + 1 ≤ k → P k) → P k
      by true q later =
          let both : P j × EachOf P (children_from t i (j + 1) n) = rw (more j n true q) at e in
          ⊎_elim (λ (z : j ≡ k). subst P z both.0) (λ (z : j < k). later both.1 (omega arith)) (eq-or-lt_of_le a)
      by false q later =
          ⊎_elim
          (λ (z : j ≡ k). absurd (eqb-false (parent t j) i q (ap (parent t) z ∙ h)))
          (λ (z : j < k). later (rw (more j n false q) at e) (omega arith))
          (eq-or-lt_of_le a)

  pub each_child_lem : (P : ℕ → Type 0) → EachOf P (children_of t i) → (j : ℕ) → 0 < j → j < count t → parent t j ≡ i → P j
  each_child_lem P e j a b h = of_each P (count t - 1) 1 e j a (omega arith) h

-- nodes that have the same parents in two tables
pub children_alike : (t u : List ℕ) (i n j : ℕ) → ((k : ℕ) → j ≤ k → k < j + n → parent t k ≡ parent u k) → children_from t i j n ≡ children_from u i j n
unfolding children_from
children_alike t u i zero j h = refl
children_alike t u i (suc n) j h =
    ap₂ (λ p js. cond (eqb p i) (j ∷ js) js) (h j (omega arith) (omega arith)) (children_alike t u i n (j + 1) (λ k a b. h k (omega arith) (omega arith)))

module _ (t : List ℕ) (w : WellFormed t) (i : ℕ) (l : i < count t) where
  -- Node i reaches over node j, and no node between them does: it is j's parent.
  is_child : (j : ℕ) → i < j → j < end_of t i → ((k : ℕ) → i < k → k < j → end_of t k ≤ j) → parent t j ≡ i
  is_child j a b between =
      let p = parent_reaches t j i a b in
      ⊎_elim
      (λ (e : i ≡ parent t j). sym e)
      (λ (e : i < parent t j). absurd (omega (arith, p.1, between (parent t j) e (parent_below t j (omega arith)))))
      (eq-or-lt_of_le p.0)

  -- every child is under node i
  pub children_each : (P : ℕ → Type 0) → ((j : ℕ) → i < j → j < end_of t i → parent t j ≡ i → P j) → EachOf P (children_of t i)
  children_each P h =
      each_from t i P (count t - 1) 1
      (λ j a b e.
      h j (omega (arith, parent_below t j (omega arith))) (omega (arith, parent_over t w j (omega arith) (omega arith), ap (span t) e)) e)

  -- the first child, if there is one, stands after node i
  pub row_first : OnRow t i (i + 1)
  row_first = record { after = omega arith; within = omega (arith, w.spans i l); between = λ k a b. absurd (omega arith) }

  pub first_child : i + 1 < end_of t i → parent t (i + 1) ≡ i
  first_child h = is_child (i + 1) (omega arith) h row_first.between

  pub children_first : children_of t i ≡ row_from t i (i + 1)
  children_first =
      skip t i i 1 (i + 1) (count t) (omega arith) (omega arith) (λ k a b e. omega (arith, parent_below t k a))

  -- no node from node i's end on is a child
  pub children_end : (j : ℕ) → OnRow t i j → end_of t i ≤ j → row_from t i j ≡ []
  children_end j r b =
      let z : count t - count t ≡ 0 = omega arith in
      skip t i (count t - j) j (count t) (count t) (omega (arith, w.inside i l, r.within)) (omega arith)
      (λ k d h e. omega (arith, parent_over t w k (omega (arith, r.after)) h, ap (span t) e))
      ∙ ap (children_from t i (count t)) z
      ∙ none t i (count t)

  -- before that a number on the row is a child, and the next one stands where it ends
  module _ (j : ℕ) (r : OnRow t i j) (h : j < end_of t i) where
    inside : end_of t i ≤ count t
    inside = w.inside i l

    all : end_of t j ≤ end_of t i
    all = w.nested i j l r.after h

    one : 1 ≤ span t j
    one = w.spans j (omega (arith, inside))

    pub row_next : OnRow t i (end_of t j)
    row_next =
        record {
          after = omega (arith, r.after);
          within = all;
          between =
              λ k d e.
              ⊎_elim
              (λ (f : k < j). omega (arith, r.between k d f))
              (λ (f : j ≤ k).
              ⊎_elim (λ (g : j ≡ k). omega (arith, ap (span t) g)) (λ (g : j < k). w.nested j k (omega (arith, inside)) g e) (eq-or-lt_of_le f))
              (lt_or_ge k j);
        }

    pub children_next : row_from t i j ≡ j ∷ row_from t i (end_of t j)
    children_next =
        let z : count t - j ≡ suc (count t - (j + 1)) = omega (arith, inside) in
        ap (children_from t i j) z
        ∙ more t i j (count t - (j + 1)) _ (eq-eqb (parent t j) i (is_child j r.after h r.between))
        ∙ ap (λ js. j ∷ js)
        (skip t i (end_of t j - (j + 1)) (j + 1) (end_of t j) (count t) (omega (arith, one)) (omega (arith, all, inside))
        (λ k d e f. omega (arith, r.after, (parent_reaches t k j (omega arith) e).0)))

  -- the nodes under node i from a number on the row on
  trees_from : (m j : ℕ) → end_of t i ≤ j + m → OnRow t i j → run t j (end_of t i) ≡ trees t (row_from t i j)
  trees_from zero j few r = let e : end_of t i ≤ j = omega arith in run_none t w j (end_of t i) e ∙ ap (trees t) (sym (children_end j r e))
  trees_from (suc m) j few r =
      ⊎_elim
      (λ (h : j < end_of t i).
      run_more t w j (end_of t i) (record { inside = w.inside i l; each = λ k d e. w.nested i k l (omega (arith, r.after)) e }) h
      ∙ ap (node j (under t j)) (trees_from m (end_of t j) (omega (arith, w.spans j (omega (arith, w.inside i l)))) (row_next j r h))
      ∙ ap (trees t) (sym (children_next j r h)))
      (λ (h : end_of t i ≤ j). run_none t w j (end_of t i) h ∙ ap (trees t) (sym (children_end j r h)))
      (lt_or_ge j (end_of t i))

-- "a group asks its children, and a child that is a group asks its own in turn"
pub children_by_parents : (t : List ℕ) → Accepted t → (i : ℕ) → i < count t → under t i ≡ trees t (children_of t i)
children_by_parents t c i l =
    let w = well_formed t c in
    trees_from t w i l (span t i) (i + 1) (omega arith) (row_first t w i l) ∙ ap (trees t) (sym (children_first t w i l))
