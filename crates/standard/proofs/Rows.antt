-- What a group holds, by the numbers on the rows: those of its first child and of the node where it ends.
use mathlib.Core.Path.{◌≡◌, refl, sym, ap, subst, ◌∙◌}
use mathlib.Core.Bool.{Bool, true, false, not, ◌||◌}
use mathlib.Core.Logic.{⊎_elim}
use mathlib.Core.List.{List, [], ◌∷◌}
use Prim.Native.Nat.{ℕ, zero, suc, ◌+◌, ◌≤◌, ◌<◌}
use native.Mathlib.Nat.{eq-or-lt_of_le}
use native.Mathlib.Omega.{arith}
use borrow.Author.Tests.{eq-eqb, ne_eqb}
use lib.Dec.{eqb}
use lib.ListN.{get_or, set, length-set}
use lib.Seq.{get_or-set_same, get_or-set_other}
use Rattle.answer.proofs.Tests.{lt_or_ge}
use Rattle.combining.specs.Ways.{any}
use Rattle.encoding.specs.Layout.{count, span}
use Rattle.table.specs.Tree.{end_of}
use Rattle.table.specs.WellFormed.{WellFormed}
use Rattle.ruling.specs.Forest.{children_of}
use Rattle.ruling.proofs.ChildrenByParents.{OnRow, row_from, row_first, row_next, children_first, children_next, children_end}
use Rattle.standard.specs.Pass.{tally, Tallied}

module _ (p : ℕ → Bool) (x : ℕ) where
  -- from x, one more for each of these nodes that passes the test
  abbrev tallies : List ℕ → ℕ
  tallies [] = x
  tallies (j ∷ js) = tally (p j) (tallies js)

  at_least : (js : List ℕ) → x ≤ tallies js
  at_least [] = omega arith
  at_least (j ∷ js) = by (p j) (at_least js)
    where
      by : (b : Bool) → x ≤ tallies js → x ≤ tally b (tallies js)
      by true h = omega arith
      by false h = h

  -- some node passes exactly where the number is another
  any_tallied : (js : List ℕ) → any p js ≡ not (eqb (tallies js) x)
  any_tallied [] = sym (ap not (eq-eqb x x refl))
  any_tallied (j ∷ js) = by (p j) (any_tallied js)
    where
      by : (b : Bool) → any p js ≡ not (eqb (tallies js) x) → (b || any p js) ≡ not (eqb (tally b (tallies js)) x)
      by true e = sym (ap not (ne_eqb (tallies js + 1) x (λ h. omega (arith, at_least js))))
      by false e = e

module _ (t : List ℕ) (w : WellFormed t) (i : ℕ) (l : i < count t) (p : ℕ → Bool) (on : List ℕ) (h : Tallied t p (i + 1) on) where
  abbrev beyond : ℕ
  beyond = get_or on (end_of t i) 0

  inside : end_of t i ≤ count t
  inside = w.inside i l

  -- the number on the row of a child, by the children from it on

  row_ends : (j : ℕ) → end_of t i ≤ j → OnRow t i j → get_or on j 0 ≡ tallies p beyond (row_from t i j)
  row_ends j b r =
      let e : j ≡ end_of t i = omega (arith, r.within) in
      ap (λ k. get_or on k 0) e ∙ ap (tallies p beyond) (sym (children_end t w i l j r b))

  row_tallied : (m j : ℕ) → end_of t i ≤ j + m → OnRow t i j → get_or on j 0 ≡ tallies p beyond (row_from t i j)
  row_tallied zero j few r = row_ends j (omega arith) r
  row_tallied (suc m) j few r =
      ⊎_elim
      (λ (b : j < end_of t i).
      h.each j (omega (arith, r.after)) (omega (arith, inside))
      ∙ ap (tally (p j)) (row_tallied m (end_of t j) (omega (arith, w.spans j (omega (arith, inside)))) (row_next t w i l j r b))
      ∙ ap (tallies p beyond) (sym (children_next t w i l j r b)))
      (λ (b : end_of t i ≤ j). row_ends j b r)
      (lt_or_ge j (end_of t i))

  -- some child passes the test exactly where the two numbers differ
  pub holds_by_rows : any p (children_of t i) ≡ not (eqb (get_or on (i + 1) 0) (get_or on (end_of t i) 0))
  holds_by_rows =
      any_tallied p beyond (children_of t i)
      ∙ ap (λ x. not (eqb x beyond))
      (ap (tallies p beyond) (children_first t w i l) ∙ sym (row_tallied (span t i) (i + 1) (omega arith) (row_first t w i l)))

  -- with node i's own number, the rows from it on
  module _ (v : ℕ) (e : v ≡ tally (p i) beyond) where
    own : get_or (set on i v) i 0 ≡ v
    own = get_or-set_same on i v 0 (omega (arith, h.room))

    other : (j : ℕ) → i < j → get_or (set on i v) j 0 ≡ get_or on j 0
    other j a = get_or-set_other on i j v 0 (λ (k : j ≡ i). omega arith)

    each_with : (j : ℕ) → i ≤ j → j < count t → get_or (set on i v) j 0 ≡ tally (p j) (get_or (set on i v) (end_of t j) 0)
    each_with j a b =
        let some : 1 ≤ span t j = w.spans j b in
        ⊎_elim
        (λ (k : i ≡ j). subst (λ m. get_or (set on i v) m 0 ≡ tally (p m) (get_or on (end_of t m) 0)) k (own ∙ e))
        (λ (k : i < j). other j k ∙ h.each j (omega arith) b)
        (eq-or-lt_of_le a)
        ∙ ap (tally (p j)) (sym (other (end_of t j) (omega arith)))

    few_with : (j : ℕ) → i ≤ j → j ≤ count t → get_or (set on i v) j 0 + j ≤ count t
    few_with j a b =
        ⊎_elim
        (λ (k : i ≡ j). omega (arith, ap (λ m. get_or (set on i v) m 0) k, own, e, most (p i), h.few (end_of t i) (omega (arith, w.spans i l)) inside, w.spans i l))
        (λ (k : i < j). omega (arith, other j k, h.few j (omega arith) b))
        (eq-or-lt_of_le a)
      where
        most : (q : Bool) → tally q beyond ≤ beyond + 1
        most true = omega arith
        most false = omega arith

    pub tallied_with : Tallied t p i (set on i v)
    tallied_with = record { room = omega (arith, h.room, length-set on i v); each = each_with; few = few_with }
