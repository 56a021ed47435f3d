-- The walk over the nodes for one value of a field: what it has so far, and one law for each way on.
use mathlib.Core.Path.{◌≡◌, sym, ap, ap₂, ◌∙◌}
use mathlib.Core.Bool.{Bool, true, false, ◌&&◌, ◌||◌, and-false, or-false}
use mathlib.Core.Logic.{⊎_elim}
use mathlib.Core.List.{List}
use Prim.Native.Nat.{ℕ, ◌+◌, ◌≤◌, ◌<◌}
use native.Mathlib.Nat.{eq-or-lt_of_le}
use native.Mathlib.Omega.{arith}
use borrow.Author.Tests.{lt-ltb, le-ltb, eq-eqb, ne_eqb}
use lib.Dec.{eqb, ltb}
use Rattle.answer.proofs.Tests.{lt_or_ge}
use Rattle.encoding.specs.Layout.{span, count}
use Rattle.table.specs.Tree.{end_of}
use Rattle.table.specs.WellFormed.{WellFormed}
use Rattle.targets.specs.Targets.{HoldAbove}
use Rattle.targets.proofs.Throughout.{throughout_under, throughout_is, pass_root, pass_down, pass_after}
use Rattle.sets.specs.Sets.{has, Has}
use Rattle.sets.specs.declared.Set.{Set}
use Rattle.applying.specs.Members.{range_holds, applies_in, member}

module _ (t : List ℕ) (f v : ℕ) where
  -- where every range above a node holds, it applies in the field where its own does
  applies_is : (i : ℕ) → HoldAbove t (range_holds t f v) i → 1 ≤ span t i → applies_in t f v i ≡ range_holds t f v i
  unfolding applies_in
  applies_is = throughout_is t (range_holds t f v)

  -- no node under a node whose range fails applies in the field
  applies_under_lem : (i j : ℕ) → i ≤ j → j < end_of t i → range_holds t f v i ≡ false → applies_in t f v j ≡ false
  unfolding applies_in
  applies_under_lem = throughout_under t (range_holds t f v)

  -- of the nodes below i, those that apply in the field are in the set; and the ranges above node i hold
  pub record MembersBelow (s : Set) (i : ℕ) : Type 0 where
    pub inside : i ≤ count t
    pub above : HoldAbove t (range_holds t f v) i
    pub sofar : Has s (λ j. ltb j i && applies_in t f v j)

  pub walk_starts : (s : Set) → Has s (λ j. false) → MembersBelow s 0
  walk_starts s e =
      record {
        inside = omega arith;
        above = pass_root t (range_holds t f v);
        sofar = λ j. e j ∙ sym (ap (λ b. b && applies_in t f v j) (le-ltb j 0 (omega arith)));
      }

  -- the walk is over
  pub walk_ends : (s : Set) (i : ℕ) → count t ≤ i → MembersBelow s i → Has s (member t f v)
  walk_ends s i l w j =
      let z : i ≡ count t = omega (arith, w.inside) in
      w.sofar j ∙ ap (λ n. ltb j n && applies_in t f v j) z

  module _ (wf : WellFormed t) (i : ℕ) (l : i < count t) where
    -- the range of node i holds: it is put in
    pub node_in : (s r : Set) → range_holds t f v i ≡ true → Has r (λ j. has s j || eqb i j) → MembersBelow s i → MembersBelow r (i + 1)
    node_in s r e p w =
        record {
          inside = omega arith;
          above = pass_down t (range_holds t f v) i (throughout_is t (range_holds t f v) i w.above (wf.spans i l) ∙ e);
          sofar = λ j. p j ∙ ap (λ b. b || eqb i j) (w.sofar j) ∙ more j;
        }
      where
        here : applies_in t f v i ≡ true
        here = applies_is i w.above (wf.spans i l) ∙ e

        more : (j : ℕ) → ((ltb j i && applies_in t f v j) || eqb i j) ≡ (ltb j (i + 1) && applies_in t f v j)
        more j =
            ⊎_elim
            (λ (m : j < i).
            ap₂ (λ x y. (x && applies_in t f v j) || y) (lt-ltb j i m) (ne_eqb i j (λ z. omega arith)) ∙ or-false (applies_in t f v j)
            ∙ sym (ap (λ x. x && applies_in t f v j) (lt-ltb j (i + 1) (omega arith))))
            (λ (m : i ≤ j).
            ap (λ x. (x && applies_in t f v j) || eqb i j) (le-ltb j i m)
            ∙ ⊎_elim
            (λ (z : i ≡ j). eq-eqb i j z ∙ sym (ap₂ (λ x y. x && y) (lt-ltb j (i + 1) (omega arith)) (ap (applies_in t f v) (sym z) ∙ here)))
            (λ (z : i < j). ne_eqb i j (λ y. omega arith) ∙ sym (ap (λ x. x && applies_in t f v j) (le-ltb j (i + 1) (omega arith))))
            (eq-or-lt_of_le m))
            (lt_or_ge j i)

    -- the range of node i fails: it is passed over with all nodes under it
    pub nodes_out : (s : Set) (n : ℕ) → range_holds t f v i ≡ false → n ≡ end_of t i → MembersBelow s i → MembersBelow s n
    nodes_out s n e z w =
        rw z
        (record {
          inside = wf.inside i l;
          above = pass_after t (range_holds t f v) i wf l w.above;
          sofar = λ j. w.sofar j ∙ more j;
        })
      where
        more : (j : ℕ) → (ltb j i && applies_in t f v j) ≡ (ltb j (end_of t i) && applies_in t f v j)
        more j =
            ⊎_elim
            (λ (m : j < i). ap (λ b. b && applies_in t f v j) (lt-ltb j i m ∙ sym (lt-ltb j (end_of t i) (omega arith))))
            (λ (m : i ≤ j).
            ⊎_elim
            (λ (r : j < end_of t i).
            let no : (b : Bool) → (b && applies_in t f v j) ≡ false = λ b. ap (λ x. b && x) (applies_under_lem i j m r e) ∙ and-false b in
            no (ltb j i) ∙ sym (no (ltb j (end_of t i))))
            (λ (r : end_of t i ≤ j). ap (λ b. b && applies_in t f v j) (le-ltb j i m ∙ sym (le-ltb j (end_of t i) r)))
            (lt_or_ge j (end_of t i)))
            (lt_or_ge j i)
