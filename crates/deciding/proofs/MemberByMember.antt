-- A group's running decision, which takes in the children that are in the set, one after another: the children between them are out,
-- and change nothing.
use mathlib.Core.Path.{◌≡◌, refl, sym, ap, ◌∙◌}
use mathlib.Core.Bool.{Bool, true, false, true≢false}
use mathlib.Core.Logic.{⊎_elim}
use mathlib.Core.List.{List}
use Prim.Native.Nat.{ℕ, zero, suc, ◌+◌, ◌-◌, ◌≤◌, ◌<◌}
use native.Mathlib.Nat.{eq-or-lt_of_le}
use native.Mathlib.Omega.{arith}
use Rattle.answer.proofs.Tests.{lt_or_ge}
use Rattle.combining.specs.Ways.{as_child}
use Rattle.combining.specs.Running.{Reachable, Started, Taken}
use Rattle.combining.specs.declared.Running.{Running}
use Rattle.encoding.specs.Layout.{kind, span, count}
use Rattle.table.specs.Tree.{end_of}
use Rattle.table.specs.WellFormed.{WellFormed}
use Rattle.ruling.specs.Meaning.{decision}
use Rattle.ruling.specs.Walk.{SpansInside}
use Rattle.ruling.proofs.Forest.{whole_under, whole_after}
use Rattle.ruling.proofs.Decisions.{ruled_group, over, over_start, over_none, over_more, over_skip}
use Rattle.sets.specs.Sets.{most, Next}
use Rattle.targets.specs.Closed.{Closed}

-- What holds before the children of group i from node from up, to its end: the group's decision is the way of the running decision r and of
-- those children.
pub record Before (a : ℕ → Bool) (t : List ℕ) (i end from : ℕ) (r : Running) : Type 0 where
  pub reachable : Reachable r
  pub whole : SpansInside t from end
  pub later : i < from
  pub left : decision a t i ≡ over a t r from end

-- What holds before the child, the next of them that is in the set.
pub record BeforeChild (a : ℕ → Bool) (t : List ℕ) (i end child : ℕ) (r : Running) : Type 0 where
  pub before : Before a t i end child r
  pub inside : child < count t
  pub in_set : a child ≡ true

module _ {a : ℕ → Bool} {t : List ℕ} (w : WellFormed t) (c : Closed t a) where
  -- the children up to the next that is in the set are out, and change nothing
  skip : (n : ℕ) {i j end : ℕ} {r : Running} → end - i ≤ n → Reachable r → SpansInside t i end → i ≤ j → ((m : ℕ) → i ≤ m → m < j → a m ≡ false) →
      (j < end → a j ≡ true) → over a t r i end ≡ over a t r j end
  skip zero {i} {j} {end} b s h l out is =
      over_none a t w s i end (omega arith) ∙ sym (over_none a t w s j end (omega arith))
  skip (suc n) {i} {j} {end} {r} b s h l out is =
      ⊎_elim
      (λ (e : i ≡ j). ap (λ m. over a t r m end) e)
      (λ (m : i < j).
      ⊎_elim
      (λ (k : i < end).
      let x : i < count t = omega (arith, h.inside) in
      let past : end_of t i ≤ j =
      ⊎_elim
      (λ (y : j < end_of t i).
      absurd (true≢false (sym (is (omega (arith, h.each i (omega arith) k))) ∙ c i j x l y (out i (omega arith) m))))
      (λ y. y)
      (lt_or_ge j (end_of t i)) in
      over_skip a t w s h k refl (out i (omega arith) m)
      ∙ skip n (omega (arith, w.spans i x)) s (whole_after t w i end h) past (λ o p. out o (omega arith)) is)
      (λ (k : end ≤ i). over_none a t w s i end k ∙ sym (over_none a t w s j end (omega arith)))
      (lt_or_ge i end))
      (eq-or-lt_of_le l)

  -- the first node after the group's own
  pub before_first : {i end k s : ℕ} {r : Running} → (i < count t) × (a i ≡ true) → k ≡ kind t i → k < 4 → s ≡ span t i → end ≡ i + s →
      Started k r → Before a t i end (i + 1) r
  before_first {i} {end} {k} {s} {r} h ek lk es ee x =
      let z : end ≡ end_of t i = omega arith in
      record {
        reachable = x.reachable;
        whole = rw z (whole_under t w i h.0);
        later = omega arith;
        left = sym (ruled_group a t i end k (over a t r (i + 1) end) h.1 ek lk z (sym (over_start a t (i + 1) end x)));
      }

  module _ {i end from : ℕ} {r : Running} (h : Before a t i end from r) where
    -- the end of the group is no further than a set reaches
    pub end_within : end ≤ most
    end_within = omega (arith, h.whole.inside, w.few)

    -- the next child that is in the set
    pub before_child : {child : ℕ} → Next end a from child × (child < end) → BeforeChild a t i end child r
    before_child {child} (n, l) = record {
      before = record {
        reachable = h.reachable;
        whole = record { inside = h.whole.inside; each = λ m x y. h.whole.each m (omega (arith, n.from)) y };
        later = omega (arith, h.later, n.from);
        left = h.left ∙ skip (end - from) (omega arith) h.reachable h.whole n.from n.between n.passes;
      };
      inside = omega (arith, h.whole.inside);
      in_set = n.passes l;
    }

    -- no child is left
    pub before_end : from ≤ end → ((j : ℕ) → from ≤ j → j < end → a j ≡ false) → r.decision ≡ decision a t i
    before_end l none =
        sym
        (h.left ∙ skip (end - from) (omega arith) h.reachable h.whole l none (λ m. absurd (omega arith))
        ∙ over_none a t w h.reachable end end (omega arith))

  -- the children after one, once it was taken in
  pub before_next : {i end child d next : ℕ} {r r' : Running} → BeforeChild a t i end child r → child < end → d ≡ decision a t child →
      Taken r (as_child d true) r' → next ≡ end_of t child → Before a t i end next r'
  before_next {i} {end} {child} {d} h l ed k z = record {
    reachable = k.reachable;
    whole = rw z (whole_after t w child end h.before.whole);
    later = omega (arith, h.before.later);
    left = h.before.left ∙ over_more a t w h.before.reachable h.before.whole l z h.in_set ed k;
  }
