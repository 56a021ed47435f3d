-- The sets of nodes that the build walks over are closed: a node that is out takes all nodes under it out.
use mathlib.Core.Path.{◌≡◌, refl, sym, ap, ◌∙◌, subst}
use mathlib.Core.Bool.{Bool, true, false, ◌&&◌, and-false, true≢false}
use mathlib.Core.List.{List}
use Prim.Native.Nat.{ℕ}
use native.Mathlib.Omega.{arith}
use borrow.Author.Tests.{lt-ltb}
use lib.Dec.{ltb}
use Rattle.encoding.specs.Layout.{count}
use Rattle.table.specs.WellFormed.{WellFormed}
use Rattle.targets.proofs.Throughout.{throughout_down}
use Rattle.sets.specs.Sets.{most, has, Has}
use Rattle.sets.specs.declared.Set.{Set}
use Rattle.targets.specs.Closed.{Closed}
use Rattle.applying.specs.Members.{range_holds, applies_in, member}

module _ (t : List ℕ) where
  -- the nodes that apply in a field alone
  pub member_closed : WellFormed t → (f v : ℕ) → Closed t (member t f v)
  unfolding applies_in
  member_closed w f v i j l a b e =
      ap (λ x. ltb j (count t) && x)
      (throughout_down t (range_holds t f v) w i j l a b (sym (ap (λ x. x && applies_in t f v i) (lt-ltb i (count t) l)) ∙ e))
      ∙ and-false (ltb j (count t))

  -- what two closed sets have in common is closed
  pub meet_closed : (a b : ℕ → Bool) → Closed t a → Closed t b → Closed t (λ i. a i && b i)
  meet_closed a b ca cb i j l m n e = by (a i) refl e
    where
      by : (x : Bool) → a i ≡ x → (x && b i) ≡ false → (a j && b j) ≡ false
      by true h e = ap (λ y. a j && y) (cb i j l m n e) ∙ and-false (a j)
      by false h e = ap (λ y. y && b j) (ca i j l m n h)

  -- the numbers of a set are closed where the test that they pass is
  pub has_closed : (s : Set) (a : ℕ → Bool) → Has s a → Closed t a → Closed t (has s)
  has_closed s a h c = subst (Closed t) (sym (λ k i. h i k)) c

  -- no node is out of the full set
  pub full_closed : WellFormed t → (s : Set) → Has s (λ i. ltb i most) → Closed t (has s)
  full_closed w s h i j l m n e = absurd (true≢false (sym (h i ∙ lt-ltb i most (omega (arith, w.few))) ∙ e))
