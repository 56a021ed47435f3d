-- Laws of a node's decision, and of a running decision over a run of nodes, for any test of which nodes apply.
use mathlib.Core.Path.{◌≡◌, refl, sym, ap, ◌∙◌}
use mathlib.Core.Bool.{Bool, true, false, cond}
use mathlib.Core.List.{List, ◌∷◌}
use Prim.Native.Nat.{ℕ, ◌+◌, ◌≤◌, ◌<◌}
use native.Mathlib.Omega.{arith}
use borrow.Author.Tests.{le-leb, lt-leb, leb-false}
use lib.Dec.{eqb, lit<}
use Rattle.combining.specs.Ways.{not_applicable, permit, deny, Child, as_child, absent, way}
use Rattle.combining.specs.Running.{so_far, Reachable, Started, Takes, Taken}
use Rattle.combining.specs.declared.Running.{Running}
use Rattle.combining.proofs.Fold.{pair, absent_first, absent_next, OneOfFour, none, more, way_below}
use Rattle.encoding.specs.Layout.{kind}
use Rattle.table.specs.Tree.{end_of, is_rule}
use Rattle.table.specs.WellFormed.{WellFormed}
use Rattle.ruling.specs.Forest.{Forest, empty, node, run, under}
use Rattle.ruling.specs.Meaning.{effect, gives, child_of, children, decision}
use Rattle.ruling.specs.Walk.{SpansInside}
use Rattle.ruling.proofs.Forest.{run_none, run_more}

choice_below : (b : Bool) (x y : ℕ) → (b ≡ true → x < 4) → (b ≡ false → y < 4) → cond b x y < 4
choice_below true x y hx hy = hx refl
choice_below false x y hx hy = hy refl

module _ (a : ℕ → Bool) (t : List ℕ) where
  -- what a node gives, by whether it applies and by its kind

  pub gives_not : (i : ℕ) (cs : List Child) → a i ≡ false → gives a t i cs ≡ not_applicable
  unfolding gives
  gives_not i cs e = ap (λ b. cond b (cond (is_rule t i) (effect (kind t i)) (way (kind t i) cs)) not_applicable) e

  gives_by_kind : (i : ℕ) (cs : List Child) (r : Bool) → a i ≡ true → is_rule t i ≡ r → gives a t i cs ≡ cond r (effect (kind t i)) (way (kind t i) cs)
  unfolding gives
  gives_by_kind i cs r e k =
      ap (λ b. cond b (cond (is_rule t i) (effect (kind t i)) (way (kind t i) cs)) not_applicable) e
      ∙ ap (λ b. cond b (effect (kind t i)) (way (kind t i) cs)) k

  pub gives_rule : (i : ℕ) (cs : List Child) → a i ≡ true → 4 ≤ kind t i → gives a t i cs ≡ effect (kind t i)
  gives_rule i cs e l = gives_by_kind i cs true e (le-leb 4 (kind t i) l)

  pub gives_group : (i : ℕ) (cs : List Child) → a i ≡ true → kind t i < 4 → gives a t i cs ≡ way (kind t i) cs
  gives_group i cs e l = gives_by_kind i cs false e (lt-leb 4 (kind t i) l)

  -- each is one of the four decisions

  gives_below : (i : ℕ) (cs : List Child) → OneOfFour cs → gives a t i cs < 4
  unfolding gives
  gives_below i cs h =
      choice_below (a i) (cond (is_rule t i) (effect (kind t i)) (way (kind t i) cs)) not_applicable
      (λ _. choice_below (is_rule t i) (effect (kind t i)) (way (kind t i) cs)
      (λ _. choice_below (eqb (kind t i) 4) permit deny (λ _. lit< tt) (λ _. lit< tt))
      (λ e. way_below (kind t i) cs (leb-false 4 (kind t i) e) h))
      (λ _. lit< tt)

  pub children_below : (u : Forest) → OneOfFour (children a t u)
  children_below empty = none
  children_below (node i u v) = more (gives_below i (children a t u) (children_below u)) (children_below v)

  pub decision_below : (i : ℕ) → decision a t i < 4
  decision_below i = gives_below i (children a t (under t i)) (children_below (under t i))

  -- a node's decision can be taken in
  pub takes : (i : ℕ) {d : ℕ} {counts : Bool} {r : Running} → Reachable r → d ≡ decision a t i → Takes r (as_child d counts)
  takes i h e = record { reachable = h; one_of_four = rw e (decision_below i) }

  -- as a child: it counts where it applies, and is as if absent where it does not

  child_counts : (i d : ℕ) → a i ≡ true → child_of a i d ≡ as_child d true
  child_counts i d e = simp e

  pub child_absent : (i : ℕ) → a i ≡ false → child_of a i not_applicable ≡ absent
  child_absent i e = simp e

  -- the decision of a node, as the code finds it

  pub ruled_not : (i : ℕ) → a i ≡ false → not_applicable ≡ decision a t i
  ruled_not i e = sym (gives_not i (children a t (under t i)) e)

  pub ruled_rule : (i k d : ℕ) → a i ≡ true → k ≡ kind t i → 4 ≤ k → d ≡ effect k → d ≡ decision a t i
  ruled_rule i k d e ek l ed = ed ∙ ap effect ek ∙ sym (gives_rule i (children a t (under t i)) e (omega arith))

  pub ruled_group : (i end k d : ℕ) → a i ≡ true → k ≡ kind t i → k < 4 → end ≡ end_of t i →
      d ≡ way k (children a t (run t (i + 1) end)) → d ≡ decision a t i
  ruled_group i end k d e ek l ee h = h ∙ rw (ee, ek) (sym (gives_group i (children a t (under t i)) e (omega arith)))

  -- the way of a running decision and of the nodes from i up to end
  abbrev pub over : Running → ℕ → ℕ → ℕ
  over r i end = way r.kind (so_far r ∷ children a t (run t i end))

  -- before the first node
  pub over_start : {k : ℕ} {r : Running} (i end : ℕ) → Started k r → way k (children a t (run t i end)) ≡ over r i end
  over_start {k} {r} i end s =
      let cs = children a t (run t i end) in
      sym (absent_first k cs (omega (arith, s.reachable.group, s.same_kind)))
      ∙ ap (λ m. way m (absent ∷ cs)) (sym s.same_kind)
      ∙ ap (λ c. way r.kind (c ∷ cs)) (sym s.none)

  module _ (w : WellFormed t) {r : Running} (h : Reachable r) where
    -- no node is left
    pub over_none : (i end : ℕ) → end ≤ i → over r i end ≡ r.decision
    over_none i end l = rw (run_none t w i end l) h.alone

    module _ {i end next : ℕ} (o : SpansInside t i end) (l : i < end) (en : next ≡ end_of t i) where
      -- the first node, and those after it
      first : {d : ℕ} → d ≡ decision a t i → over r i end ≡ way r.kind (so_far r ∷ child_of a i d ∷ children a t (run t next end))
      first e = rw (run_more t w i end o l, en, e)

      -- the first child applies, and is taken in
      pub over_more : {d : ℕ} {r' : Running} → a i ≡ true → d ≡ decision a t i → Taken r (as_child d true) r' → over r i end ≡ over r' next end
      over_more {d} {r'} ha e k =
          let cs = children a t (run t next end) in
          first e
          ∙ ap (λ c. way r.kind (so_far r ∷ c ∷ cs)) (child_counts i d ha)
          ∙ sym (pair cs r.kind (so_far r) (as_child d true) h.group h.one_of_four (rw e (decision_below i)))
          ∙ sym (ap (λ c. way r.kind (c ∷ cs)) k.combined)
          ∙ sym (ap (λ m. way m (so_far r' ∷ cs)) k.same_kind)

      -- the first child does not apply, and changes nothing
      pub over_skip : a i ≡ false → over r i end ≡ over r next end
      over_skip e =
          let cs = children a t (run t next end) in
          first (ruled_not i e)
          ∙ ap (λ c. way r.kind (so_far r ∷ c ∷ cs)) (child_absent i e)
          ∙ absent_next r.kind (so_far r) cs h.group
