-- Laws of a node whose edges are checked one after another, one for each way through the code.
use Rattle.std.proofs.Common.{◌≡◌, refl, sym, ap, ◌∙◌, subst, Bool, true, false, cond, ◌⊎◌, ⊎_elim, inl, inr, List, ℕ, ◌+◌, ◌-◌, ◌≤◌, ◌<◌, arith, eq-eqb, ne_eqb, get_or, take, below_more}
use Rattle.std.proofs.lemmas.List.{get_or-take, get_or_past, length-take}
use native.Mathlib.Nat.{eq-or-lt_of_le}
use Rattle.answer.specs.Fields.{fields}
use Rattle.diagram.specs.Layout.{number_at, maximum, level_at, edges_at, last_at, child_at}
use Rattle.diagram.specs.Sound.{EntryBefore, next_level, SoundNode}
use Rattle.diagram.specs.Decided.{Decides, lt?}
use Rattle.soundness.specs.Pass.{EntriesMarked}

-- the mark where entries of the next level start
pub next_mark_last : (level : ℕ) → level ≡ fields → 1 ≡ next_level fields level + 1
next_mark_last level h = ap (λ b. cond b 0 (level + 1) + 1) (sym (eq-eqb level fields h))

pub next_mark : (level : ℕ) → (level ≡ fields → ⊥) → level + 2 ≡ next_level fields level + 1
next_mark level h =
    let e : next_level fields level ≡ level + 1 = ap (λ b. cond b 0 (level + 1)) (ne_eqb level fields h) in
    omega arith

module _ (d : List ℕ) (p : ℕ) where
  abbrev ChildRight : ℕ → Type 0
  ChildRight j = EntryBefore fields d p (next_level fields (level_at d p)) (child_at d p j)

  -- the edges before the j-th are right, and the j-th may not end before `from`
  pub record Checked (from j : ℕ) : Type 0 where
    pub first : j ≡ 0 → from ≡ 0
    pub after : (i : ℕ) → i + 1 ≡ j → from ≡ last_at d p i + 1
    pub rising : (i : ℕ) → i + 1 < j → last_at d p i < last_at d p (i + 1)
    pub children : (i : ℕ) → i < j → ChildRight i

  pub checked_none : Checked 0 0
  checked_none =
      record {
        first = λ h. refl;
        after = λ i h. absurd (omega arith);
        rising = λ i h. absurd (omega arith);
        children = λ i h. absurd (omega arith);
      }

  pub checked_more : {from j : ℕ} → Checked from j → from ≤ last_at d p j → ChildRight j → Checked (last_at d p j + 1) (j + 1)
  checked_more {j = j} c h k =
      record {
        first = λ z. absurd (omega arith);
        after = λ i z. let q : j ≡ i = omega arith in ap (λ n. last_at d p n + 1) q;
        rising = λ i g.
            ⊎_elim
            (λ (q : i + 1 ≡ j). subst (λ (n : ℕ). last_at d p i < last_at d p n) (sym q) (omega (arith, c.after i q)))
            (λ (l : i + 1 < j). c.rising i l)
            (eq-or-lt_of_le {n = i + 1} {m = j} (omega arith));
        children = below_more ChildRight j c.children k;
      }

  -- an edge that ends before it may makes the node unsound
  pub not_rising : {from j : ℕ} → Checked from j → last_at d p j < from → j < edges_at d p → SoundNode fields d p → ⊥
  not_rising {j = j} c h l s =
      ⊎_elim
      (λ (z : 0 ≡ j). omega (arith, c.first (sym z)))
      (λ (g : 0 < j).
      let i : j - 1 + 1 ≡ j = omega arith in
      let b : last_at d p (j - 1) < last_at d p (j - 1 + 1) = s.rising (j - 1) (omega arith) in
      omega (arith, c.after (j - 1) i, ap (last_at d p) i))
      (eq-or-lt_of_le {n = 0} {m = j} (omega arith))

  -- the mark of edge j's child: what stands there where it is earlier, else 0
  abbrev pub MarkOf : List ℕ → ℕ → ℕ → Type 0
  MarkOf marks j mark = ((child_at d p j < p) × (mark ≡ get_or marks (child_at d p j) 0)) ⊎ ((p ≤ child_at d p j) × (mark ≡ 0))

  pub mark_of : (marks : List ℕ) (j mark : ℕ) → mark ≡ get_or (take p marks) (child_at d p j) 0 → MarkOf marks j mark
  mark_of marks j mark e =
      let i : ℕ = child_at d p j in
      ⊎_elim
      (λ (l : i < p). inl (l, e ∙ get_or-take p marks i 0 l))
      (λ (n : i < p → ⊥). inr (omega (arith, n), e ∙ get_or_past (take p marks) i 0 (omega (arith, length-take p marks, n))))
      (lt? i p)

  module _ (marks : List ℕ) (m : EntriesMarked d p marks) (j mark below : ℕ) (o : MarkOf marks j mark) (eb : below ≡ next_level fields (level_at d p) + 1) where
    -- a child with the right mark is the start of an earlier entry of the next level
    pub child_right : mark ≡ below → ChildRight j
    child_right q =
        ⊎_elim
        (λ (h, k).
        let s = m.else_none (child_at d p j) (omega arith) in
        record { starts = s.0; earlier = h; begins = omega (arith, m.at_start (child_at d p j) s.0 h) })
        (λ (h, k). absurd (omega arith))
        o

    -- a child with another mark makes the node unsound
    pub child_wrong : (mark ≡ below → ⊥) → j < edges_at d p → SoundNode fields d p → ⊥
    child_wrong n l s =
        let c = s.children j l in
        ⊎_elim
        (λ (h, k). n (omega (arith, c.begins, m.at_start (child_at d p j) c.starts h)))
        (λ (h, k). omega (arith, c.earlier))
        o

  -- all edges checked: the last one is to end at the maximum
  module _ {from j : ℕ} (c : Checked from j) (ej : j ≡ edges_at d p) (l : 1 ≤ level_at d p) (h : level_at d p ≤ fields) where
    its_maximum : number_at d (1 + level_at d p) ≡ maximum d (level_at d p - 1)
    its_maximum = let z : 1 + level_at d p ≡ 2 + (level_at d p - 1) = omega arith in ap (number_at d) z

    ends : 1 ≤ j → from ≡ last_at d p (edges_at d p - 1) + 1
    ends g =
        let i : j - 1 + 1 ≡ j = omega arith in
        c.after (j - 1) i ∙ ap (λ n. last_at d p (n - 1) + 1) ej

    pub edges_decide : (most : ℕ) → most ≡ number_at d (1 + level_at d p) → (b : Bool) → (b ≡ true → from ≡ most + 1) → (b ≡ false → from ≡ most + 1 → ⊥) →
        Decides (SoundNode fields d p) b
    edges_decide most e true t f =
        let z : from ≡ most + 1 = t refl in
        let some : 1 ≤ j =
        ⊎_elim (λ (y : 0 ≡ j). absurd (omega (arith, c.first (sym y)))) (λ (g : 0 < j). g) (eq-or-lt_of_le {n = 0} {m = j} (omega arith)) in
        record {
          from_one = omega arith;
          to_last = omega arith;
          some_edge = omega arith;
          rising = λ i g. c.rising i (omega arith);
          ending = omega (arith, ends some, its_maximum);
          children = λ i g. c.children i (omega arith);
        }
    edges_decide most e false t f = λ s. f refl (omega (arith, ends (omega (arith, s.some_edge)), s.ending, its_maximum))
