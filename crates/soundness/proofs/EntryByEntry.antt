-- Laws of a diagram whose entries are passed one after another and marked where they start, one for each way through the code.
use mathlib.Core.Path.{◌≡◌, refl, sym, ap, ◌∙◌, subst}
use mathlib.Core.Bool.{Bool, true, false}
use mathlib.Core.Logic.{inl, inr, ⊎_elim}
use mathlib.Core.List.{List}
use Prim.Native.Nat.{ℕ, ◌+◌, ◌*◌, ◌≤◌, ◌<◌}
use native.Mathlib.Omega.{arith}
use borrow.Author.Tests.{ltb-true, ltb-false, eqb-true, eqb-false}
use lib.Dec.{eqb, ltb}
use lib.ListN.{length, get_or, set, length-set, length-replicate, get_or-replicate, get_or-eq_default}
use lib.Seq.{get_or-set_same, get_or-set_other}
use Rattle.answer.specs.Fields.{fields}
use Rattle.answer.specs.Answers.{zeros}
use Rattle.diagram.specs.Layout.{header, most_places, used, root, maximum, level_at, count_at, edges_at, size_at}
use Rattle.diagram.specs.Sound.{Start, first, next, SoundTerminal, SoundNode, SoundEntry, Sound}
use Rattle.diagram.specs.Decided.{Decides, either}
use Rattle.diagram.specs.Starts.{size_terminal, size_node, size_two, start_low, start_gap}
use Rattle.soundness.specs.Pass.{Whole, EntriesMarked, Opened, Unmarked}

module _ (d : List ℕ) where
  module _ (p : ℕ) where
    -- an entry by what it begins with: where it lies, and what decides it
    pub terminal_whole : Whole d p → level_at d p ≡ 0 → (p < most_places) × (p + 3 + count_at d p ≤ length d)
    terminal_whole w h = (w.early, omega (arith, w.within, size_terminal d p h))

    pub node_whole : Whole d p → (level_at d p ≡ 0 → ⊥) → (p < most_places) × (p + 2 + 2 * edges_at d p ≤ length d)
    node_whole w h = (w.early, omega (arith, w.within, size_node d p h))

    pub terminal_decides : level_at d p ≡ 0 → (b : Bool) → Decides (SoundTerminal d p) b → Decides (SoundEntry fields d p) b
    terminal_decides h true t = inl t
    terminal_decides h false t = λ s. ⊎_elim t (λ (n : SoundNode fields d p). omega (arith, n.from_one)) s

    pub node_decides : (level_at d p ≡ 0 → ⊥) → (b : Bool) → Decides (SoundNode fields d p) b → Decides (SoundEntry fields d p) b
    node_decides h true n = inr n
    node_decides h false n = λ s. ⊎_elim (λ (t : SoundTerminal d p). h t.label) n s

    -- the level of a sound entry is at most the last
    pub entry_level : SoundEntry fields d p → level_at d p ≤ fields
    entry_level s = ⊎_elim (λ (t : SoundTerminal d p). omega (arith, t.label)) (λ (n : SoundNode fields d p). n.to_last) s

  no_marks : (n q : ℕ) → get_or (zeros n) q 0 ≡ 0
  no_marks n q =
      ⊎_elim
      (λ t. get_or-replicate n q 0 0 (ltb-true q n t))
      (λ t. get_or-eq_default (zeros n) 0 (omega (arith, length-replicate {A = ℕ} n 0, ltb-false q n t)))
      (either (ltb q n))

  marked_none : (n : ℕ) → header fields ≤ n → EntriesMarked d (header fields) (zeros n)
  marked_none n h =
      record {
        room = omega (arith, length-replicate {A = ℕ} n 0);
        at_start = λ q s l. absurd (omega (arith, start_low fields d q s));
        else_none = λ q l. absurd (omega (arith, no_marks n q));
      }

  module _ (p : ℕ) (s : Start fields d p) where
    -- a start before the end of the entry at p is p or lies before it
    start_before : (q : ℕ) → Start fields d q → q < p + size_at d p → (q ≡ p → ⊥) → q < p
    start_before q t h n =
        ⊎_elim
        (λ e. absurd (omega (arith, start_gap fields d p q s t (ltb-true p q e))))
        (λ e. omega (arith, n, ltb-false p q e))
        (either (ltb p q))

    marked_more : (marks : List ℕ) → EntriesMarked d p marks → p + size_at d p ≤ length marks → EntriesMarked d (p + size_at d p) (set marks p (level_at d p + 1))
    marked_more marks m l =
        let x : ℕ = level_at d p + 1 in
        record {
          room = omega (arith, length-set marks p x);
          at_start = λ q t h.
              ⊎_elim
              (λ e.
              subst (λ (n : ℕ). get_or (set marks p x) n 0 ≡ level_at d n + 1) (sym (eqb-true q p e)) (get_or-set_same marks p x 0 (omega (arith, size_two d p))))
              (λ e. get_or-set_other marks p q x 0 (eqb-false q p e) ∙ m.at_start q t (start_before q t h (eqb-false q p e)))
              (either (eqb q p));
          else_none = λ q h.
              ⊎_elim
              (λ e. let i : q ≡ p = eqb-true q p e in (subst (Start fields d) (sym i) s, omega (arith, size_two d p)))
              (λ e.
              let r : Start fields d q × (q < p) = m.else_none q (subst (λ (n : ℕ). 0 < n) (get_or-set_other marks p q x 0 (eqb-false q p e)) h) in
              (r.0, omega (arith, r.1)))
              (either (eqb q p));
        }

    entries_more : ((q : ℕ) → Start fields d q → q < p → SoundEntry fields d q) → SoundEntry fields d p →
        (q : ℕ) → Start fields d q → q < p + size_at d p → SoundEntry fields d q
    entries_more f k q t h =
        ⊎_elim
        (λ e. subst (SoundEntry fields d) (sym (eqb-true q p e)) k)
        (λ e. f q t (start_before q t h (eqb-false q p e)))
        (either (eqb q p))

  -- the header of a sound diagram
  pub sound_opened : Sound fields d → Opened d
  sound_opened s =
      record {
        header_there = s.header_there;
        header_used = start_low fields d (used d) s.tiled;
        used_there = s.used_there;
        used_most = s.used_most;
        maxima = s.maxima;
      }

  -- the header, once all but the maxima is known
  pub opened_decides : header fields ≤ length d → header fields ≤ used d → used d ≤ length d → used d ≤ most_places →
      (b : Bool) → Decides ((f : ℕ) → f < fields → maximum d f ≤ 255) b → Decides (Opened d) b
  opened_decides a b c e true m =
      record { header_there = a; header_used = b; used_there = c; used_most = e; maxima = m }
  opened_decides a b c e false m = λ o. m o.maxima

  -- the entries before p are sound and marked
  pub record EntriesPassed (marks : List ℕ) (p : ℕ) : Type 0 where
    pub starts : Start fields d p
    pub inside : p ≤ used d
    pub room : used d ≤ length marks
    pub marked : EntriesMarked d p marks
    pub entries : (q : ℕ) → Start fields d q → q < p → SoundEntry fields d q

  pub passed_none : (marks : List ℕ) → Opened d → Unmarked d marks → EntriesPassed marks (header fields)
  passed_none marks o u =
      record {
        starts = first;
        inside = o.header_used;
        room = u.room;
        marked = subst (EntriesMarked d (header fields)) (sym u.none) (marked_none (length marks) (omega (arith, o.header_used, u.room)));
        entries = λ q s h. absurd (omega (arith, start_low fields d q s));
      }

  module _ (o : Opened d) (marks : List ℕ) (p : ℕ) (a : EntriesPassed marks p) where
    pub passed_whole : (size : ℕ) → p < used d → size ≡ size_at d p → p + size ≤ used d → Whole d p
    passed_whole size h e g =
        record {
          early = omega (arith, o.used_most);
          header_there = o.header_there;
          within = omega (arith, o.used_there);
        }

    pub passed_more : (size level : ℕ) → p < used d → size ≡ size_at d p → p + size ≤ used d → SoundEntry fields d p → level ≡ level_at d p →
        EntriesPassed (set marks p (level + 1)) (p + size)
    passed_more size level h e g k l =
        subst (λ (n : ℕ). EntriesPassed (set marks p (level + 1)) (p + n)) (sym e)
        (subst (λ (n : ℕ). EntriesPassed (set marks p (n + 1)) (p + size_at d p)) (sym l)
        (record {
          starts = next p (p + size_at d p) a.starts h refl;
          inside = omega arith;
          room = omega (arith, a.room, length-set marks p (level_at d p + 1));
          marked = marked_more p a.starts marks a.marked (omega (arith, a.room));
          entries = entries_more p a.starts a.entries k;
        }))

    -- an entry that ends past the used places makes the diagram unsound
    pub not_tiled : (size : ℕ) → p < used d → size ≡ size_at d p → used d < p + size → Sound fields d → ⊥
    not_tiled size h e g s = omega (arith, start_gap fields d p (used d) a.starts s.tiled h)

    -- an entry that is not sound makes the diagram unsound
    pub not_entry : p < used d → (SoundEntry fields d p → ⊥) → Sound fields d → ⊥
    not_entry h n s = n (s.entries p a.starts h)

    -- a root past the used places makes the diagram unsound
    pub root_past : (r : ℕ) → r ≡ root d → used d ≤ r → Sound fields d → ⊥
    root_past r e h s = omega (arith, s.root_entry.earlier)

    -- all entries passed: what is left is the root's mark
    pub root_decides : (r : ℕ) → used d ≤ p → r ≡ root d → r < used d → (b : Bool) → eqb (get_or marks r 0) 2 ≡ b → Decides (Sound fields d) b
    root_decides r h e g true t =
        let i : p ≡ used d = omega (arith, a.inside) in
        let y : get_or marks r 0 ≡ 2 = eqb-true (get_or marks r 0) 2 t in
        let s = a.marked.else_none r (omega arith) in
        let w : level_at d r ≡ 1 = omega (arith, a.marked.at_start r s.0 s.1) in
        record {
          header_there = o.header_there;
          used_there = o.used_there;
          used_most = o.used_most;
          maxima = o.maxima;
          tiled = subst (Start fields d) i a.starts;
          entries = λ q z l. a.entries q z (omega arith);
          root_entry =
              record { starts = subst (Start fields d) e s.0; earlier = omega arith; begins = ap (level_at d) (sym e) ∙ w };
        }
    root_decides r h e g false t = λ s.
        let z : Start fields d r = subst (Start fields d) (sym e) s.root_entry.starts in
        let w : level_at d r ≡ 1 = ap (level_at d) e ∙ s.root_entry.begins in
        eqb-false (get_or marks r 0) 2 t (omega (arith, a.marked.at_start r z (omega arith)))
