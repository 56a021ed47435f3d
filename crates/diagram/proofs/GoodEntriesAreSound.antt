-- A slice is sound that has a header, then good entries up to the end of the used places, and the root at one of level 1.
use mathlib.Core.Path.{◌≡◌, refl, sym, ap, ◌∙◌, subst}
use mathlib.Core.Logic.{inl, inr, ⊎_elim}
use mathlib.Core.List.{List, [], ◌++◌}
use Prim.Native.Nat.{ℕ, zero, suc, ◌+◌, ◌-◌, ◌≤◌, ◌<◌}
use native.Mathlib.Omega.{arith}
use lib.ListN.{length, get_or, take, drop, length-append, take-append-drop}
use lib.Seq.{take-length}
use Rattle.answer.specs.Rulings.{Ruling}
use Rattle.diagram.specs.Layout.{header, most_places, used, root, maximum, level_at, edges_at, last_at, child_at, size_at}
use Rattle.diagram.specs.Entries.{terminal, Edge, node}
use Rattle.diagram.specs.Walk.{Entries, joined}
use Rattle.diagram.specs.Sound.{Start, first, next, EntryBefore, next_level, Holdable, SoundTerminal, SoundNode, SoundEntry, Sound}
use Rattle.diagram.specs.Decided.{lt?}
use Rattle.diagram.specs.Starts.{size_terminal, size_node, size_two}
use Rattle.diagram.proofs.StandsIn.{Stands, stands_first, terminal_level, terminal_decision, terminal_count, terminal_card}
use Rattle.diagram.proofs.StandsIn.{edge_of, edge_numbers_length, node_level, node_edges, node_last, node_child}
use Rattle.diagram.proofs.EntryPlaces.{place_of, EntryAt, place_next, place_end, entry_ends, entry_stands, entry_stays}
use Rattle.diagram.proofs.EdgesRun.{runs_some, runs_rise, runs_end, runs_child}
use Rattle.diagram.proofs.GoodEntries.{Points, GoodTerminal, GoodNode, AllGood}

-- a terminal takes as many places, and is as sound, as its ruling says
module _ (d : List ℕ) (p : ℕ) (r : Ruling) (s : Stands d p (terminal r)) where
  pub terminal_size : size_at d p ≡ length (terminal r)
  unfolding terminal
  terminal_size = omega (arith, size_terminal d p (terminal_level d p r s), terminal_count d p r s)

  terminal_sound : Holdable r → SoundTerminal d p
  terminal_sound h = record {
    label = terminal_level d p r s;
    holds =
        record {
          one_of_four = omega (arith, terminal_decision d p r s, h.one_of_four);
          at_most = omega (arith, terminal_count d p r s, h.at_most);
          none_zero = λ i l z.
              let m : i < length r.cards = omega (arith, terminal_count d p r s) in
              h.none_zero i m (sym (terminal_card d p r s i m) ∙ z);
        };
  }

-- a node takes as many places as its edges say
pub node_size : (d : List ℕ) (p level : ℕ) (es : List Edge) → 1 ≤ level → Stands d p (node level es) → size_at d p ≡ length (node level es)
unfolding node
node_size d p level es l s =
    omega (arith, size_node d p (λ z. omega (arith, node_level d p level es s)), node_edges d p level es s, edge_numbers_length es)

module _ (k : ℕ) (before tail d : List ℕ) (xs : Entries) (splits : d ≡ before ++ (joined xs ++ tail)) (headed : length before ≡ header k)
    (total : used d ≡ header k + length (joined xs)) (good : AllGood k (maximum d) xs) where
  stands : (c : ℕ) (e : List ℕ) → EntryAt (header k) xs c e → Stands d c e
  stands c e a = subst (λ x. Stands x c e) (sym splits) (entry_stands (header k) xs before tail c e headed a)

  -- the place of entry i
  abbrev at : ℕ → ℕ
  at i = place_of (header k) xs i

  stands_at : (i : ℕ) → i < length xs → Stands d (at i) (get_or xs i [])
  stands_at i l = stands (at i) (get_or xs i []) (record { index = i; there = l; is = refl; place = refl })

  size_is : (i : ℕ) → i < length xs → size_at d (at i) ≡ length (get_or xs i [])
  size_is i l =
      ⊎_elim
      (λ (g : GoodTerminal (get_or xs i [])).
      terminal_size d (at i) g.ruling (subst (Stands d (at i)) g.is (stands_at i l)) ∙ ap length (sym g.is))
      (λ (g : GoodNode k (maximum d) (take i xs) (get_or xs i [])).
      node_size d (at i) g.level g.edges g.from_one (subst (Stands d (at i)) g.is (stands_at i l)) ∙ ap length (sym g.is))
      (good i l)

  next_at_lem : (i : ℕ) → i < length xs → at (suc i) ≡ at i + size_at d (at i)
  next_at_lem i l = omega (arith, place_next (header k) xs i l, size_is i l)

  within : (i : ℕ) → i < length xs → at i < used d
  within i l =
      omega (
        arith,
        entry_ends (header k) xs (at i) (get_or xs i []) (record { index = i; there = l; is = refl; place = refl }),
        size_is i l,
        size_two d (at i),
        total,
      )

  -- the places of entries, and that after the last, are the starts

  at_start : (i : ℕ) → i ≤ length xs → Start k d (at i)
  at_start zero l = let z : header k ≡ at 0 = omega arith in subst (Start k d) z first
  at_start (suc i) l = next (at i) (at (suc i)) (at_start i (omega arith)) (within i l) (next_at_lem i l)

  start_at : (p : ℕ) → Start k d p → (i : ℕ) × (i ≤ length xs) × (at i ≡ p)
  start_at p first = (0, omega arith, omega arith)
  start_at p (next q n s h e) =
      let a : (i : ℕ) × (i ≤ length xs) × (at i ≡ q) = start_at q s in
      let i : ℕ = a.0 in
      ⊎_elim
      (λ (l : i < length xs). (suc i, l, next_at_lem i l ∙ ap (λ c. c + size_at d c) a.2 ∙ sym e))
      (λ l.
      let z : i ≡ length xs = omega (arith, a.1, l) in
      absurd (omega (arith, h, total, sym a.2 ∙ ap at z ∙ place_end (header k) xs)))
      (lt? i (length xs))

  -- where an entry before entry i stands
  points_before : (i c level : ℕ) → i ≤ length xs → Points k (take i xs) c level → EntryBefore k d (at i) level c
  points_before i c level l t =
      let a : EntryAt (header k) xs c t.entry =
      entry_stays (header k) (take i xs) xs c t.entry (drop i xs, sym (take-append-drop i xs)) t.at in
      record {
        starts = subst (Start k d) a.place (at_start a.index (omega (arith, a.there)));
        earlier = omega (arith, entry_ends (header k) (take i xs) c t.entry t.at, t.some);
        begins = stands_first d c t.entry (stands c t.entry a) t.some ∙ t.begins;
      }

  good_node_sound : (i : ℕ) → i < length xs → GoodNode k (maximum d) (take i xs) (get_or xs i []) → SoundNode k d (at i)
  good_node_sound i l g =
      let p : ℕ = at i in
      let es : List Edge = g.edges in
      let P : ℕ → ℕ → Type 0 = λ v c. Points k (take i xs) c (next_level k g.level) in
      let s : Stands d p (node g.level es) = subst (Stands d p) g.is (stands_at i l) in
      let level : level_at d p ≡ g.level = node_level d p g.level es s in
      let n : edges_at d p ≡ length es = node_edges d p g.level es s in
      let last : (j : ℕ) → j < length es → last_at d p j ≡ (edge_of es j).last = node_last d p g.level es s in
      let m : ℕ = maximum d (g.level - 1) in
      let some : 1 ≤ length es = runs_some P es m g.runs in
      record {
        from_one = omega (arith, g.from_one);
        to_last = omega (arith, g.to_last);
        some_edge = omega arith;
        rising = λ j b.
            let y : j + 1 ≡ suc j = omega arith in
            let rise : (edge_of es j).last < (edge_of es (suc j)).last = runs_rise P es 0 (suc m) j g.runs (omega arith) in
            omega (arith, last j (omega arith), ap (last_at d p) y, last (suc j) (omega arith));
        ending =
            let y : edges_at d p - 1 ≡ length es - 1 = omega arith in
            let end : suc (edge_of es (length es - 1)).last ≡ suc m = runs_end P es 0 (suc m) (length es - 1) g.runs (omega arith) in
            let z : (edge_of es (length es - 1)).last ≡ m = omega arith in
            ap (last_at d p) y ∙ last (length es - 1) (omega arith) ∙ z ∙ ap (λ n. maximum d (n - 1)) (sym level);
        children = λ j b.
            subst (λ n. EntryBefore k d p (next_level k n) (child_at d p j)) (sym level)
            (points_before i (child_at d p j) (next_level k g.level) (omega arith)
            (subst (λ c. Points k (take i xs) c (next_level k g.level)) (sym (node_child d p g.level es s j (omega arith)))
            (runs_child P es 0 (suc m) j g.runs (omega arith))));
      }

  entry_sound : (i : ℕ) → i < length xs → SoundEntry k d (at i)
  entry_sound i l =
      ⊎_elim
      (λ (g : GoodTerminal (get_or xs i [])).
      inl (terminal_sound d (at i) g.ruling (subst (Stands d (at i)) g.is (stands_at i l)) g.holdable))
      (λ (g : GoodNode k (maximum d) (take i xs) (get_or xs i [])). inr (good_node_sound i l g))
      (good i l)

  end_is : at (length xs) ≡ used d
  end_is = place_end (header k) xs ∙ sym total

  -- good entries, with at most 32,768 used places and maxima of at most 255, are a sound diagram
  pub good_entries_are_sound : used d ≤ most_places → ((f : ℕ) → f < k → maximum d f ≤ 255) → Points k xs (root d) 1 → Sound k d
  good_entries_are_sound most maxima t =
      let long : length d ≡ header k + (length (joined xs) + length tail) =
      omega (arith, ap length splits, length-append before (joined xs ++ tail), length-append (joined xs) tail) in
      record {
        header_there = omega arith;
        used_there = omega (arith, total);
        used_most = most;
        maxima = maxima;
        tiled = subst (Start k d) end_is (at_start (length xs) (omega arith));
        entries = λ p s h.
            let a : (i : ℕ) × (i ≤ length xs) × (at i ≡ p) = start_at p s in
            subst (SoundEntry k d) a.2
            (⊎_elim
            (λ (l : a.0 < length xs). entry_sound a.0 l)
            (λ l.
            let z : a.0 ≡ length xs = omega (arith, a.1, l) in
            absurd (omega (arith, h, sym a.2 ∙ ap at z ∙ end_is)))
            (lt? a.0 (length xs)));
        root_entry =
            subst (λ n. EntryBefore k d n 1 (root d)) end_is
            (points_before (length xs) (root d) 1 (omega arith) (subst (λ es. Points k es (root d) 1) (sym (take-length xs)) t));
      }
