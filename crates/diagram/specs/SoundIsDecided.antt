-- Soundness is decided, clause by clause. Each of these says in its type what it decides; a reader needs no more of it.
use Rattle.std.specs.Prelude.{◌≡◌, refl, List, ℕ, zero, suc, ◌+◌, ◌-◌, ◌≤◌, ◌<◌, eqb, ltb, length}
use Rattle.std.proofs.Common.{subst, ⊎_elim, inl, inr, arith, ltb-true, ltb-false, eqb-true}
use Rattle.std.proofs.lemmas.Bool.{eqb-false}
use Rattle.diagram.specs.Layout.{header, most_places, used, root, maximum, level_at, decision_at, count_at, card_at, edges_at, last_at, child_at, size_at}
use Rattle.diagram.specs.Sound.{Start, first, next, EntryBefore, next_level, TerminalHolds, SoundTerminal, SoundNode, SoundEntry, Sound}
use Rattle.diagram.specs.Decided.{Decided, either, le?, lt?, eq?, iff?, not?, and?, or?, when?, each?}
use Rattle.diagram.specs.Starts.{size_two, start_low, start_gap, start_past}

-- the starts from q on, one after another, until p is met or passed; n bounds how many
unfoldable pub scan? : (k : ℕ) (d : List ℕ) (p n q : ℕ) → Start k d q → (Start k d p → q ≤ p) → p < q + n → Decided (Start k d p)
scan? k d p zero q s low h = inr (λ t. omega (arith, low t))
scan? k d p (suc n) q s low h =
    ⊎_elim
    (λ e. inl (subst (Start k d) (eqb-true q p e) s))
    (λ e.
    ⊎_elim
    (λ u.
    scan? k d p n (q + size_at d q) (next q (q + size_at d q) s (ltb-true q (used d) u) refl)
    (λ t. start_gap k d q p s t (omega (arith, low t, eqb-false q p e)))
    (omega (arith, size_two d q)))
    (λ u. inr (λ t. eqb-false q p e (omega (arith, low t, start_past k d p q t s (ltb-false q (used d) u)))))
    (either (ltb q (used d))))
    (either (eqb q p))

unfoldable pub start? : (k : ℕ) (d : List ℕ) (p : ℕ) → Decided (Start k d p)
start? k d p = scan? k d p (suc p) (header k) first (start_low k d p) (omega arith)

unfoldable pub entry_before? : (k : ℕ) (d : List ℕ) (p level c : ℕ) → Decided (EntryBefore k d p level c)
entry_before? k d p level c =
    iff? (λ t. record { starts = t.0; earlier = t.1.0; begins = t.1.1 }) (λ e. (e.starts, (e.earlier, e.begins)))
    (and? (start? k d c) (and? (lt? c p) (eq? (level_at d c) level)))

unfoldable pub terminal_holds? : (decision count : ℕ) (card : ℕ → ℕ) → Decided (TerminalHolds decision count card)
terminal_holds? decision count card =
    iff? (λ t. record { one_of_four = t.0; at_most = t.1.0; none_zero = t.1.1 }) (λ h. (h.one_of_four, (h.at_most, h.none_zero)))
    (and? (le? decision 3) (and? (le? count 127) (each? (λ i. card i ≡ 0 → ⊥) (λ i. not? (eq? (card i) 0)) count)))

unfoldable pub sound_terminal? : (d : List ℕ) (p : ℕ) → Decided (SoundTerminal d p)
sound_terminal? d p =
    iff? (λ t. record { label = t.0; holds = t.1 }) (λ s. (s.label, s.holds))
    (and? (eq? (level_at d p) 0) (terminal_holds? (decision_at d p) (count_at d p) (card_at d p)))

unfoldable pub sound_node? : (k : ℕ) (d : List ℕ) (p : ℕ) → Decided (SoundNode k d p)
sound_node? k d p =
    iff?
    (λ t.
    record {
      from_one = t.0.0;
      to_last = t.0.1;
      some_edge = t.1.0;
      rising = λ j h. t.1.1.0 j (omega arith);
      ending = t.1.1.1.0;
      children = t.1.1.1.1;
    })
    (λ s. ((s.from_one, s.to_last), (s.some_edge, ((λ j h. s.rising j (omega arith)), (s.ending, s.children)))))
    (and? (and? (le? 1 (level_at d p)) (le? (level_at d p) k)) (and? (le? 1 (edges_at d p))
    (and? (each? (λ j. last_at d p j < last_at d p (j + 1)) (λ j. lt? (last_at d p j) (last_at d p (j + 1))) (edges_at d p - 1))
    (and? (eq? (last_at d p (edges_at d p - 1)) (maximum d (level_at d p - 1)))
    (each? (λ j. EntryBefore k d p (next_level k (level_at d p)) (child_at d p j)) (λ j. entry_before? k d p (next_level k (level_at d p)) (child_at d p j)) (edges_at d p))))))

unfoldable pub sound_entry? : (k : ℕ) (d : List ℕ) (p : ℕ) → Decided (SoundEntry k d p)
sound_entry? k d p = or? (sound_terminal? d p) (sound_node? k d p)

unfoldable pub sound? : (k : ℕ) (d : List ℕ) → Decided (Sound k d)
sound? k d =
    iff?
    (λ t.
    record {
      header_there = t.0.0;
      used_there = t.0.1.0;
      used_most = t.0.1.1.0;
      maxima = t.0.1.1.1;
      tiled = t.1.0;
      entries = λ p s h. t.1.1.0 p h s;
      root_entry = t.1.1.1;
    })
    (λ s. ((s.header_there, (s.used_there, (s.used_most, s.maxima))), (s.tiled, ((λ p h t. s.entries p t h), s.root_entry))))
    (and?
    (and? (le? (header k) (length d)) (and? (le? (used d) (length d)) (and? (le? (used d) most_places) (each? (λ f. maximum d f ≤ 255) (λ f. le? (maximum d f) 255) k))))
    (and? (start? k d (used d)) (and? (each? (λ p. Start k d p → SoundEntry k d p) (λ p. when? (start? k d p) (sound_entry? k d p)) (used d))
    (entry_before? k d (used d) 1 (root d)))))
