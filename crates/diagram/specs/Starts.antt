-- The starts of entries tile the used places: between a start and the end of its entry stands no other.
use Rattle.std.specs.Prelude.{◌≡◌, refl, cond, List, ℕ, zero, suc, ◌+◌, ◌*◌, ◌≤◌, ◌<◌, ltb, eqb}
use Rattle.std.proofs.Common.{sym, ap, ◌∙◌, subst, ⊎_elim, arith, ltb-true, ltb-false, eqb-true, eq-eqb, ne_eqb}
use Rattle.std.proofs.lemmas.Bool.{eqb-false}
use Rattle.diagram.specs.Layout.{header, used, level_at, count_at, edges_at, size_at}
use Rattle.diagram.specs.Sound.{Start, first, next}
use Rattle.diagram.specs.Decided.{either}

module _ (d : List ℕ) (p : ℕ) where
  pub size_terminal : level_at d p ≡ 0 → size_at d p ≡ 3 + count_at d p
  size_terminal h = ap (λ b. cond b (3 + count_at d p) (2 + 2 * edges_at d p)) (eq-eqb (level_at d p) 0 h)

  pub size_node : (level_at d p ≡ 0 → ⊥) → size_at d p ≡ 2 + 2 * edges_at d p
  size_node h = ap (λ b. cond b (3 + count_at d p) (2 + 2 * edges_at d p)) (ne_eqb (level_at d p) 0 h)

  pub size_two : 2 ≤ size_at d p
  size_two =
      ⊎_elim
      (λ t. omega (arith, size_terminal (eqb-true (level_at d p) 0 t)))
      (λ t. omega (arith, size_node (eqb-false (level_at d p) 0 t)))
      (either (eqb (level_at d p) 0))

module _ (k : ℕ) (d : List ℕ) where
  -- the i-th place that follows the header by whole entries
  abbrev nth : ℕ → ℕ
  nth zero = header k
  nth (suc i) = nth i + size_at d (nth i)

  nth_next : (i : ℕ) → nth i < nth (suc i)
  nth_next i = omega (arith, size_two d (nth i))

  nth_rises : (i j : ℕ) → i < j → nth (suc i) ≤ nth j
  nth_rises i zero h = absurd (omega arith)
  nth_rises i (suc j) h =
      ⊎_elim
      (λ t. let l : nth (suc i) ≤ nth j = nth_rises i j (ltb-true i j t) in omega (arith, nth_next j))
      (λ t. let e : i ≡ j = omega (arith, ltb-false i j t) in subst (λ (n : ℕ). nth (suc i) ≤ nth (suc n)) e (omega arith))
      (either (ltb i j))

  start_nth : (p : ℕ) → Start k d p → (i : ℕ) × (nth i ≡ p)
  start_nth p first = (0, refl)
  start_nth p (next q n s h e) =
      let r : (i : ℕ) × (nth i ≡ q) = start_nth q s in
      (suc r.0, ap (λ (n : ℕ). n + size_at d n) r.1 ∙ sym e)

  pub start_low : (p : ℕ) → Start k d p → header k ≤ p
  start_low p first = omega arith
  start_low p (next q n s h e) = omega (arith, start_low q s)

  -- between a start and the end of its entry stands no other start
  pub start_gap : (p q : ℕ) → Start k d p → Start k d q → p < q → p + size_at d p ≤ q
  start_gap p q s t h =
      let a : (i : ℕ) × (nth i ≡ p) = start_nth p s in
      let b : (i : ℕ) × (nth i ≡ q) = start_nth q t in
      ⊎_elim
      (λ l.
      subst (λ (n : ℕ). n + size_at d n ≤ q) a.1
      (subst (λ (n : ℕ). nth (suc a.0) ≤ n) b.1 (nth_rises a.0 b.0 (ltb-true a.0 b.0 l))))
      (λ l.
      ⊎_elim
      (λ m. absurd (omega (arith, nth_rises b.0 a.0 (ltb-true b.0 a.0 m), nth_next b.0, a.1, b.1)))
      (λ m.
      let e : a.0 ≡ b.0 = omega (arith, ltb-false a.0 b.0 l, ltb-false b.0 a.0 m) in
      absurd (omega (arith, sym a.1 ∙ ap nth e ∙ b.1)))
      (either (ltb b.0 a.0)))
      (either (ltb a.0 b.0))

  -- no start follows one that lies past the used places
  pub start_past : (p q : ℕ) → Start k d p → Start k d q → used d ≤ q → p ≤ q
  start_past p q first t h = start_low q t
  start_past p q (next r n s g e) t h = omega (arith, start_gap r q s t (omega arith))
