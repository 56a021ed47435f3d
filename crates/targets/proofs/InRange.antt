-- Laws of a value in a range, which may wrap: paper 7.
use Rattle.std.proofs.Common.{◌≡◌, ℕ, suc, ◌+◌, ◌-◌, ◌%◌, ◌<◌, ◌≤◌, true, ◌&&◌, ◌||◌, leb, ◌⊎◌, ◌↔◌, sym, ap, ◌∙◌, inl, inr, ⊎_elim, mod-eq_of_lt, arith, le-ltb, lt-ltb, le-leb, leb-true}
use native.Mathlib.Nat.{mod-eq-sub-mod}
use Rattle.answer.proofs.Tests.{lt_or_ge, both, one_of, or_true, passes_alike}
use Rattle.targets.specs.Targets.{in_range}

module _ (low high v : ℕ) where
  -- a range that does not wrap asks for both ends, and one that wraps for either
  pub in_unwrapped : low ≤ high → in_range low high v ≡ (leb low v && leb v high)
  unfolding in_range
  in_unwrapped l = simp (le-ltb high low l)

  pub in_wrapped : high < low → in_range low high v ≡ (leb low v || leb v high)
  unfolding in_range
  in_wrapped l = simp (lt-ltb high low l)

  -- so the members of the one are those from low up to high
  pub unwrapped_members : low ≤ high → (in_range low high v ≡ true) ↔ ((low ≤ v) × (v ≤ high))
  unwrapped_members l = (there, back)
    where
      there : in_range low high v ≡ true → (low ≤ v) × (v ≤ high)
      there e = let h = both (leb low v) (leb v high) (sym (in_unwrapped l) ∙ e) in (leb-true low v h.0, leb-true v high h.1)

      back : (low ≤ v) × (v ≤ high) → in_range low high v ≡ true
      back h = in_unwrapped l ∙ ap (λ b. b && leb v high) (le-leb low v h.0) ∙ le-leb v high h.1

  -- and those of the other are those from low up and those up to high
  pub wrapped_members : high < low → (in_range low high v ≡ true) ↔ ((low ≤ v) ⊎ (v ≤ high))
  wrapped_members l = (there, back)
    where
      there : in_range low high v ≡ true → (low ≤ v) ⊎ (v ≤ high)
      there e =
          ⊎_elim (λ h. inl (leb-true low v h)) (λ h. inr (leb-true v high h)) (one_of (leb low v) (leb v high) (sym (in_wrapped l) ∙ e))

      back : (low ≤ v) ⊎ (v ≤ high) → in_range low high v ≡ true
      back h =
          in_wrapped l
          ∙ ⊎_elim
          (λ (a : low ≤ v). ap (λ b. b || leb v high) (le-leb low v a))
          (λ (a : v ≤ high). ap (λ b. leb low v || b) (le-leb v high a) ∙ or_true (leb low v))
          h

-- "Low one more than high takes in every value."
pub all_members : (high v : ℕ) → in_range (suc high) high v ≡ true
all_members high v =
    (wrapped_members (suc high) high v (omega arith)).1
    (⊎_elim (λ (l : high < v). inl (omega arith)) (λ (l : v ≤ high). inr l) (lt_or_ge high v))

-- both ends are members, so that no range is empty
pub ends_included : (low high : ℕ) → (in_range low high low ≡ true) × (in_range low high high ≡ true)
ends_included low high =
    ⊎_elim
    (λ (l : high < low).
    ((wrapped_members low high low l).1 (inl (omega arith)), (wrapped_members low high high l).1 (inr (omega arith))))
    (λ (l : low ≤ high).
    ((unwrapped_members low high low l).1 (omega arith, l), (unwrapped_members low high high l).1 (l, omega arith)))
    (lt_or_ge high low)

-- going round m values
module _ (m low : ℕ) (l : low < m) where
  -- a value that is met n steps after low stands after it, or, once round, before it
  abbrev After : ℕ → ℕ → Type 0
  After v n = (low ≤ v) × (v < m) × (n + low ≡ v)

  abbrev Round : ℕ → ℕ → Type 0
  Round v n = (v < low) × (n + low ≡ v + m)

  met : (v n : ℕ) → n < m → (n + low) % m ≡ v → After v n ⊎ Round v n
  met v n h e =
      ⊎_elim
      (λ (a : n + low < m). let s : n + low ≡ v = sym (mod-eq_of_lt a) ∙ e in inl (omega arith, omega arith, s))
      (λ (a : m ≤ n + low).
      let s : n + low - m ≡ v = sym (mod-eq-sub-mod a ∙ mod-eq_of_lt (omega arith)) ∙ e in inr (omega arith, omega arith))
      (lt_or_ge (n + low) m)

  -- a value lies in a range exactly where it is met no later than the high end
  pub met_in_range : (high v a b : ℕ) → a < m → b < m → (a + low) % m ≡ v → (b + low) % m ≡ high → leb a b ≡ in_range low high v
  met_in_range high v a b la lb ea eb = ⊎_elim unwrapped wrapped (met high b lb eb)
    where
      unwrapped : After high b → leb a b ≡ in_range low high v
      unwrapped w =
          passes_alike (leb a b) (in_range low high v)
          (λ e.
          let h = leb-true a b e in
          ⊎_elim
          (λ (u : After v a). (unwrapped_members low high v w.0).1 (u.0, omega (arith, w.2, u.2)))
          (λ (u : Round v a). absurd (omega (arith, w.1, w.2, u.1)))
          (met v a la ea))
          (λ e.
          let h = (unwrapped_members low high v w.0).0 e in
          ⊎_elim
          (λ (u : After v a). le-leb a b (omega (arith, w.2, u.2, h.1)))
          (λ (u : Round v a). absurd (omega (arith, u.0, h.0)))
          (met v a la ea))

      wrapped : Round high b → leb a b ≡ in_range low high v
      wrapped w =
          passes_alike (leb a b) (in_range low high v)
          (λ e.
          let h = leb-true a b e in
          (wrapped_members low high v w.0).1
          (⊎_elim (λ (u : After v a). inl u.0) (λ (u : Round v a). inr (omega (arith, w.1, u.1))) (met v a la ea)))
          (λ e.
          le-leb a b
          (⊎_elim
          (λ (u : After v a). omega (arith, w.1, u.1, u.2))
          (λ (u : Round v a).
          ⊎_elim (λ (h : low ≤ v). absurd (omega (arith, u.0))) (λ (h : v ≤ high). omega (arith, w.1, u.1)) ((wrapped_members low high v w.0).0 e))
          (met v a la ea)))
