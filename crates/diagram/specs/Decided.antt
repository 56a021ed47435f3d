-- What is decided: a claim or its refutation. Each of these says in its type what it decides; a reader needs no more of it.
use Rattle.std.specs.Prelude.{◌≡◌, refl, Bool, true, false, ◌⊎◌, ℕ, zero, suc, ◌≤◌, ◌<◌, eqb, leb, ltb}
use Rattle.std.proofs.Common.{subst, inl, inr, ⊎_elim, arith, leb-true, leb-false, ltb-true, ltb-false, eqb-true}
use Rattle.std.proofs.lemmas.Bool.{eqb-false}

abbrev pub Decided : Type 0 → Type 0
Decided A = A ⊎ (A → ⊥)

-- whether a decided claim holds
abbrev pub yes? : {A : Type 0} → Decided A → Bool
yes? (inl a) = true
yes? (inr a) = false

-- a test that says whether the claim holds
abbrev pub Decides : Type 0 → Bool → Type 0
Decides A true = A
Decides A false = A → ⊥

pub yes_decides : {A : Type 0} (c : Decided A) → Decides A (yes? c)
yes_decides (inl a) = a
yes_decides (inr a) = a

-- the two outcomes of a test
abbrev pub either : (b : Bool) → (b ≡ true) ⊎ (b ≡ false)
either true = inl refl
either false = inr refl

unfoldable pub le? : (a b : ℕ) → Decided (a ≤ b)
le? a b = ⊎_elim (λ t. inl (leb-true a b t)) (λ t. inr (λ h. omega (arith, leb-false a b t))) (either (leb a b))

unfoldable pub lt? : (a b : ℕ) → Decided (a < b)
lt? a b = ⊎_elim (λ t. inl (ltb-true a b t)) (λ t. inr (λ h. omega (arith, ltb-false a b t))) (either (ltb a b))

unfoldable pub eq? : (a b : ℕ) → Decided (a ≡ b)
eq? a b = ⊎_elim (λ t. inl (eqb-true a b t)) (λ t. inr (eqb-false a b t)) (either (eqb a b))

unfoldable pub iff? : {A B : Type 0} → (A → B) → (B → A) → Decided A → Decided B
iff? f g (inl a) = inl (f a)
iff? f g (inr a) = inr (λ b. a (g b))

unfoldable pub not? : {A : Type 0} → Decided A → Decided (A → ⊥)
not? (inl a) = inr (λ f. f a)
not? (inr a) = inl a

unfoldable pub and? : {A B : Type 0} → Decided A → Decided B → Decided (A × B)
and? (inl a) (inl b) = inl (a, b)
and? (inl a) (inr b) = inr (λ p. b p.1)
and? (inr a) q = inr (λ p. a p.0)

unfoldable pub or? : {A B : Type 0} → Decided A → Decided B → Decided (A ⊎ B)
or? (inl a) q = inl (inl a)
or? (inr a) (inl b) = inl (inr b)
or? (inr a) (inr b) = inr (λ s. ⊎_elim a b s)

unfoldable pub when? : {A B : Type 0} → Decided A → Decided B → Decided (A → B)
when? (inl a) (inl b) = inl (λ x. b)
when? (inl a) (inr b) = inr (λ f. b (f a))
when? (inr a) q = inl (λ x. absurd (a x))

unfoldable pub one_more? : (P : ℕ → Type 0) (n : ℕ) → Decided ((i : ℕ) → i < n → P i) → Decided (P n) → Decided ((i : ℕ) → i < suc n → P i)
one_more? P n (inl f) (inl p) =
    inl (λ i h. ⊎_elim (λ t. f i (ltb-true i n t)) (λ t. let e : n ≡ i = omega (arith, ltb-false i n t) in subst P e p) (either (ltb i n)))
one_more? P n (inl f) (inr p) = inr (λ g. p (g n (omega arith)))
one_more? P n (inr f) q = inr (λ g. f (λ i h. g i (omega arith)))

unfoldable pub each? : (P : ℕ → Type 0) → ((i : ℕ) → Decided (P i)) → (n : ℕ) → Decided ((i : ℕ) → i < n → P i)
each? P f zero = inl (λ i h. absurd (omega arith))
each? P f (suc n) = one_more? P n (each? P f n) (f n)
