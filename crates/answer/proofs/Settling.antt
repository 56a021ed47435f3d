-- Laws of refusals in their order: of which is first, and of what a call then answers, whatever the call hands back.
use mathlib.Core.Path.{◌≡◌, refl, sym, ap, ◌∙◌, subst}
use mathlib.Core.Bool.{Bool, true, false, cond}
use mathlib.Core.Logic.{◌⊎◌, inl, inr, ⊎_elim}
use mathlib.Core.List.{List, [], ◌∷◌, ◌++◌}
use Prim.Native.Nat.{ℕ, zero, suc, ◌+◌, ◌≤◌, ◌<◌}
use native.Mathlib.Nat.{eq-or-lt_of_le}
use native.Mathlib.Omega.{arith}
use Rattle.answer.specs.Refusals.{Refusal, upward, settled, All, None, First, here, later, Answers}

-- what holds of two lists of refusals holds of the one after the other

module _ (P : Refusal → Type 0) where
  pub all_join : (xs ys : List Refusal) → All P xs → All P ys → All P (xs ++ ys)
  all_join [] ys a b = b
  all_join (x ∷ xs) ys a b = (a.0, all_join xs ys a.1 b)

  pub all_parts : (xs ys : List Refusal) → All P (xs ++ ys) → All P xs × All P ys
  all_parts [] ys a = (tt, a)
  all_parts (x ∷ xs) ys a = let h = all_parts xs ys a.1 in ((a.0, h.0), h.1)

  -- what holds of the refusals of each of k numbers from i upward holds of all of them
  module _ (rows : ℕ → List Refusal) where
    pub all_upward : (k i : ℕ) → ((j : ℕ) → i ≤ j → j < i + k → All P (rows j)) → All P (upward rows i k)
    unfolding upward
    all_upward zero i h = tt
    all_upward (suc k) i h =
        all_join (rows i) (upward rows (i + 1) k) (h i (omega arith) (omega arith))
        (all_upward k (i + 1) (λ j l m. h j (omega arith) (omega arith)))

    pub upward_all : (k i : ℕ) → All P (upward rows i k) → (j : ℕ) → i ≤ j → j < i + k → All P (rows j)
    unfolding upward
    upward_all zero i a j l m = absurd (omega arith)
    upward_all (suc k) i a j l m =
        let h = all_parts (rows i) (upward rows (i + 1) k) a in
        ⊎_elim
        (λ (e : i ≡ j). subst (λ n. All P (rows n)) e h.0)
        (λ (e : i < j). upward_all k (i + 1) h.1 j (omega arith) (omega arith))
        (eq-or-lt_of_le l)

  -- what holds of all refusals of a list holds of the first
  pub all_first : (rs : List Refusal) {r : Refusal} → All P rs → First rs r → P r
  all_first (r ∷ rs) a (here e) = a.0
  all_first (s ∷ rs) a (later e f) = all_first rs a.1 f
  all_first [] {r = r} a x'' = elim x'' [ ]

pub first_in : (xs ys : List Refusal) {r : Refusal} → First xs r → First (xs ++ ys) r
first_in (x ∷ xs) ys (here e) = here e
first_in (x ∷ xs) ys (later e f) = later e (first_in xs ys f)
first_in [] ys {r = r} x' = elim x' [ ]

pub first_after : (xs ys : List Refusal) {r : Refusal} → None xs → First ys r → First (xs ++ ys) r
first_after [] ys n f = f
first_after (x ∷ xs) ys n f = later n.0 (first_after xs ys n.1 f)

-- of all numbers' refusals the first is that of the first number that has one
pub first_upward : (rows : ℕ → List Refusal) {r : Refusal} (m : ℕ) → First (rows m) r → (k i : ℕ) → i ≤ m → m < i + k →
    ((j : ℕ) → i ≤ j → j < m → None (rows j)) → First (upward rows i k) r
unfolding upward
first_upward rows {r} m f zero i l h none = absurd (omega arith)
first_upward rows {r} m f (suc k) i l h none =
    ⊎_elim
    (λ (e : i ≡ m). first_in (rows i) (upward rows (i + 1) k) (subst (λ n. First (rows n) r) (sym e) f))
    (λ (e : i < m).
    first_after (rows i) (upward rows (i + 1) k) (none i (omega arith) e)
    (first_upward rows m f k (i + 1) (omega arith) (omega arith) (λ j a b. none j (omega arith) b)))
    (eq-or-lt_of_le l)

-- of a list of refusals one is the first, or none applies
pub first_or_none : (rs : List Refusal) → None rs ⊎ ((r : Refusal) × First rs r)
first_or_none [] = inl tt
first_or_none (r ∷ rs) = by r.when refl (first_or_none rs)
  where
    by : (b : Bool) → r.when ≡ b → None rs ⊎ ((s : Refusal) × First rs s) → None (r ∷ rs) ⊎ ((s : Refusal) × First (r ∷ rs) s)
    by true e h = inr (r, here e)
    by false e h = ⊎_elim (λ (n : None rs). inl (e, n)) (λ (f : (s : Refusal) × First rs s). inr (f.0, later e f.1)) h

-- what a call answers by its refusals

module _ {A : Type 0} (no : ℕ → ℕ → A) (yes : A) where
  pub settled_first : (rs : List Refusal) {r : Refusal} → First rs r → settled no yes rs ≡ no r.number r.place
  unfolding settled
  settled_first (r ∷ rs) (here e) = ap (λ b. cond b (no r.number r.place) (settled no yes rs)) e
  settled_first (s ∷ rs) (later e f) = ap (λ b. cond b (no s.number s.place) (settled no yes rs)) e ∙ settled_first rs f
  settled_first [] {r = r} x' = elim x' [ ]

  pub settled_none : (rs : List Refusal) → None rs → settled no yes rs ≡ yes
  unfolding settled
  settled_none [] n = refl
  settled_none (r ∷ rs) n = ap (λ b. cond b (no r.number r.place) (settled no yes rs)) n.0 ∙ settled_none rs n.1

  -- refusals of which none applies leave the answer to those after them
  pub settled_after : (xs ys : List Refusal) → None xs → settled no yes (xs ++ ys) ≡ settled no yes ys
  unfolding settled
  settled_after [] ys n = refl
  settled_after (x ∷ xs) ys n = ap (λ b. cond b (no x.number x.place) (settled no yes (xs ++ ys))) n.0 ∙ settled_after xs ys n.1

  -- what is so of every refusal, and of the success where none applies
  pub settled_so : (P : A → Type 0) (rs : List Refusal) → ((n p : ℕ) → P (no n p)) → (None rs → P yes) → P (settled no yes rs)
  settled_so P rs refusal success =
      ⊎_elim
      (λ (n : None rs). rw (settled_none rs n) (success n))
      (λ (f : (r : Refusal) × First rs r). rw (settled_first rs f.1) (refusal f.0.number f.0.place))
      (first_or_none rs)

-- a call whose refusals these are: its result, and what it was lent to write
module _ {A L : Type 0} (no : ℕ → ℕ → A) (blank : L) (yes : A) (shown : L) (rs : List Refusal) where
  abbrev pub Settled : A → L → Type 0
  Settled a lent = (a ≡ settled no yes rs) × (lent ≡ settled (λ number place. blank) shown rs)

  pub refuses : {r : Refusal} (a : A) (lent : L) → First rs r → a ≡ no r.number r.place → lent ≡ blank → Settled a lent
  refuses a lent f e z = (e ∙ sym (settled_first no yes rs f), z ∙ sym (settled_first (λ number place. blank) shown rs f))

  pub succeeds : (a : A) (lent : L) → None rs → a ≡ yes → lent ≡ shown → Settled a lent
  succeeds a lent n e z = (e ∙ sym (settled_none no yes rs n), z ∙ sym (settled_none (λ number place. blank) shown rs n))

  -- "Each is returned where its condition holds and none earlier in this order does, and at no other time."
  pub answers : Answers rs no blank yes shown (settled no yes rs) (settled (λ number place. blank) shown rs)
  answers =
      record {
        returned = λ r f. (settled_first no yes rs f, settled_first (λ number place. blank) shown rs f);
        succeeds = λ n. (settled_none no yes rs n, settled_none (λ number place. blank) shown rs n);
        either = first_or_none rs;
      }

-- a call in two parts: the refusals of the first, and then those of the second
module _ {A L : Type 0} (no : ℕ → ℕ → A) (blank : L) (yes : A) (shown : L) (xs ys : List Refusal) where
  pub refused_before : {r : Refusal} (a : A) (lent : L) → First xs r → a ≡ no r.number r.place → lent ≡ blank →
      Settled no blank yes shown (xs ++ ys) a lent
  refused_before a lent f = refuses no blank yes shown (xs ++ ys) a lent (first_in xs ys f)

  pub settled_later : (a : A) (lent : L) → None xs → Settled no blank yes shown ys a lent → Settled no blank yes shown (xs ++ ys) a lent
  settled_later a lent n h = (
    h.0 ∙ sym (settled_after no yes xs ys n),
    h.1 ∙ sym (settled_after (λ number place. blank) shown xs ys n),
  )

-- no refusal has number 0
abbrev pub Numbered : List Refusal → Type 0
Numbered rs = All (λ r. 0 < r.number) rs

-- what the number of a result tells, where a success has number 0
module _ {A : Type 0} (no : ℕ → ℕ → A) (number : A → ℕ) (numbers : (n p : ℕ) → number (no n p) ≡ n) (yes : A) (z : number yes ≡ 0) (rs : List Refusal) where
  pub number_none : Numbered rs → number (settled no yes rs) ≡ 0 → None rs
  number_none numbered e =
      ⊎_elim
      (λ (n : None rs). n)
      (λ (f : (r : Refusal) × First rs r).
      absurd
      (omega (
        arith,
        ap number (settled_first no yes rs f.1),
        numbers f.0.number f.0.place,
        all_first (λ r. 0 < r.number) rs numbered f.1,
      )))
      (first_or_none rs)

  pub number_first : (a : A) → a ≡ settled no yes rs → (number a ≡ 0 → ⊥) → (r : Refusal) × (First rs r × (a ≡ no r.number r.place))
  number_first a e h =
      ⊎_elim
      (λ (n : None rs). absurd (h (ap number (e ∙ settled_none no yes rs n) ∙ z)))
      (λ (f : (r : Refusal) × First rs r). (f.0, (f.1, e ∙ settled_first no yes rs f.1)))
      (first_or_none rs)
