-- Refusal 9 names the first field whose value is over its maximum, and applies exactly where the request is not within the maxima.
use mathlib.Core.Path.{◌≡◌, refl, sym, ap, ◌∙◌}
use mathlib.Core.Bool.{Bool, true, false, cond}
use mathlib.Core.Logic.{⊎_elim}
use mathlib.Core.List.{List, ◌++◌}
use Prim.Native.Nat.{ℕ, zero, suc, ◌+◌, ◌-◌, ◌≤◌, ◌<◌}
use native.Mathlib.Nat.{eq-or-lt_of_le}
use native.Mathlib.Omega.{arith}
use borrow.Author.Tests.{lt-ltb, le-ltb, ltb-true, ltb-false}
use lib.Dec.{ltb}
use Rattle.std.specs.Prelude.{Some, None}
use Rattle.std.proofs.lemmas.Option.{cond_some, none-some}
use Rattle.answer.specs.Fields.{fields}
use Rattle.answer.specs.Answers.{zeros}
use Rattle.answer.specs.Requests.{value, Within, value_fault, first_from, field_fault, one_of_fields}

module _ (p : ℕ → Bool) where
  -- one number more, by whether it passes
  first_more : (i k : ℕ) (b : Bool) → p i ≡ b → first_from p i (suc k) ≡ cond b i (first_from p (i + 1) k)
  first_more i k b e = ap (λ x. cond x i (first_from p (i + 1) k)) e

  -- where none of k numbers passes, the first that does is past them
  pub first_none : (k i : ℕ) → ((j : ℕ) → i ≤ j → j < i + k → p j ≡ false) → first_from p i k ≡ i + k
  first_none zero i h = omega arith
  first_none (suc k) i h =
      let z : i + 1 + k ≡ i + suc k = omega arith in
      first_more i k false (h i (omega arith) (omega arith)) ∙ first_none k (i + 1) (λ j l r. h j (omega arith) (omega arith)) ∙ z

  -- the number found is no earlier than the first asked, and none before it passes
  pub first_least : (k i : ℕ) → (i ≤ first_from p i k) × ((j : ℕ) → i ≤ j → j < first_from p i k → p j ≡ false)
  first_least zero i = (omega arith, λ j l r. absurd (omega arith))
  first_least (suc k) i = by (p i) refl (first_least k (i + 1))
    where
      by : (b : Bool) → p i ≡ b → (i + 1 ≤ first_from p (i + 1) k) × ((j : ℕ) → i + 1 ≤ j → j < first_from p (i + 1) k → p j ≡ false) →
          (i ≤ first_from p i (suc k)) × ((j : ℕ) → i ≤ j → j < first_from p i (suc k) → p j ≡ false)
      by true e h = (omega (arith, first_more i k true e), λ j l r. absurd (omega (arith, first_more i k true e)))
      by false e h = (
        omega (arith, first_more i k false e, h.0),
        λ j l r.
            ⊎_elim
            (λ (m : i ≡ j). ap p (sym m) ∙ e)
            (λ (m : i < j). h.1 j (omega arith) (omega (arith, first_more i k false e)))
            (eq-or-lt_of_le l),
      )

  -- where the first is one of the k numbers, it passes
  pub first_passes : (k i : ℕ) → first_from p i k < i + k → p (first_from p i k) ≡ true
  first_passes zero i l = absurd (omega arith)
  first_passes (suc k) i l = by (p i) refl (first_passes k (i + 1))
    where
      by : (b : Bool) → p i ≡ b → (first_from p (i + 1) k < i + 1 + k → p (first_from p (i + 1) k) ≡ true) → p (first_from p i (suc k)) ≡ true
      by true e h = ap p (first_more i k true e) ∙ e
      by false e h = ap p (first_more i k false e) ∙ h (omega (arith, first_more i k false e))

  -- one step of a search that stands at i, of n in all
  pub search_more : (i n : ℕ) (b : Bool) → i < n → p i ≡ b → first_from p i (n - i) ≡ cond b i (first_from p (i + 1) (n - (i + 1)))
  search_more i n b l e = let z : n - i ≡ suc (n - (i + 1)) = omega arith in ap (first_from p i) z ∙ first_more i (n - (i + 1)) b e

  pub search_ends : (i n : ℕ) → n ≤ i → first_from p i (n - i) ≡ i
  search_ends i n l = let z : n - i ≡ 0 = omega arith in ap (first_from p i) z

-- two tests that say the same of the k numbers
first_alike : (p r : ℕ → Bool) (k i : ℕ) → ((j : ℕ) → i ≤ j → j < i + k → p j ≡ r j) → first_from p i k ≡ first_from r i k
first_alike p r zero i h = refl
first_alike p r (suc k) i h =
    ap (λ b. cond b i (first_from p (i + 1) k)) (h i (omega arith) (omega arith))
    ∙ ap (cond (r i) i) (first_alike p r k (i + 1) (λ j l m. h j (omega arith) (omega arith)))

-- maxima that are the same for each field
pub fault_alike : (m n : ℕ → ℕ) (q : List ℕ) (from : ℕ) → from ≤ fields → ((f : ℕ) → f < fields → m f ≡ n f) → field_fault m q from ≡ field_fault n q from
unfolding field_fault
fault_alike m n q from h e =
    first_alike (value_fault m q) (value_fault n q) (fields - from) from (λ f l r. ap (λ k. ltb k (value q f)) (e f (omega arith)))

module _ (maximum : ℕ → ℕ) (q : List ℕ) where
  module _ (from : ℕ) (start : from ≤ fields) where
    -- no field from this one on is over its maximum
    pub none_over : fields ≤ field_fault maximum q from → (f : ℕ) → from ≤ f → f < fields → value_fault maximum q f ≡ false
    unfolding field_fault
    none_over h f l m = (first_least (value_fault maximum q) (fields - from) from).1 f l (omega arith)

    -- the field named is over its maximum, and no earlier one is
    pub first_over : field_fault maximum q from < fields →
        (from ≤ field_fault maximum q from)
        × ((value_fault maximum q (field_fault maximum q from) ≡ true)
        × ((f : ℕ) → from ≤ f → f < field_fault maximum q from → value_fault maximum q f ≡ false))
    unfolding field_fault
    first_over h =
        let least = first_least (value_fault maximum q) (fields - from) from in
        (least.0, (first_passes (value_fault maximum q) (fields - from) from (omega arith), least.1))

  -- a request that has no faulty field is within the maxima
  pub none_over_within : fields ≤ field_fault maximum q 0 → Within maximum q
  none_over_within h f l = ltb-false (maximum f) (value q f) (none_over 0 (omega arith) h f (omega arith) l)

-- values that stand for the fields from a given one on
pub value_after : (q : List ℕ) (from f : ℕ) → from ≤ f → value (zeros from ++ q) f ≡ value q (f - from)
value_after q zero f l = let z : f ≡ f - 0 = omega arith in ap (value q) z
value_after q (suc from) zero l = absurd (omega arith)
value_after q (suc from) (suc f) l = let z : f - from ≡ suc f - suc from = omega arith in value_after q from f (omega arith) ∙ ap (value q) z

module _ (maximum : ℕ → ℕ) (q : List ℕ) (from : ℕ) where
  -- the search for a faulty field stands at field f
  abbrev pub Searched : ℕ → Type 0
  Searched f = field_fault maximum q from ≡ first_from (value_fault maximum q) f (fields - f)

  pub search_starts : Searched from
  unfolding field_fault
  search_starts = refl

  pub field_found : (f m v : ℕ) → f < fields → m ≡ maximum f → v ≡ value q f → m < v → Searched f → f ≡ field_fault maximum q from
  field_found f m v l e ev h s =
      sym (s ∙ search_more (value_fault maximum q) f fields true l (lt-ltb (maximum f) (value q f) (omega arith)))

  pub field_passed : (f m v : ℕ) → f < fields → m ≡ maximum f → v ≡ value q f → v ≤ m → Searched f → Searched (f + 1)
  field_passed f m v l e ev h s =
      s ∙ search_more (value_fault maximum q) f fields false l (le-ltb (maximum f) (value q f) (omega arith))

  pub no_field : (f : ℕ) → f ≡ fields → Searched f → fields ≡ field_fault maximum q from
  no_field f e s = sym (s ∙ search_ends (value_fault maximum q) f fields (omega arith) ∙ e)

-- the field of a number, where there is one
pub one_found : (f n : ℕ) → f < fields → f ≡ n → Some f ≡ one_of_fields n
one_found f n l e = ap (λ b. cond b (Some f) None) (sym (lt-ltb f fields l)) ∙ ap one_of_fields e

pub none_found : (n : ℕ) → fields ≤ n → None ≡ one_of_fields n
none_found n l = ap (λ b. cond b (Some n) None) (sym (le-ltb n fields l))

-- a field that was found is that number, and one of the fields
pub found_one : (f n : ℕ) → Some f ≡ one_of_fields n → (f ≡ n) × (f < fields)
found_one f n e = let h = cond_some (ltb n fields) n f (sym e) in (sym h.1, omega (arith, ltb-true n fields h.0, h.1))

pub found_none : (n : ℕ) → None ≡ one_of_fields n → fields ≤ n
found_none n e = by (ltb n fields) refl e
  where
    by : (b : Bool) → ltb n fields ≡ b → None ≡ cond b (Some n) None → fields ≤ n
    by true h e = absurd (none-some n e)
    by false h e = ltb-false n fields h
