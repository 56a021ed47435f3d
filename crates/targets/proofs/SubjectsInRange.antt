-- Laws of the subjects in a range as a set, of those of a set that a target holds for, and of a set that is empty or has one over the maximum.
use Rattle.std.proofs.Common.{◌≡◌, ℕ, ◌+◌, ◌-◌, ◌*◌, ◌/◌, ◌%◌, ◌^◌, ◌<◌, ◌≤◌, Bool, true, false, not, ◌&&◌, ◌||◌, eqb, ltb, leb, List, ◌∷◌, sym, refl, ap, ◌∙◌, ap₂, ⊎_elim, arith, le-ltb, lt-ltb, eqb-true, le-leb}
use borrow.Author.Tests.{lt-leb}
use lib.Bits.{bit_and as word_and, bit_or as word_or}
use lib.Count.{count_trailing_zeros}
use Rattle.answer.specs.Below.{some_below}
use Rattle.answer.proofs.Below.{some_where, some_none, some_same}
use Rattle.answer.proofs.Tests.{lt_or_ge, and_true, and_false}
use Rattle.sets.specs.Sets.{bit, Next}
use Rattle.sets.proofs.WordPlaces.{bit_and, bit_or, bit_zero, bit_none, bit_past, bit_all, bit_shifted, bit_left}
use Rattle.sets.proofs.NextNumber.{least_within, least_next}
use Rattle.encoding.specs.Ranges.{low_of, high_of}
use Rattle.targets.specs.Targets.{in_range, target_holds_from}
use Rattle.targets.specs.Subjects.{most_subjects, member, some_member, subjects_fault}
use Rattle.targets.specs.Targets.{others_hold_from}
use Rattle.targets.proofs.FieldByField.{target_parts}
use Rattle.targets.proofs.InRange.{in_unwrapped, in_wrapped}

-- every place of a word is set
abbrev all : ℕ
all = 18446744073709551615

-- a set is right about every subject that a set can have: it has those that pass a test
abbrev pub SetOf : ℕ → (ℕ → Bool) → Type 0
SetOf r test = (k : ℕ) → k < most_subjects → member r k ≡ test k

-- no subject that a set can have is as high as the low end
pub none_from : (low : ℕ) → 64 ≤ low → SetOf 0 (leb low)
none_from low l k m = bit_zero k ∙ sym (lt-leb low k (omega arith))

-- the places from the low end up
pub set_from : (low : ℕ) → SetOf (all * 2 ^ low % 2 ^ 64) (leb low)
set_from low k m =
    bit_left all low k
    ∙ ap₂ (λ a b. (leb low k && a) && b) (bit_all 64 (k - low) ∙ lt-ltb (k - low) 64 (omega arith)) (lt-ltb k 64 m)
    ∙ and_true (leb low k && true) ∙ and_true (leb low k)

-- the high end is past all that a set can have
pub all_up_to : (high : ℕ) → 63 ≤ high → SetOf all (λ k. leb k high)
all_up_to high l k m = bit_all 64 k ∙ lt-ltb k 64 m ∙ sym (le-leb k high (omega arith))

-- the places up to the high end, which is n before the last
pub set_up_to : (high n : ℕ) → n + high ≡ 63 → SetOf (all / 2 ^ n) (λ k. leb k high)
set_up_to high n e k m =
    bit_shifted all n k ∙ bit_all 64 (n + k)
    ∙ ⊎_elim
    (λ (l : n + k < 64). lt-ltb (n + k) 64 l ∙ sym (le-leb k high (omega arith)))
    (λ (l : 64 ≤ n + k). le-ltb (n + k) 64 l ∙ sym (lt-leb k high (omega arith)))
    (lt_or_ge (n + k) 64)

-- the set of a range, from those of its ends
module _ (low high a b : ℕ) (from_low : SetOf a (leb low)) (up-to-high : SetOf b (λ k. leb k high)) where
  pub set_unwrapped : low ≤ high → SetOf (word_and a b) (in_range low high)
  set_unwrapped l k m = bit_and a b k ∙ ap₂ (λ x y. x && y) (from_low k m) (up-to-high k m) ∙ sym (in_unwrapped low high k l)

  pub set_wrapped : high < low → SetOf (word_or a b) (in_range low high)
  set_wrapped l k m = bit_or a b k ∙ ap₂ (λ x y. x || y) (from_low k m) (up-to-high k m) ∙ sym (in_wrapped low high k l)

-- the members that are left of a set, by a target that is tested from the word w
module _ (w : ℕ) (others : List ℕ) (s : ℕ) (b : Bool) (e : b ≡ others_hold_from w others) where
  abbrev in_subjects : ℕ → Bool
  in_subjects = in_range (low_of w 0) (high_of w 0)

  -- where another value is out of its range
  pub left_none : b ≡ false → (k : ℕ) → member 0 k ≡ member s k && target_holds_from w (k ∷ others)
  left_none n k =
      bit_zero k
      ∙ sym
      (ap (λ x. member s k && x) (target_parts w others k ∙ ap (λ x. in_subjects k && x) (sym e ∙ n) ∙ and_false (in_subjects k)) ∙ and_false (member s k))

  -- where the other values lie in their ranges: those in the range of subjects
  pub left_some : b ≡ true → s < 2 ^ 64 → (low high r : ℕ) → low ≡ low_of w 0 → high ≡ high_of w 0 → SetOf r (in_range low high) →
      (k : ℕ) → member (word_and s r) k ≡ member s k && target_holds_from w (k ∷ others)
  left_some y fits low high r el eh is k =
      bit_and s r k ∙ ⊎_elim within past (lt_or_ge k 64)
      ∙ ap (λ x. member s k && x)
      (ap₂ (λ x z. in_range x z k) el eh ∙ sym (target_parts w others k ∙ ap (λ x. in_subjects k && x) (sym e ∙ y) ∙ and_true (in_subjects k)))
    where
      within : k < 64 → (member s k && member r k) ≡ (member s k && in_range low high k)
      within m = ap (λ x. member s k && x) (is k m)

      past : 64 ≤ k → (member s k && member r k) ≡ (member s k && in_range low high k)
      past m = ap (λ x. x && member r k) (bit_past s k fits m) ∙ sym (ap (λ x. x && in_range low high k) (bit_past s k fits m))

-- a set that is not 0 has a member
pub some_in : (s : ℕ) → s < 2 ^ 64 → 0 < s → some_below most_subjects (member s) ≡ true
some_in s l p = let w = least_within s l p in some_where (member s) most_subjects (count_trailing_zeros 64 s) w ((least_next s l p).passes w)

-- 13, by each way through the code

-- some member of a set is over the maximum
abbrev pub some_over : ℕ → ℕ → Bool
some_over maximum s = some_member s (λ k. ltb maximum k)

pub empty_refused : (maximum s : ℕ) → s ≡ 0 → true ≡ subjects_fault maximum s
unfolding subjects_fault
empty_refused maximum s e = sym (ap (λ b. not b || some_over maximum s) (some_none (member s) most_subjects (λ k l. bit_none s k e)))

-- where members of the set s that are not over the maximum were passed, and these are left
module _ (maximum s left : ℕ) (same : some_over maximum left ≡ some_over maximum s) where
  -- the next member is not over it, and is passed
  pub next_passed : (r rest : ℕ) → r ≤ maximum → ((k : ℕ) → member rest k ≡ member left k && not (eqb r k)) → some_over maximum rest ≡ some_over maximum s
  next_passed r rest m is =
      some_same (λ k. member rest k && ltb maximum k) (λ k. member left k && ltb maximum k) most_subjects (λ k _. by k (eqb r k) refl) ∙ same
    where
      by : (k : ℕ) (b : Bool) → eqb r k ≡ b → (member rest k && ltb maximum k) ≡ (member left k && ltb maximum k)
      by k true e =
          let out : ltb maximum k ≡ false = le-ltb maximum k (omega (arith, eqb-true r k e)) in
          ap (λ b. member rest k && b) out ∙ and_false (member rest k) ∙ sym (ap (λ b. member left k && b) out ∙ and_false (member left k))
      by k false e = ap (λ b. b && ltb maximum k) (is k ∙ ap (λ b. member left k && not b) e ∙ and_true (member left k))

  module _ (l : s < 2 ^ 64) (p : 0 < s) where
    by_left : (b : Bool) → some_over maximum left ≡ b → b ≡ subjects_fault maximum s
    unfolding subjects_fault
    by_left b e = sym (ap (λ x. not x || some_over maximum s) (some_in s l p) ∙ sym same ∙ e)

    -- the next member is over it
    pub next_refused : (r : ℕ) → Next 64 (bit left) 0 r → r < 64 → maximum < r → true ≡ subjects_fault maximum s
    next_refused r n m o =
        by_left true
        (some_where (λ k. member left k && ltb maximum k) most_subjects r m (ap₂ (λ a b. a && b) (n.passes m) (lt-ltb maximum r o)))

    -- all were passed
    pub all_passed : left ≡ 0 → false ≡ subjects_fault maximum s
    all_passed e =
        by_left false (some_none (λ k. member left k && ltb maximum k) most_subjects (λ k _. ap (λ b. b && ltb maximum k) (bit_none left k e)))
