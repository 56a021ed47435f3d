-- Laws of items stored one after another in a list, as far as it reaches.
use mathlib.Core.Path.{◌≡◌, refl, sym, ap, ◌∙◌}
use mathlib.Core.List.{List, [], ◌∷◌, ◌++◌}
use Prim.Native.Nat.{ℕ, zero, suc, ◌+◌, ◌-◌, ◌≤◌, ◌<◌}
use native.Mathlib.Omega.{arith}
use lib.ListN.{length, get_or, set, take, drop, length-replicate}
use lib.Seq.{paste, sets, sets-eq}
use Rattle.std.proofs.lemmas.List.{append_assoc}
use Rattle.std.proofs.lemmas.List.Edits.{paste_more, paste_all}
use Rattle.answer.specs.Answers.{zeros, padded}

-- storing cs and then ds is storing both at once
pub stored_join : (cs ds list : List ℕ) (k : ℕ) → sets list k (cs ++ ds) ≡ sets (sets list k cs) (k + length cs) ds
stored_join [] ds list k = let z : k ≡ k + 0 = omega arith in ap (λ n. sets list n ds) z
stored_join (c ∷ cs) ds list k =
    let z : suc k + length cs ≡ k + suc (length cs) = omega arith in
    stored_join cs ds (set list k c) (suc k) ∙ ap (λ n. sets (sets (set list k c) (suc k) cs) n ds) z

drop_zeros : (k n : ℕ) → drop k (zeros n) ≡ zeros (n - k)
drop_zeros zero n = let z : n ≡ n - 0 = omega arith in ap zeros z
drop_zeros (suc k) zero = let z : 0 ≡ 0 - suc k = omega arith in ap zeros z
drop_zeros (suc k) (suc n) = let z : n - k ≡ suc n - suc k = omega arith in drop_zeros k n ∙ ap zeros z

-- cards stored in zeros that reach far enough, from the first place on
pub stored_padded : (cs : List ℕ) (n : ℕ) → length cs ≤ n → sets (zeros n) 0 cs ≡ padded cs n
stored_padded cs n l =
    let z : 0 + length cs ≡ length cs = omega arith in
    sets-eq cs (zeros n) 0 (omega (arith, length-replicate {A = ℕ} n 0))
    ∙ ap (λ k. cs ++ drop k (zeros n)) z
    ∙ ap (λ ds. cs ++ ds) (drop_zeros (length cs) n)

-- cards stored in a list that was cleared stand there with zeros after them
pub stored_cleared : (cs list before : List ℕ) (n : ℕ) → before ≡ zeros n → list ≡ sets before 0 cs → length cs ≤ n → list ≡ padded cs n
stored_cleared cs list before n z e l = e ∙ ap (λ b. sets b 0 cs) z ∙ stored_padded cs n l

-- where the first i items are stored from a place on: one more may be, or they are all
module _ {A : Type 0} (items before list : List A) (at i : ℕ) (so : list ≡ paste before at items i) (fits : at + length items ≤ length before) where
  pub stored_more : i < length items → (place : ℕ) (item : A) → place ≡ at + i → item ≡ get_or items i item → set list place item ≡ paste before at items (i + 1)
  stored_more more place item here next =
      ap (λ n. set list n item) here
      ∙ ap (λ xs. set xs (at + i) item) so
      ∙ ap (set (paste before at items i) (at + i)) next
      ∙ paste_more before at items i item (omega arith) more

  pub stored_all : i ≡ length items → list ≡ sets before at items
  stored_all all =
      so
      ∙ ap (paste before at items) all
      ∙ paste_all before at items (length items) refl
      ∙ sym (sets-eq items before at fits ∙ append_assoc (take at before) items _)
