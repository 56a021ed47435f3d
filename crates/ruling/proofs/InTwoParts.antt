-- What a ruling answers that first sees to a table, by some refusals, and then asks an accepted one: one law for each part.
use mathlib.Core.Path.{◌≡◌, sym, ap, ◌∙◌}
use mathlib.Core.Bool.{false, cond}
use mathlib.Core.Logic.{⊎_elim}
use mathlib.Core.List.{List, [], ◌∷◌, ◌++◌}
use Prim.Native.Nat.{ℕ, ◌-◌, ◌<◌}
use native.Mathlib.Omega.{arith}
use borrow.Author.Tests.{ne_eqb}
use lib.Dec.{eqb, lit<}
use Rattle.answer.specs.Answers.{refused, ruled, zeros, padded}
use Rattle.answer.specs.Refusals.{Refusal, row, None, First}
use Rattle.answer.specs.Fields.{fields}
use Rattle.answer.specs.Requests.{value_fault}
use Rattle.answer.specs.Rulings.{Ruling, value_refusals, list_refusal, answer_of, ruled_or}
use Rattle.answer.specs.declared.Answer.{Answer}
use Rattle.answer.proofs.Settling.{all_join, all_upward, all_first, first_or_none, settled_first, settled_none, refused_before, settled_later, Numbered}
use Rattle.encoding.specs.Layout.{maximum}
use Rattle.targets.specs.Subjects.{size}
use Rattle.ruling.specs.Ruling.{groups_together, asked_refusals, ruled_after, listed_after, for_subjects}

-- no refusal of what is asked has number 0
asked_numbered : (t : List ℕ) (s : ℕ) (others : List ℕ) (n : ℕ) → Numbered (asked_refusals t s others n)
asked_numbered t s others n = (
  lit< tt,
  all_join (λ r. 0 < r.number) (value_refusals (maximum t) (0 ∷ others) 1) (list_refusal (groups_together t s others) n ∷ [])
      (all_upward (λ r. 0 < r.number) (λ f. row 9 f (value_fault (maximum t) (0 ∷ others) f) ∷ []) (fields - 1) 1 (λ f a b. (lit< tt, tt)))
      (lit< tt, tt),
)

-- the answer of a ruling, with how many subjects they are
with_subjects : (rs : List Refusal) (r : Ruling) (m : ℕ) → Numbered rs → for_subjects (ruled_or rs r 0) m ≡ ruled_or rs r m
with_subjects rs r m numbered =
    ⊎_elim
    (λ (none : None rs). ap (λ a. for_subjects a m) (settled_none refused (answer_of r 0) rs none) ∙ sym (settled_none refused (answer_of r m) rs none))
    (λ (f : (x : Refusal) × First rs x).
    let other : eqb f.0.number 0 ≡ false = ne_eqb f.0.number 0 (λ e. omega (arith, all_first (λ x. 0 < x.number) rs numbered f.1)) in
    ap (λ a. for_subjects a m) (settled_first refused (answer_of r 0) rs f.1)
    ∙ ap (λ b. cond b (ruled 0 0 m) (refused f.0.number f.0.place)) other
    ∙ sym (settled_first refused (answer_of r m) rs f.1))
    (first_or_none rs)

-- the same, where some refusals come before those of what is asked
pub subjects_counted : (before : List Refusal) (t : List ℕ) (s : ℕ) (others : List ℕ) (n : ℕ) → Numbered before →
    for_subjects (ruled_or (before ++ asked_refusals t s others n) (groups_together t s others) 0) (size s)
    ≡ ruled_after (before ++ asked_refusals t s others n) t s others
subjects_counted before t s others n numbered =
    with_subjects (before ++ asked_refusals t s others n) (groups_together t s others) (size s)
    (all_join (λ r. 0 < r.number) before (asked_refusals t s others n) numbered (asked_numbered t s others n))

module _ (before : List Refusal) (t : List ℕ) (s : ℕ) (others : List ℕ) (n : ℕ) (a : Answer) (list : List ℕ) where
  abbrev pub Answered : Type 0
  Answered =
      (a ≡ ruled_after (before ++ asked_refusals t s others n) t s others)
      × (list ≡ listed_after (before ++ asked_refusals t s others n) t s others n)

  abbrev given : Ruling
  given = groups_together t s others

  -- the table is turned away
  pub turned_away : {r : Refusal} → First before r → a ≡ refused r.number r.place → list ≡ zeros n → Answered
  turned_away = refused_before refused (zeros n) (answer_of given (size s)) (padded given.cards n) before (asked_refusals t s others n) a list

  -- it is asked, with a list that still has its n places
  pub asked_then : None before → (m : ℕ) → m ≡ n → (x : Answer) → x ≡ ruled_or (asked_refusals t s others m) given 0 → a ≡ for_subjects x (size s) →
      list ≡ listed_after (asked_refusals t s others m) t s others m → Answered
  asked_then none m k x d e z =
      settled_later refused (zeros n) (answer_of given (size s)) (padded given.cards n) before (asked_refusals t s others n) a list none (
        e ∙ ap (λ y. for_subjects y (size s)) d
            ∙ with_subjects (asked_refusals t s others m) given (size s) (asked_numbered t s others m)
            ∙ ap (λ x. ruled_after (asked_refusals t s others x) t s others) k,
        z ∙ ap (λ x. listed_after (asked_refusals t s others x) t s others x) k,
      )
