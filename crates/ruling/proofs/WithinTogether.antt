-- Which sets of subjects get a ruling: none of 13, 9 and 10 applies exactly where the set has a member, what each member asks by itself is
-- within the maxima, and the list is long enough.
use mathlib.Core.Path.{◌≡◌, refl, ap₂}
use mathlib.Core.Bool.{Bool, true, false, not, ◌||◌}
use mathlib.Core.Logic.{◌↔◌}
use mathlib.Core.List.{List, ◌∷◌, ◌++◌}
use Prim.Native.Nat.{ℕ, zero, suc, ◌-◌, ◌≤◌, ◌<◌}
use native.Mathlib.Omega.{arith}
use borrow.Author.Tests.{le-ltb, ltb-false, not-false}
use lib.Dec.{ltb, lit<, lit≤}
use lib.ListN.{length}
use Rattle.answer.specs.Below.{some_below}
use Rattle.answer.specs.Fields.{fields}
use Rattle.answer.specs.Requests.{value, Within, WithinFrom}
use Rattle.answer.specs.Answers.{refused, zeros, padded}
use Rattle.answer.specs.Refusals.{Refusal, None}
use Rattle.answer.specs.Rulings.{answer_of}
use Rattle.answer.proofs.Below.{some_where, some_one}
use Rattle.answer.proofs.Tests.{neither}
use Rattle.answer.proofs.Settling.{all_join, all_parts, answers}
use Rattle.answer.proofs.RequestRefusals.{within_none, none_within}
use Rattle.encoding.specs.Layout.{maximum}
use Rattle.targets.specs.Subjects.{most_subjects, member, some_member, size, subjects_fault, AskedWithin}
use Rattle.ruling.specs.Ruling.{groups_together, asked_refusals, ruled_after, listed_after}
use Rattle.targets.proofs.Members.{no_member}

-- 13 does not apply exactly where the set has a member and each is at most the maximum
pub subjects_pass : (m s : ℕ) →
    (subjects_fault m s ≡ false) ↔ (((k : ℕ) × ((k < most_subjects) × (member s k ≡ true))) × ((k : ℕ) → k < most_subjects → member s k ≡ true → k ≤ m))
unfolding subjects_fault
subjects_pass m s =
    let over : ℕ → Bool = λ k. ltb m k in (
      λ e.
          let h = neither (not (some_below most_subjects (member s))) (some_member s over) e in (
            some_one (member s) most_subjects (not-false (some_below most_subjects (member s)) h.0),
            λ k l i. ltb-false m k ((no_member s over).0 h.1 k l i),
          ),
      λ h.
          ap₂ (λ a b. not a || b) (some_where (member s) most_subjects h.0.0 h.0.1.0 h.0.1.1)
          ((no_member s over).1 (λ k l i. le-ltb m k (h.1 k l i))),
    )

-- the values of the other fields are the same, whichever subject asks
value_other : (j k : ℕ) (others : List ℕ) (f : ℕ) → 1 ≤ f → value (j ∷ others) f ≡ value (k ∷ others) f
value_other j k others zero l = absurd (omega arith)
value_other j k others (suc f) l = refl

module _ (t : List ℕ) (s : ℕ) (others : List ℕ) where
  -- 13 does not apply, and 9 to no other field

  pub asked_passes : AskedWithin (maximum t) s others → (subjects_fault (maximum t 0) s ≡ false) × WithinFrom (maximum t) (0 ∷ others) 1
  asked_passes a =
      let k = a.some.0 in
      let h = a.some.1 in (
        (subjects_pass (maximum t 0) s).1 (a.some, λ j l m. (a.each j l m).1 0 (lit< tt)),
        λ f l m. rw (value_other 0 k others f l) ((a.each k h.0 h.1).1 f m),
      )

  pub passes_asked : length others ≡ fields - 1 → subjects_fault (maximum t 0) s ≡ false → WithinFrom (maximum t) (0 ∷ others) 1 →
      AskedWithin (maximum t) s others
  passes_asked e h w =
      let p = (subjects_pass (maximum t 0) s).0 h in
      record {
        some = p.0;
        each = λ k l m. (omega arith, within k (p.1 k l m));
      }
    where
      within : (k : ℕ) → k ≤ maximum t 0 → Within (maximum t) (k ∷ others)
      within k l zero m = l
      within k l (suc f) m = w (suc f) (omega arith) m

  -- none of 13, 9 and 10 applies exactly where the set asks within the table's maxima and the list is long enough
  module _ (n : ℕ) where
    abbrev LongEnough : Type 0
    LongEnough = length (groups_together t s others).cards ≤ n

    pub asked_none : AskedWithin (maximum t) s others → LongEnough → None (asked_refusals t s others n)
    asked_none a l =
        let p = asked_passes a in (p.0, within_none (maximum t) (0 ∷ others) 1 (lit≤ tt) (groups_together t s others) n p.1 l)

    pub none_asked : length others ≡ fields - 1 → None (asked_refusals t s others n) → AskedWithin (maximum t) s others × LongEnough
    none_asked e none =
        let w = none_within (maximum t) (0 ∷ others) 1 (lit≤ tt) (groups_together t s others) n none.1 in (passes_asked e none.0 w.0, w.1)

    -- after other refusals, of which none applies
    module _ (before : List Refusal) where
      pub ruled_exactly : length others ≡ fields - 1 →
          None (before ++ asked_refusals t s others n) ↔ (None before × (AskedWithin (maximum t) s others × LongEnough))
      ruled_exactly e = (
        λ none. let p = all_parts (λ r. r.when ≡ false) before (asked_refusals t s others n) none in (p.0, none_asked e p.1),
        λ h. all_join (λ r. r.when ≡ false) before (asked_refusals t s others n) h.0 (asked_none h.1.0 h.1.1),
      )

      pub within_answered : None before → AskedWithin (maximum t) s others → LongEnough →
          let r = groups_together t s others in
          let refusals = before ++ asked_refusals t s others n in
          (ruled_after refusals t s others ≡ answer_of r (size s)) × (listed_after refusals t s others n ≡ padded r.cards n)
      within_answered none a l =
          let r = groups_together t s others in
          (answers refused (zeros n) (answer_of r (size s)) (padded r.cards n) (before ++ asked_refusals t s others n)).succeeds
          (all_join (λ r. r.when ≡ false) before (asked_refusals t s others n) none (asked_none a l))
