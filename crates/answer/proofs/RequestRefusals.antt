-- Refusals 9 and 10 of a request, for every way of ruling: which is first, or that none applies.
use mathlib.Core.Path.{◌≡◌, ap, ◌∙◌}
use mathlib.Core.Bool.{false}
use mathlib.Core.List.{List, [], ◌∷◌, ◌++◌}
use Prim.Native.Nat.{ℕ, ◌-◌, ◌≤◌, ◌<◌}
use native.Mathlib.Omega.{arith}
use borrow.Author.Tests.{lt-ltb, le-ltb, ltb-false}
use lib.ListN.{length}
use Rattle.answer.specs.Fields.{fields}
use Rattle.answer.specs.Answers.{refused, ruled, zeros, padded}
use Rattle.answer.specs.Requests.{value, WithinFrom, value_fault, field_fault}
use Rattle.answer.specs.Refusals.{Refusal, row, None, First, here}
use Rattle.answer.specs.Rulings.{Ruling, value_refusals, list_refusal, request_refusals, answer_of, ruled_or, listed_or}
use Rattle.answer.specs.declared.Answer.{Answer}
use Rattle.answer.proofs.Settling.{all_join, all_parts, all_upward, upward_all, first_in, first_after, first_upward, settled_so, refuses, succeeds, answers}
use Rattle.answer.proofs.FirstField.{none_over, first_over}

-- what is so of 0, the decision of a refusal, and of a ruling's where none applies, is so of the decision that is answered
pub ruled_so : (P : ℕ → Type 0) → P 0 → (refusals : List Refusal) (r : Ruling) (subjects : ℕ) → (None refusals → P r.decision) →
    P (ruled_or refusals r subjects).decision
ruled_so P zero refusals r subjects = settled_so refused (answer_of r subjects) (λ a. P a.decision) refusals (λ number place. zero)

module _ (maximum : ℕ → ℕ) (q : List ℕ) (from : ℕ) (start : from ≤ fields) where
  abbrev rows : ℕ → List Refusal
  rows f = row 9 f (value_fault maximum q f) ∷ []

  -- refusal 9 applies to no field from this one on
  pub values_pass : fields ≤ field_fault maximum q from → None (value_refusals maximum q from)
  values_pass h =
      all_upward (λ r. r.when ≡ false) rows (fields - from) from (λ f l m. (none_over maximum q from start h f l (omega arith), tt))

  -- refusal 9 names the first field over its maximum
  pub value_first : (f : ℕ) → f ≡ field_fault maximum q from → f < fields → First (value_refusals maximum q from) (row 9 f (value_fault maximum q f))
  value_first f e l =
      let h = first_over maximum q from start (omega arith) in
      first_upward rows f (here (ap (value_fault maximum q) e ∙ h.1.0)) (fields - from) from (omega (arith, h.0)) (omega arith)
      (λ j a b. (h.1.1 j a (omega arith), tt))

  module _ (r : Ruling) (n : ℕ) where
    -- refusal 9 comes first where a value is over its maximum
    pub over : (f : ℕ) → f ≡ field_fault maximum q from → f < fields → First (request_refusals maximum q from r n) (row 9 f (value_fault maximum q f))
    over f e l = first_in (value_refusals maximum q from) (list_refusal r n ∷ []) (value_first f e l)

    -- refusal 10 comes first where no value is over and the list is shorter than the cards
    pub short : fields ≤ field_fault maximum q from → n < length r.cards → First (request_refusals maximum q from r n) (list_refusal r n)
    short w l = first_after (value_refusals maximum q from) (list_refusal r n ∷ []) (values_pass w) (here (lt-ltb n (length r.cards) l))

    -- neither applies where no value is over and the list is long enough
    pub passed_none : fields ≤ field_fault maximum q from → length r.cards ≤ n → None (request_refusals maximum q from r n)
    passed_none w l =
        all_join (λ x. x.when ≡ false) (value_refusals maximum q from) (list_refusal r n ∷ []) (values_pass w) (le-ltb n (length r.cards) l, tt)

    -- neither 9 nor 10 applies, exactly where the request is within the maxima and the list is long enough

    pub within_none : WithinFrom maximum q from → length r.cards ≤ n → None (request_refusals maximum q from r n)
    within_none w l =
        all_join (λ x. x.when ≡ false) (value_refusals maximum q from) (list_refusal r n ∷ [])
        (all_upward (λ x. x.when ≡ false) rows (fields - from) from (λ f a b. (le-ltb (maximum f) (value q f) (w f a (omega arith)), tt)))
        (le-ltb n (length r.cards) l, tt)

    pub none_within : None (request_refusals maximum q from r n) → WithinFrom maximum q from × (length r.cards ≤ n)
    none_within h =
        let p = all_parts (λ x. x.when ≡ false) (value_refusals maximum q from) (list_refusal r n ∷ []) h in (
          λ f a l. ltb-false (maximum f) (value q f) (upward_all (λ x. x.when ≡ false) rows (fields - from) from p.0 f a (omega arith)).0,
          ltb-false n (length r.cards) p.1.0,
        )

-- a request of a list of n places, after other refusals, by its fields from a given one on: the answer and the list, for each way through the code
module _ (before : List Refusal) (maximum : ℕ → ℕ) (q : List ℕ) (from : ℕ) (start : from ≤ fields) (r : Ruling) (subjects n : ℕ) where
  abbrev asked : List Refusal
  asked = before ++ request_refusals maximum q from r n

  abbrev pub Asked : Answer → List ℕ → Type 0
  Asked a list =
      (a ≡ ruled_or (before ++ request_refusals maximum q from r n) r subjects)
      × (list ≡ listed_or (before ++ request_refusals maximum q from r n) r.cards n)

  module _ (a : Answer) (list : List ℕ) where
    refused_first : {x : Refusal} → First asked x → a ≡ refused x.number x.place → list ≡ zeros n → Asked a list
    refused_first = refuses refused (zeros n) (answer_of r subjects) (padded r.cards n) asked a list

    pub asked_before : {x : Refusal} → First before x → a ≡ refused x.number x.place → list ≡ zeros n → Asked a list
    asked_before f = refused_first (first_in before (request_refusals maximum q from r n) f)

    module _ (none : None before) where
      pub asked_over : (f : ℕ) → f ≡ field_fault maximum q from → f < fields → a ≡ refused 9 f → list ≡ zeros n → Asked a list
      asked_over f ef l = refused_first (first_after before (request_refusals maximum q from r n) none (over maximum q from start r n f ef l))

      -- what is answered once all cards, k, were counted
      module _ (f : ℕ) (ef : f ≡ field_fault maximum q from) (w : fields ≤ f) (k : ℕ) (ek : k ≡ length r.cards) where
        pub asked_short : n < k → a ≡ refused 10 0 → list ≡ zeros n → Asked a list
        asked_short l =
            refused_first (first_after before (request_refusals maximum q from r n) none (short maximum q from start r n (omega arith) (omega arith)))

        pub asked_ruled : (d m : ℕ) → k ≤ n → d ≡ r.decision → m ≡ subjects → a ≡ ruled d k m → list ≡ padded r.cards n → Asked a list
        asked_ruled d m l ed em e z =
            succeeds refused (zeros n) (answer_of r subjects) (padded r.cards n) asked a list
            (all_join (λ x. x.when ≡ false) before (request_refusals maximum q from r n) none
            (passed_none maximum q from start r n (omega arith) (omega arith)))
            (e ∙ rw (ed, ek, em)) z

  -- a request within the maxima gets its ruling, where the list is long enough
  pub within_ruled : None before → WithinFrom maximum q from → length r.cards ≤ n →
      (ruled_or (before ++ request_refusals maximum q from r n) r subjects ≡ answer_of r subjects)
      × (listed_or (before ++ request_refusals maximum q from r n) r.cards n ≡ padded r.cards n)
  within_ruled none w l =
      (answers refused (zeros n) (answer_of r subjects) (padded r.cards n) asked).succeeds
      (all_join (λ x. x.when ≡ false) before (request_refusals maximum q from r n) none (within_none maximum q from start r n w l))

  -- what is so of 0, and of the decision where the request is within the maxima, is so of the decision that is answered
  pub asked_so : (P : ℕ → Type 0) → P 0 → (None before → WithinFrom maximum q from → P r.decision) →
      P (ruled_or (before ++ request_refusals maximum q from r n) r subjects).decision
  asked_so P zero h =
      ruled_so P zero asked r subjects
      (λ none.
      let p = all_parts (λ x. x.when ≡ false) before (request_refusals maximum q from r n) none in
      h p.0 (none_within maximum q from start r n p.1).0)
