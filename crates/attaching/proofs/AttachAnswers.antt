-- What attaching answers and leaves in the lent bytes: by its refusals, and where it succeeds.
use mathlib.Core.Path.{◌≡◌, refl, sym, ap, ap₂, ◌∙◌}
use mathlib.Core.Bool.{false}
use mathlib.Core.List.{List, [], ◌∷◌, ◌++◌}
use Prim.Native.Nat.{ℕ, ◌≤◌, ◌<◌}
use borrow.Author.Tests.{lt-ltb, le-ltb}
use lib.Dec.{ltb, lit<}
use lib.ListN.{length}
use Rattle.answer.specs.Answers.{refused, counted, zeros, padded}
use Rattle.answer.specs.Refusals.{Refusal, first_number, First, here, None}
use Rattle.answer.specs.declared.Answer.{Answer}
use Rattle.answer.proofs.Settling.{all_join, all_first, first_in, first_after, refuses, succeeds, Numbered, number_none, number_first}
use Rattle.table.specs.Reading.{table_refusals, Accepted}
use Rattle.attaching.specs.Attached.{attached_bytes, fit_refusals, bytes_refusal, attach_refusals, attached, attached_table}

module _ (b e : List ℕ) (n : ℕ) where
  -- an answer and bytes that are the defined ones
  abbrev pub Settled : Answer → List ℕ → Type 0
  Settled a t = (a ≡ attached b e n) × (t ≡ attached_table b e n)

  -- the refusals after both tables' own
  abbrev own : List Refusal
  own = fit_refusals b e ++ (bytes_refusal b e n ∷ [])

  turned_away : {r : Refusal} (a : Answer) (t : List ℕ) → First (attach_refusals b e n) r → a ≡ refused r.number r.place → t ≡ zeros n → Settled a t
  turned_away a t f = refuses refused (zeros n) (counted (length (attached_bytes b e))) (padded (attached_bytes b e) n) (attach_refusals b e n) a t f

  -- 1 to 8 of the base
  pub base_refused : {r : Refusal} (a : Answer) (t : List ℕ) → First (table_refusals b) r → a ≡ refused r.number r.place → t ≡ zeros n → Settled a t
  base_refused a t f = turned_away a t (first_in (table_refusals b) (table_refusals e ++ own) f)

  module _ (c : Accepted b) where
    -- 1 to 8 of the expansion
    pub expansion_refused : {r : Refusal} (a : Answer) (t : List ℕ) → First (table_refusals e) r → a ≡ refused r.number r.place → t ≡ zeros n →
        Settled a t
    expansion_refused a t f = turned_away a t (first_after (table_refusals b) (table_refusals e ++ own) c (first_in (table_refusals e) own f))

    module _ (d : Accepted e) where
      after_both : {r : Refusal} → First own r → First (attach_refusals b e n) r
      after_both f = first_after (table_refusals b) (table_refusals e ++ own) c (first_after (table_refusals e) own d f)

      numbered : Numbered (fit_refusals b e)
      numbered = (lit< tt, (lit< tt, (lit< tt, tt)))

      -- 17, 18 or 19
      pub fit_refused : (k : ℕ) (a : Answer) (t : List ℕ) → k ≡ first_number (fit_refusals b e) → (k ≡ 0 → ⊥) → a ≡ refused k 0 → t ≡ zeros n → Settled a t
      fit_refused k a t ek h ea z =
          let f = number_first (λ number place. number) (λ m. m) (λ number place. refl) 0 refl (fit_refusals b e) k ek h in
          let at = all_first (λ r. r.place ≡ 0) (fit_refusals b e) (refl, (refl, (refl, tt))) f.1.0 in
          turned_away a t (after_both (first_in (fit_refusals b e) (bytes_refusal b e n ∷ []) f.1.0)) (ea ∙ ap₂ refused f.1.1 (sym at)) z

      -- none of them
      pub none_refused : 0 ≡ first_number (fit_refusals b e) → None (fit_refusals b e)
      none_refused ek = number_none (λ number place. number) (λ m. m) (λ number place. refl) 0 refl (fit_refusals b e) numbered (sym ek)

      module _ (g : None (fit_refusals b e)) (k : ℕ) (ek : k ≡ length (attached_bytes b e)) where
        -- 11
        pub too_short : (a : Answer) (t : List ℕ) → n < k → a ≡ refused 11 0 → t ≡ zeros n → Settled a t
        too_short a t l =
            turned_away a t
            (after_both (first_after (fit_refusals b e) (bytes_refusal b e n ∷ []) g (here (ap (ltb n) (sym ek) ∙ lt-ltb n k l))))

        -- the table
        pub written : (a : Answer) (t : List ℕ) → k ≤ n → a ≡ counted k → t ≡ padded (attached_bytes b e) n → Settled a t
        written a t l ea =
            succeeds refused (zeros n) (counted (length (attached_bytes b e))) (padded (attached_bytes b e) n) (attach_refusals b e n) a t
            (all_join P (table_refusals b) (table_refusals e ++ own) c
            (all_join P (table_refusals e) own d
            (all_join P (fit_refusals b e) (bytes_refusal b e n ∷ []) g (ap (ltb n) (sym ek) ∙ le-ltb n k l, tt))))
            (ea ∙ ap counted ek)
          where
            P : Refusal → Type 0
            P r = r.when ≡ false
