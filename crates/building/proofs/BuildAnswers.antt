-- What building answers and leaves in the lent diagram: by its refusals, and where it succeeds.
use mathlib.Core.Path.{◌≡◌, refl, ap, ◌∙◌}
use mathlib.Core.Bool.{false, ◌||◌, or-true}
use mathlib.Core.Logic.{◌⊎◌, ◌↔◌, ⊎_elim}
use mathlib.Core.List.{List, [], ◌∷◌}
use Prim.Native.Nat.{ℕ, ◌-◌, ◌≤◌, ◌<◌}
use borrow.Author.Tests.{lt-ltb, le-ltb, ltb-false}
use lib.Dec.{ltb, lit<}
use lib.ListN.{length, take}
use lib.Seq.{take-append_seam}
use Rattle.answer.specs.Answers.{refused, counted, zeros, padded}
use Rattle.answer.specs.Refusals.{Refusal, First, here, None}
use Rattle.answer.specs.declared.Answer.{Answer}
use Rattle.answer.proofs.Settling.{all_join, all_parts, first_in, first_after, refuses, succeeds, answers, number_none}
use Rattle.encoding.specs.Layout.{maxima}
use Rattle.table.specs.Reading.{table_refusals, Accepted}
use Rattle.table.proofs.Accepting.{table_numbered}
use Rattle.answer.proofs.Tests.{neither}
use Rattle.ruling.specs.Ruling.{groups}
use Rattle.diagram.specs.Layout.{most_places, used}
use Rattle.diagram.proofs.DiagramHeader.{diagram_used}
use Rattle.building.specs.Built.{diagram_of, room_refusal, build_refusals, built, built_diagram}

module _ (t : List ℕ) (n : ℕ) where
  -- 11: "the built diagram needs over 32,768 places or more than lent"
  abbrev pub TooLarge : Type 0
  TooLarge = (most_places < length (diagram_of t)) ⊎ (n < length (diagram_of t))

  -- the built diagram needs no more than 32,768 places, and no more than are lent
  abbrev pub Fits : Type 0
  Fits = (length (diagram_of t) ≤ most_places) × (length (diagram_of t) ≤ n)

  large_first : TooLarge → First (room_refusal t n ∷ []) (room_refusal t n)
  large_first h =
      here
      (⊎_elim
      (λ (l : most_places < length (diagram_of t)). ap (λ b. b || ltb n (length (diagram_of t))) (lt-ltb most_places (length (diagram_of t)) l))
      (λ (l : n < length (diagram_of t)).
      ap (λ b. ltb most_places (length (diagram_of t)) || b) (lt-ltb n (length (diagram_of t)) l) ∙ or-true (ltb most_places (length (diagram_of t))))
      h)

  fits_none : Fits → None (room_refusal t n ∷ [])
  fits_none h =
      (ap (λ b. b || ltb n (length (diagram_of t))) (le-ltb most_places (length (diagram_of t)) h.0) ∙ le-ltb n (length (diagram_of t)) h.1, tt)

  pub none_fits : None (room_refusal t n ∷ []) → Fits
  none_fits h =
      let p = neither (ltb most_places (length (diagram_of t))) (ltb n (length (diagram_of t))) h.0 in
      (ltb-false most_places (length (diagram_of t)) p.0, ltb-false n (length (diagram_of t)) p.1)

  -- an answer and a diagram that are the defined ones
  abbrev pub Settled : Answer → List ℕ → Type 0
  Settled a d = (a ≡ built t n) × (d ≡ built_diagram t n)

  abbrev given : Answer
  given = counted (length (diagram_of t))

  -- refusals 1 to 8
  pub unread : {r : Refusal} (a : Answer) (d : List ℕ) → First (table_refusals t) r → a ≡ refused r.number r.place → d ≡ zeros n → Settled a d
  unread a d f e z = refuses refused (zeros n) given (padded (diagram_of t) n) (build_refusals t n) a d (first_in (table_refusals t) (room_refusal t n ∷ []) f) e z

  none : Accepted t → Fits → None (build_refusals t n)
  none c h = all_join (λ r. r.when ≡ false) (table_refusals t) (room_refusal t n ∷ []) c (fits_none h)

  module _ (c : Accepted t) where
    -- 11
    pub too_large_lem : (a : Answer) (d : List ℕ) → TooLarge → a ≡ refused 11 0 → d ≡ zeros n → Settled a d
    too_large_lem a d h e z =
        refuses refused (zeros n) given (padded (diagram_of t) n) (build_refusals t n) a d
        (first_after (table_refusals t) (room_refusal t n ∷ []) c (large_first h)) e z

    -- a diagram
    pub fits : (a : Answer) (d : List ℕ) (k : ℕ) → Fits → k ≡ length (diagram_of t) → a ≡ counted k → d ≡ padded (diagram_of t) n → Settled a d
    fits a d k h ek e z = succeeds refused (zeros n) given (padded (diagram_of t) n) (build_refusals t n) a d (none c h) (e ∙ ap counted ek) z

  -- "succeeds, as it does wherever 11 doesn't apply": what is accepted and fits is built
  pub accepted_built : Accepted t → Fits → (built t n ≡ counted (length (diagram_of t))) × (built_diagram t n ≡ padded (diagram_of t) n)
  accepted_built c h = (answers refused (zeros n) given (padded (diagram_of t) n) (build_refusals t n)).succeeds (none c h)

  -- a build succeeds exactly where the table is accepted and its diagram fits
  pub succeeds_exactly : ((built t n).number ≡ 0) ↔ (Accepted t × Fits)
  succeeds_exactly = (
    λ z.
        let p =
        all_parts (λ r. r.when ≡ false) (table_refusals t) (room_refusal t n ∷ [])
        (number_none refused (λ a. a.number) (λ m p. refl) given refl (build_refusals t n)
        (all_join (λ r. 0 < r.number) (table_refusals t) (room_refusal t n ∷ []) (table_numbered t) (lit< tt, tt)) z) in
        (p.0, none_fits p.1),
    λ h. ap (λ a. a.number) (accepted_built h.0 h.1).0,
  )

  -- "its used part, what the build left from place 0 up to, not including, the number in place 0, is the diagram that the walk gives"
  pub used_part_lem : (built t n).number ≡ 0 → take (used (built_diagram t n)) (built_diagram t n) ≡ diagram_of t
  used_part_lem z =
      let s = succeeds_exactly.0 z in
      let e = (accepted_built s.0 s.1).1 in
      ap (λ d. take (used d) d) e
      ∙ ap (λ (k : ℕ). take k (padded (diagram_of t) n)) (diagram_used (maxima t) (groups t) (zeros (n - length (diagram_of t))))
      ∙ take-append_seam (diagram_of t) (zeros (n - length (diagram_of t)))
