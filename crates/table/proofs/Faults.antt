-- Laws of refusals 1 to 8, one for each way through the code.
use mathlib.Core.Path.{◌≡◌, sym, ap, ◌∙◌}
use mathlib.Core.Bool.{Bool, true, false, not, cond, ◌||◌}
use mathlib.Core.Logic.{⊎_elim}
use mathlib.Core.List.{List}
use Prim.Native.Nat.{ℕ, ◌+◌, ◌≤◌, ◌<◌}
use native.Mathlib.Nat.{eq-zero-or-pos}
use native.Mathlib.Omega.{arith}
use borrow.Author.Tests.{lt-ltb, le-ltb, eq-eqb, ne_eqb, ltb-false}
use lib.Dec.{ltb, eqb}
use lib.ListN.{length}
use Rattle.answer.specs.Refusals.{settled, first_number}
use Rattle.encoding.specs.Layout.{bytes_after, count, header, maximum, kind, span, low, high, HeaderHeld}
use Rattle.table.specs.Tree.{is_rule, end_of, parent, level}
use Rattle.table.specs.Open.{EndAbove}
use Rattle.table.specs.Reading.{length_fault, kind_fault, odd_span, wrong_end, span_fault, level_fault, range_fault, refusals_after_kind, node_refusals}
use Rattle.answer.proofs.Tests.{neither}

module _ (t : List ℕ) where
  -- refusal 1

  pub length_short : length t < header t → true ≡ length_fault t
  unfolding length_fault
  length_short h = simp (lt-ltb (length t) (header t) h)

  pub length_other : (w : ℕ) → w ≡ bytes_after t → HeaderHeld t → not (eqb (length t) (w + 2)) ≡ length_fault t
  unfolding length_fault
  length_other w e h = simp (le-ltb (length t) (header t) h, e)

  -- what passes refusal 1 has a header
  pub length_passed : length_fault t ≡ false → HeaderHeld t
  unfolding length_fault
  length_passed e = ltb-false (length t) (header t) (neither (ltb (length t) (header t)) _ e).0

  module _ (i : ℕ) where
    -- refusal 5

    pub wrong_end_root : i ≡ 0 → wrong_end t i ≡ not (eqb (span t i) (count t))
    wrong_end_root z =
        ap (λ b. cond b (not (eqb (span t i) (count t))) (ltb (end_of t (parent t i)) (end_of t i))) (eq-eqb i 0 z)

    pub wrong_end_child : 0 < i → wrong_end t i ≡ ltb (end_of t (parent t i)) (end_of t i)
    wrong_end_child l =
        ap (λ b. cond b (not (eqb (span t i) (count t))) (ltb (end_of t (parent t i)) (end_of t i)))
        (ne_eqb i 0 (λ q. omega arith))

    module _ (s : ℕ) (rule : Bool) (es : s ≡ span t i) (er : rule ≡ is_rule t i) (odd : Bool) (eo : odd ≡ odd_span s rule) where
      span_by : span_fault t i ≡ (odd || wrong_end t i)
      unfolding span_fault
      span_by = simp (eo, es, er)

      pub span_odd : odd ≡ true → true ≡ span_fault t i
      span_odd h = sym (span_by ∙ ap (λ b. b || wrong_end t i) h)

      module _ (h : odd ≡ false) (above : ℕ) (a : EndAbove t i above) where
        pub span_root : i ≡ 0 → not (eqb s above) ≡ span_fault t i
        span_root z =
            sym (span_by ∙ ap (λ b. b || wrong_end t i) h ∙ wrong_end_root z
            ∙ ap (λ n. not (eqb (span t i) n)) (sym (a.root z)) ∙ ap (λ n. not (eqb n above)) (sym es))

        span_child : 0 < i → ltb above (i + s) ≡ span_fault t i
        span_child l =
            sym (span_by ∙ ap (λ b. b || wrong_end t i) h ∙ wrong_end_child l
            ∙ ap (λ n. ltb n (end_of t i)) (sym (a.child l)) ∙ ap (λ n. ltb above (i + n)) (sym es))

        -- the end is past that above, whether node i is the root or not
        pub span_past : above < i + s → true ≡ span_fault t i
        span_past l =
            ⊎_elim
            (λ (z : i ≡ 0). sym (ap not (ne_eqb s above (λ q. omega arith))) ∙ span_root z)
            (λ (z : 0 < i). sym (lt-ltb above (i + s) l) ∙ span_child z)
            (eq-zero-or-pos i)

        pub span_inside : 0 < i → i + s ≤ above → false ≡ span_fault t i
        span_inside z l = sym (le-ltb above (i + s) l) ∙ span_child z

    -- refusal 6, of a node under one on level d
    module _ (d : ℕ) (e : level t i ≡ d + 1) where
      pub level_deep : 8 ≤ d → level_fault t i ≡ true
      unfolding level_fault
      level_deep h = lt-ltb 8 (level t i) (omega arith)

      pub level_allowed : d < 8 → level_fault t i ≡ false
      unfolding level_fault
      level_allowed h = le-ltb 8 (level t i) (omega arith)

    -- refusal 7
    module _ (f m l : ℕ) (em : m ≡ maximum t f) (el : l ≡ low t i f) where
      pub range_low : m < l → true ≡ range_fault t i f
      unfolding range_fault
      range_low g = simp (lt-ltb (maximum t f) (low t i f) (omega arith))

      pub range_high : (h : ℕ) → h ≡ high t i f → l ≤ m → ltb m h ≡ range_fault t i f
      unfolding range_fault
      range_high h eh g = simp (le-ltb (maximum t f) (low t i f) (omega arith), em, eh)

    -- refusals 4 to 8 in order

    pub fault_later : (k d : ℕ) → k ≡ kind t i → k ≤ 5 → d ≡ first_number (refusals_after_kind t i) → d ≡ first_number (node_refusals t i)
    unfolding settled kind_fault
    fault_later k d e l h = h ∙ sym (ap (λ b. cond b 4 (first_number (refusals_after_kind t i))) (le-ltb 5 (kind t i) (omega arith)))

    pub fault_kind : (k : ℕ) → k ≡ kind t i → 5 < k → 4 ≡ first_number (node_refusals t i)
    unfolding settled kind_fault
    fault_kind k e l = sym (ap (λ b. cond b 4 (first_number (refusals_after_kind t i))) (lt-ltb 5 (kind t i) (omega arith)))
