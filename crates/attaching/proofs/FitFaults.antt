-- Laws of refusals 17, 18 and 19 of two accepted tables, and what holds where none of them applies.
use mathlib.Core.Path.{◌≡◌, sym, ap, ap₂, ◌∙◌}
use mathlib.Core.Bool.{Bool, true, false, not, ◌||◌}
use mathlib.Core.List.{List}
use Prim.Native.Nat.{ℕ, ◌≤◌, ◌<◌}
use borrow.Author.Tests.{lt-ltb, le-ltb, ltb-false, eq-eqb, ne_eqb, eqb-true, not-false, leb-false}
use lib.Dec.{eqb, ltb, leb}
use Rattle.answer.specs.Below.{some_below}
use Rattle.answer.specs.Fields.{fields}
use Rattle.answer.specs.Refusals.{None}
use Rattle.answer.proofs.Tests.{neither}
use Rattle.answer.proofs.Below.{none_each}
use Rattle.encoding.specs.Layout.{version, maximum, count, kind}
use Rattle.table.specs.Tree.{level, has_level}
use Rattle.table.specs.WellFormed.{WellFormed}
use Rattle.attaching.specs.Attached.{nodes, attached_bytes, headers_differ, too_large, fit_refusals}
use Rattle.attaching.proofs.BytesFitted.{count_all, bytes_fitted}
use Rattle.attaching.proofs.Trees.{ninth_level}
use Rattle.attaching.proofs.FittedIsAccepted.{Fit}

module _ (b e : List ℕ) where
  -- the maxima of field f differ
  abbrev pub differs : ℕ → Bool
  differs f = not (eqb (maximum b f) (maximum e f))

  -- 18

  pub version_differs : (version b ≡ version e → ⊥) → true ≡ headers_differ b e
  unfolding headers_differ
  version_differs h = sym (ap (λ x. not x || some_below fields differs) (ne_eqb (version b) (version e) h))

  module _ (s : version b ≡ version e) where
    pub by_maxima : headers_differ b e ≡ some_below fields differs
    unfolding headers_differ
    by_maxima = ap (λ x. not x || some_below fields differs) (eq-eqb (version b) (version e) s)

  -- where 18 does not apply

  no_difference : headers_differ b e ≡ false → (not (eqb (version b) (version e)) ≡ false) × (some_below fields differs ≡ false)
  unfolding headers_differ
  no_difference h = neither (not (eqb (version b) (version e))) (some_below fields differs) h

  pub versions_same : headers_differ b e ≡ false → version b ≡ version e
  versions_same h = eqb-true (version b) (version e) (not-false _ (no_difference h).0)

  maxima_same : headers_differ b e ≡ false → (f : ℕ) → f < fields → maximum b f ≡ maximum e f
  maxima_same h f l = eqb-true (maximum b f) (maximum e f) (not-false _ (none_each differs fields (no_difference h).1 f l))

  module _ (v : WellFormed b) (w : WellFormed e) where
    -- 19 of tables of one version, by the nodes of both and the levels of the expansion
    module _ (s : version b ≡ version e) where
      pub too_large_is : too_large b e ≡ (ltb 128 (nodes b e) || has_level e 8)
      unfolding too_large
      too_large_is = ap₂ (λ n l. ltb 128 n || l) (count_all b e v w) (ninth_level (attached_bytes b e) b e v w (bytes_fitted b e v w s))

      pub too_many : 128 < nodes b e → true ≡ too_large b e
      too_many l = sym (too_large_is ∙ ap (λ x. x || has_level e 8) (lt-ltb 128 (nodes b e) l))

      pub by_levels : nodes b e ≤ 128 → has_level e 8 ≡ too_large b e
      by_levels l = sym (too_large_is ∙ ap (λ x. x || has_level e 8) (le-ltb 128 (nodes b e) l))

    not_deep : has_level e 8 ≡ false → (i : ℕ) → i < count e → level e i < 8
    unfolding has_level
    not_deep h i l = leb-false 8 (level e i) (none_each (λ j. leb 8 (level e j)) (count e) h i l)

    -- where none of them applies, the two fit
    pub none_fit : None (fit_refusals b e) → Fit b e
    none_fit h =
        let p = neither (ltb 128 (nodes b e)) (has_level e 8) (sym (too_large_is (versions_same h.1.0)) ∙ h.1.1.0) in
        record {
          group = leb-false 4 (kind b 0) h.0;
          maxima = maxima_same h.1.0;
          few = ltb-false 128 (nodes b e) p.0;
          shallow = not_deep p.1;
        }
