-- A table is accepted that is an accepted base with an accepted expansion fitted to it, where none of refusals 17 to 19 applies.
use mathlib.Core.Path.{◌≡◌, ap, subst, ◌∙◌}
use mathlib.Core.Logic.{⊎_elim}
use mathlib.Core.List.{List}
use Prim.Native.Nat.{ℕ, ◌+◌, ◌-◌, ◌≤◌, ◌<◌}
use native.Mathlib.Nat.{eq-zero-or-pos}
use native.Mathlib.Omega.{arith}
use Rattle.answer.specs.Fields.{fields}
use Rattle.answer.proofs.Tests.{lt_or_ge}
use Rattle.encoding.specs.Layout.{maximum, count, kind, span}
use Rattle.table.specs.Tree.{end_of, parent, level}
use Rattle.table.specs.Reading.{Accepted}
use Rattle.table.specs.WellFormed.{WellFormed}
use Rattle.table.proofs.Tree.{parent_below}
use Rattle.encoding.proofs.Places.{header_held}
use Rattle.table.proofs.Header.{Headed, headed_passes, version_fault_same}
use Rattle.table.proofs.Good.{Good, good, good_passes}
use Rattle.table.proofs.Accepting.{accepted_header, accepted_node, passed_accepted}
use Rattle.table.proofs.AcceptedIsWellFormed.{well_formed}
use Rattle.attaching.specs.Fitted.{Fitted}
use Rattle.attaching.proofs.Trees.{root_end, base_end, expansion_end, parent_base, parent_attached, parent_expansion, level_base, level_expansion}

-- The two fit: what holds where none of refusals 17 to 19 applies.
pub record Fit (b e : List ℕ) : Type 0 where
  pub group : kind b 0 < 4
  pub maxima : (f : ℕ) → f < fields → maximum b f ≡ maximum e f
  pub few : count b + count e ≤ 128
  pub shallow : (i : ℕ) → i < count e → level e i < 8

module _ (t b e : List ℕ) (c : Accepted b) (d : Accepted e) (f : Fitted t b e) (g : Fit b e) where
  v : WellFormed b
  v = well_formed b c

  w : WellFormed e
  w = well_formed e d

  abbrev n : ℕ
  n = count b

  -- a node of the base ends where its parent does, or before
  base_under : (i : ℕ) → 0 < i → i < n → end_of t i ≤ end_of t (parent t i)
  base_under i l h =
      let p = parent_below b i l in
      let inside = (good b i (accepted_node b c i h)).inside l in
      let e' = base_end t b e v w f i l h in
      let q = parent_base t b e v w f i h in
      ⊎_elim
      (λ (z : parent b i ≡ 0). omega (arith, e', v.inside i h, root_end t b e v w f, ap (end_of t) (q ∙ z)))
      (λ (z : 0 < parent b i). omega (arith, e', inside, ap (end_of t) q, base_end t b e v w f (parent b i) z (omega arith)))
      (eq-zero-or-pos (parent b i))

  expansion_under : (i : ℕ) → i < count e → end_of t (n + i) ≤ end_of t (parent t (n + i))
  expansion_under i h =
      let e' = expansion_end t b e v w f i h in
      ⊎_elim
      (λ (z : i ≡ 0).
      let y : n + i ≡ n = omega arith in
      omega (arith, e', w.inside i h, root_end t b e v w f, ap (λ j. end_of t (parent t j)) y, ap (end_of t) (parent_attached t b e v w f)))
      (λ (z : 0 < i).
      let p = parent_below e i z in
      omega (
        arith,
        e',
        (good e i (accepted_node e d i h)).inside z,
        ap (end_of t) (parent_expansion t b e v w f i z h),
        expansion_end t b e v w f (parent e i) (omega arith),
      ))
      (eq-zero-or-pos i)

  base_good : (i : ℕ) → i < n → Good t i
  base_good i l =
      let s = f.base_nodes i l in
      record {
        kinds = omega (arith, s.kinds, v.kinds i l);
        spans =
            ⊎_elim
            (λ (z : i ≡ 0). omega (arith, ap (span t) z, f.root_span, f.counts, v.some))
            (λ (z : 0 < i). omega (arith, f.base_spans i z l, v.spans i l))
            (eq-zero-or-pos i);
        rules =
            λ h.
            ⊎_elim
            (λ (z : i ≡ 0). absurd (omega (arith, s.kinds, ap (kind b) z, g.group)))
            (λ (z : 0 < i). f.base_spans i z l ∙ v.rules i l (omega (arith, s.kinds)))
            (eq-zero-or-pos i);
        root = λ z. ap (span t) z ∙ f.root_span;
        inside = λ z. base_under i z l;
        levels = omega (arith, level_base t b e v w f i l, v.levels i l);
        low_within = λ k h. omega (arith, s.lows k h, f.maxima k h, v.low_within i k l h);
        high_within = λ k h. omega (arith, s.highs k h, f.maxima k h, v.high_within i k l h);
        carded = λ h. omega (arith, s.cards, v.carded i l (omega (arith, s.kinds)));
        plain = λ h. s.cards ∙ v.plain i l (omega (arith, s.kinds));
      }

  expansion_good : (i : ℕ) → i < count e → Good t (n + i)
  expansion_good i l =
      let s = f.expansion_nodes i l in
      let x = f.expansion_spans i l in
      record {
        kinds = omega (arith, s.kinds, w.kinds i l);
        spans = omega (arith, x, w.spans i l);
        rules = λ h. x ∙ w.rules i l (omega (arith, s.kinds));
        root = λ z. absurd (omega (arith, v.some));
        inside = λ z. expansion_under i l;
        levels = omega (arith, level_expansion t b e v w f i l, g.shallow i l);
        low_within = λ k h. omega (arith, s.lows k h, f.maxima k h, g.maxima k h, w.low_within i k l h);
        high_within = λ k h. omega (arith, s.highs k h, f.maxima k h, g.maxima k h, w.high_within i k l h);
        carded = λ h. omega (arith, s.cards, w.carded i l (omega (arith, s.kinds)));
        plain = λ h. s.cards ∙ w.plain i l (omega (arith, s.kinds));
      }

  each_good : (i : ℕ) → i < count t → Good t i
  each_good i l =
      ⊎_elim
      (λ (h : i < n). base_good i h)
      (λ (h : n ≤ i).
      let z : n + (i - n) ≡ i = omega arith in subst (Good t) z (expansion_good (i - n) (omega (arith, f.counts))))
      (lt_or_ge i n)

  all_headed : Headed t
  all_headed = record {
    long = header_held t f.records;
    records = f.records;
    some = omega (arith, f.counts, v.some);
    few = omega (arith, f.counts, g.few);
  }

  pub fitted_accepted : Accepted t
  fitted_accepted =
      passed_accepted t (headed_passes t all_headed f.long (version_fault_same t b f.versions ∙ (accepted_header b c).1.0))
      (λ i l. good_passes t i (each_good i l))
