-- What a node is like to which none of refusals 4 to 8 applies: these facts hold of it, and of no other.
use mathlib.Core.Path.{◌≡◌, refl, sym, ap, ap₂, ◌∙◌}
use mathlib.Core.Bool.{Bool, true, false, not, cond, ◌&&◌, ◌||◌, false≢true}
use mathlib.Core.List.{List}
use mathlib.Core.Logic.{◌↔◌, ⊎_elim}
use Prim.Native.Nat.{ℕ, zero, suc, ◌≤◌, ◌<◌}
use native.Mathlib.Nat.{pos_of_ne-zero, eq-zero-or-pos}
use native.Mathlib.Omega.{arith}
use borrow.Author.Tests.{le-ltb, ltb-false, eq-eqb, ne_eqb, eqb-true, eqb-false, not-false, le-leb, lt-leb}
use lib.Dec.{ltb, eqb}
use Rattle.answer.specs.Fields.{fields}
use Rattle.answer.specs.Refusals.{None}
use Rattle.encoding.specs.Layout.{maximum, count, kind, span, card, low, high}
use Rattle.table.specs.Tree.{is_rule, end_of, parent, level}
use Rattle.table.specs.Reading.{kind_fault, odd_span, wrong_end, span_fault, level_fault, range_fault, ranges_fault, card_fault, node_refusals}
use Rattle.table.proofs.Tree.{parent_below}
use Rattle.table.proofs.Faults.{wrong_end_root, wrong_end_child}
use Rattle.answer.proofs.Tests.{lt_or_ge, neither}
use Rattle.answer.proofs.Below.{some_none, none_each}

pub record Good (t : List ℕ) (i : ℕ) : Type 0 where
  pub kinds : kind t i ≤ 5
  pub spans : 1 ≤ span t i
  pub rules : 4 ≤ kind t i → span t i ≡ 1
  pub root : i ≡ 0 → span t i ≡ count t
  pub inside : 0 < i → end_of t i ≤ end_of t (parent t i)
  pub levels : level t i ≤ 8
  pub low_within : (f : ℕ) → f < fields → low t i f ≤ maximum t f
  pub high_within : (f : ℕ) → f < fields → high t i f ≤ maximum t f
  pub carded : 4 ≤ kind t i → 1 ≤ card t i
  pub plain : kind t i < 4 → card t i ≡ 0

module _ (t : List ℕ) (i : ℕ) where
  span_parts : span_fault t i ≡ false → (eqb (span t i) 0 ≡ false) × ((is_rule t i && not (eqb (span t i) 1)) ≡ false) × (wrong_end t i ≡ false)
  unfolding span_fault
  span_parts e =
      let a = neither (odd_span (span t i) (is_rule t i)) (wrong_end t i) e in
      let b = neither (eqb (span t i) 0) (is_rule t i && not (eqb (span t i) 1)) a.0 in
      (b.0, b.1, a.1)

  -- refusal 7 passes a node exactly where both ends of each range lie within the maximum
  pub ranges_within : (ranges_fault t i ≡ false) ↔ ((f : ℕ) → f < fields → (low t i f ≤ maximum t f) × (high t i f ≤ maximum t f))
  unfolding ranges_fault range_fault
  ranges_within = (
    λ e f l.
        let a = neither (ltb (maximum t f) (low t i f)) (ltb (maximum t f) (high t i f)) (none_each (range_fault t i) fields e f l) in
        (ltb-false _ _ a.0, ltb-false _ _ a.1),
    λ h.
        some_none (range_fault t i) fields
        (λ f l. ap₂ (λ a b. a || b) (le-ltb (maximum t f) (low t i f) (h f l).0) (le-ltb (maximum t f) (high t i f) (h f l).1)),
  )

  card_rule : card_fault t i ≡ false → 4 ≤ kind t i → 1 ≤ card t i
  unfolding card_fault
  card_rule e l =
      pos_of_ne-zero
      (eqb-false (card t i) 0
      (sym (ap (λ b. cond b (eqb (card t i) 0) (not (eqb (card t i) 0))) (le-leb 4 (kind t i) l)) ∙ e))

  card_group : card_fault t i ≡ false → kind t i < 4 → card t i ≡ 0
  unfolding card_fault
  card_group e l =
      eqb-true (card t i) 0
      (not-false _ (sym (ap (λ b. cond b (eqb (card t i) 0) (not (eqb (card t i) 0))) (lt-leb 4 (kind t i) l)) ∙ e))

  level_part : level_fault t i ≡ false → level t i ≤ 8
  unfolding level_fault
  level_part e = ltb-false 8 (level t i) e

  kind_part : kind_fault t i ≡ false → kind t i ≤ 5
  unfolding kind_fault
  kind_part e = ltb-false 5 (kind t i) e

  pub good : None (node_refusals t i) → Good t i
  good e =
      let p = span_parts e.1.0 in
      let ranges = e.1.1.1.0 in
      let cards = e.1.1.1.1.0 in
      record {
        kinds = kind_part e.0;
        spans = pos_of_ne-zero (eqb-false (span t i) 0 p.0);
        rules = λ h. eqb-true (span t i) 1
            (not-false _ (sym (ap (λ b. b && not (eqb (span t i) 1)) (le-leb 4 (kind t i) h)) ∙ p.1));
        root = λ z. eqb-true _ _ (not-false _ (sym (wrong_end_root t i z) ∙ p.2));
        inside = λ l. ltb-false _ _ (sym (wrong_end_child t i l) ∙ p.2);
        levels = level_part e.1.1.0;
        low_within = λ f h. (ranges_within.0 ranges f h).0;
        high_within = λ f h. (ranges_within.0 ranges f h).1;
        carded = card_rule cards;
        plain = card_group cards;
      }

-- and a node that is so is refused nothing
module _ (t : List ℕ) (i : ℕ) (g : Good t i) where
  kind_passes : kind_fault t i ≡ false
  unfolding kind_fault
  kind_passes = le-ltb 5 (kind t i) g.kinds

  end_passes : wrong_end t i ≡ false
  end_passes =
      ⊎_elim
      (λ (z : i ≡ 0). wrong_end_root t i z ∙ ap not (eq-eqb (span t i) (count t) (g.root z)))
      (λ (l : 0 < i). wrong_end_child t i l ∙ le-ltb (end_of t (parent t i)) (end_of t i) (g.inside l))
      (eq-zero-or-pos i)

  -- of a rule, or of a group
  module _ (rule : Bool) (e : is_rule t i ≡ rule) where
    span_passes : (rule ≡ true → span t i ≡ 1) → span_fault t i ≡ false
    unfolding span_fault
    span_passes one =
        ap (λ b. odd_span (span t i) b || wrong_end t i) e
        ∙ ap (λ b. (b || (rule && not (eqb (span t i) 1))) || wrong_end t i) (ne_eqb (span t i) 0 (λ z. omega (arith, g.spans)))
        ∙ ap (λ b. b || wrong_end t i) (single rule one)
        ∙ end_passes
      where
        single : (b : Bool) → (b ≡ true → span t i ≡ 1) → (b && not (eqb (span t i) 1)) ≡ false
        single true h = ap not (eq-eqb (span t i) 1 (h refl))
        single false h = refl

    card_passes : cond rule (eqb (card t i) 0) (not (eqb (card t i) 0)) ≡ false → card_fault t i ≡ false
    unfolding card_fault
    card_passes h = ap (λ b. cond b (eqb (card t i) 0) (not (eqb (card t i) 0))) e ∙ h

  level_passes : level_fault t i ≡ false
  unfolding level_fault
  level_passes = le-ltb 8 (level t i) g.levels

  ranges_pass : ranges_fault t i ≡ false
  ranges_pass = (ranges_within t i).1 (λ f l. (g.low_within f l, g.high_within f l))

  pub good_passes : None (node_refusals t i)
  good_passes =
      ⊎_elim
      (λ (l : kind t i < 4).
      all false (lt-leb 4 (kind t i) l) (λ h. absurd (false≢true h)) (ap not (eq-eqb (card t i) 0 (g.plain l))))
      (λ (l : 4 ≤ kind t i).
      all true (le-leb 4 (kind t i) l) (λ h. g.rules l) (ne_eqb (card t i) 0 (λ z. omega (arith, g.carded l))))
      (lt_or_ge (kind t i) 4)
    where
      all : (rule : Bool) → is_rule t i ≡ rule → (rule ≡ true → span t i ≡ 1) → cond rule (eqb (card t i) 0) (not (eqb (card t i) 0)) ≡ false →
          None (node_refusals t i)
      all rule e one h = (kind_passes, (span_passes rule e one, (level_passes, (ranges_pass, (card_passes rule e h, tt)))))

-- where all nodes below b are so, none of them ends past the last node
module _ (t : List ℕ) (b : ℕ) (all : (i : ℕ) → i < b → Good t i) where
  inside_by : (m i : ℕ) → i < m → i < b → end_of t i ≤ count t
  inside_by zero i l h = absurd (omega arith)
  inside_by (suc m) i l h =
      ⊎_elim
      (λ (z : i ≡ 0). omega (arith, (all i h).root z))
      (λ (z : 0 < i).
      let p = parent_below t i z in
      omega (arith, (all i h).inside z, inside_by m (parent t i) (omega arith) (omega arith)))
      (eq-zero-or-pos i)

  pub ends_inside : (i : ℕ) → i < b → end_of t i ≤ count t
  ends_inside i l = inside_by (suc i) i (omega arith) l
