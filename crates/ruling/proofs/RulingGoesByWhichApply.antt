-- The ruling of an accepted table depends only on which of its nodes apply.
use mathlib.Core.Path.{◌≡◌, refl, sym, ap, ◌∙◌}
use mathlib.Core.Bool.{Bool}
use mathlib.Core.List.{List}
use Prim.Native.Nat.{ℕ, ◌+◌, ◌-◌, ◌≤◌, ◌<◌}
use native.Mathlib.Omega.{arith}
use lib.ListN.{length}
use lib.Seq.{sets}
use Rattle.answer.proofs.SameRuling.{same_ruling}
use Rattle.encoding.specs.Layout.{count}
use Rattle.table.specs.Tree.{end_of}
use Rattle.table.specs.Reading.{Accepted}
use Rattle.table.specs.WellFormed.{WellFormed}
use Rattle.table.proofs.AcceptedIsWellFormed.{well_formed}
use Rattle.targets.specs.Targets.{applies}
use Rattle.ruling.specs.Meaning.{decision, cards_from, meaning}
use Rattle.ruling.specs.Ruling.{groups}
use Rattle.ruling.specs.Walk.{Gathered}
use Rattle.ruling.proofs.NodesAlike.{Agree, decision_same, cards_same}

module _ (a b : ℕ → Bool) (t : List ℕ) (w : WellFormed t) where
  -- of the nodes from one up to another
  module _ {from to : ℕ} (inside : to ≤ count t) (same : (i : ℕ) → from ≤ i → i < to → a i ≡ b i) where
    between : Agree a t b t (λ i. i) (λ i. from ≤ i) to
    between = record {
      same = λ i hi lo. same i lo hi;
      kinds = λ i hi lo. refl;
      spans = λ i hi lo. refl;
      down = λ i hi lo y. omega arith;
      after = λ i hi lo. omega arith;
    }

    same_cards : (n i : ℕ) → from ≤ i → i + n ≤ to → cards_from a t i n ≡ cards_from b t i n
    same_cards = cards_same a t b t (λ i. i) (λ i k. refl) same (λ i lo hi. refl) (λ i lo hi. refl)

    same_decision : (i : ℕ) → from ≤ i → i < to → end_of t i ≤ to → decision a t i ≡ decision b t i
    same_decision = decision_same a t b t (λ i. i) (λ i k. refl) w inside between

    gathered_same : {i end k n : ℕ} {before after : List ℕ} → from ≤ i → i ≤ end → end ≤ to →
        Gathered b t i end k n before after → Gathered a t i end k n before after
    gathered_same {i} {end} {k} {n} {before} {after} lo order hi g =
        let e = same_cards (end - i) i lo (omega arith) in
        record {
          number = omega (arith, g.number, ap length e);
          list = g.list ∙ ap (sets before k) (sym e);
        }

    -- what was decided and gathered at a node by one of the two tests
    pub ruled_same : {i end d k n : ℕ} {before after : List ℕ} → from ≤ i → i < end → end ≡ end_of t i → end ≤ to →
        (d ≡ decision b t i) × Gathered b t i end k n before after → (d ≡ decision a t i) × Gathered a t i end k n before after
    ruled_same {i} lo order ends hi r =
        (r.0 ∙ sym (same_decision i lo (omega arith) (omega arith)), gathered_same lo (omega arith) hi r.1)

  pub meaning_same : ((i : ℕ) → i < count t → a i ≡ b i) → meaning a t ≡ meaning b t
  meaning_same same =
      let each : (i : ℕ) → 0 ≤ i → i < count t → a i ≡ b i = λ i lo hi. same i hi in
      let within : count t ≤ count t = omega arith in
      same_ruling (meaning a t) (meaning b t) (same_decision within each 0 (omega arith) w.some (omega (arith, w.root)))
      (same_cards within each (count t) 0 (omega arith) (omega arith))

-- two requests to which the same nodes apply get the same ruling
pub groups_same : (t q r : List ℕ) → Accepted t → ((i : ℕ) → i < count t → applies t q i ≡ applies t r i) → groups t q ≡ groups t r
groups_same t q r c same = meaning_same (applies t q) (applies t r) t (well_formed t c) same
