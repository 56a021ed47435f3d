-- What a table that none of refusals 1 to 3 applies to is like.
use mathlib.Core.Path.{◌≡◌, ap, ap₂}
use mathlib.Core.Bool.{false, not, ◌||◌}
use mathlib.Core.List.{List}
use Prim.Native.Nat.{ℕ, ◌+◌, ◌≤◌}
use native.Mathlib.Nat.{pos_of_ne-zero}
use native.Mathlib.Omega.{arith}
use borrow.Author.Tests.{le-ltb, ltb-false, eq-eqb, ne_eqb, eqb-true, eqb-false, not-false}
use lib.Dec.{ltb, eqb}
use lib.ListN.{length}
use Rattle.answer.specs.Refusals.{None}
use Rattle.encoding.specs.Layout.{bytes_after, version, count, header, start, HeaderHeld}
use Rattle.table.specs.Reading.{length_fault, version_fault, count_fault, header_refusals}
use Rattle.answer.proofs.Tests.{neither}
use Rattle.table.proofs.Faults.{length_passed}

pub record Headed (t : List ℕ) : Type 0 where
  pub long : HeaderHeld t
  pub records : length t ≡ start t (count t)
  pub some : 1 ≤ count t
  pub few : count t ≤ 128

module _ (t : List ℕ) where
  count_parts : count_fault t ≡ false → (1 ≤ count t) × (count t ≤ 128) × (length t ≡ start t (count t))
  unfolding count_fault
  count_parts e =
      let a = neither (eqb (count t) 0 || ltb 128 (count t)) (not (eqb (length t) (start t (count t)))) e in
      let b = neither (eqb (count t) 0) (ltb 128 (count t)) a.0 in
      (pos_of_ne-zero (eqb-false (count t) 0 b.0), ltb-false 128 (count t) b.1, eqb-true _ _ (not-false _ a.1))

  pub headed : None (header_refusals t) → Headed t
  headed e =
      let p = count_parts e.1.1.0 in
      record { long = length_passed t e.0; records = p.2; some = p.0; few = p.1 }

  -- and a header of which this holds, with the length that it says and a version that is taken, is refused nothing
  pub headed_passes : Headed t → length t ≡ bytes_after t + 2 → version_fault t ≡ false → None (header_refusals t)
  unfolding length_fault count_fault
  headed_passes h long e = (
    ap₂ (λ a b. a || not b) (le-ltb (length t) (header t) h.long) (eq-eqb (length t) (bytes_after t + 2) long),
    (
      e,
      (
        ap₂ (λ a b. a || not b)
            (ap₂ (λ a b. a || b) (ne_eqb (count t) 0 (λ z. omega (arith, h.some))) (le-ltb 128 (count t) h.few))
            (eq-eqb (length t) (start t (count t)) h.records),
        tt,
      ),
    ),
  )

  -- the version of a table to which 2 does not apply
  pub version_passed : version_fault t ≡ false → version t ≡ 1
  unfolding version_fault
  version_passed e = eqb-true (version t) 1 (not-false _ e)

-- 2 goes by the version alone
pub version_fault_same : (t u : List ℕ) → version t ≡ version u → version_fault t ≡ version_fault u
unfolding version_fault
version_fault_same t u e = ap (λ v. not (eqb v 1)) e
