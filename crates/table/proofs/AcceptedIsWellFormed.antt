-- An accepted table is well formed: what ruling needs follows where none of refusals 1 to 8 applies.
use mathlib.Core.Path.{◌≡◌, refl, ap}
use mathlib.Core.Logic.{⊎_elim}
use mathlib.Core.List.{List}
use Prim.Native.Nat.{ℕ, zero, suc, ◌≤◌, ◌<◌}
use native.Mathlib.Nat.{eq-or-lt_of_le}
use native.Mathlib.Omega.{arith}
use Rattle.encoding.specs.Layout.{span, count}
use Rattle.table.specs.Tree.{end_of, parent}
use Rattle.table.specs.Reading.{Accepted}
use Rattle.table.specs.WellFormed.{WellFormed}
use Rattle.table.proofs.Tree.{parent_below, parent_reaches}
use Rattle.table.proofs.Header.{headed}
use Rattle.table.proofs.Good.{Good, good, ends_inside}
use Rattle.table.proofs.Accepting.{accepted_header, accepted_node}

module _ (t : List ℕ) where
  module _ (all : (i : ℕ) → i < count t → Good t i) where
    -- a node's span lies in every span that it starts in: in its parent's, and the parent's in those
    nested_by : (m i j : ℕ) → j < m → j < count t → i < j → j < end_of t i → end_of t j ≤ end_of t i
    nested_by zero i j l h a b = absurd (omega arith)
    nested_by (suc m) i j l h a b =
        let p = parent_reaches t j i a b in
        let q = parent_below t j (omega arith) in
        let g = (all j h).inside (omega arith) in
        ⊎_elim
        (λ (e : i ≡ parent t j). omega (arith, ap (span t) e))
        (λ (e : i < parent t j). omega (arith, nested_by m i (parent t j) (omega arith) (omega arith) e (omega (arith, p.1))))
        (eq-or-lt_of_le p.0)

  pub well_formed : Accepted t → WellFormed t
  well_formed c =
      let h = headed t (accepted_header t c) in
      let g : (i : ℕ) → i < count t → Good t i = λ i l. good t i (accepted_node t c i l) in
      let inside : (i : ℕ) → i < count t → end_of t i ≤ count t = ends_inside t (count t) g in
      record {
        records = h.records;
        some = h.some;
        few = h.few;
        kinds = λ i l. (g i l).kinds;
        spans = λ i l. (g i l).spans;
        rules = λ i l. (g i l).rules;
        root = (g 0 h.some).root refl;
        inside = inside;
        nested = λ i j l a b. nested_by g (suc j) i j (omega arith) (omega (arith, inside i l)) a b;
        levels = λ i l. (g i l).levels;
        low_within = λ i f l. (g i l).low_within f;
        high_within = λ i f l. (g i l).high_within f;
        carded = λ i l. (g i l).carded;
        plain = λ i l. (g i l).plain;
      }
