-- The diagrams of two tables are equal, number for number, exactly when the tables have the same maxima and rule alike within them.
use mathlib.Core.Path.{◌≡◌, sym, ◌∙◌}
use mathlib.Core.Logic.{◌↔◌}
use mathlib.Core.List.{List}
use Prim.Native.Nat.{ℕ}
use lib.ListN.{length}
use Rattle.answer.specs.Fields.{fields}
use Rattle.answer.specs.Requests.{Within}
use Rattle.encoding.specs.Layout.{maximum, maxima}
use Rattle.encoding.proofs.Maxima.{maxima_length}
use Rattle.ruling.specs.Ruling.{groups}
use Rattle.diagram.proofs.EqualExactlyWhenAlike.{equal_exactly_when_alike}
use Rattle.building.specs.Built.{diagram_of}
use Rattle.building.proofs.WithinTheMaxima.{within_maxima}

module _ (t u : List ℕ) where
  pub equal_exactly_when_tables_alike :
      (diagram_of t ≡ diagram_of u)
      ↔ ((maxima t ≡ maxima u) × ((q : List ℕ) → length q ≡ fields → Within (maximum t) q → groups t q ≡ groups u q))
  equal_exactly_when_tables_alike =
      let l : length (maxima t) ≡ length (maxima u) = maxima_length t ∙ sym (maxima_length u) in
      let h = equal_exactly_when_alike (maxima t) (maxima u) (groups t) (groups u) l in (
        λ e. let a = h.0 e in (a.0, λ q n w. a.1 q ((within_maxima t q).0 (n, w))),
        λ a. h.1 (a.0, λ q w. let v = (within_maxima t q).1 w in a.1 q v.0 v.1),
      )
