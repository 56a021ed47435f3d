-- The word of the terminal that a request reaches is that of its ruling.
use mathlib.Core.Path.{◌≡◌, ap}
use mathlib.Core.List.{List}
use Prim.Native.Nat.{ℕ}
use Rattle.answer.specs.Rulings.{Ruling}
use Rattle.diagram.specs.Layout.{decision_at}
use Rattle.diagram.specs.LookUp.{ruled_by}
use Rattle.diagram.specs.Landed.{Landed}
use Rattle.listing.specs.Text.{decision_word}

module _ (d q : List ℕ) (p : ℕ) (l : Landed d q p) where
  pub word_there : decision_word (decision_at d p) ≡ decision_word (ruled_by d q).decision
  word_there = ap (λ (r : Ruling). decision_word r.decision) l.ruling
