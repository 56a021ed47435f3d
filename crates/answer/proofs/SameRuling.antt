-- A ruling is its decision and its cards.
use mathlib.Core.Path.{◌≡◌, ap₂}
use mathlib.Core.List.{List}
use Prim.Native.Nat.{ℕ}
use Rattle.answer.specs.Rulings.{Ruling}

pub same_ruling : (r s : Ruling) → r.decision ≡ s.decision → r.cards ≡ s.cards → r ≡ s
same_ruling r s d c = ap₂ ruling d c
  where
    ruling : ℕ → List ℕ → Ruling
    ruling decision cards = record { decision = decision; cards = cards }
