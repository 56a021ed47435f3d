-- No ruling of an accepted table has more than 127 cards: a table of more than one node has a group as its root.
use mathlib.Core.Path.{◌≡◌, ap, ◌∙◌}
use mathlib.Core.Bool.{Bool, false}
use mathlib.Core.Logic.{⊎_elim}
use mathlib.Core.List.{List}
use Prim.Native.Nat.{ℕ, suc, ◌+◌, ◌-◌, ◌≤◌, ◌<◌}
use native.Mathlib.Omega.{arith}
use lib.ListN.{length}
use Rattle.answer.proofs.Tests.{lt_or_ge}
use Rattle.encoding.specs.Layout.{count, kind}
use Rattle.table.specs.Reading.{Accepted}
use Rattle.table.specs.WellFormed.{WellFormed}
use Rattle.table.proofs.AcceptedIsWellFormed.{well_formed}
use Rattle.ruling.specs.Meaning.{cards_from, cards}
use Rattle.ruling.proofs.Cards.{matches_group, cards_more, cards_few}

module _ (a : ℕ → Bool) (t : List ℕ) (w : WellFormed t) where
  group_root : 1 < count t → kind t 0 < 4
  group_root l =
      ⊎_elim
      (λ (h : kind t 0 < 4). h)
      (λ (h : 4 ≤ kind t 0). absurd (omega (arith, w.rules 0 w.some h, w.root)))
      (lt_or_ge (kind t 0) 4)

  pub few_cards : length (cards a t) ≤ 127
  few_cards =
      ⊎_elim
      (λ (l : 1 < count t).
      let z : count t ≡ suc (count t - 1) = omega arith in
      let e = ap (cards_from a t 0) z ∙ cards_more a t 0 (count t - 1) false (matches_group a t 0 (group_root l)) in
      omega (arith, ap length e, cards_few a t (count t - 1) (0 + 1), w.few))
      (λ (l : count t ≤ 1). omega (arith, cards_few a t (count t) 0))
      (lt_or_ge 1 (count t))

pub at_most_127_cards : (a : ℕ → Bool) (t : List ℕ) → Accepted t → length (cards a t) ≤ 127
at_most_127_cards a t c = few_cards a t (well_formed t c)
