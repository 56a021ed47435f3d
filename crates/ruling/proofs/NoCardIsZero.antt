-- No card of an accepted table's ruling is 0.
use mathlib.Core.Path.{◌≡◌, ap}
use mathlib.Core.Bool.{Bool}
use mathlib.Core.List.{List}
use Prim.Native.Nat.{ℕ, ◌<◌}
use native.Mathlib.Omega.{arith}
use borrow.Author.Tests.{leb-true}
use lib.ListN.{length, get_or}
use Rattle.answer.proofs.Tests.{both}
use Rattle.encoding.specs.Layout.{kind}
use Rattle.table.specs.Tree.{is_rule}
use Rattle.table.specs.Reading.{Accepted}
use Rattle.table.proofs.AcceptedIsWellFormed.{well_formed}
use Rattle.ruling.specs.Meaning.{cards}
use Rattle.ruling.proofs.CardsOfMatchingRules.{each_listed, nothing_else}

pub no_card_is_zero : (a : ℕ → Bool) (t : List ℕ) → Accepted t → (k : ℕ) → k < length (cards a t) → get_or (cards a t) k 0 ≡ 0 → ⊥
no_card_is_zero a t c k l z =
    let o = nothing_else a t k l in
    let rule = leb-true 4 (kind t o.rule) (both (is_rule t o.rule) (a o.rule) o.hit).0 in
    omega (
      arith,
      z,
      ap (λ (j : ℕ). get_or (cards a t) j 0) o.before,
      each_listed a t o.rule o.inside o.hit,
      (well_formed t c).carded o.rule o.inside rule,
    )
