-- In an accepted table, a node applies exactly where its own target and that of every node above it by parents hold.
use Rattle.std.proofs.Common.{◌≡◌, ℕ, ◌<◌, true, ◌↔◌, List}
use Rattle.encoding.specs.Layout.{count}
use Rattle.table.specs.Tree.{Above}
use Rattle.table.specs.Reading.{Accepted}
use Rattle.table.proofs.AcceptedIsWellFormed.{well_formed}
use Rattle.table.proofs.ParentsAndSpansAgree.{agree}
use Rattle.targets.specs.Targets.{target_holds, applies}
use Rattle.targets.proofs.Applies.{applies_where, applies_each}

pub applies_by_parents : (t q : List ℕ) → Accepted t → (i : ℕ) → i < count t →
    (applies t q i ≡ true) ↔ ((j : ℕ) → Above t i j → target_holds t q j ≡ true)
applies_by_parents t q c i l = (
  λ e j u. let r = (agree t (well_formed t c) i j l).0 u in applies_each t q i e j r.0 r.1,
  λ h. applies_where t q i (λ j a b. h j ((agree t (well_formed t c) i j l).1 (a, b))),
)
