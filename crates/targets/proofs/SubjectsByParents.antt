-- In an accepted table, a node applies to a set of subjects exactly where some member survives all targets on the way down: by itself it
-- meets the node's own target and that of every node above it by parents.
use Rattle.std.proofs.Common.{◌≡◌, ℕ, ◌<◌, true, ◌↔◌, List, ◌∷◌}
use Rattle.encoding.specs.Layout.{count}
use Rattle.table.specs.Tree.{Above}
use Rattle.table.specs.Reading.{Accepted}
use Rattle.targets.specs.Targets.{target_holds}
use Rattle.targets.specs.Subjects.{most_subjects, member, applies_to_some}
use Rattle.targets.proofs.AppliesByParents.{applies_by_parents}
use Rattle.targets.proofs.Members.{applies_to_member}

pub applies_to_some_by_parents : (t : List ℕ) (s : ℕ) (others : List ℕ) → Accepted t → (i : ℕ) → i < count t →
    (applies_to_some t s others i ≡ true)
    ↔ ((k : ℕ) × ((k < most_subjects) × ((member s k ≡ true) × ((j : ℕ) → Above t i j → target_holds t (k ∷ others) j ≡ true))))
applies_to_some_by_parents t s others c i l = (
  λ e. let x = (applies_to_member t s others i).0 e in (x.0, (x.1.0, (x.1.1.0, (applies_by_parents t (x.0 ∷ others) c i l).0 x.1.1.1))),
  λ x. (applies_to_member t s others i).1 (x.0, (x.1.0, (x.1.1.0, (applies_by_parents t (x.0 ∷ others) c i l).1 x.1.1.1))),
)
