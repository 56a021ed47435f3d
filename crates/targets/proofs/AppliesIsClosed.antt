-- Where a node does not apply, nothing under it does: for a request of one subject, and for several subjects that ask together.
use Rattle.std.proofs.Common.{ℕ, List, ◌∷◌}
use Rattle.table.specs.WellFormed.{WellFormed}
use Rattle.targets.specs.Closed.{Closed}
use Rattle.targets.specs.Targets.{applies}
use Rattle.targets.specs.Subjects.{applies_to_some}
use Rattle.targets.proofs.Applies.{applies_down}
use Rattle.targets.proofs.Members.{no_member}

module _ (t : List ℕ) (w : WellFormed t) where
  pub applies_closed : (q : List ℕ) → Closed t (applies t q)
  applies_closed q i j l m n e = applies_down t q w i j l m n e

  pub applies_to_some_closed : (s : ℕ) (others : List ℕ) → Closed t (applies_to_some t s others)
  unfolding applies_to_some
  applies_to_some_closed s others i j l m n e =
      (no_member s (λ k. applies t (k ∷ others) j)).1
      (λ k b h. applies_closed (k ∷ others) i j l m n ((no_member s (λ k. applies t (k ∷ others) i)).0 e k b h))
