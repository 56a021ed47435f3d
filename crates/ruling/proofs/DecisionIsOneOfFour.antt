-- The decision of a ruling is one of the four: for every table, set of subjects, values and list, and for any test of which nodes apply.
use mathlib.Core.Bool.{Bool}
use mathlib.Core.List.{List}
use Prim.Native.Nat.{ℕ, ◌<◌}
use lib.Dec.{lit<}
use Rattle.answer.specs.Refusals.{Refusal}
use Rattle.answer.proofs.RequestRefusals.{ruled_so}
use Rattle.targets.specs.Subjects.{applies_to_some, size}
use Rattle.ruling.specs.Meaning.{meaning}
use Rattle.ruling.specs.Ruling.{groups_together, ruled_after}
use Rattle.ruling.proofs.Decisions.{decision_below}

pub meaning_below : (a : ℕ → Bool) (t : List ℕ) → (meaning a t).decision < 4
meaning_below a t = decision_below a t 0

-- whatever is refused
pub ruling_below : (refusals : List Refusal) (t : List ℕ) (s : ℕ) (others : List ℕ) → (ruled_after refusals t s others).decision < 4
ruling_below refusals t s others =
    ruled_so (λ d. d < 4) (lit< tt) refusals (groups_together t s others) (size s) (λ none. meaning_below (applies_to_some t s others) t)
