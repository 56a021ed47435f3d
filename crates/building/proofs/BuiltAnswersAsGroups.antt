-- In any slice that starts with the diagram of an accepted table, a request within its fields gets what the groups give; where the table's root is
-- deny overrides, no request gets indeterminate.
use mathlib.Core.Path.{◌≡◌}
use mathlib.Core.List.{List, ◌++◌}
use Prim.Native.Nat.{ℕ, ◌≤◌}
use native.Mathlib.Omega.{arith}
use lib.ListN.{length}
use Rattle.answer.specs.Fields.{fields}
use Rattle.answer.specs.Answers.{padded}
use Rattle.answer.specs.Requests.{Within}
use Rattle.answer.specs.Rulings.{answer_of}
use Rattle.combining.specs.Ways.{NeverIndeterminate}
use Rattle.combining.proofs.NeverIndeterminate.{none_clear}
use Rattle.encoding.specs.Layout.{Bytes, maximum, maxima, kind}
use Rattle.table.specs.Reading.{Accepted}
use Rattle.encoding.proofs.Maxima.{maxima_length, maxima_bytes}
use Rattle.targets.specs.Targets.{applies}
use Rattle.ruling.specs.Ruling.{groups}
use Rattle.ruling.proofs.NeverIndeterminate.{decision_clear}
use Rattle.diagram.specs.Layout.{most_places}
use Rattle.diagram.specs.LookedUp.{looked_up, looked_up_list}
use Rattle.diagram.proofs.WalkedDiagramAnswers.{walked_diagram_answers, walked_so}
use Rattle.building.specs.Built.{diagram_of}
use Rattle.building.proofs.BuiltIsSound.{groups_holdable}
use Rattle.building.proofs.WithinTheMaxima.{within_maxima}

-- whatever follows the diagram in the slice, and in every list that is long enough
module _ (t tail : List ℕ) (b : Bytes t) (c : Accepted t) (most : length (diagram_of t) ≤ most_places)
    (q : List ℕ) (n : ℕ) (e : length q ≡ fields) (w : Within (maximum t) q) (long : length (groups t q).cards ≤ n) where
  -- the answer and the list: what the groups give, and zeros after the cards
  pub built_answers :
      (looked_up (diagram_of t ++ tail) q n ≡ answer_of (groups t q) 0)
      × (looked_up_list (diagram_of t ++ tail) q n ≡ padded (groups t q).cards n)
  built_answers =
      walked_diagram_answers (maxima t) (groups t) tail (maxima_length t) (λ i l. maxima_bytes t b i (omega (arith, maxima_length t)))
      (λ p v. groups_holdable t p c) most q n ((within_maxima t q).0 (e, w)) long

-- where the table's root is deny overrides: no answer is indeterminate, whatever is asked
pub built_clear : (t tail q : List ℕ) (n : ℕ) → length q ≡ fields → NeverIndeterminate (kind t 0) (looked_up (diagram_of t ++ tail) q n).decision
built_clear t tail =
    walked_so (maxima t) (groups t) tail (maxima_length t) (NeverIndeterminate (kind t 0)) (none_clear (kind t 0)) (λ q w. decision_clear (applies t q) t 0)
