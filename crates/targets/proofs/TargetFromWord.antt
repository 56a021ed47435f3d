-- Paper 4, "the test from it passes exactly when the target holds": from a word that a node's ranges can be read back from.
use Rattle.std.proofs.Common.{◌≡◌, ℕ, ◌<◌, List, refl, ◌∙◌, ap₂}
use Rattle.answer.specs.Fields.{fields}
use Rattle.answer.specs.Requests.{value}
use Rattle.answer.proofs.Below.{every_same}
use Rattle.encoding.specs.Layout.{low, high}
use Rattle.encoding.specs.Ranges.{low_of, high_of, ReadsBack}
use Rattle.targets.specs.Targets.{in_range, field_holds, target_holds, field_holds_from, target_holds_from}

module _ (t : List ℕ) (i w : ℕ) (back : ReadsBack w t i) where
  -- a range whose ends are read back is the node's
  pub range_from : (f l h v : ℕ) → f < fields → l ≡ low_of w f → h ≡ high_of w f → in_range l h v ≡ in_range (low t i f) (high t i f) v
  range_from f l h v m el eh = ap₂ (λ x y. in_range x y v) (el ∙ (back f m).0) (eh ∙ (back f m).1)

  field_from : (q : List ℕ) (f : ℕ) → f < fields → field_holds_from w q f ≡ field_holds t q i f
  field_from q f m = range_from f (low_of w f) (high_of w f) (value q f) m refl refl

  pub target_from : (q : List ℕ) → target_holds_from w q ≡ target_holds t q i
  unfolding target_holds_from target_holds
  target_from q = every_same (field_holds_from w q) (field_holds t q i) fields (field_from q)
