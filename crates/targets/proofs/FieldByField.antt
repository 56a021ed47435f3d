-- Laws of a target, tested from a word of ranges, whose fields after the first are tested one by one, one for each way through the code.
use Rattle.std.proofs.Common.{◌≡◌, ℕ, suc, ◌+◌, ◌-◌, ◌<◌, Bool, true, false, ◌&&◌, List, ◌∷◌, sym, ap, ◌∙◌, ap₂, add-one}
use Rattle.answer.specs.Fields.{fields}
use Rattle.answer.specs.Requests.{value}
use Rattle.answer.specs.Below.{every_below}
use Rattle.answer.proofs.Below.{every_more, every_false, every_first}
use Rattle.encoding.specs.Ranges.{low_of, high_of}
use Rattle.targets.specs.Targets.{in_range, field_holds_from, target_holds_from}
use Rattle.targets.specs.Targets.{others_hold_from}

module _ (w : ℕ) (others : List ℕ) where
  -- a target holds for a subject in its range of subjects, where the other values lie in their ranges
  pub target_parts : (k : ℕ) → target_holds_from w (k ∷ others) ≡ in_range (low_of w 0) (high_of w 0) k && others_hold_from w others
  unfolding target_holds_from others_hold_from
  target_parts k = every_first (field_holds_from w (k ∷ others)) (fields - 1)

  -- the value of a field after the first lies in its range of the word
  abbrev pub other_holds : ℕ → Bool
  other_holds f = field_holds_from w (0 ∷ others) (suc f)

  -- what the test of such a field tells
  tested : (f l h : ℕ) (b : Bool) → l ≡ low_of w (f + 1) → h ≡ high_of w (f + 1) → b ≡ in_range l h (value others f) → other_holds f ≡ b
  tested f l h b el eh e =
      sym (e ∙ ap₂ (λ x y. in_range x y (value others f)) (el ∙ ap (low_of w) (add-one f)) (eh ∙ ap (high_of w) (add-one f)))

  pub others_fail : (f l h : ℕ) (b : Bool) → f < fields - 1 → l ≡ low_of w (f + 1) → h ≡ high_of w (f + 1) → b ≡ in_range l h (value others f) →
      b ≡ false → false ≡ others_hold_from w others
  unfolding others_hold_from
  others_fail f l h b m el eh e n = sym (every_false other_holds (fields - 1) f m (tested f l h b el eh e ∙ n))

  pub others_next : (f l h : ℕ) (b : Bool) → l ≡ low_of w (f + 1) → h ≡ high_of w (f + 1) → b ≡ in_range l h (value others f) → b ≡ true →
      every_below f other_holds ≡ true → every_below (f + 1) other_holds ≡ true
  others_next f l h b el eh e y r = every_more other_holds f r (tested f l h b el eh e ∙ y)

  pub others_all : (f : ℕ) → f ≡ fields - 1 → every_below f other_holds ≡ true → true ≡ others_hold_from w others
  unfolding others_hold_from
  others_all f e r = sym r ∙ ap (λ n. every_below n other_holds) e
