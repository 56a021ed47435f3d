-- What the groups of a table give that is a base with an expansion fitted to it.
-- Assumes nothing: these are definitions.
use Rattle.std.specs.Prelude.{Bool, ◌&&◌, List, [], ◌∷◌, ◌++◌, ℕ}
use Rattle.answer.specs.Rulings.{Ruling}
use Rattle.ruling.specs.Forest.{under}
use Rattle.targets.specs.Targets.{target_holds, applies}
use Rattle.targets.specs.Subjects.{some_member, applies_to_some}
use Rattle.ruling.specs.Meaning.{gives, child_of, children, decision, cards}

-- "the expansion's root as the last child of the base root": what the base's root gives of its own children and then the expansion's root, and the
-- cards of both in table order, where a says which nodes of the base apply, and x which of the expansion
abbrev pub meaning_with : (ℕ → Bool) → (ℕ → Bool) → List ℕ → List ℕ → Ruling
meaning_with a x b e = record {
  decision = gives a b 0 (children a b (under b 0) ++ (child_of x 0 (decision x e 0) ∷ []));
  cards = cards a b ++ cards x e;
}

-- "its own target and every target above it hold": of the targets above the expansion's node i the first is the base root's
abbrev pub applies_under : List ℕ → List ℕ → List ℕ → ℕ → Bool
applies_under b e q i = target_holds b q 0 && applies e q i

-- paper 1, "at least one member by itself meets its target and every target above it": the expansion's node i
abbrev pub applies_to_some_under : List ℕ → List ℕ → ℕ → List ℕ → ℕ → Bool
applies_to_some_under b e s others i = some_member s (λ k. applies_under b e (k ∷ others) i)

-- what the groups of the base, with the expansion fitted to it, give a question of one figure
abbrev pub groups_with : List ℕ → List ℕ → List ℕ → Ruling
groups_with b e q = meaning_with (applies b q) (applies_under b e q) b e

-- what they give the set s, where the other fields have these values
abbrev pub groups_together_with : List ℕ → List ℕ → ℕ → List ℕ → Ruling
groups_together_with b e s others = meaning_with (applies_to_some b s others) (applies_to_some_under b e s others) b e
