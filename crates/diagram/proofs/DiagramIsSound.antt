-- Any slice that starts with a walked diagram is sound, where the diagram has at most 32,768 places and a terminal can hold each ruling walked.
use mathlib.Core.Path.{◌≡◌, sym, ap, ◌∙◌, subst}
use mathlib.Core.List.{List, [], ◌∷◌, ◌++◌}
use Prim.Native.Nat.{ℕ, ◌+◌, ◌-◌, ◌≤◌, ◌<◌}
use native.Mathlib.Omega.{arith}
use lib.ListN.{length, get_or}
use Rattle.answer.specs.Rulings.{Ruling}
use Rattle.diagram.specs.Layout.{most_places, maximum}
use Rattle.diagram.specs.Walk.{diagram, WithinMaxima}
use Rattle.diagram.specs.Sound.{Holdable, Sound}
use Rattle.diagram.proofs.WalkRules.{walk_rules}
use Rattle.diagram.proofs.DiagramHeader.{walked, head, head_length, diagram_splits, diagram_places, diagram_used, diagram_root, diagram_maximum}
use Rattle.diagram.proofs.GoodEntries.{level_of, Points, rules_points, walk_good}
use Rattle.diagram.proofs.GoodEntriesAreSound.{good_entries_are_sound}

top_level : (ms : List ℕ) → 1 ≤ length ms → level_of (length ms) ms ≡ 1
top_level [] l = absurd (omega arith)
top_level (m ∷ ms) l = omega arith

-- a walked diagram of at least one field, with maxima of at most 255, is sound
pub diagram_is_sound : (ms : List ℕ) (f : List ℕ → Ruling) (tail : List ℕ) → 1 ≤ length ms → ((i : ℕ) → i < length ms → get_or ms i 0 ≤ 255) →
    ((q : List ℕ) → WithinMaxima ms q → Holdable (f q)) → length (diagram ms f) ≤ most_places → Sound (length ms) (diagram ms f ++ tail)
diagram_is_sound ms f tail some maxima holdable most =
    let k : ℕ = length ms in
    let d : List ℕ = diagram ms f ++ tail in
    let r = walked ms f in
    good_entries_are_sound k (head ms f) tail d r.entries (diagram_splits ms f tail) (head_length ms f) (diagram_places ms f tail)
    (walk_good k (maximum d) ms f [] (omega arith)
    (λ i l. let z : k - k + i ≡ i = omega arith in ap (maximum d) z ∙ diagram_maximum ms f tail i l) holdable (λ i l. absurd (omega arith)))
    (omega (arith, diagram_used ms f tail))
    (λ i l. omega (arith, diagram_maximum ms f tail i l, maxima i l))
    (subst (λ c. Points k r.entries c 1) (sym (diagram_root ms f tail))
    (subst (Points k r.entries r.place) (top_level ms some) (rules_points k ms r.entries r.place f (walk_rules k ms f []))))
