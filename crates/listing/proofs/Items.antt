-- Laws of numbers written each after a space.
use mathlib.Core.Path.{◌≡◌, ap}
use mathlib.Core.List.{List, [], ◌∷◌, ◌++◌}
use Prim.Native.Nat.{ℕ, ◌+◌, ◌≤◌, ◌<◌}
use lib.ListN.{length, get_or, drop}
use Rattle.listing.specs.Text.{decimal, space, items}
use Rattle.listing.proofs.Parts.{next_left, none_left}

module _ (ns : List ℕ) (i : ℕ) where
  pub items_next : i < length ns → items (drop i ns) ≡ space ∷ decimal (get_or ns i 0) ++ items (drop (i + 1) ns)
  unfolding items
  items_next h = ap items (next_left ns i h)

  pub items_end : length ns ≤ i → items (drop i ns) ≡ []
  unfolding items
  items_end h = ap items (none_left ns i h)
