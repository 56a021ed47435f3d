-- Laws of the ranges of a path, field by field.
use mathlib.Core.Path.{◌≡◌, refl, ap}
use mathlib.Core.List.{List, [], ◌∷◌, ◌++◌}
use Prim.Native.Nat.{ℕ, zero, suc, ◌+◌, ◌*◌, ◌≤◌, ◌<◌}
use native.Mathlib.Omega.{arith}
use lib.ListN.{length, drop, length-append}
use Rattle.answer.specs.Fields.{fields}
use Rattle.answer.specs.Requests.{value, Within}
use Rattle.diagram.specs.Layout.{used, maximum, last_at, child_at}
use Rattle.diagram.specs.LookUp.{edge}
use Rattle.diagram.specs.Sound.{EntryBefore, next_level, Sound}
use Rattle.diagram.proofs.Descent.{child_here}
use Rattle.listing.specs.Text.{space, range, ranges}
use Rattle.listing.specs.Paths.{first_at, path_from}
use Rattle.listing.proofs.Parts.{next_left, none_left}
use Rattle.listing.proofs.Edges.{first_most, last_most, real_edge}
use Rattle.listing.proofs.Lengths.{range_short}

module _ (d q : List ℕ) (p f : ℕ) where
  -- the next range, and those after it
  pub ranges_next : (v j low high : ℕ) → f < length q → v ≡ value q f → j ≡ edge d p v → low ≡ first_at d p j → high ≡ last_at d p j →
      ranges (path_from d p (drop f q)) ≡ range low high ++ space ∷ ranges (path_from d (child_at d p j) (drop (f + 1) q))
  unfolding ranges path_from
  ranges_next v j low high l e i k m = rw (m, k, i, e) (ap (λ (r : List ℕ). ranges (path_from d p r)) (next_left q f l))

  pub ranges_end : length q ≤ f → ranges (path_from d p (drop f q)) ≡ []
  unfolding ranges path_from
  ranges_end l = ap (λ (r : List ℕ). ranges (path_from d p r)) (none_left q f l)

-- a range takes at most eight bytes
pub ranges_short : (d : List ℕ) (s : Sound fields d) (q : List ℕ) (w : Within (maximum d) q) (k : length q ≡ fields) (n f p : ℕ) → f + n ≡ fields →
    EntryBefore fields d (used d) (next_level fields f) p → length (ranges (path_from d p (drop f q))) ≤ 8 * n
ranges_short d s q w k zero f p i e = omega (arith, ap length (ranges_end d q p f (omega arith)))
ranges_short d s q w k (suc n) f p i e =
    let v : ℕ = value q f in
    let l : f < fields = omega arith in
    let m : v ≤ maximum d f = w f l in
    let j : ℕ = edge d p v in
    let high : last_at d p j ≤ maximum d f = last_most d s p f e l j (real_edge d s p f e l v m) in
    let low : first_at d p j ≤ v = first_most d p v j refl in
    let c : ℕ = child_at d p j in
    let rest : length (ranges (path_from d c (drop (f + 1) q))) ≤ 8 * n = ranges_short d s q w k n (f + 1) c (omega arith) (child_here d s p f e l v m) in
    omega (
      arith,
      ap length (ranges_next d q p f v j (first_at d p j) (last_at d p j) (omega arith) refl refl refl refl),
      length-append (range (first_at d p j) (last_at d p j)) (space ∷ ranges (path_from d c (drop (f + 1) q))),
      range_short (first_at d p j) (last_at d p j) (omega (arith, s.maxima f l)) (omega (arith, s.maxima f l)),
    )
