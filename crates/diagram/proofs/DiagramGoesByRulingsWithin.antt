-- The walk and the diagram go by the rulings of requests within the maxima alone.
use mathlib.Core.Path.{◌≡◌, refl, ap}
use mathlib.Core.List.{List, [], ◌∷◌, ◌++◌}
use Prim.Native.Nat.{ℕ, zero, suc, ◌+◌, ◌<◌}
use native.Mathlib.Omega.{arith}
use lib.ListN.{length}
use Rattle.answer.specs.Rulings.{Ruling}
use Rattle.diagram.specs.Layout.{header}
use Rattle.diagram.specs.Entries.{terminal}
use Rattle.diagram.specs.Walk.{Entries, joined, Entered, enter, below, given, walk, diagram, WithinMaxima}
use Rattle.diagram.proofs.EntriesGrow.{below_more, under, walk_node}

-- f and g rule alike within the maxima ms
abbrev pub Alike : List ℕ → (List ℕ → Ruling) → (List ℕ → Ruling) → Type 0
Alike ms f g = (q : List ℕ) → WithinMaxima ms q → f q ≡ g q

below_goes_by : (u w : ℕ → Entries → Entered) (es : Entries) (n : ℕ) → ((v : ℕ) → v < n → (xs : Entries) → u v xs ≡ w v xs) → below u es n ≡ below w es n
unfolding below
below_goes_by u w es zero h = refl
below_goes_by u w es (suc n) h =
    let o = below w es n in
    below_more u es n o (w n o.entries) (below_goes_by u w es n (λ v l xs. h v (omega arith) xs)) (h n (omega arith) o.entries)

-- rulings that are alike within the maxima give the same walk, from any entries
pub walk_goes_by_rulings_within : (k : ℕ) (ms : List ℕ) (f g : List ℕ → Ruling) (es : Entries) → Alike ms f g → walk k ms f es ≡ walk k ms g es
unfolding walk
walk_goes_by_rulings_within k [] f g es h = ap (λ r. enter (header k) es (terminal r)) (h [] tt)
walk_goes_by_rulings_within k (m ∷ ms) f g es h =
    walk_node k m ms f es (below (under k ms g) es (suc m))
    (below_goes_by (under k ms f) (under k ms g) es (suc m)
    (λ v l xs. walk_goes_by_rulings_within k ms (given f v) (given g v) xs (λ q w. h (v ∷ q) (omega arith, w))))

-- rulings that are alike within the maxima give the same diagram
pub diagram_goes_by_rulings_within : (ms : List ℕ) (f g : List ℕ → Ruling) → Alike ms f g → diagram ms f ≡ diagram ms g
unfolding diagram
diagram_goes_by_rulings_within ms f g h =
    ap (λ (r : Entered). (header (length ms) + length (joined r.entries)) ∷ r.place ∷ ms ++ joined r.entries)
    (walk_goes_by_rulings_within (length ms) ms f g [] h)
