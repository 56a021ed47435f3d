-- Fewer requests are left after a later one: a loop from request to request ends.
use mathlib.Core.Path.{◌≡◌, refl, sym, ap, ◌∙◌}
use mathlib.Core.Logic.{⊎_elim}
use mathlib.Core.List.{List, [], ◌∷◌}
use Prim.Native.Nat.{ℕ, suc, ◌+◌, ◌-◌, ◌*◌, ◌^◌, ◌≤◌, ◌<◌}
use native.Mathlib.Omega.{arith}
use native.Mathlib.Nat.{pow-succ', suc-mul, mul-le-mul_right}
use lib.ListN.{length, get_or}
use Rattle.answer.specs.Fields.{fields}
use Rattle.answer.specs.Order.{IsRequest, Precedes}
use Rattle.diagram.specs.Layout.{maximum}
use Rattle.diagram.specs.Sound.{Sound}
use Rattle.std.specs.Prelude.{Option, Some, None, IfSome}
use Rattle.listing.specs.Paths.{after, Later}
use Rattle.listing.specs.Listing.{Onward}

-- how many requests with values up to 255 come before q
unfoldable pub rank : List ℕ → ℕ
rank [] = 0
rank (v ∷ q) = v * 256 ^ length q + rank q

-- how many of them are left from q on
abbrev pub requests_left : List ℕ → ℕ
requests_left q = 256 ^ fields - rank q

-- a later first value counts for more than all that follows it
first_counts : (v w a P : ℕ) → v < w → a < P → v * P + a < w * P
first_counts v w a P h g = omega (arith, suc-mul v P, mul-le-mul_right {m = suc v} {n = w} P (omega arith))

-- no value is over 255
abbrev UpTo255 : List ℕ → Type 0
UpTo255 q = (g : ℕ) → g < length q → get_or q g 0 ≤ 255

small_rest : (v : ℕ) (q : List ℕ) → UpTo255 (v ∷ q) → UpTo255 q
small_rest v q h g l = h (suc g) (omega arith)

rank_bounded : (q : List ℕ) → UpTo255 q → rank q < 256 ^ length q
unfolding rank
rank_bounded [] h = omega arith
rank_bounded (v ∷ q) h =
    omega (arith, first_counts v 256 (rank q) (256 ^ length q) (omega (arith, h 0 (omega arith))) (rank_bounded q (small_rest v q h)), pow-succ' 256 (length q))

rank_rises : (q r : List ℕ) → length q ≡ length r → UpTo255 q → Precedes q r → rank q < rank r
unfolding rank Precedes
rank_rises [] r n h p = absurd p
rank_rises (v ∷ q) [] n h p = absurd p
rank_rises (v ∷ q) (w ∷ r) n h p =
    let z : length q ≡ length r = omega arith in
    let e : 256 ^ length q ≡ 256 ^ length r = ap (λ (k : ℕ). 256 ^ k) z in
    ⊎_elim
    (λ (l : v < w). omega (arith, first_counts v w (rank q) (256 ^ length q) l (rank_bounded q (small_rest v q h)), ap (λ (k : ℕ). w * k) e))
    (λ s. omega (arith, rank_rises q r z (small_rest v q h) s.1, ap (λ (k : ℕ). k * 256 ^ length q) s.0, ap (λ (k : ℕ). w * k) e))
    p

pub fewer_left : {d q r : List ℕ} → Sound fields d → IsRequest (maximum d) q → Later d q r → requests_left r < requests_left q
fewer_left {q = q} {r = r} s i l =
    let small : UpTo255 q = λ g h. omega (arith, i.1 g (omega (arith, i.0)), s.maxima g (omega (arith, i.0))) in
    let rises : rank q < rank r = rank_rises q r (i.0 ∙ sym l.request.0) small l.rises in
    omega (arith, rank_bounded q small, ap (λ (k : ℕ). 256 ^ k) i.0)

-- how many requests are left where one is next, or none
abbrev pub left_where : Option (List ℕ) → ℕ
left_where None = 0
left_where (Some q) = suc (requests_left q)

-- fewer are left after a request and what is next after it
pub fewer_next : {d q : List ℕ} (r : Option (List ℕ)) → Sound fields d → IsRequest (maximum d) q → Onward d q (after r) → left_where r < left_where (Some q)
fewer_next None s i o = omega arith
fewer_next (Some n) s i o = omega (arith, fewer_left s i (o refl))

pub request_next : {d q : List ℕ} (r : Option (List ℕ)) → Onward d q (after r) → IfSome r (λ (n : List ℕ). IsRequest (maximum d) n)
request_next None o = tt
request_next (Some n) o = (o refl).request
