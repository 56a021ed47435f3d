-- Whoever follows the next request from the first one on, where all values are 0, until none follows, has written the whole listing. Pages
-- are such runs, which join.
use mathlib.Core.Path.{◌≡◌, refl, sym, ap, ◌∙◌, subst}
use mathlib.Core.Bool.{true, false, false≢true}
use mathlib.Core.Logic.{⊎_elim}
use mathlib.Core.List.{List, [], ◌++◌}
use Prim.Native.Nat.{ℕ, zero, suc, ◌≤◌, ◌<◌}
use native.Mathlib.Omega.{arith}
use Rattle.answer.specs.Fields.{fields}
use Rattle.answer.specs.Answers.{zeros}
use Rattle.answer.proofs.Tests.{lt_or_ge}
use Rattle.diagram.specs.Layout.{root}
use Rattle.diagram.specs.Sound.{Sound}
use Rattle.listing.specs.Paths.{After, first_line, line_of, follows, ends, next_of}
use Rattle.listing.specs.Listing.{listing, lines_from, Run, begun, onward}
use Rattle.listing.proofs.ListingIsARun.{listing_is_a_run}

-- what is next after the first k lines from request q on, and those lines
next_of_lem : List ℕ → List ℕ → ℕ → After
next_of_lem d q zero = follows q
next_of_lem d q (suc k) = next_of d (next_of_lem d q k).values

lines_of : List ℕ → List ℕ → ℕ → List ℕ
lines_of d q zero = []
lines_of d q (suc k) = lines_of d q k ++ line_of d (next_of_lem d q k).values

-- a run of k lines
record Steps (d q bytes : List ℕ) (n : After) : Type 0 where
  count : ℕ
  lines : bytes ≡ lines_of d q count
  next : n ≡ next_of_lem d q count
  followed : (i : ℕ) → i < count → (next_of_lem d q i).more ≡ true

run_steps : (d q bytes : List ℕ) (n : After) → Run d q bytes n → Steps d q bytes n
unfolding lines_of next_of_lem
run_steps d q bytes n begun = record { count = 0; lines = refl; next = refl; followed = λ i l. absurd (omega arith) }
run_steps d q bytes n (onward xs r a) =
    let b : Steps d q xs (follows r) = run_steps d q xs (follows r) a in
    let e : r ≡ (next_of_lem d q b.count).values = ap (λ (y : After). y.values) b.next in
    record {
      count = suc b.count;
      lines = ap (λ (l : List ℕ). l ++ line_of d r) b.lines ∙ ap (λ (y : List ℕ). lines_of d q b.count ++ line_of d y) e;
      next = ap (next_of d) e;
      followed =
          λ i l.
          ⊎_elim
          (λ (h : i < b.count). b.followed i h)
          (λ (h : b.count ≤ i).
          let z : b.count ≡ i = omega arith in
          subst (λ (k : ℕ). (next_of_lem d q k).more ≡ true) z (sym (ap (λ (y : After). y.more) b.next)))
          (lt_or_ge i b.count);
    }

-- a run that ends is no longer than another that does
no_longer : (d q : List ℕ) {xs ys : List ℕ} {m n : After} (a : Steps d q xs m) (b : Steps d q ys n) → m.more ≡ false → b.count ≤ a.count
no_longer d q a b e =
    ⊎_elim
    (λ (h : a.count < b.count). absurd (false≢true (sym e ∙ ap (λ (y : After). y.more) a.next ∙ b.followed a.count h)))
    (λ (h : b.count ≤ a.count). h)
    (lt_or_ge a.count b.count)

-- any run from the first request that ends, after the first line
pub run_is_the_listing : (d : List ℕ) → Sound fields d → (bytes : List ℕ) (n : After) → Run d (zeros fields) bytes n → n.more ≡ false →
    first_line d ++ bytes ≡ listing d
unfolding listing
run_is_the_listing d s bytes n r e =
    let a : Steps d (zeros fields) bytes n = run_steps d (zeros fields) bytes n r in
    let b : Steps d (zeros fields) (lines_from d fields (root d) []) (ends (zeros fields)) =
    run_steps d (zeros fields) (lines_from d fields (root d) []) (ends (zeros fields)) (listing_is_a_run d s) in
    let z : a.count ≡ b.count = omega (arith, no_longer d (zeros fields) a b e, no_longer d (zeros fields) b a refl) in
    ap (λ (l : List ℕ). first_line d ++ l) (a.lines ∙ ap (lines_of d (zeros fields)) z ∙ sym b.lines)
