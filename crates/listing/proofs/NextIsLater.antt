-- The first request after a path is within the maxima, and comes after those of the path.
use mathlib.Core.Path.{◌≡◌, refl, sym, ap, ◌∙◌, subst}
use mathlib.Core.Bool.{Bool, true, false, false≢true}
use mathlib.Core.Logic.{inl, inr, ⊎_elim}
use mathlib.Core.List.{List, [], ◌∷◌}
use Prim.Native.Nat.{ℕ, zero, suc, ◌+◌, ◌≤◌, ◌<◌}
use native.Mathlib.Omega.{arith}
use native.Mathlib.Numerals.{add-one}
use lib.ListN.{length, get_or}
use Rattle.std.specs.Prelude.{Option, Some, None, IfSome}
use Rattle.answer.specs.Fields.{fields}
use Rattle.answer.specs.Answers.{zeros}
use Rattle.answer.specs.Requests.{Within}
use Rattle.answer.specs.Order.{Precedes}
use Rattle.answer.proofs.Tests.{lt_or_ge}
use Rattle.diagram.specs.Layout.{used, root, maximum, edges_at, last_at}
use Rattle.diagram.specs.LookUp.{edge, child}
use Rattle.diagram.specs.Sound.{EntryBefore, next_level, Sound}
use Rattle.diagram.proofs.FirstEdge.{edge_reaches}
use Rattle.diagram.proofs.Descent.{child_here}
use Rattle.listing.specs.Paths.{After, after, request_of, first_at, follows, ends, next_at, next_from, next_of, Later}
use Rattle.listing.proofs.Edges.{next_first_most}
use Rattle.listing.proofs.NextPath.{at_below, at_next, at_last, request_where}

-- the values of the fields from f on are within the maxima
abbrev WithinFrom : List ℕ → ℕ → List ℕ → Type 0
WithinFrom d f q = (g : ℕ) → g < length q → get_or q g 0 ≤ maximum d (f + g)

-- n follows q, of the fields from f on
record Follows (d : List ℕ) (f : ℕ) (q : List ℕ) (n : After) : Type 0 where
  long : length n.values ≡ length q
  within : WithinFrom d f n.values
  rises : n.more ≡ true → Precedes q n.values

-- a value within the maximum of field f, before such values
within_more : (d : List ℕ) (f v : ℕ) (q : List ℕ) → v ≤ maximum d f → WithinFrom d (f + 1) q → WithinFrom d f (v ∷ q)
within_more d f v q m w zero l = let z : f ≡ f + 0 = omega arith in omega (arith, ap (maximum d) z)
within_more d f v q m w (suc g) l = let z : f + 1 + g ≡ f + suc g = omega arith in omega (arith, w g (omega arith), ap (maximum d) z)

within_less : (d : List ℕ) (f v : ℕ) (q : List ℕ) → WithinFrom d f (v ∷ q) → WithinFrom d (f + 1) q
within_less d f v q w g l = let z : f + suc g ≡ f + 1 + g = omega arith in omega (arith, w (suc g) (omega arith), ap (maximum d) z)

module _ (d : List ℕ) (s : Sound fields d) where
  -- at one node, by what follows below and by whether an edge follows
  module _ (p f v : ℕ) (q : List ℕ) (n : f + suc (length q) ≡ fields) (w : WithinFrom d f (v ∷ q))
      (e : EntryBefore fields d (used d) (next_level fields f) p) (below : After) (a : Follows d (f + 1) q below) where
    here : v ≤ maximum d f
    here = let z : f + 0 ≡ f = omega arith in omega (arith, w 0 (omega arith), ap (maximum d) z)

    by_below : below.more ≡ true → Follows d f (v ∷ q) (follows (v ∷ below.values))
    unfolding Precedes
    by_below m =
        record {
          long = ap suc a.long;
          within = within_more d f v below.values here a.within;
          rises = λ t. inr (refl, a.rises m);
        }

    by_next : edge d p v + 1 < edges_at d p → Follows d f (v ∷ q) (follows (first_at d p (edge d p v + 1) ∷ below.values))
    unfolding Precedes
    by_next l =
        let j : ℕ = edge d p v in
        let x : ℕ = first_at d p (j + 1) in
        let z : x ≡ last_at d p j + 1 = ap (first_at d p) (add-one j) in
        record {
          long = ap suc a.long;
          within = within_more d f x below.values (next_first_most d s p f e (omega arith) j l) a.within;
          rises = λ t. inl (omega (arith, edge_reaches d p v (omega arith)));
        }

    by_last : Follows d f (v ∷ q) (ends (0 ∷ below.values))
    by_last =
        record {
          long = ap suc a.long;
          within = within_more d f 0 below.values (omega arith) a.within;
          rises = λ t. absurd (false≢true t);
        }

    by_node : (b : Bool) → below.more ≡ b → Follows d f (v ∷ q) (next_at d p v below)
    by_node true m = subst (Follows d f (v ∷ q)) (sym (at_below d p v below m)) (by_below m)
    by_node false m =
        ⊎_elim
        (λ (l : edge d p v + 1 < edges_at d p). subst (Follows d f (v ∷ q)) (sym (at_next d p v below m l)) (by_next l))
        (λ (l : edges_at d p ≤ edge d p v + 1). subst (Follows d f (v ∷ q)) (sym (at_last d p v below m l)) by_last)
        (lt_or_ge (edge d p v + 1) (edges_at d p))

  next_follows : (q : List ℕ) (f p : ℕ) → f + length q ≡ fields → WithinFrom d f q → EntryBefore fields d (used d) (next_level fields f) p → Follows d f q (next_from d p q)
  unfolding next_from
  next_follows [] f p n w e = record { long = refl; within = λ g l. absurd (omega arith); rises = λ t. absurd (false≢true t) }
  next_follows (v ∷ q) f p n w e =
      let below : After = next_from d (child d p v) q in
      by_node p f v q n w e below
      (next_follows q (f + 1) (child d p v) (omega arith) (within_less d f v q w)
      (child_here d s p f e (omega arith) v (let z : f + 0 ≡ f = omega arith in omega (arith, w 0 (omega arith), ap (maximum d) z))))
      below.more refl

  pub next_is_later : (q : List ℕ) (n : After) → length q ≡ fields → Within (maximum d) q → n ≡ next_of d q → n.more ≡ true → Later d q n.values
  next_is_later q n l w e m =
      let w' : WithinFrom d 0 q = λ g h. let z : 0 + g ≡ g = omega arith in omega (arith, w g (omega arith), ap (maximum d) z) in
      let a : Follows d 0 q n = subst (Follows d 0 q) (sym e) (next_follows q 0 (root d) (omega arith) w' s.root_entry) in
      record {
        request = (a.long ∙ l, λ f h. let z : 0 + f ≡ f = omega arith in omega (arith, a.within f (omega (arith, a.long)), ap (maximum d) z));
        rises = a.rises m;
      }

  -- what the code hands back, where a request follows
  pub later_where_some : (q : List ℕ) (r : Option (List ℕ)) → length q ≡ fields → Within (maximum d) q → after r ≡ next_of d q → IfSome r (λ (n : List ℕ). Later d q n)
  later_where_some q None l w e = tt
  later_where_some q (Some n) l w e = next_is_later q (follows n) l w e refl

-- answers with equal parts are equal
pub after_is : (a b : After) → (a.more ≡ b.more) × (a.values ≡ b.values) → a ≡ b
after_is a b e =
    ap (λ (m : Bool). record { more = m; values = a.values }) e.0
    ∙ ap (λ (q : List ℕ). record { more = b.more; values = q }) e.1

-- the request that the code hands back, and zeros where it hands back none, are what follows
pub after_request : (n : After) → (n.more ≡ false → n.values ≡ zeros fields) → after (request_of [] n) ≡ n
after_request n z = by n.more refl
  where
    by : (b : Bool) → n.more ≡ b → after (request_of [] n) ≡ n
    by true e = ap after (request_where [] n true e) ∙ after_is (follows n.values) n (sym e, refl)
    by false e = ap after (request_where [] n false e) ∙ after_is (ends (zeros fields)) n (sym e, sym (z e))
