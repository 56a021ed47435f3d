-- Laws of the first values after a path, one for each way through the code.
use mathlib.Core.Path.{◌≡◌, refl, sym, ap, ◌∙◌}
use mathlib.Core.Bool.{Bool, true, false, cond, false≢true}
use mathlib.Core.Logic.{⊎_elim}
use mathlib.Core.List.{List, [], ◌∷◌, ◌++◌, append_assoc, append-nil}
use Prim.Native.Nat.{ℕ, suc, ◌+◌, ◌-◌, ◌≤◌, ◌<◌}
use native.Mathlib.Omega.{arith}
use native.Mathlib.Numerals.{add-one}
use borrow.Author.Tests.{lt-ltb, le-ltb}
use lib.Dec.{ltb}
use lib.ListN.{length, take, drop, set, length-set, length-drop, drop_of_length-le}
use lib.Seq.{take-suc}
use borrow.Rule.Slice.PartMut.{put_mid}
use Rattle.std.proofs.lemmas.List.{take_more_set}
use Rattle.std.specs.Prelude.{Option, Some, None}
use Rattle.std.specs.Option.{is_some}
use Rattle.answer.specs.Answers.{zeros}
use Rattle.answer.proofs.Tests.{lt_or_ge}
use Rattle.answer.specs.Requests.{value}
use Rattle.diagram.specs.Layout.{edges_at, child_at}
use Rattle.diagram.specs.LookUp.{edge, child}
use Rattle.listing.specs.Paths.{After, first_at, follows, ends, request_of, next_at, next_from}
use Rattle.listing.proofs.Parts.{next_left, none_left}

-- the three ways to go on at a node, by what there is below and by whether an edge follows
module _ (d : List ℕ) (p v : ℕ) (below : After) where
  abbrev pub by_edge : Bool → After
  by_edge b = cond b (follows (first_at d p (edge d p v + 1) ∷ below.values)) (ends (0 ∷ below.values))

  pub at_below : below.more ≡ true → next_at d p v below ≡ follows (v ∷ below.values)
  unfolding next_at
  at_below e = ap (λ (b : Bool). cond b (follows (v ∷ below.values)) (by_edge (ltb (edge d p v + 1) (edges_at d p)))) e

  at_edge : (b : Bool) → below.more ≡ false → ltb (edge d p v + 1) (edges_at d p) ≡ b → next_at d p v below ≡ by_edge b
  unfolding next_at
  at_edge b e i = ap (λ (x : Bool). cond x (follows (v ∷ below.values)) (by_edge (ltb (edge d p v + 1) (edges_at d p)))) e ∙ ap by_edge i

  pub at_next : below.more ≡ false → edge d p v + 1 < edges_at d p → next_at d p v below ≡ follows (first_at d p (edge d p v + 1) ∷ below.values)
  at_next e l = at_edge true e (lt-ltb (edge d p v + 1) (edges_at d p) l)

  pub at_last : below.more ≡ false → edges_at d p ≤ edge d p v + 1 → next_at d p v below ≡ ends (0 ∷ below.values)
  at_last e l = at_edge false e (le-ltb (edge d p v + 1) (edges_at d p) l)

-- where no request follows, the values after a path are zeros
pub zeros_at_end : (d q : List ℕ) (p : ℕ) → (next_from d p q).more ≡ false → (next_from d p q).values ≡ zeros (length q)
unfolding next_from
zeros_at_end d [] p e = refl
zeros_at_end d (v ∷ q) p e = at below.more refl (λ m. zeros_at_end d q (child d p v) m)
  where
    below : After
    below = next_from d (child d p v) q

    at : (b : Bool) → below.more ≡ b → (below.more ≡ false → below.values ≡ zeros (length q)) → (next_at d p v below).values ≡ zeros (suc (length q))
    at true m z = absurd (false≢true (sym e ∙ ap (λ (n : After). n.more) (at_below d p v below m)))
    at false m z =
        ⊎_elim
        (λ (l : edge d p v + 1 < edges_at d p). absurd (false≢true (sym e ∙ ap (λ (n : After). n.more) (at_next d p v below m l))))
        (λ (l : edges_at d p ≤ edge d p v + 1).
        ap (λ (n : After). n.values) (at_last d p v below m l) ∙ ap (λ (r : List ℕ). 0 ∷ r) (z m))
        (lt_or_ge (edge d p v + 1) (edges_at d p))

module _ (before : List ℕ) (n : After) where
  pub request_where : (b : Bool) → n.more ≡ b → request_of before n ≡ cond b (Some (before ++ n.values)) None
  request_where b e = ap (λ (x : Bool). cond x (Some (before ++ n.values)) None) e

  -- there is a request exactly where one follows
  pub request_there : is_some (request_of before n) ≡ n.more
  request_there = by n.more refl
    where
      by : (b : Bool) → n.more ≡ b → is_some (request_of before n) ≡ n.more
      by true e = ap is_some (request_where true e) ∙ sym e
      by false e = ap is_some (request_where false e) ∙ sym e

-- the value of field f in place of what it was, and zeros after it
pub zeros_after : (q rest : List ℕ) (f k x : ℕ) → f < length q → k ≡ length q - (f + 1) → rest ≡ zeros k →
    put_mid (f + 1) k (set q f x) rest ≡ take f q ++ x ∷ zeros (length (drop (f + 1) q))
zeros_after q rest f k x l e r =
    let w : List ℕ = set q f x in
    let past : drop k (drop (f + 1) w) ≡ [] = drop_of_length-le (drop (f + 1) w) {i = k} (omega (arith, length-drop (f + 1) w, length-set q f x)) in
    let n : k ≡ length (drop (f + 1) q) = omega (arith, length-drop (f + 1) q) in
    ap (λ (z : List ℕ). take (f + 1) w ++ (rest ++ z)) past
    ∙ ap (λ (z : List ℕ). take (f + 1) w ++ z) (append-nil rest ∙ r ∙ ap zeros n)
    ∙ ap (λ (z : List ℕ). z ++ zeros (length (drop (f + 1) q))) (take_more_set q f x l)
    ∙ append_assoc (take f q) (x ∷ []) (zeros (length (drop (f + 1) q)))

-- what the code hands back at a place where f values are used up: those values with what follows the rest, if anything does
abbrev pub HandsBack : List ℕ → List ℕ → ℕ → ℕ → Option (List ℕ) → Type 0
HandsBack d q p f r = r ≡ request_of (take f q) (next_from d p (drop f q))

module _ (d q : List ℕ) (p f : ℕ) where
  pub no_field_left : length q ≤ f → HandsBack d q p f None
  unfolding next_from
  no_field_left l = sym (ap (λ (r : List ℕ). request_of (take f q) (next_from d p r)) (none_left q f l))

  module _ (v j c : ℕ) (l : f < length q) (e : v ≡ value q f) (i : j ≡ edge d p v) (k : c ≡ child_at d p j) where
    below : After
    below = next_from d c (drop (f + 1) q)

    here : next_from d p (drop f q) ≡ next_at d p v below
    unfolding next_from below
    here = rw (k, i, e) (ap (next_from d p) (next_left q f l))

    -- the value of this field stands between those before it and those after it
    split : (r : List ℕ) → take (f + 1) q ++ r ≡ take f q ++ v ∷ r
    split r = rw (add-one, take-suc q f 0, ← e) (append_assoc (take f q) (v ∷ []) r)

    module _ (r : Option (List ℕ)) (b : HandsBack d q c (f + 1) r) where
      followed : is_some r ≡ below.more
      unfolding below
      followed = ap is_some b ∙ request_there (take (f + 1) q) (next_from d c (drop (f + 1) q))

      pub moves_below : is_some r ≡ true → HandsBack d q p f r
      unfolding below
      moves_below m =
          let t : below.more ≡ true = sym followed ∙ m in
          b ∙ request_where (take (f + 1) q) below true t ∙ ap Some (split below.values)
          ∙ sym (ap (request_of (take f q)) (here ∙ at_below d p v below t))

      pub moves_on : is_some r ≡ false → j + 1 < edges_at d p → (x : ℕ) → x ≡ first_at d p (j + 1) → (n : List ℕ) →
          n ≡ take f q ++ x ∷ zeros (length (drop (f + 1) q)) → HandsBack d q p f (Some n)
      unfolding below
      moves_on m g x o n s =
          let t : below.more ≡ false = sym followed ∙ m in
          ap Some s
          ∙ ap (λ (y : ℕ). Some (take f q ++ y ∷ zeros (length (drop (f + 1) q)))) (o ∙ ap (λ (y : ℕ). first_at d p (y + 1)) i)
          ∙ ap (λ (z : List ℕ). Some (take f q ++ first_at d p (edge d p v + 1) ∷ z)) (sym (zeros_at_end d (drop (f + 1) q) c t))
          ∙ sym (ap (request_of (take f q)) (here ∙ at_next d p v below t (omega arith)))

      pub nothing_follows : is_some r ≡ false → edges_at d p ≤ j + 1 → HandsBack d q p f None
      unfolding below
      nothing_follows m g =
          let t : below.more ≡ false = sym followed ∙ m in
          sym (ap (request_of (take f q)) (here ∙ at_last d p v below t (omega arith)))
