-- Entering, and the walk, add entries only at the end; what was entered is pointed to from then on.
use mathlib.Core.Path.{◌≡◌, refl, sym, ap, ◌∙◌, subst}
use mathlib.Core.Bool.{true, false, cond, ◌&&◌, false≢true}
use mathlib.Core.Logic.{◌⊎◌, inl, inr, ⊎_elim}
use mathlib.Core.List.{List, [], ◌∷◌, ◌++◌, append-nil}
use Prim.Native.Nat.{ℕ, zero, suc, ◌+◌, ◌-◌, ◌<◌}
use native.Mathlib.Omega.{arith}
use borrow.Author.Tests.{eqb-true, eq-eqb}
use lib.Dec.{eqb}
use lib.ListN.{length, take, length-append}
use Rattle.answer.specs.Rulings.{Ruling}
use Rattle.answer.proofs.Tests.{both}
use Rattle.diagram.specs.Layout.{header}
use Rattle.diagram.specs.Entries.{terminal, node}
use Rattle.diagram.specs.Walk.{Entries, joined, same, Entered, enter, extend, Open, below, given, walk}
use Rattle.diagram.specs.Decided.{either}
use Rattle.diagram.proofs.EntryPlaces.{EntryAt, Begins, begins_itself, begins_on}

-- entries that test as equal are equal, and the other way round

pub same_equal : (x y : List ℕ) → same x y ≡ true → x ≡ y
same_equal [] [] e = refl
same_equal [] (y ∷ ys) e = absurd (false≢true e)
same_equal (x ∷ xs) [] e = absurd (false≢true e)
same_equal (x ∷ xs) (y ∷ ys) e =
    let h = both (eqb x y) (same xs ys) e in
    ap (λ n. n ∷ xs) (eqb-true x y h.0) ∙ ap (λ l. y ∷ l) (same_equal xs ys h.1)

pub same_itself : (x : List ℕ) → same x x ≡ true
same_itself [] = refl
same_itself (n ∷ x) = ap (λ b. b && same x x) (eq-eqb n n refl) ∙ same_itself x

-- the entries xs, with the place c of what was entered
abbrev pub kept : Entries → ℕ → Entered
kept xs c = record { entries = xs; place = c }

-- the same place, with entry x before the entries
abbrev after : List ℕ → Entered → Entered
after x r = kept (x ∷ r.entries) r.place

module _ (e : List ℕ) where
  -- entering e where the first entry is equal to it, and where it is not

  pub enter_here : (p : ℕ) (x : List ℕ) (xs : Entries) → same x e ≡ true → enter p (x ∷ xs) e ≡ kept (x ∷ xs) p
  unfolding enter
  enter_here p x xs t = ap (λ b. cond b (kept (x ∷ xs) p) (after x (enter (p + length x) xs e))) t

  pub enter_there : (p : ℕ) (x : List ℕ) (xs : Entries) → same x e ≡ false → enter p (x ∷ xs) e ≡ after x (enter (p + length x) xs e)
  unfolding enter
  enter_there p x xs t = ap (λ b. cond b (kept (x ∷ xs) p) (after x (enter (p + length x) xs e))) t

  -- what holds of the entering where the first entry is equal, and of one entry more where it is not, holds of every entering
  pub by_entering : (P : ℕ → Entries → Entered → Type 0) →
      ((p : ℕ) → P p [] (kept (e ∷ []) p)) →
      ((p : ℕ) (x : List ℕ) (xs : Entries) → same x e ≡ true → P p (x ∷ xs) (kept (x ∷ xs) p)) →
      ((p : ℕ) (x : List ℕ) (xs : Entries) (r : Entered) → same x e ≡ false → P (p + length x) xs r → P p (x ∷ xs) (after x r)) →
      (p : ℕ) (xs : Entries) → P p xs (enter p xs e)
  unfolding enter
  by_entering P none here there p [] = none p
  by_entering P none here there p (x ∷ xs) =
      ⊎_elim
      (λ t. subst (P p (x ∷ xs)) (sym (enter_here p x xs t)) (here p x xs t))
      (λ t.
      subst (P p (x ∷ xs)) (sym (enter_there p x xs t))
      (there p x xs (enter (p + length x) xs e) t (by_entering P none here there (p + length x) xs)))
      (either (same x e))

  -- nothing is added, or the entry after the last one
  pub enter_adds : (p : ℕ) (xs : Entries) → ((enter p xs e).entries ≡ xs) ⊎ ((enter p xs e).entries ≡ xs ++ (e ∷ []))
  enter_adds =
      by_entering (λ p xs r. (r.entries ≡ xs) ⊎ (r.entries ≡ xs ++ (e ∷ [])))
      (λ p. inr refl)
      (λ p x xs t. inl refl)
      (λ p x xs r t h. ⊎_elim (λ a. inl (ap (λ es. x ∷ es) a)) (λ a. inr (ap (λ es. x ∷ es) a)) h)

  -- an entry stands at the place that entering it gives
  pub enter_entry : (p : ℕ) (xs : Entries) → EntryAt p (enter p xs e).entries (enter p xs e).place e
  enter_entry =
      by_entering (λ p xs r. EntryAt p r.entries r.place e)
      (λ p. record { index = 0; there = omega arith; is = refl; place = omega arith })
      (λ p x xs t. record { index = 0; there = omega arith; is = same_equal x e t; place = omega arith })
      (λ p x xs r t a.
      record {
        index = suc a.index;
        there = omega (arith, a.there);
        is = a.is;
        place = omega (arith, a.place, length-append x (joined (take a.index r.entries)));
      })

  enter_found : (p : ℕ) (xs more : Entries) →
      enter p ((enter p xs e).entries ++ more) e ≡ kept ((enter p xs e).entries ++ more) (enter p xs e).place
  enter_found p xs more =
      by_entering (λ p xs r. enter p (r.entries ++ more) e ≡ kept (r.entries ++ more) r.place)
      (λ p. enter_here p e more (same_itself e))
      (λ p x xs t. enter_here p x (xs ++ more) t)
      (λ p x xs r t h. enter_there p x (r.entries ++ more) t ∙ ap (after x) h)
      p xs

  -- what was entered is pointed to from then on
  pub enter_again : (p : ℕ) (xs ys : Entries) → Begins (enter p xs e).entries ys → enter p ys e ≡ kept ys (enter p xs e).place
  enter_again p xs ys b = subst (λ es. enter p es e ≡ kept es (enter p xs e).place) (sym b.1) (enter_found p xs b.0)

  -- entering keeps the entries, in order, and adds at most one
  pub enter_begins : (p : ℕ) (xs : Entries) → Begins xs (enter p xs e).entries
  enter_begins p xs = ⊎_elim (λ a. ([], a ∙ sym (append-nil xs))) (λ a. (e ∷ [], a)) (enter_adds p xs)

-- one value more, from where the values before it stand
pub below_more : (under : ℕ → Entries → Entered) (es : Entries) (n : ℕ) (o : Open) (r : Entered) →
    below under es n ≡ o → under n o.entries ≡ r → below under es (suc n) ≡ record { entries = r.entries; edges = extend o.edges n r.place }
unfolding below
below_more under es n o r before one =
    ap (λ (x : Open). record { entries = (under n x.entries).entries; edges = extend x.edges n (under n x.entries).place }) before
    ∙ ap (λ (x : Entered). record { entries = x.entries; edges = extend o.edges n x.place }) one

-- what all under each value keeps of the entries, the values of a level keep
pub below_keeps : (P : Entries → Type 0) (under : ℕ → Entries → Entered) (n : ℕ) →
    ((v : ℕ) → v < n → (xs : Entries) → P xs → P (under v xs).entries) → (es : Entries) → P es → P (below under es n).entries
unfolding below
below_keeps P under zero keeps es h = h
below_keeps P under (suc n) keeps es h =
    keeps n (omega arith) (below under es n).entries (below_keeps P under n (λ v l xs i. keeps v (omega arith) xs i) es h)

below_begins : (under : ℕ → Entries → Entered) → ((v : ℕ) (xs : Entries) → Begins xs (under v xs).entries) →
    (es : Entries) (n : ℕ) → Begins es (below under es n).entries
below_begins under begins es n =
    below_keeps (Begins es) under n (λ v l xs b. begins_on es xs (under v xs).entries b (begins v xs)) es (begins_itself es)

module _ (k : ℕ) where
  -- all under value v of a level, whose later fields have the maxima ms
  abbrev pub under : List ℕ → (List ℕ → Ruling) → ℕ → Entries → Entered
  under ms f v xs = walk k ms (given f v) xs

  -- a node, once the values of its level stand
  pub walk_node : (m : ℕ) (ms : List ℕ) (f : List ℕ → Ruling) (es : Entries) (o : Open) →
      below (under ms f) es (suc m) ≡ o → walk k (m ∷ ms) f es ≡ enter (header k) o.entries (node (k - length ms) o.edges)
  unfolding walk
  walk_node m ms f es o e = ap (λ (x : Open). enter (header k) x.entries (node (k - length ms) x.edges)) e

  -- a walk keeps the entries, in order, and may add others
  pub walk_begins : (ms : List ℕ) (f : List ℕ → Ruling) (es : Entries) → Begins es (walk k ms f es).entries
  unfolding walk
  walk_begins [] f es = enter_begins (terminal (f [])) (header k) es
  walk_begins (m ∷ ms) f es =
      let o = below (under ms f) es (suc m) in
      let e = node (k - length ms) o.edges in
      begins_on es o.entries (enter (header k) o.entries e).entries
      (below_begins (under ms f) (λ v xs. walk_begins ms (given f v) xs) es (suc m)) (enter_begins e (header k) o.entries)
