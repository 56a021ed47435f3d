-- Reading in one pass: the ends of the open nodes, one for each level, give each node's parent by climbing from the deepest of them.
use mathlib.Core.Path.{◌≡◌, sym, ap, ◌∙◌}
use mathlib.Core.Bool.{cond}
use mathlib.Core.Logic.{⊎_elim}
use mathlib.Core.List.{List}
use Prim.Native.Nat.{ℕ, zero, suc, ◌+◌, ◌-◌, ◌≤◌, ◌<◌}
use native.Mathlib.Nat.{eq-zero-or-pos}
use native.Mathlib.Numerals.{add-one}
use native.Mathlib.Omega.{arith}
use borrow.Author.Tests.{lt-ltb, le-ltb}
use lib.ListN.{length, get_or, set}
use lib.Seq.{get_or-set_same, get_or-set_other}
use Rattle.answer.proofs.Tests.{lt_or_ge}
use Rattle.encoding.specs.Layout.{span}
use Rattle.table.specs.Tree.{end_of, latest, parent, level, Above, itself, further}
use Rattle.table.specs.Open.{deepest}
use Rattle.table.proofs.Tree.{latest_here, latest_next, latest_climb, parent_below, level_root, level_child, above_trans, above_parent, above_level, above_earlier}

module _ (ends : List ℕ) (i : ℕ) where
  pub deepest_here : (d : ℕ) → 0 < d → i < get_or ends d 0 → deepest ends i d ≡ d
  deepest_here zero l h = absurd (omega arith)
  deepest_here (suc d) l h = ap (λ b. cond b (suc d) (deepest ends i d)) (lt-ltb i (get_or ends (suc d) 0) h)

  pub deepest_next : (d : ℕ) → 0 < d → get_or ends d 0 ≤ i → deepest ends i d ≡ deepest ends i (d - 1)
  deepest_next zero l h = absurd (omega arith)
  deepest_next (suc d) l h =
      let z : d ≡ suc d - 1 = omega arith in
      ap (λ b. cond b (suc d) (deepest ends i d)) (le-ltb i (get_or ends (suc d) 0) h) ∙ ap (deepest ends i) z

-- The list holds, at its level, what f gives of node q and of each node above it.
pub record Open {A : Type 0} (t : List ℕ) (f : ℕ → A) (none : A) (xs : List A) (q : ℕ) : Type 0 where
  pub held : (a : ℕ) → Above t q a → get_or xs (level t a) none ≡ f a

-- it then does so of each node above q
pub open_above : {A : Type 0} (t : List ℕ) (f : ℕ → A) (none : A) (xs : List A) {q a : ℕ} → Open t f none xs q → Above t q a → Open t f none xs a
open_above t f none xs o u = record { held = λ b v. o.held b (above_trans t u v) }

-- a node's level is at least 1
level_positive : (t : List ℕ) (i : ℕ) → 0 < level t i
level_positive t i =
    ⊎_elim (λ (z : i ≡ 0). omega (arith, ap (level t) z, level_root t)) (λ (l : 0 < i). omega (arith, level_child t i l)) (eq-zero-or-pos i)

module _ (t ends : List ℕ) (i q : ℕ) (o : Open t (end_of t) 0 ends q) (earlier : q < i) (reach : i < end_of t 0) where
  -- Climbing from node j, which is q or above it, finds the parent of node i.
  climb_by : (m j : ℕ) → j < m → Above t q j → latest t i i ≡ latest t i (suc j) →
      (deepest ends i (level t j) ≡ level t (parent t i)) × Above t q (parent t i)
  unfolding parent
  climb_by zero j l u e = absurd (omega arith)
  climb_by (suc m) j l u e =
      ⊎_elim
      (λ (h : i < end_of t j).
      let q : parent t i ≡ j = e ∙ latest_here t i j h in (
        deepest_here ends i (level t j) (level_positive t j) (rw (o.held j u) h) ∙ ap (level t) (sym q),
        rw q u,
      ))
      (λ (h : end_of t j ≤ i).
      ⊎_elim
      (λ (z : j ≡ 0). absurd (omega (arith, ap (span t) z)))
      (λ (k : 0 < j).
      let d : level t j - 1 ≡ level t (parent t j) = omega (arith, level_child t j k) in
      let r =
      climb_by m (parent t j) (omega (arith, parent_below t j k)) (above_parent t u k)
      (e ∙ latest_next t i j h ∙ latest_climb t i j k (omega (arith, above_earlier t u))) in
      (deepest_next ends i (level t j) (level_positive t j) (rw (o.held j u) h) ∙ ap (deepest ends i) d ∙ r.0, r.1))
      (eq-zero-or-pos j))
      (lt_or_ge i (end_of t j))

  -- no node after q reaches over node i
  climb : latest t i i ≡ latest t i (suc q) → (deepest ends i (level t q) ≡ level t (parent t i)) × Above t q (parent t i)
  climb = climb_by (suc q) q (omega arith) itself

-- Before node i, which is not the root: node q, on level depth, is the deepest that was opened and may reach further, the list is of the ends of it
-- and of those above it, and X holds of it.
pub record After (t ends : List ℕ) (X : ℕ → Type 0) (depth i : ℕ) : Type 0 where
  pub q : ℕ
  pub earlier : q < i
  pub over : latest t i i ≡ latest t i (suc q)
  pub on : depth ≡ level t q
  pub ends_open : Open t (end_of t) 0 ends q
  pub more : X q

-- The parent of node i is open, on level r, and X holds of it.
abbrev pub ParentOpen : List ℕ → List ℕ → (ℕ → Type 0) → ℕ → ℕ → Type 0
ParentOpen t ends X r i = (r ≡ level t (parent t i)) × (Open t (end_of t) 0 ends (parent t i) × X (parent t i))

-- it is found by climbing, where X holds of each node above one of which it holds
pub climbed : (t ends : List ℕ) (X : ℕ → Type 0) → ((q a : ℕ) → Above t q a → X q → X a) → (depth r i : ℕ) → After t ends X depth i →
    i < end_of t 0 → r ≡ deepest ends i depth → ParentOpen t ends X r i
climbed t ends X closed depth r i a l e =
    let c = climb t ends i a.q a.ends_open a.earlier l a.over in (
      e ∙ ap (deepest ends i) a.on ∙ c.0,
      (open_above t (end_of t) 0 ends a.ends_open c.1, closed a.q (parent t i) c.1 a.more),
    )

-- with what f gives of node i, on level r + 1, a list that holds what it gives of the nodes above holds it of node i too
pub opened : {A : Type 0} (t : List ℕ) (f : ℕ → A) (none : A) (xs : List A) (i r : ℕ) (v : A) → length xs ≡ 9 → level t i ≡ r + 1 → r < 8 →
    v ≡ f i → (0 < i → Open t f none xs (parent t i)) → Open t f none (set xs (r + 1) v) i
opened t f none xs i r v s el lr e o = record { held = held }
  where
    held : (a : ℕ) → Above t i a → get_or (set xs (r + 1) v) (level t a) none ≡ f a
    held a itself = ap (λ k. get_or (set xs (r + 1) v) k none) el ∙ get_or-set_same xs (r + 1) v none (omega arith) ∙ e
    held a (further h u) =
        get_or-set_other xs (r + 1) (level t a) v none (λ q. omega (arith, above_level t u, level_child t i h)) ∙ (o h).held a u

-- the node after node i, where node i was opened, or holds nothing and its parent stays the deepest that is open
module _ (t ends : List ℕ) (X : ℕ → Type 0) (r i : ℕ) where
  pub after_opened : level t i ≡ r + 1 → Open t (end_of t) 0 ends i → X i → After t ends X (r + 1) (i + 1)
  after_opened e o x = record {
    q = i;
    earlier = omega arith;
    over = ap (latest t (i + 1)) (add-one i);
    on = sym e;
    ends_open = o;
    more = x;
  }

  pub after_leaf : 0 < i → span t i ≤ 1 → ParentOpen t ends X r i → After t ends X r (i + 1)
  after_leaf k h p = record {
    q = parent t i;
    earlier = omega (arith, parent_below t i k);
    over = ap (latest t (i + 1)) (add-one i) ∙ latest_next t (i + 1) i (omega arith) ∙ latest_climb t (i + 1) i k (omega arith);
    on = p.0;
    ends_open = p.1.0;
    more = p.1.1;
  }

-- node i is one level below the level that the climb finds, which is 0 for the root
pub level_below : (t : List ℕ) (r i : ℕ) → (i ≡ 0 → r ≡ 0) → (0 < i → r ≡ level t (parent t i)) → level t i ≡ r + 1
level_below t r i root child =
    ⊎_elim
    (λ (z : i ≡ 0). omega (arith, ap (level t) z, level_root t, root z))
    (λ (l : 0 < i). omega (arith, level_child t i l, child l))
    (eq-zero-or-pos i)
