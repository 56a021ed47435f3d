-- The combining table against the four ways: one computed test over all kinds of groups, running decisions and children, which covers exactly the
-- rows of the table, gives the rule at each entry.
use mathlib.Core.Path.{◌≡◌, refl, sym, subst}
use mathlib.Core.Bool.{Bool, true, false, cond, not, ◌&&◌}
use mathlib.Core.List.{List}
use mathlib.Core.Logic.{⊎_elim}
use Prim.Native.Nat.{ℕ, zero, suc, ◌<◌}
use native.Mathlib.Nat.{le_of_suc-le-suc, not-suc-le-zero, eq-or-lt_of_le}
use lib.Dec.{T, eqb, eqb→eq, ltb, ltb→lt, lit<}
use Rattle.combining.specs.Kinds.{deny_overrides_kind}
use Rattle.combining.specs.Ways.{not_applicable, indeterminate, Child, as_child, step, NeverIndeterminate}
use Rattle.combining.specs.Running.{so_far, Takes}
use Rattle.combining.specs.Table.{row_of, entry, Combines}
use Rattle.combining.specs.declared.Running.{Running}

-- the test f passes at each number below n
abbrev pub below : ℕ → (ℕ → Bool) → Bool
below zero f = true
below (suc n) f = f 0 && below n (λ i. f (suc i))

left : (a b : Bool) → T (a && b) → T a
left true b t = tt
left false b t = t

right : (a b : Bool) → T (a && b) → T b
right true b t = t
right false b t = absurd t

at : (n : ℕ) (f : ℕ → Bool) → T (below n f) → (i : ℕ) → i < n → T (f i)
at zero f t i h = absurd (not-suc-le-zero h)
at (suc n) f t zero h = left (f 0) (below n (λ i. f (suc i))) t
at (suc n) f t (suc i) h = at n (λ i. f (suc i)) (right (f 0) (below n (λ i. f (suc i))) t) i (le_of_suc-le-suc h)

-- the test f passes at each child of one of the first n decisions, which counts or not
abbrev pub each_child : ℕ → (Child → Bool) → Bool
each_child n f = below n (λ d. f (as_child d true) && f (as_child d false))

at_child : (n : ℕ) (f : Child → Bool) → T (each_child n f) → (d : ℕ) (counts : Bool) → d < n → T (f (as_child d counts))
at_child n f t d true h = left (f (as_child d true)) (f (as_child d false)) (at n (λ d. f (as_child d true) && f (as_child d false)) t d h)
at_child n f t d false h = right (f (as_child d true)) (f (as_child d false)) (at n (λ d. f (as_child d true) && f (as_child d false)) t d h)

-- the test f passes at each kind k of group, each of its first `runnings k` running decisions, and each child
abbrev pub everywhere : (ℕ → ℕ) → (ℕ → Child → Child → Bool) → Bool
everywhere runnings f = below 4 (λ k. each_child (runnings k) (λ r. each_child 4 (f k r)))

pub passes : (runnings : ℕ → ℕ) (f : ℕ → Child → Child → Bool) → T (everywhere runnings f) →
    (k : ℕ) (r c : Child) → k < 4 → r.decision < runnings k → c.decision < 4 → T (f k r c)
passes runnings f ok k r c hk hr hc =
    at_child 4 (f k r)
    (at_child (runnings k) (λ r. each_child 4 (f k r)) (at 4 (λ k. each_child (runnings k) (λ r. each_child 4 (f k r))) ok k hk) r.decision r.counts hr)
    c.decision c.counts hc

-- how many running decisions a kind of group has, from not applicable on: under deny overrides those before indeterminate
abbrev pub runnings_of : ℕ → ℕ
runnings_of k = cond (eqb k deny_overrides_kind) indeterminate 4

pub running_below : (k d : ℕ) → d < 4 → NeverIndeterminate k d → d < runnings_of k
running_below k d l h = by (eqb k deny_overrides_kind) refl
  where
    by : (b : Bool) → eqb k deny_overrides_kind ≡ b → d < cond b indeterminate 4
    by true e =
        ⊎_elim (λ (same : d ≡ indeterminate). absurd (h (eqb→eq k deny_overrides_kind (subst T (sym e) tt)) same)) (λ (less : d < indeterminate). less)
        (eq-or-lt_of_le (le_of_suc-le-suc l))
    by false e = l

-- a running decision of a kind of group
abbrev pub running : ℕ → Child → Running
running k r = record { kind = k; decision = r.decision; counted = r.counts }

-- the test of a table's entry: it is the step of its place
abbrev pub correct : List (List ℕ) → ℕ → Child → Child → Bool
correct t k r c = eqb (entry t (running k r) c) (step k r c).decision

-- what is tested are rows of the table
pub row_below : (k d : ℕ) (counted counts : Bool) → k < 4 → d < runnings_of k → row_of k d counted counts < 27
row_below k d counted counts hk hd =
    ltb→lt (row_of k d counted counts) 27
    (passes runnings_of (λ k r c. ltb (row_of k r.decision r.counts c.counts) 27) tt k (as_child d counted) (as_child not_applicable counts) hk hd (lit< tt))

-- and every row is tested: none of the 27 differs from all that are
every_row : T (below 27 (λ i. not (everywhere runnings_of (λ k r c. not (eqb (row_of k r.decision r.counts c.counts) i)))))
every_row = tt

each : (t : List (List ℕ)) → T (everywhere runnings_of (correct t)) → (r : Running) (c : Child) → Takes r c →
    entry t r c ≡ (step r.kind (so_far r) c).decision
each t ok r c h =
    let s = h.reachable in
    eqb→eq (entry t r c) (step r.kind (so_far r) c).decision
    (passes runnings_of (correct t) ok r.kind (so_far r) c s.group (running_below r.kind r.decision s.one_of_four s.never_indeterminate)
    h.one_of_four)

pub combines : (t : List (List ℕ)) → T (everywhere runnings_of (correct t)) → Combines t
combines t ok = record { each = each t ok }
