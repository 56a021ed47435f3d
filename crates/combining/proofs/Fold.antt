-- A running decision that takes in one child after another ends at the way of the whole list.
use mathlib.Core.Path.{◌≡◌, refl, sym, ◌∙◌}
use mathlib.Core.Bool.{Bool, true, false}
use mathlib.Core.List.{List, [], ◌∷◌}
use Prim.Native.Nat.{ℕ, zero, suc, ◌<◌}
use native.Mathlib.Nat.{le_of_suc-le-suc, not-suc-le-zero}
use lib.Dec.{ltb, ltb→lt, lit<}
use Rattle.combining.specs.Ways.{not_applicable, indeterminate, Child, as_child, absent, counting, sole, way, step, taken}
use Rattle.combining.proofs.Table.{passes}

-- P holds of each number below n
abbrev pub Each : ℕ → (ℕ → Type 0) → Type 0
Each zero P = Unit {0}
Each (suc n) P = P 0 × Each n (λ i. P (suc i))

pub pick : (n : ℕ) (P : ℕ → Type 0) → Each n P → (i : ℕ) → i < n → P i
pick zero P ps i h = absurd (not-suc-le-zero h)
pick (suc n) P ps zero h = ps.0
pick (suc n) P ps (suc i) h = pick n (λ i. P (suc i)) ps.1 i (le_of_suc-le-suc h)

-- indeterminate in front stays
stays : (ds : List ℕ) → sole (indeterminate ∷ ds) ≡ indeterminate
stays [] = refl
stays (d ∷ ds) = refl

-- a running decision and a child may be replaced by their step
abbrev Pair : List Child → Bool → Bool → ℕ → ℕ → ℕ → Type 0
Pair cs b e k r d = way k (step k (as_child r b) (as_child d e) ∷ cs) ≡ way k (as_child r b ∷ as_child d e ∷ cs)

-- at each kind and two decisions, counted or not, this computes, whatever follows
pairs : (cs : List Child) (b e : Bool) → Each 4 (λ k. Each 4 (λ r. Each 4 (Pair cs b e k r)))
pairs cs true true = search (stays (counting cs)) depth 16
pairs cs true false = search depth 16
pairs cs false true = search depth 16
pairs cs false false = search depth 16

pub pair : (cs : List Child) (k : ℕ) (r c : Child) → k < 4 → r.decision < 4 → c.decision < 4 → way k (step k r c ∷ cs) ≡ way k (r ∷ c ∷ cs)
pair cs k r c hk hr hc =
    pick 4 (At k r.decision) (pick 4 (λ r. Each 4 (At k r)) (pick 4 (λ k. Each 4 (λ r. Each 4 (At k r))) (pairs cs r.counts c.counts) k hk) r.decision hr) c.decision hc
  where
    At : ℕ → ℕ → ℕ → Type 0
    At = Pair cs r.counts c.counts

-- none that does not count changes nothing, in front of the others
pub absent_first : (k : ℕ) (cs : List Child) → k < 4 → way k (absent ∷ cs) ≡ way k cs
absent_first k cs h = pick 4 (λ k. way k (absent ∷ cs) ≡ way k cs) (search) k h

-- none that does not count changes nothing, after a running decision
pub absent_next : (k : ℕ) (r : Child) (cs : List Child) → k < 4 → way k (r ∷ absent ∷ cs) ≡ way k (r ∷ cs)
absent_next k r cs h = pick 4 (λ k. way k (r ∷ absent ∷ cs) ≡ way k (r ∷ cs)) (search depth 16) k h

-- no child at all: not applicable
pub way_none : (k : ℕ) → k < 4 → way k [] ≡ not_applicable
way_none = pick 4 (λ k. way k [] ≡ not_applicable) (search)

-- Children that a group can have: "(0 to 3 each)"
pub data OneOfFour : List Child → Type 0 where
  none : OneOfFour []
  more : {c : Child} {cs : List Child} → c.decision < 4 → OneOfFour cs → OneOfFour (c ∷ cs)

-- a step ends at a decision
pub step_below : (k : ℕ) (r c : Child) → k < 4 → r.decision < 4 → c.decision < 4 → (step k r c).decision < 4
step_below k r c hk hr hc = ltb→lt (step k r c).decision 4 (passes (λ _. 4) (λ k r c. ltb (step k r c).decision 4) tt k r c hk hr hc)

-- from a running decision that its way keeps: the way of the list with it in front
from : (k : ℕ) (r : Child) {cs : List Child} → k < 4 → r.decision < 4 → way k (r ∷ []) ≡ r.decision → OneOfFour cs →
    (taken k r cs).decision ≡ way k (r ∷ cs)
from k r hk hr e none = sym e
from k r hk hr e (more {c} {cs} hc h) =
    from k (step k r c) hk (step_below k r c hk hr hc) (pair [] k r c hk hr hc) h
    ∙ pair cs k r c hk hr hc

-- from none, and none that counted, one child after another: the way of the list
pub folds : (k : ℕ) (cs : List Child) → k < 4 → OneOfFour cs → (taken k absent cs).decision ≡ way k cs
folds k cs hk h =
    from k absent hk (lit< tt) (absent_first k [] hk ∙ way_none k hk) h
    ∙ absent_first k cs hk

-- a running decision stays a decision
taken_below : (k : ℕ) (r : Child) {cs : List Child} → k < 4 → r.decision < 4 → OneOfFour cs → (taken k r cs).decision < 4
taken_below k r hk hr none = hr
taken_below k r hk hr (more {c} hc h) = taken_below k (step k r c) hk (step_below k r c hk hr hc) h

-- the way of children is a decision
pub way_below : (k : ℕ) (cs : List Child) → k < 4 → OneOfFour cs → way k cs < 4
way_below k cs hk h = rw (sym (folds k cs hk h)) (taken_below k absent hk (lit< tt) h)
