-- The children of a group, ruled one after another, for any test of which nodes apply: those that do not are stepped over, and change nothing.
use mathlib.Core.Path.{◌≡◌, sym, ◌∙◌}
use mathlib.Core.Bool.{Bool, true, false}
use mathlib.Core.List.{List}
use Prim.Native.Nat.{ℕ, ◌+◌, ◌≤◌, ◌<◌}
use native.Mathlib.Omega.{arith}
use Rattle.combining.specs.Ways.{as_child, way}
use Rattle.combining.specs.Running.{Reachable, Started, Taken}
use Rattle.combining.specs.declared.Running.{Running}
use Rattle.encoding.specs.Layout.{count, span}
use Rattle.table.specs.Tree.{end_of}
use Rattle.table.specs.WellFormed.{WellFormed}
use Rattle.ruling.specs.Forest.{run}
use Rattle.ruling.specs.Meaning.{children, decision}
use Rattle.ruling.specs.Walk.{ChildRun, Gathered}
use Rattle.ruling.proofs.Decisions.{over, over_start, over_none, over_more, over_skip}
use Rattle.ruling.proofs.Steps.{rest, gathered_not, gathered_none, gathered_more}

-- What holds before node i, of the children from start up to end of a group of a kind: the way of the running decision r, node i and those after it
-- is the way of all; the cards of those before it were counted from m to n, and stored in a list that was `old`.
pub record Before (a : ℕ → Bool) (t : List ℕ) (kind start end m : ℕ) (old : List ℕ) (i : ℕ) (r : Running) (n : ℕ) (list : List ℕ) : Type 0 where
  pub reachable : Reachable r
  pub later : start ≤ i
  pub ahead : ChildRun t i end n
  pub left : way kind (children a t (run t start end)) ≡ over a t r i end
  pub stored : Gathered a t start i m n old list

module _ {a : ℕ → Bool} {t : List ℕ} (w : WellFormed t) where
  -- the first child
  pub before_first : {kind start end m : ℕ} {r : Running} {list : List ℕ} → ChildRun t start end m → Started kind r →
      Before a t kind start end m list start r m list
  before_first {kind} {start} {end} {m} {r} {list} h s = record {
    reachable = s.reachable;
    later = omega arith;
    ahead = h;
    left = over_start a t start end s;
    stored = gathered_none a t w start start m list (omega arith);
  }

  module _ {kind start end m i n : ℕ} {r : Running} {old list : List ℕ} (b : Before a t kind start end m old i r n list) where
    -- no child is left
    pub before_end : end ≤ i → (r.decision ≡ way kind (children a t (run t start end))) × Gathered a t start end m n old list
    before_end l =
        let z : i ≡ end = omega (arith, b.ahead.order) in
        (sym (b.left ∙ over_none a t w b.reachable i end l), rw z at b.stored)

    module _ (l : i < end) where
      -- a child is a node of the table, and ends no later than all
      pub before_some : i < count t
      before_some = omega (arith, b.ahead.whole.inside)

      pub before_within : end_of t i ≤ end
      before_within = b.ahead.whole.each i (omega arith) l

      module _ {s : ℕ} (es : s ≡ span t i) where
        -- one child further on
        on : {n' : ℕ} {r' : Running} {list' : List ℕ} → Reachable r' → Gathered a t i (i + s) n n' list list' →
            over a t r i end ≡ over a t r' (i + s) end → Before a t kind start end m old (i + s) r' n' list'
        on {n'} {r'} {list'} h g e = record {
          reachable = h;
          later = omega (arith, b.later);
          ahead = rest a t w i end (i + s) n n' list list' l (omega arith) b.ahead g;
          left = b.left ∙ e;
          stored = gathered_more a t w start i (i + s) m n n' old list list' b.later (omega arith) b.stored g;
        }

        -- the next child, once this one was ruled and taken in
        pub before_next : {d n' : ℕ} {r' : Running} {list' : List ℕ} → a i ≡ true → d ≡ decision a t i → Taken r (as_child d true) r' →
            Gathered a t i (i + s) n n' list list' → Before a t kind start end m old (i + s) r' n' list'
        before_next h ed k g =
            on k.reachable g (over_more a t w b.reachable b.ahead.whole l (omega arith) h ed k)

        -- the next child, where this one and all under it do not apply
        pub before_skipped : ((m : ℕ) → i ≤ m → m < end_of t i → a m ≡ false) → Before a t kind start end m old (i + s) r n list
        before_skipped h =
            on b.reachable (gathered_not a t w i (i + s) n list (λ m x y. h m x (omega arith)))
            (over_skip a t w b.reachable b.ahead.whole l (omega arith) (h i (omega arith) (omega (arith, w.spans i before_some))))
