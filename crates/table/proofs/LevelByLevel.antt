-- The pass over the nodes that looks for one on the last level: what it holds before each node, and how it goes on.
use mathlib.Core.Path.{◌≡◌, refl, sym, ap, ◌∙◌}
use mathlib.Core.Bool.{true, false}
use mathlib.Core.Logic.{⊎_elim}
use mathlib.Core.List.{List}
use Prim.Native.Nat.{ℕ, ◌+◌, ◌≤◌, ◌<◌}
use native.Mathlib.Nat.{eq-zero-or-pos}
use native.Mathlib.Omega.{arith}
use borrow.Author.Count.{below_more}
use borrow.Author.Tests.{le-leb, lt-leb}
use lib.Dec.{leb}
use lib.ListN.{length, set, length-set}
use Rattle.answer.proofs.Below.{some_where, some_none}
use Rattle.encoding.specs.Layout.{count, span}
use Rattle.table.specs.Tree.{end_of, level, has_level}
use Rattle.table.specs.Open.{deepest}
use Rattle.table.specs.WellFormed.{WellFormed}
use Rattle.table.proofs.Climb.{After, ParentOpen, climbed, opened, after_opened, after_leaf, level_below}

module _ (t : List ℕ) where
  -- Before node i: no node before it is on the last level, and the list is of the nodes that are open.
  pub record Searched (ends : List ℕ) (depth i : ℕ) : Type 0 where
    pub few : depth ≤ 8
    pub size : length ends ≡ 9
    pub first : i ≡ 0 → depth ≡ 0
    pub last : 0 < i → i < count t → After t ends (λ _. Unit {0}) depth i
    pub before : (j : ℕ) → j < i → level t j < 8

  pub start : (ends : List ℕ) → length ends ≡ 9 → Searched ends 0 0
  start ends s = record {
    few = omega arith;
    size = s;
    first = λ _. refl;
    last = λ l. absurd (omega arith);
    before = λ j l. absurd (omega arith);
  }

  module _ (w : WellFormed t) {ends : List ℕ} {depth i : ℕ} (s : Searched ends depth i) where
    -- no node is on the last level
    pub not_found : count t ≤ i → false ≡ has_level t 8
    unfolding has_level
    not_found l =
        sym (some_none (λ j. leb 8 (level t j)) (count t) (λ j m. lt-leb 8 (level t j) (s.before j (omega arith))))

    module _ (l : i < count t) {r : ℕ} (e : r ≡ deepest ends i depth) where
      up : 0 < i → ParentOpen t ends (λ _. Unit {0}) r i
      up h = climbed t ends (λ _. Unit {0}) (λ q a u x. x) depth r i (s.last h l) (omega (arith, w.root)) e

      on_level : level t i ≡ r + 1
      on_level = level_below t r i (λ z. e ∙ ap (deepest ends i) (s.first z)) (λ h. (up h).0)

      -- node i is on the last level
      pub found : 8 ≤ r + 1 → true ≡ has_level t 8
      unfolding has_level
      found h = sym (some_where (λ j. leb 8 (level t j)) (count t) i l (le-leb 8 (level t i) (omega (arith, on_level))))

      module _ (h : r + 1 < 8) where
        went_on : (ends' : List ℕ) (depth' : ℕ) → depth' ≤ 8 → length ends' ≡ 9 → (i + 1 < count t → After t ends' (λ _. Unit {0}) depth' (i + 1)) →
            Searched ends' depth' (i + 1)
        went_on ends' depth' few size after = record {
          few = few;
          size = size;
          first = λ z. absurd (omega arith);
          last = λ _. after;
          before = below_more (λ j. level t j < 8) i s.before (omega (arith, on_level));
        }

        -- node i holds something, and is opened
        pub next_opened : (end : ℕ) → end ≡ end_of t i → Searched (set ends (r + 1) end) (r + 1) (i + 1)
        next_opened end ee =
            went_on (set ends (r + 1) end) (r + 1) (omega arith) (length-set ends (r + 1) end ∙ s.size)
            (λ m.
            after_opened t (set ends (r + 1) end) (λ _. Unit {0}) r i on_level
            (opened t (end_of t) 0 ends i r end s.size on_level (omega arith) ee (λ k. (up k).1.0)) tt)

        -- node i holds nothing
        pub next : span t i ≤ 1 → Searched ends r (i + 1)
        next small =
            went_on ends r (omega arith) s.size
            (λ m.
            ⊎_elim
            (λ (z : i ≡ 0). absurd (omega (arith, w.root, ap (span t) z)))
            (λ (k : 0 < i). after_leaf t ends (λ _. Unit {0}) r i k small (up k))
            (eq-zero-or-pos i))
