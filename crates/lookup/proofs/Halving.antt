-- The edges of a sound node rise, so that the edge of a value is where those below the value end.
use Rattle.std.proofs.Common.{◌≡◌, sym, ap, ◌∙◌, subst, ⊎_elim, true, false, List, [], ℕ, zero, suc, ◌-◌, ◌≤◌, ◌<◌, arith, add-one, ltb, get_or, length, ltb-true, ltb-false}
use Rattle.std.specs.List.Sorted.{IsPartitionPoint, IsPartitionedBy}
use Rattle.std.proofs.lemmas.List.Sorted.{IsNonDecreasingBy-from_default, IsPartitionedBy-ltb}
use native.Mathlib.Nat.{eq-or-lt_of_le}
use Rattle.diagram.specs.Layout.{maximum, level_at, edges_at, last_at, edge_at}
use Rattle.diagram.specs.LookUp.{edge}
use Rattle.diagram.specs.Sound.{SoundNode}
use Rattle.diagram.specs.Decided.{lt?}
use Rattle.diagram.proofs.FirstEdge.{edge_is}

-- a number that was read is that of its place
pub read_at : (d : List ℕ) (i n : ℕ) → n ≡ get_or d i 0 → (j : ℕ) → i ≡ j → n ≡ get_or d j 0
read_at d i n e j h = e ∙ ap (λ k. get_or d k 0) h

-- the last value of an edge, a pair with its child's place
abbrev pub last_of : List ℕ → ℕ
last_of e = get_or e 0 0

module _ (k : ℕ) (d : List ℕ) (p v : ℕ) (s : SoundNode k d p) where
  -- a later edge ends later
  pub last_rises : (i j : ℕ) → i ≤ j → j < edges_at d p → last_at d p i ≤ last_at d p j
  last_rises i zero h g = let e : 0 ≡ i = omega arith in subst (λ (n : ℕ). last_at d p n ≤ last_at d p 0) e (omega arith)
  last_rises i (suc j) h g =
      ⊎_elim
      (λ (e : i ≡ suc j). subst (λ (n : ℕ). last_at d p i ≤ last_at d p n) e (omega arith))
      (λ (l : i < suc j).
      let a : last_at d p i ≤ last_at d p j = last_rises i j (omega arith) (omega arith) in
      omega (arith, s.rising j (omega arith), ap (last_at d p) (add-one j)))
      (eq-or-lt_of_le h)

  module _ (edges : List (List ℕ)) (n : length edges ≡ edges_at d p) (each : (j : ℕ) → j < edges_at d p → get_or edges j [] ≡ edge_at d p j) where
    last_is : (j : ℕ) → j < edges_at d p → last_of (get_or edges j []) ≡ last_at d p j
    last_is j h = ap last_of (each j h)

    -- those below the value stand first
    pub edges_parted : IsPartitionedBy (λ e. ltb (last_of e) v) edges
    edges_parted =
        IsPartitionedBy-ltb last_of edges v
        (IsNonDecreasingBy-from_default last_of edges []
        (λ i j h l. omega (arith, last_is i (omega arith), last_is j (omega arith), last_rises i j h (omega arith))))

    -- and where they end, the edge of the value is
    pub part_is_edge : (i : ℕ) → i ≤ length edges → IsPartitionPoint (λ e. ltb (last_of e) v ≡ true) (λ e. ltb (last_of e) v ≡ false) edges i →
        v ≤ maximum d (level_at d p - 1) → (i ≡ edge d p v) × (i < edges_at d p)
    part_is_edge i most h within =
        let before : (j : ℕ) → j < i → last_at d p j < v = λ j l.
        omega (arith, last_is j (omega arith), ltb-true (last_of (get_or edges j [])) v (h.0 j [] (omega arith) l)) in
        let real : i < edges_at d p =
        ⊎_elim
        (λ (l : i < edges_at d p). l)
        (λ (n : i < edges_at d p → ⊥). absurd (omega (arith, n, before (edges_at d p - 1) (omega (arith, n, s.some_edge)), s.ending)))
        (lt? i (edges_at d p)) in
        let stops : i < edges_at d p → v ≤ last_at d p i = λ l.
        omega (arith, last_is i l, ltb-false (last_of (get_or edges i [])) v (h.1 i [] (omega arith) (omega arith))) in
        (sym (edge_is d p v i (omega arith) before stops), real)
