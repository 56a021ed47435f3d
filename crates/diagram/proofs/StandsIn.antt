-- Numbers that stand in a slice from some place on are read there: those of a terminal, and those of a node.
use mathlib.Core.Path.{◌≡◌, refl, sym, ap, ◌∙◌}
use mathlib.Core.List.{List, [], ◌∷◌, ◌++◌, append_assoc}
use Prim.Native.Nat.{ℕ, zero, suc, ◌+◌, ◌*◌, ◌<◌}
use native.Mathlib.Omega.{arith}
use lib.ListN.{length, get_or, take, drop, get_or-append}
use lib.Seq.{take-append_seam, drop-append_seam, get_or-drop, drop-drop}
use Rattle.answer.specs.Rulings.{Ruling}
use Rattle.diagram.specs.Layout.{number_at, level_at, decision_at, count_at, card_at, edges_at, last_at, child_at}
use Rattle.diagram.specs.Entries.{terminal, Edge, edge_numbers, node}
use Rattle.diagram.specs.LookUp.{ruling_at}

-- the numbers e stand in d from place p on
pub record Stands (d : List ℕ) (p : ℕ) (e : List ℕ) : Type 0 where
  pub rest : List ℕ
  pub is : drop p d ≡ e ++ rest

module _ (d : List ℕ) (p : ℕ) where
  -- of numbers that stand from p on each is read in its place
  pub stands_read : (e : List ℕ) (i : ℕ) → Stands d p e → i < length e → number_at d (p + i) ≡ number_at e i
  stands_read e i s l = sym (get_or-drop p d i 0) ∙ ap (λ x. number_at x i) s.is ∙ get_or-append e s.rest 0 i l

  -- the first of numbers that stand from p on is read at p
  pub stands_first : (e : List ℕ) → Stands d p e → 0 < length e → number_at d p ≡ number_at e 0
  stands_first e s l = let z : p ≡ p + 0 = omega arith in ap (number_at d) z ∙ stands_read e 0 s l

  -- numbers after others stand further on
  pub stands_later : (x y : List ℕ) → Stands d p (x ++ y) → Stands d (p + length x) y
  stands_later x y s = record {
    rest = s.rest;
    is =
        sym (drop-drop (length x) p d)
        ∙ ap (drop (length x)) (s.is ∙ append_assoc x y s.rest)
        ∙ drop-append_seam x (y ++ s.rest);
  }

  -- numbers that stand from p on are what is taken there
  pub stands_taken : (e : List ℕ) → Stands d p e → take (length e) (drop p d) ≡ e
  stands_taken e s = ap (take (length e)) s.is ∙ take-append_seam e s.rest

-- what is read where a terminal stands
module _ (d : List ℕ) (p : ℕ) (r : Ruling) (s : Stands d p (terminal r)) where
  pub terminal_level : level_at d p ≡ 0
  unfolding terminal
  terminal_level = stands_first d p (terminal r) s (omega arith)

  pub terminal_decision : decision_at d p ≡ r.decision
  unfolding terminal
  terminal_decision = stands_read d p (terminal r) 1 s (omega arith)

  pub terminal_count : count_at d p ≡ length r.cards
  unfolding terminal
  terminal_count = stands_read d p (terminal r) 2 s (omega arith)

  cards_stand : Stands d (p + 3) r.cards
  unfolding terminal
  cards_stand = stands_later d p (0 ∷ r.decision ∷ length r.cards ∷ []) r.cards s

  pub terminal_card : (i : ℕ) → i < length r.cards → card_at d p i ≡ get_or r.cards i 0
  terminal_card i l = stands_read d (p + 3) r.cards i cards_stand l

  pub terminal_ruling : ruling_at d p ≡ r
  terminal_ruling =
      let cs : take (count_at d p) (drop (p + 3) d) ≡ r.cards =
      ap (λ n. take n (drop (p + 3) d)) terminal_count ∙ stands_taken d (p + 3) r.cards cards_stand in
      λ i. record { decision = terminal_decision i; cards = cs i }

-- edge j of a list of edges
abbrev pub edge_of : List Edge → ℕ → Edge
edge_of es j = get_or es j (record { last = 0; child = 0 })

-- two numbers for each edge
pub edge_numbers_length : (es : List Edge) → length (edge_numbers es) ≡ 2 * length es
edge_numbers_length [] = refl
edge_numbers_length (e ∷ es) = omega (arith, edge_numbers_length es)

-- the two numbers of edge j
read_edge : (es : List Edge) (j : ℕ) →
    (number_at (edge_numbers es) (2 * j) ≡ (edge_of es j).last) × (number_at (edge_numbers es) (suc (2 * j)) ≡ (edge_of es j).child)
read_edge [] j = (refl, refl)
read_edge (e ∷ es) zero = (refl, refl)
read_edge (e ∷ es) (suc j) =
    let z : 2 * suc j ≡ suc (suc (2 * j)) = omega arith in
    rw z (read_edge es j)

-- what is read where a node stands
module _ (d : List ℕ) (p level : ℕ) (es : List Edge) (s : Stands d p (node level es)) where
  pub node_level : level_at d p ≡ level
  unfolding node
  node_level = stands_first d p (node level es) s (omega arith)

  pub node_edges : edges_at d p ≡ length es
  unfolding node
  node_edges = stands_read d p (node level es) 1 s (omega arith)

  edges_stand : Stands d (p + 2) (edge_numbers es)
  unfolding node
  edges_stand = stands_later d p (level ∷ length es ∷ []) (edge_numbers es) s

  pub node_last : (j : ℕ) → j < length es → last_at d p j ≡ (edge_of es j).last
  node_last j l = stands_read d (p + 2) (edge_numbers es) (2 * j) edges_stand (omega (arith, edge_numbers_length es)) ∙ (read_edge es j).0

  pub node_child : (j : ℕ) → j < length es → child_at d p j ≡ (edge_of es j).child
  node_child j l =
      let z : p + 3 + 2 * j ≡ p + 2 + suc (2 * j) = omega arith in
      ap (number_at d) z
      ∙ stands_read d (p + 2) (edge_numbers es) (suc (2 * j)) edges_stand (omega (arith, edge_numbers_length es))
      ∙ (read_edge es j).1
