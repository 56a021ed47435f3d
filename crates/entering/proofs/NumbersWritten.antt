-- An entry's numbers, written one after another to the start of a room, and what the rest of a lent diagram comes back as.
use mathlib.Core.Path.{◌≡◌, refl, sym, ap, ◌∙◌}
use mathlib.Core.List.{List, [], ◌∷◌, ◌++◌, append-nil}
use Prim.Native.Nat.{ℕ, suc, ◌+◌, ◌*◌, ◌-◌, ◌≤◌}
use native.Mathlib.Omega.{arith}
use native.Mathlib.Numerals.{add-one}
use lib.ListN.{length, get_or, take, drop, set, length-append, length-drop, drop_of_length-le}
use lib.Seq.{sets, sets-eq, take_all, take_at, length-take-le}
use borrow.Rule.Slice.PartMut.{mid_of, post_of, put_mid}
use Rattle.answer.proofs.Stored.{stored_join}
use Rattle.diagram.specs.Entries.{terminal, Edge, edge_numbers, node}
use Rattle.diagram.proofs.StandsIn.{edge_numbers_length}
use Rattle.entering.specs.Edges.{edge_in, edges_in}
use Rattle.entering.proofs.OpenEdges.{edges_length}

-- the rest of a slice, lent from place p on, is what follows there, and comes back in its place

pub rest_lent : (d : List ℕ) (p : ℕ) → p ≤ length d → mid_of p (length d - p) d ≡ drop p d
rest_lent d p h = take_all (length d - p) (drop p d) (simp length-drop (omega arith))

pub rest_back : (d r : List ℕ) (p : ℕ) → p ≤ length d → put_mid p (length d - p) d r ≡ take p d ++ r
rest_back d r p h =
    let z : post_of p (length d - p) d ≡ [] = drop_of_length-le (drop p d) {i = length d - p} (simp length-drop (omega arith)) in
    ap (λ l. take p d ++ (r ++ l)) z ∙ ap (λ l. take p d ++ l) (append-nil r)

pub rest_length : (d : List ℕ) (p : ℕ) → p ≤ length d → length (mid_of p (length d - p) d) ≡ length d - p
rest_length d p h = ap length (rest_lent d p h) ∙ length-drop p d

pub rest_kept : (d r : List ℕ) (p : ℕ) → p ≤ length d → length r ≡ length (mid_of p (length d - p) d) → length (put_mid p (length d - p) d r) ≡ length d
rest_kept d r p h e =
    ap length (rest_back d r p h)
    ∙ length-append (take p d) r
    ∙ omega (arith, length-take-le p d h, e, rest_length d p h)

-- numbers that were stored at the start of a slice are the part of it that is as long
pub start_is : (d ns now : List ℕ) (k : ℕ) → now ≡ sets d 0 ns → k ≡ length ns → length ns ≤ length d → take k now ≡ ns
start_is d ns now k w e h =
    ap (take k) (w ∙ sets-eq ns d 0 (omega arith)) ∙ take_at ns (drop (0 + length ns) d) k (sym e)

numbers_join : (es fs : List Edge) → edge_numbers (es ++ fs) ≡ edge_numbers es ++ edge_numbers fs
numbers_join [] fs = refl
numbers_join (e ∷ es) fs = ap (λ l. e.last ∷ e.child ∷ l) (numbers_join es fs)

module _ (room last child : List ℕ) where
  -- the numbers of the first j edges are written from place 2 on
  abbrev pub Writing : ℕ → List ℕ → Type 0
  Writing j now = now ≡ sets room 2 (edge_numbers (edges_in last child j))

  -- the numbers of one edge more
  pub edge_written : (j : ℕ) (now : List ℕ) → Writing j now → Writing (j + 1) (set (set now (2 + 2 * j) (get_or last j 0)) (3 + 2 * j) (get_or child j 0))
  edge_written j now w =
      let ns = edge_numbers (edges_in last child j) in
      let two : 2 + 2 * j ≡ 2 + length ns = omega (arith, edge_numbers_length (edges_in last child j), edges_length last child j) in
      let three : 3 + 2 * j ≡ suc (2 + length ns) = omega arith in
      ap (λ l. set (set l (2 + 2 * j) (get_or last j 0)) (3 + 2 * j) (get_or child j 0)) w
      ∙ ap (λ k. set (set (sets room 2 ns) k (get_or last j 0)) (3 + 2 * j) (get_or child j 0)) two
      ∙ ap (λ k. set (set (sets room 2 ns) (2 + length ns) (get_or last j 0)) k (get_or child j 0)) three
      ∙ sym (stored_join ns (get_or last j 0 ∷ get_or child j 0 ∷ []) room 2)
      ∙ ap (sets room 2) (sym (numbers_join (edges_in last child j) (edge_in last child j ∷ [])))
      ∙ ap (λ k. sets room 2 (edge_numbers (edges_in last child k))) (sym (add-one j))

-- the numbers of a node: its level, how many edges, and theirs
pub node_written : (room last child : List ℕ) (level n j : ℕ) (now : List ℕ) → Writing (set (set room 0 level) 1 n) last child j now → n ≤ j → j ≤ n →
    now ≡ sets room 0 (node level (edges_in last child n))
unfolding node
node_written room last child level n j now w h g =
    let z : j ≡ n = omega arith in
    w ∙ ap (λ k. sets room 0 (level ∷ n ∷ edge_numbers (edges_in last child k))) z
    ∙ ap (λ k. sets room 0 (level ∷ k ∷ edge_numbers (edges_in last child n))) (sym (edges_length last child n))

-- how many numbers a node and a terminal have

pub node_length : (last child : List ℕ) (level n : ℕ) (part : List ℕ) → part ≡ node level (edges_in last child n) → length part ≡ 2 + 2 * n
unfolding node
node_length last child level n part w = ap length w ∙ omega (arith, edge_numbers_length (edges_in last child n), edges_length last child n)

pub terminal_length : (decision : ℕ) (cards part : List ℕ) → part ≡ terminal (record { decision = decision; cards = cards }) → length part ≡ 3 + length cards
unfolding terminal
terminal_length decision cards part w = ap length w ∙ omega arith

-- the numbers of a terminal: three, and the cards
pub terminal_written : (room cards : List ℕ) (decision : ℕ) →
    sets (set (set (set room 0 0) 1 decision) 2 (length cards)) 3 cards ≡ sets room 0 (terminal (record { decision = decision; cards = cards }))
unfolding terminal
terminal_written room cards decision = refl
