-- Looking up in any slice that starts with the diagram of the rulings f gives each request within the maxima the ruling of f.
use mathlib.Core.Path.{◌≡◌, sym, ap, ◌∙◌, subst}
use mathlib.Core.List.{List, [], ◌∷◌, ◌++◌}
use Prim.Native.Nat.{ℕ, suc, ◌-◌, ◌≤◌, ◌<◌}
use native.Mathlib.Omega.{arith}
use lib.ListN.{length}
use Rattle.answer.specs.Rulings.{Ruling}
use Rattle.diagram.specs.Layout.{header, edges_at, last_at}
use Rattle.diagram.specs.Entries.{terminal, Edge, node}
use Rattle.diagram.specs.Walk.{Entries, joined, given, diagram, WithinMaxima}
use Rattle.diagram.specs.LookUp.{edge, child, look_up, ruled_by}
use Rattle.diagram.proofs.FirstEdge.{edge_before, edge_reaches, edge_first}
use Rattle.diagram.proofs.StandsIn.{Stands, terminal_ruling, edge_of, node_edges, node_last, node_child}
use Rattle.diagram.proofs.EntryPlaces.{entry_stands}
use Rattle.diagram.proofs.EdgesRun.{Runs, runs_some, runs_end, runs_value}
use Rattle.diagram.proofs.WalkRules.{Rules, walk_rules}
use Rattle.diagram.proofs.DiagramHeader.{walked, head, head_length, diagram_splits, diagram_root}

-- where a node stands, a value goes where its edges take it
child_runs : (P : ℕ → ℕ → Type 0) (d : List ℕ) (p level : ℕ) (es : List Edge) (m v : ℕ) →
    Stands d p (node level es) → Runs P 0 es (suc m) → v ≤ m → P v (child d p v)
child_runs P d p level es m v s h l =
    let n : edges_at d p ≡ length es = node_edges d p level es s in
    let last : (j : ℕ) → j < length es → last_at d p j ≡ (edge_of es j).last = node_last d p level es s in
    let some : 1 ≤ length es = runs_some P es m h in
    let end : suc (edge_of es (length es - 1)).last ≡ suc m = runs_end P es 0 (suc m) (length es - 1) h (omega arith) in
    let j : ℕ = edge d p v in
    let real : j < length es = omega (arith, edge_first d p v (length es - 1) (omega (arith, last (length es - 1) (omega arith)))) in
    subst (P v) (sym (node_child d p level es s j real))
    (runs_value P es 0 (suc m) j v h real (omega arith)
    (λ i b. omega (arith, last i (omega arith), edge_before d p v i b))
    (omega (arith, last j real, edge_reaches d p v (omega arith))))

module _ (k : ℕ) (before tail : List ℕ) (xs : Entries) (l : length before ≡ header k) where
  rules_look_up : (ms : List ℕ) (c : ℕ) (f : List ℕ → Ruling) → Rules k ms xs c f →
      (q : List ℕ) → WithinMaxima ms q → look_up (before ++ (joined xs ++ tail)) c q ≡ f q
  unfolding look_up
  rules_look_up [] c f h [] w =
      terminal_ruling (before ++ (joined xs ++ tail)) c (f []) (entry_stands (header k) xs before tail c (terminal (f [])) l h)
  rules_look_up [] c f h (v ∷ q) w = absurd w
  rules_look_up (m ∷ ms) c f h [] w = absurd w
  rules_look_up (m ∷ ms) c f h (v ∷ q) w =
      let d = before ++ (joined xs ++ tail) in
      let e = node (k - length ms) h.0 in
      rules_look_up ms (child d c v) (given f v)
      (child_runs (λ u p. Rules k ms xs p (given f u)) d c (k - length ms) h.0 m v
      (entry_stands (header k) xs before tail c e l h.1) h.2 w.0)
      q w.1

-- a look-up gives each request its ruling, whatever follows the diagram in the slice
pub look_up_gives_the_ruling : (ms : List ℕ) (f : List ℕ → Ruling) (tail q : List ℕ) → WithinMaxima ms q → ruled_by (diagram ms f ++ tail) q ≡ f q
look_up_gives_the_ruling ms f tail q w =
    ap (λ c. look_up (diagram ms f ++ tail) c q) (diagram_root ms f tail)
    ∙ ap (λ d. look_up d (walked ms f).place q) (diagram_splits ms f tail)
    ∙ rules_look_up (length ms) (head ms f) tail (walked ms f).entries (head_length ms f)
    ms (walked ms f).place f (walk_rules (length ms) ms f []) q w
