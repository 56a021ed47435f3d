-- Where every request has the same ruling, each level of the walk has one node with one edge.
use mathlib.Core.Path.{◌≡◌, refl, ap, ◌∙◌}
use mathlib.Core.Bool.{false, cond, ◌&&◌}
use mathlib.Core.List.{List, [], ◌∷◌, ◌++◌}
use Prim.Native.Nat.{ℕ, zero, suc, ◌+◌, ◌-◌, ◌≤◌, ◌<◌}
use native.Mathlib.Omega.{arith}
use borrow.Author.Tests.{eq-eqb, ne_eqb}
use lib.ListN.{length, length-append}
use Rattle.answer.specs.Rulings.{Ruling}
use Rattle.diagram.specs.Layout.{header}
use Rattle.diagram.specs.Entries.{terminal, Edge, node, edge_numbers}
use Rattle.diagram.specs.Walk.{Entries, joined, same, Entered, enter, extend, below, walk, diagram}
use Rattle.diagram.specs.OneRuling.{one_edge_each, one_ruling}
use Rattle.diagram.proofs.EntriesGrow.{kept, enter_there, below_more, under, walk_node}
use Rattle.diagram.proofs.WalkingAgainAddsNothing.{alike_at_once}

-- the one edge of a node, up to value v
abbrev to : ℕ → ℕ → List Edge
to v c = record { last = v; child = c } ∷ []

-- a value with the same child as the ones before it
extend_same : (u v c : ℕ) → extend (to u c) v c ≡ to v c
unfolding extend
extend_same u v c = ap (λ b. cond b (to v c) (record { last = u; child = c } ∷ to v c)) (eq-eqb c c refl)

module _ (under : ℕ → Entries → Entered) (es : Entries) (x : Entered) (first : under 0 es ≡ x) (again : (v : ℕ) → under v x.entries ≡ x) where
  below_one_edge : (n : ℕ) → below under es (suc n) ≡ record { entries = x.entries; edges = to n x.place }
  unfolding below extend
  below_one_edge zero = below_more under es 0 (record { entries = es; edges = [] }) x refl first
  below_one_edge (suc n) =
      below_more under es (suc n) (record { entries = x.entries; edges = to n x.place }) x (below_one_edge n) (again (suc n))
      ∙ ap (λ (e : List Edge). record { entries = x.entries; edges = e }) (extend_same n (suc n) x.place)

module _ (e : List ℕ) where
  -- no entry equals e
  abbrev NoneEqual : Entries → Type 0
  NoneEqual [] = Unit {0}
  NoneEqual (x ∷ xs) = (same x e ≡ false) × NoneEqual xs

  none_more : (xs : Entries) (x : List ℕ) → NoneEqual xs → same x e ≡ false → NoneEqual (xs ++ (x ∷ []))
  none_more [] x h s = (s, tt)
  none_more (y ∷ ys) x h s = (h.0, none_more ys x h.1 s)

  -- so e is entered after the last
  enter_new : (p : ℕ) (xs : Entries) → NoneEqual xs → enter p xs e ≡ kept (xs ++ (e ∷ [])) (p + length (joined xs))
  unfolding enter
  enter_new p [] h = let z : p ≡ p + 0 = omega arith in ap (kept (e ∷ [])) z
  enter_new p (x ∷ xs) h =
      let z : p + length x + length (joined xs) ≡ p + length (x ++ joined xs) = omega (arith, length-append x (joined xs)) in
      enter_there e p x xs h.0
      ∙ ap (λ (r : Entered). kept (x ∷ r.entries) r.place) (enter_new (p + length x) xs h.1)
      ∙ ap (kept (x ∷ xs ++ (e ∷ []))) z

module _ (k : ℕ) (r : Ruling) where
  -- a node is on a level above all of these
  other_level : (ms : List ℕ) (level : ℕ) (rest : List ℕ) → 0 < level → level + length ms ≤ k → NoneEqual (level ∷ rest) (one_edge_each k r ms).entries
  unfolding one_edge_each terminal node
  other_level [] level rest l h =
      (ap (λ b. b && same (r.decision ∷ length r.cards ∷ r.cards) rest) (ne_eqb 0 level (λ e. omega arith)), tt)
  other_level (m ∷ ms) level rest l h =
      let x = one_edge_each k r ms in
      none_more (level ∷ rest) x.entries (node (k - length ms) (to m x.place)) (other_level ms level rest l (omega arith))
      (ap (λ b. b && same (1 ∷ edge_numbers (to m x.place)) rest) (ne_eqb (k - length ms) level (λ e. omega arith)))

  walk_one : (ms : List ℕ) → length ms ≤ k → walk k ms (λ q. r) [] ≡ one_edge_each k r ms
  unfolding walk enter one_edge_each node
  walk_one [] l = refl
  walk_one (m ∷ ms) l =
      let x = walk k ms (λ q. r) [] in
      let y = one_edge_each k r ms in
      walk_node k m ms (λ q. r) [] (record { entries = x.entries; edges = to m x.place })
      (below_one_edge (under k ms (λ q. r)) [] x refl (λ v. alike_at_once k ms (λ q. r) (λ q. r) [] (λ q w. refl)) m)
      ∙ ap (λ (y : Entered). enter (header k) y.entries (node (k - length ms) (to m y.place))) (walk_one ms (omega arith))
      ∙ enter_new (node (k - length ms) (to m y.place)) (header k) y.entries
      (other_level ms (k - length ms) (1 ∷ edge_numbers (to m y.place)) (omega arith) (omega arith))

-- where all requests have ruling r, whatever the maxima
pub one_ruling_for_all : (ms : List ℕ) (r : Ruling) → diagram ms (λ q. r) ≡ one_ruling ms r
unfolding diagram one_ruling
one_ruling_for_all ms r =
    ap (λ (x : Entered). (header (length ms) + length (joined x.entries)) ∷ x.place ∷ ms ++ joined x.entries)
    (walk_one (length ms) r ms (omega arith))
