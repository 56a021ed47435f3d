-- The lines of every path from the root are a run from the first request, where all values are 0, up to where no request follows: each path
-- once, in rising order.
use mathlib.Core.Path.{◌≡◌, refl, sym, ap, ◌∙◌, subst}
use mathlib.Core.Bool.{true}
use mathlib.Core.List.{List, [], ◌∷◌, ◌++◌, append_assoc, append-nil}
use Prim.Native.Nat.{ℕ, zero, suc, ◌+◌, ◌≤◌, ◌<◌}
use native.Mathlib.Omega.{arith}
use native.Mathlib.Numerals.{add-one}
use Rattle.answer.specs.Fields.{fields}
use Rattle.answer.specs.Answers.{zeros}
use Rattle.diagram.specs.Layout.{used, root, edges_at, child_at}
use Rattle.diagram.specs.LookUp.{edge, ruling_at, child, look_up, ruled_by}
use Rattle.diagram.specs.Sound.{EntryBefore, next_level, Sound}
use Rattle.diagram.proofs.Descent.{node_here, child_here}
use Rattle.listing.specs.Text.{Range, line}
use Rattle.listing.specs.Paths.{After, first_at, range_at, path_from, path_of, line_of, follows, ends, next_from, next_of}
use Rattle.listing.specs.Listing.{in_order, lines_from, Run, begun, onward}
use Rattle.listing.proofs.NextPath.{at_below, at_next, at_last}
use Rattle.listing.proofs.NextIsLater.{after_is}
use Rattle.listing.proofs.EdgeByFirst.{edge_of_first, first_within}

-- a run, and a run from what is next after it
pub run_join : (d q : List ℕ) (q' xs : List ℕ) → Run d q xs (follows q') → (ys : List ℕ) (n : After) → Run d q' ys n → Run d q (xs ++ ys) n
run_join d q q' xs a ys n begun = subst (λ (l : List ℕ). Run d q l (follows q')) (sym (append-nil xs)) a
run_join d q q' xs a ys n (onward bytes r b) =
    subst (λ (l : List ℕ). Run d q l (next_of d r)) (append_assoc xs bytes (line_of d r))
    (onward (xs ++ bytes) r (run_join d q q' xs a bytes (follows r) b))

-- The values v lead from the root to place p, by the ranges rs: a request that begins with them goes on from there.
record Leads (d v : List ℕ) (rs : List Range) (p : ℕ) : Type 0 where
  ranges : (q : List ℕ) → path_of d (v ++ q) ≡ rs ++ path_from d p q
  ruling : (q : List ℕ) → ruled_by d (v ++ q) ≡ look_up d p q
  next : (q : List ℕ) → (next_from d p q).more ≡ true → next_of d (v ++ q) ≡ follows (v ++ (next_from d p q).values)

leads_root : (d : List ℕ) → Leads d [] [] (root d)
leads_root d =
    record {
      ranges = λ q. refl;
      ruling = λ q. refl;
      next = λ q m. after_is (next_of d q) (follows (next_of d q).values) (m, refl);
    }

module _ (d v : List ℕ) (rs : List Range) (p : ℕ) (a : Leads d v rs p) (x j : ℕ) (e : edge d p x ≡ j) where
  leads_on : Leads d (v ++ x ∷ []) (rs ++ range_at d p j ∷ []) (child_at d p j)
  unfolding path_from look_up next_from
  leads_on =
      record {
        ranges =
            λ q.
            ap (path_of d) (append_assoc v (x ∷ []) q) ∙ a.ranges (x ∷ q)
            ∙ ap (λ (k : ℕ). rs ++ range_at d p k ∷ path_from d (child_at d p k) q) e
            ∙ sym (append_assoc rs (range_at d p j ∷ []) (path_from d (child_at d p j) q));
        ruling =
            λ q.
            ap (ruled_by d) (append_assoc v (x ∷ []) q) ∙ a.ruling (x ∷ q) ∙ ap (λ (k : ℕ). look_up d (child_at d p k) q) e;
        next =
            λ q m.
            let below : After = next_from d (child d p x) q in
            let c : next_from d (child_at d p j) q ≡ below = ap (λ (k : ℕ). next_from d (child_at d p k) q) (sym e) in
            let n : next_from d p (x ∷ q) ≡ follows (x ∷ below.values) = at_below d p x below (sym (ap (λ (y : After). y.more) c) ∙ m) in
            ap (next_of d) (append_assoc v (x ∷ []) q)
            ∙ a.next (x ∷ q) (ap (λ (y : After). y.more) n)
            ∙ ap (λ (y : After). follows (v ++ y.values)) n
            ∙ ap follows (sym (append_assoc v (x ∷ []) below.values) ∙ ap (λ (y : After). (v ++ x ∷ []) ++ y.values) (sym c));
      }

-- The lines run from where the values v are followed by zeros up to a last request, after which the values from place p down start over.
record Covers (d v : List ℕ) (n p : ℕ) (lines : List ℕ) : Type 0 where
  last : List ℕ
  over : next_from d p last ≡ ends (zeros n)
  run : Run d (v ++ zeros n) lines (next_of d (v ++ last))

-- a terminal's line
covers_line : (d v : List ℕ) (rs : List Range) (p : ℕ) → Leads d v rs p → Covers d v 0 p (line rs (ruling_at d p))
unfolding path_from look_up next_from
covers_line d v rs p a =
    let q : List ℕ = v ++ [] in
    let e : line_of d q ≡ line rs (ruling_at d p) =
    ap (λ (l : List Range). line l (ruled_by d q)) (a.ranges [] ∙ append-nil rs) ∙ ap (line rs) (a.ruling []) in
    record {
      last = [];
      over = refl;
      run = subst (λ (l : List ℕ). Run d q l (next_of d q)) e (onward [] q begun);
    }

-- the lines of edges of a node, in order
module _ (d v : List ℕ) (rs : List Range) (n p : ℕ) (a : Leads d v rs p) (under : ℕ → List ℕ)
    (first : (j : ℕ) → j < edges_at d p → edge d p (first_at d p j) ≡ j)
    (each : (j : ℕ) → j < edges_at d p → Covers d (v ++ first_at d p j ∷ []) n (child_at d p j) (under j)) where
  -- the lines of the edges up to edge j are a run, which ends with that edge's last request
  record EdgesPassed (j : ℕ) (lines : List ℕ) : Type 0 where
    last : List ℕ
    over : next_from d (child_at d p j) last ≡ ends (zeros n)
    run : Run d (v ++ zeros (suc n)) lines (next_of d (v ++ first_at d p j ∷ last))

  below_over : (j : ℕ) (last : List ℕ) → j < edges_at d p → next_from d (child_at d p j) last ≡ ends (zeros n) →
      next_from d (child d p (first_at d p j)) last ≡ ends (zeros n)
  below_over j last h o = ap (λ (k : ℕ). next_from d (child_at d p k) last) (first j h) ∙ o

  -- after the last request of edge j follows the first of the next edge
  to_next : (j : ℕ) (last : List ℕ) → j + 1 < edges_at d p → next_from d (child_at d p j) last ≡ ends (zeros n) →
      next_of d (v ++ first_at d p j ∷ last) ≡ follows (v ++ first_at d p (j + 1) ∷ zeros n)
  unfolding next_from
  to_next j last h o =
      let x : ℕ = first_at d p j in
      let below : After = next_from d (child d p x) last in
      let b : below ≡ ends (zeros n) = below_over j last (omega arith) o in
      let i : next_from d p (x ∷ last) ≡ follows (first_at d p (edge d p x + 1) ∷ below.values) =
      at_next d p x below (ap (λ (y : After). y.more) b) (omega (arith, first j (omega arith))) in
      let k : first_at d p (edge d p x + 1) ∷ below.values ≡ first_at d p (j + 1) ∷ zeros n =
      ap (λ (y : ℕ). first_at d p (y + 1) ∷ below.values) (first j (omega arith)) ∙ ap (λ (y : After). first_at d p (j + 1) ∷ y.values) b in
      a.next (x ∷ last) (ap (λ (y : After). y.more) i) ∙ ap (λ (y : After). follows (v ++ y.values)) i ∙ ap (λ (l : List ℕ). follows (v ++ l)) k

  -- the lines of edge j are a run from its first value, followed by zeros
  one_edge : (j : ℕ) → j < edges_at d p → (q : List ℕ) → q ≡ v ++ first_at d p j ∷ zeros n →
      (last : List ℕ) × ((next_from d (child_at d p j) last ≡ ends (zeros n)) × Run d q (under j) (next_of d (v ++ first_at d p j ∷ last)))
  one_edge j h q e =
      let c : Covers d (v ++ first_at d p j ∷ []) n (child_at d p j) (under j) = each j h in (
        c.last,
        (
          c.over,
          subst (λ (r : List ℕ). Run d r (under j) (next_of d (v ++ first_at d p j ∷ c.last))) (append_assoc v (first_at d p j ∷ []) (zeros n) ∙ sym e)
              (subst (λ (r : List ℕ). Run d ((v ++ first_at d p j ∷ []) ++ zeros n) (under j) (next_of d r)) (append_assoc v (first_at d p j ∷ []) c.last) c.run),
        ),
      )

  passed : (j : ℕ) → j < edges_at d p → EdgesPassed j (in_order under (suc j))
  unfolding in_order
  passed zero h = let o = one_edge 0 h (v ++ zeros (suc n)) refl in record { last = o.0; over = o.1.0; run = o.1.1 }
  passed (suc j) h =
      let b : EdgesPassed j (in_order under (suc j)) = passed j (omega arith) in
      let q : List ℕ = v ++ first_at d p (suc j) ∷ zeros n in
      let e : next_of d (v ++ first_at d p j ∷ b.last) ≡ follows q =
      to_next j b.last (omega arith) b.over ∙ ap (λ (k : ℕ). follows (v ++ first_at d p k ∷ zeros n)) (add-one j) in
      let o = one_edge (suc j) h q refl in
      record {
        last = o.0;
        over = o.1.0;
        run =
            run_join d (v ++ zeros (suc n)) q (in_order under (suc j)) (subst (Run d (v ++ zeros (suc n)) (in_order under (suc j))) e b.run)
            (under (suc j)) (next_of d (v ++ first_at d p (suc j) ∷ o.0)) o.1.1;
      }

  -- the lines of all edges of the node
  covers_node : (m : ℕ) → edges_at d p ≡ suc m → Covers d v (suc n) p (in_order under (edges_at d p))
  unfolding next_from
  covers_node m e =
      let b : EdgesPassed m (in_order under (suc m)) = passed m (omega arith) in
      let x : ℕ = first_at d p m in
      let below : After = next_from d (child d p x) b.last in
      let o : below ≡ ends (zeros n) = below_over m b.last (omega arith) b.over in
      record {
        last = x ∷ b.last;
        over =
            at_last d p x below (ap (λ (y : After). y.more) o) (omega (arith, first m (omega arith)))
            ∙ ap (λ (y : After). ends (0 ∷ y.values)) o;
        run = subst (λ (k : ℕ). Run d (v ++ zeros (suc n)) (in_order under k) (next_of d (v ++ x ∷ b.last))) (sym e) b.run;
      }

pred : (m : ℕ) → 1 ≤ m → (k : ℕ) × (m ≡ suc k)
pred zero h = absurd (omega arith)
pred (suc m) h = (m, refl)

module _ (d : List ℕ) (s : Sound fields d) where
  -- all paths from place p down
  covers : (n f p : ℕ) (v : List ℕ) (rs : List Range) → f + n ≡ fields → EntryBefore fields d (used d) (next_level fields f) p → Leads d v rs p →
      Covers d v n p (lines_from d n p rs)
  unfolding lines_from
  covers zero f p v rs i e a = covers_line d v rs p a
  covers (suc n) f p v rs i e a =
      let l : f < fields = omega arith in
      let m = pred (edges_at d p) (node_here d s p f e l).some_edge in
      let first : (j : ℕ) → j < edges_at d p → edge d p (first_at d p j) ≡ j = λ j h. edge_of_first d s p f e l j h in
      covers_node d v rs n p a (λ (j : ℕ). lines_from d n (child_at d p j) (rs ++ range_at d p j ∷ [])) first
      (λ j h.
      covers n (f + 1) (child_at d p j) (v ++ first_at d p j ∷ []) (rs ++ range_at d p j ∷ []) (omega arith)
      (subst (λ (k : ℕ). EntryBefore fields d (used d) (next_level fields (f + 1)) (child_at d p k)) (first j h)
      (child_here d s p f e l (first_at d p j) (first_within d s p f e l j h)))
      (leads_on d v rs p a (first_at d p j) j (first j h)))
      m.0 m.1

  -- the lines of every path, from the first request up to where no request follows
  pub listing_is_a_run : Run d (zeros fields) (lines_from d fields (root d) []) (ends (zeros fields))
  listing_is_a_run =
      let c : Covers d [] fields (root d) (lines_from d fields (root d) []) = covers fields 0 (root d) [] [] refl s.root_entry (leads_root d) in
      subst (Run d (zeros fields) (lines_from d fields (root d) [])) c.over c.run
