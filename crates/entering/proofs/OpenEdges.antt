-- The open edges of a level in two lists: one more value shares the last edge or opens another.
use mathlib.Core.Path.{◌≡◌, refl, sym, ap, ◌∙◌, subst}
use mathlib.Core.Bool.{Bool, true, false, cond}
use mathlib.Core.List.{List, [], ◌∷◌, ◌++◌}
use Prim.Native.Nat.{ℕ, zero, suc, ◌+◌, ◌-◌, ◌<◌}
use native.Mathlib.Omega.{arith}
use native.Mathlib.Numerals.{add-one}
use lib.Dec.{eqb}
use lib.ListN.{length, get_or, set, length-append}
use lib.Seq.{get_or-set_same, get_or-set_other}
use borrow.Author.Tests.{eq-eqb, ne_eqb}
use Rattle.diagram.specs.Entries.{Edge}
use Rattle.diagram.specs.Walk.{extend}
use Rattle.entering.specs.Edges.{edge_in, edges_in}

-- the first n open edges are n
pub edges_length : (last child : List ℕ) (n : ℕ) → length (edges_in last child n) ≡ n
edges_length last child zero = refl
edges_length last child (suc n) =
    length-append (edges_in last child n) (edge_in last child n ∷ []) ∙ ap (λ k. k + 1) (edges_length last child n) ∙ add-one n

-- lists that agree below n have the same n edges
edges_same : (ls cs ls' cs' : List ℕ) (n : ℕ) → ((i : ℕ) → i < n → get_or ls' i 0 ≡ get_or ls i 0) → ((i : ℕ) → i < n → get_or cs' i 0 ≡ get_or cs i 0) →
    edges_in ls' cs' n ≡ edges_in ls cs n
edges_same ls cs ls' cs' zero f g = refl
edges_same ls cs ls' cs' (suc n) f g =
    rw (edges_same ls cs ls' cs' n (λ i h. f i (omega arith)) (λ i h. g i (omega arith)), f n (omega arith), g n (omega arith))

cond_after : (b : Bool) (e : Edge) (es fs : List Edge) → e ∷ cond b es fs ≡ cond b (e ∷ es) (e ∷ fs)
cond_after true e es fs = refl
cond_after false e es fs = refl

-- an edge for value v, which goes to place c
abbrev edge_to : ℕ → ℕ → List Edge
edge_to v c = record { last = v; child = c } ∷ []

-- one more value after the last edge
extend_last : (es : List Edge) (e : Edge) (v c : ℕ) →
    extend (es ++ (e ∷ [])) v c ≡ cond (eqb e.child c) (es ++ edge_to v c) ((es ++ (e ∷ [])) ++ edge_to v c)
unfolding extend
extend_last [] e v c = refl
extend_last (x ∷ []) e v c = cond_after (eqb e.child c) x (edge_to v c) ((e ∷ []) ++ edge_to v c)
extend_last (x ∷ y ∷ es) e v c =
    ap (λ l. x ∷ l) (extend_last (y ∷ es) e v c)
    ∙ cond_after (eqb e.child c) x ((y ∷ es) ++ edge_to v c) (((y ∷ es) ++ (e ∷ [])) ++ edge_to v c)

module _ (last child : List ℕ) (v c : ℕ) where
  shares : (n : ℕ) → n < length last → get_or child n 0 ≡ c → edges_in (set last n v) child (suc n) ≡ extend (edges_in last child (suc n)) v c
  shares n l e =
      let es = edges_in last child n in
      rw (
        edges_same last child (set last n v) child n (λ i h. get_or-set_other last n i v 0 (λ z. omega arith)) (λ i h. refl),
        get_or-set_same last n v 0 l,
      )
      (sym (extend_last es (edge_in last child n) v c
      ∙ ap (λ b. cond b (es ++ edge_to v c) (edges_in last child (suc n) ++ edge_to v c)) (eq-eqb (get_or child n 0) c e)
      ∙ ap (λ k. es ++ edge_to v k) (sym e)))

  -- the last open edge has the same child: its end moves
  pub shared_edge : (n : ℕ) → 0 < n → n < length last → get_or child (n - 1) 0 ≡ c → edges_in (set last (n - 1) v) child n ≡ extend (edges_in last child n) v c
  shared_edge n h l e =
      let z : suc (n - 1) ≡ n = omega arith in
      subst (λ k. edges_in (set last (n - 1) v) child k ≡ extend (edges_in last child k) v c) z (shares (n - 1) (omega arith) e)

  opens : (n : ℕ) → ((m : ℕ) → n ≡ suc m → get_or child m 0 ≡ c → ⊥) → edges_in last child n ++ edge_to v c ≡ extend (edges_in last child n) v c
  unfolding extend
  opens zero other = refl
  opens (suc m) other =
      sym (extend_last (edges_in last child m) (edge_in last child m) v c
      ∙ ap (λ b. cond b (edges_in last child m ++ edge_to v c) (edges_in last child (suc m) ++ edge_to v c)) (ne_eqb (get_or child m 0) c (other m refl)))

  -- no edge is open, or the last has another child: one more opens
  pub opened_edge : (n : ℕ) → n < length last → n < length child → ((m : ℕ) → n ≡ suc m → get_or child m 0 ≡ c → ⊥) →
      edges_in (set last n v) (set child n c) (n + 1) ≡ extend (edges_in last child n) v c
  opened_edge n l k other =
      ap (edges_in (set last n v) (set child n c)) (add-one n)
      ∙ rw (
        edges_same last child (set last n v) (set child n c) n (λ i h. get_or-set_other last n i v 0 (λ z. omega arith)) (λ i h. get_or-set_other child n i c 0 (λ z. omega arith)),
        get_or-set_same last n v 0 l,
        get_or-set_same child n c 0 k,
      )
      (opens n other)
