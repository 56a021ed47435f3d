-- Nodes of two tables that are alike, whatever their numbers, give the same decisions and the same cards.
use mathlib.Core.Path.{◌≡◌, refl, sym, ap, ap₂, ◌∙◌}
use mathlib.Core.Bool.{Bool, true, false, cond, ◌&&◌}
use mathlib.Core.Logic.{⊎_elim}
use mathlib.Core.List.{List, ◌∷◌}
use Prim.Native.Nat.{ℕ, zero, suc, ◌+◌, ◌-◌, ◌≤◌, ◌<◌}
use native.Mathlib.Omega.{arith}
use lib.Dec.{leb}
use Rattle.answer.proofs.Tests.{lt_or_ge}
use Rattle.combining.specs.Ways.{not_applicable, Child, way}
use Rattle.encoding.specs.Layout.{count, kind, span, card}
use Rattle.table.specs.Tree.{end_of}
use Rattle.table.specs.WellFormed.{WellFormed}
use Rattle.ruling.specs.Forest.{forest_within, under}
use Rattle.ruling.specs.Meaning.{effect, gives, child_of, children, decision, matches, cards_from}
use Rattle.ruling.specs.Walk.{SpansInside}
use Rattle.ruling.proofs.Forest.{within_none, within_more, whole_under, whole_after}
use Rattle.ruling.proofs.Decisions.{gives_not}

-- Node m i of table t is as node i of table u, by its kind, by its span and by whether it applies, for each i below a bound that is reached, as P says:
-- from a node that is, so is the one after all under it, and the next one where the node applies.
pub record Agree (a : ℕ → Bool) (t : List ℕ) (x : ℕ → Bool) (u : List ℕ) (m : ℕ → ℕ) (P : ℕ → Type 0) (to : ℕ) : Type 0 where
  pub same : (i : ℕ) → i < to → P i → a (m i) ≡ x i
  pub kinds : (i : ℕ) → i < to → P i → kind t (m i) ≡ kind u i
  pub spans : (i : ℕ) → i < to → P i → span t (m i) ≡ span u i
  pub down : (i : ℕ) → i < to → P i → x i ≡ true → P (i + 1)
  pub after : (i : ℕ) → i < to → P i → P (end_of u i)

-- the numbers are other ones by so many throughout
module _ (a : ℕ → Bool) (t : List ℕ) (x : ℕ → Bool) (u : List ℕ) (m : ℕ → ℕ) (shift : (i k : ℕ) → m (i + k) ≡ m i + k) where
  -- a node gives the same, of children that are the same where it applies
  pub gives_same : (i : ℕ) (cs ds : List Child) → kind t (m i) ≡ kind u i → a (m i) ≡ x i → (x i ≡ true → cs ≡ ds) → gives a t (m i) cs ≡ gives x u i ds
  unfolding gives
  gives_same i cs ds k e h = by (x i) refl
    where
      by : (y : Bool) → x i ≡ y → gives a t (m i) cs ≡ gives x u i ds
      by true y =
          ap (gives a t (m i)) (h y)
          ∙ ap₂ (λ z n. cond z (cond (leb 4 n) (effect n) (way n ds)) not_applicable) e k
      by false y = gives_not a t (m i) cs (e ∙ y) ∙ sym (gives_not x u i ds y)

  child_same : (i : ℕ) (cs ds : List Child) → kind t (m i) ≡ kind u i → a (m i) ≡ x i → (x i ≡ true → cs ≡ ds) →
      child_of a (m i) (gives a t (m i) cs) ≡ child_of x i (gives x u i ds)
  child_same i cs ds k e h =
      let counts : child_of a (m i) (gives a t (m i) cs) ≡ child_of x i (gives a t (m i) cs) = simp e in
      counts ∙ ap (child_of x i) (gives_same i cs ds k e h)

  module _ (w : WellFormed u) {P : ℕ → Type 0} {to : ℕ} (inside : to ≤ count u) (g : Agree a t x u m P to) where
    ends : (i : ℕ) → i < to → P i → end_of t (m i) ≡ m (end_of u i)
    ends i l p = ap (λ s. m i + s) (g.spans i l p) ∙ sym (shift i (span u i))

    later : (i end : ℕ) → i ≤ end → m end ≡ m i + (end - i)
    later i end l = let z : end ≡ i + (end - i) = omega arith in ap m z ∙ shift i (end - i)

    children_same : (n i end : ℕ) → P i → end ≤ to → SpansInside u i end →
        children a t (forest_within n t (m i) (m end)) ≡ children x u (forest_within n u i end)
    unfolding forest_within
    children_same zero i end p hi r = refl
    children_same (suc n) i end p hi r =
        ⊎_elim
        (λ (l : i < end).
        let c : i < count u = omega (arith, r.inside) in
        let o : i < to = omega arith in
        let below = forest_within n t (m i + 1) (end_of t (m i)) in
        let rest = forest_within n t (end_of t (m i)) (m end) in
        ap (children a t) (within_more n t (m i) (m end) (omega (arith, later i end (omega arith))))
        ∙ ap (λ y. y ∷ children a t rest)
        (child_same i (children a t below) (children x u (forest_within n u (i + 1) (end_of u i))) (g.kinds i o p) (g.same i o p)
        (λ y.
        ap₂ (λ j k. children a t (forest_within n t j k)) (sym (shift i 1)) (ends i o p)
        ∙ children_same n (i + 1) (end_of u i) (g.down i o p y) (omega (arith, r.each i (omega arith) l)) (whole_under u w i c)))
        ∙ ap (λ cs. child_of x i (gives x u i (children x u (forest_within n u (i + 1) (end_of u i)))) ∷ cs)
        (ap (λ j. children a t (forest_within n t j (m end))) (ends i o p)
        ∙ children_same n (end_of u i) end (g.after i o p) hi (whole_after u w i end r))
        ∙ sym (ap (children x u) (within_more n u i end l)))
        (λ (l : end ≤ i).
        ap (children a t) (within_none (suc n) t (m i) (m end) (omega (arith, later end i l))) ∙ sym (ap (children x u) (within_none (suc n) u i end l)))
        (lt_or_ge i end)

    pub decision_same : (i : ℕ) → P i → i < to → end_of u i ≤ to → decision a t (m i) ≡ decision x u i
    decision_same i p hi end =
        let z : end_of t (m i) - (m i + 1) ≡ end_of u i - (i + 1) = omega (arith, g.spans i hi p) in
        gives_same i (children a t (under t (m i))) (children x u (under u i)) (g.kinds i hi p) (g.same i hi p)
        (λ y.
        ap (λ n. children a t (forest_within n t (m i + 1) (end_of t (m i)))) z
        ∙ ap₂ (λ j k. children a t (forest_within (end_of u i - (i + 1)) t j k)) (sym (shift i 1)) (ends i hi p)
        ∙ children_same (end_of u i - (i + 1)) (i + 1) (end_of u i) (g.down i hi p y) end (whole_under u w i (omega arith)))

  -- the cards of nodes, from one up to another, that have the same kinds and cards, and of which the same apply
  module _ {from to : ℕ} (same : (i : ℕ) → from ≤ i → i < to → a (m i) ≡ x i) (kinds : (i : ℕ) → from ≤ i → i < to → kind t (m i) ≡ kind u i)
      (cards : (i : ℕ) → from ≤ i → i < to → card t (m i) ≡ card u i) where
    pub cards_same : (n i : ℕ) → from ≤ i → i + n ≤ to → cards_from a t (m i) n ≡ cards_from x u i n
    unfolding cards_from
    cards_same zero i lo hi = refl
    cards_same (suc n) i lo hi =
        let rest = ap (λ j. cards_from a t j n) (sym (shift i 1)) ∙ cards_same n (i + 1) (omega arith) (omega arith) in
        let match : matches a t (m i) ≡ matches x u i = ap₂ (λ k y. leb 4 k && y) (kinds i lo (omega arith)) (same i lo (omega arith)) in
        ap (λ y. cond y (card t (m i) ∷ cards_from a t (m i + 1) n) (cards_from a t (m i + 1) n)) match
        ∙ ap₂ (λ c cs. cond (matches x u i) (c ∷ cs) cs) (cards i lo (omega arith)) rest
