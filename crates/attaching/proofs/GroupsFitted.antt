-- What the groups of a table give that is a base with an expansion fitted to it: for any test of which nodes apply, for a request of one subject, and
-- for several subjects that ask together.
use mathlib.Core.Path.{◌≡◌, refl, sym, ap, ap₂, ◌∙◌}
use mathlib.Core.Bool.{Bool, true, false, ◌&&◌}
use mathlib.Core.Logic.{⊎_elim}
use mathlib.Core.List.{List, [], ◌∷◌, ◌++◌, map}
use Prim.Native.Nat.{ℕ, ◌+◌, ◌-◌, ◌≤◌, ◌<◌}
use native.Mathlib.Nat.{eq-zero-or-pos}
use native.Mathlib.Omega.{arith}
use Rattle.answer.specs.Fields.{fields}
use Rattle.answer.specs.Requests.{value}
use Rattle.answer.proofs.SameRuling.{same_ruling}
use Rattle.answer.proofs.Tests.{lt_or_ge, both, passes_alike}
use Rattle.answer.proofs.Below.{every_same, some_none, some_same}
use Rattle.combining.specs.Ways.{not_applicable}
use Rattle.encoding.specs.Layout.{count}
use Rattle.table.specs.Tree.{end_of}
use Rattle.table.specs.Reading.{Accepted}
use Rattle.encoding.specs.SameNode.{SameNode}
use Rattle.table.specs.WellFormed.{WellFormed}
use Rattle.table.proofs.AcceptedIsWellFormed.{well_formed}
use Rattle.ruling.specs.Forest.{under, children_of}
use Rattle.targets.specs.Targets.{in_range, field_holds, target_holds, applies}
use Rattle.targets.specs.Subjects.{most_subjects, member, applies_to_some}
use Rattle.ruling.specs.Meaning.{gives, child_of, children, decision, cards_from, cards, meaning}
use Rattle.ruling.specs.Ruling.{groups, groups_together}
use Rattle.ruling.proofs.Cards.{cards_skip, cards_join}
use Rattle.ruling.proofs.Decisions.{gives_not}
use Rattle.ruling.proofs.NodesAlike.{Agree, gives_same, decision_same, cards_same}
use Rattle.ruling.proofs.ChildrenByParents.{EachOf, children_each}
use Rattle.ruling.proofs.DecisionByChildren.{children_decide}
use Rattle.targets.proofs.Applies.{applies_where, applies_each, applies_under_lem}
use Rattle.attaching.specs.Fitted.{Fitted}
use Rattle.attaching.specs.Meaning.{meaning_with, applies_under, applies_to_some_under, groups_with, groups_together_with}
use Rattle.attaching.proofs.Trees.{root_end, base_inside, base_reaches, base_reached, expansion_end, last_child}

map_each : {A : Type 0} (f g : ℕ → A) (is : List ℕ) → EachOf (λ i. f i ≡ g i) is → map f is ≡ map g is
map_each f g [] e = refl
map_each f g (i ∷ is) e = ap₂ (λ x xs. x ∷ xs) e.0 (map_each f g is e.1)

map_join : {A : Type 0} (f : ℕ → A) (is js : List ℕ) → map f (is ++ js) ≡ map f is ++ map f js
map_join f [] js = refl
map_join f (i ∷ is) js = ap (λ xs. f i ∷ xs) (map_join f is js)

module _ (t b e : List ℕ) (u : Accepted t) (c : Accepted b) (d : Accepted e) (f : Fitted t b e) where
  v : WellFormed b
  v = well_formed b c

  w : WellFormed e
  w = well_formed e d

  abbrev n : ℕ
  n = count b

  -- which nodes apply: a of the table, x of the base and y of the expansion
  module _ (a x y : ℕ → Bool) (base : (i : ℕ) → i < n → a i ≡ x i) (expansion : (i : ℕ) → i < count e → a (n + i) ≡ y i) where
    base_agree : Agree a t x b (λ i. i) (λ i. 0 < i) n
    base_agree = record {
      same = λ i l p. base i l;
      kinds = λ i l p. (f.base_nodes i l).kinds;
      spans = λ i l p. f.base_spans i p l;
      down = λ i l p h. omega arith;
      after = λ i l p. omega arith;
    }

    expansion_agree : Agree a t y e (λ i. n + i) (λ i. Unit {0}) (count e)
    expansion_agree = record {
      same = λ i l p. expansion i l;
      kinds = λ i l p. (f.expansion_nodes i l).kinds;
      spans = λ i l p. f.expansion_spans i l;
      down = λ i l p h. tt;
      after = λ i l p. tt;
    }

    later : (i k : ℕ) → n + (i + k) ≡ n + i + k
    later i k = omega arith

    -- a node of the base that is not the root decides as it did
    base_decides : (i : ℕ) → 0 < i → i < n → decision a t i ≡ decision x b i
    base_decides i p l = decision_same a t x b (λ i. i) (λ i k. refl) v (omega arith) base_agree i p l (v.inside i l)

    -- and so does the expansion's root
    expansion_decides : decision a t n ≡ decision y e 0
    expansion_decides =
        let z : n ≡ n + 0 = omega arith in
        ap (decision a t) z
        ∙ decision_same a t y e (λ i. n + i) later w (omega arith) expansion_agree 0 tt w.some (w.inside 0 w.some)

    -- a child as it was in the base
    as_base : (j : ℕ) → 0 < j → j < n → child_of a j (decision a t j) ≡ child_of x j (decision x b j)
    as_base j p l =
        let counts : child_of a j (decision a t j) ≡ child_of x j (decision a t j) = simp (base j l) in
        counts ∙ ap (child_of x j) (base_decides j p l)

    attached_child : child_of a n (decision a t n) ≡ child_of y 0 (decision y e 0)
    attached_child =
        let z : n ≡ n + 0 = omega arith in
        let s : a n ≡ y 0 = ap a z ∙ expansion 0 w.some in
        let counts : child_of a n (decision a t n) ≡ child_of y 0 (decision a t n) = simp s in
        counts ∙ ap (child_of y 0) expansion_decides

    children_fitted : children a t (under t 0) ≡ children x b (under b 0) ++ (child_of y 0 (decision y e 0) ∷ [])
    children_fitted =
        children_decide a t u 0 (well_formed t u).some
        ∙ ap (map (λ j. child_of a j (decision a t j))) (last_child t b e v w f)
        ∙ map_join (λ j. child_of a j (decision a t j)) (children_of b 0) (n ∷ [])
        ∙ ap₂ (λ cs k. cs ++ (k ∷ []))
        (map_each (λ j. child_of a j (decision a t j)) (λ j. child_of x j (decision x b j)) (children_of b 0)
        (children_each b v 0 v.some (λ j. child_of a j (decision a t j) ≡ child_of x j (decision x b j))
        (λ j l h p. as_base j l (omega (arith, v.root))))
        ∙ sym (children_decide x b c 0 v.some))
        attached_child

    decision_fitted : decision a t 0 ≡ gives x b 0 (children x b (under b 0) ++ (child_of y 0 (decision y e 0) ∷ []))
    decision_fitted =
        gives_same a t x b (λ i. i) (λ i k. refl) 0 (children a t (under t 0)) _ (f.base_nodes 0 v.some).kinds (base 0 v.some)
        (λ h. children_fitted)

    cards_fitted : cards a t ≡ cards x b ++ cards y e
    cards_fitted =
        let z : 0 + n ≡ n = omega arith in
        let y' : n ≡ n + 0 = omega arith in
        ap (cards_from a t 0) f.counts
        ∙ cards_join a t n (count e) 0
        ∙ ap₂ (λ is js. is ++ js)
        (cards_same a t x b (λ i. i) (λ i k. refl) {from = 0} {to = n} (λ i lo hi. base i hi) (λ i lo hi. (f.base_nodes i hi).kinds)
        (λ i lo hi. (f.base_nodes i hi).cards) n 0 (omega arith) (omega arith))
        (ap (λ j. cards_from a t j (count e)) (z ∙ y')
        ∙ cards_same a t y e (λ i. n + i) later {from = 0} {to = count e} (λ i lo hi. expansion i hi) (λ i lo hi. (f.expansion_nodes i hi).kinds)
        (λ i lo hi. (f.expansion_nodes i hi).cards) (count e) 0 (omega arith) (omega arith))

    pub meaning_fitted : meaning a t ≡ meaning_with x y b e
    meaning_fitted = same_ruling (meaning a t) (meaning_with x y b e) decision_fitted cards_fitted

  -- a node's target holds as that of the node that it is the same as
  target_same : (q : List ℕ) (i : ℕ) (s : List ℕ) (j : ℕ) → SameNode t i s j → target_holds t q i ≡ target_holds s q j
  unfolding target_holds
  target_same q i s j h =
      every_same (field_holds t q i) (field_holds s q j) fields
      (λ k l. ap₂ (λ low high. in_range low high (value q k)) (h.lows k l) (h.highs k l))

  module _ (q : List ℕ) where
    base_target : (i : ℕ) → i < n → target_holds t q i ≡ target_holds b q i
    base_target i l = target_same q i b i (f.base_nodes i l)

    -- a node of the base applies where it did
    pub applies_base : (i : ℕ) → i < n → applies t q i ≡ applies b q i
    applies_base i l =
        passes_alike (applies t q i) (applies b q i)
        (λ h.
        applies_where b q i
        (λ j o r. sym (base_target j (omega arith)) ∙ applies_each t q i h j o (base_reached t b e v w f i j l (omega arith) r)))
        (λ h.
        applies_where t q i (λ j o r. base_target j (omega arith) ∙ applies_each b q i h j o (base_reaches t b e v w f i j l (omega arith) r)))

    -- a node of the expansion applies where it did and the base root's target holds
    pub applies_expansion : (i : ℕ) → i < count e → applies t q (n + i) ≡ applies_under b e q i
    applies_expansion i l = passes_alike (applies t q (n + i)) (applies_under b e q i) there back
      where
        expansion_target : (j : ℕ) → j < count e → target_holds t q (n + j) ≡ target_holds e q j
        expansion_target j h = target_same q (n + j) e j (f.expansion_nodes j h)

        there : applies t q (n + i) ≡ true → applies_under b e q i ≡ true
        there h =
            ap₂ (λ x y. x && y)
            (sym (base_target 0 v.some) ∙ applies_each t q (n + i) h 0 (omega arith) (omega (arith, root_end t b e v w f)))
            (applies_where e q i
            (λ j o r.
            sym (expansion_target j (omega arith))
            ∙ applies_each t q (n + i) h (n + j) (omega arith) (omega (arith, expansion_end t b e v w f j (omega arith)))))

        back : applies_under b e q i ≡ true → applies t q (n + i) ≡ true
        back h =
            let p = both (target_holds b q 0) (applies e q i) h in
            applies_where t q (n + i)
            (λ j o r.
            ⊎_elim
            (λ (k : j < n).
            ⊎_elim
            (λ (z : j ≡ 0). ap (target_holds t q) z ∙ base_target 0 v.some ∙ p.0)
            (λ (z : 0 < j). absurd (omega (arith, base_inside t b e v w f j z k)))
            (eq-zero-or-pos j))
            (λ (k : n ≤ j).
            let z : j ≡ n + (j - n) = omega arith in
            let m : j - n < count e = omega arith in
            ap (target_holds t q) z
            ∙ expansion_target (j - n) m
            ∙ applies_each e q i p.1 (j - n) (omega arith) (omega (arith, ap (end_of t) z, expansion_end t b e v w f (j - n) m)))
            (lt_or_ge j n))

  -- for a request of one subject
  pub groups_fitted : (q : List ℕ) → groups t q ≡ groups_with b e q
  groups_fitted q = meaning_fitted (applies t q) (applies b q) (applies_under b e q) (applies_base q) (applies_expansion q)

  -- the expansion's groups give what they gave, where the base root's target holds
  pub groups_holding : (q : List ℕ) → target_holds b q 0 ≡ true → groups t q ≡ meaning_with (applies b q) (applies e q) b e
  groups_holding q h =
      meaning_fitted (applies t q) (applies b q) (applies e q) (applies_base q) (λ i l. applies_expansion q i l ∙ ap (λ x. x && applies e q i) h)

  -- where no node applies nothing is given
  none_given : (a : ℕ → Bool) → ((i : ℕ) → i < count t → a i ≡ false) → meaning a t ≡ record { decision = not_applicable; cards = [] }
  none_given a out =
      same_ruling (meaning a t) (record { decision = not_applicable; cards = [] })
      (gives_not a t 0 (children a t (under t 0)) (out 0 (well_formed t u).some))
      (cards_skip a t (count t) 0 (λ i l m. out i (omega arith)))

  -- and none does where the base root's target fails
  out_failing : (q : List ℕ) → target_holds b q 0 ≡ false → (i : ℕ) → i < count t → applies t q i ≡ false
  out_failing q h i l = applies_under_lem t q 0 i (omega arith) (omega (arith, f.root_span)) (base_target q 0 v.some ∙ h)

  pub groups_failing : (q : List ℕ) → target_holds b q 0 ≡ false → groups t q ≡ record { decision = not_applicable; cards = [] }
  groups_failing q h = none_given (applies t q) (out_failing q h)

  -- for several subjects that ask together
  module _ (s : ℕ) (others : List ℕ) where
    base_together : (i : ℕ) → i < n → applies_to_some t s others i ≡ applies_to_some b s others i
    unfolding applies_to_some
    base_together i l =
        some_same (λ k. member s k && applies t (k ∷ others) i) (λ k. member s k && applies b (k ∷ others) i) most_subjects
        (λ k h. ap (λ y. member s k && y) (applies_base (k ∷ others) i l))

    expansion_together : (i : ℕ) → i < count e → applies_to_some t s others (n + i) ≡ applies_to_some_under b e s others i
    unfolding applies_to_some
    expansion_together i l =
        some_same (λ k. member s k && applies t (k ∷ others) (n + i)) (λ k. member s k && applies_under b e (k ∷ others) i) most_subjects
        (λ k h. ap (λ y. member s k && y) (applies_expansion (k ∷ others) i l))

    pub together_fitted : groups_together t s others ≡ groups_together_with b e s others
    together_fitted =
        meaning_fitted (applies_to_some t s others) (applies_to_some b s others) (applies_to_some_under b e s others) base_together expansion_together

    -- where the base root's target holds for each of them
    pub together_holding : ((k : ℕ) → k < most_subjects → member s k ≡ true → target_holds b (k ∷ others) 0 ≡ true) →
        groups_together t s others ≡ meaning_with (applies_to_some b s others) (applies_to_some e s others) b e
    unfolding applies_to_some
    together_holding h =
        meaning_fitted (applies_to_some t s others) (applies_to_some b s others) (applies_to_some e s others) base_together
        (λ i l.
        expansion_together i l
        ∙ some_same (λ k. member s k && applies_under b e (k ∷ others) i) (λ k. member s k && applies e (k ∷ others) i) most_subjects
        (λ k m. by (member s k) (target_holds b (k ∷ others) 0) (applies e (k ∷ others) i) (h k m)))
      where
        by : (x y z : Bool) → (x ≡ true → y ≡ true) → (x && (y && z)) ≡ (x && z)
        by true y z g = ap (λ y. y && z) (g refl)
        by false y z g = refl

    -- where it fails for each of them
    pub together_failing : ((k : ℕ) → k < most_subjects → member s k ≡ true → target_holds b (k ∷ others) 0 ≡ false) →
        groups_together t s others ≡ record { decision = not_applicable; cards = [] }
    unfolding applies_to_some
    together_failing h =
        none_given (applies_to_some t s others)
        (λ i l.
        some_none (λ k. member s k && applies t (k ∷ others) i) most_subjects
        (λ k m. by (member s k) (applies t (k ∷ others) i) (λ e. out_failing (k ∷ others) (h k m e) i l)))
      where
        by : (x y : Bool) → (x ≡ true → y ≡ false) → (x && y) ≡ false
        by true y g = g refl
        by false y g = refl
