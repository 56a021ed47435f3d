-- The convention profile of a base with an expansion fitted to it, where both are tables of the profile: the table of both is one again where the root
-- of the base holds no rule, and is refused with 14 at the root where it does.
use mathlib.Core.Path.{◌≡◌, refl, sym, ap, ap₂, ◌∙◌}
use mathlib.Core.Bool.{Bool, true, false, beq, not, cond, ◌||◌}
use mathlib.Core.Logic.{⊎_elim}
use mathlib.Core.List.{List, [], ◌∷◌, ◌++◌}
use Prim.Native.Nat.{ℕ, ◌+◌, ◌-◌, ◌≤◌, ◌<◌}
use native.Mathlib.Nat.{eq-zero-or-pos}
use native.Mathlib.Omega.{arith}
use lib.Dec.{eqb, leb}
use Rattle.answer.specs.Answers.{refused, counted}
use Rattle.answer.specs.Refusals.{here}
use Rattle.answer.proofs.Below.{every_true, every_each}
use Rattle.answer.proofs.Settling.{first_in, first_after, first_upward, settled_first}
use Rattle.answer.proofs.Tests.{lt_or_ge, or_true, or_false}
use Rattle.combining.specs.Kinds.{only_one_applicable_kind, permit_rule_kind}
use Rattle.combining.specs.Ways.{any}
use Rattle.encoding.specs.Layout.{count, kind}
use Rattle.table.specs.Tree.{is_rule, parent}
use Rattle.table.specs.Reading.{table_refusals, Accepted}
use Rattle.table.specs.Conformance.{asks_for_rules, rule_asked, node_conforms, conforms}
use Rattle.table.specs.WellFormed.{WellFormed}
use Rattle.table.proofs.AcceptedIsWellFormed.{well_formed}
use Rattle.table.proofs.Tree.{parent_below}
use Rattle.ruling.specs.Forest.{children_of}
use Rattle.ruling.proofs.ChildrenByParents.{EachOf, children_each, each_child_lem, first_child}
use Rattle.standard.specs.Profile.{at_node, holds_rule, holds_group, mixed_group, rule_as_root, profile_refusals, standard_refusals, Standard, reading_standard}
use Rattle.standard.proofs.Accepting.{mixed, in_only_one, root, standard_accepted, no_rule_as_root}
use Rattle.standard.proofs.ConformingIsStandard.{asked_by_parent, root_asked, conforming_standard, standard_conforms}
use Rattle.standard.proofs.Pass.{each_fails, mixed_by}
use Rattle.attaching.specs.Attached.{attached_bytes, Attaches}
use Rattle.attaching.specs.Fitted.{Fitted}
use Rattle.attaching.proofs.AttachedIsFitted.{attached_fitted, attached_accepted}
use Rattle.attaching.proofs.Trees.{parent_base, parent_attached, parent_expansion, last_child}

-- a test of a list with one number more
any_more : (p : ℕ → Bool) (is : List ℕ) (j : ℕ) → any p (is ++ (j ∷ [])) ≡ (any p is || p j)
any_more p [] j = or_false (p j)
any_more p (i ∷ is) j = by (p i) (any_more p is j)
  where
    by : (x : Bool) → any p (is ++ (j ∷ [])) ≡ (any p is || p j) → (x || any p (is ++ (j ∷ []))) ≡ ((x || any p is) || p j)
    by true h = refl
    by false h = h

-- tests that agree at each number of a list
any_same : (p q : ℕ → Bool) (is : List ℕ) → EachOf (λ i. p i ≡ q i) is → any p is ≡ any q is
any_same p q [] e = refl
any_same p q (i ∷ is) e = ap₂ (λ x y. x || y) e.0 (any_same p q is e.1)

-- a group stands where one is asked for
group_conforms : (t : List ℕ) (i : ℕ) → is_rule t i ≡ false → rule_asked t i ≡ false → node_conforms t i ≡ true
unfolding node_conforms
group_conforms t i e h = ap₂ beq e h

-- Nodes m i of table t that have the kinds of nodes i of table u and, but for node 0 of u, the parents: they are as is asked for where those of u are,
-- if the first of them is.
module _ (t u : List ℕ) (m : ℕ → ℕ) (shift : (i k : ℕ) → m (i + k) ≡ m i + k) (kinds : (i : ℕ) → i < count u → kind t (m i) ≡ kind u i)
    (parents : (i : ℕ) → 0 < i → i < count u → parent t (m i) ≡ m (parent u i)) where
  asks_same : (i : ℕ) → i + 1 < count u → asks_for_rules t (m i) ≡ asks_for_rules u i
  unfolding asks_for_rules
  asks_same i l =
      ap₂ (λ k j. cond (eqb k only_one_applicable_kind) false (leb permit_rule_kind j)) (kinds i (omega arith)) (ap (kind t) (sym (shift i 1)) ∙ kinds (i + 1) l)

  asked_same : (i : ℕ) → 0 < i → i < count u → rule_asked t (m i) ≡ rule_asked u i
  asked_same i o l =
      let z : i ≡ 0 + i = omega arith in
      asked_by_parent t (m i) (omega (arith, ap m z, shift 0 i))
      ∙ ap (asks_for_rules t) (parents i o l)
      ∙ asks_same (parent u i) (omega (arith, parent_below u i o))
      ∙ sym (asked_by_parent u i o)

  conform_alike : conforms u ≡ true → node_conforms t (m 0) ≡ true → (i : ℕ) → i < count u → node_conforms t (m i) ≡ true
  unfolding conforms node_conforms
  conform_alike c first i l =
      ⊎_elim
      (λ (z : i ≡ 0). ap (λ j. node_conforms t (m j)) z ∙ first)
      (λ (o : 0 < i).
      ap₂ (λ k asked. beq (leb permit_rule_kind k) asked) (kinds i l) (asked_same i o l) ∙ every_each (node_conforms u) (count u) c i l)
      (eq-zero-or-pos i)

module _ (t b e : List ℕ) (u : Accepted t) (s : Standard b) (r : Standard e) (f : Fitted t b e) where
  v : WellFormed b
  v = well_formed b (standard_accepted b s)

  w : WellFormed e
  w = well_formed e (standard_accepted e r)

  abbrev n : ℕ
  n = count b

  -- the root, and the expansion's root, are groups
  root_group : is_rule t 0 ≡ false
  unfolding rule_as_root
  root_group = ap (leb permit_rule_kind) (f.base_nodes 0 v.some).kinds ∙ no_rule_as_root b s

  attached_group : is_rule t n ≡ false
  unfolding rule_as_root
  attached_group =
      let z : n ≡ n + 0 = omega arith in
      ap (is_rule t) z ∙ ap (leb permit_rule_kind) (f.expansion_nodes 0 w.some).kinds ∙ no_rule_as_root e r

  -- so the root holds a rule exactly where the base's does, and it holds a group
  root_holds : (p : ℕ → Bool) → any (λ j. p (kind t j)) (children_of t 0) ≡ (any (λ j. p (kind b j)) (children_of b 0) || p (kind t n))
  root_holds p =
      ap (any (λ j. p (kind t j))) (last_child t b e v w f)
      ∙ any_more (λ j. p (kind t j)) (children_of b 0) n
      ∙ ap (λ x. x || p (kind t n))
      (any_same (λ j. p (kind t j)) (λ j. p (kind b j)) (children_of b 0)
      (children_each b v 0 v.some (λ j. p (kind t j) ≡ p (kind b j)) (λ j l h o. ap p (f.base_nodes j (omega (arith, v.root))).kinds)))

  rules_held : holds_rule t 0 ≡ holds_rule b 0
  unfolding holds_rule
  rules_held = root_holds (leb permit_rule_kind) ∙ ap (λ x. holds_rule b 0 || x) attached_group ∙ or_false (holds_rule b 0)

  group_held : holds_group t 0 ≡ true
  unfolding holds_group
  group_held = root_holds (λ k. not (leb permit_rule_kind k)) ∙ ap (λ x. holds_group b 0 || not x) attached_group ∙ or_true (holds_group b 0)

  -- 14 at the root, where the base's holds a rule
  pub fitted_mixed : holds_rule b 0 ≡ true → reading_standard t ≡ refused 14 0
  unfolding profile_refusals
  fitted_mixed h =
      settled_first refused (counted (count t)) (standard_refusals t)
      (first_after (table_refusals t) (profile_refusals t) u
      (first_in (mixed t ++ in_only_one t) (root t)
      (first_in (mixed t) (in_only_one t)
      (first_upward (at_node 14 (mixed_group t)) 0 (here (mixed_by t 0 (sym (rules_held ∙ h)) (sym group_held))) (count t) 0 (omega arith)
      (omega (arith, (well_formed t u).some)) (λ j a l. absurd (omega arith))))))

  -- where it holds none, every node is as is asked for
  module _ (h : holds_rule b 0 ≡ false) where
    first_group : is_rule t 1 ≡ false
    unfolding holds_rule
    first_group =
        let some : 1 < count t = omega (arith, f.counts, v.some, w.some) in
        each_child_lem t 0 (λ j. is_rule t j ≡ false) (each_fails (is_rule t) (children_of t 0) (rules_held ∙ h)) 1 (omega arith) some
        (first_child t (well_formed t u) 0 (omega arith) (omega (arith, f.root_span)))

    groups_asked : asks_for_rules t 0 ≡ false
    unfolding asks_for_rules
    groups_asked = by (eqb (kind t 0) only_one_applicable_kind)
      where
        by : (x : Bool) → cond x false (is_rule t 1) ≡ false
        by true = refl
        by false = first_group

    base_conforms : (i : ℕ) → i < n → node_conforms t i ≡ true
    base_conforms =
        conform_alike t b (λ i. i) (λ i k. refl) (λ i l. (f.base_nodes i l).kinds) (λ i o l. parent_base t b e v w f i l) (standard_conforms b s)
        (group_conforms t 0 root_group (root_asked t))

    expansion_conforms : (i : ℕ) → i < count e → node_conforms t (n + i) ≡ true
    expansion_conforms =
        let z : n + 0 ≡ n = omega arith in
        conform_alike t e (λ i. n + i) (λ i k. omega arith) (λ i l. (f.expansion_nodes i l).kinds) (parent_expansion t b e v w f) (standard_conforms e r)
        (ap (node_conforms t) z
        ∙ group_conforms t n attached_group
        (asked_by_parent t n v.some ∙ ap (asks_for_rules t) (parent_attached t b e v w f) ∙ groups_asked))

    pub fitted_standard : Standard t
    unfolding conforms
    fitted_standard =
        conforming_standard t u
        (every_true (node_conforms t) (count t)
        (λ i l.
        ⊎_elim
        (base_conforms i)
        (λ (o : n ≤ i).
        let z : i ≡ n + (i - n) = omega arith in ap (node_conforms t) z ∙ expansion_conforms (i - n) (omega (arith, f.counts)))
        (lt_or_ge i n)))

-- the same of what attaching writes
module _ (b e : List ℕ) (a : Attaches b e) (s : Standard b) (r : Standard e) where
  pub attached_standard : holds_rule b 0 ≡ false → Standard (attached_bytes b e)
  attached_standard = fitted_standard (attached_bytes b e) b e (attached_accepted b e a) s r (attached_fitted b e a)

  pub attached_mixed : holds_rule b 0 ≡ true → reading_standard (attached_bytes b e) ≡ refused 14 0
  attached_mixed = fitted_mixed (attached_bytes b e) b e (attached_accepted b e a) s r (attached_fitted b e a)
