-- In a table of the profile every group of rules combines by appendix C's rule-combining algorithm of its kind, and every group of groups by its
-- policy-combining one, for any test of which nodes apply that is closed.
use mathlib.Core.Path.{◌≡◌, refl, sym, ap, ◌∙◌}
use mathlib.Core.Bool.{Bool, true, false, not, cond, true≢false}
use mathlib.Core.Logic.{⊎_elim}
use mathlib.Core.List.{List, [], map}
use mathlib.Core.Option.{some}
use Prim.Native.Nat.{ℕ, ◌≤◌, ◌<◌}
use native.Mathlib.Omega.{arith}
use borrow.Author.Tests.{le-leb, leb-true, eq-eqb, not-false}
use lib.Dec.{eqb}
use Rattle.answer.proofs.Tests.{lt_or_ge}
use Rattle.combining.specs.Kinds.{only_one_applicable_kind, permit_rule_kind}
use Rattle.combining.specs.Ways.{not_applicable, permit, deny, indeterminate, any, way}
use Rattle.combining.proofs.Fold.{way_none}
use Rattle.encoding.specs.Layout.{count, kind}
use Rattle.table.specs.Tree.{is_rule}
use Rattle.table.specs.Reading.{Accepted}
use Rattle.table.proofs.AcceptedIsWellFormed.{well_formed}
use Rattle.ruling.specs.Forest.{under, children_of}
use Rattle.targets.specs.Closed.{Closed}
use Rattle.ruling.specs.Meaning.{gives, children, decision}
use Rattle.ruling.proofs.ChildrenByParents.{children_each}
use Rattle.ruling.proofs.DecisionByChildren.{decision_by_children}
use Rattle.ruling.proofs.Decisions.{gives_not, gives_rule, gives_group, ruled_not}
use Rattle.standard.specs.Profile.{holds_rule, holds_group, Standard}
use Rattle.standard.specs.AppendixC.{rule_combining, policy_combining}
use Rattle.standard.specs.AsPrinted.{as_rule, as_policy, rules_of, policies_of}
use Rattle.standard.proofs.Accepting.{standard_accepted, not_mixed, no_rule_in_only_one}
use Rattle.standard.proofs.Pass.{each_fails, no_child, mixed_by, in_only_one_by}
use Rattle.standard.proofs.WaysAsPrinted.{as_children, Told, policies, each_then, rules, absent_all}

module _ (a : ℕ → Bool) (t : List ℕ) where
  -- a rule gives its effect or N
  rule_told : (j : ℕ) → 4 ≤ kind t j → Told a t j
  rule_told j l = by (a j) refl
    where
      effect_told : (b : Bool) → eqb indeterminate (cond b permit deny) ≡ false
      effect_told true = refl
      effect_told false = refl

      by : (b : Bool) → a j ≡ b → Told a t j
      by true e = ap (eqb indeterminate) (gives_rule a t j (children a t (under t j)) e l) ∙ effect_told (eqb (kind t j) permit_rule_kind)
      by false e = ap (eqb indeterminate) (sym (ruled_not a t j e))

  -- a group gives what its way gives of its children, whether it applies or not
  module _ (c : Accepted t) (closed : Closed t a) (i : ℕ) (l : i < count t) (g : kind t i < 4) where
    decision_way : decision a t i ≡ way (kind t i) (as_children a t (children_of t i))
    decision_way = decision_by_children a t c i l ∙ by (a i) refl
      where
        by : (b : Bool) → a i ≡ b → gives a t i (as_children a t (children_of t i)) ≡ way (kind t i) (as_children a t (children_of t i))
        by true e = gives_group a t i (as_children a t (children_of t i)) e g
        by false e =
            gives_not a t i (as_children a t (children_of t i)) e
            ∙ sym
            (absent_all a t (kind t i) g (children_of t i)
            (children_each t (well_formed t c) i l (λ j. a j ≡ false) (λ j m n o. closed i j l (omega arith) n e)))

    -- an empty group gives none by both; "There is no rule-combining form of only-one-applicable."
    pub empty_as_printed : children_of t i ≡ [] →
        (decision a t i ≡ not_applicable)
        × (policy_combining (kind t i) (policies_of a t i) ≡ not_applicable)
        × ((kind t i ≡ only_one_applicable_kind → ⊥) → rule_combining (kind t i) (rules_of a t i) ≡ some not_applicable)
    empty_as_printed e =
        let none = way_none (kind t i) g in (
          decision_way ∙ ap (λ js. way (kind t i) (as_children a t js)) e ∙ none,
          ap (λ js. policy_combining (kind t i) (map (as_policy a t) js)) e ∙ policies a t [] (kind t i) g ∙ none,
          λ h. ap (λ js. rule_combining (kind t i) (map (as_rule a t) js)) e ∙ rules a t [] tt (kind t i) g h ∙ ap some none,
        )

module _ (t : List ℕ) (s : Standard t) (a : ℕ → Bool) (closed : Closed t a) (i : ℕ) (l : i < count t) where
  accepted : Accepted t
  accepted = standard_accepted t s

  -- a node that holds something is a group
  is_group : (p : ℕ → Bool) → any p (children_of t i) ≡ true → kind t i < 4
  is_group p e =
      ⊎_elim
      (λ (g : kind t i < 4). g)
      (λ (r : 4 ≤ kind t i). absurd (true≢false (sym e ∙ ap (any p) (no_child t (well_formed t accepted) i l (le-leb 4 (kind t i) r)))))
      (lt_or_ge (kind t i) 4)

  -- "every group of rules combines by appendix C's rule-combining text"
  pub rules_as_printed : holds_rule t i ≡ true → rule_combining (kind t i) (rules_of a t i) ≡ some (decision a t i)
  unfolding holds_rule holds_group
  rules_as_printed e =
      let g = is_group (is_rule t) e in
      let none : holds_group t i ≡ false = sym (mixed_by t i (sym e) refl) ∙ not_mixed t s i l in
      rules a t (children_of t i)
      (each_then a t (λ j. not (is_rule t j) ≡ false) (Told a t) (λ j h. rule_told a t j (leb-true 4 (kind t j) (not-false (is_rule t j) h)))
      (children_of t i) (each_fails (λ j. not (is_rule t j)) (children_of t i) none))
      (kind t i) g
      (λ k. true≢false (sym (in_only_one_by t i (sym (eq-eqb (kind t i) only_one_applicable_kind k)) (sym e)) ∙ no_rule_in_only_one t s i l))
      ∙ ap some (sym (decision_way a t accepted closed i l g))

  -- "and every group of groups by its policy-combining text"
  pub groups_as_printed : holds_group t i ≡ true → policy_combining (kind t i) (policies_of a t i) ≡ decision a t i
  unfolding holds_group
  groups_as_printed e =
      let g = is_group (λ j. not (is_rule t j)) e in
      policies a t (children_of t i) (kind t i) g ∙ sym (decision_way a t accepted closed i l g)
