-- The profile accepts an accepted table exactly where it conforms: each node is a rule or a group, as is asked for where it stands.
use mathlib.Core.Path.{◌≡◌, refl, sym, ap, ◌∙◌}
use mathlib.Core.Bool.{Bool, true, false, beq, not, cond, true≢false, ◌&&◌}
use mathlib.Core.Logic.{⊎_elim}
use mathlib.Core.List.{List, ◌++◌}
use Prim.Native.Nat.{ℕ, ◌+◌, ◌<◌}
use native.Mathlib.Nat.{eq-zero-or-pos}
use native.Mathlib.Omega.{arith}
use borrow.Author.Tests.{eq-eqb, ne_eqb, not-false}
use lib.Dec.{eqb}
use Rattle.answer.proofs.Below.{every_true, every_each}
use Rattle.answer.proofs.Settling.{all_join, all_upward}
use Rattle.answer.proofs.Tests.{and_true, and_false}
use Rattle.combining.specs.Ways.{any}
use Rattle.encoding.specs.Layout.{count}
use Rattle.table.specs.Tree.{is_rule, parent}
use Rattle.table.specs.Reading.{table_refusals, reading, Accepted}
use Rattle.table.specs.Conformance.{asks_for_rules, rule_asked, node_conforms, conforms}
use Rattle.table.proofs.Accepting.{found_accepted}
use Rattle.table.proofs.AcceptedIsWellFormed.{well_formed}
use Rattle.table.proofs.Tree.{parent_below}
use Rattle.table.proofs.ParentsAndSpansAgree.{parent_over}
use Rattle.ruling.specs.Forest.{children_of}
use Rattle.ruling.proofs.ChildrenByParents.{children_each, each_child_lem, first_child}
use Rattle.standard.specs.Profile.{at_node, holds_rule, holds_group, mixed_group, rule_in_only_one, rule_as_root, profile_refusals, Standard}
use Rattle.standard.proofs.Accepting.{mixed, in_only_one, root, standard_accepted, not_mixed, no_rule_in_only_one, no_rule_as_root}
use Rattle.standard.proofs.Pass.{each_fails, none_passes, only_one, mixed_by, in_only_one_by}

same : (x y : Bool) → beq x y ≡ true → x ≡ y
same true true e = refl
same true false e = sym e
same false true e = e
same false false e = refl

same_beq : (x y : Bool) → x ≡ y → beq x y ≡ true
same_beq true y e = ap (beq true) (sym e)
same_beq false y e = ap (beq false) (sym e)

-- what is asked, by the kind of the group
module _ (t : List ℕ) (i : ℕ) where
  asks_by : (one : Bool) → only_one t i ≡ one → asks_for_rules t i ≡ cond one false (is_rule t (i + 1))
  unfolding asks_for_rules
  asks_by one e = ap (λ b. cond b false (is_rule t (i + 1))) e

module _ (t : List ℕ) where
  -- what is asked of a node that has a parent
  pub asked_by_parent : (j : ℕ) → 0 < j → rule_asked t j ≡ asks_for_rules t (parent t j)
  unfolding rule_asked
  asked_by_parent j l = ap (λ b. cond b false (asks_for_rules t (parent t j))) (ne_eqb j 0 (λ z. omega arith))

  pub root_asked : rule_asked t 0 ≡ false
  unfolding rule_asked
  root_asked = refl

  -- in a table that conforms each node is as is asked for
  module _ (c : Accepted t) (e : conforms t ≡ true) where
    as_asked : (j : ℕ) → j < count t → is_rule t j ≡ rule_asked t j
    unfolding conforms node_conforms
    as_asked j l = same (is_rule t j) (rule_asked t j) (every_each (node_conforms t) (count t) e j l)

    module _ (i : ℕ) (l : i < count t) where
      none_holds : (p : ℕ → Bool) → ((j : ℕ) → is_rule t j ≡ asks_for_rules t i → p j ≡ false) → any p (children_of t i) ≡ false
      none_holds p h =
          let w = well_formed t c in
          none_passes p (children_of t i)
          (children_each t w i l (λ j. p j ≡ false)
          (λ j a b k. h j (as_asked j (omega (arith, w.inside i l)) ∙ asked_by_parent j (omega arith) ∙ ap (asks_for_rules t) k)))

      no_rules : asks_for_rules t i ≡ false → holds_rule t i ≡ false
      unfolding holds_rule
      no_rules h = none_holds (is_rule t) (λ j k. k ∙ h)

      no_groups : asks_for_rules t i ≡ true → holds_group t i ≡ false
      unfolding holds_group
      no_groups h = none_holds (λ j. not (is_rule t j)) (λ j k. ap not (k ∙ h))

      conforming_not_mixed : mixed_group t i ≡ false
      conforming_not_mixed = by (asks_for_rules t i) refl
        where
          by : (b : Bool) → asks_for_rules t i ≡ b → mixed_group t i ≡ false
          by true h = mixed_by t i refl (sym (no_groups h)) ∙ and_false (holds_rule t i)
          by false h = mixed_by t i (sym (no_rules h)) refl

      conforming_in_only_one : rule_in_only_one t i ≡ false
      conforming_in_only_one = by (only_one t i) refl
        where
          by : (b : Bool) → only_one t i ≡ b → rule_in_only_one t i ≡ false
          by true h = in_only_one_by t i (sym h) (sym (no_rules (asks_by t i true h)))
          by false h = in_only_one_by t i (sym h) refl

    pub conforming_standard : Standard t
    unfolding profile_refusals rule_as_root
    conforming_standard =
        all_join (λ r. r.when ≡ false) (table_refusals t) (profile_refusals t) c
        (all_join (λ r. r.when ≡ false) (mixed t ++ in_only_one t) (root t)
        (all_join (λ r. r.when ≡ false) (mixed t) (in_only_one t)
        (all_upward (λ r. r.when ≡ false) (at_node 14 (mixed_group t)) (count t) 0 (λ i a b. (conforming_not_mixed i (omega arith), tt)))
        (all_upward (λ r. r.when ≡ false) (at_node 15 (rule_in_only_one t)) (count t) 0 (λ i a b. (conforming_in_only_one i (omega arith), tt))))
        (as_asked 0 (well_formed t c).some ∙ root_asked, tt))

  -- a table that is read without a refusal and found to conform
  pub found_standard : {number : ℕ} {s : Bool} → number ≡ (reading t).number → s ≡ (eqb number 0 && conforms t) → number ≡ 0 → s ≡ true → Standard t
  found_standard {number} n c z e =
      conforming_standard (found_accepted t n z) (sym (ap (λ b. b && conforms t) (eq-eqb number 0 z)) ∙ sym c ∙ e)

module _ (t : List ℕ) (s : Standard t) where
  accepted : Accepted t
  accepted = standard_accepted t s

  -- where node i holds no node that passes a test, no node whose parent it is passes it
  child_fails : (i : ℕ) (p : ℕ → Bool) → any p (children_of t i) ≡ false → (k : ℕ) → 0 < k → k < count t → parent t k ≡ i → p k ≡ false
  child_fails i p e = each_child_lem t i (λ k. p k ≡ false) (each_fails p (children_of t i) e)

  -- in a table of the profile a node that has a parent is as its parent asks for
  module _ (j : ℕ) (some : 0 < j) (l : j < count t) where
    abbrev above : ℕ
    above = parent t j

    below : above < j
    below = parent_below t j some

    inside : above < count t
    inside = omega (arith, below)

    first_fails : (p : ℕ → Bool) → any p (children_of t above) ≡ false → p (above + 1) ≡ false
    first_fails p e =
        let w = well_formed t accepted in
        child_fails above p e (above + 1) (omega arith) (omega (arith, below))
        (first_child t w above inside (omega (arith, below, parent_over t w j some l)))

    holds : (p : ℕ → Bool) → p j ≡ true → any p (children_of t above) ≡ true
    holds p e = by (any p (children_of t above)) refl
      where
        by : (b : Bool) → any p (children_of t above) ≡ b → any p (children_of t above) ≡ true
        by true h = h
        by false h = absurd (true≢false (sym e ∙ child_fails above p h j some l refl))

    asked_rule : is_rule t j ≡ true → asks_for_rules t above ≡ true
    unfolding holds_rule holds_group
    asked_rule e =
        let rules : holds_rule t above ≡ true = holds (is_rule t) e in
        let one : only_one t above ≡ false = sym (and_true (only_one t above)) ∙ sym (in_only_one_by t above refl (sym rules)) ∙ no_rule_in_only_one t s above inside in
        let groups : holds_group t above ≡ false = sym (mixed_by t above (sym rules) refl) ∙ not_mixed t s above inside in
        asks_by t above false one ∙ not-false (is_rule t (above + 1)) (first_fails (λ k. not (is_rule t k)) groups)

    asked_group : is_rule t j ≡ false → asks_for_rules t above ≡ false
    unfolding holds_rule holds_group
    asked_group e =
        let groups : holds_group t above ≡ true = holds (λ k. not (is_rule t k)) (ap not e) in
        let rules : holds_rule t above ≡ false = sym (and_true (holds_rule t above)) ∙ sym (mixed_by t above refl (sym groups)) ∙ not_mixed t s above inside in
        by (only_one t above) refl (first_fails (is_rule t) rules)
      where
        by : (b : Bool) → only_one t above ≡ b → is_rule t (above + 1) ≡ false → asks_for_rules t above ≡ false
        by true h _ = asks_by t above true h
        by false h f = asks_by t above false h ∙ f

    child_as_asked : is_rule t j ≡ rule_asked t j
    child_as_asked = by (is_rule t j) refl ∙ sym (asked_by_parent t j some)
      where
        by : (b : Bool) → is_rule t j ≡ b → is_rule t j ≡ asks_for_rules t above
        by true e = e ∙ sym (asked_rule e)
        by false e = e ∙ sym (asked_group e)

  pub standard_conforms : conforms t ≡ true
  unfolding conforms node_conforms rule_as_root
  standard_conforms =
      every_true (node_conforms t) (count t)
      (λ j l.
      same_beq (is_rule t j) (rule_asked t j)
      (⊎_elim
      (λ (z : j ≡ 0). ap (is_rule t) z ∙ no_rule_as_root t s ∙ sym (root_asked t) ∙ ap (rule_asked t) (sym z))
      (λ (z : 0 < j). child_as_asked j z l)
      (eq-zero-or-pos j)))
