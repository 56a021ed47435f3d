-- The pass over the nodes, from the last to the first, that finds 14, 15 and 16: with one node more, and what it answers.
use mathlib.Core.Path.{◌≡◌, refl, sym, ap, ap₂, subst, ◌∙◌}
use mathlib.Core.Bool.{Bool, true, false, not, cond, ◌&&◌, ◌||◌}
use mathlib.Core.Logic.{inl, inr, ⊎_elim}
use mathlib.Core.List.{List, [], ◌∷◌, ◌++◌}
use Prim.Native.Nat.{ℕ, ◌+◌, ◌≤◌, ◌<◌}
use native.Mathlib.Nat.{eq-or-lt_of_le}
use native.Mathlib.Omega.{arith}
use borrow.Author.Tests.{le-leb, lt-leb, leb-true}
use lib.Dec.{eqb}
use lib.ListN.{get_or, set, get_or-replicate, length-replicate}
use lib.Seq.{get_or-set_same}
use Rattle.answer.specs.Answers.{refused, counted, zeros}
use Rattle.answer.specs.Refusals.{row, upward, None as Absent, First, here}
use Rattle.std.specs.Prelude.{Option, Some, None}
use Rattle.answer.proofs.Settling.{all_join, all_upward, first_in, first_after, first_upward, settled_first, settled_none}
use Rattle.answer.proofs.Tests.{neither, and_false}
use Rattle.combining.specs.Kinds.{only_one_applicable_kind}
use Rattle.combining.specs.Ways.{any}
use Rattle.encoding.specs.Layout.{count, kind}
use Rattle.table.specs.Tree.{is_rule, end_of}
use Rattle.table.specs.WellFormed.{WellFormed}
use Rattle.ruling.specs.Forest.{children_of}
use Rattle.ruling.proofs.ChildrenByParents.{EachOf, row_first, children_first, children_end}
use Rattle.standard.specs.Profile.{at_node, holds_rule, holds_group, mixed_group, rule_in_only_one, rule_as_root, profile_refusals, profiled}
use Rattle.standard.specs.Pass.{tally, Tallied, LowestNode, FoundFrom}
use Rattle.standard.specs.declared.profile.Found.{Found}
use Rattle.standard.proofs.Accepting.{mixed, in_only_one, root}
use Rattle.standard.proofs.Rows.{holds_by_rows, tallied_with}

-- a test passes at no number of a list exactly where it fails at each

pub each_fails : (p : ℕ → Bool) (js : List ℕ) → any p js ≡ false → EachOf (λ j. p j ≡ false) js
each_fails p [] e = tt
each_fails p (j ∷ js) e = let h = neither (p j) (any p js) e in (h.0, each_fails p js h.1)

pub none_passes : (p : ℕ → Bool) (js : List ℕ) → EachOf (λ j. p j ≡ false) js → any p js ≡ false
none_passes p [] h = refl
none_passes p (j ∷ js) h = ap₂ (λ x y. x || y) h.0 (none_passes p js h.1)

-- node j is a group of the kind only one applicable
abbrev pub only_one : List ℕ → ℕ → Bool
only_one t j = eqb (kind t j) only_one_applicable_kind

-- 14 and 15 by what a node holds
module _ (t : List ℕ) (j : ℕ) where
  pub mixed_by : {rules groups : Bool} → rules ≡ holds_rule t j → groups ≡ holds_group t j → mixed_group t j ≡ rules && groups
  unfolding mixed_group
  mixed_by e f = sym (ap₂ (λ x y. x && y) e f)

  pub in_only_one_by : {one rules : Bool} → one ≡ only_one t j → rules ≡ holds_rule t j → rule_in_only_one t j ≡ one && rules
  unfolding rule_in_only_one
  in_only_one_by e f = sym (ap₂ (λ x y. x && y) e f)

-- the lowest node at fault, with one node more
module _ (n : ℕ) (fault : ℕ → Bool) (i : ℕ) (m : Option ℕ) (l : i < n) (h : LowestNode n fault (i + 1) m) where
  pub lowest_with : (b : Bool) → fault i ≡ b → LowestNode n fault i (cond b (Some i) m)
  lowest_with true e = (record { lower = λ j a k. absurd (omega arith); found = inr (l, e) }, l)
  lowest_with false e = (
    record {
      lower =
          λ j a k. ⊎_elim (λ (d : i ≡ j). subst (λ x. fault x ≡ false) d e) (λ (d : i < j). h.0.lower j (omega arith) k) (eq-or-lt_of_le a);
      found = h.0.found;
    },
    h.1,
  )

module _ (t : List ℕ) (w : WellFormed t) where
  -- a rule holds nothing
  pub no_child : (j : ℕ) → j < count t → is_rule t j ≡ true → children_of t j ≡ []
  no_child j l e =
      children_first t w j l
      ∙ children_end t w j l (j + 1) (row_first t w j l) (omega (arith, w.rules j l (leb-true 4 (kind t j) e)))

  no_rule : (j : ℕ) → j < count t → is_rule t j ≡ true → false ≡ holds_rule t j
  unfolding holds_rule
  no_rule j l e = sym (ap (any (is_rule t)) (no_child j l e))

  -- with node i, where what is found of it is what its kind and its end give
  module _ (i : ℕ) (l : i < count t) {rules groups : List ℕ} {after : Found} (h : FoundFrom t (i + 1) rules groups after) where
    with_one : (f : Found) →
        f.row.rules ≡ tally (is_rule t i) (get_or rules (end_of t i) 0) → f.row.groups ≡ tally (not (is_rule t i)) (get_or groups (end_of t i) 0) →
        f.mixed ≡ cond (mixed_group t i) (Some i) after.mixed → f.in_only_one ≡ cond (rule_in_only_one t i) (Some i) after.in_only_one →
        FoundFrom t i (set rules i f.row.rules) (set groups i f.row.groups) f
    with_one f er eg em eo =
        record {
          rule_rows = tallied_with t w i l (is_rule t) rules h.rule_rows f.row.rules er;
          group_rows = tallied_with t w i l (λ j. not (is_rule t j)) groups h.group_rows f.row.groups eg;
          rules_here = sym (get_or-set_same rules i f.row.rules 0 (omega (arith, h.rule_rows.room)));
          groups_here = sym (get_or-set_same groups i f.row.groups 0 (omega (arith, h.group_rows.room)));
          mixed = rw em (lowest_with (count t) (mixed_group t) i after.mixed l h.mixed (mixed_group t i) refl);
          in_only_one = rw eo (lowest_with (count t) (rule_in_only_one t) i after.in_only_one l h.in_only_one (rule_in_only_one t i) refl);
        }

    -- a rule
    pub with_rule : 4 ≤ kind t i → (f : Found) →
        f.row.rules ≡ after.row.rules + 1 → f.row.groups ≡ after.row.groups → f.mixed ≡ after.mixed → f.in_only_one ≡ after.in_only_one →
        FoundFrom t i (set rules i f.row.rules) (set groups i f.row.groups) f
    with_rule k f er eg em eo =
        let e : is_rule t i ≡ true = le-leb 4 (kind t i) k in
        let next : i + 1 ≡ end_of t i = omega (arith, w.rules i l k) in
        let none = no_rule i l e in
        with_one f
        (er ∙ ap (λ x. x + 1) (h.rules_here ∙ ap (λ j. get_or rules j 0) next) ∙ sym (ap (λ b. tally b (get_or rules (end_of t i) 0)) e))
        (eg ∙ h.groups_here ∙ ap (λ j. get_or groups j 0) next ∙ sym (ap (λ b. tally (not b) (get_or groups (end_of t i) 0)) e))
        (em ∙ sym (ap (λ b. cond b (Some i) after.mixed) (mixed_by t i none refl)))
        (eo ∙ sym (ap (λ b. cond b (Some i) after.in_only_one) (in_only_one_by t i refl none ∙ and_false (only_one t i))))

    -- what a group holds
    rules_held : not (eqb after.row.rules (get_or rules (end_of t i) 0)) ≡ holds_rule t i
    unfolding holds_rule
    rules_held = ap (λ x. not (eqb x (get_or rules (end_of t i) 0))) h.rules_here ∙ sym (holds_by_rows t w i l (is_rule t) rules h.rule_rows)

    groups_held : not (eqb after.row.groups (get_or groups (end_of t i) 0)) ≡ holds_group t i
    unfolding holds_group
    groups_held =
        ap (λ x. not (eqb x (get_or groups (end_of t i) 0))) h.groups_here
        ∙ sym (holds_by_rows t w i l (λ j. not (is_rule t j)) groups h.group_rows)

    -- a group, where so many rules and groups stand on the row of the node where it ends
    pub with_group : kind t i < 4 → {one : Bool} → one ≡ only_one t i → (r g : ℕ) → r ≡ get_or rules (end_of t i) 0 → g ≡ get_or groups (end_of t i) 0 → (f : Found) →
        f.row.rules ≡ r → f.row.groups ≡ g + 1 → f.mixed ≡ cond (not (eqb after.row.rules r) && not (eqb after.row.groups g)) (Some i) after.mixed →
        f.in_only_one ≡ cond (one && not (eqb after.row.rules r)) (Some i) after.in_only_one →
        FoundFrom t i (set rules i f.row.rules) (set groups i f.row.groups) f
    with_group k {one} eo r g hr hg f er eg em ei =
        let e : is_rule t i ≡ false = lt-leb 4 (kind t i) k in
        let rs = ap (λ x. not (eqb after.row.rules x)) hr ∙ rules_held in
        let gs = ap (λ x. not (eqb after.row.groups x)) hg ∙ groups_held in
        with_one f
        (er ∙ hr ∙ sym (ap (λ b. tally b (get_or rules (end_of t i) 0)) e))
        (eg ∙ ap (λ x. x + 1) hg ∙ sym (ap (λ b. tally (not b) (get_or groups (end_of t i) 0)) e))
        (em ∙ sym (ap (λ b. cond b (Some i) after.mixed) (mixed_by t i rs gs)))
        (ei ∙ sym (ap (λ b. cond b (Some i) after.in_only_one) (in_only_one_by t i eo rs)))

-- before the last node, where all numbers are 0
pub found_none : (t : List ℕ) (n : ℕ) → count t < n → (i : ℕ) → i ≡ count t → (f : Found) → f.row.rules ≡ 0 → f.row.groups ≡ 0 → f.mixed ≡ None → f.in_only_one ≡ None →
    FoundFrom t i (zeros n) (zeros n) f
found_none t n l i e f er eg em eo =
    subst (λ k. FoundFrom t k (zeros n) (zeros n) f) (sym e) (record {
      rule_rows = rows (is_rule t);
      group_rows = rows (λ j. not (is_rule t j));
      rules_here = er ∙ sym none;
      groups_here = eg ∙ sym none;
      mixed = rw em (lowest (mixed_group t));
      in_only_one = rw eo (lowest (rule_in_only_one t));
    })
  where
    none : get_or (zeros n) (count t) 0 ≡ 0
    none = get_or-replicate {A = ℕ} n (count t) 0 0 l

    rows : (p : ℕ → Bool) → Tallied t p (count t) (zeros n)
    rows p =
        record {
          room = omega (arith, l, length-replicate {A = ℕ} n 0);
          each = λ j a b. absurd (omega arith);
          few = λ j a b. let e : j ≡ count t = omega arith in omega (arith, ap (λ k. get_or (zeros n) k 0) e, none);
        }

    lowest : (fault : ℕ → Bool) → LowestNode (count t) fault (count t) None
    lowest fault = (record { lower = λ j a b. absurd (omega arith); found = inl refl }, tt)

-- after the first node: which refusal comes first
module _ (t : List ℕ) {rules groups : List ℕ} {f : Found} (h : FoundFrom t 0 rules groups f) where
  -- a node that is lowest is at fault
  at_fault : (fault : ℕ → Bool) (m : ℕ) → LowestNode (count t) fault 0 (Some m) → fault m ≡ true
  at_fault fault m o =
      ⊎_elim (λ (e : m ≡ count t). absurd (omega (arith, o.1))) (λ (e : (m < count t) × (fault m ≡ true)). e.1) o.0.found

  -- no node is
  none_at_fault : (number : ℕ) (fault : ℕ → Bool) → LowestNode (count t) fault 0 None → Absent (upward (at_node number fault) 0 (count t))
  none_at_fault number fault o =
      all_upward (λ r. r.when ≡ false) (at_node number fault) (count t) 0 (λ j a b. (o.0.lower j (omega arith) (omega arith), tt))

  first_at_fault : (number : ℕ) (fault : ℕ → Bool) (m : ℕ) → LowestNode (count t) fault 0 (Some m) →
      First (upward (at_node number fault) 0 (count t)) (row number m (fault m))
  first_at_fault number fault m o =
      first_upward (at_node number fault) m (here (at_fault fault m o)) (count t) 0 (omega arith) (omega (arith, o.1)) (λ j a b. (o.0.lower j (omega arith) b, tt))

  -- 14
  pub found_mixed : (m : ℕ) → f.mixed ≡ Some m → refused 14 m ≡ profiled t
  unfolding profile_refusals
  found_mixed m e =
      sym
      (settled_first refused (counted (count t)) (profile_refusals t)
      (first_in (mixed t ++ in_only_one t) (root t)
      (first_in (mixed t) (in_only_one t) (first_at_fault 14 (mixed_group t) m (subst (LowestNode (count t) (mixed_group t) 0) e h.mixed)))))

  module _ (none : f.mixed ≡ None) where
    none_mixed : Absent (mixed t)
    none_mixed = none_at_fault 14 (mixed_group t) (subst (LowestNode (count t) (mixed_group t) 0) none h.mixed)

    -- 15
    pub found_in_only_one : (m : ℕ) → f.in_only_one ≡ Some m → refused 15 m ≡ profiled t
    unfolding profile_refusals
    found_in_only_one m e =
        sym
        (settled_first refused (counted (count t)) (profile_refusals t)
        (first_in (mixed t ++ in_only_one t) (root t)
        (first_after (mixed t) (in_only_one t) none_mixed
        (first_at_fault 15 (rule_in_only_one t) m (subst (LowestNode (count t) (rule_in_only_one t) 0) e h.in_only_one)))))

    module _ (none-one : f.in_only_one ≡ None) where
      none_before : Absent (mixed t ++ in_only_one t)
      none_before =
          all_join (λ r. r.when ≡ false) (mixed t) (in_only_one t) none_mixed
          (none_at_fault 15 (rule_in_only_one t) (subst (LowestNode (count t) (rule_in_only_one t) 0) none-one h.in_only_one))

      -- 16
      pub found_rule_root : is_rule t 0 ≡ true → refused 16 0 ≡ profiled t
      unfolding profile_refusals rule_as_root
      found_rule_root e =
          sym (settled_first refused (counted (count t)) (profile_refusals t) (first_after (mixed t ++ in_only_one t) (root t) none_before (here e)))

      -- the table is one of the profile
      pub found_nothing : is_rule t 0 ≡ false → counted (count t) ≡ profiled t
      unfolding profile_refusals rule_as_root
      found_nothing e =
          sym
          (settled_none refused (counted (count t)) (profile_refusals t)
          (all_join (λ r. r.when ≡ false) (mixed t ++ in_only_one t) (root t) none_before (e, tt)))
