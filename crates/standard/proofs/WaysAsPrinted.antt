-- The four ways are appendix C's algorithms: of policies the policy-combining ones, of rules, which never give I, the rule-combining ones. Nodes are
-- the children, for any test of which apply.
use mathlib.Core.Path.{◌≡◌, refl, sym, ap, ap₂, ◌∙◌}
use mathlib.Core.Bool.{Bool, true, false, not, cond, ◌&&◌, ◌||◌}
use mathlib.Core.List.{List, [], ◌∷◌, map}
use mathlib.Core.Option.{some}
use Prim.Native.Nat.{ℕ, ◌<◌}
use lib.Dec.{eqb}
use lib.ListN.{get_or}
use Rattle.answer.proofs.Tests.{or_false}
use Rattle.combining.specs.Kinds.{only_one_applicable_kind}
use Rattle.combining.specs.Ways.{not_applicable, permit, deny, indeterminate, Child, decisions, counting, applicable, first_applicable, sole, only_one_applicable, any, permit_overrides, deny_overrides, way}
use Rattle.combining.proofs.Fold.{pick, absent_first, way_none}
use Rattle.ruling.specs.Meaning.{child_of, decision}
use Rattle.ruling.proofs.ChildrenByParents.{EachOf}
use Rattle.ruling.proofs.Decisions.{decision_below, ruled_not, child_absent}
use Rattle.standard.specs.AppendixC.{Rule, Policy, any_of, ended_by, decides, rule_gives, policy_gives, rule_deny_overrides, rule_permit_overrides, rule_first_applicable, policy_deny_overrides, policy_permit_overrides, policy_first_applicable, policy_only_one_applicable, is_untold, is_matched, from_matched, by_matched, rule_combining, policy_combining}
use Rattle.standard.specs.AsPrinted.{as_rule, told, as_policy}

-- where a child ends it with a result that is the same for all that do
ended : {C : Type 0} (ends : C → Bool) (x atEnd : ℕ) (cs : List C) → ended_by ends (λ c. x) atEnd cs ≡ cond (any_of ends cs) x atEnd
ended ends x atEnd [] = refl
ended ends x atEnd (c ∷ cs) = by (ends c) (ended ends x atEnd cs)
  where
    by : (b : Bool) → ended_by ends (λ c. x) atEnd cs ≡ cond (any_of ends cs) x atEnd →
        cond b x (ended_by ends (λ c. x) atEnd cs) ≡ cond (b || any_of ends cs) x atEnd
    by true e = refl
    by false e = e

-- "P, D or I" is any decision but not applicable
decides_is : (d : ℕ) → d < 4 → decides d ≡ not (eqb d not_applicable)
decides_is = pick 4 (λ d. decides d ≡ not (eqb d not_applicable)) (search)

-- the first decision that is not N, one by one
first_by : (d : ℕ) (ds : List ℕ) → d < 4 → first_applicable (d ∷ ds) ≡ cond (decides d) d (first_applicable ds)
first_by d ds l = by (eqb d not_applicable) ∙ ap (λ b. cond b d (first_applicable ds)) (sym (decides_is d l))
  where
    by : (b : Bool) → get_or (cond b (applicable ds) (d ∷ applicable ds)) 0 not_applicable ≡ cond (not b) d (first_applicable ds)
    by true = refl
    by false = refl

by_matched_lem : (ds : List ℕ) → by_matched ds ≡ sole ds
by_matched_lem [] = refl
by_matched_lem (d ∷ []) = refl
by_matched_lem (d ∷ e ∷ ds) = refl

-- a target always matches or does not

never_untold : (b : Bool) (d : ℕ) → is_untold (record { applicable = told b; gives = d }) ≡ false
never_untold true d = refl
never_untold false d = refl

matched_is : (b : Bool) (d : ℕ) → is_matched (record { applicable = told b; gives = d }) ≡ b
matched_is true d = refl
matched_is false d = refl

module _ (a : ℕ → Bool) (t : List ℕ) where
  -- nodes as children of our ways
  abbrev pub as_children : List ℕ → List Child
  as_children js = map (λ j. child_of a j (decision a t j)) js

  -- nodes as children of the standard's algorithms, where gives tells what each gives
  module _ {C : Type 0} (asC : ℕ → C) (gives : C → ℕ) (same : (j : ℕ) → gives (asC j) ≡ decision a t j) where
    any_as : (p : ℕ → Bool) (js : List ℕ) → any p (decisions (as_children js)) ≡ any_of (λ c. p (gives c)) (map asC js)
    any_as p [] = refl
    any_as p (j ∷ js) = ap₂ (λ x y. x || y) (sym (ap p (same j))) (any_as p js)

    first_as : (js : List ℕ) → first_applicable (decisions (as_children js)) ≡ ended_by (λ c. decides (gives c)) gives not_applicable (map asC js)
    first_as [] = refl
    first_as (j ∷ js) =
        first_by (decision a t j) (decisions (as_children js)) (decision_below a t j)
        ∙ ap₂ (λ d e. cond (decides d) d e) (sym (same j)) (first_as js)

    -- where two tests are the same at each, so is whether some child passes
    any_same : (p q : C → Bool) (js : List ℕ) → EachOf (λ j. p (asC j) ≡ q (asC j)) js → any_of p (map asC js) ≡ any_of q (map asC js)
    any_same p q [] h = refl
    any_same p q (j ∷ js) h = ap₂ (λ x y. x || y) h.0 (any_same p q js h.1)

    none_of : (p : C → Bool) (js : List ℕ) → EachOf (λ j. p (asC j) ≡ false) js → any_of p (map asC js) ≡ false
    none_of p [] h = refl
    none_of p (j ∷ js) h = ap₂ (λ x y. x || y) h.0 (none_of p js h.1)

  -- policies: each way is the policy-combining algorithm of its kind

  policies_any : (p : ℕ → Bool) (js : List ℕ) → any p (decisions (as_children js)) ≡ any_of (λ c. p c.gives) (map (as_policy a t) js)
  policies_any = any_as (as_policy a t) (λ c. c.gives) (λ j. refl)

  counting_as : (js : List ℕ) → counting (as_children js) ≡ from_matched (map (as_policy a t) js)
  counting_as [] = refl
  counting_as (j ∷ js) = ap₂ (λ b ds. cond b (decision a t j ∷ ds) ds) (sym (matched_is (a j) (decision a t j))) (counting_as js)

  each_all : (P : ℕ → Type 0) → ((j : ℕ) → P j) → (js : List ℕ) → EachOf P js
  each_all P h [] = tt
  each_all P h (j ∷ js) = (h j, each_all P h js)

  module _ (js : List ℕ) where
    abbrev ps : List Policy
    ps = map (as_policy a t) js

    abbrev ds : List ℕ
    ds = decisions (as_children js)

    policies_first : policy_first_applicable ps ≡ first_applicable ds
    policies_first = sym (first_as (as_policy a t) (λ c. c.gives) (λ j. refl) js)

    policies_only_one : policy_only_one_applicable ps ≡ only_one_applicable (as_children js)
    policies_only_one =
        rw
        (none_of (as_policy a t) (λ c. c.gives) (λ j. refl) is_untold js
        (each_all (λ j. is_untold (as_policy a t j) ≡ false) (λ j. never_untold (a j) (decision a t j)) js))
        (by_matched_lem (from_matched ps) ∙ ap sole (sym (counting_as js)))

    policies_permit : policy_permit_overrides ps ≡ permit_overrides ds
    policies_permit =
        ended (policy_gives permit) permit _ ps
        ∙ simp (policies_any (eqb permit) js, policies_any (eqb deny) js, policies_any (eqb indeterminate) js)

    policies_deny : policy_deny_overrides ps ≡ deny_overrides ds
    policies_deny =
        ended (λ p. policy_gives deny p || policy_gives indeterminate p) deny _ ps
        ∙ simp (policies_any (λ d. eqb deny d || eqb indeterminate d) js, policies_any (eqb permit) js)

    pub policies : (k : ℕ) → k < 4 → policy_combining k ps ≡ way k (as_children js)
    unfolding policy_combining
    policies = pick 4 (λ k. policy_combining k ps ≡ way k (as_children js)) (policies_first, (policies_only_one, (policies_permit, (policies_deny, tt))))

  -- rules: a rule never gives I, so that the clauses on it are not reached, and each way is the rule-combining algorithm of its kind

  pub each_then : (P Q : ℕ → Type 0) → ((j : ℕ) → P j → Q j) → (js : List ℕ) → EachOf P js → EachOf Q js
  each_then P Q h [] ps = tt
  each_then P Q h (j ∷ js) ps = (h j ps.0, each_then P Q h js ps.1)

  -- node j does not give I
  abbrev pub Told : ℕ → Type 0
  Told j = eqb indeterminate (decision a t j) ≡ false

  module _ (js : List ℕ) (each : EachOf Told js) where
    abbrev rs : List Rule
    rs = map (as_rule a t) js

    abbrev rule_decisions : List ℕ
    rule_decisions = decisions (as_children js)

    rules_any : (p : ℕ → Bool) → any p rule_decisions ≡ any_of (λ r. p r.gives) rs
    rules_any p = any_as (as_rule a t) (λ r. r.gives) (λ j. refl) p js

    none_gives : any_of (rule_gives indeterminate) rs ≡ false
    none_gives = none_of (as_rule a t) (λ r. r.gives) (λ j. refl) (rule_gives indeterminate) js each

    none_with_effect : (e : ℕ) → any_of (λ r. rule_gives indeterminate r && eqb e r.effect) rs ≡ false
    none_with_effect e =
        none_of (as_rule a t) (λ r. r.gives) (λ j. refl) (λ r. rule_gives indeterminate r && eqb e r.effect) js
        (each_then Told (λ j. (rule_gives indeterminate (as_rule a t j) && eqb e (as_rule a t j).effect) ≡ false)
        (λ j h. ap (λ b. b && eqb e (as_rule a t j).effect) h) js each)

    deny_alone : any_of (λ r. rule_gives deny r || rule_gives indeterminate r) rs ≡ any_of (rule_gives deny) rs
    deny_alone =
        any_same (as_rule a t) (λ r. r.gives) (λ j. refl) (λ r. rule_gives deny r || rule_gives indeterminate r) (rule_gives deny) js
        (each_then Told (λ j. (rule_gives deny (as_rule a t j) || rule_gives indeterminate (as_rule a t j)) ≡ rule_gives deny (as_rule a t j))
        (λ j h. ap (λ b. rule_gives deny (as_rule a t j) || b) h ∙ or_false (rule_gives deny (as_rule a t j))) js each)

    rules_first : rule_first_applicable rs ≡ first_applicable rule_decisions
    rules_first = sym (first_as (as_rule a t) (λ r. r.gives) (λ j. refl) js)

    rules_permit : rule_permit_overrides rs ≡ permit_overrides rule_decisions
    rules_permit =
        ended (rule_gives permit) permit _ rs
        ∙ simp (none_with_effect permit, rules_any (eqb permit), rules_any (eqb deny), rules_any (eqb indeterminate), none_gives)

    rules_deny : rule_deny_overrides rs ≡ deny_overrides rule_decisions
    rules_deny =
        ended (rule_gives deny) deny _ rs
        ∙ simp (none_with_effect deny, none_gives, rules_any (λ d. eqb deny d || eqb indeterminate d), rules_any (eqb permit), deny_alone)

    pub rules : (k : ℕ) → k < 4 → (k ≡ only_one_applicable_kind → ⊥) → rule_combining k rs ≡ some (way k (as_children js))
    unfolding rule_combining
    rules =
        pick 4 (λ k. (k ≡ only_one_applicable_kind → ⊥) → rule_combining k rs ≡ some (way k (as_children js)))
        (λ h. ap some rules_first, (λ h. absurd (h refl), (λ h. ap some rules_permit, (λ h. ap some rules_deny, tt))))

  -- a group whose children do not apply gives N of them
  pub absent_all : (k : ℕ) → k < 4 → (js : List ℕ) → EachOf (λ j. a j ≡ false) js → way k (as_children js) ≡ not_applicable
  absent_all k l [] h = way_none k l
  absent_all k l (j ∷ js) h =
      ap (λ c. way k (c ∷ as_children js)) (ap (child_of a j) (sym (ruled_not a t j h.0)) ∙ child_absent a t j h.0)
      ∙ absent_first k (as_children js) l
      ∙ absent_all k l js h.1
