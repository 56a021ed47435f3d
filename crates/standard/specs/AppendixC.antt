-- The combining algorithms of OASIS XACML 2.0, appendix C, as the standard has them: those over rules and those over policies, apart. Written P
-- for permit, D for deny, N for not applicable, I for indeterminate.
-- Assumes nothing: these are definitions.
use Rattle.std.specs.Prelude.{Bool, true, false, cond, ◌&&◌, ◌||◌, List, [], ◌∷◌, ℕ, eqb}
use Rattle.std.proofs.Math.Option.{Option, none, some}
use Rattle.combining.specs.Kinds.{first_applicable_kind, only_one_applicable_kind, permit_overrides_kind}
use Rattle.combining.specs.Ways.{not_applicable, permit, deny, indeterminate}

-- A rule: its effect, P or D, and what it gives.
pub record Rule : Type 0 where
  pub effect : ℕ
  pub gives : ℕ

-- Whether a policy is applicable, "which is whether its target matches": it is, it is not, or it "cannot be told".
pub data Applicable : Type 0 where
  matched : Applicable
  unmatched : Applicable
  untold : Applicable

-- A child of a policy set, a policy or a policy set: whether it is applicable, and what it gives.
pub record Policy : Type 0 where
  pub applicable : Applicable
  pub gives : ℕ

module _ {C : Type 0} where
  -- "if any gave": some child passes the test
  abbrev pub any_of : (C → Bool) → List C → Bool
  any_of p [] = false
  any_of p (c ∷ cs) = p c || any_of p cs

  -- "goes over the children in order", of which the first that passes the test "ends it" with this result; else the result "at the end"
  abbrev pub ended_by : (C → Bool) → (C → ℕ) → ℕ → List C → ℕ
  ended_by ends result atEnd [] = atEnd
  ended_by ends result atEnd (c ∷ cs) = cond (ends c) (result c) (ended_by ends result atEnd cs)

-- a rule that gives d
abbrev pub rule_gives : ℕ → Rule → Bool
rule_gives d r = eqb d r.gives

-- a policy that gives d
abbrev pub policy_gives : ℕ → Policy → Bool
policy_gives d p = eqb d p.gives

-- "P, D or I"
abbrev pub decides : ℕ → Bool
decides d = eqb permit d || eqb deny d || eqb indeterminate d

-- Rule-combining, where the effect w overrides the other, o: "A rule that gives [w] ends it: [w]. [..] At the end: I if a rule with the effect [w] gave
-- I; else [o] if any gave [o]; else I if any gave I; else N."
abbrev pub rule_overrides : ℕ → ℕ → List Rule → ℕ
rule_overrides w o rs =
    ended_by (rule_gives w) (λ r. w)
    (cond (any_of (λ r. rule_gives indeterminate r && eqb w r.effect) rs) indeterminate
    (cond (any_of (rule_gives o) rs) o
    (cond (any_of (rule_gives indeterminate) rs) indeterminate
    not_applicable)))
    rs

-- "Deny-overrides. A rule that gives D ends it: D. [..] At the end: I if a rule with the effect deny gave I; else P if any gave P; else [..]"
abbrev pub rule_deny_overrides : List Rule → ℕ
rule_deny_overrides rs = rule_overrides deny permit rs

-- "Permit-overrides. A rule that gives P ends it: P. [..] At the end: I if a rule with the effect permit gave I; else D if any gave D; else [..]"
abbrev pub rule_permit_overrides : List Rule → ℕ
rule_permit_overrides rs = rule_overrides permit deny rs

-- "First-applicable. The first rule that gives P, D or I ends it with that; N goes on to the next; at the end N."
abbrev pub rule_first_applicable : List Rule → ℕ
rule_first_applicable rs = ended_by (λ r. decides r.gives) (λ r. r.gives) not_applicable rs

-- The rule-combining algorithm of a kind of group, of its rules: "There is no rule-combining form of only-one-applicable." Asked of kinds of
-- groups alone.
unfoldable pub rule_combining : ℕ → List Rule → Option ℕ
rule_combining k rs =
    cond (eqb k first_applicable_kind) (some (rule_first_applicable rs))
    (cond (eqb k only_one_applicable_kind) none
    (cond (eqb k permit_overrides_kind) (some (rule_permit_overrides rs))
    (some (rule_deny_overrides rs))))

-- Policy-combining, "Deny-overrides. A child that gives D ends it: D; one that gives I ends it too: D. At the end: P if any gave P; else N."
abbrev pub policy_deny_overrides : List Policy → ℕ
policy_deny_overrides ps =
    ended_by (λ p. policy_gives deny p || policy_gives indeterminate p) (λ p. deny)
    (cond (any_of (policy_gives permit) ps) permit
    not_applicable)
    ps

-- "Permit-overrides. A child that gives P ends it: P. At the end: D if any gave D; else I if any gave I; else N."
abbrev pub policy_permit_overrides : List Policy → ℕ
policy_permit_overrides ps =
    ended_by (policy_gives permit) (λ p. permit)
    (cond (any_of (policy_gives deny) ps) deny
    (cond (any_of (policy_gives indeterminate) ps) indeterminate
    not_applicable))
    ps

-- "First-applicable. The first child that gives P, D or I ends it with that; at the end N."
abbrev pub policy_first_applicable : List Policy → ℕ
policy_first_applicable ps = ended_by (λ p. decides p.gives) (λ p. p.gives) not_applicable ps

-- "If that cannot be told of one"
abbrev pub is_untold : Policy → Bool
is_untold p =
    elim p.applicable [
      | matched ↦ false
      | unmatched ↦ false
      | untold ↦ true
    ]

-- "is applicable"
abbrev pub is_matched : Policy → Bool
is_matched p =
    elim p.applicable [
      | matched ↦ true
      | unmatched ↦ false
      | untold ↦ false
    ]

-- what those give that are applicable
abbrev pub from_matched : List Policy → List ℕ
from_matched [] = []
from_matched (p ∷ ps) = cond (is_matched p) (p.gives ∷ from_matched ps) (from_matched ps)

-- "If two are applicable, I. If one is, the result is that child's. If none is, N."
abbrev pub by_matched : List ℕ → ℕ
by_matched [] = not_applicable
by_matched (d ∷ []) = d
by_matched (d ∷ e ∷ ds) = indeterminate

-- "Only-one-applicable. Before any child is evaluated, each is asked whether it is applicable [..]. If that cannot be told of one, I.": else as
-- above
abbrev pub policy_only_one_applicable : List Policy → ℕ
policy_only_one_applicable ps = cond (any_of is_untold ps) indeterminate (by_matched (from_matched ps))

-- The policy-combining algorithm of a kind of group, of its policies. Asked of kinds of groups alone.
unfoldable pub policy_combining : ℕ → List Policy → ℕ
policy_combining k ps =
    cond (eqb k first_applicable_kind) (policy_first_applicable ps)
    (cond (eqb k only_one_applicable_kind) (policy_only_one_applicable ps)
    (cond (eqb k permit_overrides_kind) (policy_permit_overrides ps)
    (policy_deny_overrides ps)))
