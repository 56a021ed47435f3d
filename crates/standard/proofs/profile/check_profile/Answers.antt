-- `standard::profile::check_profile` meets its contract: before each node, the pass has found what `FoundFrom` says of those after it.
use Rattle.std.proofs.Common.{ℕ, List, ◌≡◌, ◌+◌, ◌-◌, ◌≤◌, ◌<◌, refl, sym, ◌∙◌, subst, arith}
use Rattle.std.proofs.lemmas.List.{map-set}
use Rattle.standard.specs.Pass.{FoundFrom}
use Rattle.standard.specs.declared.profile.Found.{Found}
use Rattle.encoding.proofs.Places.{header_held, node_held}
use Rattle.standard.proofs.Pass.{found_none, found_mixed, found_in_only_one, found_rule_root, found_nothing}
use Rattle.standard.proofs.profile.check_profile.Goals as goal

-- what was found after a node
after : {t : List ℕ} {i : ℕ} {rules groups : List ℕ} {found : Found} → FoundFrom t i rules groups found → 0 < i → FoundFrom t ((i - 1) + 1) rules groups found
after {t} {i} {rules} {groups} {found} h l =
    let e : i ≡ (i - 1) + 1 = omega (arith, l) in
    subst (λ j. FoundFrom t j rules groups found) e h

-- once all nodes were looked at
whole : {t : List ℕ} {i : ℕ} {rules groups : List ℕ} {found : Found} → FoundFrom t i rules groups found → i ≤ 0 → FoundFrom t 0 rules groups found
whole {t} {i} {rules} {groups} {found} h l =
    let e : i ≡ 0 = omega (arith, l) in
    subst (λ j. FoundFrom t j rules groups found) e h

pub count_at-n-requires : goal.count_at-n-requires
count_at-n-requires c = header_held c.args.table.bytes.now c.args.table.accepted.records

pub loop-i-init : goal.loop-i-init
loop-i-init c = found_none c.args.table.bytes.now 129 (omega (arith, c.args.table.accepted.few)) c.count_at-n.result c.count_at-n.ensures.0 _ refl refl refl refl

pub with_node-found-requires : goal.with_node-found-requires
with_node-found-requires c = record {
  i_bound = omega (arith, c.count_at-n.ensures.0, c.loop-i-test.true);
  found_from = after c.loop-i.invariant (omega (arith, c.loop-i-test.true));
}

pub loop-i-preserved : goal.loop-i-preserved
loop-i-preserved c =
    rw (map-set (λ row. row.rules) c.loop-i.rows (c.loop-i.i - 1) c.with_node-found.result.row, map-set (λ row. row.groups) c.loop-i.rows (c.loop-i.i - 1) c.with_node-found.result.row)
    c.with_node-found.ensures

pub rule_at-requires : goal.rule_at-requires
rule_at-requires c = node_held c.args.table.bytes.now c.args.table.accepted.records 0 c.args.table.accepted.some

pub returns-in-Some : goal.returns-in-Some
returns-in-Some c =
    rw c.at.ensures (found_mixed c.args.table.bytes.now (whole c.loop-i.invariant (omega (arith, c.loop-i-test.false))) c.in-Some.node c.in-Some.is)

pub returns-in-Some-in_only_one : goal.returns-in-Some-in_only_one
returns-in-Some-in_only_one c =
    rw c.at-in-Some-in_only_one.ensures
    (found_in_only_one c.args.table.bytes.now (whole c.loop-i.invariant (omega (arith, c.loop-i-test.false))) c.in_default.is c.in-Some-in_only_one.node
    c.in-Some-in_only_one.is)

pub returns-then-rule_at : goal.returns-then-rule_at
returns-then-rule_at c =
    rw c.at-then-rule_at.ensures
    (found_rule_root c.args.table.bytes.now (whole c.loop-i.invariant (omega (arith, c.loop-i-test.false))) c.in_default.is c.in_default-in_only_one.is
    (sym c.rule_at.ensures ∙ c.if-rule_at.true))

pub returns-else-rule_at : goal.returns-else-rule_at
returns-else-rule_at c =
    found_nothing c.args.table.bytes.now (whole c.loop-i.invariant (omega (arith, c.loop-i-test.false))) c.in_default.is c.in_default-in_only_one.is
    (sym c.rule_at.ensures ∙ c.if-rule_at.false)
