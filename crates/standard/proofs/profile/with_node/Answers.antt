-- `standard::profile::with_node` meets its contract, for a group and for a rule.
use mathlib.Core.Path.{◌≡◌, sym, ap, ◌∙◌}
use mathlib.Core.List.{List}
use Prim.Native.Nat.{ℕ, ◌+◌}
use lib.Dec.{eqb}
use lib.ListN.{get_or, get_or-map}
use Rattle.combining.specs.Kinds.{only_one_applicable_kind}
use Rattle.table.specs.Tree.{end_of}
use Rattle.standard.specs.Pass.{rules_on, groups_on}
use Rattle.standard.specs.declared.profile.Row.{Row}
use Rattle.encoding.proofs.Places.{node_held}
use Rattle.standard.proofs.Pass.{with_rule, with_group}
use Rattle.std.proofs.Common.{arith}
use Rattle.standard.proofs.profile.with_node.Goals as goal

-- the numbers of the row of a node
module _ (rows : List Row) (i j : ℕ) (e : i ≡ j) where
  rules_at : (get_or rows i (record { rules = 0; groups = 0 })).rules ≡ get_or (rules_on rows) j 0
  rules_at = sym (get_or-map (λ row. row.rules) rows i (record { rules = 0; groups = 0 })) ∙ ap (λ k. get_or (rules_on rows) k 0) e

  groups_at : (get_or rows i (record { rules = 0; groups = 0 })).groups ≡ get_or (groups_on rows) j 0
  groups_at = sym (get_or-map (λ row. row.groups) rows i (record { rules = 0; groups = 0 })) ∙ ap (λ k. get_or (groups_on rows) k 0) e

pub kind_at-kind-requires : goal.kind_at-kind-requires
kind_at-kind-requires c = node_held c.args.table.bytes.now c.args.table.accepted.records c.args.i c.requires.i_bound

pub span_at-requires : goal.span_at-requires
span_at-requires c = node_held c.args.table.bytes.now c.args.table.accepted.records c.args.i c.requires.i_bound

pub with_group-requires : goal.with_group-requires
with_group-requires c =
    let one = c.args.table.accepted.spans c.args.i c.requires.i_bound in
    omega (
      arith,
      groups_at c.args.rows.now _ _ (ap (λ s. c.args.i + s) c.span_at.ensures.0),
      one,
      c.args.table.accepted.few,
      c.requires.found_from.group_rows.few (end_of c.args.table.bytes.now c.args.i) (omega (arith, one)) (c.args.table.accepted.inside c.args.i c.requires.i_bound),
    )

pub with_rule-requires : goal.with_rule-requires
with_rule-requires c = omega (arith, c.requires.found_from.rules_here, c.args.table.accepted.few, c.requires.found_from.rule_rows.few (c.args.i + 1) (omega arith) (omega arith))

pub returns-in-0-to-3 : goal.returns-in-0-to-3
returns-in-0-to-3 c =
    let k = c.kind_at-kind.ensures in
    let ends = ap (λ s. c.args.i + s) c.span_at.ensures.0 in
    let g = c.with_group.ensures in
    with_group c.args.table.bytes.now c.args.table.accepted c.args.i c.requires.i_bound c.requires.found_from (omega (arith, k))
    (ap (λ x. eqb x only_one_applicable_kind) k) _ _ (rules_at c.args.rows.now _ _ ends) (groups_at c.args.rows.now _ _ ends)
    c.with_group.result g.rules_value.0 g.rules_value.1 g.mixed_value g.in_only_one_value

pub returns-in_default : goal.returns-in_default
returns-in_default c =
    let k = c.kind_at-kind.ensures in
    let g = c.with_rule.ensures in
    with_rule c.args.table.bytes.now c.args.table.accepted c.args.i c.requires.i_bound c.requires.found_from (omega (arith, k))
    c.with_rule.result g.rules_value.0 g.rules_value.1 g.mixed_value.0 g.mixed_value.1
