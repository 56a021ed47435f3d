-- `ruling::groups::rule_read` meets its contract: the root is ruled with all nodes under it for the members that are left there, or none is left and
-- there is nothing.
use mathlib.Core.Path.{◌≡◌, refl}
use mathlib.Core.Bool.{Bool, false, ◌&&◌}
use mathlib.Core.List.{List, ◌∷◌}
use Prim.Native.Nat.{ℕ, ◌^◌, ◌≤◌, ◌<◌}
use lib.ListN.{length}
use lib.Seq.{sets}
use Rattle.encoding.specs.Layout.{count}
use Rattle.table.specs.WellFormed.{WellFormed}
use Rattle.encoding.proofs.Places.{header_held}
use Rattle.targets.specs.Targets.{target_holds}
use Rattle.targets.specs.Subjects.{applies_to_some, member}
use Rattle.ruling.specs.Meaning.{decision, cards}
use Rattle.ruling.specs.Walk.{AppliesToEach, Node, Gathered}
use Rattle.ruling.proofs.MembersLeft.{members_root, members_down, left_each, left_applies, left_same, none_left}
use Rattle.ruling.proofs.RulingGoesByWhichApply.{ruled_same}
use Rattle.ruling.proofs.Steps.{held, root, children, gathered_not, all_gathered}
use Rattle.ruling.proofs.NodeByKind.{by_rule, by_group}
use Rattle.ruling.proofs.Decisions.{ruled_not}
use Rattle.std.proofs.Common.{arith}
use Rattle.ruling.proofs.groups.rule_read.Goals as goal
use Rattle.ruling.proofs.groups.rule_read.Goals.{After-count_at-count}

-- once the members that are left at the root are known, and how many nodes there are
module _ (t : List ℕ) (w : WellFormed t) (others : List ℕ) (s left : ℕ)
    (is : (k : ℕ) → member left k ≡ member s k && target_holds t (k ∷ others) 0) (end : ℕ) (counted : end ≡ count t) where
  abbrev a : ℕ → Bool
  a = applies_to_some t s others

  abbrev b : ℕ → Bool
  b = applies_to_some t left others

  each : AppliesToEach t left others 0
  each = left_each t others s left 0 is (w.spans 0 w.some) (members_root t others s)

  alike : (j : ℕ) → 0 ≤ j → j < count t → a j ≡ b j
  alike j lo hi = left_same t others s left 0 is j lo (omega (arith, w.root))

  node : left < 2 ^ 64 → 0 < left → Node b t 0 end 0
  node l p = root b t w end counted (left_applies t others s left 0 is l p each)

  -- what the root gives and gathers for those that are left is what it does for the whole set
  whole : {d n : ℕ} {before after : List ℕ} → (d ≡ decision b t 0) × Gathered b t 0 end 0 n before after →
      ((d ≡ decision a t 0) × (n ≡ length (cards a t))) × (after ≡ sets before 0 (cards a t))
  whole {d} {n} {before} {after} g =
      let inside : count t ≤ count t = omega arith in
      let r =
      ruled_same a b t w inside alike (omega arith) (omega (arith, counted, w.some)) (omega (arith, counted, w.root)) (omega (arith, counted)) g in
      let all = all_gathered a t end n before after counted r.1 in
      ((r.0, all.0), all.1)

pub members_left-left-requires : goal.members_left-left-requires
members_left-left-requires c = held c.args.table.bytes.now c.args.table.accepted 0 c.args.table.accepted.some

pub returns-then-left-eq0 : goal.returns-then-left-eq0
returns-then-left-eq0 c =
    let t = c.args.table.bytes.now in
    let w = c.args.table.accepted in
    let which = applies_to_some t c.args.request.subjects c.args.request.others in
    let list = c.args.cards.now in
    let out : (j : ℕ) → 0 ≤ j → j < count t → which j ≡ false =
    λ j lo hi. none_left t c.args.request.others c.args.request.subjects c.members_left-left.result 0 c.members_left-left.ensures c.if-left-eq0.true j lo (omega (arith, w.root)) in
    let g = all_gathered which t (count t) 0 list list refl (gathered_not which t w 0 (count t) 0 list out) in
    record {
      decision_value = (ruled_not which t 0 (out 0 (omega arith) w.some), g.0);
      cards_after = g.1;
    }

pub count_at-count-requires : goal.count_at-count-requires
count_at-count-requires c = header_held c.args.table.bytes.now c.args.table.accepted.records

pub kind_at-kind-requires : goal.kind_at-kind-requires
kind_at-kind-requires c = held c.args.table.bytes.now c.args.table.accepted 0 c.args.table.accepted.some

-- once the count is read: the root is ruled for those that are left
root_node : (c : After-count_at-count) →
    Node (applies_to_some c.args.table.bytes.now c.members_left-left.result c.args.request.others) c.args.table.bytes.now 0 c.count_at-count.result 0
root_node c =
    node c.args.table.bytes.now c.args.table.accepted c.args.request.others c.args.request.subjects c.members_left-left.result c.members_left-left.ensures
    c.count_at-count.result c.count_at-count.ensures.0 (omega arith) (omega (arith, c.if-left-eq0.false))

-- what it gives and gathers for them is what the groups give the whole set
as_whole : (c : After-count_at-count) {d n : ℕ} {after : List ℕ} →
    let t = c.args.table.bytes.now in
    let left = applies_to_some t c.members_left-left.result c.args.request.others in
    let all = applies_to_some t c.args.request.subjects c.args.request.others in
    (d ≡ decision left t 0) × Gathered left t 0 c.count_at-count.result 0 n c.args.cards.now after →
    ((d ≡ decision all t 0) × (n ≡ length (cards all t))) × (after ≡ sets c.args.cards.now 0 (cards all t))
as_whole c =
    whole c.args.table.bytes.now c.args.table.accepted c.args.request.others c.args.request.subjects c.members_left-left.result c.members_left-left.ensures
    c.count_at-count.result c.count_at-count.ensures.0

pub rule_run-requires : goal.rule_run-requires
rule_run-requires c =
    let t = c.args.table.bytes.now in
    let others = c.args.request.others in
    let left = c.members_left-left.result in
    record {
      child_run = (
        children (applies_to_some t left others) t c.args.table.accepted 0 c.count_at-count.result 0 (root_node (goal.at.rule_run-requires c).After-count_at-count),
        omega arith,
      );
      members_pass =
          members_down t others left 0 (each t c.args.table.accepted others c.args.request.subjects left c.members_left-left.ensures c.count_at-count.result c.count_at-count.ensures.0);
    }

pub rule_match-requires : goal.rule_match-requires
rule_match-requires c = (held c.args.table.bytes.now c.args.table.accepted 0 c.args.table.accepted.some, omega arith)

pub returns-in-0-to-3 : goal.returns-in-0-to-3
returns-in-0-to-3 c =
    let p = (goal.at.returns-in-0-to-3 c).After-count_at-count in
    let r =
    as_whole p
    (by_group (applies_to_some c.args.table.bytes.now c.members_left-left.result c.args.request.others) c.args.table.bytes.now c.args.table.accepted (root_node p) c.kind_at-kind.ensures
    (omega arith) c.rule_run.ensures.decision_value c.rule_run.ensures.gathered) in
    record { decision_value = r.0; cards_after = r.1 }

pub returns-in_default : goal.returns-in_default
returns-in_default c =
    let p = (goal.at.returns-in_default c).After-count_at-count in
    let r =
    as_whole p
    (by_rule (applies_to_some c.args.table.bytes.now c.members_left-left.result c.args.request.others) c.args.table.bytes.now c.args.table.accepted (root_node p) c.kind_at-kind.ensures
    (omega arith) c.rule_match.ensures.decision_value.0 c.rule_match.ensures.decision_value.1 c.rule_match.ensures.cards_after) in
    record { decision_value = r.0; cards_after = r.1 }
