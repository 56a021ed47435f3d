-- `building::walking::walk` and `walk_once`, which call each other, meet their contracts: before a value, those below it are walked.
use Rattle.std.proofs.Common.{◌≡◌, ◌∙◌, suc, arith, ℕ}
use Rattle.sets.specs.Sets.{has}
use Rattle.encoding.specs.Layout.{maximum}
use Rattle.applying.specs.Members.{ruling_from}
use Rattle.entering.proofs.WalkedBefore.{walks_as}
use Rattle.entering.proofs.ValueByValue.{before_first, walks_terminal, value_full, value_next, values_done}
use Rattle.building.proofs.FieldByField.{header_there, walk_last, level_deep, walk_field, ValueRun, value_run, run_within, left_closed, run_alike, walks_value, value_near}
use Rattle.building.proofs.Remembered.{remembers_on, walked_noted}
use Rattle.building.proofs.walking.+walk_walk_once.Goals as goal
use Rattle.building.proofs.walking.+walk_walk_once.Goals.{walk-After-run_end-until}

-- walk

-- the run that the value begins, once its end is known
run_of : {t : ℕ} (c : walk-After-run_end-until t) →
    ValueRun c.args.table.bytes.now c.args.possible c.args.field c.loop-value.value c.run_end-until.result c.meet-here.result
run_of c =
    value_run c.args.sets.now c.args.field c.set_at.result c.requires.filled.0 c.loop-value.invariant.inside
    (omega (arith, c.loop-value.invariant.most_is, c.loop-value-test.true)) c.set_at.ensures c.meet-here.ensures
    c.run_end-until.ensures.0 c.run_end-until.ensures.1

pub walk-returns-then-field-eq-FIELDS-clause-walks : goal.walk-returns-then-field-eq-FIELDS-clause-walks
walk-returns-then-field-eq-FIELDS-clause-walks t c =
    walks_as
    (walks_terminal (ruling_from c.args.table.bytes.now c.args.field (has c.args.possible)) (remembers_on c.args.table.bytes.now c.args.memory.now.seen)
    c.enter_ruling.ensures.bounded c.enter_ruling.ensures.standing)
    (λ es. walk_last c.args.table.bytes.now (has c.args.possible) c.args.field es (omega arith))

pub walk-maximum_at-requires : goal.walk-maximum_at-requires
walk-maximum_at-requires t c = (header_there c.args.table.bytes.now c.args.table.accepted, omega arith)

pub walk-loop-value-init : goal.walk-loop-value-init
walk-loop-value-init t c = record {
  inside = omega arith;
  most_is = c.from-most.ensures ∙ c.maximum_at.ensures;
  most_small = omega arith;
  near_small = tt;
  before =
      before_first _ (level_deep c.args.table.bytes.now c.args.field (omega arith)) c.requires.room.0 (omega arith) c.clear.ensures
      (λ es h. (h.0, (h.1, tt)));
}

pub walk-walk_once-requires : goal.walk-walk_once-requires
walk-walk_once-requires t c =
    let run = run_of (goal.at.walk-walk_once-requires t c).After-run_end-until in (
      omega (arith, c.decreases, c.loop-value.invariant.inside),
      (
        (c.requires.filled.0, left_closed run c.args.table.accepted c.requires.filled.1),
        (c.loop-value.invariant.before.room, omega (arith, c.loop-value.invariant.inside), c.loop-value.invariant.near_small),
      ),
    )

pub walk-returns-in_err-place-clause-walks : goal.walk-returns-in_err-place-clause-walks
walk-returns-in_err-place-clause-walks t c =
    let run = run_of (goal.at.walk-returns-in_err-place-clause-walks t c).After-run_end-until in
    rw c.from_residual.ensures
    (walks_as (value_full c.loop-value.invariant.before (walks_value run c.in_err-place.ensures.walks) run.more)
    (λ es. walk_field c.args.table.bytes.now (has c.args.possible) c.args.field es c.loop-value.invariant.inside))

pub walk-overflow_cast-until : goal.walk-overflow_cast-until
walk-overflow_cast-until t c =
    let run = run_of (goal.at.walk-overflow_cast-until t c).After-run_end-until in
    omega (arith, c.loop-value.invariant.most_is, c.loop-value.invariant.most_small, run_within run)

pub walk-overflow_add-value : goal.walk-overflow_add-value
walk-overflow_add-value t c =
    let run = run_of (goal.at.walk-overflow_add-value t c).After-run_end-until in
    omega (arith, c.loop-value.invariant.most_is, c.loop-value.invariant.most_small, run_within run)

pub walk-loop-value-preserved : goal.walk-loop-value-preserved
walk-loop-value-preserved t c =
    let run = run_of (goal.at.walk-loop-value-preserved t c).After-run_end-until in
    let i = c.loop-value.invariant in
    let x = c.in_ok-place in record {
      inside = i.inside;
      most_is = i.most_is;
      most_small = i.most_small;
      near_small = x.ensures.walks.within.1;
      before =
          value_next i.before (walks_value run x.ensures.walks) run.more c.run_end-until.result run.far (run_alike run)
          c.walk_once.auto.diagram x.ensures.edges_kept (omega arith) _ c.extend.ensures.upper_bound c.extend.ensures.result_after
          (λ xs at s. (s, value_near run x.place xs at));
    }

pub walk-returns-clause-walks : goal.walk-returns-clause-walks
walk-returns-clause-walks t c =
    let i = c.loop-value.invariant in
    let done : c.loop-value.value ≡ suc (maximum c.args.table.bytes.now c.args.field) = omega (arith, i.before.reached, i.most_is) in
    walks_as
    (values_done i.before done (λ es r. r.0) (remembers_on c.args.table.bytes.now c.loop-value.memory.seen) c.enter_node.ensures.bounded
    c.enter_node.ensures.standing)
    (λ es. walk_field c.args.table.bytes.now (has c.args.possible) c.args.field es i.inside)

-- walk_once

pub walk_once-returns-clause-walks : goal.walk_once-returns-clause-walks
walk_once-returns-clause-walks t c =
    walked_noted c.args.table.bytes.now c.args.field c.args.possible c.args.near c.args.memory.now.seen c.walk.new.memory.seen c.in_ok-place.ensures.walks
    c.slot_of-slot.result c.remember.ensures
