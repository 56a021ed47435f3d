-- `applying::mark_runs` meets its contract: the runs of the values so far are marked in the row.
use mathlib.Core.Path.{◌≡◌}
use mathlib.Core.Bool.{true}
use Rattle.sets.specs.Sets.{same}
use Rattle.applying.specs.Filled.{set_at}
use Rattle.applying.proofs.Marking.{marked_all, marked_other, marked_same}
use Rattle.std.proofs.Common.{rules}
use Rattle.applying.proofs.mark_runs.Goals as goal
use Rattle.applying.proofs.mark_runs.Goals.{After-eq, then-eq, else-eq}

alike : (c : After-eq) → c.eq.result ≡ true → set_at c.loop-value.row c.loop-value.start ≡ set_at c.loop-value.row c.loop-value.value
unfolding same
alike c e = search rules

pub loop-value-preserved : goal.loop-value-preserved
loop-value-preserved c =
    let m = c.loop-value.invariant in
    elim c.if-eq.branch [
      | then-eq w ↦ rw (w.row-is, w.start-is) (marked_same c.args.most c.args.row.now c.loop-value.row c.loop-value.start c.loop-value.value c.loop-value-test.true m c.requires.most_lt_256 (alike (goal.at.loop-value-preserved c).After-eq w.if-eq.true))
      | else-eq w ↦ rw (w.row-is, w.start-is) (marked_other c.args.most c.args.row.now c.loop-value.row c.loop-value.start c.loop-value.value c.loop-value-test.true m)
    ]

pub returns-clause-runs : goal.returns-clause-runs
returns-clause-runs c = marked_all c.args.most c.args.row.now c.loop-value.row c.loop-value.start c.loop-value.value c.loop-value-test.false c.loop-value.invariant
