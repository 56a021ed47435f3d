-- `targets::members_left` meets its contract: the test from the word passes exactly where node i's target holds.
use Rattle.std.proofs.Common.{◌&&◌, ◌∷◌, ap, ◌∙◌}
use Rattle.targets.specs.Subjects.{member}
use Rattle.targets.proofs.TargetFromWord.{target_from}
use Rattle.targets.proofs.members_left.Goals as goal

pub returns : goal.returns
returns c k = c.members_from.ensures k
    ∙ ap (λ b. member c.args.members k && b) (target_from c.args.table.now c.args.i c.ranges_at-ranges.result c.ranges_at-ranges.ensures.reads_back (k ∷ c.args.others.now))
