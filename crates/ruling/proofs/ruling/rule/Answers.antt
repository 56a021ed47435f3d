-- `ruling::ruling::rule` meets its contract: what a cleared list is left with, and its subjects counted.
use Rattle.std.proofs.Common.{sym, ap, ◌∙◌, length}
use Rattle.answer.specs.Answers.{zeros}
use Rattle.table.specs.Reading.{table_refusals}
use Rattle.table.proofs.Accepting.{table_numbered}
use Rattle.targets.specs.Subjects.{size}
use Rattle.ruling.specs.Ruling.{for_subjects, ruling, ruled_list}
use Rattle.ruling.proofs.InTwoParts.{subjects_counted}
use Rattle.ruling.proofs.ruling.rule.Goals as goal

pub rule_checked-outcome-requires : goal.rule_checked-outcome-requires
rule_checked-outcome-requires c = c.clear.ensures ∙ ap zeros (sym c.clear.auto.list)

pub returns : goal.returns
returns c =
    let t = c.args.table.now in
    let s = c.args.request.subjects in
    let others = c.args.request.others in
    let n = length c.clear.new.list in
    record {
      value =
          c.outcome_for_subjects.ensures ∙ ap (λ a. for_subjects a (size s)) c.rule_checked-outcome.ensures.value
          ∙ subjects_counted (table_refusals t) t s others n (table_numbered t)
          ∙ ap (ruling t s others) c.clear.auto.list;
      cards_after = c.rule_checked-outcome.ensures.cards_after ∙ ap (ruled_list t s others) c.clear.auto.list;
    }
