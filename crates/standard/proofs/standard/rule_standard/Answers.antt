-- `standard::standard::rule_standard` meets its contract: a table that is turned away, or what one of the profile is asked.
use Rattle.std.proofs.Common.{sym, ap, ◌∙◌, length}
use Rattle.answer.specs.Answers.{zeros}
use Rattle.answer.specs.Rulings.{ruled_or}
use Rattle.ruling.specs.Ruling.{groups_together, asked_refusals, ruled_answer, listed_after}
use Rattle.ruling.proofs.InTwoParts.{turned_away, asked_then}
use Rattle.standard.specs.Profile.{standard_refusals}
use Rattle.standard.proofs.Accepting.{counted_standard, refused_standard}
use Rattle.standard.proofs.standard.rule_standard.Goals as goal

pub returns-in-Err : goal.returns-in-Err
returns-in-Err c =
    let t = c.args.table.now in
    let f = refused_standard t _ c.in-Err.ensures.value in
    let r =
    turned_away (standard_refusals t) t c.args.request.subjects c.args.request.others (length c.args.cards.now) c.from.result c.clear.new.list
    f.1.0 (c.from.ensures ∙ f.1.1) c.clear.ensures in
    record { value = r.0; cards_after = r.1 }

pub rule_accepted-outcome-requires : goal.rule_accepted-outcome-requires
rule_accepted-outcome-requires c = c.clear.ensures ∙ ap zeros (sym c.clear.auto.list)

pub returns : goal.returns
returns c =
    let t = c.args.table.now in
    let s = c.args.request.subjects in
    let others = c.args.request.others in
    let n = length c.clear.new.list in
    let same = c.in-Ok.ensures.same_bytes in
    let r =
    asked_then (standard_refusals t) t s others (length c.args.cards.now) c.outcome_for_subjects.result c.rule_accepted-outcome.new.cards
    (counted_standard t c.in-Ok.ensures.value) n c.clear.auto.list (ruled_answer c.rule_accepted-outcome.result)
    (c.rule_accepted-outcome.ensures.value ∙ ap (λ u. ruled_or (asked_refusals u s others n) (groups_together u s others) 0) same)
    c.outcome_for_subjects.ensures
    (c.rule_accepted-outcome.ensures.cards_after ∙ ap (λ u. listed_after (asked_refusals u s others n) u s others n) same) in
    record { value = r.0; cards_after = r.1 }
