-- `ruling::ruling::rule_checked` meets its contract: a table that is turned away, or what an accepted one is asked.
use Rattle.std.proofs.Common.{Err, ap, ◌∙◌, length, arith}
use Rattle.std.proofs.lemmas.Result.{err_from_is_err_and}
use Rattle.answer.specs.Answers.{refused, zeros, padded}
use Rattle.answer.specs.Rulings.{answer_of, ruled_or}
use Rattle.answer.proofs.Numbers.{number_positive}
use Rattle.answer.proofs.Settling.{refused_before, settled_later}
use Rattle.table.specs.Reading.{table_refusals}
use Rattle.table.proofs.Accepting.{read_refused, counted_accepted}
use Rattle.ruling.specs.Ruling.{groups_together, asked_refusals, ruled_answer, listed_after}
use Rattle.ruling.proofs.ruling.rule_checked.Goals as goal

pub returns-in_err-table : goal.returns-in_err-table
returns-in_err-table c =
    let t = c.args.bytes.now in
    let s = c.args.request.subjects in
    let others = c.args.request.others in
    let n = length c.args.cards.now in
    let given = groups_together t s others in
    let err = err_from_is_err_and c.from_residual.result c.from_residual.ensures.1 in
    let found = read_refused t _ c.in_err-table.ensures.value (λ z. omega (arith, z, number_positive c.in_err-table.field-0.0.refusal)) in
    let r =
    refused_before refused (zeros n) (answer_of given 0) (padded given.cards n) (table_refusals t) (asked_refusals t s others n) _ c.args.cards.now
    found.1.0 (ap ruled_answer (err.1 ∙ ap Err err.2) ∙ found.1.1) c.requires in
    record { value = r.0; cards_after = r.1 }

pub returns : goal.returns
returns c =
    let t = c.args.bytes.now in
    let s = c.args.request.subjects in
    let others = c.args.request.others in
    let n = length c.args.cards.now in
    let given = groups_together t s others in
    let same = c.in_ok-table.ensures.same_bytes in
    let r =
    settled_later refused (zeros n) (answer_of given 0) (padded given.cards n) (table_refusals t) (asked_refusals t s others n) _
    c.rule_accepted.new.cards (counted_accepted t c.in_ok-table.ensures.value) (
      c.rule_accepted.ensures.value ∙ ap (λ u. ruled_or (asked_refusals u s others n) (groups_together u s others) 0) same,
      c.rule_accepted.ensures.cards_after ∙ ap (λ u. listed_after (asked_refusals u s others n) u s others n) same,
    ) in
    record { value = r.0; cards_after = r.1 }
