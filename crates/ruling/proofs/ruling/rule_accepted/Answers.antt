-- `ruling::ruling::rule_accepted` meets its contract, on each way out.
use Rattle.std.proofs.Common.{◌≡◌, ◌≤◌, [], ◌∷◌, length, get_or, refl, sym, ap, ◌∙◌, arith}
use Rattle.answer.proofs.Numbers.{answered}
use Rattle.answer.specs.Answers.{zeros}
use Rattle.answer.specs.Fields.{fields}
use Rattle.answer.specs.Refusals.{here}
use Rattle.answer.specs.Requests.{value, field_fault}
use Rattle.answer.proofs.FirstField.{found_one, found_none}
use Rattle.answer.proofs.RequestRefusals.{asked_before, asked_over, asked_short, asked_ruled}
use Rattle.answer.proofs.Stored.{stored_cleared}
use Rattle.encoding.specs.Layout.{maximum}
use Rattle.encoding.proofs.Places.{header_held}
use Rattle.encoding.proofs.Maxima.{maxima_each, maxima_fault}
use Rattle.targets.specs.Subjects.{subjects_fault}
use Rattle.ruling.specs.Ruling.{groups_together, subjects_refusal}
use Rattle.ruling.proofs.ruling.rule_accepted.Goals as goal
use Rattle.ruling.proofs.ruling.rule_accepted.Goals.{After-subjects_fault, In_default}

-- whether 13 applies, by the maxima that were read
by_subjects : (c : After-subjects_fault) → c.subjects_fault.result ≡ subjects_fault (maximum c.args.table.bytes.now 0) c.args.request.subjects
by_subjects c =
    let read = ap (λ ms. get_or ms 0 0) c.maxima_at-maxima.ensures ∙ maxima_each c.args.table.bytes.now 0 (omega arith) in
    c.subjects_fault.ensures ∙ ap (λ m. subjects_fault m c.args.request.subjects) read

-- the first field, after the subjects', whose value is over its maximum, by the maxima that were read
by_values : (c : After-subjects_fault) →
    field_fault (value c.maxima_at-maxima.result) (0 ∷ c.args.request.others) 1 ≡ field_fault (maximum c.args.table.bytes.now) (0 ∷ c.args.request.others) 1
by_values c = maxima_fault c.args.table.bytes.now c.maxima_at-maxima.result (0 ∷ c.args.request.others) 1 (omega arith) c.maxima_at-maxima.ensures

-- where no field is at fault
none_at_fault : (c : In_default) → fields ≤ field_fault (maximum c.args.table.bytes.now) (0 ∷ c.args.request.others) 1
none_at_fault c =
    omega (
      arith,
      found_none _ (sym c.in_default.is ∙ c.field_fault.ensures),
      maxima_fault c.args.table.bytes.now c.maxima_at-maxima.result (0 ∷ c.args.request.others) 1 (omega arith) c.maxima_at-maxima.ensures,
    )

pub maxima_at-maxima-requires : goal.maxima_at-maxima-requires
maxima_at-maxima-requires c = header_held c.args.table.bytes.now c.args.table.accepted.records

pub returns-then-subjects_fault : goal.returns-then-subjects_fault
returns-then-subjects_fault c =
    let t = c.args.table.bytes.now in
    let others = c.args.request.others in
    let s = c.args.request.subjects in
    let fault = by_subjects (goal.at.returns-then-subjects_fault c).After-subjects_fault in
    let r =
    asked_before (subjects_refusal t s ∷ []) (maximum t) (0 ∷ others) 1 (omega arith) (groups_together t s others) 0 (length c.args.cards.now)
    _ c.args.cards.now (here (sym fault ∙ c.if-subjects_fault.true)) (ap answered c.at.ensures) c.requires in
    record { value = r.0; cards_after = r.1 }

pub returns-in-Some : goal.returns-in-Some
returns-in-Some c =
    let t = c.args.table.bytes.now in
    let others = c.args.request.others in
    let s = c.args.request.subjects in
    let p = (goal.at.returns-in-Some c).After-subjects_fault in
    let found = found_one c.in-Some.field _ c.in-Some.ensures in
    let r =
    asked_over (subjects_refusal t s ∷ []) (maximum t) (0 ∷ others) 1 (omega arith) (groups_together t s others) 0 (length c.args.cards.now)
    _ c.args.cards.now (sym (by_subjects p) ∙ c.if-subjects_fault.false, tt) c.in-Some.field (found.0 ∙ by_values p) found.1
    (ap answered c.at-in-Some.ensures) c.requires in
    record { value = r.0; cards_after = r.1 }

pub returns-then-cards-root : goal.returns-then-cards-root
returns-then-cards-root c =
    let t = c.args.table.bytes.now in
    let others = c.args.request.others in
    let s = c.args.request.subjects in
    let p = goal.at.returns-then-cards-root c in
    let fault = by_subjects p.After-subjects_fault in
    let r =
    asked_short (subjects_refusal t s ∷ []) (maximum t) (0 ∷ others) 1 (omega arith) (groups_together t s others) 0 (length c.args.cards.now)
    _ c.clear.new.list (sym fault ∙ c.if-subjects_fault.false, tt) (field_fault (maximum t) (0 ∷ others) 1) refl
    (none_at_fault p.In_default) c.rule_read-root.result.count c.rule_read-root.ensures.decision_value.1
    (omega (arith, c.rule_read-root.auto.cards)) (ap answered c.at-then-cards-root.ensures)
    (c.clear.ensures ∙ ap zeros c.rule_read-root.auto.cards) in
    record { value = r.0; cards_after = r.1 }

pub returns : goal.returns
returns c =
    let t = c.args.table.bytes.now in
    let others = c.args.request.others in
    let s = c.args.request.subjects in
    let given = groups_together t s others in
    let root = c.rule_read-root in
    let fits : root.result.count ≤ length c.args.cards.now = omega (arith, root.auto.cards) in
    let fault = by_subjects (goal.at.returns c).After-subjects_fault in
    let r =
    asked_ruled (subjects_refusal t s ∷ []) (maximum t) (0 ∷ others) 1 (omega arith) given 0 (length c.args.cards.now) _
    root.new.cards (sym fault ∙ c.if-subjects_fault.false, tt) (field_fault (maximum t) (0 ∷ others) 1) refl
    (none_at_fault (goal.at.returns c).In_default) root.result.count root.ensures.decision_value.1 root.result.decision 0 fits
    root.ensures.decision_value.0 refl refl
    (stored_cleared given.cards root.new.cards c.args.cards.now (length c.args.cards.now) c.requires
    root.ensures.cards_after (omega (arith, root.ensures.decision_value.1))) in
    record { value = r.0; cards_after = r.1 }
