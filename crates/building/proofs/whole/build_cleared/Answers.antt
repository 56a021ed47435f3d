-- `building::whole::build_cleared` meets its contract, on each way out.
use Rattle.std.proofs.Common.{◌≡◌, refl, Err, List, ℕ, Option, None, Some, ap, ◌∙◌, length, arith}
use Rattle.std.proofs.lemmas.Result.{err_from_is_err_and}
use Rattle.answer.specs.Answers.{counted, zeros}
use Rattle.answer.specs.Numbers.{answer_by}
use Rattle.answer.proofs.Numbers.{answered, number_positive}
use Rattle.table.specs.Reading.{Accepted}
use Rattle.table.proofs.Accepting.{read_refused, counted_accepted}
use Rattle.building.specs.Walked.{AllWalked}
use Rattle.building.specs.declared.walking.Root.{Root}
use Rattle.building.proofs.FieldByField.{header_there}
use Rattle.building.proofs.WalkedAll.{too_short, walk_full, walk_done}
use Rattle.building.proofs.BuildAnswers.{unread}
use Rattle.building.proofs.whole.build_cleared.Goals as goal
use Rattle.building.proofs.whole.build_cleared.Goals.{In_ok-table}

accepted : (c : In_ok-table) → Accepted c.args.bytes.now
accepted c = counted_accepted c.args.bytes.now c.in_ok-table.ensures.value

-- what was walked of the accepted table's bytes was walked of those that were given
walked : {u t : List ℕ} (n : ℕ) (d : List ℕ) (r : Option Root) → u ≡ t → AllWalked u n d r → AllWalked t n d r
walked n d r e w = rw (← e) w

pub returns-in_err-table : goal.returns-in_err-table
returns-in_err-table c =
    let t = c.args.bytes.now in
    let err = err_from_is_err_and c.from_residual.result c.from_residual.ensures.1 in
    let found = read_refused t _ c.in_err-table.ensures.value (λ z. omega (arith, z, number_positive c.in_err-table.field-0.0.refusal)) in
    let r = unread t (length c.args.diagram.now) _ c.args.diagram.now found.1.0 (ap (answer_by counted) (err.1 ∙ ap Err err.2) ∙ found.1.1) c.requires in
    record { value = r.0; diagram_after = r.1 }

pub returns-then-diagram-lt-HEADER : goal.returns-then-diagram-lt-HEADER
returns-then-diagram-lt-HEADER c =
    let a = accepted (goal.at.returns-then-diagram-lt-HEADER c).In_ok-table in
    let r = too_short c.args.bytes.now (length c.args.diagram.now) a _ c.args.diagram.now (omega arith) (ap answered c.at.ensures) c.requires in
    record { value = r.0; diagram_after = r.1 }

pub returns-in_default : goal.returns-in_default
returns-in_default c =
    let a = accepted (goal.at.returns-in_default c).In_ok-table in
    let w = walked (length c.args.diagram.now) c.walk_all.new.diagram None c.in_ok-table.ensures.same_bytes c.in_default.ensures in
    let r =
    walk_full c.args.bytes.now (length c.args.diagram.now) a c.requires {d' = c.walk_all.new.diagram} w _ c.clear.new.list (ap answered c.at-in_default.ensures)
    (c.clear.ensures ∙ ap zeros c.walk_all.auto.diagram) in
    record { value = r.0; diagram_after = r.1 }

pub write_header-requires-clause-header_held : goal.write_header-requires-clause-header_held
write_header-requires-clause-header_held c = rw (← c.in_ok-table.ensures.same_bytes) (header_there c.in_ok-table.table.bytes.now c.in_ok-table.table.accepted)

pub returns : goal.returns
returns c =
    let a = accepted (goal.at.returns c).In_ok-table in
    let w = walked (length c.args.diagram.now) c.walk_all.new.diagram (Some c.in-Some.root) c.in_ok-table.ensures.same_bytes c.in-Some.ensures in
    let r =
    walk_done c.args.bytes.now (length c.args.diagram.now) a c.requires {d' = c.walk_all.new.diagram} w _ c.write_header.new.diagram c.walk_all.auto.diagram refl
    c.write_header.ensures in
    record { value = r.0; diagram_after = r.1 }
