-- `attaching::attaching::attach_cleared` meets its contract, on each way out.
use Rattle.std.proofs.Common.{◌≡◌, refl, Err, List, ℕ, ap, ◌∙◌, length, arith}
use Rattle.std.proofs.lemmas.Result.{err_from_is_err_and}
use Rattle.answer.specs.Answers.{counted, padded}
use Rattle.answer.specs.Numbers.{number_of, answer_by}
use Rattle.answer.specs.Refusals.{first_number, None}
use Rattle.answer.proofs.Numbers.{answered, number_positive}
use Rattle.table.specs.Reading.{Accepted}
use Rattle.table.proofs.Accepting.{read_refused, counted_accepted}
use Rattle.attaching.specs.Attached.{attached_bytes, fit_refusals}
use Rattle.attaching.proofs.AttachAnswers.{base_refused, expansion_refused, fit_refused, none_refused, too_short, written}
use Rattle.attaching.proofs.attaching.attach_cleared.Goals as goal
use Rattle.attaching.proofs.attaching.attach_cleared.Goals.{In_ok-base, In_ok-expansion, In_default}

base_accepted : (c : In_ok-base) → Accepted c.args.base.now
base_accepted c = counted_accepted c.args.base.now c.in_ok-base.ensures.value

expansion_accepted : (c : In_ok-expansion) → Accepted c.args.expansion.now
expansion_accepted c = counted_accepted c.args.expansion.now c.in_ok-expansion.ensures.value

-- what holds of the accepted tables' bytes holds of those that were given
given : (c : In_ok-expansion) (P : List ℕ → List ℕ → Type 0) → P c.in_ok-base.base.bytes.now c.in_ok-expansion.expansion.bytes.now →
    P c.args.base.now c.args.expansion.now
given c P x = rw (← c.in_ok-base.ensures.same_bytes, ← c.in_ok-expansion.ensures.same_bytes) x

-- the expansion fits the base
fits : (c : In_default) → Accepted c.args.base.now → Accepted c.args.expansion.now → None (fit_refusals c.args.base.now c.args.expansion.now)
fits c b e =
    none_refused c.args.base.now c.args.expansion.now (length c.args.table.now) b e
    (rw (← c.in_ok-base.ensures.same_bytes, ← c.in_ok-expansion.ensures.same_bytes) c.in_default.ensures)

pub returns-in_err-base : goal.returns-in_err-base
returns-in_err-base c =
    let err = err_from_is_err_and c.from_residual.result c.from_residual.ensures.1 in
    let found = read_refused c.args.base.now _ c.in_err-base.ensures.value (λ z. omega (arith, z, number_positive c.in_err-base.field-0.0.refusal)) in
    let r =
    base_refused c.args.base.now c.args.expansion.now (length c.args.table.now) _ c.args.table.now found.1.0
    (ap (answer_by counted) (err.1 ∙ ap Err err.2) ∙ found.1.1) c.requires in
    record { value = r.0; table_after = r.1 }

pub returns-in_err-expansion : goal.returns-in_err-expansion
returns-in_err-expansion c =
    let b = base_accepted (goal.at.returns-in_err-expansion c).In_ok-base in
    let err = err_from_is_err_and c.from_residual-in_err-expansion.result c.from_residual-in_err-expansion.ensures.1 in
    let found =
    read_refused c.args.expansion.now _ c.in_err-expansion.ensures.value (λ z. omega (arith, z, number_positive c.in_err-expansion.field-0.0.refusal)) in
    let r =
    expansion_refused c.args.base.now c.args.expansion.now (length c.args.table.now) b _ c.args.table.now found.1.0
    (ap (answer_by counted) (err.1 ∙ ap Err err.2) ∙ found.1.1) c.requires in
    record { value = r.0; table_after = r.1 }

pub returns-in-Some : goal.returns-in-Some
returns-in-Some c =
    let s = goal.at.returns-in-Some c in
    let k = number_of c.in-Some.refusal in
    let r =
    fit_refused c.args.base.now c.args.expansion.now (length c.args.table.now) (base_accepted s.In_ok-base) (expansion_accepted s.In_ok-expansion) k _
    c.args.table.now (given s.In_ok-expansion (λ b e. k ≡ first_number (fit_refusals b e)) c.in-Some.ensures)
    (λ z. omega (arith, z, number_positive c.in-Some.refusal)) (ap answered c.at.ensures) c.requires in
    record { value = r.0; table_after = r.1 }

pub returns-then-table-size : goal.returns-then-table-size
returns-then-table-size c =
    let s = goal.at.returns-then-table-size c in
    let b = base_accepted s.In_ok-base in
    let e = expansion_accepted s.In_ok-expansion in
    let k = c.attached_size-size.result in
    let r =
    too_short c.args.base.now c.args.expansion.now (length c.args.table.now) b e (fits s.In_default b e) k
    (given s.In_ok-expansion (λ b e. k ≡ length (attached_bytes b e)) c.attached_size-size.ensures.0)
    _ c.args.table.now (omega (arith, c.if-table-size.true)) (ap answered c.at-then-table-size.ensures) c.requires in
    record { value = r.0; table_after = r.1 }

pub returns : goal.returns
returns c =
    let s = goal.at.returns c in
    let b = base_accepted s.In_ok-base in
    let e = expansion_accepted s.In_ok-expansion in
    let n = length c.args.table.now in
    let k = c.attached_size-size.result in
    let r =
    written c.args.base.now c.args.expansion.now n b e (fits s.In_default b e) k
    (given s.In_ok-expansion (λ b e. k ≡ length (attached_bytes b e)) c.attached_size-size.ensures.0)
    _ c.write_attached.new.table (omega (arith, c.if-table-size.false)) refl
    (given s.In_ok-expansion (λ b e. c.write_attached.new.table ≡ padded (attached_bytes b e) n) c.write_attached.ensures) in
    record { value = r.0; table_after = r.1 }
