-- `standard::standard::accept_standard` meets its contract: a table that is refused without the profile, one that conforms, or what the
-- profile refuses.
use Rattle.std.proofs.Common.{refl, ap, ◌∙◌}
use Rattle.std.proofs.lemmas.Result.{err_from_is_err_and}
use Rattle.table.specs.Reading.{Accepted}
use Rattle.table.specs.WellFormed.{WellFormed}
use Rattle.table.proofs.Accepting.{counted_accepted}
use Rattle.table.proofs.AcceptedIsWellFormed.{well_formed}
use Rattle.standard.proofs.Accepting.{standard_refused, standard_after, standard_counted}
use Rattle.standard.proofs.ConformingIsStandard.{found_standard}
use Rattle.standard.proofs.standard.accept_standard.Goals as goal
use Rattle.standard.proofs.standard.accept_standard.Goals.{In_ok-conforming, then-not-conforming+in_ok-check_profile, else-not-conforming}

table_accepted : (c : In_ok-conforming) → Accepted c.args.bytes.now
table_accepted c = counted_accepted c.args.bytes.now c.in_ok-conforming.ensures.value

bytes_accepted : (c : In_ok-conforming) → WellFormed c.args.bytes.now
bytes_accepted c = well_formed c.args.bytes.now (table_accepted c)

pub returns-in_err-conforming-clause-value : goal.returns-in_err-conforming-clause-value
returns-in_err-conforming-clause-value c =
    let p = err_from_is_err_and c.from_residual.result c.from_residual.ensures.1 in
    rw (p.1, p.2) (standard_refused c.args.bytes.now _ c.in_err-conforming.ensures.value)

pub returns-in_err-check_profile-clause-value : goal.returns-in_err-check_profile-clause-value
returns-in_err-check_profile-clause-value c =
    let p = err_from_is_err_and c.from_residual-in_err-check_profile.result c.from_residual-in_err-check_profile.ensures.1 in
    rw (p.1, p.2)
    (c.in_err-check_profile.ensures
    ∙ standard_after c.args.bytes.now (table_accepted (goal.at.returns-in_err-check_profile-clause-value c).In_ok-conforming))

pub invariant_of-table : goal.invariant_of-table
invariant_of-table c = record { accepted = bytes_accepted (goal.at.invariant_of-table c).In_ok-conforming }

pub invariant_of-table-2 : goal.invariant_of-table-2
invariant_of-table-2 c = record { accepted = bytes_accepted (goal.at.invariant_of-table-2 c).In_ok-conforming }

pub returns-clause-value : goal.returns-clause-value
returns-clause-value c =
    let t = c.args.bytes.now in
    let a = table_accepted (goal.at.returns-clause-value c).In_ok-conforming in
    elim c.if-not-conforming.branch [
      | then-not-conforming+in_ok-check_profile w ↦ w.in_ok-check_profile.ensures ∙ standard_after t a
      | else-not-conforming w ↦
          standard_counted t
          (found_standard t (ap (λ r. r.number) c.in_ok-conforming.ensures.value) c.in_ok-conforming.ensures.conforming refl
          w.if-not-conforming.false)
    ]
