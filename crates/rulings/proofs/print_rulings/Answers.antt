-- `rulings::print_rulings` is safe and ends: a diagram that was built is sound.
use Rattle.std.proofs.Common.{sym, true, arith}
use Rattle.diagram.proofs.Deciding.{sound_is}
use Rattle.rulings.proofs.SoundWhereBuilt.{sound_where_built}
use Rattle.rulings.proofs.print_rulings.Goals as goal

pub invariant_of-sound : goal.invariant_of-sound
invariant_of-sound g c =
    let d = c.build-built.new.diagram in
    let s = sound_where_built c.args.table.now _ c.build-built.result d (λ p. omega (arith, c.type_inv.table p)) c.build-built.ensures.value
    c.build-built.ensures.diagram_after c.if-built-ne0.false in
    record { sound = sym (sound_is d true s) }
