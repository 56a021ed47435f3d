-- `soundness::is_sound` meets its contract, on each way out.
use Rattle.std.proofs.Common.{refl, ap, not, false, arith}
use Rattle.diagram.proofs.Deciding.{refuted, affirmed, sound_is}
use Rattle.soundness.specs.Pass.{Opened}
use Rattle.soundness.proofs.EntryByEntry.{sound_opened}
use Rattle.soundness.proofs.is_sound.Goals as goal
use Rattle.soundness.proofs.is_sound.Goals.{Else-not-header_sound}

-- the header is that of a sound diagram
opened : (c : Else-not-header_sound) → Opened c.args.diagram.now
opened c = affirmed (Opened c.args.diagram.now) c.header_sound.result c.header_sound.ensures (ap not c.if-not-header_sound.false)

pub returns-then-not-header_sound : goal.returns-then-not-header_sound
returns-then-not-header_sound c = let d = c.args.diagram.now in
    sound_is d false (λ s. refuted (Opened d) c.header_sound.result c.header_sound.ensures (ap not c.if-not-header_sound.true) (sound_opened d s))

pub bounds-diagram-0 : goal.bounds-diagram-0
bounds-diagram-0 c = omega (arith, (opened (goal.at.bounds-diagram-0 c).Else-not-header_sound).header_there)

pub entries_sound-requires : goal.entries_sound-requires
entries_sound-requires c = record {
  opened = opened (goal.at.entries_sound-requires c).Else-not-header_sound;
  unmarked = record { none = refl; room = omega arith };
}

pub entries_sound-requires-else-from-le-SMALL : goal.entries_sound-requires-else-from-le-SMALL
entries_sound-requires-else-from-le-SMALL c =
    let o = opened (goal.at.entries_sound-requires-else-from-le-SMALL c).Else-not-header_sound in
    record { opened = o; unmarked = record { none = refl; room = o.used_most } }

pub returns-then-from-le-SMALL : goal.returns-then-from-le-SMALL
returns-then-from-le-SMALL c = sound_is c.args.diagram.now c.entries_sound.result c.entries_sound.ensures

pub returns-else-from-le-SMALL : goal.returns-else-from-le-SMALL
returns-else-from-le-SMALL c = sound_is c.args.diagram.now c.entries_sound-else-from-le-SMALL.result c.entries_sound-else-from-le-SMALL.ensures
