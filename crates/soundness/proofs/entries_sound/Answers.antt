-- `soundness::entries_sound` meets its contract: the entries passed so far are sound and marked.
use Rattle.std.proofs.Common.{refl, ap, ◌∙◌, not, arith}
use Rattle.std.proofs.lemmas.Bool.{le-ltb}
use Rattle.std.proofs.lemmas.List.{length-set}
use Rattle.answer.specs.Fields.{fields}
use Rattle.diagram.specs.Sound.{SoundEntry}
use Rattle.diagram.specs.Starts.{size_two}
use Rattle.diagram.proofs.Deciding.{refuted, affirmed}
use Rattle.soundness.proofs.EntryByEntry.{entry_level, passed_none, passed_whole, passed_more, not_tiled, not_entry, root_past, root_decides}
use Rattle.soundness.proofs.entries_sound.Goals as goal
use Rattle.soundness.proofs.entries_sound.Goals.{Else-not-entry_sound}

-- the entry is sound
sound : (c : Else-not-entry_sound) → SoundEntry fields c.args.diagram.now c.loop-place.place
sound c = affirmed (SoundEntry fields c.args.diagram.now c.loop-place.place) c.entry_sound.result c.entry_sound.ensures (ap not c.if-not-entry_sound.false)

pub bounds-diagram-0 : goal.bounds-diagram-0
bounds-diagram-0 c = omega (arith, c.requires.opened.header_there)

pub loop-place-init : goal.loop-place-init
loop-place-init c = (refl, passed_none c.args.diagram.now c.args.marks.now c.requires.opened c.requires.unmarked)

pub size_at-size-requires : goal.size_at-size-requires
size_at-size-requires c = omega (arith, c.requires.opened.used_most)

pub overflow_add-place : goal.overflow_add-place
overflow_add-place c = omega (arith, c.requires.opened.used_most, c.size_at-size.ensures.1)

pub returns-then-end-place : goal.returns-then-end-place
returns-then-end-place c =
    not_tiled c.args.diagram.now c.requires.opened c.loop-place.marks c.loop-place.place c.loop-place.invariant.1 c.size_at-size.result (omega arith)
    c.size_at-size.ensures.0 (omega arith)

pub returns-then-not-entry_sound : goal.returns-then-not-entry_sound
returns-then-not-entry_sound c =
    not_entry c.args.diagram.now c.requires.opened c.loop-place.marks c.loop-place.place c.loop-place.invariant.1 (omega arith)
    (refuted (SoundEntry fields c.args.diagram.now c.loop-place.place) c.entry_sound.result c.entry_sound.ensures (ap not c.if-not-entry_sound.true))

pub entry_sound-requires : goal.entry_sound-requires
entry_sound-requires c = record {
  whole = passed_whole c.args.diagram.now c.requires.opened c.loop-place.marks c.loop-place.place c.loop-place.invariant.1 c.size_at-size.result (omega arith)
      c.size_at-size.ensures.0 (omega arith);
  entries_marked = c.loop-place.invariant.1.marked;
}

pub bounds-diagram-place : goal.bounds-diagram-place
bounds-diagram-place c = omega (arith, c.requires.opened.used_there)

pub overflow_cast-marks : goal.overflow_cast-marks
overflow_cast-marks c = omega (arith, entry_level c.args.diagram.now c.loop-place.place (sound (goal.at.overflow_cast-marks c).Else-not-entry_sound))

pub overflow_add-marks : goal.overflow_add-marks
overflow_add-marks c = omega (arith, entry_level c.args.diagram.now c.loop-place.place (sound (goal.at.overflow_add-marks c).Else-not-entry_sound))

pub bounds-marks-place : goal.bounds-marks-place
bounds-marks-place c = omega (arith, c.loop-place.invariant.1.room)

pub overflow_add-place-in-loop-place : goal.overflow_add-place-in-loop-place
overflow_add-place-in-loop-place c = omega (arith, c.requires.opened.used_most, c.size_at-size.ensures.1)

pub loop-place-smaller : goal.loop-place-smaller
loop-place-smaller c = omega (arith, c.size_at-size.ensures.0, size_two c.args.diagram.now c.loop-place.place)

pub loop-place-preserved : goal.loop-place-preserved
loop-place-preserved c =
    let p = c.loop-place.place in (
      length-set c.loop-place.marks p _ ∙ c.loop-place.invariant.0,
      passed_more c.args.diagram.now c.requires.opened c.loop-place.marks p c.loop-place.invariant.1 c.size_at-size.result _ (omega arith) c.size_at-size.ensures.0
          (omega arith) (sound (goal.at.loop-place-preserved c).Else-not-entry_sound) refl,
    )

pub bounds-diagram-1 : goal.bounds-diagram-1
bounds-diagram-1 c = omega (arith, c.requires.opened.header_there)

pub returns-else-root-end : goal.returns-else-root-end
returns-else-root-end c =
    rw (le-ltb c.from-root.result c.from-end.result (omega arith))
    (root_past c.args.diagram.now c.requires.opened c.loop-place.marks c.loop-place.place c.loop-place.invariant.1 c.from-root.result c.from-root.ensures (omega arith))

pub bounds-marks-root : goal.bounds-marks-root
bounds-marks-root c = omega (arith, c.loop-place.invariant.1.room)

pub returns-then-root-end : goal.returns-then-root-end
returns-then-root-end c =
    root_decides c.args.diagram.now c.requires.opened c.loop-place.marks c.loop-place.place c.loop-place.invariant.1 c.from-root.result (omega arith) c.from-root.ensures
    (omega arith) _ refl
