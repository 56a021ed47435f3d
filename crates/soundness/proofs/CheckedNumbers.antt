-- The numbers of a diagram that was checked are sound.
use Rattle.answer.specs.Fields.{fields}
use Rattle.diagram.specs.Sound.{Sound}
use Rattle.diagram.proofs.Deciding.{sound_so}
use Rattle.soundness.specs.declared.checked.SoundDiagram.{SoundDiagram}

pub numbers_sound : (diagram : SoundDiagram) → Sound fields diagram.numbers.now
numbers_sound diagram = sound_so diagram.numbers.now diagram.sound
