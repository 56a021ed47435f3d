-- `soundness::entries_sound` meets its contract: the entries passed so far are sound and marked.
use Rattle.std.proofs.Common.{◌≡◌, ◌-◌, length}
use Rattle.soundness.proofs.EntryByEntry.{EntriesPassed}
use Rattle.soundness.proofs.entries_sound.Given as goal

abbrev pub invariant-loop-place : goal.invariant-loop-place
invariant-loop-place l = (length l.marks ≡ length l.initial.marks) × EntriesPassed l.diagram l.marks l.place

abbrev pub decreases-loop-place : goal.decreases-loop-place
decreases-loop-place l = l.end - l.place
