-- `soundness::entry_sound` meets its contract: a terminal's check or a node's.
use native.Mathlib.Nat.{pos_of_ne-zero}
use Rattle.diagram.specs.Starts.{size_two}
use Rattle.soundness.proofs.EntryByEntry.{terminal_whole, node_whole, terminal_decides, node_decides}
use Rattle.std.proofs.Common.{arith}
use Rattle.soundness.proofs.entry_sound.Goals as goal

pub bounds-diagram-place : goal.bounds-diagram-place
bounds-diagram-place c = let s = c in omega (arith, s.requires.whole.within, size_two s.args.diagram.now s.args.place)

pub terminal_sound-requires : goal.terminal_sound-requires
terminal_sound-requires c = let s = c in record {
  place_value = c.if-diagram-place-eq0.true;
  place_lt_most_places = terminal_whole s.args.diagram.now s.args.place s.requires.whole c.if-diagram-place-eq0.true;
}

pub node_sound-requires : goal.node_sound-requires
node_sound-requires c = let s = c in record {
  bound = (pos_of_ne-zero c.if-diagram-place-eq0.false, s.requires.whole.header_there);
  place_lt_most_places = node_whole s.args.diagram.now s.args.place s.requires.whole c.if-diagram-place-eq0.false;
  entries_marked = s.requires.entries_marked;
}

pub returns-then-diagram-place-eq0 : goal.returns-then-diagram-place-eq0
returns-then-diagram-place-eq0 c = let s = c.args in
    terminal_decides s.diagram.now s.place c.if-diagram-place-eq0.true c.terminal_sound.result c.terminal_sound.ensures

pub returns-else-diagram-place-eq0 : goal.returns-else-diagram-place-eq0
returns-else-diagram-place-eq0 c = let s = c.args in
    node_decides s.diagram.now s.place c.if-diagram-place-eq0.false c.node_sound.result c.node_sound.ensures
