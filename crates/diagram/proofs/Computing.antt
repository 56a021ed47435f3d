-- What a case about a given diagram computes with.
use Rattle.answer.specs.Refusals.{upward, settled}
use Rattle.diagram.specs.Entries.{terminal, node}
use Rattle.diagram.specs.Walk.{enter, extend, below, walk, diagram}
use Rattle.diagram.specs.OneRuling.{one_edge_each, one_ruling}
use Rattle.diagram.specs.LookUp.{edge, look_up}
use Rattle.diagram.specs.Decided.{le?, lt?, eq?, iff?, not?, and?, or?, when?, one_more?, each?}
use Rattle.diagram.specs.SoundIsDecided.{scan?, start?, entry_before?, terminal_holds?, sound_terminal?, sound_node?, sound_entry?, sound?}

-- To unfold this is to unfold the walk, the look-up, and whether a diagram is sound.
unfoldable pub diagram_computes : Unit {0}
unfolding upward settled terminal node enter extend below walk diagram one_edge_each one_ruling edge look_up le? lt? eq? iff? not? and? or? when? one_more? each? scan? start? entry_before? terminal_holds? sound_terminal? sound_node? sound_entry? sound?
diagram_computes = tt
