-- `building::walking::walk_all` meets its contract: before the first field every node is possible, and no entry stands.
use Rattle.std.proofs.Common.{refl, length, replicate, arith}
use Rattle.answer.specs.Answers.{zeros}
use Rattle.applying.proofs.MembersAreClosed.{full_closed}
use Rattle.entering.proofs.Indexing.{none_indexed}
use Rattle.building.proofs.WalkedAll.{no_sets, all_walked}
use Rattle.building.proofs.walking.walk_all.Goals as goal

pub fill-requires : goal.fill-requires
fill-requires c = record {
  set_rows = no_sets (replicate 256 _) refl;
}

pub walk-requires : goal.walk-requires
walk-requires c = record {
  filled = (c.fill.ensures.filled, full_closed c.args.table.bytes.now c.args.table.accepted c.full.result c.full.ensures);
  room = (c.requires.room, omega arith);
}

pub returns-in_err-place : goal.returns-in_err-place
returns-in_err-place c =
    let d = c.args.diagram.now in
    let walks =
    all_walked c.args.table.bytes.now c.args.table.accepted c.full.result c.full.ensures (length d) 701 d (zeros 8192) c.requires.diagram_value c.requires.room.1
    none_indexed c.in_err-place.ensures.walks in
    rw c.from_residual.ensures (c.walk.new.memory.index.slots, c.walk.new.memory.index.end, walks)

pub returns : goal.returns
returns c =
    let d = c.args.diagram.now in (
      c.walk.new.memory.index.slots,
      all_walked c.args.table.bytes.now c.args.table.accepted c.full.result c.full.ensures (length d) 701 d (zeros 8192) c.requires.diagram_value c.requires.room.1
          none_indexed c.in_ok-place.ensures.walks,
    )
