-- `lookup::descend` meets its contract: the values so far lead to an entry of the next level.
use Rattle.std.proofs.Common.{◌≡◌, refl, length, arith}
use Rattle.answer.specs.Fields.{fields}
use Rattle.diagram.proofs.Descent.{down_none, edge_asked, down_more, landed}
use Rattle.soundness.proofs.CheckedNumbers.{numbers_sound}
use Rattle.lookup.proofs.descend.Goals as goal

pub bounds-diagram-1 : goal.bounds-diagram-1
bounds-diagram-1 c = omega (arith, (numbers_sound c.args.diagram).header_there)

pub loop-value-init : goal.loop-value-init
loop-value-init c = down_none c.args.diagram.numbers.now (numbers_sound c.args.diagram) c.args.values c.requires c.from-place.result c.from-place.ensures

pub child_of-place-requires : goal.child_of-place-requires
child_of-place-requires c =
    let a = c.loop-value in
    let l = c.loop-value-test.true in
    let e = edge_asked c.args.diagram.numbers.now (numbers_sound c.args.diagram) a.place a.value-index a.invariant.entry l _ (c.requires a.value-index l) in
    record { place_lt_most_places = e.0; sound_node = e.1.0; value_bound = e.1.1 }

pub loop-value-preserved : goal.loop-value-preserved
loop-value-preserved c =
    let a = c.loop-value in
    let l = c.loop-value-test.true in
    let long : length c.args.values ≡ fields = omega arith in
    down_more c.args.diagram.numbers.now (numbers_sound c.args.diagram) c.args.values c.requires a.place a.value-index a.invariant l
    (omega (arith, long)) _ c.child_of-place.result refl c.child_of-place.ensures.0

pub returns : goal.returns
returns c =
    let a = c.loop-value in
    let long : length c.args.values ≡ fields = omega arith in
    landed c.args.diagram.numbers.now (numbers_sound c.args.diagram) c.args.values c.requires a.place a.value-index a.invariant c.loop-value-test.false long
