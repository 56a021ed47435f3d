-- `listing::lines::put_path` meets its contract: the ranges of the fields so far are written, and lead to the place.
use Rattle.std.proofs.Common.{◌≡◌, ◌∙◌, ◌+◌, ◌≤◌, refl, sym, ap, [], ◌∷◌, ◌++◌, length, drop, get_or, arith}
use Rattle.answer.specs.Fields.{fields}
use Rattle.answer.specs.Requests.{value}
use Rattle.diagram.proofs.Descent.{EdgeAsked, edge_asked, down_more, landed}
use Rattle.diagram.specs.Layout.{child_at, edge_at}
use Rattle.listing.proofs.PathRanges.{ranges_next, ranges_end}
use Rattle.listing.proofs.Writing.{Partly, partly_first, partly_more, partly_all}
use Rattle.listing.specs.Paths.{path_from, path_of}
use Rattle.listing.specs.Text.{space, range, ranges}
use Rattle.soundness.proofs.CheckedNumbers.{numbers_sound}
use Rattle.listing.proofs.lines.put_path.Goals as goal
use Rattle.listing.proofs.lines.put_path.Goals.{At-loop-value, In-loop-value, After-from}

-- after the last field
ended : (c : At-loop-value) → fields ≤ c.loop-value.value-index →
    Partly c.args.text.now (ranges (path_of c.args.diagram.numbers.now c.args.values)) c.loop-value.text []
ended c l =
    let long : length c.args.values ≡ fields = omega arith in
    rw (← (ranges_end c.args.diagram.numbers.now c.args.values c.loop-value.place c.loop-value.value-index (omega (arith, long)))) c.loop-value.invariant.1

-- the edge that the field's value asks for
asked : (c : In-loop-value) → EdgeAsked c.args.diagram.numbers.now c.loop-value.place (value c.args.values c.loop-value.value-index)
asked c =
    let f = c.loop-value.value-index in
    edge_asked c.args.diagram.numbers.now (numbers_sound c.args.diagram) c.loop-value.place f c.loop-value.invariant.0.entry c.loop-value-test.true _ (c.requires.within f c.loop-value-test.true)

-- the edge that was found: its last value and its child's place
pair : (c : After-from) → get_or c.edges_of.result.now c.edge_of-edge.result [] ≡ edge_at c.args.diagram.numbers.now c.loop-value.place c.edge_of-edge.result
pair c = c.edges_of.ensures.each c.edge_of-edge.result c.edge_of-edge.ensures.1

-- the bytes left before a field: its range, a space, and the ranges of the fields after it
next : (c : After-from) → let d = c.args.diagram.numbers.now in let p = c.loop-value.place in let q = c.args.values in let j = c.edge_of-edge.result in
    ranges (path_from d p (drop c.loop-value.value-index q)) ≡ range c.first_of-low.result c.from.result ++ space ∷ ranges (path_from d (child_at d p j) (drop (c.loop-value.value-index + 1) q))
next c =
    let long : length c.args.values ≡ fields = omega arith in
    ranges_next c.args.diagram.numbers.now c.args.values c.loop-value.place c.loop-value.value-index _ c.edge_of-edge.result c.first_of-low.result c.from.result (omega (arith, long, c.loop-value-test.true)) refl c.edge_of-edge.ensures.0 c.first_of-low.ensures.0 (c.from.ensures ∙ ap (λ e. get_or e 0 0) (pair c))

pub edge_of-edge-requires : goal.edge_of-edge-requires
edge_of-edge-requires c =
    let a = asked (goal.at.edge_of-edge-requires c).In-loop-value in
    record { place_lt_most_places = a.0; sound_node = a.1.0; value_bound = a.1.1 }

pub first_of-low-requires : goal.first_of-low-requires
first_of-low-requires c =
    let a = asked (goal.at.first_of-low-requires c).In-loop-value in
    (a.0.0, c.edge_of-edge.ensures.1, a.0.1)

pub edges_of-requires : goal.edges_of-requires
edges_of-requires c =
    let a = asked (goal.at.edges_of-requires c).In-loop-value in
    record { early = a.0.0; within = a.0.1 }

pub put_range-requires : goal.put_range-requires
put_range-requires c =
    let n = next (goal.at.put_range-requires c).After-from in
    partly_first c.loop-value.invariant.1 (range c.first_of-low.result c.from.result) _ n c.requires.room_for

pub put-requires : goal.put-requires
put-requires c =
    let n = next (goal.at.put-requires c).After-from in
    let ranged = partly_more c.loop-value.invariant.1 n c.put_range.ensures in
    partly_first ranged (space ∷ []) _ refl c.requires.room_for

pub loop-value-preserved : goal.loop-value-preserved
loop-value-preserved c =
    let d = c.args.diagram.numbers.now in
    let q = c.args.values in
    let p = c.loop-value.place in
    let long : length c.args.values ≡ fields = omega arith in
    let a = (goal.at.loop-value-preserved c).After-from in
    let n = next a in
    let child = c.from-place-in-loop-value.ensures ∙ ap (λ e. get_or e 1 0) (pair a) in
    let ranged = partly_more c.loop-value.invariant.1 n c.put_range.ensures in (
      down_more d (numbers_sound c.args.diagram) q c.requires.within p c.loop-value.value-index c.loop-value.invariant.0 c.loop-value-test.true (omega (arith, long, c.loop-value-test.true)) _ _ refl
          (child ∙ ap (child_at d p) c.edge_of-edge.ensures.0),
      partly_more ranged (ap (λ p'. space ∷ ranges (path_from d p' (drop (c.loop-value.value-index + 1) q))) (sym child)) c.put.ensures,
    )

pub returns : goal.returns
returns c =
    let long : length c.args.values ≡ fields = omega arith in
    record {
      landed = landed c.args.diagram.numbers.now (numbers_sound c.args.diagram) c.args.values c.requires.within c.loop-value.place c.loop-value.value-index c.loop-value.invariant.0 c.loop-value-test.false long;
      puts = partly_all (ended (goal.at.returns c).At-loop-value c.loop-value-test.false) refl;
    }
