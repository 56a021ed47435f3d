-- `paths::next_from`, which calls itself, meets its contract.
use Rattle.std.proofs.Common.{◌≡◌, ◌<◌, refl, sym, ap, get_or, ◌∙◌, ℕ, length, arith, rules}
use Rattle.answer.specs.Fields.{fields}
use Rattle.answer.specs.Requests.{value}
use Rattle.diagram.specs.Layout.{child_at}
use Rattle.diagram.proofs.Descent.{EdgeAsked, edge_asked, child_here}
use Rattle.listing.proofs.Edges.{next_first_most}
use Rattle.listing.proofs.NextPath.{no_field_left, moves_below, moves_on, nothing_follows, zeros_after}
use Rattle.soundness.proofs.CheckedNumbers.{numbers_sound}
use Rattle.listing.proofs.paths.+next_from.Goals as goal
use Rattle.listing.proofs.paths.+next_from.Goals.{Else-field-eq-FIELDS, After-from-child}

-- where a field is left
module _ (t : ℕ) (c : Else-field-eq-FIELDS t) where
  left : c.args.field < fields
  left = omega (arith, c.requires.entry_before.1, c.if-field-eq-FIELDS.false)

  asked : EdgeAsked c.args.diagram.numbers.now c.args.place (value c.args.values c.args.field)
  asked = edge_asked c.args.diagram.numbers.now (numbers_sound c.args.diagram) c.args.place c.args.field c.requires.entry_before.0 left _ (c.requires.within c.args.field left)

  left_here : c.args.field < length c.args.values
  left_here = let long : length c.args.values ≡ fields = omega arith in omega (arith, long, left)

-- the child of the edge that the field's value asks for
child_there : (t : ℕ) (c : After-from-child t) → c.from-child.result ≡ child_at c.args.diagram.numbers.now c.args.place c.edge_of-edge.result
child_there t c = c.from-child.ensures ∙ ap (λ e. get_or e 1 0) (c.edges_of-edges.ensures.each c.edge_of-edge.result c.edge_of-edge.ensures.1)

pub returns-then-field-eq-FIELDS : goal.returns-then-field-eq-FIELDS
returns-then-field-eq-FIELDS t c =
    let long : length c.args.values ≡ fields = omega arith in
    no_field_left c.args.diagram.numbers.now c.args.values c.args.place c.args.field (omega (arith, long, c.if-field-eq-FIELDS.true))

pub edge_of-edge-requires : goal.edge_of-edge-requires
edge_of-edge-requires t c =
    let a = asked t (goal.at.edge_of-edge-requires t c).Else-field-eq-FIELDS in
    record { place_lt_most_places = a.0; sound_node = a.1.0; value_bound = a.1.1 }

pub edges_of-edges-requires : goal.edges_of-edges-requires
edges_of-edges-requires t c =
    let a = asked t (goal.at.edges_of-edges-requires t c).Else-field-eq-FIELDS in
    record { early = a.0.0; within = a.0.1 }

pub next_from-below-requires : goal.next_from-below-requires
next_from-below-requires t c =
    let l : c.args.field < fields = left t (goal.at.next_from-below-requires t c).Else-field-eq-FIELDS in
    let e = child_here c.args.diagram.numbers.now (numbers_sound c.args.diagram) c.args.place c.args.field c.requires.entry_before.0 l _ (c.requires.within c.args.field l) in
    (omega (arith, c.decreases, l), (c.requires.within, (rw (← c.edge_of-edge.ensures.0, ← (child_there t (goal.at.next_from-below-requires t c).After-from-child)) at e, omega (arith, l))))

pub returns-then-is_some : goal.returns-then-is_some
returns-then-is_some t c =
    moves_below c.args.diagram.numbers.now c.args.values c.args.place c.args.field _ c.edge_of-edge.result _
    (left_here t (goal.at.returns-then-is_some t c).Else-field-eq-FIELDS) refl c.edge_of-edge.ensures.0 (child_there t (goal.at.returns-then-is_some t c).After-from-child)
    c.next_from-below.result c.next_from-below.ensures (sym c.is_some.ensures ∙ c.if-is_some.true)

pub first_of-requires : goal.first_of-requires
first_of-requires t c =
    let a = asked t (goal.at.first_of-requires t c).Else-field-eq-FIELDS in
    (a.0.0, omega (arith, c.if-edge-edges.true), a.0.1)

pub overflow_cast-next : goal.overflow_cast-next
overflow_cast-next t c =
    let d = c.args.diagram.numbers.now in
    let s = numbers_sound c.args.diagram in
    let l : c.args.field < fields = left t (goal.at.overflow_cast-next t c).Else-field-eq-FIELDS in
    omega (
      arith,
      c.first_of.ensures.0,
      next_first_most d s c.args.place c.args.field c.requires.entry_before.0 l c.edge_of-edge.result (omega (arith, c.if-edge-edges.true, c.edges_of-edges.ensures.count)),
      s.maxima c.args.field l,
    )

pub returns-then-edge-edges : goal.returns-then-edge-edges
returns-then-edge-edges t c =
    moves_on c.args.diagram.numbers.now c.args.values c.args.place c.args.field _ c.edge_of-edge.result _
    (left_here t (goal.at.returns-then-edge-edges t c).Else-field-eq-FIELDS) refl c.edge_of-edge.ensures.0 (child_there t (goal.at.returns-then-edge-edges t c).After-from-child)
    c.next_from-below.result c.next_from-below.ensures (sym c.is_some.ensures ∙ c.if-is_some.false)
    (omega (arith, c.if-edge-edges.true)) c.first_of.result c.first_of.ensures.0 _
    (zeros_after c.args.values c.fill.new.self c.args.field _ c.first_of.result (left_here t (goal.at.returns-then-edge-edges t c).Else-field-eq-FIELDS) (let long : length c.args.values ≡ fields = omega arith in omega (arith, long))
    (c.fill.ensures.after (λ y h. search rules) ∙ search rules))

pub returns : goal.returns
returns t c =
    nothing_follows c.args.diagram.numbers.now c.args.values c.args.place c.args.field _ c.edge_of-edge.result _
    (left_here t (goal.at.returns t c).Else-field-eq-FIELDS) refl c.edge_of-edge.ensures.0 (child_there t (goal.at.returns t c).After-from-child)
    c.next_from-below.result c.next_from-below.ensures (sym c.is_some.ensures ∙ c.if-is_some.false)
    (omega (arith, c.if-edge-edges.false))
