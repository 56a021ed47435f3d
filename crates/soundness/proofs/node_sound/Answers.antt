-- `soundness::node_sound` meets its contract: the edges passed so far are right.
use Rattle.std.proofs.Common.{◌≡◌, ◌+◌, ◌<◌, ap, ◌∙◌, ⊎_elim, [], get_or, take, arith}
use Rattle.std.proofs.lemmas.Bool.Decides.{nat_tests}
use Rattle.std.proofs.lemmas.Grind.{common_steps}
use Rattle.answer.specs.Fields.{fields}
use Rattle.diagram.specs.Sound.{next_level}
use Rattle.diagram.specs.Layout.{number_at, level_at, edges_at, last_at, child_at, edge_at}
use Rattle.soundness.proofs.EdgeByEdge.{next_mark_last, next_mark, checked_none, checked_more, not_rising, MarkOf, mark_of, child_right, child_wrong, edges_decide}
use Rattle.soundness.proofs.node_sound.Goals as goal
use Rattle.soundness.proofs.node_sound.Goals.{Joined-level-lt-FIELDS, After-unwrap_or-mark, then-level-lt-FIELDS, else-level-lt-FIELDS}

-- the mark where entries of the next level start
mark-below : (c : Joined-level-lt-FIELDS) → c.if-level-lt-FIELDS.below ≡ next_level fields (level_at c.args.diagram.now c.args.place) + 1
mark-below c =
    let level = level_at c.args.diagram.now c.args.place in
    elim c.if-level-lt-FIELDS.branch [
      | then-level-lt-FIELDS w ↦ omega (arith, next_mark level (λ e. omega arith))
      | else-level-lt-FIELDS w ↦ omega (arith, next_mark_last level (omega arith))
    ]

-- an edge's last value, and its child's mark

its-pair : (c : After-unwrap_or-mark) → get_or c.edges_of-last-items.result.now c.loop-last.last-index [] ≡ edge_at c.args.diagram.now c.args.place c.loop-last.last-index
its-pair c = c.edges_of-last-items.ensures.each c.loop-last.last-index (omega (arith, c.edges_of-last-items.ensures.count))

its-last : (c : After-unwrap_or-mark) → c.from-last.result ≡ last_at c.args.diagram.now c.args.place c.loop-last.last-index
its-last c = c.from-last.ensures ∙ ap (λ e. get_or e 0 0) (its-pair c)

its-mark : (c : After-unwrap_or-mark) → MarkOf c.args.diagram.now c.args.place c.args.marks.now c.loop-last.last-index c.unwrap_or-mark.result
its-mark c =
    let read : c.unwrap_or-mark.result ≡ get_or (take c.args.place c.args.marks.now) c.from.result 0 = grind (arith, common_steps) in
    let child : c.from.result ≡ child_at c.args.diagram.now c.args.place c.loop-last.last-index = c.from.ensures ∙ ap (λ e. get_or e 1 0) (its-pair c) in
    mark_of c.args.diagram.now c.args.place c.args.marks.now c.loop-last.last-index c.unwrap_or-mark.result
    (read ∙ ap (λ n. get_or (take c.args.place c.args.marks.now) n 0) child)

pub returns-then-last-from : goal.returns-then-last-from
returns-then-last-from c =
    let k = (goal.at.returns-then-last-from c).After-unwrap_or-mark in
    let j = (goal.at.returns-then-last-from c).Joined-level-lt-FIELDS in
    let real : c.loop-last.last-index < edges_at c.args.diagram.now c.args.place = omega (arith, c.edges_of-last-items.ensures.count) in
    ⊎_elim
    (λ falls. not_rising c.args.diagram.now c.args.place c.loop-last.invariant (omega (arith, falls, its-last k)) real)
    (λ h.
    child_wrong c.args.diagram.now c.args.place c.args.marks.now c.requires.entries_marked c.loop-last.last-index _ _ (its-mark k) (mark-below j) h.1 real)
    c.then-last-from.either

pub loop-last-init : goal.loop-last-init
loop-last-init c = checked_none c.args.diagram.now c.args.place

pub loop-last-preserved : goal.loop-last-preserved
loop-last-preserved c =
    let k = (goal.at.loop-last-preserved c).After-unwrap_or-mark in
    let j = (goal.at.loop-last-preserved c).Joined-level-lt-FIELDS in
    let right = child_right c.args.diagram.now c.args.place c.args.marks.now c.requires.entries_marked c.loop-last.last-index _ _ (its-mark k) (mark-below j) (omega arith) in
    rw (its-last k) (checked_more c.args.diagram.now c.args.place c.loop-last.invariant (omega (arith, its-last k)) right)

pub returns : goal.returns
returns c =
    edges_decide c.args.diagram.now c.args.place c.loop-last.invariant (omega (arith, c.edges_of-last-items.ensures.count)) c.requires.bound.0 (omega arith)
    c.from-2.result (c.from-2.ensures ∙ ap (λ n. number_at c.args.diagram.now (1 + n)) c.from-level.ensures) _ (λ t. grind (arith, nat_tests, t)) (λ t e. grind (arith, nat_tests, t, e))
