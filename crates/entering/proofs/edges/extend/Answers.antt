-- `entering::edges::extend` meets its contract: the last edge is shared, or another opened.
use Rattle.std.proofs.Common.{◌≡◌, ◌-◌, get_or, ap, ◌∙◌, arith}
use Rattle.entering.proofs.OpenEdges.{shared_edge, opened_edge}
use Rattle.entering.proofs.edges.extend.Goals as goal
use Rattle.entering.proofs.edges.extend.Goals.{else-edges-gt0-via-then-edges-gt0+else-child-edges, else-edges-gt0-via-else-edges-gt0}

pub returns-then-child-edges-clause-result_after : goal.returns-then-child-edges-clause-result_after
returns-then-child-edges-clause-result_after c =
    let s = c.args in
    shared_edge s.last.now s.child.now s.value s.place s.edges (omega arith) (omega arith) c.if-child-edges.true

pub returns-clause-result_after : goal.returns-clause-result_after
returns-clause-result_after c =
    let s = c.args in
    opened_edge s.last.now s.child.now s.value s.place s.edges (omega (arith, c.requires)) (omega (arith, c.requires))
    (λ m e g.
    elim c.else-edges-gt0.branch [
      | else-edges-gt0-via-then-edges-gt0+else-child-edges w ↦
          let z : s.edges - 1 ≡ m = omega arith in w.if-child-edges.false (ap (λ k. get_or s.child.now k 0) z ∙ g)
      | else-edges-gt0-via-else-edges-gt0 w ↦ omega arith
    ])
