-- `entering::finding::Index::find` meets its contract: the slots tried so far hold places of other entries.
use Rattle.std.proofs.Common.{◌≡◌, sym, ◌∙◌, subst, arith}
use Rattle.entering.specs.Index.{tries}
use Rattle.entering.proofs.Indexing.{Tried, tried_more, empty_finds, equal_finds, equal_before_end, none_finds}
use Rattle.entering.proofs.finding.Index.find.Goals as goal

pub returns-then-place-eq0-clause-finding : goal.returns-then-place-eq0-clause-finding
returns-then-place-eq0-clause-finding c =
    empty_finds c.args.diagram.now c.args.self.now.end c.args.self.now.slots c.args.entry.now c.hash-hash.result c.loop-tried.tried
    c.from-place.result c.hash-hash.ensures.0 c.loop-tried.invariant c.from-place.ensures (omega arith) (omega arith)

pub returns-then-equal_at : goal.returns-then-equal_at
returns-then-equal_at c =
    let e = sym c.if-equal_at.true ∙ c.equal_at.ensures in record {
      within = equal_before_end c.args.diagram.now c.args.self.now.end c.from-place.result c.args.entry.now e;
      finding =
          equal_finds c.args.diagram.now c.args.self.now.end c.args.self.now.slots c.args.entry.now c.hash-hash.result c.loop-tried.tried
          c.from-place.result c.hash-hash.ensures.0 c.loop-tried.invariant c.from-place.ensures c.if-place-eq0.false e;
    }

pub loop-tried-preserved : goal.loop-tried-preserved
loop-tried-preserved c =
    tried_more c.args.diagram.now c.args.self.now.end c.args.self.now.slots c.args.entry.now c.hash-hash.result c.loop-tried.tried
    c.from-place.result c.hash-hash.ensures.0 c.loop-tried.invariant c.from-place.ensures c.if-place-eq0.false
    (sym c.if-equal_at.false ∙ c.equal_at.ensures)

pub returns-in-Some-clause-finding : goal.returns-in-Some-clause-finding
returns-in-Some-clause-finding c = λ es l. c.in-Some.ensures.value es c.args.self.now.slots l

pub returns-in-None-clause-finding : goal.returns-in-None-clause-finding
returns-in-None-clause-finding c =
    let z : c.loop-tried.tried ≡ tries = omega arith in
    none_finds c.args.diagram.now c.args.self.now.end c.args.self.now.slots c.args.entry.now
    (subst (Tried c.args.diagram.now c.args.self.now.end c.args.self.now.slots c.args.entry.now) z c.loop-tried.invariant) c.in-None.ensures.value
