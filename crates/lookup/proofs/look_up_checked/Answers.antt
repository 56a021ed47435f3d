-- `lookup::look_up_checked` meets its contract, on each way out.
use Rattle.std.proofs.Common.{◌≡◌, ℕ, List, ◌+◌, ◌≤◌, refl, sym, ap, ◌∙◌, [], length, take, drop, arith}
use lib.ListN.{length-take, length-drop}
use lib.Seq.{sets}
use Rattle.answer.proofs.Numbers.{answered}
use Rattle.answer.specs.Fields.{fields}
use Rattle.answer.specs.Answers.{ruled}
use Rattle.answer.specs.Requests.{field_fault}
use Rattle.answer.specs.declared.Answer.{Answer}
use Rattle.answer.proofs.FirstField.{none_over_within, found_one, found_none}
use Rattle.answer.proofs.RequestRefusals.{asked_over, asked_short, asked_ruled}
use Rattle.answer.proofs.Stored.{stored_cleared}
use Rattle.diagram.specs.Layout.{maximum, count_at}
use Rattle.diagram.specs.LookUp.{ruled_by}
use Rattle.diagram.proofs.LookUpAnswers.{maxima_fault, reached_cards, reached_count, reached_decision}
use Rattle.soundness.proofs.CheckedNumbers.{numbers_sound}
use Rattle.lookup.proofs.Halving.{read_at}
use Rattle.lookup.proofs.look_up_checked.Goals as goal
use Rattle.lookup.proofs.look_up_checked.Goals.{After-descend-place, In_default}

-- no field is at fault
none_at_fault : (c : In_default) → fields ≤ field_fault (maximum c.args.diagram.numbers.now) c.args.request.values 0
none_at_fault c = omega (arith, found_none _ (sym c.in_default.is ∙ c.field_fault.ensures), maxima_fault c.args.diagram.numbers.now c.args.request.values 0 (omega arith))

-- at the terminal that the request reaches
count_there : (c : After-descend-place) → count_at c.args.diagram.numbers.now c.descend-place.result ≡ length (ruled_by c.args.diagram.numbers.now c.args.request.values).cards
count_there c = reached_count c.args.diagram.numbers.now c.args.request.values (numbers_sound c.args.diagram) c.descend-place.result c.descend-place.ensures

pub field_fault-requires : goal.field_fault-requires
field_fault-requires c =
    let d = c.args.diagram.numbers.now in
    let long : length c.args.request.values ≡ fields = omega arith in
    (omega (arith, length-take fields (drop 2 d), length-drop 2 d, (numbers_sound c.args.diagram).header_there), omega (arith, long))

pub returns-in-Some : goal.returns-in-Some
returns-in-Some c =
    let d = c.args.diagram.numbers.now in
    let q = c.args.request.values in
    let found = found_one c.in-Some.field _ c.in-Some.ensures in
    let p = asked_over [] (maximum d) q 0 (omega arith) (ruled_by d q) 0 (length c.args.cards.now) _ c.args.cards.now tt
    c.in-Some.field (found.0 ∙ maxima_fault d q 0 (omega arith)) found.1 (ap answered c.at.ensures) c.requires in
    record { value = p.0; cards_after = p.1 }

pub descend-place-requires : goal.descend-place-requires
descend-place-requires c =
    none_over_within (maximum c.args.diagram.numbers.now) c.args.request.values (none_at_fault (goal.at.descend-place-requires c).In_default)

pub returns-then-cards-count : goal.returns-then-cards-count
returns-then-cards-count c =
    let d = c.args.diagram.numbers.now in
    let q = c.args.request.values in
    let p = asked_short [] (maximum d) q 0 (omega arith) (ruled_by d q) 0 (length c.args.cards.now) _ c.args.cards.now tt
    (field_fault (maximum d) q 0) refl (none_at_fault (goal.at.returns-then-cards-count c).In_default)
    (count_at d c.descend-place.result) (count_there (goal.at.returns-then-cards-count c).After-descend-place)
    (omega (arith, c.if-cards-count.true)) (ap answered c.at-then-cards-count.ensures) c.requires in
    record { value = p.0; cards_after = p.1 }

-- an answer that gives a ruling gives that of its own parts
own_parts : (a : Answer) (d k m : ℕ) → a ≡ ruled d k m → a ≡ ruled a.decision a.count a.subjects
own_parts a d k m e = e ∙ sym (ap (λ x. ruled x.decision x.count x.subjects) e)

-- the numbers from place f on are the cards of the terminal at place p
cards_kept : (d list base cards : List ℕ) (f m p : ℕ) → list ≡ sets base 0 (take m (drop f d)) → f ≡ p + 3 → m ≡ count_at d p →
    take (count_at d p) (drop (p + 3) d) ≡ cards → list ≡ sets base 0 cards
cards_kept d list base cards f m p e ef em ec =
    e ∙ ap (sets base 0) (ap (λ n. take n (drop f d)) em ∙ ap (λ k. take (count_at d p) (drop k d)) ef ∙ ec)

pub returns : goal.returns
returns c =
    let d = c.args.diagram.numbers.now in
    let q = c.args.request.values in
    let s = numbers_sound c.args.diagram in
    let p = c.descend-place.result in
    let r = ruled_by d q in
    let n = length c.args.cards.now in
    let answer = c.ruled.result in
    let there = count_there (goal.at.returns c).After-descend-place in
    let decision = read_at d _ answer.decision (ap (λ (a : Answer). a.decision) c.ruled.ensures) (p + 1) (omega arith) in
    let count : answer.count ≡ length r.cards = omega (arith, ap (λ (a : Answer). a.count) c.ruled.ensures, c.from-count.ensures, there) in
    let subjects : answer.subjects ≡ 0 = omega (arith, ap (λ (a : Answer). a.subjects) c.ruled.ensures) in
    let a = asked_ruled [] (maximum d) q 0 (omega arith) r 0 n answer c.store.new.list tt (field_fault (maximum d) q 0) refl
    (none_at_fault (goal.at.returns c).In_default) answer.count count answer.decision answer.subjects (omega (arith, c.from-count.ensures, there))
    (decision ∙ reached_decision d q s p c.descend-place.ensures) subjects (own_parts answer _ _ _ c.ruled.ensures)
    (stored_cleared r.cards c.store.new.list c.args.cards.now n c.requires
    (cards_kept d c.store.new.list c.args.cards.now r.cards _ _ p c.store.ensures (omega arith) (omega (arith, c.from-count.ensures))
    (reached_cards d q s p c.descend-place.ensures))
    (omega (arith, there, c.from-count.ensures))) in
    record { value = a.0; cards_after = a.1 }
