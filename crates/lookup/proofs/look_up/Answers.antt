-- `lookup::look_up` meets its contract: refusal 12, or what a look-up in a sound diagram answers.
use Rattle.std.proofs.Common.{sym, ap, ◌∙◌, [], ◌∷◌, length, arith}
use Rattle.answer.proofs.Numbers.{answered}
use Rattle.answer.specs.Answers.{zeros}
use Rattle.answer.proofs.RequestRefusals.{asked_before}
use Rattle.diagram.specs.Layout.{maximum}
use Rattle.diagram.specs.LookUp.{ruled_by}
use Rattle.diagram.specs.LookedUp.{diagram_refusal, looked_up, looked_up_list}
use Rattle.diagram.proofs.LookUpAnswers.{unsound, sound_answers}
use Rattle.soundness.proofs.CheckedNumbers.{numbers_sound}
use Rattle.lookup.proofs.look_up.Goals as goal

pub returns-in_default : goal.returns-in_default
returns-in_default c =
    let d = c.args.diagram.now in
    let q = c.args.request.values in
    let p = asked_before (diagram_refusal d ∷ []) (maximum d) q 0 (omega arith) (ruled_by d q) 0 (length c.args.cards.now) _
    c.clear.new.list (unsound d c.in_default.ensures) (c.from.ensures ∙ ap answered c.at.ensures) c.clear.ensures in
    record { value = p.0; cards_after = p.1 }

pub look_up_sound-requires : goal.look_up_sound-requires
look_up_sound-requires c = c.clear.ensures ∙ ap zeros (sym c.clear.auto.list)

pub returns : goal.returns
returns c =
    let q = c.args.request.values in
    let n = length c.args.cards.now in
    let p = sound_answers c.in-Some.sound.numbers.now q n (length c.clear.new.list) (numbers_sound c.in-Some.sound) c.clear.auto.list
    c.look_up_sound.result c.look_up_sound.new.cards c.look_up_sound.ensures.value c.look_up_sound.ensures.cards_after in
    record {
      value = p.0 ∙ ap (λ d. looked_up d q n) c.in-Some.ensures;
      cards_after = p.1 ∙ ap (λ d. looked_up_list d q n) c.in-Some.ensures;
    }
