-- `listing::lines::line` meets its contract: the line fits, and its items are written one after another.
use Rattle.std.proofs.Common.{◌≡◌, ◌∙◌, ◌≤◌, refl, subst, ap, List, [], ◌∷◌, ◌++◌, ℕ, length, arith}
use Rattle.answer.specs.Rulings.{Ruling}
use Rattle.diagram.specs.Landed.{Landed}
use Rattle.diagram.specs.LookUp.{ruled_by}
use Rattle.diagram.specs.Layout.{decision_at}
use Rattle.listing.specs.declared.text.Text.{Text}
use Rattle.listing.proofs.LineWritten.{word_there}
use Rattle.listing.proofs.LineFits.{Small, ranges_fit, line_fits}
use Rattle.listing.proofs.Writing.{puts_as, Partly, partly_none, partly_first, partly_more, partly_all}
use Rattle.listing.specs.Paths.{path_of, line_of}
use Rattle.listing.specs.Written.{HasRoom, Puts}
use Rattle.listing.specs.Text.{newline, decision_word, items, ranges, line, most_line}
use Rattle.soundness.proofs.CheckedNumbers.{numbers_sound}
use Rattle.listing.proofs.lines.line.Goals as goal
use Rattle.listing.proofs.lines.line.Goals.{After-cards_of-cards}

-- the word and the cards of request q of diagram d
module _ (d q : List ℕ) where
  abbrev word : List ℕ
  word = decision_word (ruled_by d q).decision

  abbrev cards : List ℕ
  cards = items (ruled_by d q).cards

-- after the path and its cards are found
module _ (c : After-cards_of-cards) where
  there : c.cards_of-cards.result.now ≡ (ruled_by c.args.diagram.numbers.now c.args.values).cards
  there = c.cards_of-cards.ensures.cards ∙ ap (λ (r : Ruling). r.cards) c.put_path-place.ensures.landed.ruling

  fits : length (line_of c.args.diagram.numbers.now c.args.values) ≤ most_line
  fits =
      line_fits c.args.diagram.numbers.now (numbers_sound c.args.diagram) c.args.values c.requires.within (omega arith)
      (subst Small there c.cards_of-cards.ensures.small)

  room : HasRoom c.args.text.now (line_of c.args.diagram.numbers.now c.args.values)
  room = omega (arith, c.requires.line_fits, fits)

-- where request q ends at place p: the line, written into text t
module _ {d q : List ℕ} {p : ℕ} (l : Landed d q p) where
  -- what is left after the ranges
  module _ {t u : Text} (r : Puts t u (ranges (path_of d q))) where
    ranges-put : Partly t (line_of d q) u (word d q ++ (cards d q ++ newline ∷ []))
    unfolding line
    ranges-put = partly_more (partly_none refl) refl r

    -- what is left after the word
    module _ {v : Text} (w : Puts u v (decision_word (decision_at d p))) where
      word-put : Partly t (line_of d q) v (cards d q ++ newline ∷ [])
      word-put = partly_more ranges-put refl (puts_as w (word_there d q p l))

      -- what is left after the cards
      module _ {x : Text} {k : List ℕ} (e : k ≡ (ruled_by d q).cards) (y : Puts v x (items k)) where
        cards-put : Partly t (line_of d q) x (newline ∷ [])
        cards-put = partly_more word-put refl (puts_as y (ap items e))

pub put_path-place-requires-clause-room_for : goal.put_path-place-requires-clause-room_for
put_path-place-requires-clause-room_for c =
    let e = ranges_fit c.args.diagram.numbers.now (numbers_sound c.args.diagram) c.args.values c.requires.within (omega arith) in
    omega (arith, c.requires.line_fits, e)

pub cards_of-cards-requires : goal.cards_of-cards-requires
cards_of-cards-requires c = (c.put_path-place.ensures.landed.early, c.put_path-place.ensures.landed.within)

pub put_decision-requires : goal.put_decision-requires
put_decision-requires c =
    let d = c.args.diagram.numbers.now in
    let q = c.args.values in
    let path = c.put_path-place.ensures in
    record {
      decision_bound = path.landed.one_of_four;
      room_for = omega (
        arith,
        partly_first (ranges-put path.landed path.puts) (word d q) (cards d q ++ newline ∷ []) refl (room (goal.at.put_decision-requires c).After-cards_of-cards),
        ap length (word_there d q c.put_path-place.result path.landed),
      );
    }

pub put_items-requires : goal.put_items-requires
put_items-requires c =
    let path = c.put_path-place.ensures in
    let a = (goal.at.put_items-requires c).After-cards_of-cards in
    omega (
      arith,
      partly_first (word-put path.landed path.puts c.put_decision.ensures) (cards c.args.diagram.numbers.now c.args.values) (newline ∷ []) refl (room a),
      ap (λ k. length (items k)) (there a),
    )

pub end_line-requires : goal.end_line-requires
end_line-requires c =
    let path = c.put_path-place.ensures in
    let a = (goal.at.end_line-requires c).After-cards_of-cards in
    partly_first (cards-put path.landed path.puts c.put_decision.ensures (there a) c.put_items.ensures) (newline ∷ []) [] refl (room a)

pub returns : goal.returns
returns c =
    let path = c.put_path-place.ensures in
    let a = (goal.at.returns c).After-cards_of-cards in
    let put = cards-put path.landed path.puts c.put_decision.ensures (there a) c.put_items.ensures in
    let w = partly_all (partly_more put refl c.end_line.ensures) refl in
    record { puts = w; upper_bound = omega (arith, w.written.ends, fits a) }
