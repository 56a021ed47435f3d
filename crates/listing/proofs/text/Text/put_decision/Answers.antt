-- `listing::text::Text::put_decision` meets its contract, for each decision.
use Rattle.std.proofs.Common.{◌≡◌, ℕ, sym, ap, subst, arith}
use Rattle.listing.proofs.Writing.{puts_as}
use Rattle.listing.specs.Written.{HasRoom}
use Rattle.listing.specs.Text.{decision_word}
use Rattle.listing.proofs.text.Text.put_decision.Goals as goal

pub put_all-requires : goal.put_all-requires
put_all-requires c =
    let e : c.args.decision ≡ 0 = omega arith in
    subst (λ (n : ℕ). HasRoom c.args.self.now (decision_word n)) e c.requires.room_for

pub put_all-requires-in-1 : goal.put_all-requires-in-1
put_all-requires-in-1 c =
    let e : c.args.decision ≡ 1 = omega arith in
    subst (λ (n : ℕ). HasRoom c.args.self.now (decision_word n)) e c.requires.room_for

pub put_all-requires-in-2 : goal.put_all-requires-in-2
put_all-requires-in-2 c =
    let e : c.args.decision ≡ 2 = omega arith in
    subst (λ (n : ℕ). HasRoom c.args.self.now (decision_word n)) e c.requires.room_for

pub put_all-requires-in_default : goal.put_all-requires-in_default
put_all-requires-in_default c =
    let e : c.args.decision ≡ 3 = omega arith in
    subst (λ (n : ℕ). HasRoom c.args.self.now (decision_word n)) e c.requires.room_for

pub returns-in-0 : goal.returns-in-0
returns-in-0 c = let e : c.args.decision ≡ 0 = omega arith in puts_as c.put_all.ensures (sym (ap decision_word e))

pub returns-in-1 : goal.returns-in-1
returns-in-1 c = let e : c.args.decision ≡ 1 = omega arith in puts_as c.put_all-in-1.ensures (sym (ap decision_word e))

pub returns-in-2 : goal.returns-in-2
returns-in-2 c = let e : c.args.decision ≡ 2 = omega arith in puts_as c.put_all-in-2.ensures (sym (ap decision_word e))

pub returns-in_default : goal.returns-in_default
returns-in_default c = let e : c.args.decision ≡ 3 = omega arith in puts_as c.put_all-in_default.ensures (sym (ap decision_word e))
