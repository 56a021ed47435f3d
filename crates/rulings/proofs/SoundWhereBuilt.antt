-- Where building succeeds, the lent diagram is sound.
use mathlib.Core.Path.{◌≡◌, sym, ap, ◌∙◌, subst}
use mathlib.Core.List.{List}
use Prim.Native.Nat.{ℕ, ◌-◌}
use lib.ListN.{length}
use Rattle.answer.specs.Fields.{fields}
use Rattle.answer.specs.Answers.{zeros}
use Rattle.answer.specs.declared.Answer.{Answer}
use Rattle.encoding.specs.Layout.{Bytes}
use Rattle.diagram.specs.Sound.{Sound}
use Rattle.building.specs.Built.{diagram_of, built, built_diagram}
use Rattle.building.proofs.BuiltIsSound.{built_is_sound}
use Rattle.building.proofs.BuildAnswers.{succeeds_exactly, accepted_built}

pub sound_where_built : (t : List ℕ) (n : ℕ) (a : Answer) (d : List ℕ) → Bytes t → a ≡ built t n → d ≡ built_diagram t n → a.number ≡ 0 → Sound fields d
sound_where_built t n a d b e i z =
    let s = (succeeds_exactly t n).0 (sym (ap (λ (x : Answer). x.number) e) ∙ z) in
    subst (Sound fields) (sym (i ∙ (accepted_built t n s.0 s.1).1))
    (built_is_sound t (zeros (n - length (diagram_of t))) b s.0 s.1.0)
