-- The cards of a ruling in the list that they were stored in, and the header over the zeros that it is written over.
use mathlib.Core.Path.{◌≡◌, sym, ap, ◌∙◌, subst}
use mathlib.Core.Bool.{Bool}
use mathlib.Core.List.{List, ◌∷◌, ◌++◌, append_assoc}
use Prim.Native.Nat.{ℕ, ◌+◌, ◌-◌, ◌≤◌}
use native.Mathlib.Omega.{arith}
use lib.ListN.{length, take, drop, length-append, length-replicate}
use lib.Seq.{sets, sets-eq, drop_at, length-sets}
use Rattle.answer.specs.Fields.{fields}
use Rattle.answer.specs.Answers.{zeros, padded}
use Rattle.encoding.specs.Layout.{maxima}
use Rattle.table.specs.WellFormed.{WellFormed}
use Rattle.ruling.specs.Meaning.{meaning}
use Rattle.ruling.proofs.AtMost127Cards.{few_cards}
use Rattle.diagram.specs.Layout as diagram
use Rattle.diagram.specs.Entries.{terminal}
use Rattle.diagram.specs.Walk.{Entries, enter}
use Rattle.std.specs.Prelude.{Option}
use Rattle.entering.specs.Laid.{Laid, Standing}
use Rattle.entering.proofs.NumbersWritten.{start_is}

-- A ruling stored in a list with room for 127 cards is that of the groups, where the nodes a apply.
module _ (t : List ℕ) (a : ℕ → Bool) (list stored : List ℕ) (decision count : ℕ) (w : WellFormed t) (room : length list ≡ 127)
    (ed : decision ≡ (meaning a t).decision) (ec : count ≡ length (meaning a t).cards) (es : stored ≡ sets list 0 (meaning a t).cards) where
  pub few_counted : count ≤ 127
  few_counted = omega (arith, few_cards a t w)

  -- the stored list has them all
  pub stored_long : count ≤ length stored
  stored_long = omega (arith, few_counted, ap length es, length-sets list 0 (meaning a t).cards)

  ruling_stored : record { decision = decision; cards = take count stored } ≡ meaning a t
  ruling_stored =
      let cs : take count stored ≡ (meaning a t).cards = start_is list (meaning a t).cards stored count es ec (omega (arith, few_cards a t w)) in
      ap (λ n. record { decision = n; cards = take count stored }) ed ∙ ap (λ ns. record { decision = (meaning a t).decision; cards = ns }) cs

  -- what was entered for the one ruling was entered for the other, which is the same
  pub ruling_entered : (d index d' index' : List ℕ) (start end : ℕ) (place : Option ℕ) →
      ((es : Entries) → Laid es d index start →
      Standing (enter (diagram.header fields) es (terminal (record { decision = decision; cards = take count stored }))) (length d) d' index' end place) →
      (es : Entries) → Laid es d index start →
      Standing (enter (diagram.header fields) es (terminal (meaning a t))) (length d) d' index' end place
  ruling_entered d index d' index' start end place stands es l =
      subst (λ r. Standing (enter (diagram.header fields) es (terminal r)) (length d) d' index' end place) ruling_stored (stands es l)

-- the numbers of the header: the places used, the place of the root and the maxima
abbrev pub head_of : ℕ → ℕ → List ℕ → List ℕ
head_of used root t = used ∷ root ∷ maxima t

-- numbers written over as many zeros, with others and zeros after them
pub over_zeros : (vs ns : List ℕ) (n : ℕ) → sets (padded (zeros (length vs) ++ ns) n) 0 vs ≡ padded (vs ++ ns) n
over_zeros vs ns n =
    let front = zeros (length vs) in
    let tail = zeros (n - length (front ++ ns)) in
    let lf : length front ≡ length vs = length-replicate {A = ℕ} (length vs) 0 in
    let k : 0 + length vs ≡ length vs = omega arith in
    let same : n - length (front ++ ns) ≡ n - length (vs ++ ns) = omega (arith, length-append front ns, length-append vs ns) in
    sets-eq vs ((front ++ ns) ++ tail) 0 (omega (arith, length-append (front ++ ns) tail, length-append front ns))
    ∙ ap (λ i. vs ++ drop i ((front ++ ns) ++ tail)) k
    ∙ ap (λ l. vs ++ drop (length vs) l) (append_assoc front ns tail)
    ∙ ap (λ l. vs ++ l) (drop_at front (ns ++ tail) (length vs) lf)
    ∙ sym (append_assoc vs ns tail)
    ∙ ap (λ i. (vs ++ ns) ++ zeros i) same
