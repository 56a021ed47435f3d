-- What ruling a node or a run of nodes starts from and leaves, one law for each way through the code, for any test of which nodes apply.
use mathlib.Core.Path.{◌≡◌, sym, ap, ◌∙◌}
use mathlib.Core.Bool.{Bool, true, false}
use mathlib.Core.List.{List, [], ◌∷◌, ◌++◌}
use Prim.Native.Nat.{ℕ, suc, ◌+◌, ◌-◌, ◌≤◌, ◌<◌}
use native.Mathlib.Omega.{arith}
use lib.ListN.{length, set, length-append}
use lib.Seq.{sets, length-sets}
use Rattle.encoding.specs.Layout.{count, kind, card, NodeHeld}
use Rattle.table.specs.Tree.{end_of}
use Rattle.table.specs.WellFormed.{WellFormed}
use Rattle.encoding.proofs.Places.{node_held}
use Rattle.ruling.specs.Meaning.{cards_from, cards}
use Rattle.ruling.specs.Walk.{Node, ChildRun, cards_between, Gathered}
use Rattle.ruling.proofs.Forest.{whole_under, whole_after}
use Rattle.ruling.proofs.Cards.{matches_rule, matches_group, cards_none, cards_more, cards_skip, cards_join, cards_few}
use Rattle.answer.proofs.Stored.{stored_join}

-- a list stays as long as it was
pub gathered_length : {a : ℕ → Bool} {t before after : List ℕ} {i end k n : ℕ} → Gathered a t i end k n before after → length after ≡ length before
gathered_length {a} {t} {before} {after} {i} {end} {k} g = ap length g.list ∙ length-sets before k (cards_between a t i end)

-- the table holds the record of each of its nodes
pub held : (t : List ℕ) → WellFormed t → (i : ℕ) → i < count t → NodeHeld t i
held t w = node_held t w.records

module _ (a : ℕ → Bool) (t : List ℕ) (w : WellFormed t) where
  -- the root, the nodes under a node, the first of a run of nodes, and those after it

  pub root : (n : ℕ) → n ≡ count t → a 0 ≡ true → Node a t 0 n 0
  root n e h = record { some = w.some; ends = omega (arith, w.root); applies = h; few = omega arith }

  pub children : (i end k : ℕ) → Node a t i end k → ChildRun t (i + 1) end k
  children i end k n = record {
    order = omega (arith, n.ends, w.spans i n.some);
    whole = rw n.ends (whole_under t w i n.some);
    few = omega (arith, n.few);
  }

  pub first : (i end next k : ℕ) → i < end → next ≡ end_of t i → a i ≡ true → ChildRun t i end k → Node a t i next k
  first i end next k l e h r = record { some = omega (arith, r.whole.inside); ends = e; applies = h; few = r.few }

  pub rest : (i end next k n : ℕ) (before after : List ℕ) → i < end → next ≡ end_of t i → ChildRun t i end k →
      Gathered a t i next k n before after → ChildRun t next end n
  rest i end next k n before after l e r g =
      let c : i < count t = omega (arith, r.whole.inside) in
      record {
        order = omega (arith, r.whole.each i (omega arith) l);
        whole = rw e (whole_after t w i end r.whole);
        few = omega (arith, g.number, cards_few a t (next - i) i, r.few, w.spans i c);
      }

  -- no card where no node applies, or of no nodes
  none_gathered : (i end k : ℕ) (list : List ℕ) → cards_between a t i end ≡ [] → Gathered a t i end k k list list
  none_gathered i end k list e = record {
    number = omega (arith, ap length e);
    list = sym (ap (sets list k) e);
  }

  pub gathered_not : (i end k : ℕ) (list : List ℕ) → ((m : ℕ) → i ≤ m → m < end → a m ≡ false) → Gathered a t i end k k list list
  gathered_not i end k list h =
      none_gathered i end k list (cards_skip a t (end - i) i (λ m l r. h m l (omega arith)))

  pub gathered_none : (i end k : ℕ) (list : List ℕ) → end ≤ i → Gathered a t i end k k list list
  gathered_none i end k list l = gathered_not i end k list (λ m x y. absurd (omega arith))

  -- the card of a rule that matches
  pub gathered_rule : (i end k m : ℕ) (before after : List ℕ) → Node a t i end k → 4 ≤ kind t i → m ≡ k + 1 → after ≡ set before k (card t i) →
      Gathered a t i end k m before after
  gathered_rule i end k m before after n l em e =
      let z : end - i ≡ 1 = omega (arith, n.ends, w.rules i n.some l) in
      let m = matches_rule a t i n.applies l in
      let cs : cards_between a t i end ≡ card t i ∷ [] =
      ap (cards_from a t i) z ∙ cards_more a t i 0 true m
      ∙ ap (λ ds. card t i ∷ ds) (cards_none a t (i + 1)) in
      record {
        number = omega (arith, ap length cs);
        list = e ∙ sym (ap (sets before k) cs);
      }

  -- the cards of a group are those of the nodes under it
  pub gathered_group : (i end k n : ℕ) (before after : List ℕ) → Node a t i end k → kind t i < 4 →
      Gathered a t (i + 1) end k n before after → Gathered a t i end k n before after
  gathered_group i end k n before after h l g =
      let z : end - i ≡ suc (end - (i + 1)) = omega (arith, h.ends, w.spans i h.some) in
      let cs : cards_between a t i end ≡ cards_between a t (i + 1) end =
      ap (cards_from a t i) z
      ∙ cards_more a t i (end - (i + 1)) false (matches_group a t i l) in
      record {
        number = g.number ∙ ap (λ ds. k + length ds) (sym cs);
        list = g.list ∙ ap (sets before k) (sym cs);
      }

  -- the cards of nodes, and then of those after them
  pub gathered_more : (i next end k m n : ℕ) (before between after : List ℕ) → i ≤ next → next ≤ end →
      Gathered a t i next k m before between → Gathered a t next end m n between after → Gathered a t i end k n before after
  gathered_more i next end k m n before between after l r g h =
      let z : end - i ≡ (next - i) + (end - next) = omega arith in
      let y : i + (next - i) ≡ next = omega arith in
      let cs : cards_between a t i end ≡ cards_between a t i next ++ cards_between a t next end =
      ap (cards_from a t i) z ∙ cards_join a t (next - i) (end - next) i
      ∙ ap (λ j. cards_between a t i next ++ cards_from a t j (end - next)) y in
      record {
        number = omega (arith, g.number, h.number, ap length cs, length-append (cards_between a t i next) (cards_between a t next end));
        list =
            h.list ∙ ap (λ u. sets u m (cards_between a t next end)) g.list
            ∙ ap (λ j. sets (sets before k (cards_between a t i next)) j (cards_between a t next end)) g.number
            ∙ sym (stored_join (cards_between a t i next) (cards_between a t next end) before k)
            ∙ ap (sets before k) (sym cs);
      }

-- once all nodes were ruled
pub all_gathered : (a : ℕ → Bool) (t : List ℕ) (end k : ℕ) (before after : List ℕ) → end ≡ count t → Gathered a t 0 end 0 k before after →
    (k ≡ length (cards a t)) × (after ≡ sets before 0 (cards a t))
all_gathered a t end k before after e g =
    let z : end - 0 ≡ count t = omega arith in
    let all : cards_between a t 0 end ≡ cards a t = ap (cards_from a t 0) z in
    (omega (arith, g.number, ap length all), g.list ∙ ap (sets before 0) all)
