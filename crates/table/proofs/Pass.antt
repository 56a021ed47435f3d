-- The pass over the nodes: what it holds before each node, what that says of the node, and how it goes on.
use mathlib.Core.Path.{◌≡◌, refl, sym, ap, ap₂, ◌∙◌}
use mathlib.Core.Bool.{Bool, true, false, beq, cond, ◌&&◌}
use mathlib.Core.Logic.{⊎_elim}
use mathlib.Core.List.{List}
use Prim.Native.Nat.{ℕ, zero, suc, ◌+◌, ◌≤◌, ◌<◌}
use native.Mathlib.Nat.{eq-zero-or-pos}
use native.Mathlib.Omega.{arith}
use borrow.Author.Count.{below_more}
use borrow.Author.Tests.{ne_eqb}
use lib.ListN.{length, get_or, set, length-set}
use lib.Seq.{get_or-set_other}
use Rattle.answer.specs.Answers.{refused, counted}
use Rattle.answer.specs.Numbers.{number_of}
use Rattle.answer.specs.declared.refusal.Refusal.{Refusal}
use Rattle.answer.specs.Below.{every_below}
use Rattle.answer.specs.Refusals.{first_number, None}
use Rattle.answer.proofs.Below.{every_next}
use Rattle.encoding.specs.Layout.{count, span}
use Rattle.table.specs.Tree.{is_rule, end_of, parent, level, itself}
use Rattle.table.specs.Open.{deepest, EndAbove}
use Rattle.table.specs.Conformance.{asks_for_rules, rule_asked, node_conforms, conforms}
use Rattle.table.specs.Reading.{header_refusals, node_refusals, reading}
use Rattle.table.proofs.Climb.{Open, open_above, After, ParentOpen, climbed, opened, after_opened, after_leaf, level_below}
use Rattle.table.proofs.Good.{good, ends_inside}
use Rattle.table.proofs.Accepting.{passed_accepted, node_refused, accepted_reading}

module _ (t : List ℕ) where
  -- Before node i: all nodes before it pass, and the lists are of the nodes that are open.
  pub record Passed (ends : List ℕ) (rules : List Bool) (conforming : Bool) (depth i : ℕ) : Type 0 where
    pub few : depth ≤ 8
    pub size : length ends ≡ 9
    pub rules_size : length rules ≡ 9
    pub table : get_or ends 0 0 ≡ count t
    pub group : get_or rules 0 false ≡ false
    pub first : i ≡ 0 → depth ≡ 0
    pub root : 0 < i → span t 0 ≡ count t
    pub last : 0 < i → i < count t → After t ends (Open t (asks_for_rules t) false rules) depth i
    pub before : (j : ℕ) → j < i → None (node_refusals t j)
    pub seen : conforming ≡ every_below i (node_conforms t)

  pub start : (ends : List ℕ) (rules : List Bool) → length ends ≡ 9 → length rules ≡ 9 → get_or ends 0 0 ≡ count t → get_or rules 0 false ≡ false →
      Passed ends rules true 0 0
  start ends rules s z e g = record {
    few = omega arith;
    size = s;
    rules_size = z;
    table = e;
    group = g;
    first = λ _. refl;
    root = λ l. absurd (omega arith);
    last = λ l. absurd (omega arith);
    before = λ j l. absurd (omega arith);
    seen = refl;
  }

module _ {t : List ℕ} {ends : List ℕ} {rules : List Bool} {conforming : Bool} {depth : ℕ} where
  -- a node that is refused ends the reading
  pub stopped : (i : ℕ) (refusal : Refusal) → None (header_refusals t) → Passed t ends rules conforming depth i → i < count t →
      number_of refusal ≡ first_number (node_refusals t i) → refused (number_of refusal) i ≡ reading t
  stopped i refusal h s l e = node_refused t refusal h i l s.before e

  -- after the last node the reading ends with the count, and all nodes were seen
  pub finished : {i : ℕ} → None (header_refusals t) → Passed t ends rules conforming depth i → i ≡ count t →
      (counted (count t) ≡ reading t) × (conforming ≡ conforms t)
  unfolding conforms
  finished {i} h s e = (
    sym (accepted_reading t (passed_accepted t h (λ j m. s.before j (omega arith)))),
    s.seen ∙ ap (λ k. every_below k (node_conforms t)) e,
  )

module _ {t : List ℕ} {ends : List ℕ} {rules : List Bool} {conforming : Bool} {depth r : ℕ} where
  -- the parent of node i is open, on the level that the climb finds
  up : (i : ℕ) → Passed t ends rules conforming depth i → i < count t → r ≡ deepest ends i depth → 0 < i →
      ParentOpen t ends (Open t (asks_for_rules t) false rules) r i
  up i s l e h =
      climbed t ends (Open t (asks_for_rules t) false rules) (λ q a u o. open_above t (asks_for_rules t) false rules o u) depth r i (s.last h l)
      (omega (arith, s.root h)) e

  on_level : (i : ℕ) → Passed t ends rules conforming depth i → i < count t → r ≡ deepest ends i depth → level t i ≡ r + 1
  on_level i s l e = level_below t r i (λ z. e ∙ ap (deepest ends i) (s.first z)) (λ h. (up i s l e h).0)

  -- the open nodes tell where the nodes that node i stands among end, its level, and what is asked for there
  pub found : (i : ℕ) → Passed t ends rules conforming depth i → i < count t → r ≡ deepest ends i depth →
      EndAbove t i (get_or ends r 0) × (level t i ≡ r + 1) × (get_or rules r false ≡ rule_asked t i)
  unfolding rule_asked
  found zero s l e =
      let z : r ≡ 0 = e ∙ ap (deepest ends 0) (s.first refl) in (
        record { root = λ _. ap (λ k. get_or ends k 0) z ∙ s.table; child = λ h. absurd (omega arith) },
        on_level 0 s l e,
        ap (λ k. get_or rules k false) z ∙ s.group,
      )
  found (suc p) s l e =
      let h : 0 < suc p = omega arith in
      let u = up (suc p) s l e h in (
        record {
          root = λ h. absurd (omega arith);
          child = λ _. ap (λ k. get_or ends k 0) u.0 ∙ u.1.0.held (parent t (suc p)) itself;
        },
        on_level (suc p) s l e,
        ap (λ k. get_or rules k false) u.0
            ∙ u.1.1.held (parent t (suc p)) itself
            ∙ sym (ap (λ b. cond b false (asks_for_rules t (parent t (suc p)))) (ne_eqb (suc p) 0 (λ q. omega arith))),
      )

  -- node i passes too
  module _ {i : ℕ} (s : Passed t ends rules conforming depth i) (l : i < count t) (er : r ≡ deepest ends i depth) (ef : None (node_refusals t i)) where
    here : level t i ≡ r + 1
    here = on_level i s l er

    pub shallow : r + 1 ≤ 8
    shallow = omega (arith, here, (good t i ef).levels)

    root_whole : span t 0 ≡ count t
    root_whole = ⊎_elim (λ (z : i ≡ 0). ap (span t) (sym z) ∙ (good t i ef).root z) (λ (z : 0 < i). s.root z) (eq-zero-or-pos i)

    all_passed : (j : ℕ) → j < i + 1 → None (node_refusals t j)
    all_passed = below_more (λ j. None (node_refusals t j)) i s.before ef

    -- where it holds something, the next node is one of the table
    pub next_held : 1 < span t i → i + 1 < count t
    next_held h = omega (arith, ends_inside t (i + 1) (λ j m. good t j (all_passed j m)) i (omega arith))

    -- where what is kept of the open nodes is so after it, the pass goes on
    module _ {rule : Bool} (e : rule ≡ is_rule t i) where
      went_on : {ends' : List ℕ} {rules' : List Bool} {depth' : ℕ} → depth' ≤ 8 → (length ends' ≡ 9) × (length rules' ≡ 9) →
          (get_or ends' 0 0 ≡ get_or ends 0 0) × (get_or rules' 0 false ≡ get_or rules 0 false) → (i + 1 < count t → After t ends' (Open t (asks_for_rules t) false rules') depth' (i + 1)) →
          Passed t ends' rules' (conforming && beq rule (get_or rules r false)) depth' (i + 1)
      unfolding node_conforms
      went_on {ends'} {rules'} {depth'} few sizes kept after = record {
        few = few;
        size = sizes.0;
        rules_size = sizes.1;
        table = kept.0 ∙ s.table;
        group = kept.1 ∙ s.group;
        first = λ q. absurd (omega arith);
        root = λ _. root_whole;
        last = λ _. after;
        before = all_passed;
        seen = ap₂ (λ b c. b && c) s.seen (ap₂ beq e (found i s l er).2) ∙ sym (every_next (node_conforms t) i);
      }

      -- node i holds something, and is opened
      pub next_opened : (end : ℕ) → end ≡ end_of t i → (asks : Bool) → asks ≡ asks_for_rules t i →
          Passed t (set ends (r + 1) end) (set rules (r + 1) asks) (conforming && beq rule (get_or rules r false)) (r + 1) (i + 1)
      next_opened end ee asks ea =
          went_on shallow (length-set ends (r + 1) end ∙ s.size, length-set rules (r + 1) asks ∙ s.rules_size)
          (get_or-set_other ends (r + 1) 0 end 0 (λ q. omega arith), get_or-set_other rules (r + 1) 0 asks false (λ q. omega arith))
          (λ m.
          after_opened t (set ends (r + 1) end) (Open t (asks_for_rules t) false (set rules (r + 1) asks)) r i here
          (opened t (end_of t) 0 ends i r end s.size here (omega (arith, shallow)) ee (λ h. (up i s l er h).1.0))
          (opened t (asks_for_rules t) false rules i r asks s.rules_size here (omega (arith, shallow)) ea (λ h. (up i s l er h).1.1)))

      -- node i holds nothing: its parent stays the deepest that is open
      pub next : span t i ≤ 1 → Passed t ends rules (conforming && beq rule (get_or rules r false)) r (i + 1)
      next h = went_on (omega (arith, shallow)) (s.size, s.rules_size) (refl, refl) after
        where
          -- the root holds all others
          positive : i + 1 < count t → 0 < i
          positive m =
              ⊎_elim (λ (z : i ≡ 0). absurd (omega (arith, root_whole, ap (span t) z))) (λ (z : 0 < i). z) (eq-zero-or-pos i)

          after : i + 1 < count t → After t ends (Open t (asks_for_rules t) false rules) r (i + 1)
          after m = let k = positive m in after_leaf t ends (Open t (asks_for_rules t) false rules) r i k h (up i s l er k)
