-- What is remembered of earlier walks stays right as entries are added, and what more is known of a walk.
use mathlib.Core.Path.{◌≡◌, refl, sym, ap, ◌∙◌, subst}
use mathlib.Core.Logic.{⊎_elim}
use mathlib.Core.List.{List}
use Prim.Native.Nat.{ℕ, ◌≤◌, ◌<◌}
use native.Mathlib.Omega.{arith}
use borrow.Author.Tests.{eqb-true, eqb-false}
use lib.Dec.{eqb}
use lib.ListN.{length, get_or, set, replicate, length-replicate, get_or-replicate, get_or-eq_default}
use lib.Seq.{set_out, get_or-set_same, get_or-set_other}
use Rattle.answer.specs.Fields.{fields}
use Rattle.answer.specs.Rulings.{Ruling}
use Rattle.answer.proofs.Tests.{lt_or_ge}
use Rattle.diagram.specs.Walk.{Entries, Entered, walk}
use Rattle.diagram.specs.Decided.{either}
use Rattle.diagram.proofs.EntryPlaces.{Begins, begins_itself}
use Rattle.diagram.proofs.WalkingAgainAddsNothing.{walking_again_adds_nothing}
use Rattle.std.specs.Prelude.{Option, Some, None}
use Rattle.entering.specs.Walking.{Stays, Remembered, Leaving, Walks}

-- what is right of some entries stays so as more follow
abbrev pub Grows : (Entries → Type 0) → Type 0
Grows Right = (es ys : Entries) → Begins es ys → Right es → Right ys

module _ (ms : List ℕ) (f : List ℕ → Ruling) where
  -- a walk stays where it ended, once it is done
  pub walked_stays : (es : Entries) → Stays ms f (walk fields ms f es).entries (walk fields ms f es).place
  walked_stays es = let xs = (walk fields ms f es).entries in walking_again_adds_nothing fields ms f es xs (begins_itself xs)

  -- a walk that adds nothing adds nothing as more entries follow
  pub stays_on : (p : ℕ) → Grows (λ es. Stays ms f es p)
  stays_on p es ys b s =
      walking_again_adds_nothing fields ms f es ys (subst (λ xs. Begins xs ys) (sym (ap (λ x. x.entries) s)) b)
      ∙ ap (λ k. record { entries = ys; place = k }) (ap (λ x. x.place) s)

-- What slots hold.
module _ {A : Type 0} (none : A) (Right : ℕ → A → Entries → Type 0) where
  -- at first all hold the same
  pub remembered_first : (es : Entries) (x : A) (n : ℕ) → ((s : ℕ) → Right s x es) → ((s : ℕ) → Right s none es) → Remembered none Right (replicate n x) es
  remembered_first es x n first past s =
      ⊎_elim
      (λ (l : s < n). subst (λ y. Right s y es) (sym (get_or-replicate {A = A} n s x none l)) (first s))
      (λ (l : n ≤ s).
      subst (λ y. Right s y es) (sym (get_or-eq_default (replicate n x) none {n = s} (omega (arith, length-replicate {A = A} n x)))) (past s))
      (lt_or_ge s n)

  -- what is remembered stays right as more entries follow
  pub remembered_on : ((s : ℕ) (x : A) → Grows (Right s x)) → (slots : List A) → Grows (Remembered none Right slots)
  remembered_on on slots es ys b r s = on s (get_or slots s none) es ys b (r s)

  -- one walk more is remembered, in any slot
  pub remembered_more : (slots : List A) (es : Entries) (slot : ℕ) (x : A) → Remembered none Right slots es → Right slot x es →
      Remembered none Right (set slots slot x) es
  remembered_more slots es slot x r more s =
      ⊎_elim
      (λ e.
      let z : s ≡ slot = eqb-true s slot e in
      ⊎_elim
      (λ (l : slot < length slots).
      subst (λ k. Right k (get_or (set slots slot x) k none) es) (sym z)
      (subst (λ y. Right slot y es) (sym (get_or-set_same slots slot x none l)) more))
      (λ (l : length slots ≤ slot). subst (λ ys. Right s (get_or ys s none) es) (sym (set_out slots slot x l)) (r s))
      (lt_or_ge slot (length slots)))
      (λ e. subst (λ y. Right s y es) (sym (get_or-set_other slots slot s x none (eqb-false s slot e))) (r s))
      (either (eqb s slot))

-- What more is known of a walk.
module _ {n : ℕ} {d index : List ℕ} {end : ℕ} {walked : Entries → Entered} {Given Right : Entries → Type 0} {place : Option ℕ}
    (w : Walks walked Given Right n d index end place) where
  -- a walk from entries of which more was given
  pub walks_from : {Given' : Entries → Type 0} → ((es : Entries) → Given' es → Given es) → Walks walked Given' Right n d index end place
  walks_from given = record { within = w.within; outcome = λ es g. w.outcome es (given es g) }

  -- a walk that gives the same from every list of entries
  pub walks_as : {walked' : Entries → Entered} → ((es : Entries) → walked es ≡ walked' es) → Walks walked' Given Right n d index end place
  walks_as same =
      record {
        within = w.within;
        outcome = λ es g. subst (λ x. Leaving Right x n d index end place) (same es) (w.outcome es g);
      }

  -- a walk of which more is remembered once it is done
  pub walks_new : {Right' : Entries → Type 0} →
      ((es : Entries) (p : ℕ) → place ≡ Some p → p ≡ (walked es).place → Right (walked es).entries → Right' (walked es).entries) →
      Walks walked Given Right' n d index end place
  walks_new {Right'} more =
      record { within = w.within; outcome = λ es g. by (walked es) place (more es) (w.outcome es g) }
    where
      by : (x : Entered) (r : Option ℕ) → ((p : ℕ) → r ≡ Some p → p ≡ x.place → Right x.entries → Right' x.entries) →
          Leaving Right x n d index end r → Leaving Right' x n d index end r
      by x None m l = l
      by x (Some p) m l = (l.0, m p refl l.0.at l.1)
