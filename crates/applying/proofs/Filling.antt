-- The sets of each value and of each field, as the walks over the values and over the fields fill them in.
use mathlib.Core.Path.{◌≡◌, refl, sym, ap, ◌∙◌, subst}
use mathlib.Core.Bool.{Bool, true, false}
use mathlib.Core.Logic.{⊎_elim}
use mathlib.Core.List.{List, []}
use Prim.Native.Nat.{ℕ, ◌+◌, ◌≤◌, ◌<◌}
use native.Mathlib.Nat.{eq-or-lt_of_le}
use native.Mathlib.Omega.{arith}
use borrow.Author.Tests.{eqb-true, eqb-false}
use lib.Dec.{eqb}
use lib.ListN.{length, get_or, drop, set, length-set}
use lib.Seq.{get_or-set_same, get_or-set_other}
use Rattle.answer.specs.Fields.{fields}
use Rattle.encoding.specs.Layout.{maximum}
use Rattle.sets.specs.Sets.{Has}
use Rattle.applying.specs.Members.{member}
use Rattle.applying.specs.declared.Run.{Run}
use Rattle.applying.specs.Filled.{no_run, set_at, last_at, Runs, KeptPastMaximum, FieldFilled, ValuesFilled, SetRows, FilledBelow, Filled, KeptPastMaxima}

-- the sets of the values below v are in the row, each value as a run of its own
pub record ValuesBelow (t : List ℕ) (f : ℕ) (row : List Run) (v : ℕ) : Type 0 where
  pub long : length row ≡ 256
  pub sets : (u : ℕ) → u < v → Has (set_at row u) (member t f u)
  pub alone : (u : ℕ) → u < v → last_at row u ≡ u

module _ (t : List ℕ) (f : ℕ) (row : List Run) where
  pub no_value : length row ≡ 256 → ValuesBelow t f row 0
  no_value e = record { long = e; sets = λ u l. absurd (omega arith); alone = λ u l. absurd (omega arith) }

  pub one_value : (v : ℕ) (r : Run) → v < 256 → Has r.set (member t f v) → r.last ≡ v → ValuesBelow t f row v → ValuesBelow t f (set row v r) (v + 1)
  one_value v r l h e w =
      record {
        long = length-set row v r ∙ w.long;
        sets = λ u lu.
            ⊎_elim
            (λ (z : u ≡ v). subst (λ n. Has (set_at (set row v r) n) (member t f n)) (sym z) (subst (λ p. Has p.set (member t f v)) (sym here) h))
            (λ (z : u < v). subst (λ p. Has p.set (member t f u)) (sym (there u z)) (w.sets u z))
            (eq-or-lt_of_le (omega arith));
        alone = λ u lu.
            ⊎_elim
            (λ (z : u ≡ v). ap (last_at (set row v r)) z ∙ ap (λ p. p.last) here ∙ e ∙ sym z)
            (λ (z : u < v). ap (λ p. p.last) (there u z) ∙ w.alone u z)
            (eq-or-lt_of_le (omega arith));
      }
    where
      here : get_or (set row v r) v no_run ≡ r
      here = get_or-set_same row v r no_run (omega (arith, w.long))

      there : (u : ℕ) → u < v → get_or (set row v r) u no_run ≡ get_or row u no_run
      there u z = get_or-set_other row v u r no_run (λ q. omega arith)

  pub all_values : (v m : ℕ) → m ≡ maximum t f → m < v → ValuesBelow t f row v → ValuesFilled t f row
  all_values v m e l w = record { long = w.long; sets = λ u lu. w.sets u (omega arith); alone = λ u lu. w.alone u (omega arith) }

  -- the sets of a field's values, with their runs marked
  pub with_runs : (m : ℕ) (marked : List Run) → m ≡ maximum t f → length marked ≡ 256 → ((v : ℕ) → set_at marked v ≡ set_at row v) → Runs m marked → ValuesFilled t f row → FieldFilled t f marked
  with_runs m marked e l k r w =
      record {
        long = l;
        sets = λ v lv. subst (λ s. Has s (member t f v)) (sym (k v)) (w.sets v lv);
        runs = subst (λ n. Runs n marked) e r;
      }

-- the rows before field f have their sets, and there is a row for each field, as it was past the field's maximum
pub record FieldsBelow (t : List ℕ) (before rows : List (List Run)) (f : ℕ) : Type 0 where
  pub rowed : SetRows rows
  pub filled : FilledBelow t f rows
  pub past : KeptPastMaxima t before rows

module _ (t : List ℕ) (before rows : List (List Run)) where
  pub no_field : SetRows rows → FieldsBelow t rows rows 0
  no_field r = record { rowed = r; filled = λ g l. absurd (omega arith); past = λ g l. refl }

  pub one_field : (f g : ℕ) (row : List Run) → g ≡ f → f < fields → FieldFilled t g row → KeptPastMaximum (maximum t g) (get_or rows f []) row →
      FieldsBelow t before rows f → FieldsBelow t before (set rows f row) (f + 1)
  one_field f g row same l hg kg w =
      record {
        rowed = record {
          number = length-set rows f row ∙ w.rowed.number;
          long = λ g lg. long_at g lg (eqb g f) refl;
        };
        filled = λ g lg.
            ⊎_elim
            (λ (z : g ≡ f). subst (FieldFilled t g) (sym (at g z)) (subst (λ k. FieldFilled t k row) (sym z) h))
            (λ (z : g < f). subst (FieldFilled t g) (sym (get_or-set_other rows f g row [] (λ q. omega arith))) (w.filled g z))
            (eq-or-lt_of_le (omega arith));
        past = λ g lg. past_at g (eqb g f) refl ∙ w.past g lg;
      }
    where
      h : FieldFilled t f row
      h = subst (λ g. FieldFilled t g row) same hg

      k : KeptPastMaximum (maximum t f) (get_or rows f []) row
      k = subst (λ g. KeptPastMaximum (maximum t g) (get_or rows f []) row) same kg

      at : (g : ℕ) → g ≡ f → get_or (set rows f row) g [] ≡ row
      at g z = ap (λ k. get_or (set rows f row) k []) z ∙ get_or-set_same rows f row [] (omega (arith, w.rowed.number))

      long_at : (g : ℕ) → g < fields → (b : Bool) → eqb g f ≡ b → length (get_or (set rows f row) g []) ≡ 256
      long_at g lg true z = ap length (at g (eqb-true g f z)) ∙ h.long
      long_at g lg false z = ap length (get_or-set_other rows f g row [] (eqb-false g f z)) ∙ w.rowed.long g lg

      past_at : (g : ℕ) (b : Bool) → eqb g f ≡ b → KeptPastMaximum (maximum t g) (get_or rows g []) (get_or (set rows f row) g [])
      past_at g true z =
          let e = eqb-true g f z in
          ap (drop (maximum t g + 1)) (at g e) ∙ subst (λ i. KeptPastMaximum (maximum t i) (get_or rows i []) row) (sym e) k
      past_at g false z = ap (drop (maximum t g + 1)) (get_or-set_other rows f g row [] (eqb-false g f z))

  pub all_fields : (f : ℕ) → fields ≤ f → FieldsBelow t before rows f → Filled t rows × KeptPastMaxima t before rows
  all_fields f l w = (λ g lg. w.filled g (omega arith), w.past)
