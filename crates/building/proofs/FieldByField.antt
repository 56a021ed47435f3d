-- The walk of the fields from one on, where some nodes are still possible, as a level of a walk.
use mathlib.Core.Path.{◌≡◌, sym, ap, ◌∙◌, subst}
use mathlib.Core.Bool.{Bool, ◌&&◌}
use mathlib.Core.List.{List, [], ◌∷◌}
use Prim.Native.Nat.{ℕ, suc, ◌+◌, ◌≤◌, ◌<◌}
use native.Mathlib.Omega.{arith}
use native.Mathlib.Numerals.{add-one}
use lib.ListN.{length, get_or, drop, length-drop, drop_of_length-le}
use lib.Seq.{drop-cons}
use Rattle.answer.specs.Fields.{fields}
use Rattle.sets.specs.Sets.{has, Has}
use Rattle.sets.specs.declared.Set.{Set}
use Rattle.encoding.specs.Layout.{maximum, maxima, HeaderHeld}
use Rattle.table.specs.WellFormed.{WellFormed}
use Rattle.encoding.proofs.Places.{header_held}
use Rattle.encoding.proofs.Maxima.{maxima_length, maxima_each}
use Rattle.targets.specs.Closed.{Closed}
use Rattle.applying.specs.Members.{member, ruling_from}
use Rattle.applying.specs.declared.Run.{Run}
use Rattle.applying.specs.Filled.{set_at, run_end, Filled}
use Rattle.applying.proofs.MembersAreClosed.{member_closed, meet_closed, has_closed}
use Rattle.diagram.specs.Walk.{Entries, Entered, given, walk}
use Rattle.diagram.proofs.DiagramGoesByRulingsWithin.{Alike}
use Rattle.entering.specs.Walking.{Walks}
use Rattle.entering.proofs.WalkedBefore.{walks_as}
use Rattle.entering.proofs.Levels.{Level, walk_level, under_value}
use Rattle.std.specs.Prelude.{Option, Some}
use Rattle.building.specs.Walked.{walk_by, Near}
use Rattle.building.proofs.Remembered.{walked_near}

-- a table that is accepted has its whole header
pub header_there : (t : List ℕ) → WellFormed t → HeaderHeld t
header_there t w = header_held t w.records

-- the maxima from a field on: its own, and those of the later fields
maxima_from : (t : List ℕ) (field : ℕ) → field < fields → drop field (maxima t) ≡ maximum t field ∷ drop (suc field) (maxima t)
maxima_from t field l =
    drop-cons (maxima t) field 0 (omega (arith, maxima_length t)) ∙ ap (λ m. m ∷ drop (suc field) (maxima t)) (maxima_each t field l)

-- after the last field there is none
no_maximum : (t : List ℕ) (field : ℕ) → fields ≤ field → drop field (maxima t) ≡ []
no_maximum t field h = drop_of_length-le (maxima t) {i = field} (omega (arith, maxima_length t))

-- after the last field
pub walk_last : (t : List ℕ) (a : ℕ → Bool) (field : ℕ) (es : Entries) → field ≡ fields → walk fields [] (ruling_from t field a) es ≡ walk_by t field a es
walk_last t a field es e = sym (ap (λ ms. walk fields ms (ruling_from t field a) es) (no_maximum t field (omega arith)))

-- the level of a field, where the fields before it leave the nodes a
abbrev pub level_by : List ℕ → ℕ → (ℕ → Bool) → Level
level_by t field a = record { field = field; most = maximum t field; later = drop (suc field) (maxima t); rulings = ruling_from t field a }

pub level_deep : (t : List ℕ) (field : ℕ) → field < fields → field + 1 + length (drop (suc field) (maxima t)) ≡ fields
level_deep t field l = omega (arith, length-drop (suc field) (maxima t), maxima_length t)

-- its walk is that of the fields from it on
pub walk_field : (t : List ℕ) (a : ℕ → Bool) (field : ℕ) (es : Entries) → field < fields → walk_level (level_by t field a) es ≡ walk_by t field a es
walk_field t a field es l = sym (ap (λ ms. walk fields ms (ruling_from t field a) es) (maxima_from t field l))

-- A value of a field that is to be walked, with the run that it starts and the nodes of a set that are left there.
pub record ValueRun (t : List ℕ) (nodes : Set) (field v until : ℕ) (here : Set) : Type 0 where
  pub more : v ≤ maximum t field
  pub far : v ≤ until
  pub left : (i : ℕ) → has here i ≡ has nodes i && member t field v i
  pub alike : (u : ℕ) → v ≤ u → u ≤ until → (u ≤ maximum t field) × ((i : ℕ) → member t field u i ≡ member t field v i)

-- by what is filled in for the field
pub value_run : {t : List ℕ} (sets : List (List Run)) (field : ℕ) {v until : ℕ} {nodes : Set} (own : Set) {here : Set} → Filled t sets → field < fields →
    v ≤ maximum t field → own ≡ set_at (get_or sets field []) v → Has here (λ i. has nodes i && has own i) → until ≡ run_end (get_or sets field []) v → v ≤ until →
    ValueRun t nodes field v until here
value_run sets field {v} {nodes} own full l more is meets ends far =
    record {
      more = more;
      far = far;
      left = λ i. meets i ∙ ap (λ b. has nodes i && b) (ap (λ s. has s i) is ∙ (full field l).sets v more i);
      alike = λ u a b.
          let r = (full field l).runs v u more a (omega arith) in
          (r.0, λ i. sym ((full field l).sets u r.0 i) ∙ ap (λ s. has s i) r.1 ∙ (full field l).sets v more i);
    }

module _ {t : List ℕ} {nodes : Set} {field v until : ℕ} {here : Set} (r : ValueRun t nodes field v until here) where
  -- a run lies within the field's maximum
  pub run_within : until ≤ maximum t field
  run_within = (r.alike until r.far (omega arith)).0

  pub left_closed : WellFormed t → Closed t (has nodes) → Closed t (has here)
  left_closed w c =
      has_closed t here (λ i. has nodes i && member t field v i) r.left (meet_closed t (has nodes) (member t field v) c (member_closed t w field v))

  -- what is given at each of its values is alike
  pub run_alike : (u : ℕ) → v ≤ u → u ≤ until →
      (u ≤ maximum t field) × Alike (drop (suc field) (maxima t)) (given (ruling_from t field (has nodes)) u) (given (ruling_from t field (has nodes)) v)
  run_alike u a b =
      ((r.alike u a b).0, λ q w. ap (λ (m : ℕ → Bool). ruling_from t (suc field) (λ n. has nodes n && m n) q) (λ k n. (r.alike u a b).1 n k))

  -- the walk of the later fields, with the nodes that are left, is all under the value
  walk_value : (xs : Entries) → walk_by t (field + 1) (has here) xs ≡ under_value (level_by t field (has nodes)) v xs
  walk_value xs = ap (λ f. walk_by t f (has here) xs) (add-one field) ∙ ap (λ c. walk_by t (suc field) c xs) (λ k i. r.left i k)

  pub walks_value : {Given Right : Entries → Type 0} {n : ℕ} {d index : List ℕ} {end : ℕ} {place : Option ℕ} →
      Walks (walk_by t (field + 1) (has here)) Given Right n d index end place →
      Walks (under_value (level_by t field (has nodes)) v) Given Right n d index end place
  walks_value w = walks_as w walk_value

  -- the child of a run is the neighbour of the next value
  pub value_near : (place : ℕ) (xs : Entries) → place ≡ (under_value (level_by t field (has nodes)) v xs).place →
      Near t (field + 1) (Some (record { nodes = here; place = place })) (under_value (level_by t field (has nodes)) v xs).entries
  value_near place xs =
      subst (λ (x : Entered). place ≡ x.place → Near t (field + 1) (Some (record { nodes = here; place = place })) x.entries) (walk_value xs)
      (walked_near t (field + 1) here place xs)
