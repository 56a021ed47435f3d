-- The sets of nodes of every field value, as the build keeps them (for the contracts inside).
-- Assumes nothing: these are definitions.
use Rattle.std.specs.Prelude.{List, [], ◌≡◌, ℕ, ◌+◌, ◌≤◌, ◌<◌, max, length, get_or, drop}
use Rattle.answer.specs.Fields.{fields}
use Rattle.sets.specs.Sets.{Has}
use Rattle.sets.specs.declared.Set.{Set}
use Rattle.applying.specs.declared.Run.{Run}
use Rattle.encoding.specs.Layout.{maximum}
use Rattle.applying.specs.Members.{member}

-- what a field's row has of a value past its end
abbrev pub no_run : Run
no_run = record { set = record { low = 0; high = 0 }; last = 0 }

-- the set of a value, in a field's row
abbrev pub set_at : List Run → ℕ → Set
set_at row v = (get_or row v no_run).set

-- the last value that a field's row has with a value
abbrev pub last_at : List Run → ℕ → ℕ
last_at row v = (get_or row v no_run).last

-- the last value of a run of values that starts with v: the one that the row has, where it is not below v
abbrev pub run_end : List Run → ℕ → ℕ
run_end row v = max (last_at row v) v

-- the values of a run have one set, and lie within the maximum m; how many of the next values with that set a run takes in is free
abbrev pub Runs : ℕ → List Run → Type 0
Runs m row = (v u : ℕ) → v ≤ m → v ≤ u → u ≤ run_end row v → (u ≤ m) × (set_at row u ≡ set_at row v)

-- what stands past the maximum m is as it was
abbrev pub KeptPastMaximum : ℕ → List Run → List Run → Type 0
KeptPastMaximum m before row = drop (m + 1) row ≡ drop (m + 1) before

-- a row has the set of each value of field f, and runs of values that have the same
pub record FieldFilled (t : List ℕ) (f : ℕ) (row : List Run) : Type 0 where
  pub long : length row ≡ 256
  pub sets : (v : ℕ) → v ≤ maximum t f → Has (set_at row v) (member t f v)
  pub runs : Runs (maximum t f) row

-- a row has the set of each value of field f, and each value is a run of its own
pub record ValuesFilled (t : List ℕ) (f : ℕ) (row : List Run) : Type 0 where
  pub long : length row ≡ 256
  pub sets : (v : ℕ) → v ≤ maximum t f → Has (set_at row v) (member t f v)
  pub alone : (v : ℕ) → v ≤ maximum t f → last_at row v ≡ v

-- there is a row for each field, with a set for each of 256 values
pub record SetRows (rows : List (List Run)) : Type 0 where
  pub number : length rows ≡ fields
  pub long : (f : ℕ) → f < fields → length (get_or rows f []) ≡ 256

-- the rows before field n have the sets of their fields
abbrev pub FilledBelow : List ℕ → ℕ → List (List Run) → Type 0
FilledBelow t n rows = (f : ℕ) → f < n → FieldFilled t f (get_or rows f [])

-- every row has
abbrev pub Filled : List ℕ → List (List Run) → Type 0
Filled t rows = FilledBelow t fields rows

-- what stands past the maximum of each field is as it was
abbrev pub KeptPastMaxima : List ℕ → List (List Run) → List (List Run) → Type 0
KeptPastMaxima t before rows = (f : ℕ) → f < fields → KeptPastMaximum (maximum t f) (get_or before f []) (get_or rows f [])
