-- The constant table of the ways: where a running decision and a child stand in it, and when it is right.
-- Assumes nothing: these are definitions.
use Rattle.std.specs.Prelude.{◌≡◌, Bool, cond, List, [], ℕ, ◌+◌, eqb, get_or}
use Rattle.combining.specs.Kinds.{first_applicable_kind, only_one_applicable_kind, permit_overrides_kind}
use Rattle.combining.specs.Ways.{Child, step}
use Rattle.combining.specs.Running.{so_far, Takes}
use Rattle.combining.specs.declared.Running.{Running}

-- paper 2, "the constant table's rows for 'only one' go by that, and by whether the child taken in counts, as well": the first of these rows where
-- a child has counted before or not, and the child taken in counts or not
abbrev pub only_one_row : Bool → Bool → ℕ
only_one_row counted counts = cond counted (cond counts 23 19) (cond counts 15 4)

-- paper 5, "whose rows from then on are listed one after another": the first of a kind's rows where a child has counted before or not, and the
-- child taken in counts or not
abbrev pub first_row : ℕ → Bool → Bool → ℕ
first_row k counted counts =
    cond (eqb k first_applicable_kind) 0
    (cond (eqb k only_one_applicable_kind) (only_one_row counted counts)
    (cond (eqb k permit_overrides_kind) 8
    12))

-- "indexed by group kind, running decision": the row of these, and of whether a child has counted before, and whether the child taken in counts
abbrev pub row_of : ℕ → ℕ → Bool → Bool → ℕ
row_of k running counted counts = first_row k counted counts + running

-- "and child decision": the entry for a running decision and a child
abbrev pub entry : List (List ℕ) → Running → Child → ℕ
entry t r c = get_or (get_or t (row_of r.kind r.decision r.counted c.counts) []) c.decision 0

-- "The four ways are kept as one constant table": wherever a child can be taken in, the entry is the new running decision.
pub record Combines (t : List (List ℕ)) : Type 0 where
  pub each : (r : Running) (c : Child) → Takes r c → entry t r c ≡ (step r.kind (so_far r) c).decision
