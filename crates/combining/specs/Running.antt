-- A group's running decision: what it can be, how it starts, and what taking in a child asks for and leaves.
-- Assumes nothing: these are definitions.
use Rattle.std.specs.Prelude.{◌≡◌, [], ◌∷◌, ℕ, ◌<◌}
use Rattle.combining.specs.Ways.{Child, as_child, absent, way, step, NeverIndeterminate}
use Rattle.combining.specs.declared.Running.{Running}

-- "Beside the running decision a group now keeps whether a child has counted": the two, beside the child that is taken in
abbrev pub so_far : Running → Child
so_far r = as_child r.decision r.counted

-- A running decision that a group can have: one of the four, never indeterminate under deny overrides, and what the group's way gives of it alone.
pub record Reachable (r : Running) : Type 0 where
  pub group : r.kind < 4
  pub one_of_four : r.decision < 4
  pub never_indeterminate : NeverIndeterminate r.kind r.decision
  pub alone : way r.kind (so_far r ∷ []) ≡ r.decision

-- "A running decision starts at none", and no child has counted: that of a group of a kind
pub record Started (kind : ℕ) (r : Running) : Type 0 where
  pub same_kind : r.kind ≡ kind
  pub none : so_far r ≡ absent
  pub reachable : Reachable r

-- "indexed by group kind, running decision and child decision (0 to 3 each)": this child can be taken in
pub record Takes (r : Running) (c : Child) : Type 0 where
  pub reachable : Reachable r
  pub one_of_four : c.decision < 4

-- "takes in one child after another": with one child more
pub record Taken (r : Running) (c : Child) (next : Running) : Type 0 where
  pub same_kind : next.kind ≡ r.kind
  pub combined : so_far next ≡ step r.kind (so_far r) c
  pub reachable : Reachable next
