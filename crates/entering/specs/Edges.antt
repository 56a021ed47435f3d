-- The open edges of a level, as the build keeps them: last values and child places, each in a list of their own, and how many there are (for the contracts inside).
-- Assumes nothing: these are definitions.
use Rattle.std.specs.Prelude.{List, [], ◌∷◌, ◌++◌, ◌≡◌, ℕ, zero, suc, ◌<◌, get_or, drop}
use Rattle.diagram.specs.Entries.{Edge}
use Rattle.entering.specs.declared.edges.Edges.{Edges}

-- the j-th open edge
abbrev pub edge_in : List ℕ → List ℕ → ℕ → Edge
edge_in last child j = record { last = get_or last j 0; child = get_or child j 0 }

-- the first n open edges
abbrev pub edges_in : List ℕ → List ℕ → ℕ → List Edge
edges_in last child zero = []
edges_in last child (suc n) = edges_in last child n ++ (edge_in last child n ∷ [])

-- what stands in a list past the first n places is as it was
abbrev pub KeptPast : ℕ → List ℕ → List ℕ → Type 0
KeptPast n before after = drop n after ≡ drop n before

-- the open edges of a level: "256 open edges [..] for each of the three levels"
abbrev pub edges_of : Edges → List Edge
edges_of o = edges_in o.last o.child o.count

-- stands for the level past the last one
abbrev pub no_edges : Edges
no_edges = record { last = []; child = []; count = 0 }

-- The open edges of the fields before `field` were kept; those from its own on are free.
pub record EdgesKept (field : ℕ) (before after : List Edges) : Type 0 where
  pub above : (f : ℕ) → f < field → get_or after f no_edges ≡ get_or before f no_edges
