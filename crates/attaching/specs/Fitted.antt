-- What it is for one table to be a base with an expansion fitted to it.
-- Assumes nothing: these are definitions.
use Rattle.std.specs.Prelude.{List, ◌≡◌, ℕ, ◌+◌, ◌<◌, length}
use Rattle.answer.specs.Fields.{fields}
use Rattle.encoding.specs.Layout.{bytes_after, version, maximum, count, start, span}
use Rattle.encoding.specs.SameNode.{SameNode}

-- Table t is base b with expansion e fitted to it.
pub record Fitted (t b e : List ℕ) : Type 0 where
  -- "count, root span and length follow"
  pub counts : count t ≡ count b + count e
  pub root_span : span t 0 ≡ count t
  pub long : length t ≡ bytes_after t + 2
  pub records : length t ≡ start t (count t)
  -- the version and the maxima are the base's
  pub versions : version t ≡ version b
  pub maxima : (f : ℕ) → f < fields → maximum t f ≡ maximum b f
  -- the nodes are the base's, and no span but the root's is another
  pub base_nodes : (i : ℕ) → i < count b → SameNode t i b i
  pub base_spans : (i : ℕ) → 0 < i → i < count b → span t i ≡ span b i
  -- and then the expansion's
  pub expansion_nodes : (i : ℕ) → i < count e → SameNode t (count b + i) e i
  pub expansion_spans : (i : ℕ) → i < count e → span t (count b + i) ≡ span e i
