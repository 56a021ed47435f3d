-- A table in which one number of two bytes is another.
-- Assumes nothing: these are definitions.
use Rattle.std.specs.Prelude.{List, ℕ, ◌+◌, ◌/◌, ◌%◌, set}
use Rattle.encoding.specs.Layout.{count_place, start}

-- "numbers of two bytes are big-endian": the table with number n in the two bytes at p
unfoldable pub with_word : List ℕ → ℕ → ℕ → List ℕ
with_word t p n = set (set t p (n / 256)) (p + 1) (n % 256)

-- "0-1 | number of bytes after these two"
abbrev pub with_bytes_after : List ℕ → ℕ → List ℕ
with_bytes_after t n = with_word t 0 n

-- "6-7 | number of nodes"
abbrev pub with_count : List ℕ → ℕ → List ℕ
with_count t n = with_word t (count_place t) n

-- "span (2)" of node i
abbrev pub with_span : List ℕ → ℕ → ℕ → List ℕ
with_span t i n = with_word t (start t i + 1) n
