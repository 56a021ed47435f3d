-- Where the header and the records of a table lie, and that tables of one version have them in the same places: other proofs cite this and know no
-- offset.
use mathlib.Core.Path.{◌≡◌, refl, ap₂}
use mathlib.Core.List.{List}
use Prim.Native.Nat.{ℕ, ◌+◌, ◌*◌, ◌^◌, ◌≤◌, ◌<◌}
use native.Mathlib.Omega.{arith}
use lib.ListN.{length}
use Rattle.answer.specs.Fields.{fields}
use Rattle.encoding.specs.Layout.{version, count_place, count, header, record_size, start, HeaderHeld, NodeHeld}

module _ (t : List ℕ) where
  -- the length and the version stand before the count, and the count ends the header
  pub count_place_lem : 3 ≤ count_place t
  unfolding count_place
  count_place_lem = omega arith

  pub count_last : count_place t + 2 ≡ header t
  unfolding header
  count_last = refl

  -- a record has its kind, its span and its card at least
  pub record_least : 5 ≤ record_size t
  unfolding record_size
  record_least = omega arith

  -- a record stands after the header and after the records before it

  pub start_header : (i : ℕ) → header t ≤ start t i
  unfolding start
  start_header i = omega arith

  pub start_next : (i : ℕ) → start t (i + 1) ≡ start t i + record_size t
  unfolding start record_size
  start_next i = omega arith

  pub start_sum : (n i : ℕ) → start t (n + i) + header t ≡ start t n + start t i
  unfolding start record_size
  start_sum n i = omega arith

  pub start_after : (i j : ℕ) → i < j → start t i + record_size t ≤ start t j
  unfolding start record_size
  start_after i j l = omega arith

  -- the header, and in it the version and the count, where it is there
  module _ (h : HeaderHeld t) where
    pub version_there : 5 ≤ length t
    version_there = omega (arith, count_place_lem, count_last)

    pub count_there : count_place t + 2 ≤ length t
    count_there = omega (arith, count_last)

  module _ (i : ℕ) (h : NodeHeld t i) where
    -- the record of a node that is held
    pub record_there : start t i + record_size t ≤ length t
    record_there = omega (arith, start_next i)

    -- its kind, span, card and ranges
    pub record_places : start t i + 5 + 2 * fields ≤ length t
    unfolding record_size
    record_places = omega (arith, record_there)

    -- the header before it
    pub node_header : HeaderHeld t
    node_header = omega (arith, start_header (i + 1))

    -- there are more bytes than nodes
    pub number_small : 5 * i ≤ length t
    unfolding start record_size
    number_small = omega arith

  -- where the records end that a count of two bytes says there are, is a number of 64 bits
  pub start_fits : (n : ℕ) → n < 65536 → start t n < 2 ^ 64
  unfolding start count_place header record_size
  start_fits n l = omega arith

  -- two tables of as many nodes as are allowed have fewer bytes together than a number of two bytes counts
  pub start_small : (n : ℕ) → n ≤ 128 → 2 * start t n < 65536
  unfolding start count_place header record_size
  start_small n l = omega arith

  -- a table that has its records and nothing more holds its header and each of its nodes
  module _ (records : length t ≡ start t (count t)) where
    pub header_held : HeaderHeld t
    header_held = omega (arith, start_header (count t))

    pub node_held : (i : ℕ) → i < count t → NodeHeld t i
    node_held i l = omega (arith, start_next i, start_after i (count t) l)

-- tables of one version have one layout
module _ (t u : List ℕ) (v : version t ≡ version u) where
  pub count_place_same : count_place t ≡ count_place u
  unfolding count_place
  count_place_same = refl

  pub record_size_same : record_size t ≡ record_size u
  unfolding record_size
  record_size_same = refl

  pub header_same : header t ≡ header u
  header_same = omega (arith, count_place_same, count_last t, count_last u)

  pub start_same : (i : ℕ) → start t i ≡ start u i
  unfolding start
  start_same i = ap₂ (λ h r. h + r * i) header_same record_size_same

  -- so the header, and a node, are held by any that is as long

  pub header_held_same : length u ≤ length t → HeaderHeld u → HeaderHeld t
  header_held_same l h = omega (arith, header_same)

  pub node_held_same : (i : ℕ) → length u ≤ length t → NodeHeld u i → NodeHeld t i
  node_held_same i l h = omega (arith, start_same (i + 1))
