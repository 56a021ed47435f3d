-- The bytes that attaching writes are a table that is the base with the expansion fitted to it.
use mathlib.Core.Path.{◌≡◌, ap, sym, ◌∙◌}
use mathlib.Core.List.{List}
use Prim.Native.Nat.{ℕ, ◌+◌, ◌-◌, ◌≤◌, ◌<◌}
use native.Mathlib.Omega.{arith}
use lib.ListN.{length, drop, length-append, length-drop}
use Rattle.encoding.specs.Layout.{bytes_after, version, count_place, count, header, start, span, HeaderHeld, NodeHeld}
use Rattle.encoding.specs.Writing.{with_bytes_after, with_count}
use Rattle.table.specs.WellFormed.{WellFormed}
use Rattle.encoding.proofs.Places.{version_there, start_small, header_held, node_held, start_same, header_held_same, node_held_same}
use Rattle.encoding.proofs.SameBytes.{SameHeader, SameRecord, header_on, node_on, record_on}
use Rattle.encoding.proofs.NumbersWritten.{length_with, bytes_after_written, sized_header, sized_record, count_written, counted_header, counted_record, counted_bytes_after, span_written, spanned_header, spanned_node, spanned_record, spanned_count, spanned_bytes_after}
use Rattle.encoding.proofs.Joined.{first_header, first_record, joined_record, joined_length}
use Rattle.attaching.specs.Attached.{joined, nodes, attached_bytes}
use Rattle.attaching.specs.Fitted.{Fitted}

module _ (b e : List ℕ) where
  -- how many bytes come after the first two
  abbrev pub rest : ℕ
  rest = length (joined b e) - 2

  -- the bytes with their length, and then with their count too

  abbrev pub sized : List ℕ
  sized = with_bytes_after (joined b e) rest

  abbrev pub numbered : List ℕ
  numbered = with_count sized (nodes b e)

  abbrev table : List ℕ
  table = attached_bytes b e

  pub length_joined : length (joined b e) ≡ length b + (length e - header e)
  length_joined = length-append b (drop (header e) e) ∙ ap (λ n. length b + n) (length-drop (header e) e)

  length_sized : length sized ≡ length (joined b e)
  length_sized = length_with (joined b e) 0 rest

  length_numbered : length numbered ≡ length (joined b e)
  length_numbered = length_with sized (count_place sized) (nodes b e) ∙ length_sized

  -- the table is as long as what was copied
  pub length_attached : length table ≡ length (joined b e)
  unfolding attached_bytes
  length_attached = length_with numbered (start numbered 0 + 1) (nodes b e) ∙ length_numbered

  -- as the code sums it
  pub size_is : length b + (length e - header e) ≡ length table
  size_is = sym (length_attached ∙ length_joined)

  module _ (v : WellFormed b) (w : WellFormed e) where
    base_header : HeaderHeld b
    base_header = header_held b v.records

    -- a number of two bytes
    pub size_small : length table < 65536
    size_small =
        omega (
          arith,
          length_attached,
          length_joined,
          v.records,
          w.records,
          start_small b (count b) v.few,
          start_small e (count e) w.few,
        )

    -- what is copied, and what it is with each number that is then written, has the base's version and maxima

    joined_header : SameHeader (joined b e) b
    joined_header = first_header b (drop (header e) e) base_header

    sized_as_base : SameHeader sized b
    sized_as_base = header_on (sized_header (joined b e) rest) joined_header

    numbered_as_base : SameHeader numbered b
    numbered_as_base = header_on (counted_header sized (nodes b e)) sized_as_base

    as_base : SameHeader table b
    unfolding attached_bytes
    as_base = header_on (spanned_header numbered 0 (nodes b e)) numbered_as_base

    -- it has the header, and the root's record, that are written in

    pub joined_held : HeaderHeld (joined b e)
    joined_held = header_held_same (joined b e) b joined_header.versions (omega (arith, length_joined)) base_header

    pub joined_long : 5 ≤ length (joined b e)
    joined_long = version_there (joined b e) joined_held

    pub sized_held : HeaderHeld sized
    sized_held = header_held_same sized b sized_as_base.versions (omega (arith, length_sized, length_joined)) base_header

    pub root_held : NodeHeld numbered 0
    root_held =
        node_held_same numbered b numbered_as_base.versions 0 (omega (arith, length_numbered, length_joined)) (node_held b v.records 0 v.some)

    -- the three numbers

    pub bytes_after_lem : bytes_after table ≡ rest
    unfolding attached_bytes
    bytes_after_lem =
        spanned_bytes_after numbered 0 (nodes b e)
        ∙ counted_bytes_after sized (nodes b e)
        ∙ bytes_after_written (joined b e) rest joined_held

    pub count_all : count table ≡ nodes b e
    unfolding attached_bytes
    count_all = spanned_count numbered 0 (nodes b e) ∙ count_written sized (nodes b e) sized_held

    root_spans : span table 0 ≡ nodes b e
    unfolding attached_bytes
    root_spans = span_written numbered 0 (nodes b e) root_held

    -- the nodes, as they are copied

    counted_as_joined : (i : ℕ) → SameRecord numbered i (joined b e) i
    counted_as_joined i = record_on (counted_record sized (nodes b e) i) (sized_record (joined b e) rest i)

    as_joined : (i : ℕ) → 0 < i → SameRecord table i (joined b e) i
    unfolding attached_bytes
    as_joined i l = record_on (spanned_record numbered 0 (nodes b e) i (λ z. omega arith)) (counted_as_joined i)

    base_record : (i : ℕ) → i < count b → SameRecord (joined b e) i b i
    base_record i l = first_record b (drop (header e) e) i (node_held b v.records i l)

    -- where both are of one version
    module _ (s : version b ≡ version e) where
      expansion_record : (i : ℕ) → i < count e → SameRecord table (count b + i) e i
      expansion_record i l = record_on (as_joined (count b + i) (omega (arith, v.some))) (joined_record b e (count b) v.records s i)

      -- how long it is: that of its header and of all its nodes
      length_all : length table ≡ start table (nodes b e)
      length_all =
          length_attached
          ∙ joined_length b e (count b) v.records s (count e) w.records
          ∙ sym (start_same table b as_base.versions (nodes b e))

      pub bytes_fitted : Fitted table b e
      unfolding attached_bytes
      bytes_fitted = record {
        counts = count_all;
        root_span = root_spans ∙ sym count_all;
        long = omega (arith, bytes_after_lem, length_attached, joined_long);
        records = length_all ∙ ap (start table) (sym count_all);
        versions = as_base.versions;
        maxima = as_base.maxima;
        base_nodes = λ i l. node_on (spanned_node numbered 0 (nodes b e) i) (record_on (counted_as_joined i) (base_record i l)).node;
        base_spans = λ i h l. (as_joined i h).spans ∙ (base_record i l).spans;
        expansion_nodes = λ i l. (expansion_record i l).node;
        expansion_spans = λ i l. (expansion_record i l).spans;
      }
