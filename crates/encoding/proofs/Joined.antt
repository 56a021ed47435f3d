-- Bytes that start with a table, and bytes to which a part of another table of the same version was joined: the header and the nodes that they hold.
use mathlib.Core.Path.{◌≡◌, ap, ◌∙◌}
use mathlib.Core.List.{List, ◌++◌}
use Prim.Native.Nat.{ℕ, ◌+◌, ◌-◌, ◌≤◌}
use native.Mathlib.Omega.{arith}
use lib.ListN.{length, drop, length-append, length-drop, get_or-append}
use lib.Seq.{get_or-append-add, get_or-drop}
use Rattle.encoding.specs.Layout.{byte, version, count_place, header, start, record_byte, HeaderHeld, NodeHeld}
use Rattle.encoding.specs.Writing.{with_word, with_bytes_after, with_count, with_span}
use Rattle.encoding.proofs.Places.{record_least, version_there, count_there, record_there, node_header, start_header, start_sum, count_place_same, header_same, start_same, header_held_same, node_held_same}
use Rattle.encoding.proofs.SameBytes.{SameHeader, SameRecord, same_header, same_record}
use Rattle.encoding.proofs.NumbersWritten.{with_append}

-- what stands after a table changes nothing of it
module _ (t more : List ℕ) where
  abbrev u : List ℕ
  u = t ++ more

  module _ (h : HeaderHeld t) where
    pub first_header : SameHeader u t
    first_header = same_header u t (λ p a b. get_or-append t more 0 p (omega (arith, count_there t h)))

    pub first_held : HeaderHeld u
    first_held = header_held_same u t first_header.versions (omega (arith, length-append t more)) h

    pub first_bytes_after : (n : ℕ) → with_bytes_after u n ≡ with_bytes_after t n ++ more
    first_bytes_after n = with_append t 0 n more (omega (arith, version_there t h))

    pub first_count : (n : ℕ) → with_count u n ≡ with_count t n ++ more
    first_count n =
        ap (λ p. with_word u p n) (count_place_same u t first_header.versions)
        ∙ with_append t (count_place t) n more (omega (arith, count_there t h))

  module _ (i : ℕ) (h : NodeHeld t i) where
    same_version : version u ≡ version t
    same_version = (first_header (node_header t i h)).versions

    same_start : start u i ≡ start t i
    same_start = start_same u t same_version i

    pub first_node_held : NodeHeld u i
    first_node_held = node_held_same u t same_version i (omega (arith, length-append t more)) h

    pub first_record : SameRecord u i t i
    unfolding record_byte
    first_record =
        same_record u i t i same_version
        (λ k l. ap (λ s. byte u (s + k)) same_start ∙ get_or-append t more 0 (start t i + k) (omega (arith, record_there t i h)))

    pub first_span : (n : ℕ) → with_span u i n ≡ with_span t i n ++ more
    first_span n =
        ap (λ s. with_word u (s + 1) n) same_start
        ∙ with_append t (start t i + 1) n more (omega (arith, record_least t, record_there t i h))

-- the bytes b, and after them those of e from place d on: node i is node j of e, where that node's record comes to stand in its place
module _ (b e : List ℕ) (h : HeaderHeld b) (v : version b ≡ version e) (d i j : ℕ) (from : d ≤ start e j) (there : start b i + d ≡ length b + start e j) where
  pub part_record : SameRecord (b ++ drop d e) i e j
  unfolding record_byte
  part_record =
      let u = b ++ drop d e in
      let f = (first_header b (drop d e) h).versions in
      same_record u i e j (f ∙ v)
      (λ k l.
      let q = start e j - d + k in
      let y : start u i + k ≡ length b + q = omega (arith, start_same u b f i) in
      let z : d + q ≡ start e j + k = omega arith in
      ap (byte u) y ∙ get_or-append-add b (drop d e) q 0 ∙ get_or-drop d e q 0 ∙ ap (byte e) z)

-- the nodes of e after the n of b
module _ (b e : List ℕ) (n : ℕ) (records : length b ≡ start b n) (v : version b ≡ version e) where
  pub joined_record : (i : ℕ) → SameRecord (b ++ drop (header e) e) (n + i) e i
  joined_record i =
      part_record b e (omega (arith, start_header b n)) v (header e) (n + i) i (start_header e i)
      (omega (arith, start_sum b n i, header_same b e v, start_same b e v i))

  pub joined_length : (m : ℕ) → length e ≡ start e m → length (b ++ drop (header e) e) ≡ start b (n + m)
  joined_length m l =
      simp (length-append, length-drop)
      (omega (arith, start_header e m, start_sum b n m, header_same b e v, start_same b e v m))
