-- Laws of a table in which one number of two bytes is another: that number is read, and all else of the header and of the nodes is as it was.
use mathlib.Core.Path.{◌≡◌, ap, ap₂, subst, ◌∙◌}
use mathlib.Core.Logic.{⊎_elim}
use mathlib.Core.List.{List, ◌++◌}
use Prim.Native.Nat.{ℕ, ◌+◌, ◌*◌, ◌/◌, ◌%◌, ◌≤◌, ◌<◌}
use native.Mathlib.Nat.{eq-or-lt_of_le}
use native.Mathlib.Omega.{arith}
use lib.ListN.{length, set, length-set}
use lib.Seq.{lt-length-set, get_or-set_same, get_or-set_other, set-append_left}
use Rattle.answer.proofs.Tests.{lt_or_ge}
use Rattle.encoding.specs.Layout.{byte, word, bytes_after, version, count_place, count, record_size, start, record_byte, record_word, span, HeaderHeld, NodeHeld}
use Rattle.encoding.specs.SameNode.{SameNode}
use Rattle.encoding.specs.Writing.{with_word, with_bytes_after, with_count, with_span}
use Rattle.encoding.proofs.Places.{count_place_lem, count_last, record_least, count_there, version_there, record_there, start_header, start_after, count_place_same, start_same}
use Rattle.encoding.proofs.SameBytes.{SameHeader, SameRecord, same_header, same_node, same_record}

module _ (t : List ℕ) (p n : ℕ) where
  abbrev u : List ℕ
  u = with_word t p n

  pub length_with : length u ≡ length t
  unfolding with_word
  length_with = length-set (set t p (n / 256)) (p + 1) (n % 256) ∙ length-set t p (n / 256)

  -- the number that was written is read
  word_written : p + 1 < length t → word u p ≡ n
  unfolding with_word word
  word_written l =
      let first : byte u p ≡ n / 256 =
      get_or-set_other (set t p (n / 256)) (p + 1) p (n % 256) 0 (λ e. omega arith) ∙ get_or-set_same t p (n / 256) 0 (omega arith) in
      let second : byte u (p + 1) ≡ n % 256 =
      get_or-set_same (set t p (n / 256)) (p + 1) (n % 256) 0 (lt-length-set t p (n / 256) l) in
      ap₂ (λ x y. x * 256 + y) first second ∙ omega arith

  -- every other byte is as it was
  byte_kept : (q : ℕ) → (q ≡ p → ⊥) → (q ≡ p + 1 → ⊥) → byte u q ≡ byte t q
  unfolding with_word
  byte_kept q h k = get_or-set_other (set t p (n / 256)) (p + 1) q (n % 256) 0 k ∙ get_or-set_other t p q (n / 256) 0 h

  -- and so is every number of two bytes that stands before it
  word_kept : (q : ℕ) → q + 1 < p → word u q ≡ word t q
  unfolding word
  word_kept q l =
      ap₂ (λ x y. x * 256 + y) (byte_kept q (λ e. omega arith) (λ e. omega arith)) (byte_kept (q + 1) (λ e. omega arith) (λ e. omega arith))

  -- and a node of which it is no part
  module _ (v : version u ≡ version t) (i : ℕ) where
    record_byte_kept : (k : ℕ) → (start t i + k ≡ p → ⊥) → (start t i + k ≡ p + 1 → ⊥) → record_byte u i k ≡ record_byte t i k
    unfolding record_byte
    record_byte_kept k x y = ap (λ s. byte u (s + k)) (start_same u t v i) ∙ byte_kept (start t i + k) x y

    record_after : p + 1 < start t i → SameRecord u i t i
    record_after l = same_record u i t i v (λ k h. record_byte_kept k (λ e. omega arith) (λ e. omega arith))

    record_before : start t i + record_size t ≤ p → SameRecord u i t i
    record_before l = same_record u i t i v (λ k h. record_byte_kept k (λ e. omega arith) (λ e. omega arith))

  -- what stands after a table stays
  pub with_append : (more : List ℕ) → p + 1 < length t → with_word (t ++ more) p n ≡ u ++ more
  unfolding with_word
  with_append more l =
      ap (λ u. set u (p + 1) (n % 256)) (set-append_left t more p (n / 256) (omega arith))
      ∙ set-append_left (set t p (n / 256)) more (p + 1) (n % 256) (lt-length-set t p (n / 256) l)

module _ (t : List ℕ) (n : ℕ) where
  -- the length

  pub bytes_after_written : HeaderHeld t → bytes_after (with_bytes_after t n) ≡ n
  bytes_after_written h = word_written t 0 n (omega (arith, version_there t h))

  pub sized_header : SameHeader (with_bytes_after t n) t
  sized_header = same_header (with_bytes_after t n) t (λ q l h. byte_kept t 0 n q (λ e. omega arith) (λ e. omega arith))

  pub sized_record : (i : ℕ) → SameRecord (with_bytes_after t n) i t i
  sized_record i = record_after t 0 n sized_header.versions i (omega (arith, count_place_lem t, count_last t, start_header t i))

  -- the count

  pub counted_header : SameHeader (with_count t n) t
  counted_header = same_header (with_count t n) t (λ q l h. byte_kept t (count_place t) n q (λ e. omega arith) (λ e. omega arith))

  pub counted_record : (i : ℕ) → SameRecord (with_count t n) i t i
  counted_record i = record_after t (count_place t) n counted_header.versions i (omega (arith, count_last t, start_header t i))

  pub count_written : HeaderHeld t → count (with_count t n) ≡ n
  unfolding count
  count_written h =
      ap (word (with_count t n)) (count_place_same (with_count t n) t counted_header.versions)
      ∙ word_written t (count_place t) n (omega (arith, count_there t h))

  pub counted_bytes_after : bytes_after (with_count t n) ≡ bytes_after t
  counted_bytes_after = word_kept t (count_place t) n 0 (omega (arith, count_place_lem t))

-- a node's span
module _ (t : List ℕ) (i n : ℕ) where
  abbrev s : List ℕ
  s = with_span t i n

  pub spanned_header : SameHeader s t
  spanned_header =
      let before : count_place t + 2 ≤ start t i = omega (arith, count_last t, start_header t i) in
      same_header s t (λ q m h. byte_kept t (start t i + 1) n q (λ e. omega arith) (λ e. omega arith))

  -- every other node
  pub spanned_record : (j : ℕ) → (j ≡ i → ⊥) → SameRecord s j t j
  spanned_record j h =
      let v = spanned_header.versions in
      ⊎_elim
      (λ (l : j < i). record_before t (start t i + 1) n v j (omega (arith, start_after t j i l)))
      (λ (l : i ≤ j). record_after t (start t i + 1) n v j (omega (arith, record_least t, start_after t i j (omega arith))))
      (lt_or_ge j i)

  -- and that node, but for its span
  pub spanned_node : (j : ℕ) → SameNode s j t j
  spanned_node j =
      ⊎_elim
      (λ (l : j < i). (spanned_record j (λ e. omega arith)).node)
      (λ (l : i ≤ j). ⊎_elim (λ (e : i ≡ j). subst (λ k. SameNode s k t k) e here) (λ (m : i < j). (spanned_record j (λ e. omega arith)).node) (eq-or-lt_of_le l))
      (lt_or_ge j i)
    where
      here : SameNode s i t i
      here =
          same_node s i t i spanned_header.versions
          (λ k l x y.
          record_byte_kept t (start t i + 1) n spanned_header.versions i k (λ e. x (omega arith)) (λ e. y (omega arith)))

  pub span_written : NodeHeld t i → span s i ≡ n
  unfolding record_word
  span_written h =
      ap (λ p. word s (p + 1)) (start_same s t spanned_header.versions i)
      ∙ word_written t (start t i + 1) n (omega (arith, record_least t, record_there t i h))

  pub spanned_count : count s ≡ count t
  unfolding count
  spanned_count =
      ap (word s) (count_place_same s t spanned_header.versions)
      ∙ word_kept t (start t i + 1) n (count_place t) (omega (arith, count_last t, start_header t i))

  pub spanned_bytes_after : bytes_after s ≡ bytes_after t
  spanned_bytes_after = word_kept t (start t i + 1) n 0 (omega (arith, count_place_lem t, count_last t, start_header t i))
