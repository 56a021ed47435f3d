-- Laws of the bytes that are copied into a table, and of the three numbers that are then written.
use mathlib.Core.Path.{◌≡◌, sym, ap, ap₂, subst, ◌∙◌}
use mathlib.Core.List.{List, ◌++◌}
use Prim.Native.Nat.{ℕ, ◌+◌, ◌-◌, ◌≤◌}
use native.Mathlib.Omega.{arith}
use lib.ListN.{length, take, drop, length-drop}
use lib.Seq.{sets, take_all}
use Rattle.answer.specs.Answers.{zeros, padded}
use Rattle.answer.proofs.Stored.{stored_join, stored_padded}
use Rattle.encoding.specs.Layout.{header, HeaderHeld, NodeHeld}
use Rattle.encoding.specs.Writing.{with_bytes_after, with_count, with_span}
use Rattle.table.specs.WellFormed.{WellFormed}
use Rattle.encoding.proofs.Joined.{first_held, first_node_held, first_bytes_after, first_count, first_span}
use Rattle.attaching.specs.Attached.{joined, nodes, attached_bytes}
use Rattle.attaching.proofs.BytesFitted.{rest, sized, numbered, length_joined, length_attached, joined_held, sized_held, root_held}

module _ (b e : List ℕ) where
  -- the part of the expansion after its header
  module _ (h : ℕ) (eh : h ≡ header e) where
    abbrev part : List ℕ
    part = take (length e - h) (drop h e)

    part_is : part ≡ drop (header e) e
    part_is = take_all (length e - h) (drop h e) (omega (arith, length-drop h e)) ∙ ap (λ k. drop k e) eh

    pub part_fits : (n : ℕ) → length (joined b e) ≤ n → length b + length part ≤ n
    part_fits n l = omega (arith, ap length part_is, length-drop (header e) e, length_joined b e)

    -- the base's bytes, and then that part
    pub copied_both : (before first second : List ℕ) → first ≡ sets before 0 b → second ≡ sets first (length b) part → second ≡ sets before 0 (joined b e)
    copied_both before first second p q =
        let z : length b ≡ 0 + length b = omega arith in
        q
        ∙ ap₂ (λ xs ys. sets xs (length b) ys) p part_is
        ∙ ap (λ k. sets (sets before 0 b) k (drop (header e) e)) z
        ∙ sym (stored_join b (drop (header e) e) before 0)

  -- the base's bytes fit where all do
  pub base_fits : (n : ℕ) → length (joined b e) ≤ n → 0 + length b ≤ n
  base_fits n l = omega (arith, length_joined b e)

  -- in zeros, the bytes and then their length, their count and the root's span: each time the header, or the root, to write in is there
  module _ (v : WellFormed b) (w : WellFormed e) (n : ℕ) (l : length (joined b e) ≤ n) where
    abbrev after : List ℕ
    after = zeros (n - length (joined b e))

    module _ (before copied : List ℕ) (p : before ≡ zeros n) (q : copied ≡ sets before 0 (joined b e)) where
      copied_is : copied ≡ joined b e ++ after
      copied_is = q ∙ ap (λ xs. sets xs 0 (joined b e)) p ∙ stored_padded (joined b e) n l

      pub copied_there : HeaderHeld copied
      copied_there = subst HeaderHeld (sym copied_is) (first_held (joined b e) after (joined_held b e v w))

      module _ (long : List ℕ) (r : long ≡ with_bytes_after copied (rest b e)) where
        long_is : long ≡ sized b e ++ after
        long_is = r ∙ ap (λ xs. with_bytes_after xs (rest b e)) copied_is ∙ first_bytes_after (joined b e) after (joined_held b e v w) (rest b e)

        pub long_there : HeaderHeld long
        long_there = subst HeaderHeld (sym long_is) (first_held (sized b e) after (sized_held b e v w))

        module _ (counted : List ℕ) (s : counted ≡ with_count long (nodes b e)) where
          counted_is : counted ≡ numbered b e ++ after
          counted_is = s ∙ ap (λ xs. with_count xs (nodes b e)) long_is ∙ first_count (sized b e) after (sized_held b e v w) (nodes b e)

          pub root_there : NodeHeld counted 0
          root_there = subst (λ t. NodeHeld t 0) (sym counted_is) (first_node_held (numbered b e) after 0 (root_held b e v w))

          pub written_all : (table : List ℕ) → table ≡ with_span counted 0 (nodes b e) → table ≡ padded (attached_bytes b e) n
          unfolding attached_bytes
          written_all table t =
              t
              ∙ ap (λ xs. with_span xs 0 (nodes b e)) counted_is
              ∙ first_span (numbered b e) after 0 (root_held b e v w) (nodes b e)
              ∙ ap (λ i. attached_bytes b e ++ zeros (n - i)) (sym (length_attached b e))
