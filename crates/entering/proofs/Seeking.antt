-- The search for an equal entry, at one place where an entry starts after another.
use mathlib.Core.Path.{◌≡◌, refl, sym, ap, ◌∙◌, subst}
use mathlib.Core.Bool.{true, false, ◌&&◌}
use mathlib.Core.Logic.{⊎_elim}
use mathlib.Core.List.{List, [], ◌∷◌, ◌++◌, append_assoc}
use Prim.Native.Nat.{ℕ, ◌+◌, ◌-◌, ◌<◌}
use native.Mathlib.Omega.{arith}
use lib.ListN.{length, take, drop, length-append, length-replicate}
use lib.Seq.{drop_at}
use Rattle.std.specs.Cmp.Lexicographic.{pointwise}
use Rattle.std.specs.Prelude.{nat_eq}
use Rattle.answer.specs.Fields.{fields}
use Rattle.answer.specs.Answers.{zeros}
use Rattle.diagram.specs.Layout.{header, size_at}
use Rattle.diagram.specs.Walk.{Entries, joined, same, Entered, enter}
use Rattle.diagram.specs.Starts.{size_two}
use Rattle.diagram.proofs.StandsIn.{Stands, stands_later, stands_taken}
use Rattle.diagram.proofs.EntriesGrow.{enter_here, enter_there}
use Rattle.diagram.proofs.GoodEntriesAreSound.{terminal_size, node_size}
use Rattle.entering.specs.Laid.{IsEntry, AllEntries, Laid}

-- what `==` tells of two slices
pub compared_same : (x y : List ℕ) → pointwise nat_eq x y ≡ same x y
compared_same [] [] = refl
compared_same [] (y ∷ ys) = refl
compared_same (x ∷ xs) [] = refl
compared_same (x ∷ xs) (y ∷ ys) = ap (λ b. nat_eq x y && b) (compared_same xs ys)

-- an entry's size is read where it stands
pub entry_size : (d : List ℕ) (p : ℕ) (e : List ℕ) → IsEntry e → Stands d p e → size_at d p ≡ length e
entry_size d p e i s =
    ⊎_elim
    (λ w. terminal_size d p w.0 (subst (Stands d p) w.1 s) ∙ sym (ap length w.1))
    (λ w. node_size d p w.0 w.1 w.2 (subst (Stands d p) w.3 s) ∙ sym (ap length w.3))
    i

-- the first of two parts stands where both do
stands_front : (d : List ℕ) (p : ℕ) (x y : List ℕ) → Stands d p (x ++ y) → Stands d p x
stands_front d p x y s = record { rest = y ++ s.rest; is = s.is ∙ append_assoc x y s.rest }

-- the entries stand after the header
laid_stands : (es : Entries) (d index : List ℕ) (end : ℕ) → Laid es d index end → Stands d (header fields) (joined es)
laid_stands es d index end l = record {
  rest = zeros (length d - length (zeros (header fields) ++ joined es));
  is =
      ap (drop (header fields)) (l.is ∙ append_assoc (zeros (header fields)) (joined es) (zeros (length d - length (zeros (header fields) ++ joined es))))
      ∙ drop_at (zeros (header fields)) (joined es ++ zeros (length d - length (zeros (header fields) ++ joined es))) (header fields) (length-replicate {A = ℕ} (header fields) 0);
}

-- the entries ys are those left to search from place p on, up to `end`
pub record Left (es : Entries) (d : List ℕ) (end : ℕ) (e : List ℕ) (p : ℕ) (ys : Entries) : Type 0 where
  pub stand : Stands d p (joined ys)
  pub ends : p + length (joined ys) ≡ end
  pub formed : AllEntries ys
  pub found : (enter (header fields) es e).place ≡ (enter p ys e).place

-- of the entries laid some are left to search
abbrev pub Seeks : List ℕ → ℕ → List ℕ → ℕ → Type 0
Seeks d end e p = (es : Entries) (index : List ℕ) → Laid es d index end → (ys : Entries) × Left es d end e p ys

module _ (d : List ℕ) (end : ℕ) (e : List ℕ) where
  pub seek_starts : Seeks d end e (header fields)
  seek_starts es index l = (es, record { stand = laid_stands es d index end l; ends = l.ends; formed = l.formed; found = refl })

  -- p is the place that entering e gives, among any entries laid
  abbrev pub IsFoundAt : ℕ → Type 0
  IsFoundAt p = (es : Entries) (index : List ℕ) → Laid es d index end → p ≡ (enter (header fields) es e).place

  module _ (p : ℕ) (seeks : Seeks d end e p) where
    -- the first entry left is read at p
    first_size : (es : Entries) (x : List ℕ) (ys : Entries) → Left es d end e p (x ∷ ys) → size_at d p ≡ length x
    first_size es x ys s = entry_size d p x s.formed.0 (stands_front d p x (joined ys) s.stand)

    -- the first entry left does not reach past the end
    pub seek_within : p < end → end - p < size_at d p → IsFoundAt end
    seek_within h k es index l = absurd (go (seeks es index l).0 (seeks es index l).1)
      where
        go : (ys : Entries) → Left es d end e p ys → ⊥
        go [] s = omega (arith, s.ends)
        go (x ∷ ys) s = omega (arith, first_size es x ys s, s.ends, length-append x (joined ys))

    module _ (size : ℕ) (is : size ≡ size_at d p) (h : p < end) where
      part_is : (es : Entries) (x : List ℕ) (ys : Entries) → Left es d end e p (x ∷ ys) → take (p + size - p) (drop p d) ≡ x
      part_is es x ys s =
          let z : p + size - p ≡ length x = omega (arith, first_size es x ys s) in
          ap (λ k. take k (drop p d)) z ∙ stands_taken d p x (stands_front d p x (joined ys) s.stand)

      -- the first entry left is equal
      pub seek_found : true ≡ same (take (p + size - p) (drop p d)) e → IsFoundAt p
      seek_found t es index l = go (seeks es index l).0 (seeks es index l).1
        where
          go : (ys : Entries) → Left es d end e p ys → p ≡ (enter (header fields) es e).place
          go [] s = absurd (omega (arith, s.ends))
          go (x ∷ ys) s =
              sym (s.found ∙ ap (λ (r : Entered). r.place) (enter_here e p x ys (ap (λ y. same y e) (sym (part_is es x ys s)) ∙ sym t)))

      -- the first entry left is another
      pub seek_on : false ≡ same (take (p + size - p) (drop p d)) e → Seeks d end e (p + size)
      seek_on t es index l = go (seeks es index l).0 (seeks es index l).1
        where
          go : (ys : Entries) → Left es d end e p ys → (zs : Entries) × Left es d end e (p + size) zs
          go [] s = absurd (omega (arith, s.ends))
          go (x ∷ ys) s =
              let z : length x ≡ size = sym (first_size es x ys s) ∙ sym is in (
                ys,
                record {
                  stand = subst (λ k. Stands d (p + k) (joined ys)) z (stands_later d p x (joined ys) s.stand);
                  ends = omega (arith, s.ends, length-append x (joined ys));
                  formed = s.formed.1;
                  found =
                      s.found
                      ∙ ap (λ (r : Entered). r.place) (enter_there e p x ys (ap (λ y. same y e) (sym (part_is es x ys s)) ∙ sym t))
                      ∙ ap (λ k. (enter (p + k) ys e).place) z;
                },
              )

    -- no entry is left
    pub seek_ends : p ≡ end → IsFoundAt end
    unfolding enter
    seek_ends h es index l = go (seeks es index l).0 (seeks es index l).1
      where
        go : (ys : Entries) → Left es d end e p ys → end ≡ (enter (header fields) es e).place
        go [] s = sym h ∙ sym s.found
        go (x ∷ ys) s = absurd (omega (arith, first_size es x ys s, size_two d p, s.ends, length-append x (joined ys)))
