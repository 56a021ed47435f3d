-- Where the entries stand that follow one another from some place on, and that more entries at the end move none of them.
use mathlib.Core.Path.{◌≡◌, refl, sym, ap, ◌∙◌, subst}
use mathlib.Core.List.{List, [], ◌∷◌, ◌++◌, append_assoc, append-nil}
use Prim.Native.Nat.{ℕ, suc, ◌+◌, ◌≤◌, ◌<◌}
use native.Mathlib.Omega.{arith}
use lib.ListN.{length, get_or, take, drop, length-append, get_or-append}
use lib.Seq.{take-length, take-suc, split_at, drop-append_seam, take-append-le, drop-append-add}
use Rattle.diagram.specs.Walk.{Entries, joined}
use Rattle.diagram.proofs.StandsIn.{Stands}

-- the places of some entries and then others
pub joined_append : (xs ys : Entries) → joined (xs ++ ys) ≡ joined xs ++ joined ys
joined_append [] ys = refl
joined_append (x ∷ xs) ys = ap (λ l. x ++ l) (joined_append xs ys) ∙ sym (append_assoc x (joined xs) (joined ys))

-- the place of entry i, where the first stands at p
abbrev pub place_of : ℕ → Entries → ℕ → ℕ
place_of p xs i = p + length (joined (take i xs))

-- e is one of the entries xs, and stands at place c
pub record EntryAt (p : ℕ) (xs : Entries) (c : ℕ) (e : List ℕ) : Type 0 where
  pub index : ℕ
  pub there : index < length xs
  pub is : get_or xs index [] ≡ e
  pub place : place_of p xs index ≡ c

module _ (p : ℕ) (xs : Entries) where
  -- the next entry follows at once
  pub place_next : (i : ℕ) → i < length xs → place_of p xs (suc i) ≡ place_of p xs i + length (get_or xs i [])
  place_next i l =
      omega (
        arith,
        ap (λ (es : Entries). length (joined es)) (take-suc xs i [] l),
        ap length (joined_append (take i xs) (get_or xs i [] ∷ [])),
        length-append (joined (take i xs)) (get_or xs i [] ++ []),
        ap length (append-nil (get_or xs i [])),
      )

  -- the place after the last entry is that after all numbers
  pub place_end : place_of p xs (length xs) ≡ p + length (joined xs)
  place_end = ap (λ es. p + length (joined es)) (take-length xs)

  -- the places before an entry, its own, and those after it
  joined_split : (c : ℕ) (e : List ℕ) (a : EntryAt p xs c e) →
      joined xs ≡ joined (take a.index xs) ++ (e ++ joined (drop (suc a.index) xs))
  joined_split c e a =
      let i = a.index in
      ap joined (split_at xs i [] a.there)
      ∙ joined_append (take i xs) (get_or xs i [] ∷ drop (suc i) xs)
      ∙ ap (λ x. joined (take i xs) ++ (x ++ joined (drop (suc i) xs))) a.is

  -- an entry ends where all entries end, or earlier
  pub entry_ends : (c : ℕ) (e : List ℕ) → EntryAt p xs c e → c + length e ≤ p + length (joined xs)
  entry_ends c e a =
      let before = joined (take a.index xs) in
      let after = joined (drop (suc a.index) xs) in
      omega (arith, a.place, ap length (joined_split c e a), length-append before (e ++ after), length-append e after)

  -- in a slice that has them from place p on, its numbers stand at its place
  pub entry_stands : (before tail : List ℕ) (c : ℕ) (e : List ℕ) → length before ≡ p → EntryAt p xs c e →
      Stands (before ++ (joined xs ++ tail)) c e
  entry_stands before tail c e l a =
      let front = joined (take a.index xs) in
      let after = joined (drop (suc a.index) xs) in
      let z : c ≡ length before + length front = omega (arith, a.place) in
      record {
        rest = after ++ tail;
        is =
            ap (λ n. drop n (before ++ (joined xs ++ tail))) z
            ∙ drop-append-add before (joined xs ++ tail) (length front)
            ∙ ap (λ ns. drop (length front) (ns ++ tail)) (joined_split c e a)
            ∙ ap (drop (length front)) (append_assoc front (e ++ after) tail)
            ∙ drop-append_seam front ((e ++ after) ++ tail)
            ∙ append_assoc e after tail;
      }

-- the entries xs begin the entries ys
abbrev pub Begins : Entries → Entries → Type 0
Begins xs ys = (more : Entries) × (ys ≡ xs ++ more)

-- entries begin themselves, and beginning goes in two steps

pub begins_itself : (xs : Entries) → Begins xs xs
begins_itself xs = ([], sym (append-nil xs))

pub begins_on : (xs ys zs : Entries) → Begins xs ys → Begins ys zs → Begins xs zs
begins_on xs ys zs a b = (a.0 ++ b.0, b.1 ∙ ap (λ es. es ++ b.0) a.1 ∙ append_assoc xs a.0 b.0)

-- an entry stays where it is when more follow
pub entry_stays : (p : ℕ) (xs ys : Entries) (c : ℕ) (e : List ℕ) → Begins xs ys → EntryAt p xs c e → EntryAt p ys c e
entry_stays p xs ys c e b a =
    subst (λ es. EntryAt p es c e) (sym b.1)
    (record {
      index = a.index;
      there = omega (arith, a.there, length-append xs b.0);
      is = get_or-append xs b.0 [] a.index a.there ∙ a.is;
      place = ap (λ es. p + length (joined es)) (take-append-le a.index xs b.0 (omega (arith, a.there))) ∙ a.place;
    })
