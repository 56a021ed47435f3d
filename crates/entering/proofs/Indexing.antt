-- The index of the entries: it finds an equal entry, and stays right when one more is entered.
use mathlib.Core.Path.{◌≡◌, refl, sym, ap, ◌∙◌, subst}
use mathlib.Core.Bool.{Bool, true, false, ◌&&◌, false≢true}
use mathlib.Core.Logic.{◌⊎◌, inl, inr, ⊎_elim}
use mathlib.Core.List.{List, [], ◌∷◌, ◌++◌, append_assoc, append-nil}
use Prim.Native.Nat.{ℕ, zero, suc, ◌+◌, ◌-◌, ◌*◌, ◌%◌, ◌≤◌, ◌<◌}
use native.Mathlib.Omega.{arith}
use native.Mathlib.Nat.{mod-lt}
use native.Mathlib.Numerals.{add-one}
use borrow.Author.Count.{below_more}
use borrow.Author.Tests.{lt-ltb, le-ltb, le-leb, lt-leb, ltb-true}
use lib.Dec.{ltb, leb}
use lib.ListN.{length, get_or, take, drop, set, length-append, length-replicate, length-set, drop_of_length-le}
use lib.Seq.{get_or-set_same, get_or-set_other, drop-cons}
use Rattle.answer.specs.Fields.{fields}
use Rattle.answer.specs.Answers.{zeros}
use Rattle.answer.proofs.Tests.{lt_or_ge, both}
use Rattle.diagram.specs.Layout.{header, size_at}
use Rattle.diagram.specs.Walk.{Entries, joined, same, Entered, enter}
use Rattle.diagram.specs.Decided.{either, eq?}
use Rattle.diagram.specs.Starts.{size_two}
use Rattle.diagram.proofs.StandsIn.{Stands, stands_taken}
use Rattle.diagram.proofs.EntryPlaces.{EntryAt, entry_ends, entry_stands, Begins, begins_itself}
use Rattle.diagram.proofs.EntriesGrow.{same_equal, same_itself, kept, enter_there, by_entering, enter_entry, enter_again}
use Rattle.std.specs.Prelude.{Some, None}
use Rattle.entering.specs.declared.finding.Found.{Found}
use Rattle.entering.specs.declared.finding.Found.TheVariants.{Equal, Absent}
use Rattle.entering.specs.Index.{slots, tries, hashed, slot_of, place_in, StandsAt, IsNew, Others, Indexed, equal_at, Finding}
use Rattle.entering.specs.Laid.{IsEntry, AllEntries, Laid}
use Rattle.entering.proofs.Seeking.{entry_size, IsFoundAt}
use Rattle.entering.proofs.LaidOut.{follows}

-- the number of an entry is made from its numbers one after another

pub hashed_more : (e : List ℕ) (h i : ℕ) → i < length e → hashed h (drop i e) ≡ hashed ((h * 40503 + get_or e i 0) % 65536) (drop (i + 1) e)
hashed_more e h i l =
    ap (hashed h) (drop-cons e i 0 l) ∙ ap (λ k. hashed ((h * 40503 + get_or e i 0) % 65536) (drop k e)) (sym (add-one i))

pub hashed_all : (e : List ℕ) (h i : ℕ) → length e ≤ i → hashed h (drop i e) ≡ h
hashed_all e h i l = ap (hashed h) (drop_of_length-le e {i = i} l)

-- an entry stays where it stands when more follow
stays : (es ys : Entries) (e : List ℕ) (p : ℕ) → Begins es ys → StandsAt es e p → StandsAt ys e p
stays es ys e p b s =
    enter_again e (header fields) es ys (subst (λ xs. Begins xs ys) (sym (ap (λ (r : Entered). r.entries) s)) b)
    ∙ ap (λ (r : Entered). kept ys r.place) s

-- a new entry is still new once another was entered
module _ (e x : List ℕ) (other : same x e ≡ false) where
  abbrev New : ℕ → Entries → Entered → Type 0
  New p xs r = r.entries ≡ xs ++ (e ∷ []) →
      enter p (xs ++ (x ∷ [])) e ≡ kept ((xs ++ (x ∷ [])) ++ (e ∷ [])) (p + length (joined (xs ++ (x ∷ []))))

  new_first : (p : ℕ) → New p [] (kept (e ∷ []) p)
  unfolding enter
  new_first p g =
      let z : p + length x ≡ p + length (x ++ []) = omega (arith, ap length (append-nil x)) in
      enter_there e p x [] other ∙ ap (kept (x ∷ e ∷ [])) z

  new_among : (p : ℕ) (xs : Entries) → New p xs (enter p xs e)
  new_among =
      by_entering e New new_first
      (λ p y xs t g. absurd (omega (arith, ap length g, length-append xs (e ∷ []))))
      (λ p y xs r t h g.
      let more = xs ++ (x ∷ []) in
      let z : p + length y + length (joined more) ≡ p + length (y ++ joined more) = omega (arith, length-append y (joined more)) in
      let w : r.entries ≡ xs ++ (e ∷ []) = cc in
      enter_there e p y more t ∙ ap (λ (s : Entered). kept (y ∷ s.entries) s.place) (h w) ∙ ap (kept (y ∷ more ++ (e ∷ []))) z)

  new_more : (es : Entries) → IsNew es e → IsNew (es ++ (x ∷ [])) e
  new_more es n = new_among (header fields) es (ap (λ (r : Entered). r.entries) n)

-- an index of empty slots is right about no entries
none_held : (n s : ℕ) → place_in (zeros n) s ≡ 0
none_held zero s = refl
none_held (suc n) zero = refl
none_held (suc n) (suc s) = none_held n s

pub none_indexed : Indexed [] (zeros slots)
unfolding enter
none_indexed = record {
  sized = length-replicate {A = ℕ} slots 0;
  points = λ s h. absurd (h (none_held slots s));
  covers = λ e j t o h. refl;
}

-- one more entry is entered, and the index is changed
module _ (es : Entries) (e index : List ℕ) (end : ℕ) (x : Indexed es index) (new : IsNew es e) (ends : header fields + length (joined es) ≡ end) where
  -- the entries with the new one
  abbrev more : Entries
  more = es ++ (e ∷ [])

  stands_new : StandsAt more e end
  stands_new =
      enter_again e (header fields) es more (subst (λ xs. Begins xs more) (sym (ap (λ (r : Entered). r.entries) new)) (begins_itself more))
      ∙ ap (λ (r : Entered). kept more r.place) new
      ∙ ap (kept more) ends

  stands_on : (y : List ℕ) (p : ℕ) → StandsAt es y p → StandsAt more y p
  stands_on y p s = stays es more y p (e ∷ [], refl) s

  -- the places held stay, no other than the new one comes, and no empty slot is tried for the new entry
  module _ (after : List ℕ)
      (keeps : (i : ℕ) → (place_in index i ≡ 0 → ⊥) → place_in after i ≡ place_in index i)
      (holds : (i : ℕ) → (place_in after i ≡ end) ⊎ (place_in after i ≡ place_in index i))
      (known : (j : ℕ) → j < tries → Others more after e j → place_in after (slot_of e j) ≡ 0 → ⊥) where
    points_on : (s : ℕ) → (place_in after s ≡ 0 → ⊥) → (y : List ℕ) × StandsAt more y (place_in after s)
    points_on s h =
        ⊎_elim
        (λ w. (e, subst (StandsAt more e) (sym w) stands_new))
        (λ w.
        let old = x.points s (λ z. h (w ∙ z)) in
        (old.0, subst (StandsAt more old.0) (sym w) (stands_on old.0 (place_in index s) old.1)))
        (holds s)

    -- an entry y, other than the new one, of which the slots tried hold others
    module _ (y : List ℕ) (j : ℕ) (t : j < tries) (o : Others more after y j) where
      -- y is new, or the slots tried for it held others before
      held_others : (k : ℕ) → k ≤ j → IsNew es y ⊎ Others es index y k
      held_others zero l = inr (λ i h. absurd (omega arith))
      held_others (suc k) l =
          ⊎_elim inl
          (λ before.
          ⊎_elim
          (λ z. inl (x.covers y k (omega arith) before z))
          (λ n.
          inr (λ i h.
          below_more _ k before
          (n, λ s. (o k (omega arith)).1 (subst (StandsAt more y) (sym (keeps (slot_of y k) n)) (stands_on y (place_in index (slot_of y k)) s)))
          i (omega arith)))
          (eq? (place_in index (slot_of y k)) 0))
          (held_others k (omega arith))

      was_new : place_in after (slot_of y j) ≡ 0 → IsNew es y
      was_new z =
          ⊎_elim (λ n. n)
          (λ before.
          ⊎_elim (λ w. x.covers y j t before w) (λ n. absurd (n (sym (keeps (slot_of y j) n) ∙ z))) (eq? (place_in index (slot_of y j)) 0))
          (held_others j (omega arith))

    indexed_more : length after ≡ slots → Indexed more after
    indexed_more sized = record {
      sized = sized;
      points = points_on;
      covers =
          λ y j t o z.
          ⊎_elim
          (λ b.
          let q : y ≡ e = sym (same_equal e y b) in
          absurd (known j t (subst (λ v. Others more after v j) q o) (subst (λ v. place_in after (slot_of v j) ≡ 0) q z)))
          (λ b. new_more y e b es (was_new y j t o z))
          (either (same e y));
    }

  -- the new entry is noted in the first empty slot that was tried for it
  noted_in_slot : 0 < end → (s j : ℕ) → j < tries → s ≡ slot_of e j → Others es index e j → place_in index s ≡ 0 → Indexed more (set index s end)
  noted_in_slot h s j t is o empty =
      indexed_more after keeps holds known (length-set index s end ∙ x.sized)
    where
      after : List ℕ
      after = set index s end

      keeps : (i : ℕ) → (place_in index i ≡ 0 → ⊥) → place_in after i ≡ place_in index i
      keeps i n = get_or-set_other index s i end 0 (λ q. n (ap (place_in index) q ∙ empty))

      noted : place_in after s ≡ end
      noted = get_or-set_same index s end 0 (omega (arith, x.sized, is, mod-lt (hashed 0 e + j) {m = slots} (omega arith)))

      holds : (i : ℕ) → (place_in after i ≡ end) ⊎ (place_in after i ≡ place_in index i)
      holds i = ⊎_elim (λ q. inl (ap (place_in after) q ∙ noted)) (λ n. inr (get_or-set_other index s i end 0 n)) (eq? i s)

      known : (k : ℕ) → k < tries → Others more after e k → place_in after (slot_of e k) ≡ 0 → ⊥
      known k u others z =
          ⊎_elim
          (λ l. (others j l).1 (subst (StandsAt more e) (sym (ap (place_in after) (sym is) ∙ noted)) stands_new))
          (λ l.
          ⊎_elim
          (λ m. (o k m).0 (sym (keeps (slot_of e k) (o k m).0) ∙ z))
          (λ m.
          let q : k ≡ j = omega arith in
          omega (arith, sym (ap (place_in after) (is ∙ ap (slot_of e) (sym q)) ∙ z) ∙ noted))
          (lt_or_ge k j))
          (lt_or_ge j k)

  -- all slots tried for the new entry hold others: it is not noted
  not_noted : Others es index e tries → Indexed more index
  not_noted o = indexed_more index (λ i n. refl) (λ i. inr refl) (λ j t others z. (o j t).0 z) x.sized

-- whether what starts at place p of d is equal to e, on each way out
module _ (d : List ℕ) (end p : ℕ) (e : List ℕ) where
  -- whether the entry that starts at p is equal to e
  abbrev there_same : Bool
  there_same = same (take (size_at d p) (drop p d)) e

  pub not_before_end : end ≤ p → false ≡ equal_at d end p e
  not_before_end h = sym (ap (λ b. b && (leb (size_at d p) (end - p) && there_same)) (le-ltb p end h))

  before_end : p < end → (b : Bool) → leb (size_at d p) (end - p) ≡ b → equal_at d end p e ≡ (b && there_same)
  before_end h b f = ap (λ t. t && (leb (size_at d p) (end - p) && there_same)) (lt-ltb p end h) ∙ ap (λ t. t && there_same) f

  module _ (h : p < end) (size : ℕ) (is : size ≡ size_at d p) where
    pub past_end : end - p < size → false ≡ equal_at d end p e
    past_end k = sym (before_end h false (lt-leb (size_at d p) (end - p) (omega arith)))

    pub as_compared : size ≤ end - p → (b : Bool) → b ≡ same (take (p + size - p) (drop p d)) e → b ≡ equal_at d end p e
    as_compared k b w =
        let z : p + size - p ≡ size_at d p = omega arith in
        w ∙ ap (λ n. same (take n (drop p d)) e) z ∙ sym (before_end h true (le-leb (size_at d p) (end - p) (omega arith)))

  pub equal_before_end : true ≡ equal_at d end p e → p < end
  equal_before_end t = ltb-true p end (both (ltb p end) (leb (size_at d p) (end - p) && there_same) (sym t)).0

-- an entry that is said to stand at place p of d stands there
module _ (es : Entries) (d index : List ℕ) (end : ℕ) (l : Laid es d index end) (e : List ℕ) (p : ℕ) (s : StandsAt es e p) where
  entry_at : EntryAt (header fields) es p e
  entry_at = subst (λ (r : Entered). EntryAt (header fields) r.entries r.place e) s (enter_entry e (header fields) es)

  formed_at : (xs : Entries) (i : ℕ) → i < length xs → AllEntries xs → IsEntry (get_or xs i [])
  formed_at [] i h f = absurd (omega arith)
  formed_at (y ∷ xs) zero h f = f.0
  formed_at (y ∷ xs) (suc i) h f = formed_at xs i (omega arith) f.1

  stands_there : Stands d p e
  stands_there =
      let front = zeros (header fields) in
      let rest = zeros (length d - length (front ++ joined es)) in
      subst (λ y. Stands y p e) (sym (l.is ∙ append_assoc front (joined es) rest))
      (entry_stands (header fields) es front rest p e (length-replicate {A = ℕ} (header fields) 0) entry_at)

  size_there : size_at d p ≡ length e
  size_there = entry_size d p e (subst IsEntry entry_at.is (formed_at es entry_at.index entry_at.there l.formed)) stands_there

  -- the entry at p is what is compared
  compared : (y : List ℕ) → equal_at d end p y ≡ same e y
  compared y =
      let r = entry_ends (header fields) es p e entry_at in
      before_end d end p y (omega (arith, r, size_there, size_two d p, l.ends)) true (le-leb (size_at d p) (end - p) (omega (arith, r, size_there, l.ends)))
      ∙ ap (λ k. same (take k (drop p d)) y) size_there
      ∙ ap (λ v. same v y) (stands_taken d p e stands_there)

-- the search by the index
module _ (d : List ℕ) (end : ℕ) (index e : List ℕ) where
  -- the slots tried so far hold places of other entries
  abbrev pub Tried : ℕ → Type 0
  Tried j = (es : Entries) → Laid es d index end → Others es index e j

  -- what the search gives
  abbrev pub Finds : Found → Type 0
  Finds found = (es : Entries) → Laid es d index end → Finding es index end e found

  -- all slots were tried, and all entries compared: none is equal
  pub none_finds : Tried tries → IsFoundAt d end e end → Finds (Absent None)
  none_finds tried f es l =
      let w = follows es d index end e l (omega (arith, f es index l)) in
      record {
        is = f es index l;
        noted = not_noted es e index end l.indexed (λ i. record { entries = w.0 i; place = (w.1 ∙ sym l.ends) i }) l.ends (tried es l);
      }

  -- one more slot is tried, and the place that it holds is read
  module _ (hash j place : ℕ) (is : hash ≡ hashed 0 e) (tried : Tried j) (at : place ≡ place_in index ((hash + j) % slots)) where
    here : (hash + j) % slots ≡ slot_of e j
    here = ap (λ h. (h + j) % slots) is

    held : place ≡ place_in index (slot_of e j)
    held = at ∙ ap (place_in index) here

    -- the slot is empty
    pub empty_finds : j < tries → place ≡ 0 → Finds (Absent (Some ((hash + j) % slots)))
    empty_finds t empty es l =
        let new = l.indexed.covers e j t (tried es l) (sym held ∙ empty) in
        record {
          is = sym (ap (λ (r : Entered). r.place) new ∙ l.ends);
          noted =
              noted_in_slot es e index end l.indexed new l.ends (omega (arith, l.ends)) ((hash + j) % slots) j t here (tried es l) (sym at ∙ empty);
        }

    -- the slot holds the place of an equal entry
    pub equal_finds : (place ≡ 0 → ⊥) → true ≡ equal_at d end place e → Finds (Equal place)
    equal_finds n t es l =
        let a = l.indexed.points (slot_of e j) (λ z. n (held ∙ z)) in
        let b : StandsAt es a.0 place = subst (StandsAt es a.0) (sym held) a.1 in
        let q : a.0 ≡ e = same_equal a.0 e (sym (t ∙ compared es d index end l a.0 place b e)) in
        sym (ap (λ (r : Entered). r.place) (subst (λ y. StandsAt es y place) q b))

    -- the slot holds the place of another entry
    pub tried_more : (place ≡ 0 → ⊥) → false ≡ equal_at d end place e → Tried (j + 1)
    tried_more n f es l =
        below_more _ j (tried es l) (
          λ z. n (held ∙ z),
          λ a. false≢true (f ∙ compared es d index end l e place (subst (StandsAt es e) (sym held) a) e ∙ same_itself e),
        )
