-- An entry that is entered stands already, or follows the last one: where it is to stand, whether there is room, and what is left once it is written.
use mathlib.Core.Path.{◌≡◌, refl, sym, ap, ◌∙◌, subst}
use mathlib.Core.Logic.{◌⊎◌, inl, inr, ⊎_elim}
use mathlib.Core.List.{List, [], ◌∷◌, ◌++◌, append_assoc, append-nil}
use Prim.Native.Nat.{ℕ, ◌+◌, ◌-◌, ◌≤◌, ◌<◌, min}
use native.Mathlib.Omega.{arith}
use lib.ListN.{length, take, drop, length-append, length-replicate, replicate-append-replicate}
use lib.Seq.{sets, length-sets, take_at, drop_at}
use borrow.Rule.Slice.PartMut.{mid_of, put_mid}
use Rattle.answer.specs.Fields.{fields}
use Rattle.answer.specs.Answers.{zeros, padded}
use Rattle.answer.proofs.Stored.{stored_padded}
use Rattle.diagram.specs.Layout.{header, most_places}
use Rattle.diagram.specs.Entries.{terminal, node}
use Rattle.diagram.specs.Walk.{Entries, joined, Entered, enter}
use Rattle.diagram.proofs.EntryPlaces.{joined_append}
use Rattle.diagram.proofs.EntriesGrow.{by_entering}
use Rattle.std.specs.Prelude.{Option, Some}
use Rattle.entering.specs.declared.finding.Found.TheVariants.{Equal}
use Rattle.entering.specs.Index.{Indexed, noted, NoneFound, Finding}
use Rattle.entering.specs.Laid.{IsEntry, AllEntries, Laid, NoRoom, Within, NewAtEnd, Settled, Settling, Stood, Standing}
use Rattle.entering.proofs.NumbersWritten.{rest_lent, rest_back, rest_kept}

-- a cleared diagram has no entries
pub none_laid : (d index : List ℕ) (n : ℕ) → d ≡ zeros n → header fields ≤ n → Indexed [] index → Laid [] d index (header fields)
none_laid d index n e h x =
    let k : length d ≡ n = ap length e ∙ length-replicate {A = ℕ} n 0 in
    let front = zeros (header fields) in
    let z : header fields + (n - length (front ++ [])) ≡ n =
    omega (arith, length-append front [], length-replicate {A = ℕ} (header fields) 0) in
    record {
      is =
          e
          ∙ sym (ap (λ l. l ++ zeros (n - length (front ++ []))) (append-nil front)
          ∙ replicate-append-replicate {A = ℕ} (header fields) (n - length (front ++ [])) 0
          ∙ ap zeros z)
          ∙ ap (padded (front ++ [])) (sym k);
      ends = omega arith;
      formed = tt;
      indexed = x;
    }

-- an entry takes places
entry_some : (e : List ℕ) → IsEntry e → 1 ≤ length e
unfolding terminal node
entry_some e i = ⊎_elim (λ w. omega (arith, ap length w.1)) (λ w. omega (arith, ap length w.3)) i

module _ (e : List ℕ) where
  -- an equal entry stands before the end, or the entry follows the last
  abbrev Either : ℕ → Entries → Entered → Type 0
  Either p xs r =
      ((r.entries ≡ xs) × (r.place < p + length (joined xs))) ⊎ ((r.entries ≡ xs ++ (e ∷ [])) × (r.place ≡ p + length (joined xs)))

  enter_either : (p : ℕ) (xs : Entries) → AllEntries xs → Either p xs (enter p xs e)
  enter_either =
      by_entering e (λ p xs r. AllEntries xs → Either p xs r)
      (λ p f. inr (refl, omega arith))
      (λ p x xs t f. inl (refl, omega (arith, entry_some x f.0, length-append x (joined xs))))
      (λ p x xs r t h f.
      ⊎_elim
      (λ w. inl (ap (λ es. x ∷ es) w.0, omega (arith, w.1, length-append x (joined xs))))
      (λ w. inr (ap (λ es. x ∷ es) w.0, omega (arith, w.1, length-append x (joined xs))))
      (h f.1))

module _ (es : Entries) (d index : List ℕ) (end : ℕ) (e : List ℕ) (l : Laid es d index end) where
  -- the entries with e entered, and its place
  abbrev pub entered : Entered
  entered = enter (header fields) es e

  was_there : entered.place < end → entered.entries ≡ es
  was_there h = ⊎_elim (λ w. w.0) (λ w. absurd (omega (arith, w.1, l.ends))) (enter_either e (header fields) es l.formed)

  pub follows : end ≤ entered.place → (entered.entries ≡ es ++ (e ∷ [])) × (entered.place ≡ end)
  follows h = ⊎_elim (λ w. absurd (omega (arith, w.1, l.ends))) (λ w. (w.0, w.1 ∙ l.ends)) (enter_either e (header fields) es l.formed)

  -- one more entry takes as many places more
  longer : header fields + length (joined (es ++ (e ∷ []))) ≡ end + length e
  longer =
      ap (λ x. header fields + length x) (joined_append es (e ∷ []))
      ∙ omega (arith, length-append (joined es) (e ++ []), ap length (append-nil e), l.ends)

  longer_entered : end ≤ entered.place → header fields + length (joined entered.entries) ≡ end + length e
  longer_entered h = ap (λ x. header fields + length (joined x)) (follows h).0 ∙ longer

  -- an equal entry was found
  pub found_settles : {place : ℕ} → Finding es index end e (Equal place) → place < end → Settled entered index end place
  found_settles f h =
      let stays : entered.entries ≡ es = was_there (omega (arith, f)) in
      record {
        ends = ap (λ x. header fields + length (joined x)) stays ∙ l.ends;
        at = f;
        indexed = subst (λ x. Indexed x index) (sym stays) l.indexed;
      }

  -- no equal entry was found
  module _ {slot : Option ℕ} (f : NoneFound es index end e slot) where
    -- there is no room
    pub none_fits : (n : ℕ) → min most_places n < end + length e → NoRoom entered n
    none_fits n m = omega (arith, longer_entered (omega (arith, f.is)))

    -- there is room: the entry is noted
    pub end_settles : {after : List ℕ} → after ≡ noted slot index end → Settled entered after (end + length e) end
    end_settles w =
        record {
          ends = longer_entered (omega (arith, f.is));
          at = f.is;
          indexed = rw ((follows (omega (arith, f.is))).0, w) f.noted;
        }

  -- the places before the end, and those after it
  abbrev front : List ℕ
  front = zeros (header fields) ++ joined es

  front_length : length front ≡ end
  front_length = length-append (zeros (header fields)) (joined es) ∙ omega (arith, length-replicate {A = ℕ} (header fields) 0, l.ends)

  before_end : take end d ≡ front
  before_end = ap (take end) l.is ∙ take_at front (zeros (length d - length front)) end front_length

  after_end : drop end d ≡ zeros (length d - length front)
  after_end = ap (drop end) l.is ∙ drop_at front (zeros (length d - length front)) end front_length

  formed_more : IsEntry e → (xs : Entries) → AllEntries xs → AllEntries (xs ++ (e ∷ []))
  formed_more i [] f = (i, tt)
  formed_more i (x ∷ xs) f = (f.0, formed_more i xs f.1)

  module _ (rest : List ℕ) (w : rest ≡ sets (mid_of end (length d - end) d) 0 e) (room : end + length e ≤ length d) where
    -- the diagram, once the entry is written after the last
    abbrev pub after_written : List ℕ
    after_written = put_mid end (length d - end) d rest

    same_places : length after_written ≡ length d
    same_places = rest_kept d rest end (omega arith) (ap length w ∙ length-sets (mid_of end (length d - end) d) 0 e)

    written : after_written ≡ padded (zeros (header fields) ++ joined (es ++ (e ∷ []))) (length d)
    written =
        let more : zeros (header fields) ++ joined (es ++ (e ∷ [])) ≡ front ++ e =
        ap (λ x. zeros (header fields) ++ x) (joined_append es (e ∷ []) ∙ ap (λ x. joined es ++ x) (append-nil e))
        ∙ sym (append_assoc (zeros (header fields)) (joined es) e) in
        let left : length d - length front - length e ≡ length d - length (front ++ e) = omega (arith, length-append front e) in
        rest_back d rest end (omega arith)
        ∙ ap (λ x. x ++ rest) before_end
        ∙ ap (λ x. front ++ x)
        (w ∙ ap (λ x. sets x 0 e) (rest_lent d end (omega arith) ∙ after_end)
        ∙ stored_padded e (length d - length front) (omega (arith, front_length)))
        ∙ sym (append_assoc front e (zeros (length d - length front - length e)))
        ∙ ap (λ k. (front ++ e) ++ zeros k) left
        ∙ ap (λ x. padded x (length d)) (sym more)

    laid_more : (after : List ℕ) → IsEntry e → Indexed (es ++ (e ∷ [])) after → Laid (es ++ (e ∷ [])) after_written after (end + length e)
    laid_more after i x = record {
      is = written ∙ ap (padded (zeros (header fields) ++ joined (es ++ (e ∷ [])))) (sym same_places);
      ends = longer;
      formed = formed_more i es l.formed;
      indexed = x;
    }

-- what is left in d once the entry e, which was looked for as the part of a slice, is written where it is to stand
module _ (es : Entries) (d index : List ℕ) (end : ℕ) (e : List ℕ) (l : Laid es d index end) (part : List ℕ) (same : part ≡ e) (after : List ℕ) (next place : ℕ) (s : Settled (enter (header fields) es part) after next place) where
  settled : Settled (enter (header fields) es e) after next place
  settled = subst (λ x. Settled (enter (header fields) es x) after next place) same s

  -- nothing is written where an equal entry stands
  nothing_written : place < end → Stood (enter (header fields) es e) d after next place
  nothing_written h =
      let stays : (enter (header fields) es e).entries ≡ es = was_there es d index end e l (omega (arith, settled.at)) in
      record {
        laid = record {
          is = subst (λ x. d ≡ padded (zeros (header fields) ++ joined x) (length d)) (sym stays) l.is;
          ends = settled.ends;
          formed = subst AllEntries (sym stays) l.formed;
          indexed = settled.indexed;
        };
        at = settled.at;
      }

  -- a new entry is written after the last
  one_written : IsEntry e → (place ≡ end) × (next ≡ end + length part) → next ≤ length d →
      (rest : List ℕ) → rest ≡ sets (mid_of end (length d - end) d) 0 e → Stood (enter (header fields) es e) (put_mid end (length d - end) d rest) after next place
  one_written i w room rest r =
      let z : next ≡ end + length e = w.1 ∙ ap (λ x. end + length x) same in
      let new : (enter (header fields) es e).entries ≡ es ++ (e ∷ []) = (follows es d index end e l (omega (arith, settled.at, w.0))).0 in
      record {
        laid = rw (new, z) (laid_more es d index end e l rest r (omega arith) after i (subst (λ y. Indexed y after) new settled.indexed));
        at = settled.at;
      }

-- The entry e was looked for, as the part of a slice, among those that stand in d.
pub record Sought (d index : List ℕ) (end : ℕ) (e after : List ℕ) (next place : ℕ) : Type 0 where
  pub entry : IsEntry e
  pub part : List ℕ
  pub same : part ≡ e
  pub within : Within (length d) next place
  pub new : NewAtEnd end (length part) next (Some place)
  pub settles : (es : Entries) → Laid es d index end → Settling (enter (header fields) es part) (length d) after next (Some place)

-- What a search for the entry leaves is what is known of it then, whether it is a terminal or a node.
pub sought : {d index : List ℕ} {end : ℕ} {e part after : List ℕ} {next place : ℕ} → IsEntry e → part ≡ e → Within (length d) next place →
    NewAtEnd end (length part) next (Some place) →
    ((es : Entries) → Laid es d index end → Settling (enter (header fields) es part) (length d) after next (Some place)) →
    Sought d index end e after next place
sought {part = part} i same within new settles =
    record { entry = i; part = part; same = same; within = within; new = new; settles = settles }

-- Entering an entry leaves `now`, whether it is a terminal or a node.
module _ {d index : List ℕ} {end : ℕ} {e after : List ℕ} {next place : ℕ} (s : Sought d index end e after next place) where
  abbrev Enters : List ℕ → Type 0
  Enters now = (es : Entries) → Laid es d index end → Standing (enter (header fields) es e) (length d) now after next (Some place)

  -- where an equal entry stands, the diagram is left as it is
  pub is_left : place < end → Enters d
  is_left h = λ es l. nothing_written es d index end e l s.part s.same after next place (s.settles es l) h

  -- else the entry is written into the rest of the diagram
  pub is_written : end ≤ place → {rest : List ℕ} → rest ≡ sets (mid_of end (length d - end) d) 0 e → Enters (put_mid end (length d - end) d rest)
  is_written h {rest} r =
      λ es l. one_written es d index end e l s.part s.same after next place (s.settles es l) s.entry (s.new h) s.within.0.1 rest r
