-- From the walk of all fields in the lent diagram to what building answers and leaves there: one law for each way through the code.
use mathlib.Core.Path.{◌≡◌, refl, sym, ap, ◌∙◌, subst}
use mathlib.Core.Bool.{true}
use mathlib.Core.Logic.{inl, inr, ⊎_elim}
use mathlib.Core.List.{List, [], ◌∷◌, ◌++◌}
use Prim.Native.Nat.{ℕ, ◌+◌, ◌≤◌, ◌<◌, min}
use native.Mathlib.Omega.{arith}
use borrow.Author.Tests.{lt-ltb}
use lib.Dec.{ltb}
use lib.ListN.{length, replicate, length-append, length-replicate, get_or-replicate}
use lib.Seq.{sets}
use Rattle.answer.specs.Fields.{fields}
use Rattle.answer.specs.Answers.{refused, counted, zeros, padded}
use Rattle.answer.specs.declared.Answer.{Answer}
use Rattle.answer.proofs.Tests.{lt_or_ge}
use Rattle.sets.specs.Sets.{most, has, Has}
use Rattle.sets.specs.declared.Set.{Set}
use Rattle.encoding.specs.Layout.{count, maxima}
use Rattle.table.specs.Reading.{Accepted}
use Rattle.table.specs.WellFormed.{WellFormed}
use Rattle.encoding.proofs.Maxima.{maxima_length}
use Rattle.ruling.specs.Ruling.{groups}
use Rattle.applying.specs.Members.{ruling_from}
use Rattle.applying.specs.declared.Run.{Run}
use Rattle.applying.specs.Filled.{SetRows}
use Rattle.applying.proofs.NodesApplyByFields.{ruling_is}
use Rattle.diagram.specs.Layout.{header, most_places}
use Rattle.diagram.specs.Walk.{Entries, joined, walk, diagram}
use Rattle.diagram.proofs.DiagramGoesByRulingsWithin.{walk_goes_by_rulings_within}
use Rattle.diagram.proofs.WithinAsWalked.{within_length}
use Rattle.entering.specs.Index.{Indexed}
use Rattle.entering.specs.Laid.{NoRoom}
use Rattle.std.specs.Prelude.{Option, Some, None}
use Rattle.building.specs.declared.walking.Root.{Root}
use Rattle.entering.specs.Walking.{Held, Walks}
use Rattle.entering.proofs.LaidOut.{none_laid}
use Rattle.entering.proofs.WalkedBefore.{walks_from, walks_as, walks_new}
use Rattle.building.specs.Built.{diagram_of}
use Rattle.building.specs.Walked.{walk_by, Remembers, walk_all, AllWalked}
use Rattle.building.proofs.Remembered.{none_remembered}
use Rattle.building.proofs.BuildAnswers.{TooLarge, Settled, too_large_lem, fits}
use Rattle.building.proofs.Written.{head_of, over_zeros}

-- rows that are as long as they must be, one for each field, before any set is in them
pub no_sets : (row : List Run) → length row ≡ 256 → SetRows (replicate fields row)
no_sets row e =
    record {
      number = length-replicate {A = List Run} fields row;
      long = λ f l. ap length (get_or-replicate {A = List Run} fields f row [] l) ∙ e;
    }

-- Before the first field every node is possible.
module _ (t : List ℕ) (w : WellFormed t) (nodes : Set) (all : Has nodes (λ i. ltb i most)) where
  all_in : (i : ℕ) → i < count t → has nodes i ≡ true
  all_in i l = all i ∙ lt-ltb i most (omega (arith, w.few))

  -- where every node is possible, the walk is that of what the groups give
  walk_is : (es : Entries) → walk_by t 0 (has nodes) es ≡ walk_all t es
  walk_is es =
      walk_goes_by_rulings_within fields (maxima t) (ruling_from t 0 (has nodes)) (groups t) es
      (λ q v. ruling_is t q (has nodes) (within_length (maxima t) q v ∙ maxima_length t) all_in w)

  -- all fields were walked, in a cleared diagram of n places, from empty slots
  pub all_walked : (n slots : ℕ) (d index : List ℕ) {d' index' : List ℕ} {Right : Entries → Type 0} {end : ℕ} {place : Option ℕ} → d ≡ zeros n →
      header fields ≤ n → Indexed [] index →
      Walks (walk_by t 0 (has nodes)) (Held (Remembers t (replicate slots None)) d index (header fields)) Right n d' index' end place →
      Walks (walk_all t) (λ es. es ≡ []) (λ es. Unit {0}) n d' index' end place
  all_walked n slots d index zeroed l x walked =
      walks_new
      (walks_from (walks_as walked walk_is)
      (λ es e.
      subst (Held (Remembers t (replicate slots None)) d index (header fields)) (sym e)
      (none_laid d index n zeroed l x, none_remembered t [] slots)))
      (λ es p is at r. tt)

module _ (t : List ℕ) where
  -- the diagram is its header and the entries of the walk
  diagram_is :
      diagram_of t ≡ head_of (header fields + length (joined (walk_all t []).entries)) (walk_all t []).place t ++ joined (walk_all t []).entries
  unfolding diagram
  diagram_is =
      ap
      (λ k.
      let r = walk k (maxima t) (groups t) [] in
      (header k + length (joined r.entries)) ∷ r.place ∷ maxima t ++ joined r.entries)
      (maxima_length t)

  diagram_length : length (diagram_of t) ≡ header fields + length (joined (walk_all t []).entries)
  diagram_length = omega (arith, ap length diagram_is, length-append (maxima t) (joined (walk_all t []).entries), maxima_length t)

-- no room for so many entries
no_room : (t : List ℕ) (n : ℕ) → min most_places n < length (diagram_of t) → TooLarge t n
no_room t n l =
    ⊎_elim
    (λ (h : most_places < length (diagram_of t)). inl h)
    (λ (h : length (diagram_of t) ≤ most_places). inr (omega arith))
    (lt_or_ge most_places (length (diagram_of t)))

module _ (t : List ℕ) (n : ℕ) (r : Accepted t) where
  -- the header alone does not fit
  pub too_short : (a : Answer) (d : List ℕ) → n < header fields → a ≡ refused 11 0 → d ≡ zeros n → Settled t n a d
  too_short a d l e z = too_large_lem t n r a d (inr (omega (arith, diagram_length t))) e z

  -- all fields were walked, in a cleared diagram
  module _ {d : List ℕ} (zeroed : d ≡ zeros n) where
    places : length d ≡ n
    places = ap length zeroed ∙ length-replicate {A = ℕ} n 0

    -- there was no room
    pub walk_full : {d' : List ℕ} → AllWalked t (length d) d' None → (a : Answer) (e : List ℕ) → a ≡ refused 11 0 → e ≡ zeros n → Settled t n a e
    walk_full w a e ea z =
        let none : NoRoom (walk_all t []) (length d) = w.2.outcome [] refl in
        too_large_lem t n r a e (no_room t n (omega (arith, diagram_length t, places))) ea z

    -- the header is written before the entries
    pub walk_done : {d' : List ℕ} {root : Root} → AllWalked t (length d) d' (Some root) → (a : Answer) (e : List ℕ) → length d' ≡ length d → a ≡ counted root.end →
        e ≡ sets d' 0 (head_of root.end root.place t) → Settled t n a e
    walk_done {d'} {root} w a e same ea ee =
        let s = (w.1.outcome [] refl).0 in
        let ns = joined (walk_all t []).entries in
        let head = head_of root.end root.place t in
        let lh : header fields ≡ length head = omega (arith, maxima_length t) in
        let used : root.end ≡ length (diagram_of t) = omega (arith, s.laid.ends, diagram_length t) in
        let whole : head ++ ns ≡ diagram_of t =
        ap (λ k. head_of k root.place t ++ ns) (sym s.laid.ends)
        ∙ ap (λ k. head_of (header fields + length ns) k t ++ ns) s.at
        ∙ sym (diagram_is t) in
        fits t n r a e root.end (omega (arith, w.1.within.0.2), omega (arith, w.1.within.0.1, places)) used ea
        (ee
        ∙ ap (λ l. sets l 0 head) (s.laid.is ∙ ap (padded (zeros (header fields) ++ ns)) (same ∙ places))
        ∙ ap (λ k. sets (padded (zeros k ++ ns) n) 0 head) lh
        ∙ over_zeros head ns n
        ∙ ap (λ l. padded l n) whole)
