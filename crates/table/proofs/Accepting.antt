-- Refusals 1 to 8 in their order, by the header and by each node; what an accepted table passes; what a reading tells a caller.
use mathlib.Core.Path.{◌≡◌, refl, ap, ◌∙◌, sym}
use mathlib.Core.Bool.{false}
use mathlib.Core.List.{List}
use Prim.Native.Nat.{ℕ, ◌<◌}
use native.Mathlib.Omega.{arith}
use lib.Dec.{lit<}
use Rattle.answer.specs.Answers.{refused, counted}
use Rattle.answer.specs.Numbers.{number_of}
use Rattle.answer.specs.Refusals.{Refusal, upward, first_number, All, None, First}
use Rattle.answer.specs.declared.Answer.{Answer}
use Rattle.answer.specs.declared.refusal.Refusal.{Refusal as Name}
use Rattle.answer.proofs.Numbers.{number_positive}
use Rattle.answer.proofs.Settling.{all_join, all_parts, all_upward, upward_all, all_first, first_in, first_after, first_upward, settled_first, settled_none, Numbered, number_none, number_first}
use Rattle.encoding.specs.Layout.{version, count}
use Rattle.table.specs.Reading.{header_refusals, node_refusals, table_refusals, reading, Accepted}
use Rattle.table.proofs.Header.{version_passed}

module _ (t : List ℕ) where
  -- the header passes, and so does each node
  pub passed_accepted : None (header_refusals t) → ((i : ℕ) → i < count t → None (node_refusals t i)) → Accepted t
  unfolding table_refusals
  passed_accepted h n =
      all_join (λ r. r.when ≡ false) (header_refusals t) (upward (node_refusals t) 0 (count t)) h
      (all_upward (λ r. r.when ≡ false) (node_refusals t) (count t) 0 (λ i l m. n i (omega arith)))

  parts : Accepted t → None (header_refusals t) × None (upward (node_refusals t) 0 (count t))
  unfolding table_refusals
  parts c = all_parts (λ r. r.when ≡ false) (header_refusals t) (upward (node_refusals t) 0 (count t)) c

  pub accepted_header : Accepted t → None (header_refusals t)
  accepted_header c = (parts c).0

  pub accepted_node : Accepted t → (i : ℕ) → i < count t → None (node_refusals t i)
  accepted_node c i l = upward_all (λ r. r.when ≡ false) (node_refusals t) (count t) 0 (parts c).1 i (omega arith) (omega arith)

  -- one version is accepted
  pub accepted_version : Accepted t → version t ≡ 1
  accepted_version c = version_passed t (accepted_header c).1.0

  -- where no refusal is found in the header, or of a node, nothing is refused there

  header_numbered : Numbered (header_refusals t)
  header_numbered = (lit< tt, (lit< tt, (lit< tt, tt)))

  node_numbered : (i : ℕ) → Numbered (node_refusals t i)
  node_numbered i = (lit< tt, (lit< tt, (lit< tt, (lit< tt, (lit< tt, tt)))))

  passed_there : (rs : List Refusal) → Numbered rs → 0 ≡ first_number rs → None rs
  passed_there rs numbered e = number_none (λ number place. number) (λ n. n) (λ number place. refl) 0 refl rs numbered (sym e)

  pub header_passed : 0 ≡ first_number (header_refusals t) → None (header_refusals t)
  header_passed = passed_there (header_refusals t) header_numbered

  pub node_passed : (i : ℕ) → 0 ≡ first_number (node_refusals t i) → None (node_refusals t i)
  node_passed i = passed_there (node_refusals t i) (node_numbered i)

  -- one that is found is the table's first
  module _ (refusal : Name) where
    refused_there : (rs : List Refusal) (place : ℕ) → All (λ r. r.place ≡ place) rs → number_of refusal ≡ first_number rs →
        ((r : Refusal) → First rs r → First (table_refusals t) r) → refused (number_of refusal) place ≡ reading t
    refused_there rs place at e among =
        let f = number_first (λ number place. number) (λ n. n) (λ number place. refl) 0 refl rs (number_of refusal) e
        (λ z. omega (arith, z, number_positive refusal)) in
        ap (λ k. refused k place) f.1.1
        ∙ ap (refused f.0.number) (sym (all_first (λ r. r.place ≡ place) rs at f.1.0))
        ∙ sym (settled_first refused (counted (count t)) (table_refusals t) (among f.0 f.1.0))

    pub header_refused : number_of refusal ≡ first_number (header_refusals t) → refused (number_of refusal) 0 ≡ reading t
    unfolding table_refusals
    header_refused e =
        refused_there (header_refusals t) 0 (refl, (refl, (refl, tt))) e
        (λ r f. first_in (header_refusals t) (upward (node_refusals t) 0 (count t)) f)

    pub node_refused : None (header_refusals t) → (i : ℕ) → i < count t → ((j : ℕ) → j < i → None (node_refusals t j)) →
        number_of refusal ≡ first_number (node_refusals t i) → refused (number_of refusal) i ≡ reading t
    unfolding table_refusals
    node_refused p i l before e =
        refused_there (node_refusals t i) i (refl, (refl, (refl, (refl, (refl, tt))))) e
        (λ r f.
        first_after (header_refusals t) (upward (node_refusals t) 0 (count t)) p
        (first_upward (node_refusals t) i f (count t) 0 (omega arith) (omega arith) (λ j a b. before j b)))

  -- an accepted table is read, and no other
  pub accepted_reading : Accepted t → reading t ≡ counted (count t)
  accepted_reading c = settled_none refused (counted (count t)) (table_refusals t) c

  pub table_numbered : Numbered (table_refusals t)
  unfolding table_refusals
  table_numbered =
      all_join (λ r. 0 < r.number) (header_refusals t) (upward (node_refusals t) 0 (count t)) header_numbered
      (all_upward (λ r. 0 < r.number) (node_refusals t) (count t) 0 (λ i l m. node_numbered i))

  -- what a caller of `read` learns
  module _ (a : Answer) (e : a ≡ reading t) where
    pub read_accepted : a.number ≡ 0 → Accepted t
    read_accepted z =
        number_none refused (λ x. x.number) (λ number place. refl) (counted (count t)) refl (table_refusals t) table_numbered
        (sym (ap (λ x. x.number) e) ∙ z)

    pub read_refused : (a.number ≡ 0 → ⊥) → (r : Refusal) × (First (table_refusals t) r × (a ≡ refused r.number r.place))
    read_refused h = number_first refused (λ x. x.number) (λ number place. refl) (counted (count t)) refl (table_refusals t) a e h

  -- what a caller of `read_conformance` learns

  pub found_accepted : {number : ℕ} → number ≡ (reading t).number → number ≡ 0 → Accepted t
  found_accepted en z = read_accepted (reading t) refl (sym en ∙ z)

  pub counted_accepted : counted (count t) ≡ reading t → Accepted t
  counted_accepted e = read_accepted (counted (count t)) e refl
