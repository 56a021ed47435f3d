-- Refusals 1 to 8 and then 14 to 16: what a table of the profile passes, and what the profile's answer of an accepted table tells.
use mathlib.Core.Path.{◌≡◌, refl, sym, ap, ◌∙◌}
use mathlib.Core.Bool.{false}
use mathlib.Core.List.{List, [], ◌∷◌, ◌++◌}
use Prim.Native.Nat.{ℕ, ◌<◌}
use native.Mathlib.Omega.{arith}
use lib.Dec.{lit<}
use Rattle.answer.specs.Answers.{refused, counted}
use Rattle.answer.specs.Refusals.{Refusal, row, upward, None, First}
use Rattle.answer.specs.Numbers.{number_of}
use Rattle.answer.specs.declared.refusal.Refused.{Refused}
use Rattle.answer.proofs.Numbers.{number_positive}
use Rattle.answer.proofs.Settling.{all_join, all_parts, all_upward, upward_all, first_in, settled_first, settled_none, settled_after, Numbered, number_none, number_first}
use Rattle.encoding.specs.Layout.{count}
use Rattle.table.specs.Reading.{table_refusals, reading, Accepted}
use Rattle.table.proofs.Accepting.{read_refused, table_numbered}
use Rattle.standard.specs.Profile.{at_node, mixed_group, rule_in_only_one, rule_as_root, profile_refusals, standard_refusals, Standard, profiled, reading_standard}

module _ (t : List ℕ) where
  -- 14, 15 and 16

  abbrev pub mixed : List Refusal
  mixed = upward (at_node 14 (mixed_group t)) 0 (count t)

  abbrev pub in_only_one : List Refusal
  in_only_one = upward (at_node 15 (rule_in_only_one t)) 0 (count t)

  abbrev pub root : List Refusal
  root = row 16 0 (rule_as_root t) ∷ []

  parts : Standard t → Accepted t × None (profile_refusals t)
  parts = all_parts (λ r. r.when ≡ false) (table_refusals t) (profile_refusals t)

  -- "Whatever they accept the plain ones accept too"
  pub standard_accepted : Standard t → Accepted t
  standard_accepted s = (parts s).0

  -- none of 14, 15 and 16 applies
  profile_parts : Standard t → None mixed × None in_only_one × None root
  unfolding profile_refusals
  profile_parts s =
      let p = all_parts (λ r. r.when ≡ false) (mixed ++ in_only_one) root (parts s).1 in
      let q = all_parts (λ r. r.when ≡ false) mixed in_only_one p.0 in
      (q.0, q.1, p.1)

  module _ (s : Standard t) (i : ℕ) (l : i < count t) where
    pub not_mixed : mixed_group t i ≡ false
    not_mixed = (upward_all (λ r. r.when ≡ false) (at_node 14 (mixed_group t)) (count t) 0 (profile_parts s).0 i (omega arith) (omega arith)).0

    pub no_rule_in_only_one : rule_in_only_one t i ≡ false
    no_rule_in_only_one = (upward_all (λ r. r.when ≡ false) (at_node 15 (rule_in_only_one t)) (count t) 0 (profile_parts s).1 i (omega arith) (omega arith)).0

  pub no_rule_as_root : Standard t → rule_as_root t ≡ false
  no_rule_as_root s = (profile_parts s).2.0

  -- a table that is refused without the profile is so by it
  pub standard_refused : (r : Refused) → refused (number_of r.refusal) r.place ≡ reading t → refused (number_of r.refusal) r.place ≡ reading_standard t
  standard_refused r e =
      let f = read_refused t (refused (number_of r.refusal) r.place) e (λ z. omega (arith, z, number_positive r.refusal)) in
      f.1.1 ∙ sym (settled_first refused (counted (count t)) (standard_refusals t) (first_in (table_refusals t) (profile_refusals t) f.1.0))

  -- of one that is accepted the profile is asked
  pub standard_after : Accepted t → profiled t ≡ reading_standard t
  standard_after c = sym (settled_after refused (counted (count t)) (table_refusals t) (profile_refusals t) c)

  profile_numbered : Numbered (profile_refusals t)
  unfolding profile_refusals
  profile_numbered =
      all_join (λ r. 0 < r.number) (mixed ++ in_only_one) root
      (all_join (λ r. 0 < r.number) mixed in_only_one
      (all_upward (λ r. 0 < r.number) (at_node 14 (mixed_group t)) (count t) 0 (λ i a b. (lit< tt, tt)))
      (all_upward (λ r. 0 < r.number) (at_node 15 (rule_in_only_one t)) (count t) 0 (λ i a b. (lit< tt, tt))))
      (lit< tt, tt)

  -- the count, where it refuses nothing
  pub standard_counted : Standard t → counted (count t) ≡ reading_standard t
  standard_counted s = sym (settled_none refused (counted (count t)) (standard_refusals t) s)

  standard_numbered : Numbered (standard_refusals t)
  standard_numbered = all_join (λ r. 0 < r.number) (table_refusals t) (profile_refusals t) (table_numbered t) profile_numbered

  -- and where the count is read, it refused nothing
  pub counted_standard : counted (count t) ≡ reading_standard t → Standard t
  counted_standard e =
      number_none refused (λ a. a.number) (λ number place. refl) (counted (count t)) refl (standard_refusals t) standard_numbered
      (sym (ap (λ a. a.number) e))

  -- what is read of a table that is refused is its first refusal
  pub refused_standard : (r : Refused) → refused (number_of r.refusal) r.place ≡ reading_standard t →
      (first : Refusal) × (First (standard_refusals t) first × (refused (number_of r.refusal) r.place ≡ refused first.number first.place))
  refused_standard r e =
      number_first refused (λ a. a.number) (λ number place. refl) (counted (count t)) refl (standard_refusals t) (refused (number_of r.refusal) r.place) e
      (λ z. omega (arith, z, number_positive r.refusal))
