-- Laws of the descent from the root of a sound diagram, one for each way through the code.
use mathlib.Core.Path.{◌≡◌, refl, sym, ap, ◌∙◌, subst}
use mathlib.Core.Bool.{cond}
use mathlib.Core.Logic.{⊎_elim}
use mathlib.Core.List.{List, [], ◌∷◌}
use Prim.Native.Nat.{ℕ, ◌+◌, ◌*◌, ◌-◌, ◌≤◌, ◌<◌}
use native.Mathlib.Omega.{arith}
use native.Mathlib.Numerals.{add-one}
use borrow.Author.Tests.{ne_eqb}
use lib.ListN.{length, drop, length-drop, drop_of_length-le}
use lib.Seq.{drop-cons, length-take-le}
use Rattle.answer.specs.Fields.{fields}
use Rattle.answer.specs.Requests.{value, Within}
use Rattle.diagram.specs.Layout.{most_places, used, root, maximum, level_at, count_at, edges_at, size_at}
use Rattle.diagram.specs.LookUp.{ruling_at, child, look_up, ruled_by}
use Rattle.diagram.specs.Sound.{EntryBefore, next_level, SoundTerminal, SoundNode, Sound}
use Rattle.diagram.specs.Starts.{size_terminal, size_node, start_gap}
use Rattle.diagram.specs.Landed.{Landed}
use Rattle.diagram.proofs.ValueTakesARealEdge.{value_takes_a_real_edge}

-- the two steps of a look-up
look_up_none : (d : List ℕ) (p : ℕ) → look_up d p [] ≡ ruling_at d p
unfolding look_up
look_up_none d p = refl

look_up_more : (d : List ℕ) (p v : ℕ) (q : List ℕ) → look_up d p (v ∷ q) ≡ look_up d (child d p v) q
unfolding look_up
look_up_more d p v q = refl

-- what looking for the edge of value v at place p asks
abbrev pub EdgeAsked : List ℕ → ℕ → ℕ → Type 0
EdgeAsked d p v =
    ((p < most_places) × (p + 2 + 2 * edges_at d p ≤ length d)) × (SoundNode fields d p × (v ≤ maximum d (level_at d p - 1)))

-- f values are used up, at place p
pub record Down (d q : List ℕ) (p f : ℕ) : Type 0 where
  pub rest : look_up d p (drop f q) ≡ ruled_by d q
  pub entry : EntryBefore fields d (used d) (next_level fields f) p
  pub few : f ≤ fields

module _ (d : List ℕ) (s : Sound fields d) where
  -- an entry lies within the slice
  entry_within : (level p : ℕ) → EntryBefore fields d (used d) level p → p + size_at d p ≤ length d
  entry_within level p e = omega (arith, start_gap fields d p (used d) e.starts s.tiled e.earlier, s.used_there)

  pub terminal_within : (p : ℕ) → EntryBefore fields d (used d) 0 p → p + 3 + count_at d p ≤ length d
  terminal_within p e = omega (arith, entry_within 0 p e, size_terminal d p e.begins)

  -- the terminal there has as many cards as it says
  pub cards_counted : (p : ℕ) → EntryBefore fields d (used d) 0 p → length (ruling_at d p).cards ≡ count_at d p
  cards_counted p e = length-take-le (count_at d p) (drop (p + 3) d) (omega (arith, length-drop (p + 3) d, terminal_within p e))

  -- an entry of level 0 is a terminal, any other a node
  pub terminal_there : (p : ℕ) → EntryBefore fields d (used d) 0 p → SoundTerminal d p
  terminal_there p e =
      ⊎_elim
      (λ (t : SoundTerminal d p). t)
      (λ (n : SoundNode fields d p). absurd (omega (arith, n.from_one, e.begins)))
      (s.entries p e.starts e.earlier)

  pub node_there : (p level : ℕ) → EntryBefore fields d (used d) level p → 1 ≤ level → SoundNode fields d p
  node_there p level e l =
      ⊎_elim
      (λ (t : SoundTerminal d p). absurd (omega (arith, t.label, e.begins)))
      (λ (n : SoundNode fields d p). n)
      (s.entries p e.starts e.earlier)

  -- the entry where f values are used up, and a field follows
  module _ (p f : ℕ) (e : EntryBefore fields d (used d) (next_level fields f) p) (l : f < fields) where
    level_here : level_at d p ≡ f + 1
    level_here = e.begins ∙ ap (λ b. cond b 0 (f + 1)) (ne_eqb f fields (λ z. omega arith))

    pub node_here : SoundNode fields d p
    node_here = node_there p (f + 1) (record { starts = e.starts; earlier = e.earlier; begins = level_here }) (omega arith)

    pub node_whole_here : (p < most_places) × (p + 2 + 2 * edges_at d p ≤ length d)
    node_whole_here = (
      omega (arith, e.earlier, s.used_most),
      omega (arith, entry_within (next_level fields f) p e, size_node d p (λ z. omega (arith, level_here))),
    )

    pub maximum_here : maximum d (level_at d p - 1) ≡ maximum d f
    maximum_here = let z : level_at d p - 1 ≡ f = omega (arith, level_here) in ap (maximum d) z

    module _ (v : ℕ) (m : v ≤ maximum d f) where
      pub value_most : v ≤ maximum d (level_at d p - 1)
      value_most = omega (arith, maximum_here)

      pub edge_asked : EdgeAsked d p v
      edge_asked = (node_whole_here, (node_here, value_most))

      -- the child is an entry of the next level
      pub child_here : EntryBefore fields d (used d) (next_level fields (f + 1)) (child d p v)
      child_here =
          let r = (value_takes_a_real_edge fields d p v node_here value_most).entry in
          record {
            starts = r.starts;
            earlier = omega (arith, r.earlier, e.earlier);
            begins = r.begins ∙ ap (next_level fields) level_here;
          }

  module _ (q : List ℕ) (w : Within (maximum d) q) where
    pub down_none : (p : ℕ) → p ≡ root d → Down d q p 0
    down_none p e = subst (λ (n : ℕ). Down d q n 0) (sym e) (record { rest = refl; entry = s.root_entry; few = omega arith })

    pub down_more : (p f : ℕ) → Down d q p f → f < fields → f < length q → (v c : ℕ) → v ≡ value q f → c ≡ child d p v → Down d q c (f + 1)
    down_more p f a l g v c e i =
        let x : drop f q ≡ v ∷ drop (f + 1) q = rw (e, add-one) (drop-cons q f 0 g) in
        subst (λ (n : ℕ). Down d q n (f + 1)) (sym i)
        (record {
          rest = sym (ap (look_up d p) x ∙ look_up_more d p v (drop (f + 1) q)) ∙ a.rest;
          entry = child_here p f a.entry l v (omega (arith, w f l));
          few = omega arith;
        })

    pub landed : (p f : ℕ) → Down d q p f → fields ≤ f → length q ≡ fields → Landed d q p
    landed p f a h n =
        let e : f ≡ fields = omega (arith, a.few) in
        let x : drop f q ≡ [] = drop_of_length-le q {i = f} (omega arith) in
        let t : EntryBefore fields d (used d) 0 p = subst (λ (n : ℕ). EntryBefore fields d (used d) (next_level fields n) p) e a.entry in
        record {
          entry = t;
          early = omega (arith, t.earlier, s.used_most);
          within = terminal_within p t;
          one_of_four = (terminal_there p t).holds.one_of_four;
          ruling = sym (look_up_none d p) ∙ sym (ap (look_up d p) x) ∙ a.rest;
        }
