-- What the groups of a table give, as document 01 words it under "How a table rules".
-- Everything here goes by which nodes apply, a test of node numbers: for a request that is `applies` of Targets, for several subjects that
-- ask together `applies_to_some` of Subjects.
-- Assumes nothing: these are definitions.
use Rattle.std.specs.Prelude.{Bool, cond, ◌&&◌, List, [], ◌∷◌, ℕ, zero, suc, ◌+◌, eqb, take}
use Rattle.answer.specs.Below.{count_below}
use Rattle.answer.specs.Rulings.{Ruling}
use Rattle.combining.specs.Kinds.{permit_rule_kind}
use Rattle.combining.specs.Ways.{not_applicable, permit, deny, Child, as_child, absent, way, taken}
use Rattle.encoding.specs.Layout.{count, kind, card}
use Rattle.table.specs.Tree.{is_rule}
use Rattle.ruling.specs.Forest.{Forest, empty, node, under}

-- "4 may, 5 may not": a rule's effect, by its kind
abbrev pub effect : ℕ → ℕ
effect kind = cond (eqb kind permit_rule_kind) permit deny

-- "A matching rule gives its effect, any other rule none. A group whose target fails gives none. Otherwise a group asks its children":
-- the decision of node i, of its children
unfoldable pub gives : (ℕ → Bool) → List ℕ → ℕ → List Child → ℕ
gives a t i cs = cond (a i) (cond (is_rule t i) (effect (kind t i)) (way (kind t i) cs)) not_applicable

-- paper 2, "a group child counts when its target holds, though no card in it matches. A rule child counts when it matches.", "For a party, a child
-- counts when it holds for the party.": node i as a child, where it gives d
abbrev pub child_of : (ℕ → Bool) → ℕ → ℕ → Child
child_of a i d = as_child d (a i)

-- "a child that is a group asks its own in turn": nodes on one level as children, in order
abbrev pub children : (ℕ → Bool) → List ℕ → Forest → List Child
children a t empty = []
children a t (node i below after) = child_of a i (gives a t i (children a t below)) ∷ children a t after

-- the decision of node i
abbrev pub decision : (ℕ → Bool) → List ℕ → ℕ → ℕ
decision a t i = gives a t i (children a t (under t i))

-- "A running decision starts at none and takes in one child after another": that of group i, with the first n of its children taken in
abbrev pub running_decision : (ℕ → Bool) → List ℕ → ℕ → ℕ → ℕ
running_decision a t i n = (taken (kind t i) absent (take n (children a t (under t i)))).decision

-- "A rule matches when its own target and every target above it hold."
abbrev pub matches : (ℕ → Bool) → List ℕ → ℕ → Bool
matches a t i = is_rule t i && a i

-- "all matching rules, in table order, once for each rule": their cards, of the n nodes from i upward
unfoldable pub cards_from : (ℕ → Bool) → List ℕ → ℕ → ℕ → List ℕ
cards_from a t i zero = []
cards_from a t i (suc n) = cond (matches a t i) (card t i ∷ cards_from a t (i + 1) n) (cards_from a t (i + 1) n)

-- "The cards of a ruling are those of all matching rules, in table order, once for each rule. Groups don't thin this list."
abbrev pub cards : (ℕ → Bool) → List ℕ → List ℕ
cards a t = cards_from a t 0 (count t)

-- "as count, the number of matching rules": of those among the nodes below n
abbrev pub matching : (ℕ → Bool) → List ℕ → ℕ → ℕ
matching a t n = count_below n (matches a t)

-- the ruling of a table: the root's decision, and the cards
abbrev pub meaning : (ℕ → Bool) → List ℕ → Ruling
meaning a t = record { decision = decision a t 0; cards = cards a t }
