-- What two tables of one version have in common where they have bytes in common: the header, and nodes.
use mathlib.Core.Path.{◌≡◌, ap, ap₂, ◌∙◌}
use mathlib.Core.List.{List}
use Prim.Native.Nat.{ℕ, ◌+◌, ◌*◌, ◌≤◌, ◌<◌}
use native.Mathlib.Omega.{arith}
use Rattle.answer.specs.Fields.{fields}
use Rattle.encoding.specs.Layout.{byte, word, version, maximum, count_place, record_size, start, record_byte, record_word, span}
use Rattle.encoding.specs.SameNode.{SameNode}

-- The version and the maxima of table t are those of table u.
pub record SameHeader (t u : List ℕ) : Type 0 where
  pub versions : version t ≡ version u
  pub maxima : (f : ℕ) → f < fields → maximum t f ≡ maximum u f

-- Node i of table t is node j of table u, and has its span too.
pub record SameRecord (t : List ℕ) (i : ℕ) (u : List ℕ) (j : ℕ) : Type 0 where
  pub node : SameNode t i u j
  pub spans : span t i ≡ span u j

-- from one table to the next

pub header_on : {t u w : List ℕ} → SameHeader t u → SameHeader u w → SameHeader t w
header_on a b = record { versions = a.versions ∙ b.versions; maxima = λ f l. a.maxima f l ∙ b.maxima f l }

module _ {t : List ℕ} {i : ℕ} {u : List ℕ} {j : ℕ} {w : List ℕ} {k : ℕ} where
  pub node_on : SameNode t i u j → SameNode u j w k → SameNode t i w k
  node_on a b = record {
    kinds = a.kinds ∙ b.kinds;
    cards = a.cards ∙ b.cards;
    lows = λ f l. a.lows f l ∙ b.lows f l;
    highs = λ f l. a.highs f l ∙ b.highs f l;
  }

  pub record_on : SameRecord t i u j → SameRecord u j w k → SameRecord t i w k
  record_on a b = record { node = node_on a.node b.node; spans = a.spans ∙ b.spans }

-- the bytes from the version up to the count
pub same_header : (t u : List ℕ) → ((p : ℕ) → 2 ≤ p → p < count_place u → byte t p ≡ byte u p) → SameHeader t u
unfolding count_place maximum
same_header t u h = record { versions = h 2 (omega arith) (omega arith); maxima = λ f l. h (3 + f) (omega arith) (omega arith) }

module _ (t : List ℕ) (i : ℕ) (u : List ℕ) (j : ℕ) where
  -- a number of two bytes
  same_word : (k : ℕ) → record_byte t i k ≡ record_byte u j k → record_byte t i (k + 1) ≡ record_byte u j (k + 1) → record_word t i k ≡ record_word u j k
  unfolding word record_byte record_word
  same_word k p q =
      let y : start t i + k + 1 ≡ start t i + (k + 1) = omega arith in
      let z : start u j + (k + 1) ≡ start u j + k + 1 = omega arith in
      ap₂ (λ a b. a * 256 + b) p (ap (byte t) y ∙ q ∙ ap (byte u) z)

  -- the bytes of a record, but for its span
  module _ (v : version t ≡ version u) where
    pub same_node : ((k : ℕ) → k < record_size u → (k ≡ 1 → ⊥) → (k ≡ 2 → ⊥) → record_byte t i k ≡ record_byte u j k) → SameNode t i u j
    unfolding record_size
    same_node h = record {
      kinds = h 0 (omega arith) (λ z. omega arith) (λ z. omega arith);
      cards =
          same_word 3 (h 3 (omega arith) (λ z. omega arith) (λ z. omega arith)) (h (3 + 1) (omega arith) (λ z. omega arith) (λ z. omega arith));
      lows = λ f l. h (5 + 2 * f) (omega arith) (λ z. omega arith) (λ z. omega arith);
      highs = λ f l. h (5 + 2 * f + 1) (omega arith) (λ z. omega arith) (λ z. omega arith);
    }

    -- and all of them
    pub same_record : ((k : ℕ) → k < record_size u → record_byte t i k ≡ record_byte u j k) → SameRecord t i u j
    unfolding record_size
    same_record h = record {
      node = same_node (λ k l x y. h k l);
      spans = same_word 1 (h 1 (omega arith)) (h (1 + 1) (omega arith));
    }
