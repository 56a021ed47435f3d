-- Request 5, "The panel never drawn": "Show that such a group never gives unclear, for questions and parties alike, and that its running decision never
-- is unclear", of "may not beats".
use Rattle.std.specs.Prelude.{Bool, true, false, List, ◌++◌, ◌≡◌, ℕ, length}
use Rattle.answer.specs.Fields.{fields}
use Rattle.combining.specs.Kinds.{deny_overrides_kind}
use Rattle.combining.specs.Ways.{indeterminate}
use Rattle.encoding.specs.Layout.{kind}
use Rattle.table.specs.Tree.{is_rule}
use Rattle.ruling.specs.Forest.{under}
use Rattle.ruling.specs.Meaning.{children, decision, running_decision}
use Rattle.ruling.specs.Ruling.{ruling}
use Rattle.standard.specs.RulingStandard.{ruling_standard}
use Rattle.diagram.specs.LookedUp.{looked_up}
use Rattle.demands.specs.Words.{Builds, used_part}

pub record Request5 : Type 0 where
  -- at any node, for any test of which nodes apply, as a question's and a party's are
  pub never_indeterminate : (t : List ℕ) (a : ℕ → Bool) (i : ℕ) → kind t i ≡ deny_overrides_kind → decision a t i ≡ indeterminate → ⊥
  -- with any number of its children taken in; with all of them it is what the group gives
  pub running_never_indeterminate : (t : List ℕ) (a : ℕ → Bool) (i n : ℕ) → kind t i ≡ deny_overrides_kind → running_decision a t i n ≡ indeterminate → ⊥
  pub running_ends : (t : List ℕ) (a : ℕ → Bool) (i : ℕ) → a i ≡ true → is_rule t i ≡ false →
      running_decision a t i (length (children a t (under t i))) ≡ decision a t i
  -- "rulebooks whose root is 'may not beats'": whatever is asked of such a table, by the profile or not, or of a diagram built from it, no answer is
  -- unclear
  pub ruling_never_indeterminate : (t : List ℕ) → kind t 0 ≡ deny_overrides_kind → (s : ℕ) (others : List ℕ) (n : ℕ) →
      ((ruling t s others n).decision ≡ indeterminate → ⊥) × ((ruling_standard t s others n).decision ≡ indeterminate → ⊥)
  pub diagram_never_indeterminate : (t : List ℕ) → kind t 0 ≡ deny_overrides_kind → (room : ℕ) → Builds t room → (following q : List ℕ) (n : ℕ) →
      length q ≡ fields → (looked_up (used_part t room ++ following) q n).decision ≡ indeterminate → ⊥
