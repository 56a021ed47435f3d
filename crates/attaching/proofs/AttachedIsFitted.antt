-- What attaching writes, where the expansion can be fitted to the base, and what it means: the table is accepted, it is the base with the expansion
-- fitted to it, and so are its tree and what its groups give.
use mathlib.Core.Path.{◌≡◌, refl, sym}
use mathlib.Core.Bool.{true, false}
use mathlib.Core.List.{List, [], ◌∷◌, ◌++◌}
use Prim.Native.Nat.{ℕ, suc, ◌+◌, ◌≤◌, ◌<◌}
use lib.ListN.{length}
use Rattle.answer.specs.Answers.{counted, padded}
use Rattle.combining.specs.Ways.{not_applicable}
use Rattle.encoding.specs.Layout.{count}
use Rattle.table.specs.Tree.{parent, level}
use Rattle.table.specs.Reading.{Accepted}
use Rattle.table.specs.WellFormed.{WellFormed}
use Rattle.table.proofs.AcceptedIsWellFormed.{well_formed}
use Rattle.ruling.specs.Forest.{children_of}
use Rattle.targets.specs.Targets.{target_holds, applies}
use Rattle.targets.specs.Subjects.{most_subjects, member, applies_to_some}
use Rattle.ruling.specs.Ruling.{groups, groups_together}
use Rattle.attaching.specs.Attached.{attached_bytes, Attaches, attached, attached_table}
use Rattle.attaching.specs.Fitted.{Fitted}
use Rattle.attaching.specs.Meaning.{meaning_with, groups_with, groups_together_with}
use Rattle.attaching.proofs.BytesFitted.{bytes_fitted}
use Rattle.attaching.proofs.FitFaults.{versions_same, none_fit}
use Rattle.attaching.proofs.FittedIsAccepted.{fitted_accepted}
use Rattle.attaching.proofs.AttachAnswers.{written}
use Rattle.attaching.proofs.Trees as trees
use Rattle.attaching.proofs.GroupsFitted as rulings

module _ (b e : List ℕ) (a : Attaches b e) where
  abbrev t : List ℕ
  t = attached_bytes b e

  v : WellFormed b
  v = well_formed b a.base

  w : WellFormed e
  w = well_formed e a.expansion

  pub attached_fitted : Fitted t b e
  attached_fitted = bytes_fitted b e v w (versions_same b e a.fit.1.0)

  pub attached_written : (n : ℕ) → length t ≤ n → (attached b e n ≡ counted (length t)) × (attached_table b e n ≡ padded t n)
  attached_written n l =
      let h = written b e n a.base a.expansion a.fit (length t) refl (counted (length t)) (padded t n) l refl refl in (sym h.0, sym h.1)

  pub attached_accepted : Accepted t
  attached_accepted = fitted_accepted t b e a.base a.expansion attached_fitted (none_fit b e v w a.fit)

  pub attached_last_child : children_of t 0 ≡ children_of b 0 ++ (count b ∷ [])
  attached_last_child = trees.last_child t b e v w attached_fitted

  pub attached_parents :
      ((i : ℕ) → i < count b → parent t i ≡ parent b i)
      × (parent t (count b) ≡ 0)
      × ((i : ℕ) → 0 < i → i < count e → parent t (count b + i) ≡ count b + parent e i)
  attached_parents = (
    trees.parent_base t b e v w attached_fitted,
    trees.parent_attached t b e v w attached_fitted,
    trees.parent_expansion t b e v w attached_fitted,
  )

  pub attached_levels : ((i : ℕ) → i < count b → level t i ≡ level b i) × ((i : ℕ) → i < count e → level t (count b + i) ≡ suc (level e i))
  attached_levels = (trees.level_base t b e v w attached_fitted, trees.level_expansion t b e v w attached_fitted)

  pub attached_rules : (q : List ℕ) → groups t q ≡ groups_with b e q
  attached_rules = rulings.groups_fitted t b e attached_accepted a.base a.expansion attached_fitted

  pub attached_rules_together : (s : ℕ) (others : List ℕ) → groups_together t s others ≡ groups_together_with b e s others
  attached_rules_together = rulings.together_fitted t b e attached_accepted a.base a.expansion attached_fitted

  pub attached_holds : (q : List ℕ) → target_holds b q 0 ≡ true → groups t q ≡ meaning_with (applies b q) (applies e q) b e
  attached_holds = rulings.groups_holding t b e attached_accepted a.base a.expansion attached_fitted

  pub attached_holds_together : (s : ℕ) (others : List ℕ) →
      ((k : ℕ) → k < most_subjects → member s k ≡ true → target_holds b (k ∷ others) 0 ≡ true) →
      groups_together t s others ≡ meaning_with (applies_to_some b s others) (applies_to_some e s others) b e
  attached_holds_together = rulings.together_holding t b e attached_accepted a.base a.expansion attached_fitted

  pub attached_fails : (q : List ℕ) → target_holds b q 0 ≡ false → groups t q ≡ record { decision = not_applicable; cards = [] }
  attached_fails = rulings.groups_failing t b e attached_accepted a.base a.expansion attached_fitted

  pub attached_fails_together : (s : ℕ) (others : List ℕ) →
      ((k : ℕ) → k < most_subjects → member s k ≡ true → target_holds b (k ∷ others) 0 ≡ false) →
      groups_together t s others ≡ record { decision = not_applicable; cards = [] }
  attached_fails_together = rulings.together_failing t b e attached_accepted a.base a.expansion attached_fitted
