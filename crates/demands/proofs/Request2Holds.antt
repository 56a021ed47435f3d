-- Request 2 is met, and its cases.
use mathlib.Core.Path.{◌≡◌, refl, ap, ◌∙◌}
use mathlib.Core.Bool.{Bool, true}
use mathlib.Core.List.{List, map}
use Prim.Native.Nat.{ℕ, ◌<◌}
use native.Mathlib.Omega.{arith}
use Rattle.combining.specs.Kinds.{only_one_applicable_kind}
use Rattle.combining.specs.Ways.{counting, sole, way}
use Rattle.encoding.specs.Layout.{count, kind}
use Rattle.table.specs.Reading.{Accepted}
use Rattle.ruling.specs.Forest.{children_of}
use Rattle.ruling.specs.Meaning.{child_of, decision}
use Rattle.ruling.proofs.DecisionByChildren.{decision_by_children}
use Rattle.ruling.proofs.Decisions.{gives_group}
use Rattle.demands.specs.Request2.{Request2, Request2Cases}
use Rattle.demands.proofs.Computing.{cases_compute}

only_one_lem : (t : List ℕ) (a : ℕ → Bool) (i : ℕ) → Accepted t → i < count t → kind t i ≡ only_one_applicable_kind → a i ≡ true →
    decision a t i ≡ sole (counting (map (λ j. child_of a j (decision a t j)) (children_of t i)))
only_one_lem t a i c l k e =
    let cs = map (λ j. child_of a j (decision a t j)) (children_of t i) in
    decision_by_children a t c i l ∙ gives_group a t i cs e (omega arith) ∙ ap (λ k. way k cs) k

pub request_2 : Request2
request_2 = record { only_one_worded = only_one_lem }

pub request_2_cases : Request2Cases
unfolding cases_compute
request_2_cases = record {
  silent_beside_permit = (refl, refl);
  one_silent = (refl, refl);
  two_silent = (refl, refl);
  two_silent_looked_up = (refl, refl);
  one_counts_for_0 = (refl, refl);
  one_counts_for_1 = (refl, refl);
  two_count_for_both = (refl, refl);
}
