-- Request 5 is met.
use mathlib.Core.Path.{sym, ap, ◌∙◌}
use mathlib.Core.List.{◌++◌}
use borrow.Author.Tests.{leb-false}
use Rattle.encoding.specs.Layout.{kind}
use Rattle.ruling.specs.Ruling.{ruling_refusals}
use Rattle.ruling.proofs.NeverIndeterminate.{decision_clear, running_clear, running_ends, ruling_clear}
use Rattle.standard.specs.RulingStandard.{ruling_standard_refusals}
use Rattle.diagram.specs.LookedUp.{looked_up}
use Rattle.building.proofs.BuiltAnswersAsGroups.{built_clear}
use Rattle.demands.specs.Request5.{Request5}
use Rattle.demands.proofs.Demand3Holds.{walked}

pub request_5 : Request5
request_5 = record {
  never_indeterminate = λ t a. decision_clear a t;
  running_never_indeterminate = λ t a. running_clear a t;
  running_ends = λ t a i h g. running_ends a t i h (leb-false 4 (kind t i) g);
  ruling_never_indeterminate =
      λ t e s others n. (ruling_clear (ruling_refusals t s others n) t s others e, ruling_clear (ruling_standard_refusals t s others n) t s others e);
  diagram_never_indeterminate =
      λ t e room b following q n l h.
      built_clear t following q n l e (sym (ap (λ d. (looked_up (d ++ following) q n).decision) (walked t room b)) ∙ h);
}
