-- `ruling::groups::rule_match` meets its contract.
use mathlib.Core.Path.{refl, ap, ◌∙◌}
use lib.ListN.{set}
use Rattle.ruling.proofs.groups.rule_match.Goals as goal

pub returns : goal.returns
returns c = record {
  decision_value = (c.effect_of.ensures, refl);
  cards_after = c.put.ensures ∙ ap (set c.args.cards.now c.args.count) c.card_at.ensures.0;
}
