-- Demand 2 holds, and its cases.
use mathlib.Core.Path.{refl}
use mathlib.Core.List.{List}
use Prim.Native.Nat.{ℕ}
use Rattle.encoding.specs.Layout.{maximum}
use Rattle.table.specs.Reading.{table_refusals, Accepted}
use Rattle.targets.specs.Subjects.{applies_to_some, size, AskedWithin}
use Rattle.ruling.specs.Ruling.{groups_together, ruling, ruled_list}
use Rattle.ruling.proofs.ChildrenByParents.{children_by_parents}
use Rattle.ruling.proofs.DecisionByChildren.{decision_by_children}
use Rattle.ruling.proofs.CardsOfMatchingRules.{each_listed, number_of_cards}
use Rattle.ruling.proofs.WithinTogether.{within_answered, ruled_exactly}
use Rattle.demands.specs.Words.{LongEnough, Rules}
use Rattle.demands.specs.Demand2.{Demand2, Demand2Cases}
use Rattle.demands.proofs.Computing.{cases_compute}

pub question : (t : List ℕ) (s : ℕ) (others : List ℕ) (n : ℕ) → Accepted t → AskedWithin (maximum t) s others →
    LongEnough (groups_together t s others) n →
    Rules (ruling t s others n) (ruled_list t s others n) (groups_together t s others) (size s) n
question t s others n c w l =
    let h = within_answered t s others n (table_refusals t) c w l in
    record { answer = h.0; cards = h.1 }

pub demand_2 : Demand2
demand_2 = record {
  question_ruled = question;
  question_accepted = λ t s others n. ruled_exactly t s others n (table_refusals t);
  children_worded = λ t i c l. children_by_parents t c i l;
  children_asked = λ t s others i c l. decision_by_children (applies_to_some t s others) t c i l;
  cards_in_order = λ t s others i l e. each_listed (applies_to_some t s others) t i l e;
  true_count = λ t s others. number_of_cards (applies_to_some t s others) t;
}

pub demand_2_cases : Demand2Cases
unfolding cases_compute
demand_2_cases = record {
  t_bytes = refl;
  t_0_0_0 = (refl, refl);
  t_1_1_1 = (refl, refl);
  t_2_0_1 = (refl, refl);
  t_2_0_0 = (refl, refl);
  t_root_kind_2 = (refl, refl);
  t_root_kind_1 = (refl, refl);
  root_kind_3_over_only_one = (refl, refl);
  root_kind_2_over_only_one = (refl, refl);
}
