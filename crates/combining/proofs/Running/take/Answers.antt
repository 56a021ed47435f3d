-- `combining::Running::take` meets its contract: the table's entry is the step, which the group's way gives of it alone.
use mathlib.Core.Path.{◌≡◌, refl, sym, ap, ap₂, ◌∙◌}
use mathlib.Core.List.{List, [], ◌∷◌}
use Prim.Native.Nat.{ℕ}
use lib.ListN.{get_or}
use Rattle.combining.specs.Ways.{Child, as_child, way, step}
use Rattle.combining.specs.Running.{so_far, Takes, Taken}
use Rattle.combining.specs.Table.{row_of, Combines}
use Rattle.combining.specs.declared.Running.{Running}
use Rattle.combining.proofs.Fold.{pair, step_below}
use Rattle.combining.proofs.NeverIndeterminate.{way_clear}
use Rattle.combining.proofs.Running.take.Goals as goal

-- a group of the same kind whose running decision is a step further has taken the child in
stepped : (r : Running) (c : Child) → Takes r c → (next : Running) → next.kind ≡ r.kind → so_far next ≡ step r.kind (so_far r) c → Taken r c next
stepped r c t next ek e =
    let h = t.reachable in
    let ed : next.decision ≡ (step r.kind (so_far r) c).decision = ap (λ x. x.decision) e in
    record {
      same_kind = ek;
      combined = e;
      reachable = record {
        group = rw ek h.group;
        one_of_four = rw ed (step_below r.kind (so_far r) c h.group h.one_of_four t.one_of_four);
        never_indeterminate = rw (ek, ed) (way_clear r.kind (so_far r ∷ c ∷ []));
        alone = ap₂ (λ k x. way k (x ∷ [])) ek e ∙ pair [] r.kind (so_far r) c h.group h.one_of_four t.one_of_four ∙ sym ed;
      };
    }

-- the table's entry at the row of a running decision and a child that it can take in
entry_is_step : (ways : List (List ℕ)) (r : Running) (c : Child) (row d : ℕ) → row ≡ row_of r.kind r.decision r.counted c.counts → d ≡ c.decision →
    Combines ways → Takes r c → get_or (get_or ways row []) d 0 ≡ (step r.kind (so_far r) c).decision
entry_is_step ways r c row d e ed h t = ap₂ (λ row d. get_or (get_or ways row []) d 0) e ed ∙ h.each r c t

pub returns : goal.returns
returns c =
    let self = c.args.self in
    let child = as_child c.args.decision c.args.counts in
    stepped self child c.requires _ refl
    (ap₂ as_child (entry_is_step c.args.ways.now.rows self child c.row_of-row.result c.from.result c.row_of-row.ensures.0 c.from.ensures c.args.ways.now.combines c.requires) search)
