-- The walk of a level's values in the lent diagram: what holds before a value, from the first to the last.
use mathlib.Core.Path.{◌≡◌, refl, sym, ap, ◌∙◌, subst}
use mathlib.Core.List.{List, []}
use Prim.Native.Nat.{ℕ, suc, ◌+◌, ◌≤◌}
use native.Mathlib.Omega.{arith}
use native.Mathlib.Numerals.{add-one}
use lib.ListN.{length, get_or, set}
use lib.Seq.{get_or-set_same, get_or-set_other}
use Rattle.std.specs.Prelude.{Option, Some, None}
use Rattle.answer.specs.Fields.{fields}
use Rattle.answer.specs.Rulings.{Ruling}
use Rattle.diagram.specs.Layout.{header}
use Rattle.diagram.specs.Entries.{terminal, node}
use Rattle.diagram.specs.Walk.{Entries, Entered, enter, extend, Open, below, given, walk}
use Rattle.diagram.proofs.EntriesGrow.{enter_begins}
use Rattle.diagram.proofs.DiagramGoesByRulingsWithin.{Alike}
use Rattle.entering.specs.declared.edges.Edges.{Edges}
use Rattle.entering.specs.Edges.{edges_in, edges_of, no_edges, EdgesKept}
use Rattle.entering.specs.Laid.{Laid, Room, NoRoom, Bounded, Standing}
use Rattle.entering.specs.Walking.{Held, Leaving, EndsWithin, Walks}
use Rattle.entering.proofs.WalkedBefore.{Grows}
use Rattle.entering.proofs.Levels.{Level, walk_level, under_value, opened, opened_run, walk_level_lem, value_places}

-- edges that are as they were are kept
pub kept_itself : (field : ℕ) (rows : List Edges) → EdgesKept field rows rows
kept_itself field rows = record { above = λ f i. refl }

-- edges of which a field's own were written over are kept
pub kept_set : (field : ℕ) {before now : List Edges} (own : Edges) → EdgesKept field before now → EdgesKept field before (set now field own)
kept_set field {before} {now} own kept = record { above = λ f i. get_or-set_other now field f own no_edges (λ e. omega arith) ∙ kept.above f i }

-- edges kept by the values before, and by what was walked under a value
pub kept_on : (field : ℕ) {before now later : List Edges} → EdgesKept field before now → EdgesKept (field + 1) now later → EdgesKept field before later
kept_on field a b = record { above = λ f i. b.above f (omega arith) ∙ a.above f i }

-- What holds before value v of a level, in n places: the values below v are walked, from entries as given to the diagram d up to `at`.
pub record Before (level : Level) (Given Right : Entries → Type 0) (n : ℕ) (rows₀ : List Edges) (d index : List ℕ) (rows : List Edges)
    (at v : ℕ) : Type 0 where
  pub deep : level.field + 1 + length level.later ≡ fields
  pub few : (get_or rows level.field no_edges).count ≤ v
  pub reached : v ≤ suc level.most
  pub room : Room (length d) at
  pub same_length : length d ≡ n
  pub kept : EdgesKept level.field rows₀ rows
  pub held : (es : Entries) → Given es → Held Right d index at (opened level es v).entries
  pub open_edges : (es : Entries) → Given es → edges_of (get_or rows level.field no_edges) ≡ (opened level es v).edges

-- before the first value: no edge is open
pub before_first : {level : Level} {Given Right : Entries → Type 0} {d index : List ℕ} {start : ℕ} {rows : List Edges} (own : Edges) →
    level.field + 1 + length level.later ≡ fields → Room (length d) start → length rows ≡ fields → own.count ≡ 0 →
    ((es : Entries) → Given es → Held Right d index start es) → Before level Given Right (length d) rows d index (set rows level.field own) start 0
unfolding below
before_first {level} {rows} own deep room long none held =
    let is : get_or (set rows level.field own) level.field no_edges ≡ own = get_or-set_same rows level.field own no_edges (omega arith) in
    record {
      deep = deep;
      few = omega (arith, ap (λ (o : Edges). o.count) is);
      reached = omega arith;
      room = room;
      same_length = refl;
      kept = kept_set level.field own (kept_itself level.field rows);
      held = held;
      open_edges = λ es g. ap edges_of is ∙ ap (edges_in own.last own.child) none;
    }

within_of : (d index : List ℕ) (end : ℕ) (d' index' : List ℕ) (end' : ℕ) (place : Option ℕ) → Bounded d index end d' index' end' place →
    EndsWithin (length d) end' place
within_of d index end d' index' end' None b = tt
within_of d index end d' index' end' (Some p) b = b

-- A walk that enters the entry e after what it entered before, and so ends.
walks_entry : (walked : Entries → Entered) (earlier : Entries → Entries) {Given Right : Entries → Type 0} (e : List ℕ) {d index d' index' : List ℕ}
    {at : ℕ} {end : ℕ} {place : Option ℕ} → Grows Right → ((es : Entries) → Given es → Held Right d index at (earlier es)) →
    ((es : Entries) → Given es → walked es ≡ enter (header fields) (earlier es) e) → Bounded d index at d' index' end place →
    ((es : Entries) → Laid es d index at → Standing (enter (header fields) es e) (length d) d' index' end place) →
    Walks walked Given Right (length d) d' index' end place
walks_entry walked earlier {Given} {Right} e {d} {index} {d'} {index'} {at} {end} {place} grows held is bounds stands =
    record {
      within = within_of d index at d' index' end place bounds;
      outcome = λ es g.
          subst (λ x. Leaving Right x (length d) d' index' end place) (sym (is es g))
          (by (earlier es) (held es g).1 place (stands (earlier es) (held es g).0));
    }
  where
    by : (xs : Entries) → Right xs → (r : Option ℕ) → Standing (enter (header fields) xs e) (length d) d' index' end r →
        Leaving Right (enter (header fields) xs e) (length d) d' index' end r
    by xs r None s = s
    by xs r (Some t) s = (s, grows xs (enter (header fields) xs e).entries (enter_begins e (header fields) xs) r)

-- after the last field
pub walks_terminal : (f : List ℕ → Ruling) {Right : Entries → Type 0} {d index d' index' : List ℕ} {start : ℕ} {end : ℕ} {place : Option ℕ} →
    Grows Right → Bounded d index start d' index' end place →
    ((es : Entries) → Laid es d index start → Standing (enter (header fields) es (terminal (f []))) (length d) d' index' end place) →
    Walks (walk fields [] f) (Held Right d index start) Right (length d) d' index' end place
unfolding walk
walks_terminal f grows bounds stands = walks_entry (walk fields [] f) (λ es. es) (terminal (f [])) grows (λ es g. g) (λ es g. refl) bounds stands

module _ {level : Level} {Given Right : Entries → Type 0} {n : ℕ} {rows₀ : List Edges} {d index : List ℕ} {rows : List Edges}
    {at v : ℕ} (b : Before level Given Right n rows₀ d index rows at v) where
  -- the entries once the values below v are walked
  abbrev entries_at : Entries → Entries
  entries_at es = (opened level es v).entries

  -- all under value v
  abbrev under_it : Entries → Entered
  under_it es = under_value level v (entries_at es)

  -- what is left once value v was walked, as of the values below it
  value_leaves : {Right' : Entries → Type 0} {d' index' : List ℕ} {end : ℕ} (place : Option ℕ) →
      Walks (under_value level v) (Held Right d index at) Right' (length d) d' index' end place →
      (es : Entries) → Given es → Leaving Right' (under_it es) n d' index' end place
  value_leaves {Right'} {d'} {index'} {end} place w es g =
      subst (λ k. Leaving Right' (under_it es) k d' index' end place) b.same_length (w.outcome (entries_at es) (b.held es g))

  -- there was no room for what is under value v
  pub value_full : {Right' : Entries → Type 0} {d' index' : List ℕ} {end : ℕ} →
      Walks (under_value level v) (Held Right d index at) Right' (length d) d' index' end None → v ≤ level.most →
      Walks (walk_level level) Given Right' n d' index' end None
  value_full w more =
      record {
        within = tt;
        outcome = λ es g.
            let none : NoRoom (under_it es) n = value_leaves None w es g in
            omega (arith, value_places level es b.deep v more);
      }

  -- what is under a value stands, and with all values of its run is among the open edges
  pub value_next : {Right' : Entries → Type 0} {d' index' : List ℕ} {end place : ℕ} →
      Walks (under_value level v) (Held Right d index at) Right' (length d) d' index' end (Some place) → v ≤ level.most →
      {Right'' : Entries → Type 0} (until : ℕ) → v ≤ until →
      ((u : ℕ) → v ≤ u → u ≤ until → (u ≤ level.most) × Alike level.later (given level.rulings u) (given level.rulings v)) →
      length d' ≡ length d → {rows₁ : List Edges} → EdgesKept (level.field + 1) rows rows₁ → length rows₁ ≡ fields → (own : Edges) →
      own.count ≤ (get_or rows₁ level.field no_edges).count + 1 →
      edges_of own ≡ extend (edges_of (get_or rows₁ level.field no_edges)) until place →
      ((xs : Entries) → place ≡ (under_value level v xs).place → Right' (under_value level v xs).entries → Right'' (under_value level v xs).entries) →
      Before level Given Right'' n rows₀ d' index' (set rows₁ level.field own) end (until + 1)
  value_next {Right'} {d'} {index'} {end} {place} w more {Right''} until far alike same {rows₁} kept long own few e next =
      let field = level.field in
      let left : (es : Entries) → Given es → Leaving Right' (under_it es) n d' index' end (Some place) = value_leaves (Some place) w in
      let is : get_or (set rows₁ field own) field no_edges ≡ own = get_or-set_same rows₁ field own no_edges (omega (arith, b.deep)) in
      let before : get_or rows₁ field no_edges ≡ get_or rows field no_edges = kept.above field (omega arith) in
      let opens : (es : Entries) →
      opened level es (until + 1) ≡ record { entries = (under_it es).entries; edges = extend (opened level es v).edges until (under_it es).place } =
      λ es. ap (opened level es) (add-one until) ∙ opened_run level es v until far (λ u g k. (alike u g k).1) in
      record {
        deep = b.deep;
        few = omega (arith, b.few, ap (λ (o : Edges). o.count) is, ap (λ (o : Edges). o.count) before);
        reached = omega (arith, (alike until far (omega arith)).0);
        room = subst (λ k. Room k end) (sym same) w.within.0;
        same_length = same ∙ b.same_length;
        kept = kept_set field own (kept_on field b.kept kept);
        held = λ es g.
            subst (λ (o : Open). Held Right'' d' index' end o.entries) (sym (opens es))
            ((left es g).0.laid, next (entries_at es) (left es g).0.at (left es g).1);
        open_edges = λ es g.
            let o = opened level es v in
            ap edges_of is
            ∙ e
            ∙ ap (λ x. extend x until place) (ap edges_of before ∙ b.open_edges es g)
            ∙ ap (extend o.edges until) (left es g).0.at
            ∙ sym (ap (λ (x : Open). x.edges) (opens es));
      }

  -- all values are walked, and the node is entered
  pub values_done : v ≡ suc level.most → {Right' : Entries → Type 0} → ((es : Entries) → Right es → Right' es) → Grows Right' →
      {d' index' : List ℕ} {end : ℕ} {place : Option ℕ} → Bounded d index at d' index' end place →
      ((es : Entries) → Laid es d index at →
      Standing (enter (header fields) es (node (level.field + 1) (edges_of (get_or rows level.field no_edges)))) (length d) d' index' end place) →
      Walks (walk_level level) Given Right' n d' index' end place
  values_done e {Right'} less grows {d'} {index'} {end} {place} bounds stands =
      subst (λ k. Walks (walk_level level) Given Right' k d' index' end place) b.same_length
      (walks_entry (walk_level level) entries_at (node (level.field + 1) (edges_of (get_or rows level.field no_edges))) grows
      (λ es g. ((b.held es g).0, less (entries_at es) (b.held es g).1))
      (λ es g.
      walk_level_lem level es b.deep v e
      ∙ ap (λ y. enter (header fields) (entries_at es) (node (level.field + 1) y)) (sym (b.open_edges es g)))
      bounds stands)
