-- "Fitting an expansion", as paper 6 of document 02 words it: the bytes of the new table, the refusals in their order, and by them the answer and what
-- the lent bytes then hold, for every base, every expansion and every room.
-- Assumes nothing: these are definitions.
use Rattle.std.specs.Prelude.{Bool, not, ◌||◌, List, [], ◌∷◌, ◌++◌, ℕ, ◌+◌, ◌-◌, eqb, ltb, length, drop}
use Rattle.answer.specs.Below.{some_below}
use Rattle.answer.specs.Fields.{fields}
use Rattle.answer.specs.Answers.{refused, counted}
use Rattle.answer.specs.Refusals.{Refusal, row, settled, None}
use Rattle.answer.specs.Rulings.{listed_or}
use Rattle.answer.specs.declared.Answer.{Answer}
use Rattle.encoding.specs.Layout.{version, maximum, count, header}
use Rattle.table.specs.Tree.{is_rule, has_level}
use Rattle.table.specs.Reading.{table_refusals, Accepted}
use Rattle.encoding.specs.Writing.{with_bytes_after, with_count, with_span}

-- "From a base table and an expansion table write one table, with the expansion's root as the last child of the base root": the base's bytes, and then
-- the expansion's nodes, which are the bytes after its header
abbrev pub joined : List ℕ → List ℕ → List ℕ
joined b e = b ++ drop (header e) e

-- how many nodes the two have
abbrev pub nodes : List ℕ → List ℕ → ℕ
nodes b e = count b + count e

-- "count, root span and length follow, all other bytes are copied"
unfoldable pub attached_bytes : List ℕ → List ℕ → List ℕ
attached_bytes b e = with_span (with_count (with_bytes_after (joined b e) (length (joined b e) - 2)) (nodes b e)) 0 (nodes b e)

-- 18: "versions or maxima differ"
unfoldable pub headers_differ : List ℕ → List ℕ → Bool
headers_differ b e = not (eqb (version b) (version e)) || some_below fields (λ f. not (eqb (maximum b f) (maximum e f)))

-- 19: "the result has over 128 nodes or a ninth level"
unfoldable pub too_large : List ℕ → List ℕ → Bool
too_large b e = ltb 128 (count (attached_bytes b e)) || has_level (attached_bytes b e) 9

-- "17 when the base root is a rule, 18 when versions or maxima differ, 19 when the result has over 128 nodes or a ninth level, in this order"
abbrev pub fit_refusals : List ℕ → List ℕ → List Refusal
fit_refusals b e = row 17 0 (is_rule b 0) ∷ row 18 0 (headers_differ b e) ∷ row 19 0 (too_large b e) ∷ []

-- The expansion can be fitted to the base: both are accepted, and none of 17 to 19 applies.
pub record Attaches (b e : List ℕ) : Type 0 where
  pub base : Accepted b
  pub expansion : Accepted e
  pub fit : None (fit_refusals b e)

-- "11 is also returned where the lent output is too short": of n bytes
abbrev pub bytes_refusal : List ℕ → List ℕ → ℕ → Refusal
bytes_refusal b e n = row 11 0 (ltb n (length (attached_bytes b e)))

-- "after both tables' own faults, the base first", and 11 "last of all"
abbrev pub attach_refusals : List ℕ → List ℕ → ℕ → List Refusal
attach_refusals b e n = table_refusals b ++ (table_refusals e ++ (fit_refusals b e ++ (bytes_refusal b e n ∷ [])))

-- "The answer counts the bytes written"
abbrev pub attached : List ℕ → List ℕ → ℕ → Answer
attached b e n = settled refused (counted (length (attached_bytes b e))) (attach_refusals b e n)

-- what the lent bytes then hold: "lent bytes past them become 0", "refused output is zeros"
abbrev pub attached_table : List ℕ → List ℕ → ℕ → List ℕ
attached_table b e n = listed_or (attach_refusals b e n) (attached_bytes b e) n
