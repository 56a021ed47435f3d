-- The diagram of one ruling for every request, over any list of maxima, as of document 01's case "An empty root: none everywhere; 20 places, root at 16".
-- Assumes nothing: these are definitions.
use Rattle.std.specs.Prelude.{List, [], ◌∷◌, ◌++◌, ℕ, ◌+◌, ◌-◌, length}
use Rattle.answer.specs.Rulings.{Ruling}
use Rattle.diagram.specs.Layout.{header}
use Rattle.diagram.specs.Entries.{terminal, node}
use Rattle.diagram.specs.Walk.{joined, Entered}

-- the terminal of ruling r, and over it a node with one edge for each of the last fields of k, with the maxima ms; the place is that of the last of them
unfoldable pub one_edge_each : ℕ → Ruling → List ℕ → Entered
one_edge_each k r [] = record { entries = terminal r ∷ []; place = header k }
one_edge_each k r (m ∷ ms) =
    let x = one_edge_each k r ms in
    record {
      entries = x.entries ++ (node (k - length ms) (record { last = m; child = x.place } ∷ []) ∷ []);
      place = header k + length (joined x.entries);
    }

-- "places used, place of the root, the three maxima. Entries follow": all of it, within the maxima ms
unfoldable pub one_ruling : List ℕ → Ruling → List ℕ
one_ruling ms r =
    let x = one_edge_each (length ms) r ms in
    (header (length ms) + length (joined x.entries)) ∷ x.place ∷ ms ++ joined x.entries
