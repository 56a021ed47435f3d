-- `diagram::layout::edges_of` meets its contract: a pair holds an edge's two numbers.
use Rattle.std.proofs.Common.{◌≡◌, ℕ, zero, suc, ◌+◌, ◌*◌, ◌/◌, ◌<◌, ◌≤◌, List, [], ◌∷◌, length, get_or, take, drop, refl, ap, ◌∙◌, arith}
use Rattle.std.proofs.lemmas.List.{drop_more, drop-drop, get_or-take, get_or-drop, length-take, length-drop}
use Rattle.std.specs.Simd.{first_chunks}
use Rattle.diagram.specs.Layout.{edges_at, edge_at}
use Rattle.diagram.proofs.layout.edges_of.Goals as goal

-- pair j of a list begins at twice j
pair_at : (k : ℕ) (xs : List ℕ) (j : ℕ) → j < k → get_or (first_chunks 2 k xs) j [] ≡ take 2 (drop (2 * j) xs)
pair_at zero xs j h = absurd (omega arith)
pair_at (suc k) xs zero h = refl
pair_at (suc k) xs (suc j) h =
    let e : 2 + 2 * j ≡ 2 * suc j = omega arith in
    pair_at k (drop 2 xs) j (omega arith) ∙ ap (take 2) (drop-drop (2 * j) 2 xs ∙ ap (λ n. drop n xs) e)

-- the two numbers from place m on
two_at : (xs : List ℕ) (m : ℕ) → m + 1 < length xs → take 2 (drop m xs) ≡ get_or xs m 0 ∷ get_or xs (m + 1) 0 ∷ []
two_at xs m h = ap (take 2) (drop_more xs m 0 (omega arith) ∙ ap (λ t. get_or xs m 0 ∷ t) (drop_more xs (m + 1) 0 h))

-- of the numbers from place f on
number_here : (d : List ℕ) (f m i j : ℕ) → i < m → f + i ≡ j → get_or (take m (drop f d)) i 0 ≡ get_or d j 0
number_here d f m i j h e = get_or-take m (drop f d) i 0 h ∙ get_or-drop f d i 0 ∙ ap (λ n. get_or d n 0) e

pair_here : (d : List ℕ) (p k f m j : ℕ) → f ≡ p + 2 → p + 2 + 2 * k ≤ length d → m ≡ 2 * k → j < k →
    get_or (first_chunks 2 (length (take m (drop f d)) / 2) (take m (drop f d))) j [] ≡ edge_at d p j
pair_here d p k f m j ef within e h =
    let xs = take m (drop f d) in
    let n : length xs ≡ 2 * k = omega (arith, length-take m (drop f d), length-drop f d) in
    let last : get_or xs (2 * j) 0 ≡ get_or d (p + 2 + 2 * j) 0 = number_here d f m (2 * j) (p + 2 + 2 * j) (omega arith) (omega arith) in
    let child : get_or xs (2 * j + 1) 0 ≡ get_or d (p + 3 + 2 * j) 0 = number_here d f m (2 * j + 1) (p + 3 + 2 * j) (omega arith) (omega arith) in
    pair_at (length xs / 2) xs j (omega arith) ∙ two_at xs (2 * j) (omega arith) ∙ ap (λ n. n ∷ get_or xs (2 * j + 1) 0 ∷ []) last
    ∙ ap (λ n. get_or d (p + 2 + 2 * j) 0 ∷ n ∷ []) child

pub returns-clause-each : goal.returns-clause-each
returns-clause-each c = λ j h.
    rw c.as_chunks.ensures.front
    (pair_here c.args.diagram.now c.args.place (edges_at c.args.diagram.now c.args.place) _ _ j (omega arith) c.requires.within (omega arith) h)
