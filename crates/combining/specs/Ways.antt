-- How a group combines its children, as document 01 words it under "How a table rules": over the list of these, in order.
-- Assumes nothing: these are definitions.
use Rattle.std.specs.Prelude.{Bool, false, cond, ◌||◌, List, [], ◌∷◌, ◌≡◌, ℕ, eqb, get_or}
use Rattle.combining.specs.Kinds.{first_applicable_kind, only_one_applicable_kind, permit_overrides_kind, deny_overrides_kind}

-- "The four decisions are 0 none, [..] (NotApplicable, [..])"
abbrev pub not_applicable : ℕ
not_applicable = 0

-- "1 may" (Permit)
abbrev pub permit : ℕ
permit = 1

-- "2 not" (Deny)
abbrev pub deny : ℕ
deny = 2

-- "3 unclear" (Indeterminate)
abbrev pub indeterminate : ℕ
indeterminate = 3

-- A child of a group: its decision, and whether it counts under "only one".
pub record Child : Type 0 where
  pub decision : ℕ
  pub counts : Bool

-- a decision as a child, which counts or not
abbrev pub as_child : ℕ → Bool → Child
as_child d counts = record { decision = d; counts = counts }

-- none, and it does not count
abbrev pub absent : Child
absent = as_child not_applicable false

-- the decisions of children
abbrev pub decisions : List Child → List ℕ
decisions [] = []
decisions (c ∷ cs) = c.decision ∷ decisions cs

-- the decisions of those that count
abbrev pub counting : List Child → List ℕ
counting [] = []
counting (c ∷ cs) = cond c.counts (c.decision ∷ counting cs) (counting cs)

-- "child decision that isn't none": all of these, in order
abbrev pub applicable : List ℕ → List ℕ
applicable [] = []
applicable (d ∷ ds) = cond (eqb d not_applicable) (applicable ds) (d ∷ applicable ds)

-- "First: the first child decision that isn't none."
abbrev pub first_applicable : List ℕ → ℕ
first_applicable ds = get_or (applicable ds) 0 not_applicable

-- paper 2, "None counted gives none, two or more give unclear, one gives its own decision."
abbrev pub sole : List ℕ → ℕ
sole [] = not_applicable
sole (d ∷ []) = d
sole (d ∷ e ∷ ds) = indeterminate

-- "Only one", as paper 2 words it: by the children that count, and by nothing else of the others
abbrev pub only_one_applicable : List Child → ℕ
only_one_applicable cs = sole (counting cs)

-- "if any child gives": some decision passes the test
abbrev pub any : (ℕ → Bool) → List ℕ → Bool
any f [] = false
any f (d ∷ ds) = f d || any f ds

-- "May beats: may if any child gives may; else not if any gives not; else unclear if any gives unclear; else none."
abbrev pub permit_overrides : List ℕ → ℕ
permit_overrides ds =
    cond (any (eqb permit) ds) permit
    (cond (any (eqb deny) ds) deny
    (cond (any (eqb indeterminate) ds) indeterminate
    not_applicable))

-- "May not beats: not if any child gives not or unclear; else may if any gives may; else none."
abbrev pub deny_overrides : List ℕ → ℕ
deny_overrides ds =
    cond (any (λ d. eqb deny d || eqb indeterminate d) ds) deny
    (cond (any (eqb permit) ds) permit
    not_applicable)

-- "Kinds 0 to 3 are groups: 0 first, 1 only one, 2 may beats, 3 may not beats." Asked of these kinds alone.
abbrev pub way : ℕ → List Child → ℕ
way k cs =
    cond (eqb k first_applicable_kind) (first_applicable (decisions cs))
    (cond (eqb k only_one_applicable_kind) (only_one_applicable cs)
    (cond (eqb k permit_overrides_kind) (permit_overrides (decisions cs))
    (deny_overrides (decisions cs))))

-- "A running decision starts at none and takes in one child after another"; paper 2, "Beside the running decision a group now keeps whether a
-- child has counted": the two as a child, with one child more
abbrev pub step : ℕ → Child → Child → Child
step k r c = as_child (way k (r ∷ c ∷ [])) (r.counts || c.counts)

-- with all children of a list, one after another
abbrev pub taken : ℕ → Child → List Child → Child
taken k r [] = r
taken k r (c ∷ cs) = taken k (step k r c) cs

-- paper 5, of a "may not beats" group, "such a group never gives unclear, [..] its running decision never is unclear": a decision d of a group of
-- kind k
abbrev pub NeverIndeterminate : ℕ → ℕ → Type 0
NeverIndeterminate k d = k ≡ deny_overrides_kind → d ≡ indeterminate → ⊥
