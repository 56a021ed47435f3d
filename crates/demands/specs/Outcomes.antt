-- What a case says of a call: the answer, and what the call was lent to write then holds.
use Rattle.std.specs.Prelude.{List, [], ◌∷◌, ◌≡◌, ℕ, ◌^◌}
use Rattle.answer.specs.declared.Answer.{Answer}
use Rattle.ruling.specs.Ruling.{ruling, ruled_list}
use Rattle.standard.specs.RulingStandard.{ruling_standard, ruled_list_standard}
use Rattle.attaching.specs.Attached.{attached, attached_table}
use Rattle.diagram.specs.LookedUp.{looked_up, looked_up_list}
use Rattle.building.specs.Built.{built, built_diagram}

-- "A question is one value for each field": the values of the fields after the first
abbrev pub other_values : ℕ → ℕ → List ℕ
other_values resource action = resource ∷ action ∷ []

-- a request of one subject
abbrev pub request : ℕ → ℕ → ℕ → List ℕ
request subject resource action = subject ∷ other_values resource action

-- "bit k stands for figure k": the set of subject k alone
abbrev pub only : ℕ → ℕ
only k = 2 ^ k

-- Table t gives the set s, asked with these values of the other fields and a list of n places, this answer, and the list then holds this.
abbrev pub GivesRuling : List ℕ → ℕ → List ℕ → ℕ → Answer → List ℕ → Type 0
GivesRuling t s others n a list = (ruling t s others n ≡ a) × (ruled_list t s others n ≡ list)

-- By the profile table t gives the set s this answer, and the list then holds this.
abbrev pub GivesStandard : List ℕ → ℕ → List ℕ → ℕ → Answer → List ℕ → Type 0
GivesStandard t s others n a list = (ruling_standard t s others n ≡ a) × (ruled_list_standard t s others n ≡ list)

-- Diagram d gives request q this answer, where the list has n places, and the list then holds this.
abbrev pub GivesLookUp : List ℕ → List ℕ → ℕ → Answer → List ℕ → Type 0
GivesLookUp d q n a list = (looked_up d q n ≡ a) × (looked_up_list d q n ≡ list)

-- Building from table t into n places gives this answer, and they then hold this.
abbrev pub GivesDiagram : List ℕ → ℕ → Answer → List ℕ → Type 0
GivesDiagram t n a d = (built t n ≡ a) × (built_diagram t n ≡ d)

-- Fitting expansion e to base b, in n bytes, gives this answer, and they then hold this.
abbrev pub GivesTable : List ℕ → List ℕ → ℕ → Answer → List ℕ → Type 0
GivesTable b e n a t = (attached b e n ≡ a) × (attached_table b e n ≡ t)

-- "two tables with equal diagrams": both are built in n places, which then hold the same
pub record EqualDiagrams (t u : List ℕ) (n : ℕ) : Type 0 where
  pub first_built : (built t n).number ≡ 0
  pub second_built : (built u n).number ≡ 0
  pub equal : built_diagram t n ≡ built_diagram u n
