-- What a walk starts from and leaves in the lent diagram, whatever it walks and whatever is remembered of earlier walks (for the contracts inside).
-- Assumes nothing: these are definitions.
use Rattle.std.specs.Prelude.{List, ◌≡◌, ℕ, get_or, Option, Some, None}
use Rattle.answer.specs.Fields.{fields}
use Rattle.answer.specs.Rulings.{Ruling}
use Rattle.diagram.specs.Walk.{Entries, Entered, walk}
use Rattle.entering.specs.Laid.{Laid, Within, NoRoom, Stood}

-- among the entries es the walk over the maxima ms adds nothing, and what it gives stands at place p
abbrev pub Stays : List ℕ → (List ℕ → Ruling) → Entries → ℕ → Type 0
Stays ms f es p = walk fields ms f es ≡ record { entries = es; place = p }

-- what is remembered is right about the entries es: of slot s, which holds x, `Right s x es` says so; `none` stands for what is past the last slot
abbrev pub Remembered : {A : Type 0} → A → (ℕ → A → Entries → Type 0) → List A → Entries → Type 0
Remembered none Right slots es = (s : ℕ) → Right s (get_or slots s none) es

-- the entries es are laid, and what is remembered is right about them
abbrev pub Held : (Entries → Type 0) → List ℕ → List ℕ → ℕ → Entries → Type 0
Held Right d index end es = Laid es d index end × Right es

-- what a walk leaves: of n places there was room, or not, and then what stands in the diagram and the index, and what is remembered, is free
abbrev pub Leaving : (Entries → Type 0) → Entered → ℕ → List ℕ → List ℕ → ℕ → Option ℕ → Type 0
Leaving Right x n d index end None = NoRoom x n
Leaving Right x n d index end (Some place) = Stood x d index end place × Right x.entries

-- where there was room, the end and the place are within n places
abbrev pub EndsWithin : ℕ → ℕ → Option ℕ → Type 0
EndsWithin n end None = Unit {0}
EndsWithin n end (Some place) = Within n end place

-- A walk in n places, from entries as given.
pub record Walks (walked : Entries → Entered) (Given Right : Entries → Type 0) (n : ℕ) (d index : List ℕ) (end : ℕ) (place : Option ℕ) : Type 0 where
  pub within : EndsWithin n end place
  pub outcome : (es : Entries) → Given es → Leaving Right (walked es) n d index end place
