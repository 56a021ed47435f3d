-- Refusals, as document 01 lists and orders them: those of a call are one list, in their order, whatever the call hands back.
-- Assumes nothing: these are definitions.
use Rattle.std.specs.Prelude.{Bool, true, false, cond, ◌⊎◌, List, [], ◌∷◌, ◌++◌, ◌≡◌, ℕ, zero, suc, ◌+◌}

-- "Number, place | When": a refusal, and whether its condition holds
pub record Refusal : Type 0 where
  pub number : ℕ
  pub place : ℕ
  pub when : Bool

-- a row of document 01's table
abbrev pub row : ℕ → ℕ → Bool → Refusal
row number place when = record { number = number; place = place; when = when }

-- "nodes upward", "first such field": the rows of the k numbers from i upward, one number after another
unfoldable pub upward : (ℕ → List Refusal) → ℕ → ℕ → List Refusal
upward rows i zero = []
upward rows i (suc k) = rows i ++ upward rows (i + 1) k

-- "Each is returned where its condition holds and none earlier in this order does": what the first such refusal gives, else the success
unfoldable pub settled : {A : Type 0} → (ℕ → ℕ → A) → A → List Refusal → A
settled refused success [] = success
settled refused success (r ∷ rs) = cond r.when (refused r.number r.place) (settled refused success rs)

-- the number of the first such refusal; 0 where there is none
abbrev pub first_number : List Refusal → ℕ
first_number refusals = settled (λ number place. number) 0 refusals

-- P holds of every refusal of the list
abbrev pub All : (Refusal → Type 0) → List Refusal → Type 0
All P [] = Unit {0}
All P (r ∷ rs) = P r × All P rs

-- "none of refusals [..] applies"
abbrev pub None : List Refusal → Type 0
None rs = All (λ r. r.when ≡ false) rs

-- "its condition holds and none earlier in this order does"
pub data First : List Refusal → Refusal → Type 0 where
  here : {r : Refusal} {rs : List Refusal} → r.when ≡ true → First (r ∷ rs) r
  later : {r s : Refusal} {rs : List Refusal} → s.when ≡ false → First rs r → First (s ∷ rs) r

-- What a call with these refusals hands back, `a`, and leaves in what it was lent to write, `lent`.
pub record Answers {A L : Type 0} (refusals : List Refusal) (refused : ℕ → ℕ → A) (blank : L) (success : A) (shown : L) (a : A) (lent : L) : Type 0 where
  -- "Each is returned where its condition holds and none earlier in this order does"
  pub returned : (r : Refusal) → First refusals r → (a ≡ refused r.number r.place) × (lent ≡ blank)
  -- "and at no other time": where no condition holds, the call succeeds
  pub succeeds : None refusals → (a ≡ success) × (lent ≡ shown)
  -- one of these two holds: no condition does, or some refusal is the first whose condition does
  pub either : None refusals ⊎ ((r : Refusal) × First refusals r)
