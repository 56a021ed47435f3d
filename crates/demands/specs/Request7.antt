-- Request 7, "Seats go round": "In the naval game seats form a ring, and a card says 'seat 4 to seat 1'. A low above its high now means values from low
-- upward or up to high."
use Rattle.std.specs.Prelude.{true, false, List, [], ◌∷◌, ◌⊎◌, ◌↔◌, ◌≡◌, ℕ, suc, ◌+◌, ◌≤◌, ◌<◌}
use Rattle.answer.specs.Fields.{fields}
use Rattle.answer.specs.Answers.{refused, counted, ruled}
use Rattle.combining.specs.Ways.{not_applicable, permit}
use Rattle.encoding.specs.Layout.{maximum, low, high}
use Rattle.table.specs.Reading.{ranges_fault, reading}
use Rattle.targets.specs.Targets.{in_range}
use Rattle.building.specs.Built.{built_diagram}
use Rattle.demands.specs.Tables.{seats, seats_apart}
use Rattle.demands.specs.Outcomes.{other_values, request, only, GivesRuling, GivesStandard, GivesLookUp, EqualDiagrams}

pub record Request7 : Type 0 where
  -- "values from low upward or up to high"; any other range has those from low up to high
  pub wrapped_range : (low high v : ℕ) → high < low → (in_range low high v ≡ true) ↔ ((low ≤ v) ⊎ (v ≤ high))
  pub unwrapped_range : (low high v : ℕ) → low ≤ high → (in_range low high v ≡ true) ↔ ((low ≤ v) × (v ≤ high))
  -- "Low one more than high takes in every value."; and no range is empty: "both ends included"
  pub whole_range : (high v : ℕ) → in_range (suc high) high v ≡ true
  pub ends_in_range : (low high : ℕ) → (in_range low high low ≡ true) × (in_range low high high ≡ true)
  -- "Refusal 7 remains only for a low or high above the maximum": node i passes it exactly where there is none
  pub ranges_passed : (t : List ℕ) (i : ℕ) →
      (ranges_fault t i ≡ false) ↔ ((f : ℕ) → f < fields → (low t i f ≤ maximum t f) × (high t i f ≤ maximum t f))

-- Table t gives n seats that ask together, the set s, the card.
abbrev pub GivesCard : List ℕ → ℕ → ℕ → Type 0
GivesCard t s n = GivesRuling t s (other_values 0 0) 1 (ruled permit 1 n) (1 ∷ [])

-- It gives them none.
abbrev pub GivesNone : List ℕ → ℕ → ℕ → Type 0
GivesNone t s n = GivesRuling t s (other_values 0 0) 1 (ruled not_applicable 0 n) (0 ∷ [])

pub record Request7Cases : Type 0 where
  -- "seat 4 to seat 1": a low above its high is read, and the card is for seats 4, 5, 0 and 1, and for no other
  pub seats_read : reading (seats 4 1) ≡ counted 2
  pub seat_4 : GivesCard (seats 4 1) (only 4) 1
  pub seat_5 : GivesCard (seats 4 1) (only 5) 1
  pub seat_0 : GivesCard (seats 4 1) (only 0) 1
  pub seat_1 : GivesCard (seats 4 1) (only 1) 1
  pub seat_2 : GivesNone (seats 4 1) (only 2) 1
  pub seat_3 : GivesNone (seats 4 1) (only 3) 1
  -- for a set: one seat of the range is enough, on either side of where it wraps
  pub seats_3_and_4 : GivesCard (seats 4 1) (only 3 + only 4) 2
  pub seats_1_and_2 : GivesCard (seats 4 1) (only 1 + only 2) 2
  pub seats_2_and_3 : GivesNone (seats 4 1) (only 2 + only 3) 2
  -- by the profile
  pub seat_1_standard : GivesStandard (seats 4 1) (only 1) (other_values 0 0) 1 (ruled permit 1 1) (1 ∷ [])
  -- by the diagram, which is that of the card once for seats 4 and 5 and once more for seats 0 and 1
  pub seat_1_looked_up : GivesLookUp (built_diagram (seats 4 1) 64) (request 1 0 0) 1 (ruled permit 1 0) (1 ∷ [])
  pub seat_2_looked_up : GivesLookUp (built_diagram (seats 4 1) 64) (request 2 0 0) 1 (ruled not_applicable 0 0) (0 ∷ [])
  pub seat_4_looked_up : GivesLookUp (built_diagram (seats 4 1) 64) (request 4 0 0) 1 (ruled permit 1 0) (1 ∷ [])
  pub seats_apart_lem : EqualDiagrams (seats 4 1) seats_apart 64
  -- "Low one more than high takes in every value.": as the range from 0 to the maximum does
  pub seats_3_to_2_seat_2 : GivesCard (seats 3 2) (only 2) 1
  pub seats_3_to_2_seat_3 : GivesCard (seats 3 2) (only 3) 1
  pub seats_3_to_2_built : EqualDiagrams (seats 3 2) (seats 0 5) 64
  -- "Refusal 7 remains only for a low or high above the maximum": each by itself, and both where the low is above its high
  pub low_over : reading (seats 6 1) ≡ refused 7 1
  pub high_over : reading (seats 4 6) ≡ refused 7 1
  pub both_over : reading (seats 7 6) ≡ refused 7 1
