-- Texts of document 01 computed from the definitions: the listing of T's diagram, and a refusal.
use mathlib.Core.Path.{◌≡◌, refl}
use mathlib.Core.List.{[], ◌∷◌}
use Rattle.diagram.specs.LookUp.{edge}
use Rattle.diagram.specs.SmallRulebook.{diagram_t}
use Rattle.listing.specs.Text.{decimal_up_to, decimal, range, ranges, items, fields_line, line, refused_line}
use Rattle.listing.specs.Paths.{follows, ends, next_at, next_from, next_of}
use Rattle.listing.specs.Listing.{in_order, lines_from, listing}

-- "For T, whole", a line to a line
pub listing_t :
    listing diagram_t
    ≡ 102 ∷ 105 ∷ 101 ∷ 108 ∷ 100 ∷ 115 ∷ 32 ∷ 50 ∷ 32 ∷ 49 ∷ 32 ∷ 49 ∷ 10
    ∷ 48 ∷ 45 ∷ 48 ∷ 32 ∷ 48 ∷ 45 ∷ 49 ∷ 32 ∷ 48 ∷ 45 ∷ 48 ∷ 32 ∷ 109 ∷ 97 ∷ 121 ∷ 32 ∷ 49 ∷ 48 ∷ 10
    ∷ 48 ∷ 45 ∷ 48 ∷ 32 ∷ 48 ∷ 45 ∷ 49 ∷ 32 ∷ 49 ∷ 45 ∷ 49 ∷ 32 ∷ 110 ∷ 111 ∷ 110 ∷ 101 ∷ 10
    ∷ 49 ∷ 45 ∷ 49 ∷ 32 ∷ 48 ∷ 45 ∷ 48 ∷ 32 ∷ 48 ∷ 45 ∷ 48 ∷ 32 ∷ 109 ∷ 97 ∷ 121 ∷ 32 ∷ 49 ∷ 48 ∷ 10
    ∷ 49 ∷ 45 ∷ 49 ∷ 32 ∷ 48 ∷ 45 ∷ 48 ∷ 32 ∷ 49 ∷ 45 ∷ 49 ∷ 32 ∷ 110 ∷ 111 ∷ 110 ∷ 101 ∷ 10
    ∷ 49 ∷ 45 ∷ 49 ∷ 32 ∷ 49 ∷ 45 ∷ 49 ∷ 32 ∷ 48 ∷ 45 ∷ 48 ∷ 32 ∷ 109 ∷ 97 ∷ 121 ∷ 32 ∷ 49 ∷ 48 ∷ 10
    ∷ 49 ∷ 45 ∷ 49 ∷ 32 ∷ 49 ∷ 45 ∷ 49 ∷ 32 ∷ 49 ∷ 45 ∷ 49 ∷ 32 ∷ 109 ∷ 97 ∷ 121 ∷ 32 ∷ 51 ∷ 48 ∷ 10
    ∷ 50 ∷ 45 ∷ 50 ∷ 32 ∷ 48 ∷ 45 ∷ 48 ∷ 32 ∷ 48 ∷ 45 ∷ 48 ∷ 32 ∷ 110 ∷ 111 ∷ 116 ∷ 32 ∷ 49 ∷ 48 ∷ 32 ∷ 50 ∷ 48 ∷ 10
    ∷ 50 ∷ 45 ∷ 50 ∷ 32 ∷ 48 ∷ 45 ∷ 48 ∷ 32 ∷ 49 ∷ 45 ∷ 49 ∷ 32 ∷ 110 ∷ 111 ∷ 110 ∷ 101 ∷ 10
    ∷ 50 ∷ 45 ∷ 50 ∷ 32 ∷ 49 ∷ 45 ∷ 49 ∷ 32 ∷ 48 ∷ 45 ∷ 48 ∷ 32 ∷ 109 ∷ 97 ∷ 121 ∷ 32 ∷ 49 ∷ 48 ∷ 10
    ∷ 50 ∷ 45 ∷ 50 ∷ 32 ∷ 49 ∷ 45 ∷ 49 ∷ 32 ∷ 49 ∷ 45 ∷ 49 ∷ 32 ∷ 110 ∷ 111 ∷ 110 ∷ 101 ∷ 10
    ∷ []
unfolding decimal_up_to decimal range ranges items fields_line line in_order lines_from listing
listing_t = refl

-- "as `refused 7 at 2`"
pub refused_7_at_2 : refused_line 7 2 ≡ 114 ∷ 101 ∷ 102 ∷ 117 ∷ 115 ∷ 101 ∷ 100 ∷ 32 ∷ 55 ∷ 32 ∷ 97 ∷ 116 ∷ 32 ∷ 50 ∷ 10 ∷ []
unfolding decimal_up_to decimal refused_line
refused_7_at_2 = refl

-- the digits of a card
pub decimal_65535 : decimal 65535 ≡ 54 ∷ 53 ∷ 53 ∷ 51 ∷ 53 ∷ []
unfolding decimal_up_to decimal
decimal_65535 = refl

-- after the last action at the harbour the captain goes to the market
pub next_t : next_of diagram_t (1 ∷ 0 ∷ 1 ∷ []) ≡ follows (1 ∷ 1 ∷ 0 ∷ [])
unfolding edge next_at next_from
next_t = refl

pub last_t : next_of diagram_t (2 ∷ 1 ∷ 1 ∷ []) ≡ ends (0 ∷ 0 ∷ 0 ∷ [])
unfolding edge next_at next_from
last_t = refl
