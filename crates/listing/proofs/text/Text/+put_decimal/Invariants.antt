-- `text::Text::put_decimal` calls itself: the number falls.
use Rattle.listing.proofs.text.Text.+put_decimal.Given as goal

abbrev pub decreases-put_decimal : goal.decreases-put_decimal
decreases-put_decimal l = l.number
