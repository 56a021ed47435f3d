-- The range bytes of a node as one word, as paper 4 of document 02 words it.
-- Assumes nothing: these are definitions.
use Rattle.std.specs.Prelude.{List, ◌≡◌, ℕ, zero, suc, ◌+◌, ◌-◌, ◌*◌, ◌/◌, ◌%◌, ◌^◌, ◌<◌}
use Rattle.answer.specs.Fields.{fields}
use Rattle.encoding.specs.Layout.{record_byte, low, high}

-- the first n of the bytes b as one number, big-endian as "numbers of two bytes" are
unfoldable pub gathered : (ℕ → ℕ) → ℕ → ℕ
gathered b zero = 0
gathered b (suc n) = gathered b n * 256 + b n

-- "gather the six range bytes into one word": low and high of each field, in field order
unfoldable pub ranges_word : List ℕ → ℕ → ℕ
ranges_word t i = gathered (λ k. record_byte t i (5 + k)) (2 * fields)

-- the byte at place k of such a word
unfoldable pub range_byte : ℕ → ℕ → ℕ
range_byte w k = w / 2 ^ (8 * (2 * fields - 1 - k)) % 256

-- "then low and high of who, of where, of deed": the low of field f, from the word
abbrev pub low_of : ℕ → ℕ → ℕ
low_of w f = range_byte w (2 * f)

-- the high of field f
abbrev pub high_of : ℕ → ℕ → ℕ
high_of w f = range_byte w (2 * f + 1)

-- "each of the six can be read back from the word": the low and the high of every field of node i
abbrev pub ReadsBack : ℕ → List ℕ → ℕ → Type 0
ReadsBack w t i = (f : ℕ) → f < fields → (low_of w f ≡ low t i f) × (high_of w f ≡ high t i f)
