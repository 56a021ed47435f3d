-- The bytes of a table, as document 01 lays them out under "The table".
-- Assumes nothing: these are definitions.
use Rattle.std.specs.Prelude.{List, [], ◌∷◌, ℕ, zero, suc, ◌+◌, ◌*◌, ◌≤◌, ◌<◌, length, get_or}
use Rattle.answer.specs.Fields.{fields}

-- the byte at a place
abbrev pub byte : List ℕ → ℕ → ℕ
byte t p = get_or t p 0

-- "Bytes": the numbers of a table are below 256. A lent table's are, by its type; a claim about lists of numbers names it where it matters.
abbrev pub Bytes : List ℕ → Type 0
Bytes t = (p : ℕ) → byte t p < 256

-- "numbers of two bytes are big-endian"
unfoldable pub word : List ℕ → ℕ → ℕ
word t p = byte t p * 256 + byte t (p + 1)

-- "0-1 | number of bytes after these two"
abbrev pub bytes_after : List ℕ → ℕ
bytes_after t = word t 0

-- "2 | version, 1"
abbrev pub version : List ℕ → ℕ
version t = byte t 2

-- "3, 4, 5 | largest value of who, where, deed": the maximum of field f
unfoldable pub maximum : List ℕ → ℕ → ℕ
maximum t f = byte t (3 + f)

-- the values of a function at the k numbers from i upward
unfoldable pub values_from : (ℕ → ℕ) → ℕ → ℕ → List ℕ
values_from f i zero = []
values_from f i (suc k) = f i ∷ values_from f (i + 1) k

-- "3, 4, 5 | largest value of who, where, deed": all of them, in field order
unfoldable pub maxima : List ℕ → List ℕ
maxima t = values_from (maximum t) 0 fields

-- "6-7 | number of nodes", after the maxima: where it stands
unfoldable pub count_place : List ℕ → ℕ
count_place t = 3 + fields

-- the number of nodes
unfoldable pub count : List ℕ → ℕ
count t = word t (count_place t)

-- bytes 0 to 7 of the table above, before the first record
unfoldable pub header : List ℕ → ℕ
header t = count_place t + 2

-- "A record: kind (1 byte), span (2), card (2), then low and high of who, of where, of deed (1 byte each, both ends included)"
unfoldable pub record_size : List ℕ → ℕ
record_size t = 5 + 2 * fields

-- "then | one record of 11 bytes for each node": where the record of node i starts
unfoldable pub start : List ℕ → ℕ → ℕ
start t i = header t + record_size t * i

-- the byte at place k of node i's record
unfoldable pub record_byte : List ℕ → ℕ → ℕ → ℕ
record_byte t i k = byte t (start t i + k)

-- the number of the two bytes at place k of node i's record
unfoldable pub record_word : List ℕ → ℕ → ℕ → ℕ
record_word t i k = word t (start t i + k)

-- "kind (1 byte)" of node i
abbrev pub kind : List ℕ → ℕ → ℕ
kind t i = record_byte t i 0

-- "span (2)"
abbrev pub span : List ℕ → ℕ → ℕ
span t i = record_word t i 1

-- "card (2)"
abbrev pub card : List ℕ → ℕ → ℕ
card t i = record_word t i 3

-- "then low and high of who, of where, of deed (1 byte each, both ends included)": the low of field f
abbrev pub low : List ℕ → ℕ → ℕ → ℕ
low t i f = record_byte t i (5 + 2 * f)

-- the high of field f
abbrev pub high : List ℕ → ℕ → ℕ → ℕ
high t i f = record_byte t i (5 + 2 * f + 1)

-- the header lies in the table
abbrev pub HeaderHeld : List ℕ → Type 0
HeaderHeld t = header t ≤ length t

-- the record of node i lies in the table
abbrev pub NodeHeld : List ℕ → ℕ → Type 0
NodeHeld t i = start t (i + 1) ≤ length t
