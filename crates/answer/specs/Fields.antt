-- How many values a question has. A fourth field changes this line, and `FIELDS` of the code.
-- Assumes nothing: these are definitions.
use Rattle.std.specs.Prelude.{ℕ}

-- "A question is one value for each field": who, where, deed
abbrev pub fields : ℕ
fields = 3
