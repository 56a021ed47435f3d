-- What a call that writes bytes into a lent text asks and leaves (for the contracts inside).
-- Assumes nothing: these are definitions.
use Rattle.std.specs.Prelude.{◌≡◌, List, ℕ, ◌+◌, ◌≤◌, length}
use Rattle.std.proofs.lemmas.List.Edits.{sets}
use Rattle.listing.specs.declared.text.Text.{Text}

-- the text has room for the bytes from place `at` on
abbrev pub RoomFor : List ℕ → ℕ → List ℕ → Type 0
RoomFor text at bytes = at + length bytes ≤ length text

-- The bytes stand from place `at` up to place `end`, and the rest of the text is as it was.
pub record Written (before after : List ℕ) (at end : ℕ) (bytes : List ℕ) : Type 0 where
  pub stands : after ≡ sets before at bytes
  pub ends : end ≡ at + length bytes

-- a text has room for the bytes after those that are written
abbrev pub HasRoom : Text → List ℕ → Type 0
HasRoom text bytes = RoomFor text.bytes.now text.end bytes

-- The bytes are written after those that were, into the same lent slice.
pub record Puts (before after : Text) (bytes : List ℕ) : Type 0 where
  pub written : Written before.bytes.now after.bytes.now before.end after.end bytes
  pub same_reference : after.bytes.ghost_name ≡ before.bytes.ghost_name
