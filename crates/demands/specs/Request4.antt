-- Request 4, "Range bytes as a word": "gather the six range bytes into one word first and test from that".
use Rattle.std.specs.Prelude.{List, ◌≡◌, ℕ, ◌^◌, ◌<◌}
use Rattle.answer.specs.Fields.{fields}
use Rattle.encoding.specs.Layout.{Bytes, low, high}
use Rattle.encoding.specs.Ranges.{ranges_word, low_of, high_of}
use Rattle.targets.specs.Targets.{target_holds, target_holds_from}

pub record Request4 : Type 0 where
  -- "into one word": of 64 bits
  pub ranges_fit : (t : List ℕ) (i : ℕ) → Bytes t → ranges_word t i < 2 ^ 64
  -- "each of the six can be read back from the word"
  pub ranges_read_back : (t : List ℕ) (i f : ℕ) → Bytes t → f < fields →
      (low_of (ranges_word t i) f ≡ low t i f) × (high_of (ranges_word t i) f ≡ high t i f)
  -- "and that the test from it passes exactly when the target holds"
  pub target_from_word : (t q : List ℕ) (i : ℕ) → Bytes t → target_holds_from (ranges_word t i) q ≡ target_holds t q i
