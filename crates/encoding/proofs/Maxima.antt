-- The maxima of a table: as many as there are fields, each that of its field, and at most 255; and written one after another.
use mathlib.Core.Path.{◌≡◌, refl, sym, ap, ◌∙◌}
use mathlib.Core.List.{List}
use Prim.Native.Nat.{ℕ, zero, suc, ◌+◌, ◌≤◌, ◌<◌}
use native.Mathlib.Omega.{arith}
use lib.ListN.{length, get_or}
use lib.Seq.{ext_get_or}
use Rattle.answer.specs.Fields.{fields}
use Rattle.answer.specs.Requests.{value, field_fault}
use Rattle.answer.proofs.FirstField.{fault_alike}
use Rattle.encoding.specs.Layout.{Bytes, maximum, values_from, maxima}

module _ (g : ℕ → ℕ) where
  values_length : (k i : ℕ) → length (values_from g i k) ≡ k
  unfolding values_from
  values_length zero i = refl
  values_length (suc k) i = ap suc (values_length k (i + 1))

  values_each : (k i j : ℕ) → j < k → get_or (values_from g i k) j 0 ≡ g (i + j)
  unfolding values_from
  values_each zero i j l = absurd (omega arith)
  values_each (suc k) i zero l = let z : i ≡ i + 0 = omega arith in ap g z
  values_each (suc k) i (suc j) l = let z : i + 1 + j ≡ i + suc j = omega arith in values_each k (i + 1) j (omega arith) ∙ ap g z

module _ (t : List ℕ) where
  -- one for each field
  pub maxima_length : length (maxima t) ≡ fields
  unfolding maxima
  maxima_length = values_length (maximum t) fields 0

  -- that of field f
  pub maxima_each : (f : ℕ) → f < fields → get_or (maxima t) f 0 ≡ maximum t f
  unfolding maxima
  maxima_each f l = let z : 0 + f ≡ f = omega arith in values_each (maximum t) fields 0 f l ∙ ap (maximum t) z

  -- refusal 9 by all of them
  pub maxima_fault : (ms q : List ℕ) (from : ℕ) → from ≤ fields → ms ≡ maxima t → field_fault (value ms) q from ≡ field_fault (maximum t) q from
  maxima_fault ms q from l e =
      ap (λ ns. field_fault (value ns) q from) e ∙ fault_alike (value (maxima t)) (maximum t) q from l maxima_each

  -- "(each 0 to 255)"
  pub maxima_bytes : Bytes t → (f : ℕ) → f < fields → get_or (maxima t) f 0 ≤ 255
  unfolding maximum
  maxima_bytes b f l = omega (arith, maxima_each f l, b (3 + f))

  -- the maxima before a field's are written
  abbrev pub MaximaWritten : ℕ → List ℕ → Type 0
  MaximaWritten field list = (f : ℕ) → f < field → get_or list f 0 ≡ maximum t f

  module _ (field : ℕ) (list : List ℕ) (long : length list ≡ fields) (w : MaximaWritten field list) where
    pub written_all : field ≡ fields → list ≡ maxima t
    written_all e =
        ext_get_or 0 list (maxima t) (long ∙ sym maxima_length) (λ f l. w f (omega arith) ∙ sym (maxima_each f (omega arith)))
