-- Requests are in a strict total order, and the first that has a property is one alone.
use mathlib.Core.Path.{◌≡◌, refl, sym, ◌∙◌}
use mathlib.Core.Logic.{◌⊎◌, inl, inr, ⊎_elim}
use mathlib.Core.List.{List, [], ◌∷◌}
use Prim.Native.Nat.{ℕ, ◌≤◌, ◌<◌}
use native.Mathlib.Nat.{eq-or-lt_of_le}
use native.Mathlib.Omega.{arith}
use lib.ListN.{length}
use Rattle.answer.specs.Order.{Precedes, FirstRequest}
use Rattle.answer.proofs.Tests.{lt_or_ge}

pub not_before_itself : (q : List ℕ) → Precedes q q → ⊥
unfolding Precedes
not_before_itself [] h = h
not_before_itself (v ∷ q) h = ⊎_elim (λ (l : v < v). omega arith) (λ e. not_before_itself q e.1) h

pub before_through : (q r s : List ℕ) → Precedes q r → Precedes r s → Precedes q s
unfolding Precedes
before_through [] r s h g = absurd h
before_through (v ∷ q) [] s h g = absurd h
before_through (v ∷ q) (w ∷ r) [] h g = absurd g
before_through (v ∷ q) (w ∷ r) (x ∷ s) h g =
    ⊎_elim
    (λ (l : v < w). inl (⊎_elim (λ (m : w < x). omega arith) (λ e. omega (arith, e.0)) g))
    (λ d. ⊎_elim (λ (m : w < x). inl (omega (arith, d.0))) (λ e. inr (d.0 ∙ e.0, before_through q r s d.1 e.1)) g)
    h

-- of two requests that differ, one comes before the other
pub one_before : (q r : List ℕ) → length q ≡ length r → Precedes q r ⊎ ((q ≡ r) ⊎ Precedes r q)
unfolding Precedes
one_before [] [] n = inr (inl refl)
one_before [] (w ∷ r) n = absurd (omega arith)
one_before (v ∷ q) [] n = absurd (omega arith)
one_before (v ∷ q) (w ∷ r) n = by (one_before q r (omega arith)) (lt_or_ge v w)
  where
    by : Precedes q r ⊎ ((q ≡ r) ⊎ Precedes r q) → (v < w) ⊎ (w ≤ v) → Precedes (v ∷ q) (w ∷ r) ⊎ ((v ∷ q ≡ w ∷ r) ⊎ Precedes (w ∷ r) (v ∷ q))
    by h (inl l) = inl (inl l)
    by h (inr g) =
        ⊎_elim
        (λ (e : w ≡ v). ⊎_elim (λ p. inl (inr (sym e, p))) (λ k. inr (⊎_elim (λ (i : q ≡ r). inl (cc)) (λ p. inr (inr (e, p))) k)) h)
        (λ (l : w < v). inr (inr (inl l)))
        (eq-or-lt_of_le g)

pub first_is_one : {maximum : ℕ → ℕ} {P : List ℕ → Type 0} {q r : List ℕ} → FirstRequest maximum P q → FirstRequest maximum P r → q ≡ r
first_is_one {q = q} {r = r} a b =
    ⊎_elim
    (λ h. absurd (b.none_before q a.request a.has h))
    (λ h. ⊎_elim (λ e. e) (λ g. absurd (a.none_before r b.request b.has g)) h)
    (one_before q r (a.request.0 ∙ sym b.request.0))
