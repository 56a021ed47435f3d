-- Laws of bytes written one after another into a text.
use mathlib.Core.Path.{◌≡◌, refl, sym, ap, ◌∙◌, subst}
use mathlib.Core.List.{List, [], ◌++◌, append_assoc, append-nil}
use Prim.Native.Nat.{ℕ}
use native.Mathlib.Omega.{arith}
use lib.ListN.{length, length-append}
use lib.Seq.{sets, length-sets}
use Rattle.answer.proofs.Stored.{stored_join}
use Rattle.listing.specs.declared.text.Text.{Text}
use Rattle.listing.specs.Written.{RoomFor, Written, HasRoom, Puts}

module _ (t : List ℕ) (a : ℕ) where
  pub none_written : Written t t a a []
  none_written = record { stands = refl; ends = omega arith }

  pub room_first : (xs ys : List ℕ) → RoomFor t a (xs ++ ys) → RoomFor t a xs
  room_first xs ys h = omega (arith, length-append xs ys)

module _ {t u : List ℕ} {a b : ℕ} {xs : List ℕ} (w : Written t u a b xs) where
  -- the text keeps its length
  pub written_long : length u ≡ length t
  written_long = ap length w.stands ∙ length-sets t a xs

  pub room_rest : (ys : List ℕ) → RoomFor t a (xs ++ ys) → RoomFor u b ys
  room_rest ys h = omega (arith, length-append xs ys, written_long, w.ends)

  pub room_between : (ys zs : List ℕ) → RoomFor t a (xs ++ (ys ++ zs)) → RoomFor u b ys
  room_between ys zs h = room_first u b ys zs (room_rest (ys ++ zs) h)

  -- writing xs and then ys is writing both at once
  pub written_join : {v : List ℕ} {e : ℕ} (ys : List ℕ) → Written u v b e ys → Written t v a e (xs ++ ys)
  written_join {v} {e} ys x =
      record {
        stands =
            x.stands
            ∙ ap (λ (l : List ℕ). sets l b ys) w.stands
            ∙ ap (λ (n : ℕ). sets (sets t a xs) n ys) w.ends
            ∙ sym (stored_join xs ys t a);
        ends = omega (arith, w.ends, x.ends, length-append xs ys);
      }

-- the same of a text
module _ {t u : Text} {xs : List ℕ} (p : Puts t u xs) where
  pub puts_long : length u.bytes.now ≡ length t.bytes.now
  puts_long = written_long p.written

  pub puts_room : (ys : List ℕ) → HasRoom t (xs ++ ys) → HasRoom u ys
  puts_room ys h = room_rest p.written ys h

  pub puts_between : (ys zs : List ℕ) → HasRoom t (xs ++ (ys ++ zs)) → HasRoom u ys
  puts_between ys zs h = room_between p.written ys zs h

  pub puts_as : {ys : List ℕ} → xs ≡ ys → Puts t u ys
  puts_as e = subst (Puts t u) e p

  pub puts_join : {v : Text} (ys : List ℕ) → Puts u v ys → Puts t v (xs ++ ys)
  puts_join ys q = record { written = written_join p.written ys q.written; same_reference = q.same_reference ∙ p.same_reference }

pub none_put : (t : Text) → Puts t t []
none_put t = record { written = none_written t.bytes.now t.end; same_reference = refl }

-- Of all the bytes that a text is to hold, those before the rest are written.
pub record Partly (before : Text) (all : List ℕ) (now : Text) (rest : List ℕ) : Type 0 where
  pub done : List ℕ
  pub splits : done ++ rest ≡ all
  pub puts : Puts before now done

module _ {t : Text} {all : List ℕ} where
  pub partly_none : {rest : List ℕ} → rest ≡ all → Partly t all t rest
  partly_none e = record { done = []; splits = e; puts = none_put t }

  module _ {u : Text} {left : List ℕ} (p : Partly t all u left) where
    -- the rest, where its first bytes are xs
    splits_further : (xs rest : List ℕ) → left ≡ xs ++ rest → all ≡ p.done ++ (xs ++ rest)
    splits_further xs rest s = sym p.splits ∙ ap (λ (l : List ℕ). p.done ++ l) s

    -- there is room for the first bytes of the rest
    pub partly_first : (xs rest : List ℕ) → left ≡ xs ++ rest → HasRoom t all → HasRoom u xs
    partly_first xs rest s h = puts_between p.puts xs rest (subst (HasRoom t) (splits_further xs rest s) h)

    pub partly_more : {xs rest : List ℕ} {v : Text} → left ≡ xs ++ rest → Puts u v xs → Partly t all v rest
    partly_more {xs} {rest} s w =
        record {
          done = p.done ++ xs;
          splits = append_assoc p.done xs rest ∙ sym (splits_further xs rest s);
          puts = puts_join p.puts xs w;
        }

    pub partly_all : left ≡ [] → Puts t u all
    partly_all e = puts_as p.puts (sym (splits_further [] [] e ∙ append-nil p.done))
