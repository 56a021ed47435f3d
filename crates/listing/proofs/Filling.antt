-- Laws of a text that is filled with lines, one for each way through the code.
use mathlib.Core.Path.{◌≡◌, refl, sym, ◌∙◌, subst}
use mathlib.Core.Bool.{true}
use mathlib.Core.List.{List, [], ◌++◌}
use Prim.Native.Nat.{ℕ, ◌+◌, ◌≤◌, ◌<◌}
use native.Mathlib.Omega.{arith}
use lib.ListN.{length}
use Rattle.answer.specs.Order.{IsRequest, Precedes}
use Rattle.answer.proofs.RequestsInOrder.{before_through}
use Rattle.diagram.specs.Layout.{maximum}
use Rattle.listing.specs.Text.{most_line}
use Rattle.listing.specs.declared.text.Text.{Text}
use Rattle.listing.specs.Written.{Puts}
use Rattle.listing.specs.Paths.{After, line_of, follows, next_of, Later}
use Rattle.listing.specs.Listing.{begun, onward, Run, Paged, Onward}
use Rattle.listing.proofs.Writing.{none_put, puts_join, puts_long}
use Rattle.listing.proofs.NextIsLater.{after_is}

-- After what was written of text t, text u holds the lines from request q on, and the line of request r is next.
pub record Filling (d q : List ℕ) (t u : Text) (r : List ℕ) : Type 0 where
  pub bytes : List ℕ
  pub run : Run d q bytes (follows r)
  pub puts : Puts t u bytes
  pub request : IsRequest (maximum d) r
  pub since : (s : List ℕ) → Precedes r s → Precedes q s
  pub room : u.end + most_line ≤ length u.bytes.now

module _ {d q : List ℕ} {t : Text} where
  pub filling_none : IsRequest (maximum d) q → t.end + most_line ≤ length t.bytes.now → Filling d q t t q
  filling_none w h =
      record {
        bytes = [];
        run = begun;
        puts = none_put t;
        request = w;
        since = λ s p. p;
        room = h;
      }

  -- the line of request r is written
  module _ {u : Text} {r : List ℕ} (f : Filling d q t u r) {v : Text} (w : Puts u v (line_of d r)) where
    pub filled_puts : Puts t v (f.bytes ++ line_of d r)
    filled_puts = puts_join f.puts (line_of d r) w

    module _ {n : After} (i : n ≡ next_of d r) where
      pub filled : (n.more ≡ true → length v.bytes.now < v.end + most_line) → Paged d q t.bytes.now v.bytes.now t.end v.end n
      filled s =
          record {
            bytes = f.bytes;
            last = r;
            run = f.run;
            onto = i;
            written = filled_puts.written;
            begins = omega (arith, f.room, f.puts.written.ends, puts_long f.puts);
            stops = λ m. omega (arith, s m, puts_long filled_puts);
          }

      module _ (h : n.more ≡ true → Later d r n.values) where
        pub filled_onward : Onward d q n
        filled_onward m = record { request = (h m).request; rises = f.since n.values (h m).rises }

        pub filling_more : n.more ≡ true → v.end + most_line ≤ length v.bytes.now → Filling d q t v n.values
        filling_more m g =
            record {
              bytes = f.bytes ++ line_of d r;
              run = subst (Run d q (f.bytes ++ line_of d r)) (sym i ∙ after_is n (follows n.values) (m, refl)) (onward f.bytes r f.run);
              puts = filled_puts;
              request = (h m).request;
              since = λ s p. f.since s (before_through r n.values s (h m).rises p);
              room = g;
            }
