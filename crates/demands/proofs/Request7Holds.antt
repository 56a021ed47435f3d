-- Request 7 is met, and its cases.
use mathlib.Core.Path.{refl}
use Rattle.table.proofs.Good.{ranges_within}
use Rattle.targets.proofs.InRange.{unwrapped_members, wrapped_members, all_members, ends_included}
use Rattle.standard.proofs.Computing.{profile_computes}
use Rattle.demands.specs.Request7.{Request7, Request7Cases}
use Rattle.demands.proofs.Computing.{cases_compute}

pub request_7 : Request7
request_7 = record {
  wrapped_range = wrapped_members;
  unwrapped_range = unwrapped_members;
  whole_range = all_members;
  ends_in_range = ends_included;
  ranges_passed = ranges_within;
}

pub request_7_cases : Request7Cases
unfolding cases_compute profile_computes
request_7_cases = record {
  seats_read = refl;
  seat_4 = (refl, refl);
  seat_5 = (refl, refl);
  seat_0 = (refl, refl);
  seat_1 = (refl, refl);
  seat_2 = (refl, refl);
  seat_3 = (refl, refl);
  seats_3_and_4 = (refl, refl);
  seats_1_and_2 = (refl, refl);
  seats_2_and_3 = (refl, refl);
  seat_1_standard = (refl, refl);
  seat_1_looked_up = (refl, refl);
  seat_2_looked_up = (refl, refl);
  seat_4_looked_up = (refl, refl);
  seats_apart_lem = record { first_built = refl; second_built = refl; equal = refl };
  seats_3_to_2_seat_2 = (refl, refl);
  seats_3_to_2_seat_3 = (refl, refl);
  seats_3_to_2_built = record { first_built = refl; second_built = refl; equal = refl };
  low_over = refl;
  high_over = refl;
  both_over = refl;
}
