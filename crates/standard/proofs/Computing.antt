-- What a case about the profile and a given table computes with.
use Rattle.ruling.proofs.Computing.{ruling_computes}
use Rattle.standard.specs.Profile.{holds_rule, holds_group, mixed_group, rule_in_only_one, rule_as_root, profile_refusals}

-- To unfold this is to unfold what ruling computes with, and the profile's refusals.
unfoldable pub profile_computes : Unit {0}
unfolding ruling_computes holds_rule holds_group mixed_group rule_in_only_one rule_as_root profile_refusals
profile_computes = tt
