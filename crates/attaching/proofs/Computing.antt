-- What a case about a given base and a given expansion computes with.
use Rattle.ruling.proofs.Computing.{ruling_computes}
use Rattle.attaching.specs.Attached.{attached_bytes, headers_differ, too_large}

-- To unfold this is to unfold what ruling computes with, the bytes of the table of both, and the refusals of fitting.
unfoldable pub attaching_computes : Unit {0}
unfolding ruling_computes attached_bytes headers_differ too_large
attaching_computes = tt
