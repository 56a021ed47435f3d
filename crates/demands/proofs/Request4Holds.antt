-- Request 4 is met.
use Rattle.encoding.specs.Ranges.{ranges_word}
use Rattle.encoding.proofs.RangesReadBack.{ranges_fit, reads_back}
use Rattle.targets.proofs.TargetFromWord.{target_from}
use Rattle.demands.specs.Request4.{Request4}

pub request_4 : Request4
request_4 = record {
  ranges_fit = ranges_fit;
  ranges_read_back = λ t i f b. reads_back t i b f;
  target_from_word = λ t q i b. target_from t i (ranges_word t i) (reads_back t i b) q;
}
