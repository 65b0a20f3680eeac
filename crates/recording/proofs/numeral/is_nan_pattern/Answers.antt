-- That the patterns of a NaN are those above infinity's is a law of the logic.
use Rattle.std.proofs.Common.{sym}
use Rattle.std.specs.Float.{binary64}
use lib.Ieee.Bits.{nan_bits_above}
use Rattle.recording.proofs.numeral.is_nan_pattern.Goals as goal

pub returns : goal.returns
returns c = sym (nan_bits_above binary64 _)
