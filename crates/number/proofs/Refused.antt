-- Every refusal has a number above 0, so that 0 says that a call accepted.
use Prim.Native.Nat.{◌<◌}
use native.Mathlib.Omega.{arith}
use Rattle.number.specs.Refused.{refusal_number}
use Rattle.number.specs.declared.refusal.Refusal.{Refusal}
use Rattle.number.specs.declared.refusal.Refusal.TheVariants.{DegreeZero, DegreeTooHigh, SumTooLarge, WrongParity, FoldsFull, FoldsTooLow}
use Rattle.number.specs.declared.refusal.Refusal.TheVariants.{IntervalUnordered, NodesMiscounted, IndexOutOfRange, ScaleTooWide, ModulusOutOfRange}
use Rattle.number.specs.declared.refusal.Refusal.TheVariants.{LineMalformed, CoefficientsShort, BoundariesShort, StepsShort, Unwalkable, NothingFits}
use Rattle.number.specs.declared.refusal.Refusal.TheVariants.{ListsMismatched, ListsOfNone, MembersMiscounted, MembersUnlike, ConversionTooHigh}
use Rattle.number.specs.declared.refusal.Refusal.TheVariants.{NotWhole, UnknownKind}

pub refused : (refusal : Refusal) → 0 < refusal_number refusal
refused DegreeZero = omega arith
refused DegreeTooHigh = omega arith
refused SumTooLarge = omega arith
refused WrongParity = omega arith
refused FoldsFull = omega arith
refused FoldsTooLow = omega arith
refused IntervalUnordered = omega arith
refused NodesMiscounted = omega arith
refused IndexOutOfRange = omega arith
refused ScaleTooWide = omega arith
refused ModulusOutOfRange = omega arith
refused LineMalformed = omega arith
refused CoefficientsShort = omega arith
refused BoundariesShort = omega arith
refused StepsShort = omega arith
refused Unwalkable = omega arith
refused NothingFits = omega arith
refused ListsMismatched = omega arith
refused ListsOfNone = omega arith
refused MembersMiscounted = omega arith
refused MembersUnlike = omega arith
refused ConversionTooHigh = omega arith
refused NotWhole = omega arith
refused UnknownKind = omega arith
