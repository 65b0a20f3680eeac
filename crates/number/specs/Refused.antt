-- The numbers of the refusals (docs/RULES.md, "Refusals"), and how a result is told by numbers: 0 with the values of what was accepted, or the refusal's
-- number with what stands in their place.
use Rattle.std.specs.Prelude.{ℕ, Result, Ok, Err}
use Rattle.number.specs.declared.refusal.Refusal.{Refusal}
use Rattle.number.specs.declared.refusal.Refusal.TheVariants.{DegreeZero, DegreeTooHigh, SumTooLarge, WrongParity, FoldsFull, FoldsTooLow}
use Rattle.number.specs.declared.refusal.Refusal.TheVariants.{IntervalUnordered, NodesMiscounted, IndexOutOfRange, ScaleTooWide, ModulusOutOfRange}
use Rattle.number.specs.declared.refusal.Refusal.TheVariants.{LineMalformed, CoefficientsShort, BoundariesShort, StepsShort, Unwalkable, NothingFits}
use Rattle.number.specs.declared.refusal.Refusal.TheVariants.{ListsMismatched, ListsOfNone, MembersMiscounted, MembersUnlike, ConversionTooHigh}
use Rattle.number.specs.declared.refusal.Refusal.TheVariants.{NotWhole, UnknownKind}

-- a refusal's number
abbrev pub refusal_number : Refusal → ℕ
refusal_number DegreeZero = 1
refusal_number DegreeTooHigh = 2
refusal_number SumTooLarge = 3
refusal_number WrongParity = 4
refusal_number FoldsFull = 5
refusal_number FoldsTooLow = 6
refusal_number IntervalUnordered = 7
refusal_number NodesMiscounted = 8
refusal_number IndexOutOfRange = 9
refusal_number ScaleTooWide = 10
refusal_number ModulusOutOfRange = 11
refusal_number LineMalformed = 12
refusal_number CoefficientsShort = 21
refusal_number BoundariesShort = 22
refusal_number StepsShort = 23
refusal_number Unwalkable = 24
refusal_number NothingFits = 31
refusal_number ListsMismatched = 33
refusal_number ListsOfNone = 34
refusal_number MembersMiscounted = 35
refusal_number MembersUnlike = 36
refusal_number ConversionTooHigh = 37
refusal_number NotWhole = 38
refusal_number UnknownKind = 43

-- 0 where the call accepted, else the number of its refusal
abbrev pub refusal_of : {T : Type 0} → Result T Refusal → ℕ
refusal_of (Ok t) = 0
refusal_of (Err refusal) = refusal_number refusal

-- what a result says in numbers: of what was accepted, and of a refusal by its number
abbrev pub numbered : {T X : Type 0} → (accepted : T → X) → (refused : ℕ → X) → Result T Refusal → X
numbered accepted refused (Ok t) = accepted t
numbered accepted refused (Err refusal) = refused (refusal_number refusal)
