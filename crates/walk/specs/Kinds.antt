-- The kinds of steps (docs/RULES.md, "Steps and the walk").
use Rattle.std.specs.Prelude.{Bool, true, false, ℕ, zero, suc}

-- a combine is plain if its high value is: then it costs a pt-ct multiplication, otherwise a ct-ct one
pub data Kind : Type 0 where
  make : Kind
  load : Kind
  combine : (plain : Bool) → Kind
  unknown : Kind

-- 1 is a make, 2 a load, 3 a combine, 4 a plain combine
abbrev pub kind_of : ℕ → Kind
kind_of zero = unknown
kind_of (suc zero) = make
kind_of (suc (suc zero)) = load
kind_of (suc (suc (suc zero))) = combine false
kind_of (suc (suc (suc (suc zero)))) = combine true
kind_of (suc (suc (suc (suc (suc n))))) = unknown
