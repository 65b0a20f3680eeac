-- What may not be there. A step that can't be taken leaves `none`, and then so does the walk: refusal 24. A cut that can't be undone leaves `none`, and
-- then so does rebuilding: refusal 34.
use Rattle.std.specs.Prelude.{Bool, true, false}
use Rattle.std.proofs.Math.Option.{Option, some, none}

-- the second, made of the first once that is there
infixl 1 ◌then◌
abbrev pub ◌then◌ : {X Y : Type 0} → Option X → (X → Option Y) → Option Y
◌then◌ (some v) f = f v
◌then◌ none f = none

-- only where a test holds
abbrev pub when : {X : Type 0} → Bool → Option X → Option X
when true r = r
when false r = none

-- whether it isn't there
abbrev pub missing : {X : Type 0} → Option X → Bool
missing (some v) = false
missing none = true

-- what is there, taken along a map
abbrev pub image : {X Y : Type 0} → (X → Y) → Option X → Option Y
image f (some v) = some (f v)
image f none = none
