-- The refusal of an unknown kind. It comes ahead of every other, and changes no buffer.
use Rattle.std.specs.Prelude.{Bool, true, false, ℕ}

-- 43: a kind goes by a number that is none of its kinds'
abbrev pub unknown_kind : ℕ
unknown_kind = 43

-- what a call answers, or leaves in a buffer: `accepted` if it knows all its kinds, else `refused`
unfoldable pub when_known : {X : Type 0} → (known : Bool) → (accepted refused : X) → X
when_known true accepted refused = accepted
when_known false accepted refused = refused
