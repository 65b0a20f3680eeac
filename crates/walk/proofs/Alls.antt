-- What holds of an answer, if there is one: of what `then` and `when` make, and of the answer once it is known. By cases of what is there.
use mathlib.Core.Path.{◌≡◌, refl, subst}
use mathlib.Core.Bool.{Bool, true, false}
use mathlib.Core.Option.{Option, some, none}
use Prim.Native.Nat.{ℕ}
use native.Mathlib.Omega.{arith}
use Rattle.number.specs.Options.{◌then◌, when}
use Rattle.number.proofs.Options.{same_some}

pub data All {X : Type 0} (P : X → Type 0) : Option X → Type 0 where
  nothing : All P none
  holds : {v : X} → P v → All P (some v)

pub all_then : {X Y : Type 0} {P : X → Type 0} {Q : Y → Type 0} {o : Option X} {f : X → Option Y} → All P o → ((v : X) → P v → All Q (f v))
    → All Q (o then f)
all_then nothing k = nothing
all_then (holds {v} p) k = k v p

-- under a test, which then holds
pub all_when : {X : Type 0} {P : X → Type 0} (t : Bool) {o : Option X} → (t ≡ true → All P o) → All P (when t o)
all_when true p = p refl
all_when false p = nothing

pub all_some : {X : Type 0} {P : X → Type 0} {o : Option X} {v : X} → All P o → o ≡ some v → P v
all_some nothing e = let same : ◌≡◌ {A = ℕ} 0 1 = cc in absurd (omega arith)
all_some {P = P} (holds p) e = subst P (same_some e) p
