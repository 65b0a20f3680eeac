-- Every coefficient that a plan's text shows is read back: as a field of a line it is a whole number, and says the coefficient again.
use Rattle.std.specs.Prelude.{Bool, List, ℕ, ℤ, pos, get_or}
use Rattle.algebra.specs.declared.Basis.{Basis}
use Rattle.algebra.specs.declared.Parity.{Parity}
use Rattle.counts.specs.declared.choice.SplitStrategy.{SplitStrategy}
use Rattle.lists.specs.Lists.{joined}
use Rattle.plan.specs.PlanCall.{Accepted}
use Rattle.texts.specs.ReadBack.{ReadBack}
use Rattle.demands.specs.Right.{lists_for}

-- place k of the lists, one after another
abbrev pub PrintedBack : Type 0
PrintedBack = (strategy : SplitStrategy) (parity : Parity) (basis : Basis) (folded : Bool) (c : List ℤ) (k : ℕ) → Accepted folded parity c
    → ReadBack (get_or (joined (lists_for strategy parity basis folded c)) k (pos 0))
