-- Two runs of steps, one after the other, are the run of all of them (walk's `run_then`), here with the state between them given. So the run of a
-- plan is put together from those of its power steps and of its tree (docs/RULES.md, "The walk").
use mathlib.Core.Path.{◌≡◌, ◌∙◌, ap}
use mathlib.Core.List.{List, ◌++◌}
use mathlib.Core.Option.{Option, some}
use Rattle.algebra.specs.declared.Basis.{Basis}
use Rattle.algebra.specs.declared.Parity.{Parity}
use Rattle.number.specs.Options.{◌then◌}
use Rattle.walk.specs.Rules.{Rules}
use Rattle.walk.specs.State.{Lists, State}
use Rattle.walk.specs.Walk.{run_of}
use Rattle.walk.specs.declared.plan.Step.{Step}
use Rattle.walk.proofs.RunLaws as W

pub run_then : {A : Type 0} (𝓡 : Rules A) (parity : Parity) (basis : Basis) (lists : Lists) (xs ys : List Step) (state between : State A)
    (r : Option (State A)) → run_of 𝓡 parity basis lists xs state ≡ some between → run_of 𝓡 parity basis lists ys between ≡ r
    → run_of 𝓡 parity basis lists (xs ++ ys) state ≡ r
run_then {A} 𝓡 parity basis lists xs ys state between r first second =
    W.run_then 𝓡 parity basis lists xs ys state
    ∙ ap (λ (o : Option (State A)). o then λ (next : State A). run_of 𝓡 parity basis lists ys next) first
    ∙ second
