-- What the functions that rebuild lists answer one another, once base and boundaries are known to be those of the settings.
use Rattle.std.specs.Prelude.{◌≡◌, List, [], ◌∷◌, ℕ, ◌≤◌, ℤ, length}
use Rattle.std.proofs.Math.Option.{Option}
use Rattle.std.proofs.lemmas.List.Edits.{sets}
use Rattle.algebra.specs.declared.Basis.{Basis}
use Rattle.number.specs.Limits.{plan_limit}
use Rattle.number.specs.Options.{missing}
use Rattle.number.specs.Refusal.{first_refusal, unless_refused}
use Rattle.number.specs.Tests.{degree_of, no_room}
use Rattle.number.specs.inside.Between.{Between}
use Rattle.counts.specs.declared.choice.SplitStrategy.{SplitStrategy}
use Rattle.lists.specs.Tree.{tree_of, relists}
use Rattle.rebuild.specs.Rebuild.{rebuilt}
use Rattle.rebuild.specs.RebuildCall.{or_empty}

-- asked: a degree within the limits, and a split up to 12
pub record Rebuildable (split : ℕ) (lists : List ℤ) : Type 0 where
  pub degrees : Between 1 (degree_of lists) plan_limit
  pub split_limit : split ≤ 12

-- the coefficients that are listed so at a split, where every cut can be undone
unfoldable pub coefficients_at : SplitStrategy → Basis → (split : ℕ) → (lists : List ℤ) → Option (List ℤ)
coefficients_at strategy basis split lists = rebuilt basis (tree_of (relists strategy) (degree_of lists) (degree_of lists) split) lists

-- left, where `found` is what was rebuilt, `count` coefficients or none: the refusal, 34, then 21, and the buffer with the coefficients in its first
-- places, or unchanged after a refusal
pub record Written (found : Option (List ℤ)) (count : ℕ) (out : List ℤ) (r : ℕ) (out' : List ℤ) : Type 0 where
  pub refusal : r ≡ first_refusal ((missing found, 34) ∷ no_room (length out) count ∷ [])
  pub coefficients : out' ≡ unless_refused r (sets out 0 (or_empty found)) out
