-- The steps of a plan (docs/RULES.md, "Steps and the walk"): needed powers rising, then lists and combines with low, high, combine at each cut.
use Rattle.std.specs.Prelude.{Bool, false, cond, ◌&&◌, List, [], ◌∷◌, ◌++◌, map, ℕ, suc, ◌+◌, ◌-◌, eqb}
use Rattle.algebra.specs.declared.Basis.{Basis}
use Rattle.algebra.specs.declared.Parity.{Parity}
use Rattle.number.specs.Split.{parts_of}
use Rattle.needed.specs.NeededList.{needed_list}
use Rattle.counts.specs.Choice.{split_for}
use Rattle.counts.specs.declared.choice.SplitStrategy.{SplitStrategy}
use Rattle.lists.specs.Tree.{Tree, leaf, cut, tree_of, relists}
use Rattle.lists.specs.Arrange.{leaves_of}
use Rattle.walk.specs.declared.plan.Step.{Step}

-- `1 n a b`: make power n from its split
abbrev pub make_step : (n : ℕ) → Step
make_step n = record { kind = 1; x = n; y = (parts_of n).a; z = (parts_of n).b }

-- `2 i 0 0`: push list i
abbrev pub load_step : (i : ℕ) → Step
load_step i = record { kind = 2; x = i; y = 0; z = 0 }

-- `3 p 0 0` or `4 p 0 0`: take high, then low, push high·X_p + low
abbrev pub combine_step : (kind p : ℕ) → Step
combine_step kind p = record { kind = kind; x = p; y = 0; z = 0 }

-- ---- the power steps

-- one for each needed power, rising
unfoldable pub power_steps : Parity → Basis → (degree split : ℕ) → List Step
power_steps parity basis degree split = map make_step (needed_list parity basis degree split)

-- ---- the rule of kind 4

-- the length of the last list of n coefficients
unfoldable pub last_length : Tree → (n : ℕ) → ℕ
last_length leaf n = n
last_length (cut p low high) n = last_length high (n - p)

-- whether the last list is plain: it is a constant alone, at any degree (request Q-2)
unfoldable pub last_plain : (degree : ℕ) → Tree → Bool
last_plain degree tree = eqb (last_length tree (suc degree)) 1

-- a combine is of kind 4 where its high side is the last list alone, and that is plain
unfoldable pub combine_kind : (plain : Bool) (high : Tree) → ℕ
combine_kind plain high = cond (plain && eqb (leaves_of high) 1) 4 3

-- ---- the loads and combines

-- of a tree whose first list is number i; only the high side of a cut ends in the last list
unfoldable pub tree_steps : (plain : Bool) → Tree → (i : ℕ) → List Step
tree_steps plain leaf i = load_step i ∷ []
tree_steps plain (cut p low high) i =
    tree_steps false low i ++ (tree_steps plain high (i + leaves_of low) ++ (combine_step (combine_kind plain high) p ∷ []))

-- of the tree of a whole degree
unfoldable pub list_steps : (degree : ℕ) → Tree → List Step
list_steps degree tree = tree_steps (last_plain degree tree) tree 0

-- ---- all steps

-- of a degree at a split, with a leading slice listed again or not
unfoldable pub steps_at : (leading : Bool) → Parity → Basis → (degree split : ℕ) → List Step
steps_at leading parity basis degree split = power_steps parity basis degree split ++ list_steps degree (tree_of leading degree degree split)

-- of a degree by a strategy
abbrev pub plan_steps : SplitStrategy → Parity → Basis → (degree : ℕ) → List Step
plan_steps strategy parity basis degree = steps_at (relists strategy) parity basis degree (split_for strategy parity basis degree)
