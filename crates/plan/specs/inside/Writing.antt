-- What the writers of steps ask for and leave (docs/RULES.md, "Steps and the walk"): four numbers a step.
use Rattle.std.specs.Prelude.{◌≡◌, Bool, true, cond, List, [], ◌∷◌, map, ℕ, ◌+◌, ◌-◌, ◌*◌, ◌≤◌, ◌<◌, length}
use Rattle.std.proofs.lemmas.List.Edits.{sets}
use Rattle.algebra.specs.declared.Basis.{Basis}
use Rattle.algebra.specs.declared.Parity.{Parity}
use Rattle.number.specs.Limits.{plan_limit, count_limit}
use Rattle.needed.specs.NeededList.{needed_count}
use Rattle.needed.specs.inside.Planned.{Planned}
use Rattle.needed.specs.inside.Marks.{Marked, marked_from, count_marks, two_powers}
use Rattle.lists.specs.Tree.{Tree, tree_of}
use Rattle.lists.specs.Arrange.{leaves_of}
use Rattle.lists.specs.inside.Listing.{Ranges}
use Rattle.walk.specs.WalksHeld.{flat}
use Rattle.walk.specs.declared.plan.Instruction.{Instruction}
use Rattle.walk.specs.declared.plan.Instruction.TheVariants.{Make, Load, Combine}
use Rattle.plan.specs.PlanSteps.{make_step, power_steps, last_plain, tree_steps, steps_at}
use Rattle.plan.specs.declared.tree.Place.{Place}

-- step i has its four places, and a u16 holds its numbers
pub record StepFits (i kind x y z : ℕ) (steps : List ℕ) : Type 0 where
  pub places : 4 * i + 4 ≤ length steps
  pub kind_limit : kind ≤ 4
  pub x_limit : x ≤ count_limit
  pub y_limit : y ≤ count_limit
  pub z_limit : z ≤ count_limit

-- the four numbers of a step
abbrev pub numbers_of : Instruction → List ℕ
numbers_of (Make n a b) = 1 ∷ n ∷ a ∷ b ∷ []
numbers_of (Load list) = 2 ∷ list ∷ 0 ∷ 0 ∷ []
numbers_of (Combine plain power) = cond plain 4 3 ∷ power ∷ 0 ∷ 0 ∷ []

-- a u16 holds them
abbrev pub Narrow : Instruction → Type 0
Narrow (Make n a b) = (n ≤ count_limit) × (a ≤ count_limit) × (b ≤ count_limit)
Narrow (Load list) = list ≤ count_limit
Narrow (Combine plain power) = power ≤ count_limit

-- and step i has its four places
pub record InstructionFits (i : ℕ) (instruction : Instruction) (steps : List ℕ) : Type 0 where
  pub places : 4 * i + 4 ≤ length steps
  pub narrow : Narrow instruction

-- ---- the power steps

-- a power that is marked has parts, and its step has its places
pub record PowerFits (marked : Bool) (n step : ℕ) (steps : List ℕ) : Type 0 where
  pub limit : n ≤ plan_limit
  pub from_two : marked ≡ true → 2 ≤ n
  pub places : 4 * (step + cond marked 1 0) ≤ length steps

-- the numbers of a mark at n: those of one step, or none
abbrev pub mark_numbers : (marked : Bool) (n : ℕ) → List ℕ
mark_numbers marked n = cond marked (flat (make_step n ∷ [])) []

-- they stand from step `step` on, and r is the next step
pub record PowerPut (marked : Bool) (n step : ℕ) (steps : List ℕ) (r : ℕ) (steps' : List ℕ) : Type 0 where
  pub numbers : steps' ≡ sets steps (4 * step) (mark_numbers marked n)
  pub next : r ≡ step + cond marked 1 0

-- marked powers have parts, and their steps have their places
pub record MarksFit (marks : List Bool) (steps : List ℕ) : Type 0 where
  pub size : length marks ≤ count_limit
  pub from_two : (n : ℕ) → Marked marks n → 2 ≤ n
  pub places : 4 * count_marks marks ≤ length steps

-- the steps of the marked powers stand from the first place on, and r is their number
pub record MarksPut (marks : List Bool) (steps : List ℕ) (r : ℕ) (steps' : List ℕ) : Type 0 where
  pub numbers : steps' ≡ sets steps 0 (flat (map make_step (marked_from 0 marks)))
  pub next : r ≡ count_marks marks

-- all power steps stand from the first place on, and r is their number
pub record PowersPut (parity : Parity) (basis : Basis) (degree split : ℕ) (steps : List ℕ) (r : ℕ) (steps' : List ℕ) : Type 0 where
  pub numbers : steps' ≡ sets steps 0 (flat (power_steps parity basis degree split))
  pub next : r ≡ needed_count parity basis degree split

-- the powers of two from 2^split on, of at most so many binary digits: their steps have their places
pub record TwoPowersFit (split digits step : ℕ) (steps : List ℕ) : Type 0 where
  pub positive : 0 < split
  pub limit : digits ≤ 12
  pub places : 4 * (step + (digits - split)) ≤ length steps

-- they stand from step `step` on, and r is the next step
pub record TwoPowersPut (split digits step : ℕ) (steps : List ℕ) (r : ℕ) (steps' : List ℕ) : Type 0 where
  pub numbers : steps' ≡ sets steps (4 * step) (flat (map make_step (two_powers split (digits - split))))
  pub next : r ≡ step + (digits - split)

-- ---- the loads and combines

-- of the tree of a part, from list `list` and step `step` on: a u16 holds the numbers of the lists, and there are four places a step, of which
-- there are twice the lists less one
pub record TreeFits (leading : Bool) (whole degree split list step : ℕ) (steps : List ℕ) : Type 0 where
  pub ranges : Ranges whole degree split
  pub list_limit : list + leaves_of (tree_of leading whole degree split) ≤ count_limit
  pub places : 4 * (step + (leaves_of (tree_of leading whole degree split) + leaves_of (tree_of leading whole degree split))) ≤ length steps + 4

-- they stand from step `step` on, and r holds the next list and the next step
pub record TreePut (plain : Bool) (tree : Tree) (list step : ℕ) (steps : List ℕ) (r : Place) (steps' : List ℕ) : Type 0 where
  pub numbers : steps' ≡ sets steps (4 * step) (flat (tree_steps plain tree list))
  pub next_list : r.list ≡ list + leaves_of tree
  pub next_step : r.step + 1 ≡ step + (leaves_of tree + leaves_of tree)

-- ---- all steps

-- the rule of kind 4 is worked out, and there are four places a step
pub record StepsFit (leading plain : Bool) (parity : Parity) (basis : Basis) (degree split : ℕ) (steps : List ℕ) : Type 0 where
  pub planned : Planned degree split
  pub plain_is : plain ≡ last_plain degree (tree_of leading degree degree split)
  pub places : 4 * length (steps_at leading parity basis degree split) ≤ length steps
