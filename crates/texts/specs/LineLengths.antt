-- How long a line can be, so that a caller knows how large a buffer has room for it.
use Rattle.std.specs.Prelude.{List, ℕ, ◌+◌, ◌*◌, ◌<◌, ◌≤◌, ◌^◌, ℤ, length}
use Rattle.number.specs.Exact.{Within}
use Rattle.walk.specs.declared.plan.Head.{Head}
use Rattle.walk.specs.declared.plan.Step.{Step}
use Rattle.texts.specs.Text.{list_line, refusal_line}
use Rattle.texts.specs.PlanText.{head_line, step_line}

-- the numbers of a head or step, each of 64 bits
pub record HeadFits (head : Head) : Type 0 where
  pub degree : head.degree < 2 ^ 64
  pub base : head.base < 2 ^ 64
  pub ct : head.ct < 2 ^ 64
  pub pt : head.pt < 2 ^ 64
  pub depth : head.depth < 2 ^ 64

pub record StepFits (step : Step) : Type 0 where
  pub x : step.x < 2 ^ 64
  pub y : step.y < 2 ^ 64
  pub z : step.z < 2 ^ 64

-- a list of i64 takes at most 22 bytes a coefficient and 2 more, so one of at most 64 takes at most 1,410; any other line at most 128, and a step
-- whose numbers are at most 4,096, as every plan's are, at most 17
pub record LineLengths : Type 0 where
  pub lists : (c : List ℤ) → Within (2 ^ 63) c → length (list_line c) ≤ length c * 22 + 2
  pub short_lists : (c : List ℤ) → Within (2 ^ 63) c → length c ≤ 64 → length (list_line c) ≤ 1410
  pub heads : (head : Head) → HeadFits head → length (head_line head) ≤ 128
  pub steps : (step : Step) → StepFits step → length (step_line step) ≤ 128
  pub small_steps : (step : Step) → step.x ≤ 4096 → step.y ≤ 4096 → step.z ≤ 4096 → length (step_line step) ≤ 17
  pub refusals : (refusal : ℕ) → refusal < 2 ^ 64 → length (refusal_line refusal) ≤ 128
