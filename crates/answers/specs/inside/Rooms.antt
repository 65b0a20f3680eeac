-- What the functions that answer ask of the lent buffers: as many places as any plan takes, and a place of the text within 64 bits.
use Rattle.std.specs.Prelude.{List, ℕ, ◌<◌, ◌≤◌, ◌^◌, ℤ, length}
use Rattle.answers.specs.Limits.{coefficient_room, list_room, step_room}

-- for a plan and its text from place `at` on
pub record PlanRoom (planned : List ℤ) (bounds steps : List ℕ) (at : ℕ) : Type 0 where
  pub planned_long : list_room ≤ length planned
  pub bounds_long : list_room ≤ length bounds
  pub steps_long : step_room ≤ length steps
  pub place : at < 2 ^ 62

-- and for the coefficients of a line
pub record AnswerRoom (coefficients planned : List ℤ) (bounds steps : List ℕ) (at : ℕ) : Type 0 where
  pub coefficients_long : coefficient_room ≤ length coefficients
  pub plan_room : PlanRoom planned bounds steps at
