-- With four known kinds the answer is the call's own answer for them, with the call's own buffers, and else refusal 43 with the buffers unchanged.
use mathlib.Core.Path.{◌≡◌}
use mathlib.Core.Bool.{false}
use Prim.Native.Nat.{ℕ}
use Rattle.plan.specs.PlanHead.{no_head}
use Rattle.plan.specs.PlanCall.{Planned}
use Rattle.flat.specs.Kinds.{knows_settings}
use Rattle.flat.specs.Unknown.{when_known}
use Rattle.flat.specs.Heads.{flat_planned}
use Rattle.flat.proofs.Reading.{refused_told, left_told}
use Rattle.exports.proofs.planning.planned.Goals as goal

abbrev refused_plan : (refusal : ℕ) → Planned
refused_plan refusal = record { refusal = refusal; head = no_head }

pub returns-in_err-fold : goal.returns-in_err-fold
unfolding knows_settings
returns-in_err-fold c =
    let refused = c.in_err-fold.ensures in
    let unknown : knows_settings c.args.strategy c.args.parity c.args.basis c.args.fold ≡ false = rw refused.0 in
    record {
      answer = refused_told flat_planned _ refused_plan _ _ c.from_residual.ensures.1 refused.1 unknown;
      coefficients = left_told _ _ unknown;
      boundaries = left_told _ _ unknown;
      numbers = left_told _ _ unknown;
    }

pub returns-in_err-settings : goal.returns-in_err-settings
unfolding knows_settings
returns-in_err-settings c =
    let fold = c.in_ok-fold.ensures in
    let refused = c.in_err-settings.ensures in
    let unknown : knows_settings c.args.strategy c.args.parity c.args.basis c.args.fold ≡ false = rw (fold.0, refused.0) in
    record {
      answer = refused_told flat_planned _ refused_plan _ _ c.from_residual-in_err-settings.ensures.1 refused.1 unknown;
      coefficients = left_told _ _ unknown;
      boundaries = left_told _ _ unknown;
      numbers = left_told _ _ unknown;
    }

pub returns : goal.returns
unfolding when_known knows_settings
returns c =
    let fold = c.in_ok-fold.ensures in
    let settings = c.in_ok-settings.ensures in
    record {
      answer = rw (fold.0, settings.0, c.plan.ensures.answer, fold.1, settings.1);
      coefficients = rw (fold.0, settings.0, c.plan.ensures.coefficients, fold.1, settings.1);
      boundaries = rw (fold.0, settings.0, c.plan.ensures.boundaries, fold.1, settings.1);
      numbers = rw (fold.0, settings.0, c.plan.ensures.numbers, fold.1, settings.1);
    }
