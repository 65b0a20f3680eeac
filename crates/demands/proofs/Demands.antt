-- The three demands are met: each statement by the theorem of its name.
use Rattle.demands.specs.Demands.{Total, Equal, Right, Demands}
use Rattle.demands.proofs.Accepts.{covered_accepted}
use Rattle.demands.proofs.Right.{steps_right, stored_right, plans_right}
use Rattle.demands.proofs.MadeBefore.{runs_made_before, plans_made_before}
use Rattle.demands.proofs.Counted.{plans_report, transform_costs}
use Rattle.demands.proofs.PlainStep.{plans_plain}
use Rattle.demands.proofs.Estimated.{plans_estimated}
use Rattle.demands.proofs.Total.{plans_total, plans_made, plan_order, folds_total, lists_total, rebuilds_total, converts_total}
use Rattle.demands.proofs.Total.{trials_total, chains_total, interpolations_total, numbers_total}
use Rattle.demands.proofs.RefusedWalks.{trials_refused, chains_refused}
use Rattle.demands.proofs.Detected.{parities_detected}
use Rattle.demands.proofs.Equal.{published, floats_equal, plans_equal}
use Rattle.demands.proofs.HeadTold.{heads_told}
use Rattle.demands.proofs.Fits.{plans_fit}
use Rattle.demands.proofs.SetTotal.{sets_total}
use Rattle.demands.proofs.SetSized.{set_sizes_total}

pub total : Total
total = record {
  plans_total = plans_total;
  plans_made = plans_made;
  plan_order = plan_order;
  folds_total = folds_total;
  lists_total = lists_total;
  rebuilds_total = rebuilds_total;
  sets_total = sets_total;
  set_sizes_total = set_sizes_total;
  converts_total = converts_total;
  trials_total = trials_total;
  chains_total = chains_total;
  interpolations_total = interpolations_total;
  numbers_total = numbers_total;
  trials_refused = trials_refused;
  chains_refused = chains_refused;
  parities_detected = parities_detected;
}

pub equal : Equal
equal = record { floats_equal = floats_equal; plans_equal = plans_equal; published = published }

pub right : Right
right = record {
  steps_right = steps_right;
  plans_right = plans_right;
  stored_right = stored_right;
  covered_accepted = covered_accepted;
  plans_made_before = plans_made_before;
  runs_made_before = runs_made_before;
  plans_report = plans_report;
  plans_plain = plans_plain;
  transform_costs = transform_costs;
  plans_estimated = plans_estimated;
  heads_told = heads_told;
  plans_fit = plans_fit;
}

pub demands : Demands
demands = record { total = total; equal = equal; right = right }
