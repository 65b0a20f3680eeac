-- The requests that have landed are met: each statement by the theorem of its name.
use mathlib.Core.Path.{refl}
use mathlib.Core.Bool.{true, false}
use Rattle.demands.specs.Requests.{BufferSizes, LastConstant, PlanChains, SplitCases, DegreeForBudget, SplitWithDistance, IntervalInHead}
use Rattle.demands.specs.Requests.{BackFromLists, CurvesAdded, CurvesShared, BothWays, Requests}
use Rattle.algebra.proofs.PolynomialSumLaw.{polynomial_sum_law}
use Rattle.number.proofs.SplitDistance.{third_is_distance, parts_differ, refused_zero, split_product}
use Rattle.bases.proofs.RowsLaw.{rows_law}
use Rattle.bases.proofs.Convert.{whole_exactly_if}
use Rattle.bases.proofs.FromTheTop.{leading_coefficient, from_the_top}
use Rattle.counts.specs.Choice.{split_for}
use Rattle.counts.specs.MinDepth.{min_depth}
use Rattle.counts.proofs.Promises.{cases_published, chosen}
use Rattle.counts.proofs.BudgetPromises.{largest_degrees, bits_fall, none_below_scale}
use Rattle.lists.proofs.ArrangedKept.{arranged_kept}
use Rattle.lists.proofs.ListSums.{lists_add, lists_multiply}
use Rattle.rebuild.proofs.Promises.{rebuilds_lists, lists_rebuilt, lists_tell}
use Rattle.rebuild.proofs.StopsAt.{stopped_refused}
use Rattle.walk.proofs.Paths.{heaviest_greatest}
use Rattle.walk.proofs.StepsWeigh.{steps_weigh}
use Rattle.walk.proofs.UnusedPower.{unused_left_out}
use Rattle.walk.proofs.HeaviestChain.{heaviest_chain}
use Rattle.walk.proofs.IntervalUnread.{interval_unread}
use Rattle.demands.proofs.Sized.{plans_sized, sizes_order}
use Rattle.demands.proofs.PlainStep.{plans_plain}
use Rattle.demands.proofs.Estimated.{plans_estimated, cheaper_reported}
use Rattle.demands.proofs.StoredEarlier.{earlier_right}
use Rattle.demands.proofs.Weighed.{stored_weighed, plans_weighed, chain_order}
use Rattle.demands.proofs.HeadInterval.{intervals_told, unordered_refused, plans_alike}
use Rattle.demands.proofs.RebuiltPlans.{rebuilds_plans, plans_rebuilt, rebuilt_right, plans_tell, rebuild_order}
use Rattle.demands.proofs.MadePlan.{plans_if_accepted}
use Rattle.demands.proofs.AddedPlans.{lengths_shape, plans_add, added_right, plans_multiply, multiplied_right}
use Rattle.demands.proofs.SetAccepts.{covered_sets_accepted}
use Rattle.demands.proofs.SetPowers.{sets_share, sets_in_order}
use Rattle.demands.proofs.SetRight.{members_as_alone, members_right, set_stored_right, sets_right}
use Rattle.demands.proofs.SetAnswer.{sets_answered}
use Rattle.demands.proofs.SetCounted.{sets_report, shared_costs_told, sets_written}
use Rattle.demands.proofs.SetOne.{ones_planned}
use Rattle.demands.proofs.SetSaves.{sets_save}
use Rattle.demands.proofs.SetFits.{sets_fit}
use Rattle.demands.proofs.SetTotal.{sets_made, set_order, set_refusals_told}
use Rattle.demands.proofs.SetSized.{sets_sized, set_sizes_order, set_room}
use Rattle.demands.proofs.Conversions.{converts_accepted, calls_convert, empty_converts, calls_there_and_back, convert_order}
use Rattle.demands.proofs.Conversions.{convert_refusals_told, fractions_refused, chebyshev_no_larger, converted_accepted, converted_plans_right}

pub buffer_sizes : BufferSizes
buffer_sizes = record { plans_sized = plans_sized; sizes_order = sizes_order }

pub last_constant : LastConstant
last_constant = record {
  plans_plain = plans_plain;
  plans_estimated = plans_estimated;
  cheaper_reported = cheaper_reported;
  earlier_right = earlier_right;
}

pub plan_chains : PlanChains
plan_chains = record {
  steps_weigh = steps_weigh;
  heaviest_greatest = heaviest_greatest;
  heaviest_chain = heaviest_chain;
  unused_left_out = unused_left_out;
  stored_weighed = stored_weighed;
  plans_weighed = plans_weighed;
  chain_order = chain_order;
}

pub split_cases : SplitCases
unfolding split_for min_depth
split_cases = record { one_each = refl; read_off = λ parity basis degree. refl; cases_published = cases_published; chosen = chosen }

pub degree_for_budget : DegreeForBudget
degree_for_budget = record {
  largest_degrees = largest_degrees;
  bits_fall = bits_fall;
  largest_order = λ strategy budget input coeff. refl;
  none_below_scale = none_below_scale;
}

pub split_with_distance : SplitWithDistance
split_with_distance = record {
  third_is_distance = third_is_distance;
  parts_differ = parts_differ;
  refused_zero = refused_zero;
  split_product = λ 𝓡. split_product 𝓡;
}

pub interval_in_head : IntervalInHead
interval_in_head = record {
  intervals_told = intervals_told;
  interval_unread = interval_unread;
  unordered_refused = unordered_refused;
  plans_alike = plans_alike;
}

pub back_from_lists : BackFromLists
back_from_lists = record {
  rebuilds_plans = rebuilds_plans;
  rebuilds_lists = rebuilds_lists;
  plans_rebuilt = plans_rebuilt;
  lists_rebuilt = lists_rebuilt;
  rebuilt_right = rebuilt_right;
  plans_tell = plans_tell;
  lists_tell = lists_tell;
  rebuild_order = rebuild_order;
  stopped_refused = stopped_refused;
}

pub curves_added : CurvesAdded
curves_added = record {
  plans_add = plans_add false;
  plans_multiply = plans_multiply false;
  plans_if_accepted = plans_if_accepted;
  lists_add = lists_add;
  lists_multiply = lists_multiply;
  polynomial_sum_law = λ 𝓡. polynomial_sum_law 𝓡;
  folded_plans_add = plans_add true;
  folded_plans_multiply = plans_multiply true;
  added_right = added_right;
  multiplied_right = multiplied_right;
  lengths_shape = lengths_shape;
  arranged_kept = arranged_kept;
}

pub curves_shared : CurvesShared
curves_shared = record {
  covered_sets_accepted = covered_sets_accepted;
  sets_made = sets_made;
  sets_share = sets_share;
  sets_in_order = sets_in_order;
  members_as_alone = members_as_alone;
  members_right = members_right;
  sets_right = sets_right;
  set_stored_right = set_stored_right;
  sets_report = sets_report;
  shared_costs_told = shared_costs_told;
  sets_answered = sets_answered;
  set_refusals_told = set_refusals_told;
  set_order = set_order;
  sets_written = sets_written;
  sets_save = sets_save;
  ones_planned = ones_planned;
  sets_fit = sets_fit;
  sets_sized = sets_sized;
  set_sizes_order = set_sizes_order;
  set_room = set_room;
}

pub both_ways : BothWays
both_ways = record {
  converts_accepted = converts_accepted;
  calls_convert = calls_convert;
  whole_exactly_if = whole_exactly_if;
  fractions_refused = fractions_refused;
  calls_there_and_back = calls_there_and_back;
  convert_order = convert_order;
  convert_refusals_told = convert_refusals_told;
  chebyshev_no_larger = chebyshev_no_larger;
  empty_converts = empty_converts;
  rows_law = λ 𝓡. rows_law 𝓡;
  leading_coefficient = leading_coefficient;
  from_the_top = from_the_top;
  converted_accepted = converted_accepted;
  converted_plans_right = converted_plans_right;
}

pub requests : Requests
requests = record {
  buffer_sizes = buffer_sizes;
  last_constant = last_constant;
  plan_chains = plan_chains;
  split_cases = split_cases;
  degree_for_budget = degree_for_budget;
  split_with_distance = split_with_distance;
  interval_in_head = interval_in_head;
  back_from_lists = back_from_lists;
  curves_added = curves_added;
  curves_shared = curves_shared;
  both_ways = both_ways;
}
