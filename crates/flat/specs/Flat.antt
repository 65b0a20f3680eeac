-- Answers as structs of numbers: field by field, a kind by its number.
use Rattle.std.specs.Prelude.{ℕ, Float, Result}
use Rattle.number.specs.Numbers.{float_ops}
use Rattle.algebra.specs.EnumNumbers.{parity_number, transform_number}
use Rattle.number.specs.Split.{Parts}
use Rattle.number.specs.FoldCall.{Folded}
use Rattle.number.specs.Interval.{no_interval}
use Rattle.number.specs.Refused.{numbered}
use Rattle.number.specs.declared.interval.Interval.{Interval}
use Rattle.number.specs.declared.refusal.Refusal.{Refusal}
use Rattle.interpolation.specs.InterpolateCall.{Interpolated}
use Rattle.conversion.specs.ConvertCall.{Converted}
use Rattle.counts.specs.Calls.{SplitChoice, OpCounts, EvalDepth, ConsumedBits, LargestDegree}
use Rattle.lists.specs.ListCall.{Listed}
use Rattle.walk.specs.Trial.{Trial}
use Rattle.walk.specs.Chain.{Chain}
use Rattle.rebuild.specs.RebuildCall.{Rebuilt}
use Rattle.plan.specs.PlanSizes.{PlanSizes}
use Rattle.flat.specs.declared.flat.CValue.{CValue}
use Rattle.flat.specs.declared.flat.CParts.{CParts}
use Rattle.flat.specs.declared.flat.CSplit.{CSplit}
use Rattle.flat.specs.declared.flat.CCounts.{CCounts}
use Rattle.flat.specs.declared.flat.CDepth.{CDepth}
use Rattle.flat.specs.declared.flat.CBits.{CBits}
use Rattle.flat.specs.declared.flat.CDegree.{CDegree}
use Rattle.flat.specs.declared.flat.CFolded.{CFolded}
use Rattle.flat.specs.declared.flat.CConverted.{CConverted}
use Rattle.flat.specs.declared.flat.CInterval.{CInterval}
use Rattle.flat.specs.declared.flat.CInterpolated.{CInterpolated}
use Rattle.flat.specs.declared.flat.CListed.{CListed}
use Rattle.flat.specs.declared.flat.CRebuilt.{CRebuilt}
use Rattle.flat.specs.declared.flat.CSizes.{CSizes}
use Rattle.flat.specs.declared.flat.CTrial.{CTrial}
use Rattle.flat.specs.declared.flat.CChain.{CChain}

abbrev pub flat_parts : Parts → CParts
flat_parts r = record { refusal = r.refusal; a = r.a; b = r.b; distance = r.distance }

abbrev pub flat_split : SplitChoice → CSplit
flat_split r = record { refusal = r.refusal; split = r.split }

abbrev pub flat_counts : OpCounts → CCounts
flat_counts r = record { refusal = r.refusal; ct = r.ct; pt = r.pt }

abbrev pub flat_depth : EvalDepth → CDepth
flat_depth r = record { refusal = r.refusal; depth = r.depth }

abbrev pub flat_bits : ConsumedBits → CBits
flat_bits r = record { refusal = r.refusal; bits = r.bits }

abbrev pub flat_degree : LargestDegree → CDegree
flat_degree r = record { refusal = r.refusal; degree = r.degree }

abbrev pub flat_folded : Folded → CFolded
flat_folded r = record { refusal = r.refusal; transform = transform_number r.transform; parity = parity_number r.parity; count = r.count }

abbrev pub flat_converted : Converted → CConverted
flat_converted r = record { refusal = r.refusal; count = r.count }

abbrev pub flat_interval : (refusal : ℕ) → Interval → CInterval
flat_interval refusal r = record { refusal = refusal; a = r.a; b = r.b; u = r.u; w = r.w }

-- a value, or +0 after a refusal
abbrev pub value_refused : (refusal : ℕ) → CValue
value_refused refusal = record { refusal = refusal; value = float_ops.zero }

abbrev pub value_in : Result Float Refusal → CValue
value_in = numbered (λ (value : Float). record { refusal = 0; value = value }) value_refused

-- an interval with its change pair, or +0 in every field after a refusal
abbrev pub interval_refused : (refusal : ℕ) → CInterval
interval_refused refusal = flat_interval refusal no_interval

abbrev pub interval_in : Result Interval Refusal → CInterval
interval_in = numbered (flat_interval 0) interval_refused

abbrev pub flat_interpolated : Interpolated → CInterpolated
flat_interpolated r = record {
  refusal = r.refusal;
  count = r.count;
  parity = parity_number r.parity;
  a = r.interval.a;
  b = r.interval.b;
  u = r.interval.u;
  w = r.interval.w;
}

abbrev pub flat_listed : Listed → CListed
flat_listed r = record { refusal = r.refusal; degree = r.degree; base = r.base; coefficients = r.coefficients; lists = r.lists }

abbrev pub flat_rebuilt : Rebuilt → CRebuilt
flat_rebuilt r = record { refusal = r.refusal; coefficients = r.coefficients }

abbrev pub flat_sizes : PlanSizes → CSizes
flat_sizes r = record { refusal = r.refusal; coefficients = r.coefficients; lists = r.lists; steps = r.steps }

abbrev pub flat_trial : Trial → CTrial
flat_trial r = record { refusal = r.refusal; remainder = r.remainder }

abbrev pub flat_chain : Chain → CChain
flat_chain r = record { refusal = r.refusal; weight = r.weight }
