use mathlib.Core.Path.{◌≡◌}
use mathlib.Core.Bool.{true}
use Prim.Native.Nat.{◌<◌, ◌^◌}
use lib.ListN.{drop}
use Rattle.lines.specs.Whole.{are_digits, number_from, number_of}
use Rattle.lines.proofs.whole.number_of.Given as goal

abbrev pub invariant-loop-digit : goal.invariant-loop-digit
invariant-loop-digit l = record {
  same : number_from l.number (drop l.digit-index l.digits) ≡ number_of l.digits;
  digits : are_digits (drop l.digit-index l.digits) ≡ true;
  small : l.number < 10 ^ l.digit-index;
}
