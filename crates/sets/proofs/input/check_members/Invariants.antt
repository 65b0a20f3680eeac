use mathlib.Core.List.{map}
use mathlib.Core.Path.{◌≡◌}
use Prim.Native.Nat.{◌≤◌}
use lib.ListN.{length, drop}
use Rattle.number.specs.Refusal.{first_refusal}
use Rattle.lists.specs.Lists.{joined}
use Rattle.sets.specs.Members.{handed_count, curves_in}
use Rattle.sets.specs.SetCall.{own_tests}
use Rattle.sets.proofs.InputLaws.{refusal_from}
use Rattle.sets.proofs.input.check_members.Given as goal

abbrev pub invariant-loop-member : goal.invariant-loop-member
invariant-loop-member l = record {
  room : handed_count (drop l.member-index l.members) ≤ length l.rest;
  rest : first_refusal (joined (map own_tests (curves_in l.members l.fn.c))) ≡ refusal_from l.member-index l.members l.rest;
}
