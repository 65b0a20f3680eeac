use lib.ListN.{take}
use Rattle.lists.specs.Lists.{joined}
use Rattle.texts.specs.PlanText.{lines_of, lists_in, shown_steps}
use Rattle.texts.specs.Put.{Put}
use Rattle.texts.proofs.plan.put_lines.Given as goal

abbrev pub invariant-loop-k : goal.invariant-loop-k
invariant-loop-k l = Put l.initial.out l.from (joined (take l.k (lines_of l.head (lists_in l.c l.bounds) (shown_steps l.head l.steps)))) l.out l.at
