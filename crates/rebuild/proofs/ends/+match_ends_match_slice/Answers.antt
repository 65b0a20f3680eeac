-- `rebuild::ends::match_ends` and `match_slice` meet their contracts. The boundaries of low stand ahead of those of high, so they are matched first, and
-- those of high behind them. The measure is that of `rebuild_part`, by the degree.
use mathlib.Core.Path.{◌≡◌, ap, sym, ◌∙◌}
use mathlib.Core.Bool.{true, false, ◌&&◌}
use Prim.Native.Nat.{ℕ, ◌+◌}
use native.Mathlib.Omega.{arith}
use lib.Dec.{eqb}
use lib.Pow.{pow_pos}
use Rattle.std.specs.Bool.{then_some}
use Rattle.lists.specs.Tree.{listed_again}
use Rattle.lists.proofs.TreeRule.{Again, leading_again}
use Rattle.rebuild.proofs.EndsSteps.{EndsCut}
use Rattle.rebuild.proofs.PartRanges.{smaller_part, smaller_split}
use Rattle.rebuild.proofs.EndsSteps as steps
use Rattle.rebuild.proofs.ends.+match_ends_match_slice.Goals as goal
use Rattle.rebuild.proofs.ends.+match_ends_match_slice.Goals.{match_ends-After-top_power-p, match_slice-After-listed_again, match_slice-Else-listed_again}

-- the cut whose parts are looked for
cut_of : {t : ℕ} (c : match_ends-After-top_power-p t)
    → let args = c.args in
    EndsCut args.leading args.whole args.degree args.split args.at args.n c.top_power-p.result args.bounds.now
cut_of c =
    let base_is = c.power_of_two-base.ensures in
    record { from = omega arith; power = c.top_power-p.ensures }

pub match_ends-top_power-p-requires : goal.match_ends-top_power-p-requires
match_ends-top_power-p-requires t c =
    let base_is = c.power_of_two-base.ensures in
    omega (arith, pow_pos c.args.split)

pub match_ends-overflow_sub-p : goal.match_ends-overflow_sub-p
match_ends-overflow_sub-p t c = steps.positive (cut_of (goal.at.match_ends-overflow_sub-p t c).After-top_power-p)

pub match_ends-match_ends-requires : goal.match_ends-match_ends-requires
match_ends-match_ends-requires t c =
    let here = goal.at.match_ends-match_ends-requires t c in
    let some = steps.positive (cut_of here.After-top_power-p) in
    let under = steps.under (cut_of here.After-top_power-p) in
    let place = c.requires.1 in
    (omega arith, (smaller_part c.requires.0 (omega arith), omega arith))

pub match_ends-returns-in_err-m : goal.match_ends-returns-in_err-m
match_ends-returns-in_err-m t c =
    c.from_residual.ensures
    ∙ steps.cut_none (cut_of (goal.at.match_ends-returns-in_err-m t c).After-top_power-p) c.in_err-m.ensures

pub match_ends-overflow_sub-degree : goal.match_ends-overflow_sub-degree
match_ends-overflow_sub-degree t c = steps.under (cut_of (goal.at.match_ends-overflow_sub-degree t c).After-top_power-p)

pub match_ends-overflow_add-at : goal.match_ends-overflow_add-at
match_ends-overflow_add-at t c =
    let under = steps.under (cut_of (goal.at.match_ends-overflow_add-at t c).After-top_power-p) in
    let place = c.requires.1 in
    record { fits = omega arith }

pub match_ends-match_ends-requires-2 : goal.match_ends-match_ends-requires-2
match_ends-match_ends-requires-2 t c =
    let here = goal.at.match_ends-match_ends-requires-2 t c in
    let some = steps.positive (cut_of here.After-top_power-p) in
    let under = steps.under (cut_of here.After-top_power-p) in
    let place = c.requires.1 in
    (omega arith, (smaller_part c.requires.0 (omega arith), omega arith))

pub match_ends-returns : goal.match_ends-returns
match_ends-returns t c =
    let here = goal.at.match_ends-returns t c in
    steps.cut_both (cut_of here.After-top_power-p) c.in_ok-m.m c.in_ok-m.ensures c.match_ends-2.ensures

-- a slice that the test says is listed again, and one that it says is not
told_again : {t : ℕ} (c : match_slice-After-listed_again t) → c.listed_again.result ≡ true
    → let args = c.args in (args.leading && listed_again args.whole args.degree args.split) ≡ true
told_again c told = sym c.listed_again.ensures ∙ told

again : {t : ℕ} (c : match_slice-After-listed_again t) → c.listed_again.result ≡ true
    → let args = c.args in Again args.whole args.degree args.split
again c told = leading_again c.args.leading _ _ _ (told_again c told)

once : {t : ℕ} (c : match_slice-Else-listed_again t)
    → let args = c.args in (args.leading && listed_again args.whole args.degree args.split) ≡ false
once c = sym c.listed_again.ensures ∙ c.if-listed_again.false

pub match_slice-smaller_split-requires : goal.match_slice-smaller_split-requires
match_slice-smaller_split-requires t c =
    record { from = (again (goal.at.match_slice-smaller_split-requires t c).After-listed_again c.if-listed_again.true).positive; to = c.requires.0.part_limit }

pub match_slice-match_ends-requires : goal.match_slice-match_ends-requires
match_slice-match_ends-requires t c =
    let smaller = (again (goal.at.match_slice-match_ends-requires t c).After-listed_again c.if-listed_again.true).smaller in
    let split_is = c.smaller_split.ensures in
    (omega arith, (smaller_split c.requires.0 (omega arith), c.requires.1.0))

pub match_slice-returns-then-listed_again : goal.match_slice-returns-then-listed_again
match_slice-returns-then-listed_again t c =
    steps.slice_again c.args.leading c.args.whole c.args.degree c.args.split c.args.at c.args.n
    c.args.bounds.now c.requires.1.1 (told_again (goal.at.match_slice-returns-then-listed_again t c).After-listed_again c.if-listed_again.true)
    (rw c.smaller_split.ensures at c.match_ends.ensures)

pub match_slice-returns-in_err-get : goal.match_slice-returns-in_err-get
match_slice-returns-in_err-get t c =
    c.from_residual.ensures
    ∙ steps.slice_short c.args.leading c.args.whole c.args.degree c.args.split c.args.at c.args.n
    c.args.bounds.now c.requires.1.1 (once (goal.at.match_slice-returns-in_err-get t c).Else-listed_again) c.in_err-get.ensures.lookup.3

pub match_slice-returns : goal.match_slice-returns
match_slice-returns t c =
    let found = c.in_ok-get.ensures.lookup.3 in
    let end_is = c.from-end.ensures ∙ found.1 0 in
    c.then_some.ensures
    ∙ ap (λ (e : ℕ). then_some (eqb e (c.args.at + c.args.degree + 1)) (c.args.n + 1)) end_is
    ∙ steps.slice_one c.args.leading c.args.whole c.args.degree c.args.split c.args.at c.args.n
    c.args.bounds.now c.requires.1.1 (once (goal.at.match_slice-returns t c).Else-listed_again) found.0
