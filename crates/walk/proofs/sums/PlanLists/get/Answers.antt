-- The boundaries rise, so that list i starts before it ends and ends within the coefficients. The part lent is then what the definition takes.
use Rattle.std.proofs.Common.{sym, length, arith}
use Rattle.walk.proofs.BoundaryLaws.{within, list_past, list_is}
use Rattle.walk.proofs.sums.PlanLists.get.Goals as goal

pub returns-then-self-i : goal.returns-then-self-i
returns-then-self-i c =
    let lists = c.args.self.now in
    sym (list_past lists.coefficients.now lists.bounds.now c.args.i c.if-self-i.true)

pub offset_bounds-self-start : goal.offset_bounds-self-start
offset_bounds-self-start c =
    let lists = c.args.self.now in
    let fits = within (length lists.coefficients.now) lists.bounds.now c.args.i lists.rising c.if-self-i.false in
    omega (arith, c.start_of-start.ensures)

pub slice_bounds-result-count : goal.slice_bounds-result-count
slice_bounds-result-count c =
    let lists = c.args.self.now in
    let fits = within (length lists.coefficients.now) lists.bounds.now c.args.i lists.rising c.if-self-i.false in
    omega (arith, c.start_of-start.ensures)

pub slice_bounds-result-start : goal.slice_bounds-result-start
slice_bounds-result-start c =
    let lists = c.args.self.now in
    let fits = within (length lists.coefficients.now) lists.bounds.now c.args.i lists.rising c.if-self-i.false in
    omega (arith, c.start_of-start.ensures)

pub slice_bounds-result-end : goal.slice_bounds-result-end
slice_bounds-result-end c =
    let lists = c.args.self.now in
    let fits = within (length lists.coefficients.now) lists.bounds.now c.args.i lists.rising c.if-self-i.false in
    omega (arith, c.start_of-start.ensures)

pub returns : goal.returns
returns c =
    let lists = c.args.self.now in
    rw (c.from-end.ensures, c.start_of-start.ensures) (sym (list_is lists.coefficients.now lists.bounds.now c.args.i c.if-self-i.false))
