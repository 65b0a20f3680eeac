-- `sets::marks::greatest_power` meets its contract. The invariant: none of the members passed may need a power above the greatest so far.
use mathlib.Core.Path.{◌≡◌, ◌∙◌, ap₂}
use native.Mathlib.Omega.{arith}
use borrow.Author.Rules.{rules}
use Rattle.std.specs.Prelude.{max}
use lib.ListN.{get_or}
use Rattle.needed.specs.inside.Marks.{greatest_target}
use Rattle.needed.proofs.NeededMarks.{greatest_within_lem}
use Rattle.sets.specs.Own.{own_split}
use Rattle.sets.specs.inside.Heads.{HeadFits}
use Rattle.sets.proofs.Arrays.{any_head, each_at}
use Rattle.sets.proofs.MarkingLaws.{powers_none, powers_more, powers_all}
use Rattle.sets.proofs.marks.greatest_power.Goals as goal

pub loop-head-init : goal.loop-head-init
loop-head-init c = record { most = omega arith; upto = powers_none c.args.heads.now }

pub own_slicing-requires : goal.own_slicing-requires
own_slicing-requires c = each_at any_head HeadFits c.loop-head.head-index c.args.heads.now c.loop-head-test.true c.requires.each

pub loop-head-preserved : goal.loop-head-preserved
loop-head-preserved c =
    let heads = c.args.heads.now in
    let i = c.loop-head.head-index in
    let head = get_or heads i any_head in
    let fits = each_at any_head HeadFits i heads c.loop-head-test.true c.requires.each in
    let own : c.greatest_target.result ≡ greatest_target head.degree (own_split head) =
    c.greatest_target.ensures ∙ ap₂ greatest_target c.own_slicing.ensures.0 c.own_slicing.ensures.1 in
    let within = greatest_within_lem head.degree (own_split head) fits.degrees.from in
    let greater : c.max-greatest.result ≡ max c.loop-head.greatest c.greatest_target.result = search rules in
    record {
      most = omega (arith, own, within, fits.degrees.to, c.loop-head.invariant.most);
      upto = powers_more heads i c.loop-head-test.true c.loop-head.invariant.upto
          (omega arith) (omega (arith, own));
    }

pub returns : goal.returns
returns c = (powers_all c.loop-head.invariant.upto c.loop-head-test.false, c.loop-head.invariant.most)
