-- `set_plan::filling::write_all_lists` meets its contract. The invariant: what is left to write, of the members and heads that are still to come and from
-- the next free places on, put into the buffers as they are, gives the whole. Each member's lists take it one member further.
use mathlib.Core.Logic.{⊎_elim, inl, inr}
use mathlib.Core.Path.{refl, ◌∙◌}
use native.Mathlib.Omega.{arith}
use Rattle.set_plan.proofs.ListLaws.{ends_kept, left_start, slice_room, place_room, boundary_place, fits_here, kept_here, next_here, left_none}
use Rattle.set_plan.proofs.filling.write_all_lists.Goals as goal

pub loop-member-init : goal.loop-member-init
loop-member-init c = record {
  out_kept = refl;
  bounds_kept = refl;
  left =
      rw (
        c.into_iter-member-iterator.ensures.into_iter_gives,
        c.zip-member-items.ensures.first,
        c.iter.ensures.rest,
        c.zip-member-items.ensures.second.0,
      ) (left_start c.requires);
}

pub split_at-requires : goal.split_at-requires
split_at-requires c =
    let steps = c.in-Some.ensures.steps in
    slice_room c.loop-member.invariant.left steps.0 steps.1

pub write_own_lists-requires : goal.write_own_lists-requires
write_own_lists-requires c =
    let steps = c.in-Some.ensures.steps in
    fits_here c.loop-member.invariant.left steps.0 steps.1 c.split_at.ensures.front

pub overflow_add-at : goal.overflow_add-at
overflow_add-at c =
    let steps = c.in-Some.ensures.steps in
    omega (arith, place_room c.loop-member.invariant.left steps.0 steps.1)

pub overflow_add-list : goal.overflow_add-list
overflow_add-list c =
    let steps = c.in-Some.ensures.steps in
    omega (arith, boundary_place c.loop-member.invariant.left steps.0 steps.1)

pub loop-member-preserved : goal.loop-member-preserved
loop-member-preserved c =
    let steps = c.in-Some.ensures.steps in
    let inv = c.loop-member.invariant in
    let front = c.split_at.ensures.front in
    let put = c.write_own_lists.ensures in
    record {
      out_kept = kept_here inv.left steps.0 steps.1 front put refl ∙ inv.out_kept;
      bounds_kept = ends_kept put ∙ inv.bounds_kept;
      left = next_here inv.left steps.0 steps.1 front put refl c.split_at.ensures.back;
    }

pub returns : goal.returns
returns c = left_none c.loop-member.invariant.left (⊎_elim (λ first. inl first.1.0) (λ second. inr second.1.0) c.in-None.ensures.steps)
