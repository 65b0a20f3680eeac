-- `rebuild::call::write_rebuilt` meets its contract. It makes the call's last two tests in their order, and nothing is stored to `out` ahead of them.
-- Past both, the room is what was rebuilt, and it is copied.
use mathlib.Core.Path.{◌≡◌, ap, sym, ◌∙◌}
use mathlib.Core.List.{List, ◌++◌}
use Prim.Native.Nat.{ℕ}
use native.Mathlib.Omega.{arith}
use lib.IntN.{ℤ}
use lib.ListN.{length, drop}
use Rattle.lists.proofs.ListCall.{front}
use Rattle.rebuild.proofs.RebuildTests as tests
use Rattle.rebuild.proofs.call.write_rebuilt.Goals as goal

pub returns-then-not-rebuild_lists : goal.returns-then-not-rebuild_lists
returns-then-not-rebuild_lists c =
    tests.cannot_undo_lem c.rebuild_lists.result _ c.rebuild_lists.ensures c.if-not-rebuild_lists.true

pub returns-then-out-n : goal.returns-then-out-n
returns-then-out-n c =
    tests.too_short c.rebuild_lists.result _ c.rebuild_lists.ensures c.if-not-rebuild_lists.false c.if-out-n.true

pub returns : goal.returns
returns c =
    let room = c.rebuild_lists.new.room in
    let out = c.args.out.now in
    let n = length c.args.lists.now in
    let size : length room ≡ n = c.rebuild_lists.auto.room ∙ c.requires.1 in
    tests.found_written c.rebuild_lists.result room c.rebuild_lists.ensures c.if-not-rebuild_lists.false c.if-out-n.false
    (ap (λ (l : List ℤ). l ++ drop n out) c.copy_from_slice.ensures.after
    ∙ ap (λ (k : ℕ). room ++ drop k out) (sym size)
    ∙ sym (front room out (omega (arith, size))))
