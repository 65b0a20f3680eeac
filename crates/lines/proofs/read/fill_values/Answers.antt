-- `lines::read::fill_values` meets its contract: what is written, with what the fields that are left write, makes up the whole.
use Rattle.std.proofs.Common.{◌≡◌, sym, ap, ◌∙◌, arith, rules, length, List, ℕ, inl, ℤ, set, add-one}
use Rattle.std.specs.Iterator.Adapters.{enumerate_source, enumerate_count}
use Rattle.number.proofs.Signed.{back}
use Rattle.lines.specs.Whole.{value_of}
use Rattle.lines.specs.Line.{are_whole}
use Rattle.lines.proofs.LineLaws.{whole_first, whole_rest}
use Rattle.lines.proofs.read.fill_values.Goals as goal

pub loop-i-init-derived : goal.loop-i-init-derived
loop-i-init-derived c =
    let source : enumerate_source c.into_iter-i-iterator.result ≡ c.args.fields = search rules in
    let count : enumerate_count c.into_iter-i-iterator.result ≡ 0 = search rules in
    rw (source, count) ((tt, tt, inl (omega (arith, c.requires.few))), tt)

pub value_of-requires : goal.value_of-requires
value_of-requires c = whole_first _ _ (sym (ap are_whole c.in-Some.ensures.steps.0) ∙ c.loop-i.invariant.3)

pub loop-i-preserved : goal.loop-i-preserved
loop-i-preserved c =
    let loop = c.loop-i in
    let steps = c.in-Some.ensures.steps in
    let shorter = ap (λ (fs : List (List ℕ)). length fs) steps.0 in
    let put : c.store.new.buffer ≡ set loop.buffer (enumerate_count loop.i-iterator) (value_of c.in-Some.field.now) =
    c.store.ensures
    ∙ ap (λ (z : ℤ). set loop.buffer c.in-Some.i z) (back c.value_of.type_inv c.value_of.ensures)
    ∙ ap (λ (n : ℕ). set loop.buffer n (value_of c.in-Some.field.now)) steps.1 in (
      (tt, tt, inl (omega (arith, shorter, steps.2, loop.invariant.2))),
      tt,
      omega (arith, shorter, steps.2, loop.invariant.2),
      whole_rest _ _ (sym (ap are_whole steps.0) ∙ loop.invariant.3),
      rw (put, steps.2, add-one) (rw steps.0 at loop.invariant.4),
    )
