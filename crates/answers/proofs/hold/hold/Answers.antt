-- `answers::hold::hold` meets its contract: the bytes that have places stand behind those that are held, and the others would not be kept.
use Rattle.std.proofs.Common.{◌≡◌, ap, ◌∙◌, arith, rules, take, ◌++◌, List, ℕ}
use Rattle.std.proofs.lemmas.Slice.{take-put_mid}
use Rattle.answers.proofs.PieceLaws.{kept_both}
use Rattle.answers.proofs.hold.hold.Goals as goal

pub returns : goal.returns
returns c =
    let a = c.args in
    let count = c.min-count.result in
    let put : c.copy_from_slice.new.self ≡ take count a.bytes.now = search rules in
    let long = c.copy_from_slice.ensures.len in
    record {
      within = omega (arith, c.min-count.ensures);
      text =
          take-put_mid a.held _ a.line.now c.copy_from_slice.new.self _ (omega (arith, long)) c.requires
          ∙ ap (λ (bs : List ℕ). take a.held a.line.now ++ bs) put
          ∙ kept_both a.line.now a.bytes.now a.held count c.requires c.min-count.ensures;
    }
