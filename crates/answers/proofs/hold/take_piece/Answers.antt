-- `answers::hold::take_piece` meets its contract: the bytes up to the first line feed, or up to the block's end, are put behind those that are held.
use Rattle.std.proofs.Common.{◌≡◌, ◌≢◌, Some, None, ◌-◌, ◌∙◌, length, take, drop, rules, tests}
use Rattle.std.proofs.lemmas.Iterator.{IsFirst-from_position, YieldsList-from_slice}
use Rattle.std.proofs.lemmas.List.{take_rest}
use Rattle.lines.specs.Bytes.{line_feed}
use Rattle.answers.proofs.PieceLaws.{piece_whole, piece_rest}
use Rattle.answers.proofs.hold.take_piece.Goals as goal

pub returns-in_default : goal.returns-in_default
returns-in_default c =
    let rest : take (length c.args.block.now - c.args.at) (drop c.args.at c.args.block.now) ≡ drop c.args.at c.args.block.now =
    take_rest c.args.block.now c.args.at in
    piece_rest c.requires.at_in_bounds c.requires.line_len
    (IsFirst-from_position _ _ None (λ b. b ≡ line_feed) (λ b. b ≢ line_feed) c.in_default.ensures.ran
    (YieldsList-from_slice (drop c.args.at c.args.block.now) (c.iter.ensures.rest ∙ rest)) (λ x q k. search (rules, tests)) (λ x q k. search (rules, tests)))
    (rw rest at c.hold.ensures)

pub returns : goal.returns
returns c =
    let rest : take (length c.args.block.now - c.args.at) (drop c.args.at c.args.block.now) ≡ drop c.args.at c.args.block.now =
    take_rest c.args.block.now c.args.at in
    piece_whole c.requires.at_in_bounds c.requires.line_len
    (IsFirst-from_position _ _ (Some c.in-Some.end) (λ b. b ≡ line_feed) (λ b. b ≢ line_feed) c.in-Some.ensures.ran
    (YieldsList-from_slice (drop c.args.at c.args.block.now) (c.iter.ensures.rest ∙ rest)) (λ x q k. search (rules, tests)) (λ x q k. search (rules, tests)))
    (rw rest at c.hold-2.ensures)
