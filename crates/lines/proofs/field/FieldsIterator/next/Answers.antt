-- `Fields::next` keeps to its relation: the first tab ends the first field of the rest, and the other fields are those behind it. A rest without a tab
-- is one field, and then nothing is left.
use Rattle.std.proofs.Common.{◌≡◌, ◌≢◌, Some, None, length, ap, ◌∙◌, rules, tests}
use Rattle.std.proofs.lemmas.Iterator.{IsFirst-from_position, YieldsList-from_slice}
use Rattle.lines.specs.Bytes.{tab}
use Rattle.lines.specs.inside.FieldsLeft.{fields_in}
use Rattle.lines.proofs.FieldLaws.{parted, unparted}
use Rattle.lines.proofs.field.FieldsIterator.next.Goals as goal

pub returns-in-Some-clause-steps : goal.returns-in-Some-clause-steps
returns-in-Some-clause-steps c =
    ap fields_in c.in_ok-line.was
    ∙ parted c.in_ok-line.line.now c.in-Some.end
    (IsFirst-from_position _ _ (Some c.in-Some.end) (λ b. b ≡ tab) (λ b. b ≢ tab) c.in-Some.ensures.ran
    (YieldsList-from_slice c.in_ok-line.line.now cc) (λ x q k. search (rules, tests)) (λ x q k. search (rules, tests)))

pub returns-in-Some-clause-goes : goal.returns-in-Some-clause-goes
returns-in-Some-clause-goes c = let shorter = ap length (returns-in-Some-clause-steps c) in search rules

pub returns-in-None-clause-steps : goal.returns-in-None-clause-steps
returns-in-None-clause-steps c =
    ap fields_in c.in_ok-line.was
    ∙ unparted c.in_ok-line.line.now
    (IsFirst-from_position _ _ None (λ b. b ≡ tab) (λ b. b ≢ tab) c.in-None.ensures.ran (YieldsList-from_slice c.in_ok-line.line.now cc)
    (λ x q k. search (rules, tests)) (λ x q k. search (rules, tests)))

pub returns-in-None-clause-goes : goal.returns-in-None-clause-goes
returns-in-None-clause-goes c = let shorter = ap length (returns-in-None-clause-steps c) in search rules
