-- `needed::marks::mark_parts` meets its contract. The parts are those of the definition, since n is within the limits of the index split; they and
-- their distance are below n, so that each mark is inside the array.
use mathlib.Core.Path.{◌≡◌, sym, ◌∙◌, ap}
use Prim.Native.Nat.{ℕ, ◌≤◌}
use native.Mathlib.Omega.{arith}
use Rattle.number.specs.Limits.{degree_limit}
use Rattle.number.specs.Split.{Parts, split_of, parts_of}
use Rattle.needed.specs.inside.Marks.{mark_at, mark_apart, mark_parts}
use Rattle.number.proofs.SplitParts.{Parted, split_accepted, parted}
use Rattle.needed.proofs.MarkLaws.{apart_monomial, apart_chebyshev}
use Rattle.needed.proofs.marks.mark_parts.Goals as goal
use Rattle.needed.proofs.marks.mark_parts.Goals.{in-Monomial, in-Chebyshev}

-- the call gives the parts of the definition
record Made (n : ℕ) (parts : Parts) : Type 0 where
  is : parts ≡ parts_of n
  two : Parted n parts

made : {n : ℕ} {parts : Parts} → 2 ≤ n → n ≤ degree_limit → parts ≡ split_of n → Made n parts
made {n} from to is =
    let accepted = is ∙ split_accepted n from to in
    record { is = accepted; two = rw accepted (parted n from) }

pub mark-requires : goal.mark-requires
mark-requires c =
    let parts = made c.requires.0 (omega (arith, c.requires)) c.parts_of-parts.ensures in
    omega (arith, parts.two, c.requires)

pub mark-requires-2 : goal.mark-requires-2
mark-requires-2 c =
    let parts = made c.requires.0 (omega (arith, c.requires)) c.parts_of-parts.ensures in
    omega (arith, parts.two, c.requires)

pub mark-requires-3 : goal.mark-requires-3
mark-requires-3 c =
    let parts = made c.requires.0 (omega (arith, c.requires)) c.parts_of-parts.ensures in
    omega (arith, parts.two, c.requires)

pub returns : goal.returns
unfolding mark_parts
returns c =
    let n = c.args.n in
    let basis = c.args.basis in
    let marks = c.args.marks.now in
    let parts_are = (made c.requires.0 (omega (arith, c.requires)) c.parts_of-parts.ensures).is in
    let apart_made : c.match-basis.marks ≡ mark_apart basis n marks =
    elim c.match-basis.branch [
      | in-Monomial w ↦ w.marks-is ∙ sym (apart_monomial n marks w.in-Monomial.is)
      | in-Chebyshev w ↦
          w.marks-is ∙ w.mark.ensures ∙ ap (λ (x : Parts). mark_at x.distance marks) parts_are
          ∙ sym (apart_chebyshev n marks w.in-Chebyshev.is)
    ] in
    c.mark-3.ensures ∙ ap (mark_at c.parts_of-parts.result.b) (c.mark-2.ensures ∙ ap (mark_at c.parts_of-parts.result.a) apart_made)
    ∙ ap (λ (x : Parts). mark_at x.b (mark_at x.a (mark_apart basis n marks))) parts_are
