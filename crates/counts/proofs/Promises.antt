-- The promises are kept: each is a law of the files beside this one.
use Prim.Native.Nat.{ℕ}
use Rattle.algebra.specs.declared.Basis.{Basis}
use Rattle.algebra.specs.declared.Parity.{Parity}
use Rattle.counts.specs.Promises.{CasesPublished, Chosen}
use Rattle.counts.proofs.MinDepthLaws.{case_published, split_published}
use Rattle.counts.proofs.MinMultLaws.{mult_smallest, mult_only}
use Rattle.counts.proofs.ChoiceLaws.{split_range}

pub cases_published : CasesPublished
cases_published = case_published

pub chosen : (parity : Parity) (basis : Basis) (degree : ℕ) → Chosen parity basis degree
chosen parity basis degree = record {
  published = split_published parity basis degree;
  least_pair = mult_smallest parity basis degree;
  only = mult_only parity basis degree;
  from_one = λ strategy from to. (split_range strategy parity basis degree (record { from = from; to = to })).from;
  to_twelve = λ strategy from to. (split_range strategy parity basis degree (record { from = from; to = to })).to;
}
