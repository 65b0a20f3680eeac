-- What a kind that was read says of its number, and what a call answers where a number is none of its kind's.
use mathlib.Core.Path.{◌≡◌, sym, ◌∙◌, subst}
use mathlib.Core.Bool.{Bool, true, false}
use Prim.Native.Nat.{ℕ, ◌<◌}
use borrow.Author.Rules.{rules}
use Rattle.std.specs.Prelude.{Result, Ok, Err, MatchResult}
use Rattle.std.specs.Result.{IsErrAnd}
use Rattle.algebra.specs.EnumNumbers.{basis_number, parity_number, transform_number}
use Rattle.algebra.specs.declared.Basis.{Basis}
use Rattle.algebra.specs.declared.Parity.{Parity}
use Rattle.algebra.specs.declared.PolynomialInputTransform.{PolynomialInputTransform}
use Rattle.counts.specs.StrategyNumber.{strategy_number}
use Rattle.counts.specs.declared.choice.SplitStrategy.{SplitStrategy}
use Rattle.number.specs.Refused.{numbered}
use Rattle.number.specs.declared.refusal.Refusal.{Refusal}
use Rattle.number.specs.declared.refusal.Refusal.TheVariants.{UnknownKind}
use Rattle.flat.specs.Kinds.{is_basis, is_parity, is_strategy, is_transform, basis_numbered, parity_numbered, strategy_numbered, transform_numbered}
use Rattle.flat.specs.Kinds.{knows_pair, knows_all}
use Rattle.flat.specs.Unknown.{when_known}
use Rattle.flat.proofs.KindNumbers.{kinds_told}

-- ---- the kinds: one that was read is known, and is what its number means

pub basis_read : {n : ℕ} (b : Basis) → basis_number b ≡ n → (is_basis n ≡ true) × (b ≡ basis_numbered n)
basis_read b is =
    subst (λ (k : ℕ). (is_basis k ≡ true) × (b ≡ basis_numbered k)) is (kinds_told.bases.accepted b, sym (kinds_told.bases.same b))

pub parity_read : {n : ℕ} (p : Parity) → parity_number p ≡ n → (is_parity n ≡ true) × (p ≡ parity_numbered n)
parity_read p is =
    subst (λ (k : ℕ). (is_parity k ≡ true) × (p ≡ parity_numbered k)) is (kinds_told.parities.accepted p, sym (kinds_told.parities.same p))

pub strategy_read : {n : ℕ} (s : SplitStrategy) → strategy_number s ≡ n → (is_strategy n ≡ true) × (s ≡ strategy_numbered n)
strategy_read s is =
    subst (λ (k : ℕ). (is_strategy k ≡ true) × (s ≡ strategy_numbered k)) is (kinds_told.strategies.accepted s, sym (kinds_told.strategies.same s))

pub transform_read : {n : ℕ} (t : PolynomialInputTransform) → transform_number t ≡ n → (is_transform n ≡ true) × (t ≡ transform_numbered n)
transform_read t is =
    subst (λ (k : ℕ). (is_transform k ≡ true) × (t ≡ transform_numbered k)) is (kinds_told.transforms.accepted t, sym (kinds_told.transforms.same t))

-- and of a number above them none is

pub no_basis : {n : ℕ} → 1 < n → is_basis n ≡ false
no_basis {n} above = search (rules, above)

pub no_parity : {n : ℕ} → 2 < n → is_parity n ≡ false
no_parity {n} above = search (rules, above)

pub no_strategy : {n : ℕ} → 1 < n → is_strategy n ≡ false
no_strategy {n} above = search (rules, above)

pub no_transform : {n : ℕ} → 4 < n → is_transform n ≡ false
no_transform {n} above = search (rules, above)

-- ---- pairs and settings

pub pair_read : (parity basis : ℕ) → is_parity parity ≡ true → is_basis basis ≡ true → knows_pair parity basis ≡ true
unfolding knows_pair
pair_read parity basis p b = rw (p, b)

pub pair_without_parity : (parity basis : ℕ) → is_parity parity ≡ false → knows_pair parity basis ≡ false
unfolding knows_pair
pair_without_parity parity basis p = rw p

pub pair_without_basis : (parity basis : ℕ) → is_parity parity ≡ true → is_basis basis ≡ false → knows_pair parity basis ≡ false
unfolding knows_pair
pair_without_basis parity basis p b = rw (p, b)

pub all_read : (strategy parity basis : ℕ) → is_strategy strategy ≡ true → knows_pair parity basis ≡ true → knows_all strategy parity basis ≡ true
unfolding knows_all
all_read strategy parity basis s pair = rw (s, pair)

pub all_without_strategy : (strategy parity basis : ℕ) → is_strategy strategy ≡ false → knows_all strategy parity basis ≡ false
unfolding knows_all
all_without_strategy strategy parity basis s = rw s

pub all_without_pair : (strategy parity basis : ℕ) → is_strategy strategy ≡ true → knows_pair parity basis ≡ false → knows_all strategy parity basis ≡ false
unfolding knows_all
all_without_pair strategy parity basis s pair = rw (s, pair)

-- ---- a refusal of an unknown kind

-- what is read is refused
pub not_read : {X : Type 0} {known : Bool} (Accepted : X → Type 0) {refusal : Refusal} (r : Result X Refusal) → IsErrAnd r (λ (f : Refusal). f ≡ refusal)
    → refusal ≡ UnknownKind → known ≡ false → MatchResult r Accepted (λ (f : Refusal). (known ≡ false) × (f ≡ UnknownKind))
not_read Accepted (Ok x) never is unknown = absurd never
not_read Accepted (Err f) same is unknown = (unknown, same ∙ is)

-- the call is refused with 43
pub refused_told : {T X Y : Type 0} (flat : X → Y) (accepted : T → X) (refused : ℕ → X) {known : Bool} (meant : Y) {refusal : Refusal}
    (r : Result T Refusal) → IsErrAnd r (λ (f : Refusal). f ≡ refusal) → refusal ≡ UnknownKind → known ≡ false
    → flat (numbered accepted refused r) ≡ when_known known meant (flat (refused 43))
unfolding when_known
refused_told flat accepted refused meant (Ok t) never is unknown = absurd never
refused_told flat accepted refused meant (Err f) same is unknown = rw (same, is, unknown)

-- and its buffers stay
pub left_told : {Y : Type 0} {known : Bool} (meant left : Y) → known ≡ false → left ≡ when_known known meant left
unfolding when_known
left_told meant left unknown = rw unknown

-- with known kinds it is what is meant
pub accepted_told : {X : Type 0} {known : Bool} {meant : X} (refused : X) → known ≡ true → meant ≡ when_known known meant refused
unfolding when_known
accepted_told refused sure = rw sure
