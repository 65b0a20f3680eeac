-- The last list of a tree. It is the last of the lengths, so that the rule of kind 4 asks for a last list of one. It lies on the high side of every cut
-- that it is under: the combine of the innermost of these stands right behind its load, and has that list alone on its high side. These cuts are at
-- ever smaller powers of two, which sum up to the degree if the list is a constant.
use mathlib.Core.Path.{◌≡◌, refl, sym, ◌∙◌, ap, ap₂}
use mathlib.Core.Bool.{Bool, true, false, cond, ◌&&◌, and_comm}
use mathlib.Core.List.{List, [], ◌∷◌, ◌++◌, append_assoc}
use Prim.Native.Nat.{ℕ, suc, ◌+◌, ◌-◌, ◌*◌, ◌^◌, ◌≤◌, ◌<◌}
use native.Mathlib.Decide.{dec_lt}
use native.Mathlib.Nat.{add-mul, one-mul, two-pow-succ}
use native.Mathlib.Omega.{arith}
use borrow.Author.Tests.{ne_eqb}
use lib.Dec.{leb}
use lib.ListN.{length, length-append}
use lib.Pow.{pow_mono, pow-add}
use Rattle.algebra.specs.declared.Basis.{Basis}
use Rattle.algebra.specs.declared.Parity.{Parity}
use Rattle.counts.specs.Slices.{last_of}
use Rattle.counts.proofs.TallyLaws.{last_append}
use Rattle.lists.specs.Tree.{Tree, leaf, cut, tree_of}
use Rattle.lists.specs.TreeFacts.{Sound}
use Rattle.lists.specs.Arrange.{leaves_of, lengths_of}
use Rattle.lists.proofs.Arranging.{some_leaves}
use Rattle.walk.specs.declared.plan.Step.{Step}
use Rattle.plan.specs.PlanSteps.{load_step, combine_step, last_length, last_plain, combine_kind, tree_steps, steps_at}
use Rattle.plan.specs.Reported.{of_kind}
use Rattle.plan.proofs.StepCounts.{steps_counted}
use Rattle.demands.specs.PlainStep.{lone_last}

-- ---- its length

pub leaves_length : (tree : Tree) (n : ℕ) → leaves_of tree ≡ length (lengths_of tree n)
unfolding leaves_of lengths_of
leaves_length leaf n = refl
leaves_length (cut p low high) n = rw length-append (ap₂ ◌+◌ (leaves_length low p) (leaves_length high (n - p)))

last_length_lem : (tree : Tree) (n : ℕ) → last_length tree n ≡ last_of (lengths_of tree n)
unfolding last_length lengths_of last_of
last_length_lem leaf n = refl
last_length_lem (cut p low high) n =
    last_length_lem high (n - p)
    ∙ sym (last_append (lengths_of low p) (lengths_of high (n - p)) (omega (arith, leaves_length high (n - p), some_leaves high)))

-- a last list of one after another list is one that is plain, with two lists or more
pub lone_last_lem : (degree : ℕ) (tree : Tree) → lone_last (lengths_of tree (suc degree)) ≡ (leb 2 (leaves_of tree) && last_plain degree tree)
unfolding last_plain
lone_last_lem degree tree = rw (leaves_length tree (suc degree), last_length_lem tree (suc degree))

-- so one step is of kind 4 if there is such a list, and none otherwise
pub fours : (leading : Bool) (parity : Parity) (basis : Basis) (degree split : ℕ)
    → of_kind 4 (steps_at leading parity basis degree split) ≡ cond (lone_last (lengths_of (tree_of leading degree degree split) (suc degree))) 1 0
fours leading parity basis degree split =
    let tree = tree_of leading degree degree split in
    (steps_counted leading parity basis degree split).plain_ones
    ∙ ap (λ (t : Bool). cond t 1 0) (and_comm (last_plain degree tree) (leb 2 (leaves_of tree)) ∙ sym (lone_last_lem degree tree))

-- ---- its combine

-- an odd multiple of a power of two and a greater power of two make another
odd_more : (exponent level odd : ℕ) → (2 * odd + 1) * 2 ^ exponent < 2 ^ suc level
    → 2 ^ suc level + (2 * odd + 1) * 2 ^ exponent ≡ (2 * (odd + 2 ^ (level - exponent)) + 1) * 2 ^ exponent
odd_more exponent level odd below =
    let rest = level - exponent in
    let digits : suc level ≡ suc rest + exponent = omega (arith, lower (dec_lt level exponent)) in
    let greater : 2 ^ suc level ≡ 2 ^ suc rest * 2 ^ exponent = ap (2 ^◌) digits ∙ pow-add 2 (suc rest) exponent in
    let factors : 2 ^ suc rest + (2 * odd + 1) ≡ 2 * (odd + 2 ^ rest) + 1 = omega (arith, two-pow-succ rest) in
    ap (◌+ (2 * odd + 1) * 2 ^ exponent) greater ∙ sym (add-mul (2 ^ suc rest) (2 * odd + 1) (2 ^ exponent)) ∙ ap (◌* 2 ^ exponent) factors
  where
    lower : Dec (level < exponent) → exponent ≤ level
    lower (yes higher) =
        absurd (omega (arith, pow_mono {i = suc level} {j = exponent} higher, add-mul (2 * odd) 1 (2 ^ exponent), one-mul (2 ^ exponent)))
    lower (no within) = omega arith

regroup : {middle : List Step} (first before : List Step) (load plain : Step) (after last : List Step) → middle ≡ before ++ (load ∷ plain ∷ after)
    → first ++ (middle ++ last) ≡ (first ++ before) ++ (load ∷ plain ∷ (after ++ last))
regroup first before load plain after last is =
    rw is (ap (first ++◌) (append_assoc before (load ∷ plain ∷ after) last) ∙ sym (append_assoc first before (load ∷ plain ∷ (after ++ last))))

-- the loads and combines of a tree for n coefficients, from list i on, whose last list is one
pub record LoneEnd (tree : Tree) (n i : ℕ) : Type 0 where
  pub before : List Step
  pub after : List Step
  pub exponent : ℕ
  pub odd : ℕ
  pub steps_are : tree_steps true tree i ≡ before ++ (load_step (i + leaves_of tree - 1) ∷ combine_step 4 (2 ^ exponent) ∷ after)
  pub number_is : n ≡ suc ((2 * odd + 1) * 2 ^ exponent)

lone_end : (base p : ℕ) (low high : Tree) (n i : ℕ) → Sound base (cut p low high) n → last_length high (n - p) ≡ 1 → LoneEnd (cut p low high) n i
unfolding tree_steps leaves_of last_length combine_kind
lone_end base p low leaf n i sound one =
    let at : i + (leaves_of low + 1) - 1 ≡ i + leaves_of low = omega arith in
    record {
      before = tree_steps false low i;
      after = [];
      exponent = suc sound.level;
      odd = 0;
      steps_are = rw (at, sound.power);
      number_is = omega (arith, sound.power, sound.under);
    }
lone_end base p low (cut p' low' high') n i sound one =
    let j = i + leaves_of low in
    let inner = lone_end base p' low' high' (n - p) j sound.high one in
    let less : (2 * inner.odd + 1) * 2 ^ inner.exponent < 2 ^ suc sound.level =
    omega (arith, inner.number_is, sound.power, sound.half, sound.under) in
    let more = odd_more inner.exponent sound.level inner.odd less in
    let several : 2 ≤ leaves_of low' + leaves_of high' = omega (arith, some_leaves low', some_leaves high') in
    let kind : combine_kind true (cut p' low' high') ≡ 3 = rw (ne_eqb (leaves_of low' + leaves_of high') 1 (λ same. omega arith)) in
    let at : i + (leaves_of low + (leaves_of low' + leaves_of high')) ≡ j + (leaves_of low' + leaves_of high') = omega arith in
    record {
      before = tree_steps false low i ++ inner.before;
      after = inner.after ++ (combine_step 3 p ∷ []);
      exponent = inner.exponent;
      odd = inner.odd + 2 ^ (sound.level - inner.exponent);
      steps_are = rw (at, kind) (regroup (tree_steps false low i) inner.before _ _ inner.after (combine_step 3 p ∷ []) inner.steps_are);
      number_is = omega (arith, inner.number_is, sound.power, sound.under, more);
    }

pub lone_in : (base : ℕ) (tree : Tree) (n i : ℕ) → Sound base tree n → 2 ≤ leaves_of tree → last_length tree n ≡ 1 → LoneEnd tree n i
unfolding leaves_of last_length
lone_in base leaf n i sound two one = absurd (omega arith)
lone_in base (cut p low high) n i sound two one = lone_end base p low high n i sound one
