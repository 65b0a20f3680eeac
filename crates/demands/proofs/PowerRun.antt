-- The power steps of a plan run (docs/RULES.md, "Steps"), and make the needed powers, each with its value. The needed powers are listed rising, and
-- the set is closed under parts, which are smaller: so the parts of each were made before it. By induction over the list.
use mathlib.Core.Path.{◌≡◌, refl, sym, ◌∙◌, ap}
use mathlib.Core.Logic.{⊎_elim}
use mathlib.Core.List.Memᴰ
use mathlib.Core.List.{List, [], ◌∷◌, map, Memᴰ}
use mathlib.Core.Option.{some, none}
use Prim.Native.Nat.{ℕ, zero, suc, ◌≤◌, ◌<◌}
use native.Mathlib.Decide.{ℕ_discrete, dec_lt}
use native.Mathlib.Omega.{arith}
use borrow.Author.Tests.{eq-eqb, ne_eqb, le-leb}
use lib.IntN.{ℤ}
use Rattle.algebra.specs.Operations.{whole_ops}
use Rattle.algebra.specs.Power.{pow, power}
use Rattle.algebra.specs.declared.Basis.{Basis}
use Rattle.algebra.specs.declared.Basis.TheVariants.{Monomial, Chebyshev}
use Rattle.algebra.specs.declared.Parity.{Parity}
use Rattle.algebra.proofs.Chebyshev.{cheb_zero, cheb_one}
use Rattle.algebra.proofs.Integers.{integers}
use Rattle.number.specs.Limits.{plan_limit}
use Rattle.number.specs.Split.{Parts, parts_of, split_of}
use Rattle.number.specs.SplitDistance.{Taken}
use Rattle.number.proofs.SplitParts.{parted, split_accepted}
use Rattle.number.proofs.SplitDistance.{split_product}
use Rattle.needed.specs.Needed.{first, second, apart, Closed}
use Rattle.needed.specs.Promises.{Rising}
use Rattle.needed.proofs.RisingLists.{rising_from, rising_rest}
use Rattle.walk.specs.Rules.{exact_rules}
use Rattle.walk.specs.State.{Powers, Lists}
use Rattle.walk.specs.Make.{is_makeable, with_power, first_powers, power_from, make_of}
use Rattle.walk.specs.Walk.{act_of, step_of, run_of}
use Rattle.walk.specs.declared.plan.Step.{Step}
use Rattle.plan.specs.PlanSteps.{make_step}

-- ---- the values of powers

power_zero : (basis : Basis) (y : ℤ) → power whole_ops basis y 0 ≡ whole_ops.one
unfolding pow
power_zero Monomial y = refl
power_zero Chebyshev y = cheb_zero whole_ops y

power_one : (basis : Basis) (y : ℤ) → power whole_ops basis y 1 ≡ y
unfolding pow
power_one Monomial y = integers.mul-one y
power_one Chebyshev y = cheb_one whole_ops y

with_same : (n : ℕ) (v : ℤ) (powers : Powers ℤ) → with_power n v powers n ≡ some v
unfolding with_power
with_same n v powers = rw (eq-eqb n n refl)

with_other : (n : ℕ) (v : ℤ) (powers : Powers ℤ) (m : ℕ) → (m ≡ n → ⊥) → with_power n v powers m ≡ powers m
unfolding with_power
with_other n v powers m other = rw (ne_eqb m n other)

-- the powers at the parts of a taken index, and in Chebyshev that at their distance, make its power
product : (basis : Basis) (y : ℤ) (powers : Powers ℤ) (n : ℕ) → Taken n → powers (split_of n).a ≡ some (power whole_ops basis y (split_of n).a)
    → powers (split_of n).b ≡ some (power whole_ops basis y (split_of n).b)
    → (basis ≡ Chebyshev → powers (split_of n).distance ≡ some (power whole_ops basis y (split_of n).distance))
    → power_from exact_rules basis powers (split_of n).a (split_of n).b (split_of n).distance ≡ some (power whole_ops basis y n)
unfolding power_from
product Monomial y powers n taken one two distance = rw (one, two) (ap some (sym (split_product integers y Monomial n taken)))
product Chebyshev y powers n taken one two distance = rw (one, two, distance refl) (ap some (sym (split_product integers y Chebyshev n taken)))

-- ---- the powers that were made

-- a set that power steps can make: closed under parts, from 2 to the limit
pub record Makeable (basis : Basis) (Set : ℕ → Type 0) : Type 0 where
  pub closed : Closed basis Set
  pub from_two : (m : ℕ) → Set m → 2 ≤ m
  pub to_limit : (m : ℕ) → Set m → m ≤ plan_limit

module _ (basis : Basis) (y : ℤ) (Set : ℕ → Type 0) where
  -- power m is there, with its value
  abbrev pub Right : Powers ℤ → ℕ → Type 0
  Right powers m = powers m ≡ some (power whole_ops basis y m)

  -- powers 0 and 1 and those of the set below k are there and right; from k on only they are
  pub record Upto (k : ℕ) (powers : Powers ℤ) : Type 0 where
    pub zeroth : Right powers 0
    pub once : Right powers 1
    pub made : (m : ℕ) → m < k → Set m → Right powers m
    pub fresh : (m : ℕ) → k ≤ m → 1 < m → powers m ≡ none

  pub start : Upto 0 (first_powers exact_rules y)
  unfolding first_powers
  start = record {
    zeroth = ap some (sym (power_zero basis y));
    once = ap some (sym (power_one basis y));
    made = λ m below. absurd (omega arith);
    fresh = λ m from two. none_from m two;
  }
    where
      none_from : (m : ℕ) → 1 < m → first_powers exact_rules y m ≡ none
      none_from zero two = absurd (omega arith)
      none_from (suc zero) two = absurd (omega arith)
      none_from (suc (suc m)) two = refl

  -- a power below k is there if, from 2 up, it is in the set
  there : (k m : ℕ) (powers : Powers ℤ) → Upto k powers → m < k → (1 < m → Set m) → Right powers m
  there k zero powers upto below in_set = upto.zeroth
  there k (suc zero) powers upto below in_set = upto.once
  there k (suc (suc m)) powers upto below in_set = upto.made (suc (suc m)) below (in_set (omega arith))

  -- no power of the set stands between k and n
  skip : (k n : ℕ) (powers : Powers ℤ) → k ≤ n → ((m : ℕ) → k ≤ m → Set m → n ≤ m) → Upto k powers → Upto n powers
  skip k n powers from next_is upto = record {
    zeroth = upto.zeroth;
    once = upto.once;
    made = λ m below in_set. by m below in_set (dec_lt m k);
    fresh = λ m later two. upto.fresh m (omega arith) two;
  }
    where
      by : (m : ℕ) → m < n → Set m → Dec (m < k) → Right powers m
      by m below in_set (yes before) = upto.made m before in_set
      by m below in_set (no not-before) = let least = next_is m (omega arith) in_set in absurd (omega arith)

  -- power n is made
  more : (n : ℕ) (powers : Powers ℤ) → Upto n powers → 1 < n → Upto (suc n) (with_power n (power whole_ops basis y n) powers)
  more n powers upto two = record {
    zeroth = with_other n (power whole_ops basis y n) powers 0 (λ e. omega arith) ∙ upto.zeroth;
    once = with_other n (power whole_ops basis y n) powers 1 (λ e. omega arith) ∙ upto.once;
    made = λ m below in_set. by m below in_set (ℕ_discrete m n);
    fresh = λ m later up. with_other n (power whole_ops basis y n) powers m (λ e. omega arith) ∙ upto.fresh m (omega arith) up;
  }
    where
      by : (m : ℕ) → m < suc n → Set m → Dec (m ≡ n) → Right (with_power n (power whole_ops basis y n) powers) m
      by m below in_set (yes same) = rw same (with_same n (power whole_ops basis y n) powers)
      by m below in_set (no other) = with_other n (power whole_ops basis y n) powers m other ∙ upto.made m (omega arith) in_set

  -- its parts are there
  from_parts : Makeable basis Set → (n : ℕ) (powers : Powers ℤ) → Upto n powers → Set n
      → power_from exact_rules basis powers (parts_of n).a (parts_of n).b (parts_of n).distance ≡ some (power whole_ops basis y n)
  from_parts makeable n powers upto in_set =
      let two = makeable.from_two n in_set in
      let limit = makeable.to_limit n in_set in
      let parts = parted n two in
      let accepted = split_accepted n two (omega arith) in
      let distance = (parts_of n).distance in
      rw accepted at (product basis y powers n (ap (λ (x : Parts). x.refusal) accepted ∙ parts.taken))
      (there n (parts_of n).a powers upto (omega arith) (λ up. makeable.closed n (parts_of n).a two in_set (first up refl)))
      (there n (parts_of n).b powers upto (omega arith) (λ up. makeable.closed n (parts_of n).b two in_set (second up refl)))
      (λ chebyshev. there n distance powers upto (omega arith) (λ up. makeable.closed n distance two in_set (apart chebyshev up refl)))

-- ---- the steps

module _ (parity : Parity) (basis : Basis) (lists : Lists) (y : ℤ) (Set : ℕ → Type 0) (makeable : Makeable basis Set) where
  make_runs : (n : ℕ) (powers : Powers ℤ) (waiting : List ℤ) → Upto basis y Set n powers → Set n
      → step_of exact_rules parity basis lists (make_step n) (record { powers = powers; waiting = waiting })
      ≡ some (record { powers = with_power n (power whole_ops basis y n) powers; waiting = waiting })
  unfolding act_of make_of is_makeable
  make_runs n powers waiting upto in_set =
      let two = makeable.from_two n in_set in
      let limit = makeable.to_limit n in_set in
      rw (
        split_accepted n two (omega arith),
        le-leb n plan_limit limit,
        eq-eqb (parts_of n).a (parts_of n).a refl,
        eq-eqb (parts_of n).b (parts_of n).b refl,
        upto.fresh n (omega arith) two,
        from_parts basis y Set makeable n powers upto in_set,
      )

  -- the steps run, and leave the whole set made
  pub record Made (steps : List Step) (powers : Powers ℤ) (waiting : List ℤ) : Type 0 where
    pub after : Powers ℤ
    pub runs : run_of exact_rules parity basis lists steps (record { powers = powers; waiting = waiting })
        ≡ some (record { powers = after; waiting = waiting })
    pub zeroth : Right basis y Set after 0
    pub once : Right basis y Set after 1
    pub all : (m : ℕ) → Set m → Right basis y Set after m

  -- of a rising list that holds the set from k on, and nothing else
  pub run_powers : (k : ℕ) (ns : List ℕ) (powers : Powers ℤ) (waiting : List ℤ) → Rising ns
      → ((m : ℕ) → Memᴰ m ns → (k ≤ m) × Set m) → ((m : ℕ) → k ≤ m → Set m → Memᴰ m ns)
      → Upto basis y Set k powers → Made (map make_step ns) powers waiting
  unfolding run_of
  run_powers k [] powers waiting rising sound complete upto = record {
    after = powers;
    runs = refl;
    zeroth = upto.zeroth;
    once = upto.once;
    all = λ m in_set. by m in_set (dec_lt m k);
  }
    where
      by : (m : ℕ) → Set m → Dec (m < k) → Right basis y Set powers m
      by m in_set (yes before) = upto.made m before in_set
      by m in_set (no not-before) = absurd (Memᴰ.not-nil (complete m (omega arith) in_set))
  run_powers k (n ∷ ns) powers waiting rising sound complete upto =
      let in_set : Set n = (sound n (Memᴰ.head {x = n} refl)).1 in
      let from : k ≤ n = (sound n (Memᴰ.head {x = n} refl)).0 in
      let here : Upto basis y Set n powers = skip basis y Set k n powers from least upto in
      let rest = run_powers (suc n) ns (with_power n (power whole_ops basis y n) powers) waiting (rising_rest n ns rising)
      (λ m member. (rising_from n m ns rising member, (sound m (Memᴰ.tail member)).1)) later
      (more basis y Set n powers here (makeable.from_two n in_set)) in
      record {
        after = rest.after;
        runs = rw (make_runs n powers waiting here in_set) rest.runs;
        zeroth = rest.zeroth;
        once = rest.once;
        all = rest.all;
      }
    where
      least : (m : ℕ) → k ≤ m → Set m → n ≤ m
      least m from in_set =
          ⊎_elim (λ (same : m ≡ n). omega arith) (λ (member : Memᴰ m ns). let above = rising_from n m ns rising member in omega arith)
          (Memᴰ.cases_cons (complete m from in_set))

      later : (m : ℕ) → suc n ≤ m → Set m → Memᴰ m ns
      later m above in_set =
          let first_in : k ≤ n = (sound n (Memᴰ.head {x = n} refl)).0 in
          ⊎_elim (λ (same : m ≡ n). absurd (omega arith)) (λ (member : Memᴰ m ns). member)
          (Memᴰ.cases_cons (complete m (omega arith) in_set))
