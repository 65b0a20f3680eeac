-- The list of the needed powers: it holds exactly these, and rises. Going down, the list holds at each number what is needed above it: the next number is
-- needed if it is a target or a part of a needed one, which is larger and so is listed already.
use mathlib.Core.Path.{◌≡◌, refl, subst, sym}
use mathlib.Core.Bool.{Bool, true, false, cond, ◌&&◌, ◌||◌}
use mathlib.Core.Logic.{◌⊎◌, inl, inr, ⊎_elim, ◌↔◌}
use mathlib.Core.List.Memᴰ
use mathlib.Core.List.{List, [], ◌∷◌, Memᴰ}
use Prim.Native.Nat.{ℕ, zero, suc, ◌<◌}
use native.Mathlib.Nat.{eq-or-lt_of_le}
use native.Mathlib.Omega.{arith}
use borrow.Author.Tests.{lt-ltb, ltb-true, le-leb, leb-true, eq-eqb, eqb-true}
use lib.Dec.{ltb, leb, eqb}
use Rattle.std.proofs.lemmas.Bool.{and_parts, or_cases, or_left, or_right}
use Rattle.algebra.specs.Allowed.{allows}
use Rattle.algebra.specs.declared.Basis.{Basis}
use Rattle.algebra.specs.declared.Basis.TheVariants.{Monomial, Chebyshev}
use Rattle.algebra.specs.declared.Parity.{Parity}
use Rattle.number.specs.Bits.{top_power}
use Rattle.number.specs.Split.{parts_of}
use Rattle.needed.specs.Needed.{Part, first, second, apart, Needed, target, part, baby_limit, Target, top, small, NeededPower}
use Rattle.needed.specs.NeededList.{is_target, is_part, is_part_of_one, listed_down, needed_list}
use Rattle.needed.specs.Promises.{Rising, empty}
use Rattle.needed.proofs.Flags.{by_test}
use Rattle.needed.proofs.Needed.{part_less, needed_from_two, needed_within, none_below_two}
use Rattle.needed.proofs.RisingLists.{rising_cons}

-- ---- the tests

module _ (parity : Parity) (degree split : ℕ) where
  -- the test names the targets
  pub target_is : (n : ℕ) → is_target parity (top_power degree) (baby_limit degree split) n ≡ true → Target parity degree split n
  unfolding is_target
  target_is n is = by_side (or_cases _ _ is)
    where
      by_side : (((eqb n (top_power degree) && leb 2 n) ≡ true) ⊎ ((leb 3 n && (ltb n (baby_limit degree split) && allows parity n)) ≡ true))
          → Target parity degree split n
      by_side (inl tests) =
          let two = and_parts _ _ tests in
          top (leb-true 2 n two.1) (eqb-true n (top_power degree) two.0)
      by_side (inr tests) =
          let two = and_parts _ _ tests in
          let below = and_parts _ _ two.1 in
          small (leb-true 3 n two.0) (ltb-true n (baby_limit degree split) below.0) below.1

  pub is_target_lem : (n : ℕ) → Target parity degree split n → is_target parity (top_power degree) (baby_limit degree split) n ≡ true
  unfolding is_target
  is_target_lem n (top from is) =
      let tests : (eqb n (top_power degree) && leb 2 n) ≡ true = rw (eq-eqb n (top_power degree) is) (le-leb 2 n from) in
      or_left _ _ tests
  is_target_lem n (small from below allowed) =
      let tests : (leb 3 n && (ltb n (baby_limit degree split) && allows parity n)) ≡ true =
      rw (le-leb 3 n from, lt-ltb n (baby_limit degree split) below) allowed in
      or_right (eqb n (top_power degree) && leb 2 n) _ tests

-- the tests name the parts
part_is : (basis : Basis) (n m : ℕ) → is_part basis n m ≡ true → Part basis n m
unfolding is_part
part_is Monomial n m is =
    let two = and_parts _ _ is in
    let above = ltb-true 1 m two.0 in
    ⊎_elim (λ one. first above (eqb-true m (parts_of n).a one)) (λ other. second above (eqb-true m (parts_of n).b other)) (or_cases _ _ two.1)
part_is Chebyshev n m is =
    let two = and_parts _ _ is in
    let above = ltb-true 1 m two.0 in
    ⊎_elim (λ one. first above (eqb-true m (parts_of n).a one))
    (λ later.
    ⊎_elim (λ other. second above (eqb-true m (parts_of n).b other)) (λ far. apart refl above (eqb-true m (parts_of n).distance far))
    (or_cases _ _ later))
    (or_cases _ _ two.1)

is_part_lem : (basis : Basis) (n m : ℕ) → Part basis n m → is_part basis n m ≡ true
unfolding is_part
is_part_lem Monomial n m (first above is) = rw (lt-ltb 1 m above, eq-eqb m (parts_of n).a is)
is_part_lem Monomial n m (second above is) = rw (lt-ltb 1 m above) (or_right (eqb m (parts_of n).a) _ (eq-eqb m (parts_of n).b is))
is_part_lem Monomial n m (apart in_chebyshev above is) = let clash : ◌≡◌ {A = ℕ} 0 1 = cc in absurd (omega arith)
is_part_lem Chebyshev n m (first above is) = rw (lt-ltb 1 m above, eq-eqb m (parts_of n).a is)
is_part_lem Chebyshev n m (second above is) =
    rw (lt-ltb 1 m above) (or_right (eqb m (parts_of n).a) _ (or_left (eqb m (parts_of n).b) _ (eq-eqb m (parts_of n).b is)))
is_part_lem Chebyshev n m (apart in_chebyshev above is) =
    rw (lt-ltb 1 m above)
    (or_right (eqb m (parts_of n).a) _ (or_right (eqb m (parts_of n).b) _ (eq-eqb m (parts_of n).distance is)))

-- and the wholes that have m as a part
part_of_one : (basis : Basis) (ns : List ℕ) (m : ℕ) → is_part_of_one basis ns m ≡ true → (n : ℕ) × Memᴰ n ns × Part basis n m
unfolding is_part_of_one
part_of_one basis [] m is = let clash : ◌≡◌ {A = ℕ} 0 1 = cc in absurd (omega arith)
part_of_one basis (n ∷ ns) m is =
    ⊎_elim (λ here. (n, Memᴰ.head refl, part_is basis n m here))
    (λ later. let rest = part_of_one basis ns m later in (rest.0, Memᴰ.tail rest.1, rest.2))
    (or_cases _ _ is)

one_has_part : (basis : Basis) (ns : List ℕ) (n m : ℕ) → Memᴰ n ns → Part basis n m → is_part_of_one basis ns m ≡ true
unfolding is_part_of_one
one_has_part basis [] n m member is = absurd (Memᴰ.not-nil member)
one_has_part basis (k ∷ ns) n m member is =
    ⊎_elim (λ (here : n ≡ k). or_left _ _ (is_part_lem basis k m (subst (λ (x : ℕ). Part basis x m) here is)))
    (λ (later : Memᴰ n ns). or_right (is_part basis k m) _ (one_has_part basis ns n m later is))
    (Memᴰ.cases_cons member)

-- ---- going down

module _ (basis : Basis) (T : ℕ → Type 0) (test : ℕ → Bool) (tells : (n : ℕ) → test n ≡ true → T n) (told : (n : ℕ) → T n → test n ≡ true) where
  -- the list holds what is needed above n, and rises
  record Above (n : ℕ) (ns : List ℕ) : Type 0 where
    pub rising : Rising ns
    pub higher : (m : ℕ) → Memᴰ m ns → n < m
    pub needed : (m : ℕ) → Memᴰ m ns → Needed basis T m
    pub all : (m : ℕ) → n < m → Needed basis T m → Memᴰ m ns

  module _ (n : ℕ) (ns : List ℕ) (above : Above (suc n) ns) where
    -- whether the next is listed
    abbrev next : Bool
    next = test (suc n) || is_part_of_one basis ns (suc n)

    next_needed : next ≡ true → Needed basis T (suc n)
    next_needed is = ⊎_elim (λ one. target (tells (suc n) one)) (λ other. of_part (part_of_one basis ns (suc n) other)) (or_cases _ _ is)
      where
        of_part : (k : ℕ) × Memᴰ k ns × Part basis k (suc n) → Needed basis T (suc n)
        of_part (k, member, is_part_lem) = part {n = k} (omega (arith, above.higher k member)) (above.needed k member) is_part_lem

    needed_next : (m : ℕ) → m ≡ suc n → Needed basis T m → next ≡ true
    needed_next m same (target is) = or_left _ _ (told (suc n) (subst T same is))
    needed_next m same (part {n = whole} from needed is_part_lem) =
        let less = part_less basis whole m from is_part_lem in
        or_right (test (suc n)) _
        (one_has_part basis ns whole (suc n) (above.all whole (omega arith) needed) (subst (Part basis whole) same is_part_lem))

    taken : next ≡ true → Above n (suc n ∷ ns)
    taken is = record {
      rising = rising_cons (suc n) ns above.higher above.rising;
      higher = λ m member.
          ⊎_elim (λ (here : m ≡ suc n). omega arith) (λ (later : Memᴰ m ns). let more = above.higher m later in omega arith)
          (Memᴰ.cases_cons member);
      needed = λ m member.
          ⊎_elim (λ (here : m ≡ suc n). subst (Needed basis T) (sym here) (next_needed is)) (above.needed m) (Memᴰ.cases_cons member);
      all = λ m from needed.
          ⊎_elim (λ (here : suc n ≡ m). Memᴰ.head (sym here)) (λ (more : suc n < m). Memᴰ.tail (above.all m more needed))
          (eq-or-lt_of_le from);
    }

    passed : next ≡ false → Above n ns
    passed is = record {
      rising = above.rising;
      higher = λ m member. let more = above.higher m member in omega arith;
      needed = above.needed;
      all = λ m from needed.
          ⊎_elim (λ (here : suc n ≡ m). let found = needed_next m (sym here) needed in let clash : ◌≡◌ {A = ℕ} 0 1 = cc in absurd (omega arith))
          (λ (more : suc n < m). above.all m more needed)
          (eq-or-lt_of_le from);
    }

    one_down : Above n (cond next (suc n ∷ ns) ns)
    one_down = by_test (λ (b : Bool). Above n (cond b (suc n ∷ ns) ns)) next taken passed

  all_down : (n : ℕ) (ns : List ℕ) → Above n ns → Above 0 (listed_down basis test n ns)
  unfolding listed_down
  all_down zero ns above = above
  all_down (suc n) ns above = all_down n (cond (next n ns above) (suc n ∷ ns) ns) (one_down n ns above)

-- ---- the needed powers

module _ (parity : Parity) (basis : Basis) (degree split : ℕ) where
  -- above the degree none is needed
  none_above : (n : ℕ) → degree < n → NeededPower parity basis degree split n → ⊥
  none_above n over needed = by_degree (eq-or-lt_of_le {n = 0} {m = degree} (omega arith))
    where
      by_degree : (0 ≡ degree) ⊎ (0 < degree) → ⊥
      by_degree (inl zeroth) = none_below_two parity basis degree split (omega arith) n needed
      by_degree (inr positive) = let most = needed_within parity basis degree split positive n needed in omega arith

  listed : Above basis (Target parity degree split) (is_target parity (top_power degree) (baby_limit degree split)) (target_is parity degree split)
      (is_target_lem parity degree split) 0 (needed_list parity basis degree split)
  unfolding needed_list
  listed =
      all_down basis (Target parity degree split) _ (target_is parity degree split) (is_target_lem parity degree split) degree []
      (record {
        rising = empty;
        higher = λ m member. absurd (Memᴰ.not-nil member);
        needed = λ m member. absurd (Memᴰ.not-nil member);
        all = λ m over needed. absurd (none_above m over needed);
      })

  pub needed_listed : (n : ℕ) → Memᴰ n (needed_list parity basis degree split) ↔ NeededPower parity basis degree split n
  needed_listed n =
      (listed.needed n, λ needed. let from = needed_from_two parity basis degree split n needed in listed.all n (omega arith) needed)

  pub needed_rising : Rising (needed_list parity basis degree split)
  needed_rising = listed.rising
