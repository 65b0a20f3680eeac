-- Rising lists: joined ones rise if all of the first is below all of the second, and two with the same members are the same list.
use mathlib.Core.Path.{◌≡◌, refl, ap₂, sym, subst}
use mathlib.Core.Logic.{⊎_elim}
use mathlib.Core.List.Memᴰ
use mathlib.Core.List.{List, [], ◌∷◌, ◌++◌, Memᴰ}
use Prim.Native.Nat.{ℕ, ◌<◌}
use native.Mathlib.Omega.{arith}
use Rattle.needed.specs.Promises.{Rising, empty, single, next}

-- the first is below all others
pub rising_from : (n m : ℕ) (ns : List ℕ) → Rising (n ∷ ns) → Memᴰ m ns → n < m
rising_from n m [] rising member = absurd (Memᴰ.not-nil member)
rising_from n m (k ∷ ns) (next less rising) member =
    ⊎_elim (λ (here : m ≡ k). omega arith) (λ (later : Memᴰ m ns). let more = rising_from k m ns rising later in omega arith)
    (Memᴰ.cases_cons member)

pub rising_rest : (n : ℕ) (ns : List ℕ) → Rising (n ∷ ns) → Rising ns
rising_rest n [] rising = empty
rising_rest n (k ∷ ns) (next less rising) = rising

pub rising_cons : (n : ℕ) (ns : List ℕ) → ((m : ℕ) → Memᴰ m ns → n < m) → Rising ns → Rising (n ∷ ns)
rising_cons n [] below rising = single
rising_cons n (k ∷ ns) below rising = next (below k (Memᴰ.head refl)) rising

pub rising_append : (ms ns : List ℕ) → Rising ms → Rising ns → ((m n : ℕ) → Memᴰ m ms → Memᴰ n ns → m < n) → Rising (ms ++ ns)
rising_append [] ns first second below = second
rising_append (m ∷ ms) ns first second below =
    rising_cons m (ms ++ ns)
    (λ k member. ⊎_elim (rising_from m k ms first) (below m k (Memᴰ.head refl)) (Memᴰ.append_cases ms member))
    (rising_append ms ns (rising_rest m ms first) second (λ k n member later. below k n (Memᴰ.tail member) later))

abbrev Within : (ms ns : List ℕ) → Type 0
Within ms ns = (n : ℕ) → Memᴰ n ms → Memᴰ n ns

-- with the same first member, what one has behind it the other has too
rest_within : (n : ℕ) (ms ns : List ℕ) → Rising (n ∷ ms) → Within (n ∷ ms) (n ∷ ns) → Within ms ns
rest_within n ms ns rising within k member =
    ⊎_elim (λ (same : k ≡ n). let more = rising_from n k ms rising member in absurd (omega arith)) (λ (later : Memᴰ k ns). later)
    (Memᴰ.cases_cons (within k (Memᴰ.tail member)))

-- the first member of each is the least of both
same_first : (m n : ℕ) (ms ns : List ℕ) → Rising (m ∷ ms) → Rising (n ∷ ns) → Within (m ∷ ms) (n ∷ ns) → Within (n ∷ ns) (m ∷ ms) → m ≡ n
same_first m n ms ns first second forth back =
    ⊎_elim (λ (same : m ≡ n). same) (λ (later : Memᴰ m ns). from_second (rising_from n m ns second later))
    (Memᴰ.cases_cons (forth m (Memᴰ.head refl)))
  where
    from_second : n < m → m ≡ n
    from_second less =
        ⊎_elim (λ (same : n ≡ m). sym same) (λ (later : Memᴰ n ms). let more = rising_from m n ms first later in absurd (omega arith))
        (Memᴰ.cases_cons (back n (Memᴰ.head refl)))

pub rising_same : (ms ns : List ℕ) → Rising ms → Rising ns → Within ms ns → Within ns ms → ms ≡ ns
rising_same [] [] first second forth back = refl
rising_same [] (n ∷ ns) first second forth back = absurd (Memᴰ.not-nil (back n (Memᴰ.head refl)))
rising_same (m ∷ ms) [] first second forth back = absurd (Memᴰ.not-nil (forth m (Memᴰ.head refl)))
rising_same (m ∷ ms) (n ∷ ns) first second forth back =
    let same = same_first m n ms ns first second forth back in
    let first_at : Rising (n ∷ ms) = subst (λ (k : ℕ). Rising (k ∷ ms)) same first in
    let forth_at : Within (n ∷ ms) (n ∷ ns) = subst (λ (k : ℕ). Within (k ∷ ms) (n ∷ ns)) same forth in
    let back_at : Within (n ∷ ns) (n ∷ ms) = subst (λ (k : ℕ). Within (n ∷ ns) (k ∷ ms)) same back in
    ap₂ ◌∷◌ same
    (rising_same ms ns (rising_rest m ms first) (rising_rest n ns second) (rest_within n ms ns first_at forth_at)
    (rest_within n ns ms second back_at))
