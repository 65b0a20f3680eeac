-- Floats that are whole numbers. `Whole x z` says that the float x is the whole number z, as `IsWhole` does, with the sign and the magnitude
-- at hand; a zero may have either sign.
-- `of_int f z` is z rounded once, and never -0. Of whole numbers up to 2 ^ prec, a sum, a difference and a product with a positive
-- number of `of_int`s are the `of_int` of the sum, the difference and the product, bit for bit: both sides round the same number once.
use mathlib.Core.Path.{◌≡◌, refl, sym, ap, ◌∙◌, subst}
use mathlib.Core.Bool.{Bool, true, false, not, cond}
use mathlib.Core.List.{[], ◌∷◌}
use Prim.Native.Nat.{ℕ, zero, suc, ◌+◌, ◌-◌, ◌*◌, ◌^◌, ◌≤◌, ◌<◌}
use native.Mathlib.Nat.{mul-one, mul_comm, mul_assoc, mul_left_comm, mul-pos, add-mul, suc-mul, mul-sub}
use native.Mathlib.Nat.{zero-lt-suc, mul-lt-mul_of_pos_right, mul-le-mul_right}
use native.Mathlib.Omega.{arith}
use borrow.Author.Tests.{lt-ltb, le-ltb, ltb-true, ltb-false}
use lib.IntN.{ℤ, pos, negsuc, neg_ℤ, nat_abs, sub_ℕ, ◌+ℤ◌, ◌-ℤ◌, ◌*ℤ◌}
use lib.Dec.{ltb}
use lib.Ieee.{Float, nan, inf, fin, Format, prec, low, emax, up, down, unlike, odd, units, round, neg, sum, add, sub, mul, of_int}
use lib.Ieee.Fits.{down_pos}
use lib.Ieee.Exact.{HasValue}
use lib.Ieee.Back.{round_whole}
use lib.Ieee.Scale.{round_same}
use Rattle.algebra.proofs.Integers.{integers}
use Rattle.algebra.proofs.RingLaws.{neg_mul, mul_neg}
use Rattle.algebra.proofs.Solve.{◌:=◌, ◌:*◌, :-◌, ring}
use Rattle.algebra.proofs.Magnitudes.{abs_neg}
use Rattle.number.specs.Exact.{signed, IsWhole}

-- ---- the words

pub record Whole (x : Float) (z : ℤ) : Type 0 where
  pub s : Bool
  pub n : ℕ
  pub value : HasValue x s n 1
  pub is : signed s n ≡ z

pub abs_signed : (s : Bool) (n : ℕ) → nat_abs (signed s n) ≡ n
abs_signed false n = refl
abs_signed true n = abs_neg (pos n)

pub of_int_lem : (f : Format) (z : ℤ) → nat_abs z ≤ 2 ^ prec f → Whole (of_int f z) z
unfolding of_int
of_int_lem f (pos n) h = record { s = false; n = n; value = round_whole f false n h; is = refl }
of_int_lem f (negsuc n) h = record { s = true; n = suc n; value = round_whole f true (suc n) h; is = refl }

-- ---- two values by one denominator
scaled : (m u n d e : ℕ) → m * u * 1 ≡ n * d → m * u * e ≡ n * (d * e)
scaled m u n d e h = ap (λ (x : ℕ). x * e) (sym (mul-one (m * u)) ∙ h) ∙ mul_assoc n d e

scaled_left : (m u n d e : ℕ) → m * u * 1 ≡ n * d → m * u * e ≡ n * (e * d)
scaled_left m u n d e h = scaled m u n d e h ∙ ap (λ (x : ℕ). n * x) (mul_comm d e)

-- ---- sum
sum_round : (f : Format) (s : Bool) (a b c : ℕ) → 0 < c → round f s (a * c + b * c) c ≡ round f s (a + b) 1
sum_round f s a b c C = round_same f s (a * c + b * c) c (a + b) 1 C (zero-lt-suc 0) (mul-one (a * c + b * c) ∙ sym (add-mul a b c))

sub_mul : (a b c : ℕ) → (a - b) * c ≡ a * c - b * c
sub_mul a b c = mul_comm (a - b) c ∙ mul-sub c a b ∙ ap (λ (x : ℕ). x - c * b) (mul_comm c a) ∙ ap (λ (x : ℕ). a * c - x) (mul_comm c b)

diff_round : (f : Format) (s : Bool) (a b c : ℕ) → 0 < c → round f s (a * c - b * c) c ≡ round f s (a - b) 1
diff_round f s a b c C = round_same f s (a * c - b * c) c (a - b) 1 C (zero-lt-suc 0) (mul-one (a * c - b * c) ∙ sym (sub_mul a b c))

ltb_scale : (a b c : ℕ) → 0 < c → ltb (a * c) (b * c) ≡ ltb a b
ltb_scale a b c C = by_test (ltb a b) refl
  where
    by_test : (t : Bool) → ltb a b ≡ t → ltb (a * c) (b * c) ≡ t
    by_test true e = lt-ltb (a * c) (b * c) (mul-lt-mul_of_pos_right (ltb-true a b e) C)
    by_test false e = le-ltb (a * c) (b * c) (mul-le-mul_right c (ltb-false a b e))

pub sum_scale : (f : Format) (s : Bool) (a : ℕ) (t : Bool) (b c : ℕ) → 0 < c → sum f s (a * c) t (b * c) c ≡ sum f s a t b 1
unfolding sum
sum_scale f false a false b c C = sum_round f false a b c C
sum_scale f true a true b c C = sum_round f true a b c C
sum_scale f false a true b c C = rw (ltb_scale a b c C, diff_round f true b a c C, diff_round f false a b c C)
sum_scale f true a false b c C = rw (ltb_scale a b c C, diff_round f false b a c C, ltb_scale b a c C, diff_round f (ltb b a) a b c C)

-- ---- the sum of two values
pub add_value : (f : Format) (x y : Float) (s : Bool) (a : ℕ) (t : Bool) (b : ℕ) → HasValue x s a 1 → HasValue y t b 1 → add f x y ≡ sum f s a t b 1
unfolding add
add_value f nan y s a t b v w = elim v [ ]
add_value f (inf _) y s a t b v w = elim v [ ]
add_value f (fin p m e) nan s a t b v w = elim w [ ]
add_value f (fin p m e) (inf _) s a t b v w = elim w [ ]
add_value f (fin p m e) (fin q n d) s a t b v w =
    let c = down e * down d in
    (λ i. sum f (v.0 i) (scaled m (up e) a (down e) (down d) v.1 i) (w.0 i) (scaled_left n (up d) b (down d) (down e) w.1 i) c)
    ∙ sum_scale f s a t b c (mul-pos (down_pos e) (down_pos d))

-- the magnitude of a difference below zero
one_less : (a b : ℕ) → a < b → b - a ≡ suc (b - suc a)
one_less a b h = omega arith

-- the definitions, a step at a time: `unfolding of_int` opens `round` too, and a goal is then too long to work in
int_pos : (f : Format) (n : ℕ) → of_int f (pos n) ≡ round f false n 1
unfolding of_int
int_pos f n = refl

int_neg : (f : Format) (n : ℕ) → of_int f (negsuc n) ≡ round f true (suc n) 1
unfolding of_int
int_neg f n = refl

sum_like : (f : Format) (s : Bool) (a b c : ℕ) → sum f s a s b c ≡ round f s (a + b) c
unfolding sum
sum_like f false a b c = refl
sum_like f true a b c = refl

sum_less : (f : Format) (a b c : ℕ) → sum f false a true b c ≡ cond (ltb a b) (round f true (b - a) c) (round f false (a - b) c)
unfolding sum
sum_less f a b c = refl

sum_more : (f : Format) (a b c : ℕ) → sum f true a false b c ≡ cond (ltb a b) (round f false (b - a) c) (round f (ltb b a) (a - b) c)
unfolding sum
sum_more f a b c = refl

-- a - b, of two magnitudes; -a + b
minus_int : (f : Format) (a b : ℕ) → sum f false a true b 1 ≡ of_int f (sub_ℕ a b)
minus_int f a b = sum_less f a b 1 ∙ by_test (ltb a b) refl
  where
    by_test : (t : Bool) → ltb a b ≡ t → cond t (round f true (b - a) 1) (round f false (a - b) 1) ≡ of_int f (cond t (negsuc (b - suc a)) (pos (a - b)))
    by_test true e = ap (λ (n : ℕ). round f true n 1) (one_less a b (ltb-true a b e)) ∙ sym (int_neg f (b - suc a))
    by_test false e = sym (int_pos f (a - b))

plus_int : (f : Format) (a b : ℕ) → sum f true a false b 1 ≡ of_int f (sub_ℕ b a)
plus_int f a b = sum_more f a b 1 ∙ by_test (ltb a b) (ltb b a) refl refl
  where
    by_test : (t u : Bool) → ltb a b ≡ t → ltb b a ≡ u
        → cond t (round f false (b - a) 1) (round f u (a - b) 1) ≡ of_int f (cond u (negsuc (a - suc b)) (pos (b - a)))
    by_test true true e g =
        let p = ltb-true a b e in
        let q = ltb-true b a g in
        absurd (omega arith)
    by_test true false e g = sym (int_pos f (b - a))
    by_test false true e g = ap (λ (n : ℕ). round f true n 1) (one_less b a (ltb-true b a g)) ∙ sym (int_neg f (a - suc b))
    by_test false false e g =
        let p = ltb-false a b e in
        let q = ltb-false b a g in
        ap (λ (n : ℕ). round f false n 1) (omega arith) ∙ sym (int_pos f (b - a))

abbrev sgn : ℤ → Bool
sgn (pos n) = false
sgn (negsuc n) = true

-- an integer plus a value, a zero of either sign
sum_int : (f : Format) (q : ℤ) (t : Bool) (b : ℕ) → sum f (sgn q) (nat_abs q) t b 1 ≡ of_int f (q +ℤ signed t b)
sum_int f (pos n) false b = sum_like f false n b 1 ∙ sym (int_pos f (n + b))
sum_int f (pos n) true zero =
    minus_int f n 0
    ∙ ap (of_int f) (ap (λ (t : Bool). cond t (negsuc (0 - suc n)) (pos (n - 0))) (le-ltb n 0 (omega arith)) ∙ ap pos (omega arith))
sum_int f (pos n) true (suc b) = minus_int f n (suc b)
sum_int f (negsuc n) false b = plus_int f (suc n) b
sum_int f (negsuc n) true zero =
    sum_like f true (suc n) 0 1 ∙ ap (λ (k : ℕ). round f true k 1) (omega arith) ∙ sym (int_neg f (suc n - 1))
    ∙ ap (of_int f) (sym (ap (λ (t : Bool). cond t (negsuc (suc n - 1)) (pos (0 - suc n))) (lt-ltb 0 (suc n) (omega arith))))
sum_int f (negsuc n) true (suc b) = sum_like f true (suc n) (suc b) 1 ∙ ap (λ (k : ℕ). round f true k 1) (omega arith) ∙ sym (int_neg f (suc (n + b)))

int_value : (f : Format) (q : ℤ) → nat_abs q ≤ 2 ^ prec f → HasValue (of_int f q) (sgn q) (nat_abs q) 1
unfolding of_int
int_value f (pos n) h = round_whole f false n h
int_value f (negsuc n) h = round_whole f true (suc n) h

-- ---- sums and differences: no bound on the result, since both sides round the same number
pub add_int : (f : Format) (q : ℤ) (y : Float) (z : ℤ) → nat_abs q ≤ 2 ^ prec f → Whole y z → add f (of_int f q) y ≡ of_int f (q +ℤ z)
add_int f q y z h w =
    add_value f (of_int f q) y (sgn q) (nat_abs q) w.s w.n (int_value f q h) w.value
    ∙ sum_int f q w.s w.n
    ∙ ap (λ (k : ℤ). of_int f (q +ℤ k)) w.is

neg_value : (x : Float) (s : Bool) (n : ℕ) → HasValue x s n 1 → HasValue (neg x) (not s) n 1
unfolding neg
neg_value nan s n v = elim v [ ]
neg_value (inf _) s n v = elim v [ ]
neg_value (fin t m e) s n v = (ap not v.0, v.1)

neg_signed : (s : Bool) (n : ℕ) → signed (not s) n ≡ neg_ℤ (signed s n)
neg_signed false n = refl
neg_signed true zero = refl
neg_signed true (suc n) = refl

pub neg_whole : (x : Float) (z : ℤ) → Whole x z → Whole (neg x) (neg_ℤ z)
neg_whole x z w = record { s = not w.s; n = w.n; value = neg_value x w.s w.n w.value; is = neg_signed w.s w.n ∙ ap neg_ℤ w.is }

pub sub_int : (f : Format) (q : ℤ) (y : Float) (z : ℤ) → nat_abs q ≤ 2 ^ prec f → Whole y z → sub f (of_int f q) y ≡ of_int f (q -ℤ z)
unfolding sub
sub_int f q y z h w = add_int f q (neg y) (neg_ℤ z) h (neg_whole y z w)

-- ---- products
product : (m u a d n v b e : ℕ) → m * u * 1 ≡ a * d → n * v * 1 ≡ b * e → m * u * (n * v) * 1 ≡ a * b * (d * e)
product m u a d n v b e p q =
    mul-one (m * u * (n * v)) ∙ (λ i. (sym (mul-one (m * u)) ∙ p) i * (sym (mul-one (n * v)) ∙ q) i)
    ∙ mul_assoc a d (b * e) ∙ ap (λ (k : ℕ). a * k) (mul_left_comm d b e) ∙ sym (mul_assoc a b (d * e))

pub mul_value : (f : Format) (x y : Float) (s : Bool) (a : ℕ) (t : Bool) (b : ℕ) → HasValue x s a 1 → HasValue y t b 1
    → mul f x y ≡ round f (unlike s t) (a * b) 1
unfolding mul
mul_value f nan y s a t b v w = elim v [ ]
mul_value f (inf _) y s a t b v w = elim v [ ]
mul_value f (fin p m e) nan s a t b v w = elim w [ ]
mul_value f (fin p m e) (inf _) s a t b v w = elim w [ ]
mul_value f (fin p m e) (fin q n d) s a t b v w =
    (λ i. round f (unlike (v.0 i) (w.0 i)) (m * up e * (n * up d)) (down e * down d))
    ∙ round_same f (unlike s t) (m * up e * (n * up d)) (down e * down d) (a * b) 1 (mul-pos (down_pos e) (down_pos d)) (zero-lt-suc 0)
    (product m (up e) a (down e) n (up d) b (down d) v.1 w.1)

mul_signed : (s : Bool) (a : ℕ) (t : Bool) (b : ℕ) → signed (unlike s t) (a * b) ≡ signed s a *ℤ signed t b
mul_signed false a false b = refl
mul_signed false a true b = sym (mul_neg integers (pos a) (pos b))
mul_signed true a false b = sym (neg_mul integers (pos a) (pos b))
mul_signed true a true b = ring integers (pos a ∷ pos b ∷ []) (λ x y. x :* y := :- x :* :- y) refl

-- the value of a float that is a whole number, with no denominator left
pub value_is : (x : Float) (z : ℤ) → Whole x z → IsWhole x z
value_is nan z w = absurd w.value
value_is (inf s) z w = absurd w.value
value_is (fin s m e) z w =
    ap (signed s) (sym (mul-one (m * up e)) ∙ w.value.1)
    ∙ ap (λ (t : Bool). signed t (w.n * down e)) w.value.0
    ∙ by_sign w.s w.n (down e)
    ∙ ap (λ (k : ℤ). k *ℤ pos (down e)) w.is
  where
    by_sign : (s : Bool) (n d : ℕ) → signed s (n * d) ≡ signed s n *ℤ pos d
    by_sign false n d = mul_signed false n false d
    by_sign true n d = mul_signed true n false d

-- a product is a whole number again, where it is in range; it may be -0
pub mul_whole : (f : Format) (x y : Float) (a b : ℤ) → Whole x a → Whole y b → nat_abs (a *ℤ b) ≤ 2 ^ prec f → Whole (mul f x y) (a *ℤ b)
mul_whole f x y a b v w h =
    let s = unlike v.s w.s in
    let is : signed s (v.n * w.n) ≡ a *ℤ b = mul_signed v.s v.n w.s w.n ∙ (λ i. v.is i *ℤ w.is i) in
    let rounded = mul_value f x y v.s v.n w.s w.n v.value w.value in
    let small : v.n * w.n ≤ 2 ^ prec f = subst (λ (k : ℕ). k ≤ 2 ^ prec f) (sym (ap nat_abs is) ∙ abs_signed s (v.n * w.n)) h in
    record {
      s = s;
      n = v.n * w.n;
      value = subst (λ (r : Float). HasValue r s (v.n * w.n) 1) (sym rounded) (round_whole f s (v.n * w.n) small);
      is = is;
    }

-- a positive number times an integer, with no bound on the product
pub scale_int : (f : Format) (k : ℕ) (q : ℤ) → suc k ≤ 2 ^ prec f → nat_abs q ≤ 2 ^ prec f
    → mul f (of_int f (pos (suc k))) (of_int f q) ≡ of_int f (pos (suc k) *ℤ q)
scale_int f k (pos n) g h =
    let by = int_value f (pos (suc k)) g in
    mul_value f (of_int f (pos (suc k))) (of_int f (pos n)) false (suc k) false n by (int_value f (pos n) h) ∙ sym (int_pos f (suc k * n))
scale_int f k (negsuc n) g h =
    let by = int_value f (pos (suc k)) g in
    mul_value f (of_int f (pos (suc k))) (of_int f (negsuc n)) false (suc k) true (suc n) by (int_value f (negsuc n) h)
    ∙ ap (λ (m : ℕ). round f true m 1) (full k n) ∙ sym (int_neg f (k * suc n + n)) ∙ ap (λ (m : ℕ). of_int f (neg_ℤ (pos m))) (sym (full k n))
  where
    full : (k n : ℕ) → suc k * suc n ≡ suc (k * suc n + n)
    full k n = suc-mul k (suc n) ∙ omega arith

-- ---- the opposite: rounding goes by the magnitude alone
neg_odd : (d : ℕ) (s : Bool) (q k l : ℕ) → neg (odd d s q k l) ≡ odd d (not s) q k l
unfolding odd neg
neg_odd d s zero k l = refl
neg_odd d s (suc q) k l = refl

neg_units : (f : Format) (s : Bool) (q k : ℕ) → neg (units f s q k) ≡ units f (not s) q k
unfolding units neg
neg_units f s q k = by_test (ltb (q * 2 ^ k) (2 ^ (low f + suc (emax f))))
  where
    by_test : (t : Bool) → neg (cond t (odd (suc (prec f)) s q k (low f)) (inf s)) ≡ cond t (odd (suc (prec f)) (not s) q k (low f)) (inf (not s))
    by_test true = neg_odd (suc (prec f)) s q k (low f)
    by_test false = refl

neg_round : (f : Format) (s : Bool) (n d : ℕ) → neg (round f s n d) ≡ round f (not s) n d
unfolding round
neg_round f s n d = neg_units f s _ _

-- of a number that isn't zero
pub neg_int : (f : Format) (q : ℤ) → 0 < nat_abs q → neg (of_int f q) ≡ of_int f (neg_ℤ q)
neg_int f (pos zero) h = absurd (omega arith)
neg_int f (pos (suc n)) h = ap neg (int_pos f (suc n)) ∙ neg_round f false (suc n) 1 ∙ sym (int_neg f n)
neg_int f (negsuc n) h = ap neg (int_neg f n) ∙ neg_round f true (suc n) 1 ∙ sym (int_pos f (suc n))
