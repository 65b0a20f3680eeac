-- The conversion call keeps its promises (request Q-11). Each way out of its tests tells something of the coefficients; since no two lists of their
-- number have their values, no two ways can be told of the same coefficients, so each is told exactly when it is taken. The first coefficients have the
-- values of the new ones, so they are what the call back gives.
use mathlib.Core.Path.{◌≡◌, refl, ap, sym, subst, ◌∙◌}
use mathlib.Core.Bool.{Bool, true, false, not, false≢true}
use mathlib.Core.List.{List, [], ◌∷◌}
use mathlib.Core.Logic.{◌↔◌}
use mathlib.Core.Option.{some}
use Prim.Native.Nat.{ℕ, ◌-◌, ◌^◌, ◌≤◌, ◌<◌}
use native.Mathlib.Omega.{arith}
use borrow.Author.Tests.{ltb-true, ltb-false, leb-true, leb-false}
use lib.Dec.{ltb}
use lib.IntN.{ℤ, pos}
use lib.ListN.{length, drop}
use lib.Seq.{drop_at}
use Rattle.algebra.specs.Allowed.{HasParity}
use Rattle.algebra.specs.Magnitude.{sum_abs}
use Rattle.algebra.specs.Operations.{whole_ops}
use Rattle.algebra.specs.Value.{value}
use Rattle.algebra.specs.declared.Basis.{Basis}
use Rattle.algebra.specs.declared.Basis.TheVariants.{Monomial, Chebyshev}
use Rattle.algebra.specs.declared.Parity.{Parity}
use Rattle.number.specs.Limits.{sum_limit}
use Rattle.number.specs.Numbers.{whole_numbers}
use Rattle.number.specs.Tests.{degree_of}
use Rattle.bases.specs.Rows.{other}
use Rattle.bases.specs.Convert.{is_whole, converted}
use Rattle.bases.specs.Promises.{SameAtWholes}
use Rattle.bases.proofs.Convert.{whole_exactly_if}
use Rattle.bases.proofs.Promises.{values_kept, only_one, none_whole, whole_powers}
use Rattle.bases.proofs.ParityKept.{parity_kept}
use Rattle.bases.proofs.NoLarger.{no_larger}
use Rattle.conversion.specs.ConvertCall.{Converted, refusal_for, ConvertCall}
use Rattle.lists.proofs.ListCall.{front, front_take}
use Rattle.plan.specs.PlanCall.{Accepted}
use Rattle.demands.specs.Accepts.{Foldable}
use Rattle.demands.specs.Conversions.{HasConversion, ConvertsAccepted, new_in, CallsConvert, EmptyConverts, CallsThereAndBack, ConvertOrder}
use Rattle.demands.specs.Conversions.{TooLarge, input, output, NotWhole, ConvertRefusalsTold, FractionsRefused}
use Rattle.demands.specs.Conversions.{ChebyshevNoLarger, ConvertedAccepted, ConvertedPlansRight}
use Rattle.demands.proofs.Accepts.{covered_accepted}
use Rattle.demands.proofs.MadePlan.{call_brings}
use Rattle.demands.proofs.Right.{plans_right, walks_by}
use Rattle.conversion.proofs.CallLaws as laws

-- ---- the ways out of the tests

-- each refusal with what it tells of the coefficients and the room
data Way (to : Basis) (c : List ℤ) (room : ℕ) : ℕ → Type 0 where
  high : 20 < degree_of c → Way to c room 37
  large : degree_of c ≤ 20 → TooLarge to c → Way to c room 3
  fraction : NotWhole to c → Way to c room 38
  short : HasConversion to c → room < length c → Way to c room 21
  done : HasConversion to c → length c ≤ room → Way to c room 0

module _ (to : Basis) (c : List ℤ) (room : ℕ) where
  abbrev WayOut : Type 0
  WayOut = Way to c room (refusal_for to c room)

  module _ (low : ltb 20 (length c - 1) ≡ false) where
    degree_to : degree_of c ≤ 20
    degree_to = ltb-false 20 (length c - 1) low

    module _ (small : whole_numbers.small c ≡ true) where
      magnitudes : sum_abs c ≤ 2 ^ 30
      magnitudes = leb-true (sum_abs c) sum_limit small

      module _ (whole : is_whole to c ≡ true) where
        module _ (fits : whole_numbers.small (converted to c) ≡ true) where
          has_conversion : HasConversion to c
          has_conversion = record {
            degree_to = degree_to;
            magnitudes = magnitudes;
            new = converted to c;
            same_length = (values_kept to c whole).same_length;
            same_values = (values_kept to c whole).at_wholes;
            new_magnitudes = leb-true (sum_abs (converted to c)) sum_limit fits;
          }

          by_room : (b : Bool) → ltb room (length c) ≡ b → WayOut
          by_room true none =
              subst (Way to c room) (laws.no_room_lem to c room low (ap not small) (ap not whole) (ap not fits) none)
              (short has_conversion (ltb-true room (length c) none))
          by_room false enough =
              subst (Way to c room) (laws.passed to c room low (ap not small) (ap not whole) (ap not fits) enough)
              (done has_conversion (ltb-false room (length c) enough))

        by_output : (b : Bool) → whole_numbers.small (converted to c) ≡ b → WayOut
        by_output true fits = by_room fits (ltb room (length c)) refl
        by_output false over =
            subst (Way to c room) (laws.new_too_large to c room low (ap not small) (ap not whole) (ap not over))
            (large degree_to (output (converted to c) (values_kept to c whole).same_length (values_kept to c whole).at_wholes
            (leb-false (sum_abs (converted to c)) sum_limit over)))

      by_whole : (b : Bool) → is_whole to c ≡ b → WayOut
      by_whole true whole = by_output whole (whole_numbers.small (converted to c)) refl
      by_whole false fractions =
          subst (Way to c room) (laws.not_whole_lem to c room low (ap not small) (ap not fractions))
          (fraction record { degree_to = degree_to; magnitudes = magnitudes; none = (none_whole to c).0 fractions })

    by_input : (b : Bool) → whole_numbers.small c ≡ b → WayOut
    by_input true small = by_whole small (is_whole to c) refl
    by_input false over =
        subst (Way to c room) (laws.too_large_lem to c room low (ap not over)) (large degree_to (input (leb-false (sum_abs c) sum_limit over)))

  by_degree : (b : Bool) → ltb 20 (length c - 1) ≡ b → WayOut
  by_degree true above = subst (Way to c room) (laws.too_high_lem to c room above) (high (ltb-true 20 (length c - 1) above))
  by_degree false low = by_input low (whole_numbers.small c) refl

  way_out : WayOut
  way_out = by_degree (ltb 20 (length c - 1)) refl

-- ---- no two of them at once

-- two lists with the values of c are the same
only_new : (to : Basis) (c d e : List ℤ) → length d ≡ length c → SameAtWholes to c d → length e ≡ length c → SameAtWholes to c e → d ≡ e
only_new to c d e long same long' same' = (only_one to c d long same).these ∙ sym (only_one to c e long' same').these

not_large : (to : Basis) (c : List ℤ) → HasConversion to c → TooLarge to c → ⊥
not_large to c has (input over) = omega (arith, has.magnitudes)
not_large to c has (output d long same over) =
    let is : sum_abs d ≡ sum_abs has.new = ap sum_abs (only_new to c d has.new long same has.same_length has.same_values) in
    omega (arith, has.new_magnitudes)

fraction_small : (to : Basis) (c : List ℤ) → NotWhole to c → TooLarge to c → ⊥
fraction_small to c told (input over) = omega (arith, told.magnitudes)
fraction_small to c told (output d long same over) = told.none d long same

not_both : (to : Basis) (c : List ℤ) → NotWhole to c → HasConversion to c → ⊥
not_both to c told has = told.none has.new has.same_length has.same_values

module _ {to : Basis} {c : List ℤ} {room : ℕ} where
  says_37 : {k : ℕ} → Way to c room k → (k ≡ 37) ↔ (20 < degree_of c)
  says_37 (high above) = (λ is. above, λ told. refl)
  says_37 (large low over) = (λ is. absurd (omega arith), λ told. absurd (omega arith))
  says_37 (fraction told) = (λ is. absurd (omega arith), λ above. absurd (omega (arith, told.degree_to)))
  says_37 (short has none) = (λ is. absurd (omega arith), λ above. absurd (omega (arith, has.degree_to)))
  says_37 (done has enough) = (λ is. absurd (omega arith), λ above. absurd (omega (arith, has.degree_to)))

  says_3 : {k : ℕ} → Way to c room k → (k ≡ 3) ↔ ((degree_of c ≤ 20) × TooLarge to c)
  says_3 (high above) = (λ is. absurd (omega arith), λ told. absurd (omega (arith, told.0)))
  says_3 (large low over) = (λ is. (low, over), λ told. refl)
  says_3 (fraction not_whole_lem) = (λ is. absurd (omega arith), λ told. absurd (fraction_small to c not_whole_lem told.1))
  says_3 (short has none) = (λ is. absurd (omega arith), λ told. absurd (not_large to c has told.1))
  says_3 (done has enough) = (λ is. absurd (omega arith), λ told. absurd (not_large to c has told.1))

  says_38 : {k : ℕ} → Way to c room k → (k ≡ 38) ↔ NotWhole to c
  says_38 (high above) = (λ is. absurd (omega arith), λ told. absurd (omega (arith, told.degree_to)))
  says_38 (large low over) = (λ is. absurd (omega arith), λ told. absurd (fraction_small to c told over))
  says_38 (fraction not_whole_lem) = (λ is. not_whole_lem, λ told. refl)
  says_38 (short has none) = (λ is. absurd (omega arith), λ told. absurd (not_both to c told has))
  says_38 (done has enough) = (λ is. absurd (omega arith), λ told. absurd (not_both to c told has))

  says_21 : {k : ℕ} → Way to c room k → (k ≡ 21) ↔ (HasConversion to c × (room < length c))
  says_21 (high above) = (λ is. absurd (omega arith), λ told. absurd (omega (arith, told.0.degree_to)))
  says_21 (large low over) = (λ is. absurd (omega arith), λ told. absurd (not_large to c told.0 over))
  says_21 (fraction not_whole_lem) = (λ is. absurd (omega arith), λ told. absurd (not_both to c not_whole_lem told.0))
  says_21 (short has none) = (λ is. (has, none), λ told. refl)
  says_21 (done has enough) = (λ is. absurd (omega arith), λ told. absurd (omega (arith, told.1)))

  says_0 : {k : ℕ} → Way to c room k → (k ≡ 0) ↔ (HasConversion to c × (length c ≤ room))
  says_0 (high above) = (λ is. absurd (omega arith), λ told. absurd (omega (arith, told.0.degree_to)))
  says_0 (large low over) = (λ is. absurd (omega arith), λ told. absurd (not_large to c told.0 over))
  says_0 (fraction not_whole_lem) = (λ is. absurd (omega arith), λ told. absurd (not_both to c not_whole_lem told.0))
  says_0 (short has none) = (λ is. absurd (omega arith), λ told. absurd (omega (arith, told.1)))
  says_0 (done has enough) = (λ is. (has, enough), λ told. refl)

-- ---- what is accepted, and what is refused

-- the way out that a call took
way_of : {to : Basis} {c out : List ℤ} {r : Converted} {left : List ℤ} → ConvertCall to c out r left → Way to c (length out) r.refusal
way_of {to} {c} {out} {r} {left} call = subst (Way to c (length out)) (sym (laws.refusal_is call)) (way_out to c (length out))

pub converts_accepted : ConvertsAccepted
converts_accepted to c out r left call =
    let says = says_0 (way_of call) in (
      λ accepted. record { convertible = (says.0 accepted).0; room = (says.0 accepted).1 },
      λ brings. says.1 (brings.convertible, brings.room),
    )

pub convert_refusals_told : ConvertRefusalsTold
convert_refusals_told to c out r left call =
    let way = way_of call in record { too_high_lem = says_37 way; too_large_lem = says_3 way; not_whole_lem = says_38 way; no_room_lem = says_21 way }

pub convert_order : ConvertOrder
convert_order to c room = refl

-- ---- what is left

-- the call that accepts leaves the definition's list
new_is : {to : Basis} {c out : List ℤ} {r : Converted} {left : List ℤ} → ConvertCall to c out r left → r.refusal ≡ 0 → new_in r left ≡ converted to c
new_is {to} {c} {out} {r} {left} call accepted =
    let passes = laws.call_passes call accepted in
    let size = (values_kept to c (laws.none_whole to c (length out) passes)).same_length in
    ap (λ (l : List ℤ). new_in r l) (laws.accepted_buffer call accepted)
    ∙ front_take (converted to c) out r.count (size ∙ sym (laws.accepted_count call accepted))
    (omega (arith, laws.accepted_count call accepted, laws.none_room to c (length out) passes))

beyond_is : {to : Basis} {c out : List ℤ} {r : Converted} {left : List ℤ} → ConvertCall to c out r left → r.refusal ≡ 0
    → drop r.count left ≡ drop r.count out
beyond_is {to} {c} {out} {r} {left} call accepted =
    let passes = laws.call_passes call accepted in
    let size = (values_kept to c (laws.none_whole to c (length out) passes)).same_length in
    let all : length (converted to c) ≡ r.count = size ∙ sym (laws.accepted_count call accepted) in
    ap (drop r.count) (laws.accepted_buffer call accepted ∙ front (converted to c) out (omega (arith, size, laws.none_room to c (length out) passes)))
    ∙ drop_at (converted to c) (drop (length (converted to c)) out) r.count all
    ∙ ap (λ (n : ℕ). drop n out) all

pub calls_convert : CallsConvert
calls_convert to c out r left call accepted =
    let is = new_is call accepted in
    let passes = laws.call_passes call accepted in
    let kept = values_kept to c (laws.none_whole to c (length out) passes) in
    record {
      count = laws.accepted_count call accepted;
      same_length = ap length is ∙ kept.same_length;
      at_wholes = rw is kept.at_wholes;
      everywhere = rw is kept.everywhere;
      only = λ d long same. (only_one to c d long same).these ∙ sym is;
      magnitudes = rw is (laws.none_fits to c (length out) passes);
      beyond = beyond_is call accepted;
    }

-- ---- there and back

other_twice : (to : Basis) → other (other to) ≡ to
other_twice Monomial = refl
other_twice Chebyshev = refl

-- the first coefficients have the values of the new ones, written in the basis that is not `other to`
values_back : (to : Basis) (c d : List ℤ) → SameAtWholes to c d → SameAtWholes (other to) d c
values_back to c d same x = sym (same x) ∙ ap (λ (basis : Basis). value whole_ops basis x d) (sym (other_twice to))

-- so they are a conversion of the new ones
has_back : {to : Basis} {c out : List ℤ} {r : Converted} {left : List ℤ} → ConvertCall to c out r left → r.refusal ≡ 0
    → HasConversion (other to) (new_in r left)
has_back {to} {c} {out} {r} {left} call accepted =
    let first = calls_convert to c out r left call accepted in
    let given = ((converts_accepted to c out r left call).0 accepted).convertible in
    record {
      degree_to = omega (arith, first.same_length, given.degree_to);
      magnitudes = first.magnitudes;
      new = c;
      same_length = sym first.same_length;
      same_values = values_back to c (new_in r left) first.at_wholes;
      new_magnitudes = given.magnitudes;
    }

pub calls_there_and_back : CallsThereAndBack
calls_there_and_back to c out r left call accepted out' r' left' call' =
    let first = calls_convert to c out r left call accepted in
    let size = first.same_length in
    let back = has_back call accepted in
    let way = way_of call' in
    record {
      accepts = (λ is. omega (arith, size, ((says_0 way).0 is).1), λ enough. (says_0 way).1 (back, omega (arith, size)));
      no_room_lem = (λ is. omega (arith, size, ((says_21 way).0 is).1), λ none. (says_21 way).1 (back, omega (arith, size)));
      again = λ is. let second = calls_convert (other to) (new_in r left) out' r' left' call' is in
          sym (second.only c (sym size) (values_back to c (new_in r left) first.at_wholes));
    }

-- ---- the empty curve, and fractions

-- a list of none has magnitudes within the limit
none_small : (d : List ℤ) → length d ≡ 0 → sum_abs d ≤ 2 ^ 30
unfolding sum_abs
none_small [] none = omega arith
none_small (z ∷ d) none = absurd (omega arith)

empty_has : (to : Basis) → HasConversion to []
empty_has to =
    let kept = values_kept to [] ((whole_exactly_if to []).1 (λ j below. absurd (omega arith))) in
    record {
      degree_to = omega arith;
      magnitudes = none_small [] refl;
      new = converted to [];
      same_length = kept.same_length;
      same_values = kept.at_wholes;
      new_magnitudes = none_small (converted to []) kept.same_length;
    }

pub empty_converts : EmptyConverts
empty_converts to out r left call =
    let accepted = (converts_accepted to [] out r left call).1 record { convertible = empty_has to; room = omega arith } in
    let converts = calls_convert to [] out r left call accepted in
    record { answer = laws.accepted_answer call accepted; buffer = rw converts.count at converts.beyond }

-- 2 does not divide the 1 of x²
square_halves : NotWhole Chebyshev (pos 0 ∷ pos 0 ∷ pos 1 ∷ [])
unfolding sum_abs
square_halves = record {
  degree_to = omega arith;
  magnitudes = omega arith;
  none = λ d long same. let whole = (only_one Chebyshev (pos 0 ∷ pos 0 ∷ pos 1 ∷ []) d long same).whole in
      let half = (whole_exactly_if Chebyshev (pos 0 ∷ pos 0 ∷ pos 1 ∷ [])).0 whole 2 (omega arith) in omega (arith, half);
}

pub fractions_refused : FractionsRefused
fractions_refused = record {
  square = λ out r left call. (says_38 (way_of call)).1 square_halves;
  none_in_powers = λ c out r left call is.
      false≢true (sym ((none_whole Monomial c).1 ((says_38 (way_of call)).0 is).none) ∙ whole_powers c);
}

-- ---- to Chebyshev 3 comes of the input alone

large_input : (c : List ℤ) → TooLarge Chebyshev c → 2 ^ 30 < sum_abs c
large_input c (input over) = over
large_input c (output d long same over) =
    let only = only_one Chebyshev c d long same in
    let is : sum_abs d ≡ sum_abs (converted Chebyshev c) = ap sum_abs only.these in
    omega (arith, no_larger c only.whole)

pub chebyshev_no_larger : ChebyshevNoLarger
chebyshev_no_larger c out r left call =
    let says = says_3 (way_of call) in
    record {
      no_larger = λ accepted. rw (new_is call accepted) (no_larger c (laws.none_whole Chebyshev c (length out) (laws.call_passes call accepted)));
      input_alone = (λ is. ((says.0 is).0, large_input c (says.0 is).1), λ told. says.1 (told.0, input told.1));
    }

-- ---- what was converted is planned

-- as many coefficients within the limit, of the same parity, are accepted alike
covered_alike : (folded : Bool) (parity : Parity) (c d : List ℤ) → length d ≡ length c → sum_abs d ≤ 2 ^ 30
    → (HasParity whole_ops parity c → HasParity whole_ops parity d) → Accepted folded parity c → Accepted folded parity d
covered_alike folded parity c d long small kept accepted =
    let covered = (covered_accepted folded parity c).0 accepted in
    let same : degree_of c ≡ degree_of d = omega arith in
    (covered_accepted folded parity d).1 record {
      degree_from = omega (arith, covered.degree_from);
      degree_to = omega (arith, covered.degree_to);
      magnitudes = small;
      right_parity = kept covered.right_parity;
      foldable = λ folds. subst (Foldable parity) same (covered.foldable folds);
    }

pub converted_accepted : ConvertedAccepted
converted_accepted to c out r left call accepted folded parity =
    let new = new_in r left in
    let first = calls_convert to c out r left call accepted in
    let size = first.same_length in
    let small = ((converts_accepted to c out r left call).0 accepted).convertible.magnitudes in
    let back = (only_one (other to) new c (sym size) (values_back to c new first.at_wholes)).these in (
      covered_alike folded parity c new size first.magnitudes (λ fits. rw (new_is call accepted) (parity_kept to parity c fits)),
      covered_alike folded parity new c (sym size) small (λ fits. subst (HasParity whole_ops parity) (sym back) (parity_kept (other to) parity new fits)),
    )

pub converted_plans_right : ConvertedPlansRight
converted_plans_right to c out r left call accepted strategy parity folded plan x =
    let right = plans_right strategy parity to folded (new_in r left) plan.lower plan.upper plan.out plan.bounds plan.steps
    plan.answer plan.out' plan.bounds' plan.steps' (call_brings plan.called plan.accepted) plan.called in
    walks_by plan.answer.head plan.out' plan.bounds' plan.steps' (other to) c x
    ((right.walks x).exact ∙ ap some ((calls_convert to c out r left call accepted).at_wholes x))
