-- Arrays place by place: one that is filled with what the places of another mean, and members whose kinds are asked for one after another.
use mathlib.Core.Path.{◌≡◌, refl, sym, ◌∙◌, ap, ap₂}
use mathlib.Core.Bool.{true, false, ◌&&◌}
use mathlib.Core.List.{List, [], ◌∷◌, ◌++◌, map}
use Prim.Native.Nat.{ℕ, zero, suc, ◌+◌, ◌≤◌, ◌<◌}
use native.Mathlib.Omega.{arith}
use lib.ListN.{length, get_or, set, take, drop, replicate, length-map, length-set, length-replicate, drop_of_length-le, get_or-map}
use lib.Seq.{take-suc, take_all, take-suc-set}
use Rattle.flat.specs.Sets.{knows_member, knows_each}
use Rattle.flat.specs.declared.members.CMember.{CMember}

-- ---- an array that is filled

module _ {A B : Type 0} (of : A → B) (from : List A) where
  -- its first i places are what those of the other mean
  pub record FilledUpto (i : ℕ) (to : List B) : Type 0 where
    pub size : length to ≡ length from
    pub done : take i to ≡ take i (map of from)

  one_more : (i : ℕ) → i + 1 ≡ suc i
  one_more i = omega arith

  meant_at : (i : ℕ) (other : A) → i < length from → take (suc i) (map of from) ≡ take i (map of from) ++ (of (get_or from i other) ∷ [])
  meant_at i other below =
      take-suc (map of from) i (of other) (omega (arith, length-map from of))
      ∙ ap (λ (x : B). take i (map of from) ++ (x ∷ [])) (get_or-map of from i other)

  -- at first none is
  pub filled_none : (n : ℕ) (x : B) → length from ≡ n → FilledUpto 0 (replicate n x)
  filled_none n x places = record { size = length-replicate n x ∙ sym places; done = refl }

  pub filled_more : {i : ℕ} {to : List B} {x : B} (other : A) → FilledUpto i to → i < length from → x ≡ of (get_or from i other)
      → FilledUpto (i + 1) (set to i x)
  filled_more {i} {to} {x} other upto below is = record {
    size = length-set to i x ∙ upto.size;
    done =
        ap (λ (k : ℕ). take k (set to i x)) (one_more i) ∙ take-suc-set to i x (omega (arith, upto.size))
        ∙ ap₂ (λ (l : List B) (y : B). l ++ (y ∷ [])) upto.done is ∙ sym (meant_at i other below)
        ∙ ap (λ (k : ℕ). take k (map of from)) (sym (one_more i));
  }

  pub filled_all : {i : ℕ} {to : List B} → FilledUpto i to → length from ≤ i → to ≡ map of from
  filled_all {i} {to} upto past =
      sym (take_all i to (omega (arith, upto.size))) ∙ upto.done ∙ take_all i (map of from) (omega (arith, length-map from of))

-- ---- members one after another

each_next : (n i : ℕ) (members : List CMember) (other : CMember) → i < n → i < length members
    → knows_each (drop i (take n members)) ≡ (knows_member (get_or members i other) && knows_each (drop (suc i) (take n members)))
unfolding knows_each
each_next n i [] other here below = absurd (omega arith)
each_next zero i (m ∷ members) other here below = absurd (omega arith)
each_next (suc n) zero (m ∷ members) other here below = refl
each_next (suc n) (suc i) (m ∷ members) other here below = each_next n i members other (omega arith) (omega arith)

-- the members from place i on, of the first n
module _ (n i : ℕ) (members : List CMember) (other : CMember) (here : i < n) (below : i < length members) where
  -- the next has an unknown kind
  pub known_no : knows_member (get_or members i other) ≡ false → knows_each (drop i (take n members)) ≡ false
  known_no told = each_next n i members other here below ∙ ap (◌&& knows_each (drop (suc i) (take n members))) told

  -- the next has none, so that it lies with the others
  pub known_yes : knows_member (get_or members i other) ≡ true → knows_each (drop i (take n members)) ≡ knows_each (drop (i + 1) (take n members))
  known_yes told =
      let next : suc i ≡ i + 1 = omega arith in
      each_next n i members other here below ∙ ap (◌&& knows_each (drop (suc i) (take n members))) told
      ∙ ap (λ (k : ℕ). knows_each (drop k (take n members))) next

-- behind the last of them there is none
pub known_end : (n i : ℕ) (members : List CMember) → length (take n members) ≤ i → knows_each (drop i (take n members)) ≡ true
unfolding knows_each
known_end n i members past = rw (drop_of_length-le (take n members) past)
