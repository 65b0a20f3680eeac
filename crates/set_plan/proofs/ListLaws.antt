-- The lists of one member after another: what is left to write gives the whole.
use mathlib.Core.Path.{◌≡◌, refl, sym, ◌∙◌, ap}
use mathlib.Core.Logic.{◌⊎◌, ⊎_elim}
use mathlib.Core.List.{List, [], ◌∷◌, ◌++◌, map, append_assoc, append-nil}
use Prim.Native.Nat.{ℕ, suc, ◌+◌, ◌-◌, ◌≤◌}
use native.Mathlib.Omega.{arith}
use lib.IntN.{ℤ}
use lib.ListN.{length, get_or, set, take, drop, length-drop, length-map, drop_of_length-le}
use Rattle.std.proofs.lemmas.List.{nil_from_length}
use lib.Seq.{sets, sets-eq, length-sets, take_all, drop-drop}
use Rattle.number.specs.Refusal.{first_refusal}
use Rattle.number.proofs.FirstRefusal.{first_passed, first_of_more}
use Rattle.lists.specs.Lists.{joined}
use Rattle.lists.proofs.Arranging.{length_ends}
use Rattle.walk.specs.declared.plan.Head.{Head}
use Rattle.plan.specs.PlanHead.{head_of}
use Rattle.plan.proofs.PlanTests.{early_numbered, early_accepted}
use Rattle.sets.specs.Members.{curves_in, handed_count, total}
use Rattle.sets.specs.Own.{own_tree, own_boundaries, member_head, member_coefficients}
use Rattle.sets.specs.SetPlan.{heads_of, set_coefficients, set_boundaries, coefficient_count, list_count}
use Rattle.sets.specs.SetCall.{own_tests}
use Rattle.sets.specs.declared.member.Member.{Member}
use Rattle.sets.proofs.Arrays.{any_head}
use Rattle.set_plan.specs.inside.Filling.{curve_of, MemberFits, MemberPut, AllListsFit, AllListsPut}

-- ---- a buffer and its part from a place on

module _ {A : Type 0} where
  -- values set behind values set
  pub sets_then : (b xs ys : List A) (n m : ℕ) → m ≡ n + length xs → sets (sets b n xs) m ys ≡ sets b n (xs ++ ys)
  sets_then b [] ys n m behind = ap (λ (k : ℕ). sets b k ys) (omega arith)
  sets_then b (x ∷ xs) ys n m behind = sets_then (set b n x) xs ys (suc n) m (omega arith)

  -- the part from a place on
  pub part_from : (out : List A) (at : ℕ) → take (length out - at) (drop at out) ≡ drop at out
  part_from out at = take_all (length out - at) (drop at out) (omega (arith, length-drop at out))

  -- come back with values at its front
  pub put_from : (out z xs : List A) (at : ℕ) → at + length xs ≤ length out → z ≡ sets (drop at out) 0 xs
      → take at out ++ (z ++ drop (length out - at) (drop at out)) ≡ sets out at xs
  put_from out z xs at fits is =
      let none : drop (length out - at) (drop at out) ≡ [] = drop_of_length-le (drop at out) {i = length out - at} (omega (arith, length-drop at out)) in
      let same : at + (0 + length xs) ≡ at + length xs = omega arith in
      let front : sets (drop at out) 0 xs ≡ xs ++ drop (at + length xs) out =
      sets-eq xs (drop at out) 0 (omega (arith, length-drop at out)) ∙ ap (xs ++◌) (drop-drop (0 + length xs) at out ∙ ap (λ (k : ℕ). drop k out) same) in
      ap (take at out ++◌) (ap (z ++◌) none ∙ append-nil z ∙ is ∙ front)
      ∙ sym (append_assoc (take at out) xs (drop (at + length xs) out)) ∙ sym (sets-eq xs out at fits)

-- ---- what is left to write

pub ends_kept : {member : Member} {head : Head} {list : ℕ} {c out : List ℤ} {bounds : List ℕ} {out' : List ℤ} {bounds' : List ℕ}
    → MemberPut member head list c out bounds out' bounds' → length bounds' ≡ length bounds
ends_kept {member} {head} {list} {c} {out} {bounds} put = ap length put.boundaries ∙ length-sets bounds list (own_boundaries head)

-- of members, their heads and their coefficients, from places `at` and `list` on
pub record Left (members : List Member) (heads : List Head) (c : List ℤ) (at list : ℕ) (out : List ℤ) (bounds : List ℕ) (whole : List ℤ) (ends : List ℕ)
    : Type 0 where
  pub within : handed_count members ≤ length c
  pub accepted : first_refusal (joined (map own_tests (curves_in members c))) ≡ 0
  pub heads_are : heads ≡ heads_of (curves_in members c)
  pub room : at + coefficient_count heads ≤ length out
  pub boundary_room : list + list_count heads ≤ length bounds
  pub coefficients : sets out at (set_coefficients (curves_in members c)) ≡ whole
  pub boundaries : sets bounds list (set_boundaries heads) ≡ ends

-- the boundaries of a head are as many as its lists
module _ {member : Member} {members : List Member} {head : Head} {heads : List Head} {c : List ℤ} {at list : ℕ} {out : List ℤ} {bounds : List ℕ}
    {whole : List ℤ} {ends : List ℕ} (left : Left (member ∷ members) (head ∷ heads) c at list out bounds whole ends) where
  abbrev own : List ℤ
  own = take member.count c

  head_is : head ≡ member_head (curve_of member own)
  unfolding curves_in
  head_is = ap (λ (l : List Head). get_or l 0 any_head) left.heads_are

  own_passes : first_refusal (own_tests (curve_of member own)) ≡ 0
  unfolding curves_in joined
  own_passes =
      first_passed (own_tests (curve_of member own)) (joined (map own_tests (curves_in members (drop member.count c))))
      (early_numbered member.fold member.parity own member.a member.b) left.accepted

  pub member_fits : MemberFits member head list own (drop at out) bounds
  unfolding total
  member_fits = record {
    accepted = early_accepted member.fold member.parity own member.a member.b own_passes;
    head_is = head_is;
    room = omega (arith, left.room, length-drop at out);
    boundary_room = omega (arith, left.boundary_room);
  }

  ends_size : length (own_boundaries head) ≡ head.lists
  unfolding own_boundaries head_of
  ends_size = rw head_is (length_ends (own_tree (member_head (curve_of member own))) 0 _)

  -- the buffers keep their lengths
  pub out_kept : {out' : List ℤ} {bounds' : List ℕ} {z : List ℤ} → MemberPut member head list own (drop at out) bounds z bounds'
      → out' ≡ take at out ++ (z ++ drop (length out - at) (drop at out)) → length out' ≡ length out
  unfolding total
  out_kept {out'} {bounds'} {z} put back =
      let mine = member_coefficients (curve_of member own) in
      ap length (back ∙ put_from out z mine at (omega (arith, put.size, left.room)) put.coefficients) ∙ length-sets out at mine

  pub left_next : {out' : List ℤ} {bounds' : List ℕ} {z : List ℤ} → MemberPut member head list own (drop at out) bounds z bounds'
      → out' ≡ take at out ++ (z ++ drop (length out - at) (drop at out))
      → Left members heads (drop member.count c) (at + head.coefficients) (list + head.lists) out' bounds' whole ends
  unfolding curves_in total joined set_coefficients set_boundaries
  left_next {out'} {bounds'} {z} put back =
      let mine = member_coefficients (curve_of member own) in
      let rest = set_coefficients (curves_in members (drop member.count c)) in
      let now_is : out' ≡ sets out at mine = back ∙ put_from out z mine at (omega (arith, put.size, left.room)) put.coefficients in
      record {
        within = omega (arith, left.within, length-drop member.count c);
        accepted =
            sym (first_of_more (own_tests (curve_of member own)) (joined (map own_tests (curves_in members (drop member.count c))))
            (early_numbered member.fold member.parity own member.a member.b) own_passes) ∙ left.accepted;
        heads_are = ap (drop 1) left.heads_are;
        room = omega (arith, left.room, ap length now_is, length-sets out at mine);
        boundary_room = omega (arith, left.boundary_room, ap length put.boundaries, length-sets bounds list (own_boundaries head));
        coefficients =
            ap (λ (l : List ℤ). sets l (at + head.coefficients) rest) now_is
            ∙ sets_then out mine rest at (at + head.coefficients) (omega (arith, put.size)) ∙ left.coefficients;
        boundaries =
            ap (λ (l : List ℕ). sets l (list + head.lists) (set_boundaries heads)) put.boundaries
            ∙ sets_then bounds (own_boundaries head) (set_boundaries heads) list (list + head.lists) (omega (arith, ends_size)) ∙ left.boundaries;
      }

-- ---- from the first member on

-- what is to be written of all members
abbrev pub LeftOf : (members : List Member) (c out₀ : List ℤ) (bounds₀ : List ℕ) (left : List Member) (heads : List Head) (rest : List ℤ) (at list : ℕ)
    (out : List ℤ) (bounds : List ℕ) → Type 0
LeftOf members c out₀ bounds₀ left heads rest at list out bounds =
    Left left heads rest at list out bounds
    (sets out₀ 0 (set_coefficients (curves_in members c))) (sets bounds₀ 0 (set_boundaries (heads_of (curves_in members c))))

pub left_start : {members : List Member} {heads : List Head} {c out : List ℤ} {bounds : List ℕ} → AllListsFit members heads c out bounds
    → LeftOf members c out bounds members heads c 0 0 out bounds
left_start {members} {heads} {c} {out} {bounds} fits = record {
  within = fits.within;
  accepted = fits.accepted;
  heads_are = fits.heads_are;
  room = omega (arith, fits.room);
  boundary_room = omega (arith, fits.boundary_room);
  coefficients = refl;
  boundaries = ap (λ (l : List Head). sets bounds 0 (set_boundaries l)) fits.heads_are;
}

-- ---- the next member

module _ {left more : List Member} {member : Member} {heads others : List Head} {head : Head} {c : List ℤ} {at list : ℕ} {out : List ℤ} {bounds : List ℕ}
    {whole : List ℤ} {ends : List ℕ} (here : Left left heads c at list out bounds whole ends) (left_is : left ≡ member ∷ more)
    (heads_is : heads ≡ head ∷ others) where
  left_here : Left (member ∷ more) (head ∷ others) c at list out bounds whole ends
  left_here = rw (left_is, heads_is) at here

  -- the member's coefficients are within the rest, and its lists within the buffers
  pub slice_room : member.count ≤ length c
  unfolding total
  slice_room = omega (arith, left_here.within)

  pub place_room : at + head.coefficients ≤ length out
  unfolding total
  place_room = omega (arith, left_here.room)

  pub boundary_place : list + head.lists ≤ length bounds
  unfolding total
  boundary_place = omega (arith, left_here.boundary_room)

  module _ {mine : List ℤ} (own_is : mine ≡ take member.count c) where
    pub fits_here : MemberFits member head list mine (take (length out - at) (drop at out)) bounds
    fits_here = rw (own_is, part_from out at) (member_fits left_here)

    module _ {out' z : List ℤ} {bounds' : List ℕ} (put : MemberPut member head list mine (take (length out - at) (drop at out)) bounds z bounds')
        (back : out' ≡ take at out ++ (z ++ drop (length out - at) (drop at out))) where
      put_here : MemberPut member head list (take member.count c) (drop at out) bounds z bounds'
      put_here = rw (own_is, part_from out at) at put

      pub kept_here : length out' ≡ length out
      kept_here = out_kept left_here put_here back

      pub next_here : {rest : List ℤ} → rest ≡ drop member.count c → Left more others rest (at + head.coefficients) (list + head.lists) out' bounds' whole ends
      next_here rest_is = rw rest_is (left_next left_here put_here back)

-- ---- behind the last member

curves_length : (members : List Member) (c : List ℤ) → length (curves_in members c) ≡ length members
unfolding curves_in
curves_length [] c = refl
curves_length (member ∷ members) c = ap suc (curves_length members (drop member.count c))

pub left_none : {members left : List Member} {heads : List Head} {c out₀ rest : List ℤ} {bounds₀ : List ℕ} {at list : ℕ} {out : List ℤ} {bounds : List ℕ}
    → LeftOf members c out₀ bounds₀ left heads rest at list out bounds → (length left ≡ 0) ⊎ (length heads ≡ 0)
    → AllListsPut members c out₀ bounds₀ out bounds
unfolding curves_in set_coefficients set_boundaries joined
left_none {members} {left} {heads} {c} {out₀} {rest} {bounds₀} {at} {list} {out} {bounds} here ended =
    let same : length heads ≡ length left = ap length here.heads_are ∙ length-map (curves_in left rest) member_head ∙ curves_length left rest in
    let none : length left ≡ 0 = ⊎_elim (λ none. none) (λ none. sym same ∙ none) ended in
    let no_members = nil_from_length left none in
    let no_heads = nil_from_length heads (same ∙ none) in
    record {
      coefficients = sym (ap (λ (ms : List Member). sets out at (set_coefficients (curves_in ms rest))) no_members) ∙ here.coefficients;
      boundaries = sym (ap (λ (hs : List Head). sets bounds list (set_boundaries hs)) no_heads) ∙ here.boundaries;
    }
