-- The arranged coefficients are the lists one after another. By induction over a sound tree: at a cut the low part has p places, so the high lists
-- begin p places further.
use mathlib.Core.Path.{◌≡◌, refl, ap, ap₂, sym, ◌∙◌}
use mathlib.Core.List.{List, [], ◌∷◌, ◌++◌, map, append-nil, append_assoc, map-append}
use Prim.Native.Nat.{ℕ, suc, ◌+◌, ◌^◌, ◌<◌}
use native.Mathlib.Omega.{arith}
use lib.ListN.{length, take, drop, length-append}
use Rattle.algebra.specs.Operations.{Operations}
use Rattle.algebra.specs.Cut.{cut_at}
use Rattle.algebra.specs.declared.Basis.{Basis}
use Rattle.number.specs.Tests.{degree_of}
use Rattle.lists.specs.Tree.{Tree, leaf, cut, tree_of}
use Rattle.lists.specs.Arrange.{arranged, leaves_of, lengths_of, ends_of}
use Rattle.lists.specs.TreeFacts.{Sound}
use Rattle.lists.specs.Lists.{lists_of, joined, ends_from, ListsInOrder}
use Rattle.lists.proofs.Arranging.{low_size, high_size}
use Rattle.lists.proofs.TreeFacts.{trees_sound}

module _ {A : Type 0} where
  joined_append : (xs ys : List (List A)) → joined (xs ++ ys) ≡ joined xs ++ joined ys
  unfolding joined
  joined_append [] ys = refl
  joined_append (x ∷ xs) ys = ap (x ++◌) (joined_append xs ys) ∙ sym (append_assoc x (joined xs) (joined ys))

  ends_append : (at : ℕ) (xs ys : List (List A)) → ends_from at (xs ++ ys) ≡ ends_from at xs ++ ends_from (at + length (joined xs)) ys
  unfolding ends_from joined
  ends_append at [] ys = ap (λ (k : ℕ). ends_from k ys) (omega arith)
  ends_append at (x ∷ xs) ys =
      let further : at + length x + length (joined xs) ≡ at + length (x ++ joined xs) = omega (arith, length-append x (joined xs)) in
      ap ((at + length x) ∷◌) (ends_append (at + length x) xs ys ∙ ap (λ (k : ℕ). ends_from (at + length x) xs ++ ends_from k ys) further)

module _ {A : Type 0} (𝓞 : Operations A) (basis : Basis) where
  places_in_order : (tree : Tree) (c : List A) → arranged 𝓞 basis tree c ≡ joined (lists_of 𝓞 basis tree c)
  unfolding arranged lists_of joined
  places_in_order leaf c = sym (append-nil c)
  places_in_order (cut p low high) c =
      let c₁ = cut_at 𝓞 basis p c in
      ap₂ ◌++◌ (places_in_order low (take p c₁)) (places_in_order high (drop p c₁))
      ∙ sym (joined_append (lists_of 𝓞 basis low (take p c₁)) (lists_of 𝓞 basis high (drop p c₁)))

  count_in_order : (tree : Tree) (c : List A) → leaves_of tree ≡ length (lists_of 𝓞 basis tree c)
  unfolding leaves_of lists_of
  count_in_order leaf c = refl
  count_in_order (cut p low high) c =
      let c₁ = cut_at 𝓞 basis p c in
      rw length-append (ap₂ ◌+◌ (count_in_order low (take p c₁)) (count_in_order high (drop p c₁)))

  module _ (base : ℕ) where
    -- arranging keeps the length
    pub length_arranged : (tree : Tree) (c : List A) → Sound base tree (length c) → length (arranged 𝓞 basis tree c) ≡ length c
    unfolding arranged
    length_arranged leaf c sound = refl
    length_arranged (cut p low high) c sound =
        let c₁ = cut_at 𝓞 basis p c in
        let under : p < length c = sound.under in
        let first = length_arranged low (take p c₁) (rw (low_size 𝓞 basis p c under) sound.low) in
        let then = length_arranged high (drop p c₁) (rw (high_size 𝓞 basis p c under) sound.high) in
        let low_is = low_size 𝓞 basis p c under in
        let high_is = high_size 𝓞 basis p c under in
        length-append (arranged 𝓞 basis low (take p c₁)) (arranged 𝓞 basis high (drop p c₁)) ∙ omega arith

    ends_in_order : (tree : Tree) (c : List A) (at : ℕ) → Sound base tree (length c) → ends_of tree at (length c) ≡ ends_from at (lists_of 𝓞 basis tree c)
    unfolding ends_of lists_of ends_from
    ends_in_order leaf c at sound = refl
    ends_in_order (cut p low high) c at sound =
        let c₁ = cut_at 𝓞 basis p c in
        let under : p < length c = sound.under in
        let first = ends_in_order low (take p c₁) at (rw (low_size 𝓞 basis p c under) sound.low) in
        let then = ends_in_order high (drop p c₁) (at + p) (rw (high_size 𝓞 basis p c under) sound.high) in
        let low_kept = length_arranged low (take p c₁) (rw (low_size 𝓞 basis p c under) sound.low) in
        let low_long : length (joined (lists_of 𝓞 basis low (take p c₁))) ≡ p =
        ap length (sym (places_in_order low (take p c₁))) ∙ low_kept ∙ low_size 𝓞 basis p c under in
        ap₂ ◌++◌ (rw (low_size 𝓞 basis p c under) at first) (rw (high_size 𝓞 basis p c under) at then)
        ∙ sym (ends_append at (lists_of 𝓞 basis low (take p c₁)) (lists_of 𝓞 basis high (drop p c₁)) ∙ rw low_long)

    lengths_in_order : (tree : Tree) (c : List A) → Sound base tree (length c) → lengths_of tree (length c) ≡ map length (lists_of 𝓞 basis tree c)
    unfolding lengths_of lists_of
    lengths_in_order leaf c sound = refl
    lengths_in_order (cut p low high) c sound =
        let c₁ = cut_at 𝓞 basis p c in
        let under : p < length c = sound.under in
        let first = lengths_in_order low (take p c₁) (rw (low_size 𝓞 basis p c under) sound.low) in
        let then = lengths_in_order high (drop p c₁) (rw (high_size 𝓞 basis p c under) sound.high) in
        ap₂ ◌++◌ (rw (low_size 𝓞 basis p c under) at first) (rw (high_size 𝓞 basis p c under) at then)
        ∙ sym (map-append length (lists_of 𝓞 basis low (take p c₁)) (lists_of 𝓞 basis high (drop p c₁)))

pub lists_in_order : {A : Type 0} → ListsInOrder A
lists_in_order 𝓞 leading basis whole split c nonempty few from =
    let size : suc (degree_of c) ≡ length c = omega arith in
    let tree = tree_of leading whole (degree_of c) split in
    let sound : Sound (2 ^ split) tree (length c) = rw size at (trees_sound leading whole (degree_of c) split few from) in
    record {
      places = places_in_order 𝓞 basis tree c;
      ends = λ at. ends_in_order 𝓞 basis (2 ^ split) tree c at sound;
      lengths = lengths_in_order 𝓞 basis (2 ^ split) tree c sound;
      count = count_in_order 𝓞 basis tree c;
    }
