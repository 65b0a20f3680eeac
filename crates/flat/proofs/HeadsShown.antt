-- Every head is shown by a head of numbers that is known and means it: each of its four kinds is.
use mathlib.Core.Path.{◌≡◌}
use mathlib.Core.Bool.{true}
use Rattle.walk.specs.declared.plan.Head.{Head}
use Rattle.flat.specs.Kinds.{knows_pair, knows_all}
use Rattle.flat.specs.Heads.{knows_head, head_meant, flat_head}
use Rattle.flat.specs.HeadsShown.{HeadsShown}
use Rattle.flat.proofs.KindNumbers.{kinds_told}

shown_accepted : (h : Head) → knows_head (flat_head h) ≡ true
unfolding knows_head knows_all knows_pair
shown_accepted h =
    rw (
      kinds_told.transforms.accepted h.transform,
      kinds_told.strategies.accepted h.strategy,
      kinds_told.parities.accepted h.parity,
      kinds_told.bases.accepted h.basis,
    )

shown_same : (h : Head) → head_meant (flat_head h) ≡ h
unfolding head_meant
shown_same h =
    rw (
      kinds_told.transforms.same h.transform,
      kinds_told.strategies.same h.strategy,
      kinds_told.parities.same h.parity,
      kinds_told.bases.same h.basis,
    )

pub heads_shown : HeadsShown
heads_shown h = record { accepted = shown_accepted h; same = shown_same h }
