-- Back from the lists to the coefficients (document 02, Q-8): at each cut low and high are rebuilt, and then the cut is undone.
use Rattle.std.specs.Prelude.{List, ℤ, take, drop}
use Rattle.std.proofs.Math.Option.{Option, some}
use Rattle.algebra.specs.declared.Basis.{Basis}
use Rattle.lists.specs.Tree.{Tree, leaf, cut}
use Rattle.number.specs.Options.{◌then◌}
use Rattle.rebuild.specs.Undo.{undone}

-- the coefficients that a tree arranged into l, the lists one after another; there are none if some cut can't be undone
unfoldable pub rebuilt : Basis → Tree → (l : List ℤ) → Option (List ℤ)
rebuilt basis leaf l = some l
rebuilt basis (cut p low high) l = rebuilt basis low (take p l) then λ r. rebuilt basis high (drop p l) then λ q. undone basis r q
