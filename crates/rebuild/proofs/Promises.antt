-- The promises of rebuilding, of the list call: what it leaves in its buffers stands there as the round trips want it.
use mathlib.Core.Path.{sym, ◌∙◌, ap}
use lib.ListN.{take}
use Rattle.lists.specs.ListCall.{Listed}
use Rattle.lists.proofs.Standing.{listing_answer, listing_stands}
use Rattle.rebuild.specs.Promises.{RebuildsLists, ListsRebuilt, ListsTell}
use Rattle.rebuild.proofs.RoundTrips.{gives_again, same_lists, lists_again}

pub rebuilds_lists : RebuildsLists
rebuilds_lists strategy parity basis c lists bounds r lists' bounds' listing made out s out' call room =
    let answer = listing_answer listing made in
    gives_again (listing_stands listing made) (ap (λ (x : Listed). x.degree) answer) (ap (λ (x : Listed). x.base) answer) call room

pub lists_rebuilt : ListsRebuilt
lists_rebuilt strategy parity basis degree base lists bounds c s c' call made out ends r out' ends' listing accepts =
    lists_again call made (listing_stands listing accepts) (listing_answer listing accepts)

pub lists_tell : ListsTell
lists_tell strategy parity basis c d out ends r out' ends' first made room marks s room' marks' second accepts same =
    same_lists (listing_stands first made) (listing_stands second accepts)
    (ap (λ (x : Listed). take x.coefficients out') (sym (listing_answer first made))
    ∙ same
    ∙ ap (λ (x : Listed). take x.coefficients room') (listing_answer second accepts))
