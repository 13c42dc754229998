use Rattle.std.proofs.Common.{sym}
use Rattle.dav_host.proofs.Listers.{lister_asked, listing_written}
use Rattle.dav_host.proofs.listings.next_name.Goals as goal

pub returns-in-Some-clause-listers : goal.returns-in-Some-clause-listers
returns-in-Some-clause-listers g c = lister_asked c.args.lister c.args.listings.now c.get_mut.follows.lender c.in-Some.listing.now _ c.next.result c.get_mut.follows.holds c.in-Some.ensures.value c.next.ensures.left

pub returns-in-Some-clause-goes : goal.returns-in-Some-clause-goes
returns-in-Some-clause-goes g c = (
  c.in-Some.listing.now,
  _,
  sym c.in-Some.ensures.value,
  c.next.ensures.goes,
  listing_written c.args.lister c.args.listings.now c.get_mut.follows.lender c.in-Some.listing.now _ c.get_mut.follows.holds c.in-Some.ensures.value,
)
