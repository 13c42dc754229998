use Rattle.dav_disk.proofs.Listed.{listed_plain}
use Rattle.dav_disk.proofs.listings.listing_of.Goals as goal

pub new-requires : goal.new-requires
new-requires c = listed_plain c.args.dir.now c.args.rows.now _ c.requires.plain c.in_ok-names.ensures.each
