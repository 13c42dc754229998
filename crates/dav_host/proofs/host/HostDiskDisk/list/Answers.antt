use Rattle.std.proofs.Common.{rules, refl, ap}
use Rattle.std.specs.Option.{option_map}
use Rattle.dav_core.proofs.TablesLemmas.{updates_put, value_put}
use Rattle.dav_host.specs.Listings.{left_of}
use Rattle.dav_host.proofs.host.HostDiskDisk.list.Goals as goal

pub returns-in-Ok-insert-clause-done : goal.returns-in-Ok-insert-clause-done
returns-in-Ok-insert-clause-done g c = record {
  counted = search rules;
  only = tt;
  live = refl;
  listers = (ap (option_map left_of) c.in-Some.ensures.free, (c.listing_of.result.left, c.listing_of.ensures.left, value_put left_of c.in-Some.lister c.args.self.now.listings c.insert.new.self _ c.in-Ok-insert.ensures.updates));
  told = tt;
}

pub returns-in-Ok-insert-clause-begins : goal.returns-in-Ok-insert-clause-begins
returns-in-Ok-insert-clause-begins g c =
    (c.listing_of.result, c.listing_of.ensures.missed, updates_put c.in-Some.lister c.args.self.now.listings c.insert.new.self _ c.in-Ok-insert.ensures.updates)
