use Rattle.std.proofs.Common.{arith}
use Rattle.dav_memory.specs.Entries.{listed_by}
use Rattle.dav_cache.proofs.DotLists.{puts-more}
use Rattle.dav_cache.proofs.du_cache.put_listing.Goals as goal

pub loop-name-preserved : goal.loop-name-preserved
loop-name-preserved c = record {
  puts = puts-more c.args.entries.now.cap (listed_by c.args.dir.now c.args.entry) c.args.names.now c.loop-name.made c.loop-name.name-index c.name-item.result c.args.entries.now.entries
      c.loop-name.entries c.put_name.new.entries c.loop-name.invariant.count c.loop-name-test.true c.name-item.is c.loop-name.invariant.puts (c.put_name.ensures.ok c.if-not-put_name.false);
  count = omega arith;
  room = omega arith;
}
