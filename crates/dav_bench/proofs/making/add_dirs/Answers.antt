use Rattle.std.proofs.Common.{◌∙◌, arith}
use Rattle.dav_bench.proofs.Made.{dir_fits, dir_made}
use Rattle.dav_bench.proofs.making.add_dirs.Goals as goal

pub add_dir-requires : goal.add_dir-requires
add_dir-requires c =
    dir_fits c.args.m c.loop-i.i c.loop-i.disk c.in_ok-path.path c.beginning.result c.in_ok-path.ensures c.beginning.ensures (omega arith) c.loop-i.invariant.made

pub loop-i-preserved : goal.loop-i-preserved
loop-i-preserved c = record {
  made = dir_made c.args.m c.loop-i.i c.loop-i.disk c.add_dir.new.self c.in_ok-path.path c.beginning.result c.in_ok-path.ensures c.beginning.ensures (omega arith) c.loop-i.invariant.made
      c.in_ok-add_dir.ensures.ok;
  listings = c.in_ok-add_dir.ensures.listings ∙ c.loop-i.invariant.listings;
}
