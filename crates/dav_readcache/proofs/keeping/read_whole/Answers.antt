use Rattle.std.proofs.Common.{◌≡◌, length, drop, Ok, subst, arith, refl}
use Rattle.dav_store.proofs.Lending.{lends_on, lends_same}
use Rattle.dav_store.specs.View.{Reads}
use Rattle.dav_readcache.specs.Opening.{none}
use Rattle.dav_readcache.proofs.Filling.{filled_more, reads_more, reads_none, reads_over, reads_stop}
use Rattle.dav_readcache.proofs.keeping.read_whole.Goals as goal

pub returns-in-Ok-eq0 : goal.returns-in-Ok-eq0
returns-in-Ok-eq0 g c =
    let long : length c.read_behind.new.into ≡ length c.reads.into = omega arith in
    let zero : c.in-Ok-eq0.field-0 ≡ 0 = omega arith in
    reads_over g.S.GuardedFileSystem.view
    (lends_on g.S.GuardedFileSystem.view g.S.GuardedFileSystem.listings g.met.S.GuardedFileSystem.fits g.met.S.GuardedFileSystem.puts_over)
    c.args.store.now c.reads.store c.read_behind.new.store c.args.file.now c.reads.file c.read_behind.new.file c.reads.into c.read_behind.new.into c.reads.count
    c.reads.invariant.front c.in-Ok-eq0.ensures.front long (omega (arith, long)) c.reads.invariant.filled
    (subst (λ k. Reads g.S.GuardedFileSystem.view c.reads.store c.reads.file (drop c.reads.count c.read_behind.new.into) (Ok k) c.read_behind.new.store c.read_behind.new.file) zero c.in-Ok-eq0.ensures.reads)

pub reads-preserved : goal.reads-preserved
reads-preserved g c =
    let long : length c.read_behind.new.into ≡ length c.reads.into = omega arith in
    record {
      front = reads_more g.S.GuardedFileSystem.view
          (lends_on g.S.GuardedFileSystem.view g.S.GuardedFileSystem.listings g.met.S.GuardedFileSystem.fits g.met.S.GuardedFileSystem.puts_over)
          c.args.store.now c.reads.store c.read_behind.new.store c.args.file.now c.reads.file c.read_behind.new.file c.reads.into c.read_behind.new.into c.reads.count
          c.reads.invariant.front c.in-Ok.ensures.front long c.in-Ok.more c.in-Ok.ensures.reads;
      filled = filled_more g.S.GuardedFileSystem.view
          (lends_on g.S.GuardedFileSystem.view g.S.GuardedFileSystem.listings g.met.S.GuardedFileSystem.fits g.met.S.GuardedFileSystem.puts_over)
          c.args.store.now c.reads.store c.read_behind.new.store c.args.file.now c.reads.file c.read_behind.new.file c.reads.into c.read_behind.new.into c.reads.count
          c.reads.invariant.front c.in-Ok.ensures.front long c.in-Ok.more (omega arith) (omega (arith, long)) c.reads.invariant.filled c.in-Ok.ensures.reads;
      long = omega (arith, long, c.reads.invariant.long);
    }

pub returns-in-Err : goal.returns-in-Err
returns-in-Err g c =
    let long : length c.read_behind.new.into ≡ length c.reads.into = omega arith in
    reads_stop g.S.GuardedFileSystem.view
    (lends_on g.S.GuardedFileSystem.view g.S.GuardedFileSystem.listings g.met.S.GuardedFileSystem.fits g.met.S.GuardedFileSystem.puts_over)
    c.args.store.now c.reads.store c.read_behind.new.store c.args.file.now c.reads.file c.read_behind.new.file c.reads.into c.read_behind.new.into c.reads.count
    c.reads.invariant.front c.in-Err.ensures.front long c.in-Err.field-0 (omega (arith, long)) c.reads.invariant.filled c.in-Err.ensures.reads

pub reads-init : goal.reads-init
reads-init g c = record {
  front = reads_none g.S.GuardedFileSystem.view c.args.store.now c.args.file.now c.args.into.now
      (lends_same g.S.GuardedFileSystem.view g.S.GuardedFileSystem.listings g.met.S.GuardedFileSystem.fits g.met.S.GuardedFileSystem.puts_back c.args.store.now) c.requires.reads_from;
  filled = none;
  long = refl;
}
