use Rattle.std.proofs.Common.{◌≡◌, ◌-◌, length}
use Rattle.dav_readcache.specs.Opening.{FilledTo, ReadsFront}
use Rattle.dav_readcache.proofs.keeping.read_whole.Given as goal

abbrev pub invariant-reads : goal.invariant-reads
invariant-reads g l = record {
  front : ReadsFront g.S.GuardedFileSystem.view l.initial.store l.initial.file l.into l.count l.store l.file;
  filled : FilledTo g.S.GuardedFileSystem.view (length l.into) l.initial.store l.initial.file l.count l.store l.file;
  long : length l.into ≡ length l.initial.into;
}

abbrev pub decreases-reads : goal.decreases-reads
decreases-reads g l = length l.initial.into - l.count
