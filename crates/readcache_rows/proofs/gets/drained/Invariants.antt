use Rattle.readcache_rows.specs.Open.{IsFor}
use Rattle.readcache_rows.proofs.gets.drained.Given as goal

abbrev pub invariant-loop : goal.invariant-loop
invariant-loop g l = IsFor g.F.DavFile.view l.opened (g.D.Disk.state l.disk)
