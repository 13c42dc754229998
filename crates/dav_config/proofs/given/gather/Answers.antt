use Rattle.dav_config.proofs.Draining.{drained_touches}
use Rattle.dav_config.proofs.given.gather.Goals as goal

pub returns-clause-touches : goal.returns-clause-touches
returns-clause-touches g c =
    let inside = g.met.S.GuardedFileSystem.puts_inside c.args.store.now c.drained-all.new.disk in
    rw inside (rw (c.into_parts-head.ensures, c.disk.ensures.value) at (drained_touches g.S.File.DavFile.view g.S.Disk.Disk.state g.S.Disk.Disk.loan _ _ _ _
    c.drained-all.ensures.drains))
