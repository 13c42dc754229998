use Rattle.dav_config.specs.Handling.{the_served}
use Rattle.dav_config.proofs.Failures.{handled_failed}
use Rattle.dav_config.proofs.laws.failures_are_faults.Goals as goal

pub returns : goal.returns
returns g c = handled_failed (the_served g.S.GuardedFileSystem g.S.File.DavFile)
