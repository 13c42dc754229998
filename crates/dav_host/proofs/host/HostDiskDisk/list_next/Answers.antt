use Rattle.dav_host.proofs.Listers.{goes_counted}
use Rattle.dav_host.proofs.host.HostDiskDisk.list_next.Goals as goal

pub returns-in-Err-clause-goes : goal.returns-in-Err-clause-goes
returns-in-Err-clause-goes g c =
    goes_counted _ c.args.at.0 c.args.self.now.listings c.next_name.new.listings c.counted.new.self.listings c.in-Err.error c.counted.result c.counted.ensures.same
    c.counted.ensures.listings c.in-Err.ensures.goes
