use Rattle.dav_readcache.specs.Cached.{read_at}
use Rattle.dav_readcache.proofs.Contents.{steps_left}
use Rattle.dav_readcache.proofs.laws.reads_leave_contents.Goals as goal

pub returns : goal.returns
returns g c = λ s buffer result t after content steps.
    steps_left g.F.DavFile.view (read_at c.args._file.now s) (read_at after t) buffer result steps content
