use Rattle.dav_local.specs.LocalFiles.{local_file}
use Rattle.dav_readcache_laws.proofs.BodiesSound.{along_held, along_sound, local_stands}
use Rattle.dav_readcache_laws.proofs.bodies_over_contents_stand.Goals as goal

pub returns : goal.returns
returns g c = λ trail s b d held sound along.
    let now = along_held s b (g.D.Disk.state c.args._disk.now) d along held in
    let still = along_sound local_file trail s b (g.D.Disk.state c.args._disk.now) d along sound in
    (now, still, λ w told inside. local_stands trail (g.D.Disk.state c.args._disk.now) d w (g.met.D.Disk.tells_live c.args._disk.now) told inside now still)
