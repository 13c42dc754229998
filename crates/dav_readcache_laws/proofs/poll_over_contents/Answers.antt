use Rattle.std.specs.Prelude.{Some}
use Rattle.dav_local.specs.LocalFiles.{local_file}
use Rattle.dav_readcache_laws.proofs.BodiesSound.{local_stands, touched_sound}
use Rattle.dav_readcache_laws.proofs.poll_over_contents.Goals as goal

pub returns-clause-right : goal.returns-clause-right
returns-clause-right g c = λ trail w parts told inside sound has.
    c.take_piece.ensures.done.right (Some w) parts
    (local_stands trail (g.D.Disk.state c.args.disk.now) c.args.body.now w (g.met.D.Disk.tells_live c.args.disk.now) told inside c.requires.held sound) has

pub returns-clause-sound : goal.returns-clause-sound
returns-clause-sound g c = λ trail sound.
    touched_sound local_file trail (g.D.Disk.state c.args.disk.now) (g.D.Disk.state c.take_piece.new.disk) _ _ c.take_piece.ensures.done.does.disk sound
