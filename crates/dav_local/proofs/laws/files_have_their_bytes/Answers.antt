use Rattle.dav_local.proofs.ByRules.{bytes_seen}
use Rattle.dav_local.proofs.laws.files_have_their_bytes.Goals as goal

pub returns : goal.returns
returns g c w f told e = bytes_seen c.args._file.now (g.D.Disk.state c.args._disk.now) w f told e
