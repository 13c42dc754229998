use Rattle.dav_readcache.proofs.Contents.{file_stands}
use Rattle.dav_readcache.proofs.laws.sound_files_stand.Goals as goal

pub returns : goal.returns
returns g c = λ s w f. file_stands g.F.DavFile.view c.args._file.now.reading c.args._file.now.file s w f
