use Rattle.dav_local.proofs.Written.{all_written}
use Rattle.dav_local.proofs.file.LocalFsFileDavFile.write_bytes.Goals as goal

pub returns-clause-one : goal.returns-clause-one
returns-clause-one g c = all_written _ _ _ _ _ c.write_all.ensures.done
