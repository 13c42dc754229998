use Rattle.dav_methods.proofs.tables.WritesLead.{writes_lead}
use Rattle.dav_methods.proofs.laws.writes_lead_on.Goals as goal

pub returns : goal.returns
returns g ctx c s t method prefix path fields body r changes =
    writes_lead g.S.GuardedFileSystem.view g.S.GuardedFileSystem.listings g.S.File.DavFile.view.writes c s method prefix path
    fields body r t changes
