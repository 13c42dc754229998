use Rattle.std.proofs.Common.{refl}
use Rattle.dav_core.specs.declared.method.DavMethod.TheVariants.{Delete}
use Rattle.dav_methods.proofs.tables.AnswersListed.{delete_listed}
use Rattle.dav_methods.proofs.removal_laws.removals_are_listed.Goals as goal

pub returns : goal.returns
returns g ctx c few prefix path fields s t r run =
    (delete_listed Delete prefix fields g.S.GuardedFileSystem.view g.S.GuardedFileSystem.listings g.S.File.DavFile.view.writes c few refl refl path s r t run).answers
