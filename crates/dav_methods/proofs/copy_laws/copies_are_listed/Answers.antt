use Rattle.std.proofs.Common.{false, true, refl}
use Rattle.dav_core.specs.declared.method.DavMethod.TheVariants.{Copy, Move}
use Rattle.dav_methods.proofs.tables.CopiesListed.{carry_listed}
use Rattle.dav_methods.proofs.copy_laws.copies_are_listed.Goals as goal

pub returns-clause-copy : goal.returns-clause-copy
returns-clause-copy g ctx c few prefix path fields s t r run =
    (carry_listed Copy prefix fields g.S.GuardedFileSystem.view g.S.GuardedFileSystem.listings g.S.File.DavFile.view.writes c few false refl (λ bad. bad) refl refl (λ spares. spares) refl refl path s r t run).answers

pub returns-clause-moved : goal.returns-clause-moved
returns-clause-moved g ctx c few prefix path fields s t r run =
    (carry_listed Move prefix fields g.S.GuardedFileSystem.view g.S.GuardedFileSystem.listings g.S.File.DavFile.view.writes c few true refl (λ bad. bad) refl refl (λ spares. spares) refl refl path s r t run).answers
