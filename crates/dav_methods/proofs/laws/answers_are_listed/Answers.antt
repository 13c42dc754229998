use Rattle.std.proofs.Common.{refl}
use Rattle.dav_core.specs.declared.method.DavMethod.TheVariants.{MkAddressbook, MkCalendar, MkCol, Put}
use Rattle.dav_methods.proofs.tables.AnswersListed.{mkcalendar_listed, mkcol_listed, put_listed}
use Rattle.dav_methods.proofs.laws.answers_are_listed.Goals as goal

pub returns-clause-mkcol : goal.returns-clause-mkcol
returns-clause-mkcol g ctx c few prefix path fields s t r run =
    (mkcol_listed MkCol prefix fields g.S.GuardedFileSystem.view g.S.GuardedFileSystem.listings g.S.File.DavFile.view.writes c few refl refl refl path s r t run).answers

pub returns-clause-mkcalendar : goal.returns-clause-mkcalendar
returns-clause-mkcalendar g ctx c few prefix path fields s t r run =
    (mkcalendar_listed MkCalendar prefix fields g.S.GuardedFileSystem.view g.S.GuardedFileSystem.listings g.S.File.DavFile.view.writes c few refl refl path s r t run).answers

pub returns-clause-mkaddressbook : goal.returns-clause-mkaddressbook
returns-clause-mkaddressbook g ctx c few prefix path fields s t r run =
    (mkcalendar_listed MkAddressbook prefix fields g.S.GuardedFileSystem.view g.S.GuardedFileSystem.listings g.S.File.DavFile.view.writes c few refl refl path s r t run).answers

pub returns-clause-put : goal.returns-clause-put
returns-clause-put g ctx c few prefix path fields bytes s t r run =
    (put_listed Put prefix fields g.S.GuardedFileSystem.view g.S.GuardedFileSystem.listings g.S.File.DavFile.view.writes c few refl refl refl refl path bytes s r t run).answers
