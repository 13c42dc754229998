use Rattle.std.proofs.Common.{Err, ap}
use Rattle.dav_get.specs.Table.{asked_of}
use Rattle.dav_get.proofs.PageMembers.{listing_given, listing_life, listing_most, listing_refused}
use Rattle.dav_get.proofs.autoindex.list_page.Goals as goal

pub returns-in-Ok-clause-table : goal.returns-in-Ok-clause-table
returns-in-Ok-clause-table g c =
    listing_given g.S.GuardedFileSystem.view g.S.GuardedFileSystem.listings (asked_of c.args.asked.now)
    c.args.credentials.now c.in-Ok.members.items c.args.fs.now c.give_page.result c.list.new.fs c.in-Ok.ensures.listed c.list.ensures.stays.keeps c.give_page.ensures

pub returns-in-Ok-clause-life : goal.returns-in-Ok-clause-life
returns-in-Ok-clause-life g c =
    listing_life g.S.GuardedFileSystem.view g.S.GuardedFileSystem.listings (asked_of c.args.asked.now)
    c.in-Ok.members.items c.args.fs.now c.give_page.result c.list.new.fs c.list.ensures.stays.keeps c.give_page.ensures

pub returns-in-Ok-clause-most : goal.returns-in-Ok-clause-most
returns-in-Ok-clause-most g c = listing_most (asked_of c.args.asked.now) c.in-Ok.members.items _ c.give_page.result c.give_page.ensures

pub returns-in-Err-clause-table : goal.returns-in-Err-clause-table
returns-in-Err-clause-table g c =
    listing_refused g.S.GuardedFileSystem.view g.S.GuardedFileSystem.listings (asked_of c.args.asked.now)
    c.args.credentials.now c.in-Err.error c.args.fs.now (Err c.from.result) c.list.new.fs c.in-Err.ensures.listed c.list.ensures.stays.keeps (ap Err c.from.ensures)
