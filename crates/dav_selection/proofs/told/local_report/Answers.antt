use Rattle.dav_selection.specs.Told.{stock_in}
use Rattle.dav_selection.proofs.OfRequests.{of_address_books, of_calendars}
use Rattle.dav_selection.proofs.told.local_report.Goals as goal

-- src/told.rt:46:1
pub returns-in-Calendars-clause-tree : goal.returns-in-Calendars-clause-tree
returns-in-Calendars-clause-tree g c w told once free =
    rw c.in-Calendars.is (c.calendar_report.ensures.shown (stock_in c.args.fs.now.ways w)
    (c.shows_the_tree.ensures w told once _ (of_calendars c.args.path.now c.args.prefix.now _) (rw c.in-Calendars.is at free)))

pub returns-in-AddressBook-clause-tree : goal.returns-in-AddressBook-clause-tree
returns-in-AddressBook-clause-tree g c w told once free =
    rw c.in-AddressBook.is (c.addressbook_report.ensures.shown (stock_in c.args.fs.now.ways w)
    (c.shows_the_tree.ensures w told once _ (of_address_books c.args.path.now c.args.prefix.now _) (rw c.in-AddressBook.is at free)))
