use Rattle.dav_selection.proofs.cards.addressbook_report.Goals as goal

pub returns-in-Ok-AddressBookMultiget : goal.returns-in-Ok-AddressBookMultiget
returns-in-Ok-AddressBookMultiget g c = rw (c.in-Ok-AddressBookMultiget.ensures, c.in-Ok-AddressBookMultiget.field-0-is) (record {
  table = c.follow.ensures.table;
  shown = λ stock shows. c.follow.ensures.shown stock shows;
  stays = c.follow.ensures.stays;
})
