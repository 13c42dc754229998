use Rattle.std.proofs.Common.{refl, inl}
use Rattle.dav_store.proofs.Staying.{reads_same}
use Rattle.dav_selection.proofs.calendars.calendar_report.Goals as goal

pub returns-in-Ok-FreeBusyQuery : goal.returns-in-Ok-FreeBusyQuery
returns-in-Ok-FreeBusyQuery g c = rw (c.in-Ok-FreeBusyQuery.ensures, c.in-Ok-FreeBusyQuery.field-0-is) (record {
  table = inl (refl, refl);
  shown = λ stock shows. inl refl;
  stays = reads_same _ _;
})

pub returns-in-Ok-CalendarMultiget : goal.returns-in-Ok-CalendarMultiget
returns-in-Ok-CalendarMultiget g c = rw (c.in-Ok-CalendarMultiget.ensures, c.in-Ok-CalendarMultiget.field-0-is) (record {
  table = c.follow.ensures.table;
  shown = λ stock shows. c.follow.ensures.shown stock shows;
  stays = c.follow.ensures.stays;
})
