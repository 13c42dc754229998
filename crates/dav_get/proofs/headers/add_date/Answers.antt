use Rattle.std.proofs.Common.{Some}
use Rattle.dav_get.proofs.Dates.{said_some, dated}
use Rattle.dav_get.proofs.headers.add_date.Goals as goal

pub date_of-date-requires : goal.date_of-date-requires
date_of-date-requires g c = (g.met.M.DavMetaData.in_years c.args.meta.now).modified c.in-Ok.time (said_some _ c.in-Ok.time c.in-Ok.ensures)

pub returns-in_ok-add_field-in-Ok : goal.returns-in_ok-add_field-in-Ok
returns-in_ok-add_field-in-Ok g c = (Some c.date_of-date.result, dated _ c.in-Ok.time _ c.in-Ok.ensures c.date_of-date.ensures, rw c.known.ensures at c.in_ok-add_field-in-Ok.ensures)
