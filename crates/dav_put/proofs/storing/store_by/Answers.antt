use Rattle.std.proofs.Common.{inr}
use Rattle.dav_put.proofs.storing.store_by.Goals as goal

pub returns-in-Ok : goal.returns-in-Ok
returns-in-Ok g c = record {
  table = inr (record {
    upload = c.in-Ok.upload;
    begun = c.begin_some.new.fs;
    begins = c.in-Ok.ensures.begins;
    poured = c.pour-poured.result;
    full = c.pour-poured.new.fs;
    left = c.pour-poured.new.upload;
    pours = c.pour-poured.ensures.pours;
    ends = c.finish.ensures.ends;
  });
}
