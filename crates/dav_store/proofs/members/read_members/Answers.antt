use Rattle.std.proofs.Common.{Err, arith}
use Rattle.dav_store.specs.Leads.{listed, none, unlisted}
use Rattle.dav_store.specs.Shows.{here}
use Rattle.dav_store.proofs.Reading.{refuses_there, shown_by}
use Rattle.dav_store.proofs.Staying.{listing_ended}
use Rattle.dav_store.proofs.members.read_members.Goals as goal

pub returns-in-Err-clause-shown : goal.returns-in-Err-clause-shown
returns-in-Err-clause-shown g c = λ found shows. refuses_there {L = g.row.S-Dir.Denot} found _ _ c.in-Err.error
    (shows.begins c.args.fs.now c.read_dir.new.self (Err c.in-Err.error) here c.in-Err.ensures.done)

pub returns-clause-shown : goal.returns-clause-shown
returns-clause-shown g c = λ found shows. shown_by g.S.GuardedFileSystem.view g.S.GuardedFileSystem.listings
    (λ members. members.items) found c.args.fs.now c.read_dir.new.self c.read_on-members.new.fs c.end_dir.new.self c.args.credentials.now c.args.path.now c.in-Ok.dir
    c.read_on-members.new.dir c.read_on-members.result c.in-Ok.ensures.done c.read_on-members.ensures.walks c.read_on-members.ensures.error c.end_dir.ensures.done
    c.in-Ok.ensures.stays.keeps.keeps.counts (omega (arith, c.end_dir.ensures.stays.keeps.counts)) shows

pub returns-clause-stays : goal.returns-clause-stays
returns-clause-stays g c = listing_ended _ _ _ _ _ _ _ _ c.in-Ok.ensures.stays c.read_on-members.ensures.stays c.end_dir.ensures.stays

pub returns-in-Err-clause-leads : goal.returns-in-Err-clause-leads
returns-in-Err-clause-leads g c = unlisted _ _ _ _ none c.in-Err.ensures.done c.in-Err.ensures.stays.keeps.world

pub returns-clause-leads : goal.returns-clause-leads
returns-clause-leads g c =
    listed _ _ _ none (record {
      begin = c.read_dir.new.self;
      listing = c.in-Ok.dir;
      begins = c.in-Ok.ensures.done;
      after = c.read_on-members.new.fs;
      over = c.read_on-members.new.dir;
      on = c.read_on-members.ensures.on;
      ended = c.end_dir.ensures.done;
    }) (returns-clause-stays g c).keeps.world
