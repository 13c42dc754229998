use Rattle.std.proofs.Common.{rules, [], ◌++◌, ◌∷◌, Err, refl, ◌∙◌}
use Rattle.dav_store.specs.Leads.{begun as just_begun, goes_on, says}
use Rattle.dav_store.specs.Members.{begun, goes}
use Rattle.dav_store.proofs.Leading.{on_then}
use Rattle.dav_store.proofs.Reading.{told_then}
use Rattle.dav_store.proofs.Staying.{listing_beside, listing_on, listing_same, listing_then}
use Rattle.dav_store.proofs.members.read_on.Goals as goal

pub entries-init : goal.entries-init
entries-init g c = record {
  stays = listing_same _ _ _ _ c.requires.live;
  walk = ([], begun, c.new-members.ensures.items);
  plain = rw c.new-members.ensures.items tt;
  on = just_begun;
}

pub entries-preserved : goal.entries-preserved
entries-preserved g c =
    let before = c.entries.invariant in
    let added = c.in-Ok.ensures in
    let answers = before.walk.0 in
    let r = added.told.0 in
    let name = g.S.GuardedFileSystem.listings.called c.in-Ok-Some.entry in
    record {
      stays = listing_beside _ _ _ _ _ _ _ (listing_on _ _ _ _ _ _ _ _ before.stays c.next_entry.ensures.lister c.next_entry.ensures.stays) added.stays;
      walk = (
        answers ++ record { name = name; meta = r } ∷ [],
        goes answers c.entries.fs c.next_entry.new.self c.add_member.new.fs c.entries.dir c.next_entry.new.dir c.in-Ok-Some.entry r before.walk.1
            (rw c.in-Ok-Some.field-0-is at c.in-Ok-Some.ensures.done) added.told.1 added.store added.stays.keeps,
        told_then answers name r c.entries.members.items c.add_member.new.members.items added.told.2 before.walk.2,
      );
      plain = added.plain before.plain;
      on = says _ _ _ _ _ _ _ before.on (rw c.in-Ok-Some.field-0-is at c.in-Ok-Some.ensures.done) added.told.1 added.store added.stays.keeps;
    }

pub returns-in_default-clause-stays : goal.returns-in_default-clause-stays
returns-in_default-clause-stays g c =
    listing_beside _ _ _ _ _ _ _ (listing_on _ _ _ _ _ _ _ _ c.entries.invariant.stays c.next_entry.ensures.lister c.next_entry.ensures.stays)
    c.add_member.ensures.stays

pub returns-in_default-clause-on : goal.returns-in_default-clause-on
returns-in_default-clause-on g c = says _ _ _ _ _ _ _ c.entries.invariant.on (rw c.in-Ok-Some.field-0-is at c.in-Ok-Some.ensures.done) c.add_member.ensures.told.1 c.add_member.ensures.store c.add_member.ensures.stays.keeps

pub returns-in-Ok-None-clause-on : goal.returns-in-Ok-None-clause-on
returns-in-Ok-None-clause-on g c = goes_on _ _ _ _ _ c.entries.invariant.on c.next_entry.ensures.done

pub returns-in-Err-NoMemory-clause-on : goal.returns-in-Err-NoMemory-clause-on
returns-in-Err-NoMemory-clause-on g c = goes_on _ _ _ _ _ c.entries.invariant.on c.next_entry.ensures.done

pub returns-in-Ok-run_out-clause-walks : goal.returns-in-Ok-run_out-clause-walks
returns-in-Ok-run_out-clause-walks g c =
    let before = c.entries.invariant in
    record {
      answers = before.walk.0;
      place = c.entries.fs;
      left = c.entries.dir;
      walk = before.walk.1;
      last = Err c.in-Err.field-0;
      stops = search rules;
      behind = c.next_entry.new.self;
      rest = c.next_entry.new.dir;
      ends = c.in-Err.ensures.done;
      runs_out = c.in-Ok-run_out.ensures.ends;
      told = before.walk.2;
      from = before.stays.keeps.counts;
      on = c.next_entry.ensures.stays.keeps.keeps.counts;
      out = c.run_out.ensures.stays.keeps.counts;
    }

pub returns-in-Ok-run_out-clause-stays : goal.returns-in-Ok-run_out-clause-stays
returns-in-Ok-run_out-clause-stays g c =
    listing_then _ _ _ _ _ _ _ _ (listing_on _ _ _ _ _ _ _ _ c.entries.invariant.stays c.next_entry.ensures.lister c.next_entry.ensures.stays)
    c.run_out.ensures.stays

pub returns-in-Ok-run_out-clause-on : goal.returns-in-Ok-run_out-clause-on
returns-in-Ok-run_out-clause-on g c =
    on_then _ _ _ _ _ _ (goes_on _ _ _ _ _ c.entries.invariant.on c.next_entry.ensures.done) _ _ c.run_out.ensures.on

pub returns-in-Err-run_out-clause-stays : goal.returns-in-Err-run_out-clause-stays
returns-in-Err-run_out-clause-stays g c =
    listing_then _ _ _ _ _ _ _ _ (listing_on _ _ _ _ _ _ _ _ c.entries.invariant.stays c.next_entry.ensures.lister c.next_entry.ensures.stays)
    c.run_out.ensures.stays

pub returns-in-Err-run_out-clause-on : goal.returns-in-Err-run_out-clause-on
returns-in-Err-run_out-clause-on g c =
    on_then _ _ _ _ _ _ (goes_on _ _ _ _ _ c.entries.invariant.on c.next_entry.ensures.done) _ _ c.run_out.ensures.on

pub returns-in-Ok-None-clause-stays : goal.returns-in-Ok-None-clause-stays
returns-in-Ok-None-clause-stays g c =
    listing_on _ _ _ _ _ _ _ _ c.entries.invariant.stays c.next_entry.ensures.lister c.next_entry.ensures.stays

pub returns-in-Err-NoMemory-clause-stays : goal.returns-in-Err-NoMemory-clause-stays
returns-in-Err-NoMemory-clause-stays g c =
    listing_on _ _ _ _ _ _ _ _ c.entries.invariant.stays c.next_entry.ensures.lister c.next_entry.ensures.stays
