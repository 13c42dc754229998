use Rattle.dav_store.specs.Leads.{begun, goes_on}
use Rattle.dav_store.proofs.Staying.{listing_on, listing_same}
use Rattle.dav_store.proofs.members.run_out.Goals as goal

pub entries-init : goal.entries-init
entries-init g c = record { stays = listing_same _ _ _ _ c.requires.live; on = begun }

pub entries-preserved-in-Ok-Some : goal.entries-preserved-in-Ok-Some
entries-preserved-in-Ok-Some g c =
    let before = c.entries.invariant in
    let called = c.next_entry.ensures in
    record {
      stays = listing_on _ _ _ _ _ _ _ _ before.stays called.lister called.stays;
      on = goes_on _ _ _ _ _ before.on called.done;
    }

pub entries-preserved : goal.entries-preserved
entries-preserved g c =
    let before = c.entries.invariant in
    let called = c.next_entry.ensures in
    record {
      stays = listing_on _ _ _ _ _ _ _ _ before.stays called.lister called.stays;
      on = goes_on _ _ _ _ _ before.on called.done;
    }

pub returns-in-Ok-None-clause-ends : goal.returns-in-Ok-None-clause-ends
returns-in-Ok-None-clause-ends g c = (c.entries.fs, c.entries.dir, c.entries.invariant.on, rw c.in-Ok-None.field-0-is at c.in-Ok-None.ensures.done)

pub returns-in-Ok-None-clause-on : goal.returns-in-Ok-None-clause-on
returns-in-Ok-None-clause-on g c = goes_on _ _ _ _ _ c.entries.invariant.on c.next_entry.ensures.done

pub returns-in-Err-NoMemory-clause-on : goal.returns-in-Err-NoMemory-clause-on
returns-in-Err-NoMemory-clause-on g c = goes_on _ _ _ _ _ c.entries.invariant.on c.next_entry.ensures.done

pub returns-in-Ok-None-clause-stays : goal.returns-in-Ok-None-clause-stays
returns-in-Ok-None-clause-stays g c = listing_on _ _ _ _ _ _ _ _ c.entries.invariant.stays c.next_entry.ensures.lister c.next_entry.ensures.stays

pub returns-in-Err-NoMemory-clause-stays : goal.returns-in-Err-NoMemory-clause-stays
returns-in-Err-NoMemory-clause-stays g c = listing_on _ _ _ _ _ _ _ _ c.entries.invariant.stays c.next_entry.ensures.lister c.next_entry.ensures.stays
