use Rattle.std.proofs.Common.{[], ◌++◌, ◌∷◌, ap, inl, inr}
use Rattle.dav_store.specs.Members.{Answered, begun, goes}
use Rattle.dav_store.proofs.Staying.{listing_beside, listing_on, listing_same}
use Rattle.dav_walks.specs.Walking.{members_at}
use Rattle.dav_walks.proofs.steps.MembersRead.{entry_refused, none_told, told_then}
use Rattle.dav_walks.proofs.reading.read_to_end.Goals as goal

pub entries-init : goal.entries-init
entries-init g c = record {
  stays = listing_same _ _ _ _ c.requires.live;
  walk = ([], begun, λ path. none_told path (members_at path c.new-members.result.items) (ap (members_at path) c.new-members.ensures.items));
}

pub entries-preserved : goal.entries-preserved
entries-preserved g c =
    let before = c.entries.invariant in
    let added = c.in-Ok.ensures in
    let answers = before.walk.0 in
    let last : Answered = record { name = g.S.GuardedFileSystem.listings.called c.in-Ok-Some.entry; meta = added.told.0 } in
    record {
      stays = listing_beside _ _ _ _ _ _ _ (listing_on _ _ _ _ _ _ _ _ before.stays c.next_entry.ensures.lister c.next_entry.ensures.stays) added.stays;
      walk = (
        answers ++ last ∷ [],
        goes answers c.entries.fs c.next_entry.new.self c.add_child.new.fs c.entries.dir c.next_entry.new.dir c.in-Ok-Some.entry last.meta before.walk.1
            (rw c.in-Ok-Some.field-0-is at c.in-Ok-Some.ensures.done) added.told.1 added.store added.stays.keeps,
        λ path. told_then path answers last.name last.meta (members_at path c.entries.members.items) (members_at path c.add_child.new.members.items) (before.walk.2 path) (added.told.2 path),
      );
    }

pub returns-in-Err-clause-reads : goal.returns-in-Err-clause-reads
returns-in-Err-clause-reads g c = λ path.
    let before = c.entries.invariant in
    inr (inl (before.walk.0, c.entries.fs, c.entries.dir, before.walk.1, (before.walk.2 path).said, c.in-Err.ensures.done))

pub returns-in-Err-add_child-clause-reads : goal.returns-in-Err-add_child-clause-reads
returns-in-Err-add_child-clause-reads g c = λ path.
    let before = c.entries.invariant in
    let told = c.in-Err-add_child.ensures.told in
    let name = g.S.GuardedFileSystem.listings.called c.in-Ok-Some.entry in
    entry_refused g.S.GuardedFileSystem.view g.S.GuardedFileSystem.listings c.args.fs.now c.add_child.new.fs
    c.args.dir.now c.next_entry.new.dir path before.walk.0 name told.0 (members_at path c.entries.members.items) (members_at path c.add_child.new.members.items)
    c.in-Err-add_child.refusal (before.walk.2 path)
    (goes before.walk.0 c.entries.fs c.next_entry.new.self c.add_child.new.fs c.entries.dir c.next_entry.new.dir c.in-Ok-Some.entry told.0 before.walk.1
    (rw c.in-Ok-Some.field-0-is at c.in-Ok-Some.ensures.done) told.1 c.in-Err-add_child.ensures.store c.in-Err-add_child.ensures.stays.keeps)
    (told.2 path)

pub returns-in-Err-add_child-clause-stays : goal.returns-in-Err-add_child-clause-stays
returns-in-Err-add_child-clause-stays g c =
    listing_beside _ _ _ _ _ _ _ (listing_on _ _ _ _ _ _ _ _ c.entries.invariant.stays c.next_entry.ensures.lister c.next_entry.ensures.stays)
    c.add_child.ensures.stays

pub returns-in-Ok-None-clause-stays : goal.returns-in-Ok-None-clause-stays
returns-in-Ok-None-clause-stays g c =
    listing_on _ _ _ _ _ _ _ _ c.entries.invariant.stays c.next_entry.ensures.lister c.next_entry.ensures.stays

pub returns-in-Err-clause-stays : goal.returns-in-Err-clause-stays
returns-in-Err-clause-stays g c =
    listing_on _ _ _ _ _ _ _ _ c.entries.invariant.stays c.next_entry.ensures.lister c.next_entry.ensures.stays
