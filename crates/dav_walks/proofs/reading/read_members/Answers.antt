use Rattle.std.proofs.Common.{inl, inr}
use Rattle.dav_store.proofs.Staying.{listing_ended}
use Rattle.dav_walks.proofs.steps.MembersRead.{read_by}
use Rattle.dav_walks.proofs.reading.read_members.Goals as goal

pub returns-in-Err-clause-read : goal.returns-in-Err-clause-read
returns-in-Err-clause-read g c = record { keeps = c.in-Err.ensures.stays.keeps; why = inr (inl c.in-Err.ensures.done) }

pub returns-clause-stays : goal.returns-clause-stays
returns-clause-stays g c = listing_ended _ _ _ _ _ _ _ _ c.in-Ok.ensures.stays c.read_to_end-read.ensures.stays c.end_dir.ensures.stays

pub returns-clause-read : goal.returns-clause-read
returns-clause-read g c =
    read_by g.S.GuardedFileSystem.view g.S.GuardedFileSystem.listings (λ members. members.items) c.args.fs.now
    c.read_dir.new.self c.read_to_end-read.new.fs c.end_dir.new.self c.args.credentials.now c.args.path.now c.in-Ok.dir c.read_to_end-read.new.dir c.read_to_end-read.result c.in_order.result
    c.in-Ok.ensures.done (c.read_to_end-read.ensures.reads c.args.path.now) c.end_dir.ensures.done
    (returns-clause-stays g c).keeps
    c.in_order.ensures.each_once c.in_order.ensures.in_order c.in_order.ensures.refused
