use Rattle.std.proofs.Common.{◌∙◌, sym}
use Rattle.dav_store.specs.Leads.{begun, listed, none, unlisted}
use Rattle.dav_store.proofs.Walking.{walk_leaves, walk_same}
use Rattle.dav_get.proofs.PageMembers.{listed_by, listed_none}
use Rattle.dav_get.proofs.autoindex.list.Goals as goal

pub returns-then-is_get-clause-listed : goal.returns-then-is_get-clause-listed
returns-then-is_get-clause-listed g c =
    listed_by g.S.GuardedFileSystem.view g.S.GuardedFileSystem.listings (λ members. members.items) _ c.args.fs.now c.args.credentials.now c.args.asked.now.path.now
    c.read_members.result c.read_members.new.fs (sym c.if-is_get.true ∙ c.is_get.ensures) c.read_members.ensures.listed c.read_members.ensures.plain c.read_members.ensures.refused
    c.read_members.ensures.shown

pub returns-in-Ok-clause-listed : goal.returns-in-Ok-clause-listed
returns-in-Ok-clause-listed g c =
    listed_none g.S.GuardedFileSystem.view g.S.GuardedFileSystem.listings _ _ c.args.fs.now c.read_dir.new.self c.args.credentials.now c.args.asked.now.path.now c.in-Ok.dir
    c.end_dir.new.self (sym c.if-is_get.false ∙ c.is_get.ensures) c.new.ensures.items c.in-Ok.ensures.done c.end_dir.ensures.done

pub returns-in-Ok-clause-stays : goal.returns-in-Ok-clause-stays
returns-in-Ok-clause-stays g c = record {
  keeps = walk_leaves (g.S.GuardedFileSystem.listings.lister c.in-Ok.dir) _ _ _ _ c.in-Ok.ensures.stays.keeps (walk_same _ _) c.end_dir.ensures.stays.keeps;
  loan = c.end_dir.ensures.stays.loan ∙ c.in-Ok.ensures.stays.loan;
}

pub returns-in-Ok-clause-leads : goal.returns-in-Ok-clause-leads
returns-in-Ok-clause-leads g c =
    listed _ _ _ none (record {
      begin = c.read_dir.new.self;
      listing = c.in-Ok.dir;
      begins = c.in-Ok.ensures.done;
      after = c.read_dir.new.self;
      over = c.in-Ok.dir;
      on = begun;
      ended = c.end_dir.ensures.done;
    }) (returns-in-Ok-clause-stays g c).keeps.world

pub returns-in-Err-clause-leads : goal.returns-in-Err-clause-leads
returns-in-Err-clause-leads g c = unlisted _ _ _ _ none c.in-Err.ensures.done c.in-Err.ensures.stays.keeps.world
