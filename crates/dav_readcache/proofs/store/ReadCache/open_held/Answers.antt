use Rattle.std.proofs.Common.{◌∙◌, subst}
use Rattle.dav_store.specs.Frames.{IsOpened}
use Rattle.dav_readcache.proofs.Opened.{opened_held}
use Rattle.dav_readcache.proofs.store.ReadCache.open_held.Goals as goal

pub returns-in-Ok-clause-stays : goal.returns-in-Ok-clause-stays
returns-in-Ok-clause-stays g c =
    let opened = subst (λ how. IsOpened how (g.S.GuardedFileSystem.view.state c.args.self.now.store) (g.S.GuardedFileSystem.view.file.handle c.in-Ok.file) (g.S.GuardedFileSystem.view.file.seen c.in-Ok.file (g.S.GuardedFileSystem.view.state c.open.new.self)) (g.S.GuardedFileSystem.view.state c.open.new.self)) c.read.ensures c.in-Ok.ensures.stays.keeps in
    let held = opened_held g.S.GuardedFileSystem.view (g.S.GuardedFileSystem.view.state c.args.self.now.store)
    (record { store = c.open.new.self; file = c.in-Ok.file; shelf = c.args.self.now.shelf }) c.hold_opened.result c.hold_opened.new.store c.hold_opened.new.shelf opened
    c.in-Ok.ensures.reads_from c.hold_opened.ensures in
    record { keeps = held.one; loan = held.loan ∙ c.in-Ok.ensures.stays.loan }
