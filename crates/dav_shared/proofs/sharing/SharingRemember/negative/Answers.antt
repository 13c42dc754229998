use Rattle.std.proofs.Common.{◌∙◌, sym}
use Rattle.dav_cache.proofs.MemoryCalls.{if_ok}
use Rattle.dav_shared.specs.Waits.{waiting}
use Rattle.dav_shared.proofs.Denying.{negates_waiting}
use Rattle.dav_shared.proofs.sharing.SharingRemember.negative.Goals as goal

pub returns-clause-done : goal.returns-clause-done
returns-clause-done g c = if_ok c.negative.result _ _
    (λ absent n. negates_waiting (g.B.Book.names c.args.self.now.cache.now.folder) (waiting c.args.self.now.waits) c.args.dir.now c.args.name.now (g.D.Disk.state c.args.disk.now) (g.D.Disk.state c.negative.new.disk) absent
    (sym c.was_listed.ensures ∙ c.if-was_listed.false) n)
    c.negative.ensures.done
