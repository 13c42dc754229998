use Rattle.std.proofs.Common.{◌∙◌, sym, subst, ap}
use Rattle.dav_memory.specs.declared.key.DuKey.{DuKey}
use Rattle.dav_memory.specs.Entries.{name_key}
use Rattle.dav_shared.specs.Books.{IsUntold}
use Rattle.dav_shared.proofs.Denying.{negates_by}
use Rattle.dav_shared.proofs.shared.SharedCache.negative.Goals as goal

pub returns-clause-done : goal.returns-clause-done
returns-clause-done g c =
    let at = ap (λ (k : DuKey). k.dir) c.in_ok-dir_key.ensures in
    negates_by (g.B.Book.names c.args.self.now.folder) c.args.dir.now c.args.name.now c.in-Some.time (g.D.Disk.state c.args.disk.now) (g.D.Disk.state c.meta.new.self) c.meta.result c.conclude.result
    c.meta.ensures.done
    (λ is. (
      sym c.has_time-found.ensures ∙ c.conclude.ensures.found is,
      subst (λ d. IsUntold (g.B.Book.names c.args.self.now.folder) d c.in-Some.time c.args.name.now) at
          (c.conclude.ensures.untold is c.args.name.now (c.in_ok-name_key.ensures ∙ ap (λ d. name_key d c.args.name.now) (sym at))),
    ))
