use Rattle.std.proofs.Common.{◌∙◌, refl, sym}
use Rattle.dav_shared.specs.Waits.{listing_of, waiting}
use Rattle.dav_shared.proofs.Denying.{none_waited, none_waits, seals_waiting}
use Rattle.dav_shared.proofs.sharing.SharingRemember.seal.Goals as goal

pub returns-in-Ok : goal.returns-in-Ok
returns-in-Ok g c = record {
  done = seals_waiting (g.B.Book.names c.args.self.now.cache.now.folder) (waiting c.args.self.now.waits) (listing_of c.in-Ok.listing) c.args.dir.now c.args.time c.args.names.now c.args.now
      (none_waits c.args.self.now.waits (sym c.is_some.ensures ∙ c.if-is_some.false)) c.in-Ok.ensures.listing c.requires.names;
  waits = none_waited c.args.self.now.waits _ _ c.in-Ok.listing (sym c.is_some.ensures ∙ c.if-is_some.false) c.in-Ok.ensures.listing c.in-Ok.ensures.now;
  cache = refl;
}
