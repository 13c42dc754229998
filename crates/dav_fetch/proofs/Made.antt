-- A visit, from the calls that made it.
use Rattle.std.proofs.Common.{◌≡◌, List, [], ℕ, Option, None, Ok, ap}
use Rattle.std.specs.Option.{ForSome}
use Rattle.dav_io.specs.declared.fields.Field.{Field}
use Rattle.dav_core.specs.DavPath.{IsPath, WebPath}
use Rattle.dav_core.specs.Path.{Names}
use Rattle.dav_fetch.specs.declared.copied.Kept.{Kept}
use Rattle.dav_fetch.specs.declared.peer.Got.{Got}
use Rattle.dav_fetch.specs.Asking.{asked_for, awaits, dir_path, file_path}
use Rattle.dav_fetch.specs.Copy.{IsKept}
use Rattle.dav_fetch.specs.Fetching.{Visited}
use Rattle.dav_fetch.specs.Peer.{Gets, IsAskable, PeerState}
use Rattle.dav_fetch.specs.Reading.{ReadOn}
use Rattle.dav_fetch.specs.Walk.{Visit}

abbrev pub visit_of : (s m : PeerState) (path : WebPath) (asked : List Field) (got : Got) → Gets s path asked (Ok got) m → List ℕ → Visit
visit_of s m path asked got g came = record { path = path; asked = asked; world = g.is.0; got = got; came = came }

pub visited : (s m t : PeerState) (path : WebPath) (asked : List Field) (got : Got) (g : Gets s path asked (Ok got) m) (came : List ℕ) → IsAskable path asked → ReadOn m came t
    → Visited s (visit_of s m path asked got g came) t
visited s m t path asked got g came askable r = record { at = m; counts = g.counts; is = g.is.1; stays = g.stays askable; turns = g.turns; owns = g.owns; goes = g.goes askable; names = g.names; read = r }

-- the requests of a fetch
pub page_askable : (names : Names) (path : WebPath) (asked : List Field) → path ≡ dir_path names → IsPath path → asked ≡ [] → IsAskable path asked
page_askable names path asked path_is is none = record {
  is = is;
  prefix = ap (λ (p : WebPath). p.prefix) path_is;
  old = None;
  kept = λ k e. cc;
  fields = none;
}

pub file_askable : (names : Names) (path : WebPath) (asked : List Field) (old : Option Kept) → path ≡ file_path names → IsPath path → ForSome old IsKept → asked ≡ asked_for (awaits old) → IsAskable path asked
file_askable names path asked old path_is is kept fields = record {
  is = is;
  prefix = ap (λ (p : WebPath). p.prefix) path_is;
  old = old;
  kept = kept;
  fields = fields;
}
