-- A cache shows what a GET or HEAD asks for where the store inside shows it, and a body over it stands where its file does.
use Rattle.std.specs.Prelude.{◌≡◌, List, Option, Some, Result}
use Rattle.std.proofs.Common.{sym, ap, ◌∙◌}
use Rattle.dav_core.specs.declared.error.FsError.{FsError}
use Rattle.dav_core.specs.declared.member.Member.{Member}
use Rattle.dav_core.specs.declared.tree.Kind.TheVariants.{File}
use Rattle.dav_core.specs.DavPath.{WebPath}
use Rattle.dav_core.specs.Disk.{DiskState}
use Rattle.dav_core.specs.World.{World, bytes_of}
use Rattle.dav_store.specs.FileView.{FileView}
use Rattle.dav_store.specs.Standing.{Seen, Standing}
use Rattle.dav_store.specs.View.{Listings, View}
use Rattle.dav_model.specs.Due.{Query}
use Rattle.dav_get.specs.declared.open_at.OpenAt.{OpenAt}
use Rattle.dav_get.specs.Bodies.{StandsIn}
use Rattle.dav_get.specs.Told.{ShowsFor}
use Rattle.dav_readcache.specs.declared.cached.CachedFile.{CachedFile}
use Rattle.dav_readcache.specs.declared.store.ReadCache.{ReadCache}
use Rattle.dav_readcache.specs.Cached.{cached_file, content_of}
use Rattle.dav_readcache.specs.Sound.{AreFilesTold, AreSoundIn, IsHeldSound, IsSoundIn, IsWorldThere}
use Rattle.dav_readcache.specs.Store.{cache_listings, cache_view}
use Rattle.dav_readcache.proofs.Alike.{shows_alike}
use Rattle.dav_readcache.proofs.Contents.{file_stands}
use Rattle.dav_readcache.proofs.Inside.{members_alike}

module _ {S C F L E : Type 0} (view : View S C F) (lists : Listings S C L E) where
  pub shows_for : (s : ReadCache S C) (c : C) (w : World) (q : Query) (looked opened : WebPath → Result Standing FsError) (listed : WebPath → Result (List Member) FsError) → AreFilesTold view.file
      → ((path : WebPath) → IsWorldThere view s.store c path w) → AreSoundIn w s.shelf.entries → ShowsFor view lists s.store c q looked opened listed
      → ShowsFor (cache_view view) (cache_listings lists) s c q looked opened listed
  shows_for s c w q looked opened listed files world sound shows = record {
    path = shows_alike view s c w q.path (looked q.path) (opened q.path) files (world q.path) sound shows.path;
    at = λ there path is course. shows_alike view s c w path (looked path) (opened path) files (world path) sound (shows.at there path is course);
    members = λ there is course. members_alike view lists s c q.path (listed q.path) (shows.members there is course);
  }

-- A body's file, where the store inside tells it as a regular file, and what it holds is sound.
pub body_stands : {F : Type 0} (view : FileView F) (s : DiskState) (w : World) (file : Option (OpenAt (CachedFile F))) → AreFilesTold view → s.told ≡ Some w
    → ((h : OpenAt (CachedFile F)) → file ≡ Some h → IsHeldSound (IsSoundIn w) (content_of h.file) × ((f : Seen) × (view.seen h.file.file s ≡ Some f) × (f.stands.kind ≡ File)))
    → StandsIn (cached_file view).seen s (Some w) file
body_stands view s w file files told held = λ v h tells is.
    let same : w ≡ v = cc in
    let (sound, (f, seen, regular)) = held h is in
    let (g, shown, stands, here) = file_stands view h.file.reading h.file.file s w f files told sound seen regular in
    let bytes : g.stands.bytes ≡ bytes_of w g.stands.number = ap (λ (x : Standing). x.bytes) stands ∙ (here.bytes ∙ ap (bytes_of w) (ap (λ (x : Standing). x.number) (sym stands))) in
    (g, shown, bytes ∙ ap (λ x. bytes_of x g.stands.number) same)
