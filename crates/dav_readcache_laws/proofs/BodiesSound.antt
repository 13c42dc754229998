-- What the file of a body holds is sound from the call that gave it on, and so the body stands in each world that is told.
use Rattle.std.specs.Prelude.{◌≡◌, List, true, is_some, IfOk, Option, None, Some, Ok, Err, refl}
use Rattle.std.specs.Option.{option_map}
use Rattle.std.proofs.Common.{sym, ap, subst, ◌∙◌}
use Rattle.std.proofs.lemmas.Bool.{and_parts}
use Rattle.dav_io.proofs.ToldLemmas.{told_after}
use Rattle.dav_core.specs.declared.tree.Kind.TheVariants.{File}
use Rattle.dav_core.specs.DavPath.{WebPath}
use Rattle.dav_core.specs.Disk.{DiskState, Live, TellsLive, can_read}
use Rattle.dav_core.specs.Tree.{is_file}
use Rattle.dav_core.specs.World.{OpenFile, SameBesidesOpens, World}
use Rattle.dav_core.proofs.UnchangedLemmas.{same_besides_then}
use Rattle.dav_store.specs.FileView.{FileView}
use Rattle.dav_store.specs.Standing.{Seen}
use Rattle.dav_store.specs.View.{View}
use Rattle.dav_model.specs.Due.{Query}
use Rattle.dav_get.specs.declared.body.GetBody.{GetBody}
use Rattle.dav_get.specs.declared.open_at.OpenAt.{OpenAt}
use Rattle.dav_get.specs.Bodies.{IsHeld, StandsIn, TouchesOwn}
use Rattle.dav_get.specs.Lives.{HasOpened, IsOpenedHere, OpenOnlyHeld}
use Rattle.dav_get.specs.Table.{Given}
use Rattle.dav_get.proofs.BodyKept.{held_stays}
use Rattle.dav_local.specs.declared.file.LocalFsFile.{LocalFsFile}
use Rattle.dav_local.specs.Files.{seen_by}
use Rattle.dav_local.specs.LocalFiles.{local_file}
use Rattle.dav_local.specs.LocalStays.{local_stays}
use Rattle.dav_local.specs.Standing.{seen_in, seen_with}
use Rattle.dav_readcache.specs.declared.cached.CachedFile.{CachedFile}
use Rattle.dav_readcache.specs.declared.store.ReadCache.{ReadCache}
use Rattle.dav_readcache.specs.Cached.{cached_file, content_of}
use Rattle.dav_readcache.specs.CachedStays.{cached_reads_on, cached_stays}
use Rattle.dav_readcache.specs.Sound.{AreFaithful, AreFilesTold, AreSound, In, IsHeldSound, IsSound, OpensTold}
use Rattle.dav_readcache.specs.Store.{cache_view}
use Rattle.dav_readcache.proofs.Contents.{held_sound}
use Rattle.dav_readcache.proofs.Told.{local_files_told}
use Rattle.dav_readcache_laws.specs.Bodies.{Along, IsFileSound, IsGivenSound, begun, left, polled, starved}
use Rattle.dav_readcache_laws.proofs.Joined.{body_stands}
use Rattle.dav_core.proofs.Rows.{file_kind}

-- ---- from the opening

module _ {S C F : Type 0} (view : View S C F) (c : C) (trail : List World) (faithful : AreFaithful trail) (w : World) (inside : In w trail) (files : AreFilesTold view.file)
    (told : (m : S) (v : World) (path : WebPath) → (view.state m).told ≡ Some v → OpensTold view m c path v) where
  -- What a file holds that a call opened is sound, where the entries were.
  opened_sound : (q : Query) (s : ReadCache S C) (file : CachedFile F) → (view.state s.store).told ≡ Some w → AreSound trail s.shelf.entries → IsOpenedHere (cache_view view) q c s file
      → IsHeldSound (IsSound trail) (content_of file)
  opened_sound q s file now all o =
      let (v, then, same) = told_after (view.state s.store).told (view.state o.before.store).told SameBesidesOpens w o.keeps.world now in
      let there : OpensTold view o.before.store c o.path w =
      λ n inner opens. (let (f, seen, place, world) = told o.before.store v o.path then n inner opens in (f, seen, place, λ x is. same_besides_then w v x same (world x is))) in
      let entries : AreSound trail o.before.shelf.entries = subst (λ (x : ReadCache S C). AreSound trail x.shelf.entries) (sym o.looks.1) all in
      let held = held_sound view o.before c trail w o.path o.opened o.after faithful inside files there entries o.opens in
      λ content is. held content (o.becomes.1 content is)

  -- So is what the body's file holds.
  pub given_sound : (q : Query) (s : ReadCache S C) (result : Given (CachedFile F)) → (view.state s.store).told ≡ Some w → AreSound trail s.shelf.entries → HasOpened (cache_view view) q c s result
      → IsGivenSound trail result
  given_sound q s (Err e) now all opened = tt
  given_sound q s (Ok r) now all opened = λ h is. opened_sound q s h.file now all (opened h is)

-- ---- through the polls

-- A file that is left by calls of its own holds nothing new.
pub touched_sound : {F : Type 0} (view : FileView F) (trail : List World) (s t : DiskState) (f g : Option (OpenAt (CachedFile F))) → TouchesOwn (cached_file view) s f t g → IsFileSound trail f → IsFileSound trail g
touched_sound view trail s t None None touches sound = λ h is. cc
touched_sound view trail s t None (Some g) touches sound = absurd touches
touched_sound view trail s t (Some f) None touches sound = λ h is. cc
touched_sound {F} view trail s t (Some f) (Some g) touches sound = λ h is.
    let same : g ≡ h = cc in
    subst (λ (x : OpenAt (CachedFile F)). IsHeldSound (IsSound trail) (content_of x.file)) same (λ content has. sound f refl content (touches.4.1 content has))

pub along_sound : {F : Type 0} (view : FileView F) (trail : List World) (s : DiskState) (b : GetBody (CachedFile F)) (t : DiskState) (c : GetBody (CachedFile F)) → Along (cached_file view) s b t c
    → IsFileSound trail b.file → IsFileSound trail c.file
along_sound view trail s b t c begun sound = sound
along_sound view trail s b t d (polled m n c e answer along polls) sound = touched_sound view trail m t c.file d.file polls.does.disk (along_sound view trail s b m c along sound)
along_sound view trail s b t d (starved m n c e along same) sound = touched_sound view trail m t c.file d.file same.disk (along_sound view trail s b m c along sound)
along_sound view trail s b t d (left m n c along leaves) sound = along_sound view trail s b m d along sound

-- The body may be polled all along.
pub along_held : (s : DiskState) (b : GetBody (CachedFile LocalFsFile)) (t : DiskState) (c : GetBody (CachedFile LocalFsFile)) → Along (cached_file local_file) s b t c
    → IsHeld (cached_file local_file) s b → IsHeld (cached_file local_file) t c
along_held s b t c begun held = held
along_held s b t d (polled m n c e answer along polls) held = polls.does.held
along_held s b t d (starved m n c e along same) held = same.held
along_held s b t d (left m n c along leaves) held =
    held_stays (cached_file local_file) (λ f x y on. cached_stays local_file f x y (local_stays f.file x y on)) (λ f x y on reads. cached_reads_on local_file f x y on (local_stays f.file x y on) (λ r. r) reads)
    m t d leaves (along_held s b m d along held)

-- ---- a body over a local store's file

live_file : (live : Option Live) → can_read live ≡ true → (l : Live) × (live ≡ Some l) × (l.kind ≡ File)
live_file None can = cc
live_file (Some l) can = (l, refl, file_kind l.kind (and_parts (is_file l.kind) l.how.read can).0)

opened_file : (w : World) (l : Live) (o : Option OpenFile) → l.kind ≡ File → is_some o ≡ true → (f : Seen) × (option_map (seen_in w l.kind) o ≡ Some f) × (f.stands.kind ≡ File)
opened_file w l None regular some = cc
opened_file w l (Some o) regular some = (seen_in w l.kind o, refl, regular)

-- A regular file that is open for reading is told, where the disk tells its world.
local_told : (t : DiskState) (file : LocalFsFile) (w : World) → TellsLive t → t.told ≡ Some w → can_read (t.live file.handle.0) ≡ true → (f : Seen) × (seen_by file t ≡ Some f) × (f.stands.kind ≡ File)
local_told t file w tells told can =
    let (l, live, regular) = live_file (t.live file.handle.0) can in
    let (f, is, kind) = opened_file w l (w.opens file.handle.0) regular (tells.opens w told file.handle.0 ∙ ap is_some live) in
    (f, ap (λ x. seen_with x (t.live file.handle.0) file.handle.0) told ∙ (ap (λ x. seen_with (Some w) x file.handle.0) live ∙ is), kind)

-- A body whose file holds what is sound stands in the world that is told.
pub local_stands : (trail : List World) (t : DiskState) (b : GetBody (CachedFile LocalFsFile)) (w : World) → TellsLive t → t.told ≡ Some w → In w trail → IsHeld (cached_file local_file) t b → IsFileSound trail b.file
    → StandsIn (cached_file local_file).seen t (Some w) b.file
local_stands trail t b w tells told inside held sound =
    body_stands local_file t w b.file local_files_told told (λ h is. (
      (λ content has. sound h is content has w inside),
      local_told t h.file.file w tells told (held.file h is).live,
    ))

-- So it does whatever is done after the call that gave it.
pub given_stands : {D : Type 0} (state : D → DiskState) → ((d : D) → TellsLive (state d)) → (trail : List World) (s : DiskState) (result : Given (CachedFile LocalFsFile)) → IsGivenSound trail result
    → IfOk result (λ r. IsHeld (cached_file local_file) s r.1)
    → IfOk result (λ r. (d : D) (c : GetBody (CachedFile LocalFsFile)) (v : World) → Along (cached_file local_file) s r.1 (state d) c → (state d).told ≡ Some v → In v trail
    → StandsIn (cached_file local_file).seen (state d) (Some v) c.file)
given_stands state tells trail s (Err e) sound held = tt
given_stands state tells trail s (Ok r) sound held = λ d c v along told inside.
    local_stands trail (state d) c v (tells d) told inside (along_held s r.1 (state d) c along held) (along_sound local_file trail s r.1 (state d) c along sound)

pub given_held : {S C : Type 0} (view : View S C LocalFsFile) (s t : ReadCache S C) (result : Given (CachedFile LocalFsFile)) → OpenOnlyHeld (cache_view view) s result t
    → IfOk result (λ r. IsHeld (cached_file view.file) (view.state t.store) r.1)
given_held view s t (Err e) life = tt
given_held view s t (Ok r) life = life.0
