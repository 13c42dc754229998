-- What a file holds is sound, and stays so through its reads.
use Rattle.std.specs.Prelude.{◌≡◌, ◌==◌, ◌&&◌, ◌⊎◌, ℕ, List, ◌∷◌, [], length, Bool, true, false, Option, None, Some, IfOk, IfSome, IsErr, Result, Ok, Err, refl}
use Rattle.std.specs.Option.{option_map}
use Rattle.std.proofs.Common.{sym, ap, subst, ◌∙◌, inl, inr}
use Rattle.std.proofs.lemmas.Bool.{and_parts}
use Rattle.dav_io.specs.declared.failure.NoMemory.{NoMemory}
use Rattle.dav_io.proofs.ToldLemmas.{told_after}
use Rattle.dav_core.specs.declared.error.FsError.{FsError}
use Rattle.dav_core.specs.declared.tree.Kind.TheVariants.{File}
use Rattle.dav_core.specs.DavPath.{WebPath}
use Rattle.dav_core.specs.Disk.{DiskState}
use Rattle.dav_core.specs.Info.{Info}
use Rattle.dav_core.specs.World.{SameBesidesOpens, World}
use Rattle.dav_core.specs.Writing.{reading}
use Rattle.dav_core.proofs.UnchangedLemmas.{equal_keys}
use Rattle.dav_store.specs.FileView.{FileView}
use Rattle.dav_store.specs.Standing.{AgreesOpen, Seen, Standing}
use Rattle.dav_store.specs.View.{View, seen_in}
use Rattle.dav_readcache.specs.declared.cached.CachedFile.{CachedFile}
use Rattle.dav_readcache.specs.declared.cached.Content.{Content}
use Rattle.dav_readcache.specs.declared.cached.Reading.{Reading}
use Rattle.dav_readcache.specs.declared.keeping.Wanted.{Wanted}
use Rattle.dav_readcache.specs.declared.store.ReadCache.{ReadCache}
use Rattle.dav_readcache.specs.Cached.{AfterSaid, AfterTag, IsLeft, ReadAt, Steps, StepsOf, StepsWith, content_in, content_of, is_held, read_by, seen_as, seen_reading, shown}
use Rattle.dav_readcache.specs.Opening.{AfterOpen, EndsOpen, Fetches, FrontIn, Holds, HoldsBy, HoldsWanted, Keeps, KeepsWhere, Opening, Starves, holding, says_tag, unheld, wanted_by, wanted_of}
use Rattle.dav_readcache.specs.Shelf.{Pairs, ShelfState, bytes_for}
use Rattle.dav_readcache.specs.Sound.{AreFaithful, AreFilesTold, AreSound, AreSoundIn, In, IsFileIn, IsHeldSound, IsSound, IsSoundIn, OpensTold}
use Rattle.dav_readcache.specs.Store.{cache_view}
use Rattle.dav_readcache.proofs.Alike.{agrees_in, found_sound, read_all}
use Rattle.dav_readcache.proofs.Showing.{shows_there}
use Rattle.dav_readcache.proofs.Sounds.{read_sound}

sound_in : (trail : List World) (w : World) (pairs : Pairs) → In w trail → AreSound trail pairs → AreSoundIn w pairs
sound_in trail w [] inside all = tt
sound_in trail w (pair ∷ pairs) inside (one, all) = (one w inside, sound_in trail w pairs inside all)

-- an entry that is found among sound ones
entry_sound : (trail : List World) (tag bytes : List ℕ) (s : ShelfState) → AreSound trail s.entries → bytes_for tag s ≡ Some bytes → IsSound trail tag bytes
entry_sound trail tag bytes s all found = λ w inside. found_sound w tag bytes s.entries (sound_in trail w s.entries inside all) found

-- ---- an opening

module _ (trail : List World) where
  abbrev IsHad : Result Reading NoMemory → Type 0
  IsHad (Ok r) = IsHeldSound (IsSound trail) r.content
  IsHad (Err e) = Unit {0}

  had_none : (n : ℕ) (result : Result Reading NoMemory) → result ≡ Ok (unheld n) → IsHad result
  had_none n result e = subst IsHad (sym e) (λ c is. cc)

  one_had : (tag bytes : List ℕ) → IsSound trail tag bytes → IsHeldSound (IsSound trail) (Some (record { tag = tag; bytes = bytes }))
  one_had tag bytes sound = λ c is.
      let given : Content = record { tag = tag; bytes = bytes } in
      let same : given ≡ c = cc in
      subst (λ (x : Content). IsSound trail x.tag x.bytes) same sound

  had_one : (tag bytes : List ℕ) (n : ℕ) (result : Result Reading NoMemory) → IsSound trail tag bytes → result ≡ Ok (holding tag bytes n) → IsHad result
  had_one tag bytes n result sound e = subst IsHad (sym e) (one_had tag bytes sound)

  had_refused : (result : Result Reading NoMemory) → IsErr result → IsHad result
  had_refused (Ok r) e = cc
  had_refused (Err x) e = tt

  had_kept : (tag bytes : List ℕ) (s t : ShelfState) (result : Result Reading NoMemory) → IsSound trail tag bytes → Keeps tag bytes s result t → IsHad result
  had_kept tag bytes s t result one (inl done) = had_one tag bytes (length bytes) result one done.0
  had_kept tag bytes s t result one (inr refused) = had_refused result refused.0

  had_where : (b : Bool) (n len : ℕ) (tag buffer : List ℕ) (s t : ShelfState) (result : Result Reading NoMemory) (same : Bool) → ((n == len) && same) ≡ b → (n ≡ len → IsSound trail tag buffer)
      → KeepsWhere b tag buffer n s result t → IsHad result
  had_where true n len tag buffer s t result same is one keeps = had_kept tag buffer s t result (one (equal_keys n len (and_parts (n == len) same is).0)) keeps
  had_where false n len tag buffer s t result same is one keeps = had_none n result keeps.0

  module _ (faithful : AreFaithful trail) (w : World) (inside : In w trail) (f : Seen) (told : f.stands.kind ≡ File → (v : World) × SameBesidesOpens w v × IsFileIn v f.stands) {S C F : Type 0} (view : View S C F) where
    had_fetched : (most : ℕ) (info : Info) (m q : Opening S F) (result : Result Reading NoMemory) (wanted : Wanted) → f.place ≡ 0 → wanted_of most info ≡ Some wanted → AgreesOpen info f.stands
        → seen_in view m.store m.file ≡ Some f → Fetches view wanted m result q → IsHad result
    had_fetched most info m q result wanted first asks agrees is fetches =
        let (g, seen, front) = told_after (seen_in view m.store m.file) (seen_in view fetches.store fetches.file) (FrontIn fetches.buffer fetches.count) f fetches.reads.reads.told is in
        let (regular, tag) = agrees_in w f told most info wanted asks agrees in
        had_where ((fetches.count == wanted.len) && says_tag wanted.tag fetches.said) fetches.count wanted.len wanted.tag fetches.buffer m.shelf q.shelf result (says_tag wanted.tag fetches.said) refl
        (λ whole. subst (IsSound trail wanted.tag) (sym (read_all w f told most info wanted fetches.buffer fetches.count g first asks agrees fetches.len whole front)) (read_sound trail faithful w inside f told wanted.tag regular tag))
        fetches.keeps

    had_by : (found : Option (List ℕ)) (most : ℕ) (info : Info) (m q : Opening S F) (result : Result Reading NoMemory) (wanted : Wanted) → f.place ≡ 0 → wanted_of most info ≡ Some wanted → AgreesOpen info f.stands
        → seen_in view m.store m.file ≡ Some f → ((bytes : List ℕ) → found ≡ Some bytes → IsSound trail wanted.tag bytes) → HoldsBy view found wanted m result q → IsHad result
    had_by (Some bytes) most info m q result wanted first asks agrees is entry (inl held) = had_one wanted.tag bytes 0 result (entry bytes refl) held.0
    had_by (Some bytes) most info m q result wanted first asks agrees is entry (inr starves) = had_refused result starves.refused
    had_by None most info m q result wanted first asks agrees is entry (inl starves) = had_refused result starves.refused
    had_by None most info m q result wanted first asks agrees is entry (inr fetches) = had_fetched most info m q result wanted first asks agrees is fetches

    had_wanted : (wanted : Option Wanted) (most : ℕ) (info : Info) (m q : Opening S F) (result : Result Reading NoMemory) → f.place ≡ 0 → wanted_of most info ≡ wanted → AgreesOpen info f.stands
        → seen_in view m.store m.file ≡ Some f → AreSound trail m.shelf.entries → HoldsWanted view wanted m result q → IsHad result
    had_wanted None most info m q result first asks agrees is all held = had_none 0 result held.0
    had_wanted (Some wanted) most info m q result first asks agrees is all held =
        had_by (bytes_for wanted.tag m.shelf) most info m q result wanted first asks agrees is (λ bytes found. entry_sound trail wanted.tag bytes m.shelf all found) held

    had_said : (said : Result Info FsError) (m q : Opening S F) (result : Result Reading NoMemory) → f.place ≡ 0 → IfOk said (λ info. AgreesOpen info f.stands)
        → seen_in view m.store m.file ≡ Some f → AreSound trail m.shelf.entries → HoldsWanted view (wanted_by m.shelf.most said) m result q → IsHad result
    had_said (Ok info) m q result first agrees is all held = had_wanted (wanted_of m.shelf.most info) m.shelf.most info m q result first refl agrees is all held
    had_said (Err e) m q result first agrees is all held = had_none 0 result held.0

    agrees_at : (said : Result Info FsError) (seen : Option Seen) → seen ≡ Some f → IfOk said (λ info. IfSome seen (λ g. AgreesOpen info g.stands)) → IfOk said (λ info. AgreesOpen info f.stands)
    agrees_at (Ok info) seen e all = subst (λ (x : Option Seen). IfSome x (λ g. AgreesOpen info g.stands)) e all
    agrees_at (Err x) seen e all = tt

    had_holds : (p q : Opening S F) (result : Result Reading NoMemory) → f.place ≡ 0 → seen_in view p.store p.file ≡ Some f → AreSound trail p.shelf.entries → Holds view p result q → IsHad result
    had_holds p q result first is all holds = by holds.holds
      where
        by : Starves (record p { store = holds.store; file = holds.file }) result q ⊎ HoldsWanted view (wanted_by p.shelf.most holds.said) (record p { store = holds.store; file = holds.file }) result q → IsHad result
        by (inl starves) = had_refused result starves.refused
        by (inr held) = had_said holds.said (record p { store = holds.store; file = holds.file }) q result first
            (agrees_at holds.said (seen_in view p.store p.file) is holds.says.done.told) (holds.says.done.same ∙ is) all held

    had_ends : (held : Result Reading NoMemory) (q : Opening S F) (file : CachedFile F) (t : S) (shelf : ShelfState) → IsHad held → EndsOpen view held q (Ok file) t shelf → IsHeldSound (IsSound trail) (content_of file)
    had_ends (Ok r) q file t shelf had ends =
        let given : CachedFile F = record { file = q.file; reading = Some r } in
        let same : given ≡ file = cc in
        subst (λ (x : CachedFile F). IsHeldSound (IsSound trail) (content_of x)) same had
    had_ends (Err e) q file t shelf had (is, closes, same) = cc

module _ {S C F : Type 0} (view : View S C F) where
  opened_had : (trail : List World) (w : World) (s t : ReadCache S C) (c : C) (path : WebPath) (first : Result F FsError) (k : S) (file : CachedFile F) → AreFaithful trail → In w trail → AreFilesTold view.file
      → OpensTold view s.store c path w → AreSound trail s.shelf.entries → view.opens s.store c path reading first k → AfterOpen view first k s (Ok file) t → IsHeldSound (IsSound trail) (content_of file)
  opened_had trail w s t c path (Err e) k file faithful inside files told all opens (is, same) = cc
  opened_had trail w s t c path (Ok inner) k file faithful inside files told all opens (held, same) =
      let (f, seen, place, world) = told k inner opens in
      let known : f.stands.kind ≡ File → (v : World) × SameBesidesOpens w v × IsFileIn v f.stands
      = λ regular. let (v, tells, there) = files inner (view.state k) f seen regular in (v, world v tells, there) in
      let p : Opening S F = record { store = k; file = inner; shelf = s.shelf } in
      had_ends trail faithful w inside f known view held.held held.at file t.store t.shelf (had_holds trail faithful w inside f known view p held.at held.held place seen all held.holds) held.ends

  -- What a file holds that was opened is sound for the trail.
  pub held_sound : (s : ReadCache S C) (c : C) (trail : List World) (w : World) (path : WebPath) (file : CachedFile F) (t : ReadCache S C) → AreFaithful trail → In w trail → AreFilesTold view.file
      → OpensTold view s.store c path w → AreSound trail s.shelf.entries → (cache_view view).opens s c path reading (Ok file) t → IsHeldSound (IsSound trail) (content_of file)
  held_sound s c trail w path file t faithful inside files told all (first, k, opens, after) = opened_had trail w s t c path first k file faithful inside files told all opens after

-- ---- reads

none_left : (a b : Option Content) → b ≡ None → IsLeft a b
none_left a b none = λ c is. cc

same_left : (a b : Option Content) → b ≡ a → IsLeft a b
same_left a b e = λ c is. sym e ∙ is

module _ {F : Type 0} (view : FileView F) where
  tag_left : (b : Bool) (p q : ReadAt F Reading) (buffer : List ℕ) (result : Result ℕ FsError) → AfterTag view b p buffer result q → IsLeft p.reading.content q.reading.content
  tag_left true p q buffer result (n, is, disk, same, copies) = same_left p.reading.content q.reading.content same
  tag_left false p q buffer result (asks, none) = none_left p.reading.content q.reading.content none

  said_left : (said : Result Info FsError) (p q : ReadAt F Reading) (buffer : List ℕ) (result : Result ℕ FsError) → AfterSaid view said p buffer result q → IsLeft p.reading.content q.reading.content
  said_left (Err e) p q buffer result (is, disk, same) = same_left p.reading.content q.reading.content (ap (λ (x : Reading). x.content) same)
  said_left (Ok info) p q buffer result after = tag_left (is_held p.reading.content info) p q buffer result after

  with_left : (content : Option Content) (p q : ReadAt F Reading) (buffer : List ℕ) (result : Result ℕ FsError) → StepsWith view content p buffer result q → IsLeft p.reading.content q.reading.content
  with_left None p q buffer result (asks, none) = none_left p.reading.content q.reading.content none
  with_left (Some c) p q buffer result says = said_left says.said (record p { disk = says.disk }) q buffer result says.after

  of_left : (old : Option Reading) (p q : ReadAt F (Option Reading)) (buffer : List ℕ) (result : Result ℕ FsError) → StepsOf view old p buffer result q → IsLeft (content_in old) (content_in q.reading)
  of_left None p q buffer result (asks, same) = same_left None (content_in q.reading) (ap content_in same)
  of_left (Some r) p q buffer result (g, same, steps) = λ c is.
      with_left r.content (read_by r p) (read_by g q) buffer result steps c (sym (ap content_in same) ∙ is)

  -- A read leaves what is held, or drops it.
  pub steps_left : (p q : ReadAt F (Option Reading)) (buffer : List ℕ) (result : Result ℕ FsError) → Steps view p buffer result q → IsLeft (content_in p.reading) (content_in q.reading)
  steps_left p q buffer result steps = of_left p.reading p q buffer result steps

-- ---- an open file

held_there : (content : Option Content) (w : World) (there : Standing) → IsHeldSound (IsSoundIn w) content → IsFileIn w there → shown content there ≡ there
held_there None w there sound is = refl
held_there (Some c) w there sound is = shows_there w c there (sound c refl) is

-- Where what it holds is sound, it is shown as it stands.
pub file_stands : {F : Type 0} (view : FileView F) (reads : Option Reading) (file : F) (s : DiskState) (w : World) (f : Seen) → AreFilesTold view → s.told ≡ Some w → IsHeldSound (IsSoundIn w) (content_in reads)
    → view.seen file s ≡ Some f → f.stands.kind ≡ File → (g : Seen) × (seen_reading reads (view.seen file s) ≡ Some g) × (g.stands ≡ f.stands) × IsFileIn w f.stands
file_stands view None file s w f files told sound seen regular =
    let (v, tells, is) = files file s f seen regular in
    let same : v ≡ w = cc in
    (f, seen, refl, subst (λ x. IsFileIn x f.stands) same is)
file_stands view (Some r) file s w f files told sound seen regular =
    let (v, tells, is) = files file s f seen regular in
    let same : v ≡ w = cc in
    let here : IsFileIn w f.stands = subst (λ x. IsFileIn x f.stands) same is in
    (seen_as r f, ap (option_map (seen_as r)) seen, held_there r.content w f.stands sound here, here)
