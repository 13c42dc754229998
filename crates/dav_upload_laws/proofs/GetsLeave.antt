-- A GET over a local store opens a file that is shown, and its polls keep that file: so both leave uploads.
use Rattle.std.proofs.Common.{◌≡◌, ◌⊎◌, inl, inr, ℕ, Bool, true, false, cond, List, [], ◌∷◌, Option, None, Some, Result, Ok, Err, refl, sym, ap, subst, ◌∙◌}
use Rattle.std.specs.Option.{option_map}
use Rattle.dav_io.specs.Told.{Both}
use Rattle.dav_io.specs.declared.clock.Moment.{Moment}
use Rattle.dav_core.specs.declared.error.FsError.{FsError}
use Rattle.dav_core.specs.declared.dav_error.DavError.TheVariants.{NoMemory}
use Rattle.dav_core.specs.declared.handle.DiskError.{DiskError}
use Rattle.dav_core.specs.declared.handle.Handle.{Handle}
use Rattle.dav_core.specs.declared.member.Member.{Member}
use Rattle.dav_core.specs.declared.tree.Row.{Row}
use Rattle.dav_core.specs.DavPath.{WebPath}
use Rattle.dav_core.specs.Disk.{DiskState, Live, OpenedIn, Opens as DiskOpens, at_start, kind_opened}
use Rattle.dav_core.specs.Info.{Info}
use Rattle.dav_core.specs.Path.{is_plain}
use Rattle.dav_core.specs.Tree.{is_dir, is_linked, row_at}
use Rattle.dav_core.specs.Unchanged.{Keeps}
use Rattle.dav_core.specs.World.{IsWorld, OpenFile, SameBesidesOpens, World}
use Rattle.dav_core.specs.Writing.{reading}
use Rattle.dav_core.proofs.UnchangedLemmas.{keeps_same, put_same}
use Rattle.dav_store.specs.Standing.{Seen, Standing}
use Rattle.dav_store.specs.Files.{SeeksIn}
use Rattle.dav_store.specs.View.{Listings, Says, Seeks, View, seen_in}
use Rattle.dav_walks.specs.Pouring.{Writes}
use Rattle.dav_memory.specs.Memory.{MemoryState}
use Rattle.dav_model.specs.declared.sent.Sent.{Sent}
use Rattle.dav_model.specs.Due.{Course, OfItsPaths, Query, course, dir_course, directing, index_course, index_path, listing, opening, page_course, refusing}
use Rattle.dav_model.specs.Due as due
use Rattle.dav_model.specs.Head.{is_get, is_set, is_well_known}
use Rattle.dav_model.specs.Play.{read_file}
use Rattle.dav_get.specs.declared.body.GetBody.{GetBody}
use Rattle.dav_get.specs.declared.open_at.OpenAt.{OpenAt}
use Rattle.dav_get.specs.declared.part.BodyPart.{BodyPart}
use Rattle.dav_get.specs.Bodies.{TouchesOwn}
use Rattle.dav_get.specs.Lives.{OpenOnlyHeld, OpensOnly}
use Rattle.dav_get.specs.OpenFiles.{SameStands}
use Rattle.dav_get.specs.Table.{AfterListing, AfterLook, AfterMeta, AfterRedirect, Answer, ByCourse, ByFile, ByRedirect, ByWellKnown, Gets, GetsFile, Given, Holds, IfMoved, IsPageBody, Opens, Redirects, Sends, SendsFile, asked_at, first_place, sent_after, sent_for}
use Rattle.dav_local.specs.declared.entry.LocalFsDirEntry.{LocalFsDirEntry}
use Rattle.dav_local.specs.declared.file.LocalFsFile.{LocalFsFile}
use Rattle.dav_local.specs.declared.gathering.LocalFsReadDir.{LocalFsReadDir}
use Rattle.dav_local.specs.declared.ways.Ways.{Ways}
use Rattle.dav_local.specs.Calls.{IsOpening, Place, is_shut}
use Rattle.dav_local.specs.Files.{filed}
use Rattle.dav_local.specs.Standing.{seen_at, seen_with}
use Rattle.dav_local.specs.Standing as local_seen
use Rattle.dav_local.proofs.Rows.{looked_row}
use Rattle.dav_local_laws.specs.LocalStore.{IsLocalStore, place}
use Rattle.dav_upload.specs.Others.{IsAny, IsOfShown, LeavesOthers}
use Rattle.dav_upload.specs.Shown.{SameShown}
use Rattle.dav_upload.proofs.ReadsLeave.{keeps_leave, opened_leaves, read_leaves}
use Rattle.dav_upload_laws.specs.Reading.{IsRead, IsShownAt, handle_of}
use Rattle.dav_upload_laws.specs.Written.{finds_as_written}
use Rattle.dav_upload_laws.proofs.LocalTakes.{finds_here}
use Rattle.dav_io.proofs.ToldLemmas.{told_after}

-- ---- a file's number, by what is seen of it

-- what is open is seen
open_seen : (s : DiskState) (v : World) (h : ℕ) (l : Live) (o : OpenFile) → s.told ≡ Some v → s.live h ≡ Some l → v.opens h ≡ Some o → seen_at s h ≡ Some (local_seen.seen_in v l.kind o)
open_seen s v h l o was live opens =
    ap (λ told. seen_with told (s.live h) h) was ∙ (ap (λ a. seen_with (Some v) a h) live ∙ ap (option_map (local_seen.seen_in v l.kind)) opens)

-- what is seen is open, with its number
seen_open : (s : DiskState) (v : World) (h : ℕ) (f : Seen) → s.told ≡ Some v → seen_at s h ≡ Some f → (p : OpenFile) × (v.opens h ≡ Some p) × (p.number ≡ f.stands.number)
seen_open s v h f was seen = by (s.live h) (v.opens h) refl refl
  where
    by : (live : Option Live) (o : Option OpenFile) → s.live h ≡ live → v.opens h ≡ o → (p : OpenFile) × (v.opens h ≡ Some p) × (p.number ≡ f.stands.number)
    by None o e g =
        let none : ◌≡◌ {A = Option Seen} None (Some f) = sym (ap (λ told. seen_with told (s.live h) h) was ∙ ap (λ a. seen_with (Some v) a h) e) ∙ seen in cc
    by (Some l) None e g =
        let none : ◌≡◌ {A = Option Seen} None (Some f) = sym (ap (λ told. seen_with told (s.live h) h) was ∙ (ap (λ a. seen_with (Some v) a h) e ∙ ap (option_map (local_seen.seen_in v l.kind)) g)) ∙ seen in cc
    by (Some l) (Some p) e g =
        let both : Some (local_seen.seen_in v l.kind p) ≡ Some f = sym (open_seen s v h l p was e g) ∙ seen in
        let same : local_seen.seen_in v l.kind p ≡ f = cc in
        (p, g, ap (λ (x : Seen). x.stands.number) same)

-- ---- the file of a GET's body

module _ {S C F L E : Type 0} (view : View S C F) (lists : Listings S C L E) (c : C) where
  -- the file has this number, where it is seen
  abbrev NumberIs : ℕ → S → F → Type 0
  NumberIs n s f = (x : Seen) → view.file.seen f (view.state s) ≡ Some x → x.stands.number ≡ n

  -- the file of an answer has the number that another file has before
  abbrev Carries : S → F → Answer F → S → Type 0
  Carries s file answer t = (h : OpenAt F) → answer.1.file ≡ Some h → (n : ℕ) → NumberIs n s file → NumberIs n t h.file

  seen_number : (a b : Option Seen) (place n : ℕ) (r : Result ℕ FsError) → Both a b (SeeksIn place r) → ((x : Seen) → a ≡ Some x → x.stands.number ≡ n) → (y : Seen) → b ≡ Some y → y.stands.number ≡ n
  seen_number None None place n r both is y e = cc
  seen_number None (Some z) place n r both is y e = absurd both
  seen_number (Some x) None place n r both is y e = cc
  seen_number (Some x) (Some z) place n r both is y e =
      let same : z ≡ y = cc in
      ap (λ (q : Seen). q.stands.number) (sym same) ∙ (by r both ∙ is x refl)
    where
      by : (r : Result ℕ FsError) → SeeksIn place r x z → z.stands.number ≡ x.stands.number
      by (Ok k) moved = ap (λ (q : Seen). q.stands.number) moved
      by (Err f) still = ap (λ (q : Seen). q.stands.number) still

  said_number : (s t : S) (f g : F) (r : Result Info FsError) (n : ℕ) → Says view s f r t g → NumberIs n s f → NumberIs n t g
  said_number s t f g r n says is x e = is x (sym says.done.same ∙ e)

  redirected_number : (s t : S) (f g : F) (r : Result (Option (List ℕ)) FsError) (n : ℕ) → Redirects view s f r t g → NumberIs n s f → NumberIs n t g
  redirected_number s t f g r n asked is x e = is x (sym asked.done.same ∙ e)

  sought_number : (s t : S) (f g : F) (place : ℕ) (r : Result ℕ FsError) (n : ℕ) → Seeks view s f place r t g → NumberIs n s f → NumberIs n t g
  sought_number s t f g place r n seeks is x e = seen_number (seen_in view s f) (seen_in view t g) place n r seeks.done.told is x e

  held_carries : (parts : List BodyPart) (held : OpenAt F) (s : S) (answer : Answer F) (t : S) → Holds view parts held s answer.1 t → Carries s held.file answer t
  held_carries [] held s answer t (closes, empty) h e n is = let none : ◌≡◌ {A = Option (OpenAt F)} None (Some h) = sym empty.1 ∙ e in cc
  held_carries (part ∷ parts) held s answer t (same, left, file) h e n is =
      let both : Some held ≡ Some h = sym file ∙ e in
      let one : held ≡ h = cc in
      subst (λ (m : S). NumberIs n m h.file) (sym same) (subst (λ (k : OpenAt F). NumberIs n s k.file) one is)

  moved_carries : (place : Option ℕ) (q : Query) (info : Info) (sent : Sent) (file : F) (s : S) (answer : Answer F) (t : S)
      → IfMoved view place file s (λ sought held m. Sends view q info (sent_after sought sent) held m answer t) → Carries s file answer t
  moved_carries None q info sent file s answer t sends = held_carries sends.parts _ s answer t sends.holds
  moved_carries (Some start) q info sent file s answer t (sought, g, m, seeks, sends) = λ h e n is. held_carries sends.parts _ m answer t sends.holds h e n (sought_number s m file g start sought n seeks is)

  sent_carries : (q : Query) (info : Info) (file : F) (s : S) (answer : Answer F) (t : S) → SendsFile view q info file s (Ok answer) t → Carries s file answer t
  sent_carries q info file s answer t sends = moved_carries (first_place (sent_for q info)) q info (sent_for q info) file s answer t sends

  redirect_carries : (said : Result (Option (List ℕ)) FsError) (q : Query) (info : Info) (file : F) (s : S) (answer : Answer F) (t : S) → AfterRedirect view said q info file s (Ok answer) t → Carries s file answer t
  redirect_carries (Err e) q info file s answer t (closes, is) = λ h f n g. cc
  redirect_carries (Ok (Some address)) q info file s answer t (outcome, closes, empty) = λ h e n is. (let none : ◌≡◌ {A = Option (OpenAt F)} None (Some h) = sym empty.1 ∙ e in cc)
  redirect_carries (Ok None) q info file s answer t sends = sent_carries q info file s answer t sends

  asked_carries : (b : Bool) (q : Query) (info : Info) (file : F) (s : S) (answer : Answer F) (t : S) → ByRedirect view b q info file s (Ok answer) t → Carries s file answer t
  asked_carries false q info file s answer t sends = sent_carries q info file s answer t sends
  asked_carries true q info file s answer t (said, g, m, asked, after) = λ h e n is. redirect_carries said q info g m answer t after h e n (redirected_number s m file g said n asked is)

  file_carries : (b : Bool) (q : Query) (info : Info) (file : F) (s : S) (answer : Answer F) (t : S) → ByFile view b q info file s (Ok answer) t → Carries s file answer t
  file_carries true q info file s answer t on = asked_carries (is_set q.settings.redirect) q info file s answer t on
  file_carries false q info file s answer t (closes, is) = λ h f n g. cc

  meta_carries : (said : Result Info FsError) (q : Query) (file : F) (s : S) (answer : Answer F) (t : S) → AfterMeta view said q file s (Ok answer) t → Carries s file answer t
  meta_carries (Err e) q file s answer t (closes, is) = λ h f n g. cc
  meta_carries (Ok info) q file s answer t on = file_carries _ q info file s answer t on

  gets_carries : (q : Query) (file : F) (s : S) (answer : Answer F) (t : S) → GetsFile view q file s (Ok answer) t → Carries s file answer t
  gets_carries q file s answer t (said, g, m, says, could, after) = λ h e n is. meta_carries said q g m answer t after h e n (said_number s m file g said n says is)

  -- A body with a file is of a file that was opened at one of the query's paths.
  record OpenedAt (P : WebPath → Type 0) (q : Query) (s : S) (answer : Answer F) (t : S) : Type 0 where
    pub path : WebPath
    pub allowed : P path
    pub before : S
    pub look : Result Info FsError
    pub looks : view.looks s c q.path look before
    pub keeps : Keeps (view.state s) (view.state before)
    pub file : F
    pub opened : S
    pub opens : view.opens before c path reading (Ok file) opened
    pub carries : Carries opened file answer t

  opens_at : (P : WebPath → Type 0) (q : Query) (path : WebPath) → P path → (s m : S) (look : Result Info FsError) → view.looks s c q.path look m → Keeps (view.state s) (view.state m) → (answer : Answer F) (t : S)
      → Opens view (asked_at q path) c m (Ok answer) t → OpenedAt P q s answer t
  opens_at P q path allowed s m look looks keeps answer t (Err e, n, opens, one, (same, is)) = cc
  opens_at P q path allowed s m look looks keeps answer t (Ok file, n, opens, one, inl gets) = record {
    path = path;
    allowed = allowed;
    before = m;
    look = look;
    looks = looks;
    keeps = keeps;
    file = file;
    opened = n;
    opens = opens;
    carries = gets_carries (asked_at q path) file n answer t gets;
  }
  opens_at P q path allowed s m look looks keeps answer t (Ok file, n, opens, one, inr is) = cc

  -- where no file is opened
  paged_none : (b : Bool) (path : WebPath) (members : List Member) (body : GetBody F) → IsPageBody b path members body → body.file ≡ None
  paged_none true path members body (texts, index, left, none) = none
  paged_none false path members body empty = empty.1

  listed_none : (answered : Result (List Member) FsError) (q : Query) (answer : Answer F) → AfterListing answered q (Ok answer) → answer.1.file ≡ None
  listed_none (Err e) q answer is = cc
  listed_none (Ok members) q answer page = paged_none (is_get q.method) q.path members answer.1 page.1

  -- what follows where something was found
  module _ (P : WebPath → Type 0) (q : Query) (s m : S) (look : Result Info FsError) (looks : view.looks s c q.path look m) (keeps : Keeps (view.state s) (view.state m)) (answer : Answer F) (t : S) (h : OpenAt F)
      (file : answer.1.file ≡ Some h) where
    by_none : answer.1.file ≡ None → OpenedAt P q s answer t
    by_none none = let never : ◌≡◌ {A = Option (OpenAt F)} None (Some h) = sym none ∙ file in cc

    by_course : (way : Course) → ((path : WebPath) → way ≡ opening path → P path) → ByCourse view lists way q c m (Ok answer) t → OpenedAt P q s answer t
    by_course (refusing status close) allowed (same, is) = cc
    by_course directing allowed (same, directs) = by_none directs.1.1
    by_course (opening path) allowed opens = opens_at P q path (allowed path refl) s m look looks keeps answer t opens
    by_course listing allowed (answered, is, kept, after) = by_none (listed_none answered q answer after)

  page_opens_none : (q : Query) (path : WebPath) → page_course q.settings ≡ opening path → ⊥
  page_opens_none q path e = by (due.may_list q.settings.autoindex q.settings.allow) e
    where
      by : (b : Bool) → cond b listing (refusing 405 true) ≡ opening path → ⊥
      by true f = cc
      by false f = cc

  index_paths : (P : WebPath → Type 0) (q : Query) → OfItsPaths q P → q.path.slash ≡ true → (file : Option (List ℕ)) → q.settings.indexfile ≡ file → (path : WebPath) → index_course q file ≡ opening path → P path
  index_paths P q of slash None set path e = absurd (page_opens_none q path e)
  index_paths P q of slash (Some name) set path e = by (is_plain name) e
    where
      by : (b : Bool) → cond b (opening (index_path q.path name)) (refusing 404 false) ≡ opening path → P path
      by true f = let same : index_path q.path name ≡ path = cc in subst P same (of.index slash name set)
      by false f = cc

  dir_paths : (P : WebPath → Type 0) (q : Query) → OfItsPaths q P → (slash : Bool) → q.path.slash ≡ slash → (path : WebPath) → dir_course q slash ≡ opening path → P path
  dir_paths P q of false slash path e = cc
  dir_paths P q of true slash path e = index_paths P q of slash q.settings.indexfile refl path e

  course_paths : (P : WebPath → Type 0) (q : Query) → OfItsPaths q P → (dir : Bool) (path : WebPath) → cond dir (dir_course q q.path.slash) (opening q.path) ≡ opening path → P path
  course_paths P q of true path e = dir_paths P q of q.path.slash refl path e
  course_paths P q of false path e = let same : q.path ≡ path = cc in subst P same of.path

  looked_opens : (P : WebPath → Type 0) (q : Query) → OfItsPaths q P → (s m : S) (look : Result Info FsError) → view.looks s c q.path look m → Keeps (view.state s) (view.state m) → (answer : Answer F) (t : S) (h : OpenAt F)
      → answer.1.file ≡ Some h → AfterLook view lists look q c m (Ok answer) t → OpenedAt P q s answer t
  looked_opens P q of s m (Err e) looks keeps answer t h file (same, is) = cc
  looked_opens P q of s m (Ok info) looks keeps answer t h file on = by_course P q s m (Ok info) looks keeps answer t h file (course q info.kind) (course_paths P q of (is_dir info.kind)) on

  gets_open : (P : WebPath → Type 0) (q : Query) → OfItsPaths q P → (s : S) (answer : Answer F) (t : S) (h : OpenAt F) → answer.1.file ≡ Some h → Gets view lists q c s (Ok answer) t → OpenedAt P q s answer t
  gets_open P q of s answer t h file gets = by (is_well_known q.settings q.method q.path) gets
    where
      by : (b : Bool) → ByWellKnown view lists b q c s (Ok answer) t → OpenedAt P q s answer t
      by true (same, page) = let never : ◌≡◌ {A = Option (OpenAt F)} None (Some h) = sym page.1.1 ∙ file in cc
      by false (look, m, looks, keeps, after) = looked_opens P q of s m look looks keeps answer t h file after

-- ---- over a local store

module _ {S C : Type 0} (view : View S C LocalFsFile) (lists : Listings S C LocalFsReadDir LocalFsDirEntry) (writes : Writes LocalFsFile) (c : C) (ways : S → Ways) (memory : S → MemoryState) (moment : S → Moment)
    (local : IsLocalStore view lists writes ways memory moment) where
  abbrev spot : S → Place
  spot s = place view lists writes ways memory moment s

  local_seen_at : (f : LocalFsFile) (s : DiskState) → view.file.seen f s ≡ seen_at s (view.file.handle f)
  local_seen_at f s = ap (λ see. see f s) local.seen ∙ ap (seen_at s) (sym (local.handle f))

  -- The file that was opened for reading has the number of the row at its path.
  record IsOfRow (v : World) (path : WebPath) (n : S) (file : LocalFsFile) : Type 0 where
    pub row : Row
    pub at : row_at v.tree path.names ≡ Some row
    pub number : NumberIs view lists c row.number n file

  opened_row : (m n : S) (path : WebPath) (file : LocalFsFile) (v : World) → finds_as_written (ways m) ≡ true → (view.state m).told ≡ Some v → is_linked v.tree path.names ≡ false → view.opens m c path reading (Ok file) n
      → IsOfRow v path n file
  opened_row m n path file v plain was clear opens = by (is_shut (ways m) path) refl
    where
      run : IsOpening (spot m) path reading (Ok file) (spot n)
      run = (local.opens m n c path reading (Ok file) opens).0

      of_disk : (answer : Result Handle DiskError) (t : DiskState) → DiskOpens (view.state m) path.names reading answer t → Ok file ≡ filed answer → t ≡ view.state n → IsOfRow v path n file
      of_disk (Err d) t call is same = cc
      of_disk (Ok h) t call is same =
          let (w, now, over) = told_after (view.state m).told t.told (OpenedIn path.names (Ok h) (kind_opened (Ok h) t)) v call.told was in
          let (number, world, holds, rows) = over in
          let (row, looked, numbered, kind) = rows clear in
          let own : file ≡ record { handle = h } = cc in
          let handle : view.file.handle file ≡ h.0 = local.handle file ∙ ap (λ (f : LocalFsFile). f.handle.0) own in
          let told : (view.state n).told ≡ Some w = sym (ap (λ (d : DiskState). d.told) same) ∙ now in
          record {
            row = row;
            at = looked_row v.tree path.names row looked;
            number = λ x e. (let (p, there, is_number) = seen_open (view.state n) w (view.file.handle file) x told (sym (local_seen_at file (view.state n)) ∙ e) in
                let starts : w.opens (view.file.handle file) ≡ Some (at_start number) = ap w.opens handle ∙ (ap (λ (z : World). z.opens h.0) world ∙ put_same h.0 (Some (at_start number)) v.opens) in
                let both : Some p ≡ Some (at_start number) = sym there ∙ starts in
                let one : p ≡ at_start number = cc in
                sym is_number ∙ (ap (λ (o : OpenFile). o.number) one ∙ sym numbered));
          }

      by : (b : Bool) → is_shut (ways m) path ≡ b → IsOfRow v path n file
      by true e = let (is, same) = run.forbidden e in cc
      by false e = elim (finds_here (spot m) (spot n) path.names _ (Ok file) plain (run.asked e)) [
        | inl (answer, t, call, is, ends) ↦ of_disk answer t call is (sym (ap (λ (x : Place). x.disk) ends))
        | inr (none, same) ↦ cc
      ]

  -- what a GET leaves
  module _ (counts : ℕ → Bool) (q : Query) (s t : S) (v w : World) (was : (view.state s).told ≡ Some v) (now : (view.state t).told ≡ Some w) where
    abbrev Left : Type 0
    Left = SameShown v w × LeavesOthers counts None IsAny (view.state s).live (view.state t).live v w

    is_world : IsWorld v
    is_world = local.worlds s v was

    -- what a body has open is the file of the row at the path that was opened
    of_its_row : (answer : Answer LocalFsFile) (h : OpenAt LocalFsFile) → finds_as_written (ways s) ≡ true → (view.state t).live (view.file.handle h.file) ≡ Some read_file → answer.1.file ≡ Some h
        → OpenedAt view lists c (IsShownAt v) q s answer t → IsOfShown v w (view.file.handle h.file)
    of_its_row answer h plain live file o =
        let (u, here, same) = told_after (view.state s).told (view.state o.before).told SameBesidesOpens v o.keeps.world was in
        let still : finds_as_written (ways o.before) ≡ true = ap finds_as_written (local.looks s o.before c q.path o.look o.looks).1 ∙ plain in
        let r = opened_row o.before o.opened o.path o.file u still here (ap (λ tree. is_linked tree o.path.names) same.tree ∙ o.allowed.clear) o.opens in (
          o.path.names,
          r.row,
          ap (λ tree. row_at tree o.path.names) (sym same.tree) ∙ r.at,
          o.allowed.shows,
          λ x opens. o.carries h file r.row.number r.number _ (local_seen_at h.file (view.state t) ∙ open_seen (view.state t) w (view.file.handle h.file) read_file x now live opens),
        )

    body_leaves : (answer : Answer LocalFsFile) → OpenOnlyHeld view s (Ok answer) t
        → ((h : OpenAt LocalFsFile) → answer.1.file ≡ Some h → (view.state s).live (view.file.handle h.file) ≡ None → counts (view.file.handle h.file) ≡ true → OpenedAt view lists c (IsShownAt v) q s answer t)
        → finds_as_written (ways s) ≡ true → Left
    body_leaves answer life opened plain = by answer.1.file refl
      where
        by : (file : Option (OpenAt LocalFsFile)) → answer.1.file ≡ file → Left
        by None e = keeps_leave counts (view.state s) (view.state t) v w was now is_world (subst (λ f. OpensOnly view.file.handle (view.state s) f (view.state t)) e life.1)
        by (Some h) e =
            let (keeps, fresh, live) = subst (λ f. OpensOnly view.file.handle (view.state s) f (view.state t)) e life.1 in
            opened_leaves counts (view.state s) (view.state t) v w was now is_world (view.file.handle h.file) keeps fresh (λ is_counted. of_its_row answer h plain live e (opened h e fresh is_counted))

    pub get_leaves : (r : Given LocalFsFile) → finds_as_written (ways s) ≡ true → ((k : ℕ) → (view.state s).live k ≡ None → counts k ≡ true → OfItsPaths q (IsShownAt v)) → Gets view lists q c s r t ⊎ (r ≡ Err NoMemory)
        → OpenOnlyHeld view s r t → Left
    get_leaves (Err e) plain of run life = keeps_leave counts (view.state s) (view.state t) v w was now is_world life
    get_leaves (Ok answer) plain of (inl gets) life =
        body_leaves answer life (λ h file fresh is_counted. gets_open view lists c (IsShownAt v) q (of (view.file.handle h.file) fresh is_counted) s answer t h file gets) plain
    get_leaves (Ok answer) plain of (inr none) life = cc

    -- a page that is asked for by itself
    pub page_leaves : (r : Given LocalFsFile) → ByCourse view lists (page_course q.settings) q c s r t ⊎ (r ≡ Err NoMemory) → OpenOnlyHeld view s r t → Left
    page_leaves (Err e) run life = keeps_leave counts (view.state s) (view.state t) v w was now is_world life
    page_leaves (Ok answer) (inr none) life = cc
    page_leaves (Ok answer) (inl page) life =
        keeps_leave counts (view.state s) (view.state t) v w was now is_world (subst (λ f. OpensOnly view.file.handle (view.state s) f (view.state t)) (by (due.may_list q.settings.autoindex q.settings.allow) page) life.1)
      where
        by : (b : Bool) → ByCourse view lists (cond b listing (refusing 405 true)) q c s (Ok answer) t → answer.1.file ≡ None
        by true (answered, is, kept, after) = listed_none view lists c answered q answer after
        by false (same, is) = cc

  -- what a poll leaves
  polled_number : (m n : DiskState) (v w : World) (f g : LocalFsFile) → m.told ≡ Some v → n.told ≡ Some w → n.live (view.file.handle f) ≡ Some read_file → view.file.handle g ≡ view.file.handle f
      → SameStands (view.file.seen f m) (view.file.seen g n) → (o : OpenFile) → w.opens (view.file.handle f) ≡ Some o → (p : OpenFile) × (v.opens (view.file.handle f) ≡ Some p) × (p.number ≡ o.number)
  polled_number m n v w f g was now live same stands o opens = by (view.file.seen f m) (view.file.seen g n) refl refl stands
    where
      after : view.file.seen g n ≡ Some (local_seen.seen_in w read_file.kind o)
      after = local_seen_at g n ∙ (ap (seen_at n) same ∙ open_seen n w (view.file.handle f) read_file o now live opens)

      by : (a b : Option Seen) → view.file.seen f m ≡ a → view.file.seen g n ≡ b → SameStands a b → (p : OpenFile) × (v.opens (view.file.handle f) ≡ Some p) × (p.number ≡ o.number)
      by None None d e both = let none : ◌≡◌ {A = Option Seen} None (Some (local_seen.seen_in w read_file.kind o)) = sym e ∙ after in cc
      by None (Some y) d e both = absurd both
      by (Some x) None d e both = absurd both
      by (Some x) (Some y) d e both =
          let (p, there, number) = seen_open m v (view.file.handle f) x was (sym (local_seen_at f m) ∙ d) in
          let some : Some y ≡ Some (local_seen.seen_in w read_file.kind o) = sym e ∙ after in
          let is : y ≡ local_seen.seen_in w read_file.kind o = cc in
          (p, there, number ∙ (ap (λ (s : Standing). s.number) (sym both) ∙ ap (λ (z : Seen). z.stands.number) is))

  pub polls_leave : (counts : ℕ → Bool) (m n : DiskState) (v w : World) → m.told ≡ Some v → n.told ≡ Some w → IsWorld v → (before after : Option (OpenAt LocalFsFile)) → IsRead view.file.handle m before → TouchesOwn view.file m before n after
      → SameShown v w × LeavesOthers counts (handle_of view.file.handle before) IsAny m.live n.live v w
  polls_leave counts m n v w was now is None None read same = keeps_leave counts m n v w was now is (subst (Keeps m) (sym same) (keeps_same m))
  polls_leave counts m n v w was now is None (Some g) read touched = absurd touched
  polls_leave counts m n v w was now is (Some h) None live (keeps, gone) =
      read_leaves counts m n v w was now is (view.file.handle h.file) keeps read_file live refl (λ l o is_live opens. (let none : ◌≡◌ {A = Option Live} None (Some l) = sym gone ∙ is_live in cc))
  polls_leave counts m n v w was now is (Some h) (Some g) live (keeps, same, still, stands, becomes) =
      read_leaves counts m n v w was now is (view.file.handle h.file) keeps read_file live refl
      (λ l o is_live opens. polled_number m n v w h.file g.file was now (still ∙ live) same stands o opens)

  pub handed_on : (m n : DiskState) (before after : Option (OpenAt LocalFsFile)) → IsRead view.file.handle m before → TouchesOwn view.file m before n after → IsRead view.file.handle n after
  handed_on m n None None read same = tt
  handed_on m n None (Some g) read touched = absurd touched
  handed_on m n (Some h) None live touched = tt
  handed_on m n (Some h) (Some g) live (keeps, same, still, stands, becomes) = ap n.live same ∙ (still ∙ live)
