-- The file of a body is what a file became that was opened in the call.
use Rattle.std.proofs.Common.{◌≡◌, ◌⊎◌, inl, inr, ℕ, List, [], ◌∷◌, Bool, true, false, Option, None, Some, Result, Ok, Err, refl, sym, subst, ◌∙◌}
use Rattle.dav_core.specs.declared.error.FsError.{FsError}
use Rattle.dav_core.specs.declared.member.Member.{Member}
use Rattle.dav_core.specs.declared.dav_error.DavError.TheVariants.{NoMemory}
use Rattle.dav_core.specs.DavPath.{WebPath}
use Rattle.dav_core.specs.Info.{Info}
use Rattle.dav_core.specs.Tree.{is_file}
use Rattle.dav_core.specs.Unchanged.{Keeps}
use Rattle.dav_store.specs.View.{Listings, View}
use Rattle.dav_model.specs.declared.sent.Sent.{Sent}
use Rattle.dav_model.specs.Due.{Course, Query, course, directing, listing, opening, refusing}
use Rattle.dav_model.specs.Head.{is_get, is_set, is_well_known}
use Rattle.dav_get.specs.declared.body.GetBody.{GetBody}
use Rattle.dav_get.specs.declared.open_at.OpenAt.{OpenAt}
use Rattle.dav_get.specs.declared.part.BodyPart.{BodyPart}
use Rattle.dav_get.specs.Lives.{HasOpened, IsOpenedHere}
use Rattle.dav_get.specs.Table.{AfterListing, AfterLook, AfterMeta, AfterRedirect, Answer, ByCourse, ByFile, ByRedirect, ByWellKnown, Gets, GetsFile, Given, Holds, IfMoved, IsPageBody, Opens, Sends, SendsFile, asked_at, first_place, sent_after, sent_for}

module _ {S C F : Type 0} (view : View S C F) where
  -- what the answer's body has is what this file became
  abbrev Came : F → Answer F → Type 0
  Came file answer = (h : OpenAt F) → answer.1.file ≡ Some h → view.file.becomes file h.file

  none_came : (file : F) (answer : Answer F) → answer.1.file ≡ None → Came file answer
  none_came file answer none = λ h is. let never : ◌≡◌ {A = Option (OpenAt F)} None (Some h) = sym none ∙ is in cc

  came_then : (file g : F) (answer : Answer F) → view.file.becomes file g → Came g answer → Came file answer
  came_then file g answer on came = λ h is. view.file.becomes_then file g h.file on (came h is)

  held_came : (parts : List BodyPart) (held : OpenAt F) (s : S) (answer : Answer F) (t : S) → Holds view parts held s answer.1 t → Came held.file answer
  held_came [] held s answer t (closed, empty) = none_came held.file answer empty.1
  held_came (part ∷ parts) held s answer t (same, left, is) = λ h has.
      let both : Some held ≡ Some h = sym is ∙ has in
      let one : held ≡ h = cc in
      subst (λ (x : OpenAt F). view.file.becomes held.file x.file) one (view.file.becomes_same held.file)

  moved_came : (place : Option ℕ) (q : Query) (info : Info) (sent : Sent) (file : F) (s : S) (answer : Answer F) (t : S)
      → IfMoved view place file s (λ sought held m. Sends view q info (sent_after sought sent) held m answer t) → Came file answer
  moved_came None q info sent file s answer t sends = held_came sends.parts (record { file = file; place = 0 }) s answer t sends.holds
  moved_came (Some start) q info sent file s answer t (sought, g, m, seeks, sends) =
      came_then file g answer seeks.becomes (held_came sends.parts (record { file = g; place = start }) m answer t sends.holds)

  sent_came : (q : Query) (info : Info) (file : F) (s : S) (answer : Answer F) (t : S) → SendsFile view q info file s (Ok answer) t → Came file answer
  sent_came q info file s answer t sends = moved_came (first_place (sent_for q info)) q info (sent_for q info) file s answer t sends

  redirect_came : (said : Result (Option (List ℕ)) FsError) (q : Query) (info : Info) (file : F) (s : S) (answer : Answer F) (t : S) → AfterRedirect view said q info file s (Ok answer) t → Came file answer
  redirect_came (Err e) q info file s answer t (closes, is) = λ h f. cc
  redirect_came (Ok (Some address)) q info file s answer t (outcome, closes, empty) = none_came file answer empty.1
  redirect_came (Ok None) q info file s answer t sends = sent_came q info file s answer t sends

  asked_came : (b : Bool) (q : Query) (info : Info) (file : F) (s : S) (answer : Answer F) (t : S) → ByRedirect view b q info file s (Ok answer) t → Came file answer
  asked_came false q info file s answer t sends = sent_came q info file s answer t sends
  asked_came true q info file s answer t (said, g, m, asked, after) = came_then file g answer asked.becomes (redirect_came said q info g m answer t after)

  file_came : (b : Bool) (q : Query) (info : Info) (file : F) (s : S) (answer : Answer F) (t : S) → ByFile view b q info file s (Ok answer) t → Came file answer
  file_came true q info file s answer t on = asked_came (is_set q.settings.redirect) q info file s answer t on
  file_came false q info file s answer t (closes, is) = λ h f. cc

  meta_came : (said : Result Info FsError) (q : Query) (file : F) (s : S) (answer : Answer F) (t : S) → AfterMeta view said q file s (Ok answer) t → Came file answer
  meta_came (Err e) q file s answer t (closes, is) = λ h f. cc
  meta_came (Ok info) q file s answer t on = file_came (is_file info.kind) q info file s answer t on

  gets_came : (q : Query) (file : F) (s : S) (answer : Answer F) (t : S) → GetsFile view q file s (Ok answer) t → Came file answer
  gets_came q file s answer t (said, g, m, says, could, after) = came_then file g answer says.becomes (meta_came said q g m answer t after)

-- where no file is opened
pub paged_none : {F : Type 0} (b : Bool) (path : WebPath) (members : List Member) (body : GetBody F) → IsPageBody b path members body → body.file ≡ None
paged_none true path members body (texts, index, left, none) = none
paged_none false path members body empty = empty.1

listed_none : {F : Type 0} (answered : Result (List Member) FsError) (q : Query) (answer : Answer F) → AfterListing answered q (Ok answer) → answer.1.file ≡ None
listed_none (Err e) q answer is = cc
listed_none (Ok members) q answer page = paged_none (is_get q.method) q.path members answer.1 page.1

module _ {S C F L E : Type 0} (view : View S C F) (lists : Listings S C L E) (q : Query) (c : C) (s : S) (answer : Answer F) (t : S) (h : OpenAt F) (is : answer.1.file ≡ Some h) where
  by_none : answer.1.file ≡ None → IsOpenedHere view q c s h.file
  by_none none = let never : ◌≡◌ {A = Option (OpenAt F)} None (Some h) = sym none ∙ is in cc

  -- a file was opened for what a look told
  by_opening : (path : WebPath) (info : Info) (m : S) → view.looks s c q.path (Ok info) m → Keeps (view.state s) (view.state m) → course q info.kind ≡ opening path
      → Opens view (asked_at q path) c m (Ok answer) t → IsOpenedHere view q c s h.file
  by_opening path info m looks keeps due (Err e, n, opens, one, (same, fails)) = cc
  by_opening path info m looks keeps due (Ok file, n, opens, one, inr fails) = cc
  by_opening path info m looks keeps due (Ok file, n, opens, one, inl gets) = record {
    info = info;
    before = m;
    looks = looks;
    keeps = keeps;
    path = path;
    due = due;
    opened = file;
    after = n;
    opens = opens;
    becomes = gets_came view (asked_at q path) file n answer t gets h is;
  }

  by_course : (way : Course) (info : Info) (m : S) → view.looks s c q.path (Ok info) m → Keeps (view.state s) (view.state m) → course q info.kind ≡ way
      → ByCourse view lists way q c m (Ok answer) t → IsOpenedHere view q c s h.file
  by_course (refusing status close) info m looks keeps due (same, fails) = cc
  by_course directing info m looks keeps due (same, directs) = by_none directs.1.1
  by_course (opening path) info m looks keeps due opens = by_opening path info m looks keeps due opens
  by_course listing info m looks keeps due (answered, lists', kept, after) = by_none (listed_none answered q answer after)

  by_look : (look : Result Info FsError) (m : S) → view.looks s c q.path look m → Keeps (view.state s) (view.state m) → AfterLook view lists look q c m (Ok answer) t → IsOpenedHere view q c s h.file
  by_look (Err e) m looks keeps (same, fails) = cc
  by_look (Ok info) m looks keeps row = by_course (course q info.kind) info m looks keeps refl row

  by_well_known : (b : Bool) → ByWellKnown view lists b q c s (Ok answer) t → IsOpenedHere view q c s h.file
  by_well_known true (same, (outcome, empty)) = by_none empty.1
  by_well_known false (look, m, looks, keeps, row) = by_look look m looks keeps row

-- The file of a body that the table gives was opened in the call.
pub gets_opened : {S C F L E : Type 0} (view : View S C F) (lists : Listings S C L E) (q : Query) (c : C) (s : S) (result : Given F) (t : S)
    → Gets view lists q c s result t ⊎ (result ≡ Err NoMemory) → HasOpened view q c s result
gets_opened view lists q c s (Err e) t row = tt
gets_opened view lists q c s (Ok answer) t (inr fails) = λ h is. cc
gets_opened view lists q c s (Ok answer) t (inl row) = λ h is. by_well_known view lists q c s answer t h is (is_well_known q.settings q.method q.path) row
