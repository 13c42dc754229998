-- What each call was heard to answer fits what is shown where it found its path, whether that is told or could be. So answers fit
-- over a store whose calls may find a path at several places.
use Rattle.std.proofs.Common.{◌≡◌, ◌≤◌, ◌⊎◌, inl, inr, ℕ, Bool, true, false, cond, List, Option, Some, Result, Ok, Err, refl, sym, ap, subst, ◌∙◌}
use Rattle.std.specs.List.{AllByRecursion}
use Rattle.dav_io.specs.Counts.{Rose}
use Rattle.dav_core.specs.declared.error.FsError.{FsError}
use Rattle.dav_core.specs.declared.error.FsError.TheVariants as fs
use Rattle.dav_core.specs.declared.member.Member.{Member}
use Rattle.dav_core.specs.DavPath.{WebPath}
use Rattle.dav_core.specs.Info.{Info}
use Rattle.dav_core.specs.Writing.{reading}
use Rattle.dav_core.specs.Statuses.{fs_status}
use Rattle.dav_core.specs.Unchanged.{Keeps}
use Rattle.dav_page.specs.Listed.{AreRows, HasPlainName}
use Rattle.dav_store.specs.Files.{Spoiled}
use Rattle.dav_store.specs.Frames.{OpensOne}
use Rattle.dav_store.specs.Members.{BeginsThere, ReadsThere}
use Rattle.dav_store.specs.Shows.{OpensThere}
use Rattle.dav_store.specs.Standing.{Standing}
use Rattle.dav_store.specs.View.{View, Listings}
use Rattle.dav_model.specs.Due.{Due, Query, IsHead, IsSpoiled, course, due, due_course, due_kind, due_listed, due_looked, due_opened, failure, known, page, refused}
use Rattle.dav_model.specs.Indexes.{IsIndexReply}
use Rattle.dav_model.specs.Head.{Reply, Stood, is_get, is_well_known, refusal}
use Rattle.dav_model.specs.Shown.{Could, CouldStand, Shown}
use Rattle.dav_get.specs.Heard.{HearsFile, IsPlacedOr, RefusesFew, WasHad}
use Rattle.dav_get.specs.Lives.{OpenOnlyHeld}
use Rattle.dav_get.specs.Right.{IsOfNumber, or_zero, reply_at}
use Rattle.dav_get.specs.Table.{Given, IsListing, asked_at}
use Rattle.dav_get.specs.Told.{found_as, number_in}
use Rattle.dav_get.proofs.HeardCouldStand.{file_opened, listing_found, placed}
use Rattle.dav_get.proofs.HeardIsRight.{Settled, bare_settled, failed_looked, fit_at, open_settled, page_settled, settled_at, unlisted_settled}
use Rattle.dav_get.proofs.TableIsHeard.{placed_at}

opened_counts : {S C F : Type 0} (view : View S C F) (m x : S) (answer : Result F FsError) → OpensOne view.file reading (view.state m) answer (view.state x)
    → (view.state m).faults ≤ (view.state x).faults
opened_counts view m x (Ok f) one = one.others.counts
opened_counts view m x (Err e) one = one.others.counts

module _ {S C F L E : Type 0} (view : View S C F) (lists : Listings S C L E) (q : Query) (s : S) (result : Given F) (t : S) (life : OpenOnlyHeld view s result t) (reply : Reply)
    (same : (number : Option ℕ) → IsOfNumber view number t result → reply_at q.fields (or_zero number) result ≡ reply) where
  abbrev Risen : Type 0
  Risen = Rose (view.state s).faults (view.state t).faults

  -- The reply is the one that is right for what is due, or may stand in its place.
  abbrev pub Fits : Due → Type 0
  Fits d = IsHead q d reply ⊎ (IsSpoiled q d reply × Risen)

  -- what was heard to be due, by the number of a file
  abbrev pub Heard : Due → Option ℕ → Type 0
  Heard d number = IsPlacedOr q d Risen (reply_at {F = F} q.fields (or_zero number) result)

  fits_at : (d : Due) (number : Option ℕ) → IsOfNumber view number t result
      → IsHead q d (reply_at {F = F} q.fields (or_zero number) result) ⊎ (IsSpoiled q d (reply_at {F = F} q.fields (or_zero number) result) × Risen) → Fits d
  fits_at d number named is = subst (λ r. IsHead q d r ⊎ (IsSpoiled q d r × Risen)) (same number named) is

  settled_fits : (d : Due) (k : ℕ) → Settled view q s result t life k d → Fits d
  settled_fits d k settled = fits_at d (Some k) settled.named settled.right

  -- what was heard to be due
  pub heard_fits : (d : Due) (number : Option ℕ) → IsOfNumber view number t result → Heard d number → Fits d
  heard_fits d number named is = fits_at d number named (placed q d Risen (reply_at {F = F} q.fields (or_zero number) result) is)

  -- ---- a path that was opened

  pub opened_fits : (path : WebPath) (opened : Result Standing FsError) (answer : Result F FsError) (number : Option ℕ) (o : Result Stood FsError) (m x : S)
      → OpensThere view.file.seen opened answer (view.state x) ⊎ Spoiled (view.state m) answer (view.state x) → (view.state s).faults ≤ (view.state m).faults
      → OpensOne view.file reading (view.state m) answer (view.state x) → WasHad o → IsOfNumber view number t result
      → Heard (due_opened path o) number → HearsFile view (asked_at q path) answer number x o t → Fits (due_opened path (found_as opened))
  opened_fits path opened answer number o m x opens before one had named right heard =
      settled_fits (due_opened path (found_as opened)) (number_in opened)
      (settled_at view lists q s result t life (number_in opened) path (due_opened path (found_as opened))
      (open_settled view (asked_at q path) s result t life (number_in opened) opened answer number o m x refl opens before (opened_counts view m x answer one) had named
      (placed_at (asked_at q path) q.path (due_opened path o) Risen (reply_at q.fields (or_zero number) result) right) heard))

  -- what could stand where a path was opened
  pub record CouldOpen (path : WebPath) : Type 0 where
    pub opened : Result Stood FsError
    pub could : Could CouldStand opened
    pub fits : Fits (due_opened path opened)

  pub opened_could : RefusesFew view lists → (c : C) (path : WebPath) (answer : Result F FsError) (number : Option ℕ) (o : Result Stood FsError) (m x : S) → view.opens m c path reading answer x
      → (view.state s).faults ≤ (view.state m).faults → OpensOne view.file reading (view.state m) answer (view.state x) → WasHad o → IsOfNumber view number t result
      → Heard (due_opened path o) number → HearsFile view (asked_at q path) answer number x o t → CouldOpen path
  opened_could few c path answer number o m x opens before one had named right heard =
      let found = file_opened view (asked_at q path) s result t number o had
      (placed_at (asked_at q path) q.path (due_opened path o) Risen (reply_at q.fields (or_zero number) result) right) few.opens c answer m x opens before (opened_counts view m x answer one) heard in
      record {
        opened = found.opened;
        could = found.could;
        fits = fits_at (due_opened path found.opened) number named (fit_at q path (due_opened path found.opened) Risen (reply_at q.fields (or_zero number) result) found.right);
      }

  -- ---- a directory that was listed

  of_page : (members : List Member) (number : Option ℕ) (gives : Bool) → is_get q.method ≡ gives → Heard (page q.path members) number
      → IsIndexReply gives q.path (AreRows q.path members) (reply_at q.fields (or_zero number) result)
  of_page members number gives get (inl given) = subst (λ b. IsIndexReply b q.path (AreRows q.path members) (reply_at q.fields (or_zero number) result)) get given
  of_page members number gives get (inr (none, rose)) = absurd none

  -- These members were read of those that are there, or missed because of a fault.
  pub page_fits : (all members : List Member) (number : Option ℕ) (from : ℕ) → is_get q.method ≡ true → ReadsThere (Ok all) from members (view.state t).faults → (view.state s).faults ≤ from
      → Keeps (view.state s) (view.state t) → Heard (page q.path members) number → Fits (page q.path all)
  page_fits all members number from get reads before keeps heard =
      settled_fits (page q.path all) 0 (page_settled view lists q s result t life 0 all members (or_zero number) from get reads before keeps (of_page members number true get heard))

  -- To a HEAD none is read.
  pub bare_fits : (found : Result (List Member) FsError) (lister : L) (members : List Member) (number : Option ℕ) (m after : S) → is_get q.method ≡ false
      → BeginsThere found (Ok lister) ⊎ Spoiled (view.state m) (Ok lister) (view.state after) → Keeps (view.state s) (view.state t) → Heard (page q.path members) number
      → Fits (due_listed q.path found)
  bare_fits found lister members number m after get begins keeps heard =
      settled_fits (due_listed q.path found) 0 (bare_settled view lists q s result t life 0 found lister members (or_zero number) m after get begins keeps (of_page members number false get heard))

  of_refusal : (status : ℕ) (close : Bool) (number : Option ℕ) → Heard (refused status close) number → reply_at q.fields (or_zero number) result ≡ refusal q.fields status close
  of_refusal status close number (inl head) = head
  of_refusal status close number (inr (none, rose)) = absurd none

  -- It was refused.
  pub unlisted_fits : (found : Result (List Member) FsError) (e : FsError) (number : Option ℕ) (m : S) → BeginsThere {L = L} found (Err e) ⊎ Spoiled {T = L} (view.state m) (Err e) (view.state t)
      → (view.state s).faults ≤ (view.state m).faults → WasHad {A = List Member} (Err e) → Heard (refused (fs_status e) false) number → Fits (due_listed q.path found)
  unlisted_fits found e number m begins before had heard =
      settled_fits (due_listed q.path found) 0 (unlisted_settled view lists q s result t life 0 found e (or_zero number) m begins before had (of_refusal (fs_status e) false number heard))

  -- what could be listed
  pub record CouldList : Type 0 where
    pub listed : Result (List Member) FsError
    pub plain : Could (AllByRecursion HasPlainName) listed
    pub fits : Fits (due_listed q.path listed)

  pub listed_could : RefusesFew view lists → (c : C) (number : Option ℕ) (l : Result (List Member) FsError) (m : S) → WasHad l → (view.state s).faults ≤ (view.state m).faults
      → IsOfNumber view number t result → Heard (due_listed q.path l) number → IsListing view lists (is_get q.method) c q.path m l t → Keeps (view.state m) (view.state t) → CouldList
  listed_could few c number l m had before named heard lists_so kept =
      let found = listing_found view lists q s result t few c number l m had before heard lists_so kept in
      record { listed = found.listed; plain = found.plain; fits = fits_at (due_listed q.path found.listed) number named (found.right (Err fs.NotFound)) }

  -- ---- what a look found

  module _ (shown : Shown) where
    due_here : (b : Bool) (found : Result Stood FsError) → is_well_known q.settings q.method q.path ≡ b → shown.looked q.path ≡ found → due shown q ≡ cond b known (due_looked shown q found)
    due_here b found plain is = ap (λ b. cond b known (due_looked shown q (shown.looked q.path))) plain ∙ ap (λ found. cond b known (due_looked shown q found)) is

    pub known_fits : (number : Option ℕ) → is_well_known q.settings q.method q.path ≡ true → IsOfNumber view number t result → Heard known number → Fits (due shown q)
    known_fits number known_page named heard = subst Fits (sym (due_here true (shown.looked q.path) known_page refl)) (heard_fits known number named heard)

    pub look_fits : (stood : Stood) (info : Info) → is_well_known q.settings q.method q.path ≡ false → shown.looked q.path ≡ Ok stood → info.kind ≡ stood.kind
        → Fits (due_course shown q.path (course q info.kind)) → Fits (due shown q)
    look_fits stood info plain is kind fits =
        subst Fits (sym (due_here false (Ok stood) plain is)) (subst (λ kind. Fits (due_kind shown q kind)) kind fits)

    pub refused_fits : (e : FsError) (number : Option ℕ) → is_well_known q.settings q.method q.path ≡ false → shown.looked q.path ≡ Err e → IsOfNumber view number t result
        → Heard (refused (fs_status e) false) number → Fits (due shown q)
    refused_fits e number plain is named heard =
        subst Fits (sym (due_here false (Err e) plain is)) (heard_fits (refused (fs_status e) false) number named heard)

    -- whatever is shown, where the look failed because of a fault
    pub failed_fits : (e : FsError) (number : Option ℕ) → is_well_known q.settings q.method q.path ≡ false → e ≡ fs.GeneralFailure → Risen → IsOfNumber view number t result
        → Heard (refused (fs_status e) false) number → Fits (due shown q)
    failed_fits e number plain general rose named heard =
        let failed : reply ≡ failure = sym (same number named) ∙ (of_refusal (fs_status e) false number heard ∙ ap (λ x. refusal q.fields (fs_status x) false) general) in
        subst Fits (sym (due_here false (shown.looked q.path) plain refl)) (inr (failed_looked view q (shown.looked q.path) shown reply failed, rose))
