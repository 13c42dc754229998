-- What is heard of a store that refuses few things is right for something that could stand at the path.
use Rattle.std.proofs.Common.{◌≡◌, ◌≤◌, ◌&&◌, ℕ, Bool, true, false, cond, List, Option, None, Result, Ok, Err, IfSome, refl, sym, ap, subst, ◌∙◌, arith, ◌⊎◌, inl, inr}
use Rattle.std.specs.List.{AllByRecursion, list_all}
use Rattle.dav_io.specs.Counts.{Rose}
use Rattle.dav_core.specs.declared.error.FsError.{FsError}
use Rattle.dav_core.specs.declared.error.FsError.TheVariants as fs
use Rattle.dav_core.specs.declared.member.Member.{Member}
use Rattle.dav_core.specs.DavPath.{WebPath, is_printable}
use Rattle.dav_core.specs.Errors.{CouldRefuse}
use Rattle.dav_core.specs.Unchanged.{Keeps}
use Rattle.dav_page.specs.Listed.{HasPlainName}
use Rattle.dav_core.specs.Info.{Info}
use Rattle.dav_core.specs.Writing.{reading}
use Rattle.dav_core.specs.Statuses.{fs_status}
use Rattle.dav_core.specs.Tree.{is_file}
use Rattle.dav_store.specs.Files.{Spoiled}
use Rattle.dav_store.specs.Frames.{OpensOne}
use Rattle.dav_store.specs.Shows.{LooksThere}
use Rattle.dav_store.specs.Standing.{Standing}
use Rattle.dav_store.specs.View.{View, Listings, Says as SaysOf}
use Rattle.dav_model.specs.Due.{Course, Due, Query, IsHead, IsRight, IsSpoiled, course, directing, due_course, due_listed, due_looked, due_opened, failure, known, listing, opening, page, refused, refusing, to_slash, file as sends}
use Rattle.dav_model.specs.Head.{Reply, Stood, is_get, is_set, is_well_known, refusal}
use Rattle.dav_model.specs.Shown.{Could, CouldStand}
use Rattle.dav_get.specs.Heard.{Heard, HearsAddress, HearsCourse, HearsFile, HearsLook, HearsMeta, IsPlacedOr, IsUnplacedOf, IsRightForSome, RefusesFew, WasHad, looked_of, looked_stood, shown_alike, shown_heard, stood_heard}
use Rattle.dav_get.specs.Right.{IsOfNumber, or_zero, reply_at}
use Rattle.dav_get.specs.Table.{CouldSay, Given, IsListing, asked_at}
use Rattle.dav_get.specs.Told.{stood_of}
use Rattle.dav_get.proofs.HeardIsRight.{failed_looked, fit_at, rose_through}
use Rattle.dav_get.proofs.TableIsHeard.{placed_at}

-- what stands by its metadata could stand
stood_could : (number : Option ℕ) (info : Info) (address : Option (List ℕ)) → CouldSay info
    → IfSome address (λ text. list_all is_printable text ≡ true) → CouldStand (stood_heard number info address)
stood_could number info address could printable = record { tag = could.tag; modified = could.years.modified; address = printable }

pub looked_could : (info : Info) → CouldStand (looked_stood info)
looked_could info = record { tag = tt; modified = λ time is. cc; address = tt }

-- right without a fault, or no range could be met
pub placed : (q : Query) (d : Due) (rose : Type 0) (reply : Reply) → IsPlacedOr q d rose reply → IsHead q d reply ⊎ (IsSpoiled q d reply × rose)
placed q d rose reply (inl head) = inl head
placed q d rose reply (inr (unplaced, risen)) = inr (spoiled d unplaced, risen)
  where
    spoiled : (d : Due) → IsUnplacedOf q d reply → IsSpoiled q d reply
    spoiled known is = absurd is
    spoiled (refused status close) is = absurd is
    spoiled (to_slash path) is = absurd is
    spoiled (sends path stood) is = inr is
    spoiled (page dir members) is = absurd is

module _ {S C F : Type 0} (view : View S C F) (q : Query) (s : S) (result : Given F) (t : S) where
  abbrev Risen : Type 0
  Risen = Rose (view.state s).faults (view.state t).faults

  abbrev IsFor : Due → ℕ → Type 0
  IsFor d n = IsHead q d (reply_at {F = F} q.fields n result) ⊎ (IsSpoiled q d (reply_at {F = F} q.fields n result) × Risen)

  -- what a store refuses an opening with, where nothing failed
  abbrev OpensFew : Type 0
  OpensFew = (a b : S) (c : C) (path : WebPath) (e : FsError) → view.opens a c path reading (Err e) b → CouldRefuse e ⊎ Spoiled {T = F} (view.state a) (Err e) (view.state b)

  -- what was opened, as it could be
  pub record Opened (number : Option ℕ) : Type 0 where
    pub opened : Result Stood FsError
    pub could : Could CouldStand opened
    pub right : IsFor (due_opened q.path opened) (or_zero number)

  -- a call that was refused because of a fault: maybe nothing stood there
  fault_opened : (number : Option ℕ) (o : Result Stood FsError) (e : FsError) → o ≡ Err e → e ≡ fs.GeneralFailure → Risen
      → IsPlacedOr q (due_opened q.path o) Risen (reply_at {F = F} q.fields (or_zero number) result) → Opened number
  fault_opened number o e is fault rose right = record {
    opened = Err fs.NotFound;
    could = inl refl;
    right = at (subst (λ x. IsPlacedOr q (due_opened q.path x) Risen (reply_at {F = F} q.fields (or_zero number) result)) (is ∙ ap Err fault) right);
  }
    where
      at : IsPlacedOr q (refused (fs_status fs.GeneralFailure) false) Risen (reply_at {F = F} q.fields (or_zero number) result) → IsFor (refused (fs_status fs.NotFound) false) (or_zero number)
      at (inl head) = inr (head, rose)
      at (inr (none, risen)) = absurd none

  spoiled_opened : {T : Type 0} (number : Option ℕ) (o : Result Stood FsError) (e : FsError) (r : Result T FsError) (x y : S) → o ≡ Err e → WasHad o → r ≡ Err e
      → Spoiled (view.state x) r (view.state y) → (view.state s).faults ≤ (view.state x).faults → (view.state y).faults ≤ (view.state t).faults
      → IsPlacedOr q (due_opened q.path o) Risen (reply_at {F = F} q.fields (or_zero number) result) → Opened number
  spoiled_opened number o e r x y is had same (inl (fault, rose)) before after right =
      let general : e ≡ fs.GeneralFailure = cc in fault_opened number o e is general (rose_through _ _ _ _ before rose after) right
  spoiled_opened number o e r x y is had same (inr none) before after right = absurd (had (let f : o ≡ Err fs.NoMemory = cc in f))

  module _ (number : Option ℕ) (o : Result Stood FsError) (had : WasHad o) (right : IsPlacedOr q (due_opened q.path o) Risen (reply_at {F = F} q.fields (or_zero number) result)) where
    -- what was heard could stand there
    heard_opened : (given : Result Stood FsError) → o ≡ given → Could CouldStand given → Opened number
    heard_opened given is could = record {
      opened = given;
      could = could;
      right = placed q (due_opened q.path given) Risen _ (subst (λ x. IsPlacedOr q (due_opened q.path x) Risen (reply_at {F = F} q.fields (or_zero number) result)) is right);
    }

    address_opened : (b : Bool) (info : Info) (g : F) (m : S) → CouldSay info → (view.state s).faults ≤ (view.state m).faults
        → HearsAddress view q b number info g m o t → Opened number
    address_opened false info g m could le (is, counts) = heard_opened (Ok (stood_heard number info None)) is (stood_could number info None could tt)
    address_opened true info g m could le (Ok address, h, l, asked, is, counts) =
        heard_opened (Ok (stood_heard number info address)) is (stood_could number info address could asked.done.printable)
    address_opened true info g m could le (Err e, h, l, asked, is, counts) =
        spoiled_opened {T = Option (List ℕ)} number o e (Err e) m l is had refl asked.done.refused le counts right

    meta_opened : (said : Result Info FsError) (file g : F) (x m : S) → (view.state s).faults ≤ (view.state x).faults
        → SaysOf view x file said m g → HearsMeta view q said number g m o t → Opened number
    meta_opened (Err e) file g x m le says (is, counts) = spoiled_opened {T = Info} number o e (Err e) x m is had refl (inl says.done.refused) le counts right
    meta_opened (Ok info) file g x m le says (could, heard) =
        let counts = says.done.keeps.counts in
        address_opened (is_file info.kind && is_set q.settings.redirect) info g m could (omega arith) heard

    pub file_opened : OpensFew → (c : C) (answer : Result F FsError) (m x : S) → view.opens m c q.path reading answer x → (view.state s).faults ≤ (view.state m).faults
        → (view.state m).faults ≤ (view.state x).faults → HearsFile view q answer number x o t → Opened number
    file_opened few c (Ok file) m x opens before after (told, (said, g, l, says, heard)) = meta_opened said file g x l (omega arith) says heard
    file_opened few c (Err e) m x opens before after (is, counts) = elim (few m x c q.path e opens) [
      | inl could ↦ heard_opened (Err e) is could
      | inr spoiled ↦ spoiled_opened {T = F} number o e (Err e) m x is had refl spoiled before counts right
    ]

module _ {S C F L E : Type 0} (view : View S C F) (lists : Listings S C L E) (q : Query) (s : S) (result : Given F) (t : S) where
  abbrev IsForDue : Due → ℕ → Type 0
  IsForDue d n = IsFor view q s result t d n

  abbrev Rises : Type 0
  Rises = Rose (view.state s).faults (view.state t).faults

  -- what was opened, or might have been, by the course that was taken
  pub record Taken (number : Option ℕ) (co : Course) : Type 0 where
    pub opened : Result Stood FsError
    pub listed : Result (List Member) FsError
    pub could : Could CouldStand opened
    pub plain : Could (AllByRecursion HasPlainName) listed
    -- whatever a look finds there
    pub right : (looked : Result Stood FsError) → IsForDue (due_course (shown_alike looked opened listed) q.path co) (or_zero number)

  abbrev nothing : Result Stood FsError
  nothing = Err fs.NotFound

  abbrev none_listed : Result (List Member) FsError
  none_listed = Err fs.NotFound

  -- a listing
  pub listing_found : (few : RefusesFew view lists) (c : C) (number : Option ℕ) (l : Result (List Member) FsError) (m : S) → WasHad l → (view.state s).faults ≤ (view.state m).faults
      → IsPlacedOr q (due_listed q.path l) Rises (reply_at {F = F} q.fields (or_zero number) result) → IsListing view lists (is_get q.method) c q.path m l t → Keeps (view.state m) (view.state t)
      → Taken number listing
  listing_found few c number (Ok members) m had le right (read, plain) kept = record {
    opened = nothing;
    listed = Ok members;
    could = inl refl;
    plain = plain;
    right = λ looked. placed q (page q.path members) Rises _ right;
  }
  listing_found few c number (Err e) m had le right refuses kept = elim (few.begins m t c q.path e refuses) [
    | inl could ↦ record { opened = nothing; listed = Err e; could = inl refl; plain = could; right = λ looked. placed q (refused (fs_status e) false) Rises _ right }
    | inr (inl (is, rose)) ↦
        let general : e ≡ fs.GeneralFailure = cc in
        record { opened = nothing; listed = none_listed; could = inl refl; plain = inl refl; right = λ looked. failed e general (rose_through _ _ _ _ le rose (omega arith)) right }
    | inr (inr none) ↦ absurd (had (ap Err (let f : e ≡ fs.NoMemory = cc in f)))
  ]
    where
      failed : (e : FsError) → e ≡ fs.GeneralFailure → Rises → IsPlacedOr q (refused (fs_status e) false) Rises (reply_at {F = F} q.fields (or_zero number) result)
          → IsForDue (refused (fs_status fs.NotFound) false) (or_zero number)
      failed e is rose (inl head) = inr (head ∙ ap (λ x. refusal q.fields (fs_status x) false) is, rose)
      failed e is rose (inr (none, risen)) = absurd none

  course_found : (few : RefusesFew view lists) (co : Course) (c : C) (number : Option ℕ) (shown : Result Info FsError) (o : Result Stood FsError) (l : Result (List Member) FsError) (m : S) → WasHad o → WasHad l
      → (view.state s).faults ≤ (view.state m).faults
      → IsPlacedOr q (due_course (shown_heard shown o l) q.path co) Rises (reply_at {F = F} q.fields (or_zero number) result)
      → HearsCourse view lists q co c number m o l t → Taken number co
  course_found few (refusing status close) c number shown o l m had l_had le right counts =
      record { opened = nothing; listed = none_listed; could = inl refl; plain = inl refl; right = λ looked. placed q (refused status close) Rises _ right }
  course_found few directing c number shown o l m had l_had le right counts =
      record { opened = nothing; listed = none_listed; could = inl refl; plain = inl refl; right = λ looked. placed q (to_slash q.path) Rises _ right }
  course_found few listing c number shown o l m had l_had le right (lists', kept) = listing_found few c number l m l_had le right lists' kept
  course_found few (opening path) c number shown o l m had l_had le right (answer, x, opens, one, heard) =
      let right1 = placed_at (asked_at q path) q.path (due_opened path o) Rises (reply_at {F = F} q.fields (or_zero number) result) right in
      let found = file_opened view (asked_at q path) s result t number o had right1 few.opens c answer m x opens le (opened_counts answer one) heard in
      record {
        opened = found.opened;
        listed = none_listed;
        could = found.could;
        plain = inl refl;
        right = λ looked. fit_at q path (due_opened path found.opened) Rises (reply_at {F = F} q.fields (or_zero number) result) found.right;
      }
    where
      opened_counts : (answer : Result F FsError) → OpensOne view.file reading (view.state m) answer (view.state x)
          → (view.state m).faults ≤ (view.state x).faults
      opened_counts (Ok f) one = one.others.counts
      opened_counts (Err e) one = one.others.counts

  -- what was looked at and opened, as it could be
  record Found (number : Option ℕ) : Type 0 where
    looked : Result Stood FsError
    opened : Result Stood FsError
    listed : Result (List Member) FsError
    look_could : Could CouldStand looked
    open_could : Could CouldStand opened
    list_could : Could (AllByRecursion HasPlainName) listed
    right : IsForDue (due_looked (shown_alike looked opened listed) q looked) (or_zero number)

  look_found : (few : RefusesFew view lists) (r : Result Info FsError) (c : C) (number : Option ℕ) (o : Result Stood FsError) (l : Result (List Member) FsError) (m : S) → view.looks s c q.path r m
      → WasHad r → WasHad o → WasHad l
      → (view.state s).faults ≤ (view.state m).faults
      → IsPlacedOr q (due_looked (shown_heard r o l) q (looked_of r)) Rises (reply_at {F = F} q.fields (or_zero number) result)
      → HearsLook view lists q r c number m o l t → Found number
  look_found few (Ok info) c number o l m looks looked_had had l_had le right heard =
      let found = course_found few (course q info.kind) c number (Ok info) o l m had l_had le right heard in
      record {
        looked = Ok (looked_stood info);
        opened = found.opened;
        listed = found.listed;
        look_could = looked_could info;
        open_could = found.could;
        list_could = found.plain;
        right = found.right (Ok (looked_stood info));
      }
  look_found few (Err e) c number o l m looks looked_had had l_had le (inr (none, risen)) counts = absurd none
  look_found few (Err e) c number o l m looks looked_had had l_had le (inl head) counts = elim (few.looks s m c q.path e looks) [
    | inl could ↦ record { looked = Err e; opened = nothing; listed = none_listed; look_could = could; open_could = inl refl; list_could = inl refl; right = inl head }
    | inr (inr none) ↦ absurd (looked_had none)
    | inr (inl fault) ↦
        let general : e ≡ fs.GeneralFailure = (let f = fault.0 in cc) in
        let failed : reply_at {F = F} q.fields (or_zero number) result ≡ failure = head ∙ ap (λ x. refusal q.fields (fs_status x) false) general in
        record {
          looked = nothing;
          opened = nothing;
          listed = none_listed;
          look_could = inl refl;
          open_could = inl refl;
          list_could = inl refl;
          right = inr (failed, rose_through _ _ _ _ (omega arith) fault.1 counts);
        }
  ]

  heard_found : (few : RefusesFew view lists) (b : Bool) (c : C) → is_well_known q.settings q.method q.path ≡ b → Heard view lists q c s result t → IsRightForSome view q s result t
  heard_found few false c plain h =
      let (m, look, keeps, hears) = h.hears plain in
      let right = subst (λ b. IsPlacedOr q (cond b known (due_looked (shown_heard h.looked h.opened h.listed) q (looked_of h.looked))) Rises (reply_at {F = F} q.fields (or_zero h.number) result)) plain h.right in
      let found = look_found few h.looked c h.number h.opened h.listed m look h.looked_had h.opened_had h.listed_had keeps.counts right hears in
      record {
        looked = found.looked;
        opened = found.opened;
        listed = found.listed;
        number = h.number;
        looked_could = found.look_could;
        opened_could = found.open_could;
        listed_could = found.list_could;
        right = subst (λ b. IsForDue (cond b known (due_looked (shown_alike found.looked found.opened found.listed) q found.looked)) (or_zero h.number)) (sym plain) found.right;
        file = h.file;
      }
  heard_found few true c known_page h =
      let right = subst (λ b. IsPlacedOr q (cond b known (due_looked (shown_heard h.looked h.opened h.listed) q (looked_of h.looked))) Rises (reply_at {F = F} q.fields (or_zero h.number) result)) known_page h.right in
      record {
        looked = nothing;
        opened = nothing;
        listed = none_listed;
        number = h.number;
        looked_could = inl refl;
        opened_could = inl refl;
        listed_could = inl refl;
        right = subst (λ b. IsForDue (cond b known (due_looked (shown_alike nothing nothing none_listed) q nothing)) (or_zero h.number)) (sym known_page) (placed q known Rises _ right);
        file = h.file;
      }

  -- Whatever the store tells, the answer is right for something that could stand at the path.
  pub heard_could : RefusesFew view lists → (c : C) → Heard view lists q c s result t → IsRightForSome view q s result t
  heard_could few c h = heard_found few (is_well_known q.settings q.method q.path) c refl h

  -- The answer is right for what stands at the path that is looked at, and for something that could be opened or listed.
  pub record IsRightThere (there : Standing) : Type 0 where
    pub opened : Result Stood FsError
    pub listed : Result (List Member) FsError
    pub number : Option ℕ
    pub could : Could CouldStand opened
    pub plain : Could (AllByRecursion HasPlainName) listed
    pub right : IsRight q (shown_alike (Ok (stood_of there)) opened listed) Rises (reply_at {F = F} q.fields (or_zero number) result)
    pub file : IsOfNumber view number t result

  -- what was opened or listed for what stands there, as it could be
  record FoundThere (there : Standing) (number : Option ℕ) : Type 0 where
    opened : Result Stood FsError
    listed : Result (List Member) FsError
    could : Could CouldStand opened
    plain : Could (AllByRecursion HasPlainName) listed
    right : IsForDue (due_looked (shown_alike (Ok (stood_of there)) opened listed) q (Ok (stood_of there))) (or_zero number)

  look_there : (few : RefusesFew view lists) (there : Standing) (r : Result Info FsError) (c : C) (number : Option ℕ) (o : Result Stood FsError) (l : Result (List Member) FsError) (m : S)
      → LooksThere (Ok there) r ⊎ Spoiled (view.state s) r (view.state m) → WasHad r → WasHad o → WasHad l → (view.state s).faults ≤ (view.state m).faults
      → IsPlacedOr q (due_looked (shown_heard r o l) q (looked_of r)) Rises (reply_at {F = F} q.fields (or_zero number) result)
      → HearsLook view lists q r c number m o l t → FoundThere there number
  look_there few there (Ok info) c number o l m (inl agrees) looked_had had l_had le right heard =
      let found = course_found few (course q info.kind) c number (Ok info) o l m had l_had le right heard in
      record {
        opened = found.opened;
        listed = found.listed;
        could = found.could;
        plain = found.plain;
        right = subst (λ kind. IsForDue (due_course (shown_alike (Ok (stood_of there)) found.opened found.listed) q.path (course q kind)) (or_zero number)) agrees.kind
            (found.right (Ok (stood_of there)));
      }
  look_there few there (Ok info) c number o l m (inr (inl (is, rose))) looked_had had l_had le right heard = cc
  look_there few there (Ok info) c number o l m (inr (inr is)) looked_had had l_had le right heard = cc
  look_there few there (Err e) c number o l m (inl shown) looked_had had l_had le right counts = absurd shown
  look_there few there (Err e) c number o l m (inr (inr none)) looked_had had l_had le right counts = absurd (looked_had none)
  look_there few there (Err e) c number o l m (inr (inl (is, rose))) looked_had had l_had le (inr (none, risen)) counts = absurd none
  look_there few there (Err e) c number o l m (inr (inl (is, rose))) looked_had had l_had le (inl head) counts =
      let general : e ≡ fs.GeneralFailure = cc in
      let failed : reply_at {F = F} q.fields (or_zero number) result ≡ failure = head ∙ ap (λ x. refusal q.fields (fs_status x) false) general in
      record {
        opened = nothing;
        listed = none_listed;
        could = inl refl;
        plain = inl refl;
        right = inr (failed_looked view q (Ok (stood_of there)) (shown_alike (Ok (stood_of there)) nothing none_listed) _ failed, rose_through _ _ _ _ (omega arith) rose counts);
      }
