-- What is heard of a store where a GET or HEAD is answered 500: a call was refused with a failure, or a fault was met.
use Rattle.std.proofs.Common.{◌≡◌, ◌≤◌, ◌&&◌, ◌⊎◌, ℕ, List, Bool, true, false, cond, Option, Result, Ok, Err, refl, ap, subst, inl, inr, arith}
use Rattle.dav_io.specs.Counts.{Rose}
use Rattle.dav_core.specs.declared.error.FsError.{FsError}
use Rattle.dav_core.specs.declared.error.FsError.TheVariants as fs
use Rattle.dav_core.specs.declared.member.Member.{Member}
use Rattle.dav_core.specs.declared.tree.Kind.{Kind}
use Rattle.dav_core.specs.declared.tree.Kind.TheVariants.{Dir, File, Link}
use Rattle.dav_core.specs.DavPath.{WebPath}
use Rattle.dav_core.specs.Errors.{CouldRefuse}
use Rattle.dav_core.specs.Info.{Info}
use Rattle.dav_core.specs.Writing.{reading}
use Rattle.dav_core.specs.Statuses.{fs_status}
use Rattle.dav_core.specs.Tree.{is_file}
use Rattle.dav_store.specs.declared.entry.ReadDirMeta.TheVariants.{Data}
use Rattle.dav_store.specs.Files.{Spoiled}
use Rattle.dav_store.specs.Frames.{OpensOne}
use Rattle.dav_store.specs.View.{View, Listings, Says as SaysOf}
use Rattle.dav_model.specs.Due.{Course, Due, Query, course, directing, due_course, due_listed, due_looked, due_opened, due_sent, known, listing, opening, page, refused, refusing, to_slash, file as sends}
use Rattle.dav_model.specs.Head.{Reply, Stood, is_get, is_set, is_well_known}
use Rattle.dav_model.proofs.Courses.{course_holds}
use Rattle.dav_model.proofs.RightReplies.{head_fails, unplaced_stands}
use Rattle.dav_get.specs.Heard.{Heard, HearsAddress, HearsCourse, HearsFile, HearsLook, HearsMeta, IsPlacedOr, RefusesFew, WasHad, looked_of, shown_heard}
use Rattle.dav_get.specs.Right.{or_zero, reply_at}
use Rattle.dav_get.specs.Table.{Given, IsListing, asked_at}
use Rattle.dav_get.proofs.HeardIsRight.{rose_through}
use Rattle.dav_config.specs.Failing.{FailsBehind, FailsOn, HasCause}

-- ---- what is due where 500 is answered

-- An error with that status is a failure, where memory was had.
fails_as : (e : FsError) → fs_status e ≡ 500 → (e ≡ fs.NoMemory → ⊥) → e ≡ fs.GeneralFailure
fails_as fs.GeneralFailure is had = refl
fails_as fs.NoMemory is had = absurd (had refl)
fails_as other is had = absurd (omega arith)

refused_is : (a b : ℕ) (x y : Bool) → refused a x ≡ refused b y → a ≡ b
refused_is a b x y e = cc

not_405 : ◌≡◌ {A = ℕ} 405 500 → ⊥
not_405 e = omega arith

not_404 : ◌≡◌ {A = ℕ} 404 500 → ⊥
not_404 e = omega arith

-- what is answered 500 is a refusal with it
placed_fails : (q : Query) (d : Due) (rose : Type 0) (reply : Reply) → IsPlacedOr q d rose reply → reply.status ≡ 500 → (close : Bool) × (d ≡ refused 500 close)
placed_fails q d rose reply (inl head) e = head_fails q d reply head e
placed_fails q known rose reply (inr (none, risen)) e = absurd none
placed_fails q (refused status close) rose reply (inr (none, risen)) e = absurd none
placed_fails q (to_slash path) rose reply (inr (none, risen)) e = absurd none
placed_fails q (sends path stood) rose reply (inr (unplaced, risen)) e = unplaced_stands q path stood reply unplaced e
placed_fails q (page dir members) rose reply (inr (none, risen)) e = absurd none

-- a refusal with 500 that is due because of this error
due_fails : (e : FsError) (close : Bool) → (e ≡ fs.NoMemory → ⊥) → refused (fs_status e) false ≡ refused 500 close → e ≡ fs.GeneralFailure
due_fails e close had is = fails_as e (refused_is (fs_status e) 500 false close is) had

-- a file that is sent is none
sent_stands : {X : Type 0} (kind : Kind) (path : WebPath) (stood : Stood) (close : Bool) → due_sent kind path stood ≡ refused 500 close → X
sent_stands Dir path stood close is = absurd (not_405 (refused_is 405 500 false close is))
sent_stands File path stood close is = cc
sent_stands Link path stood close is = absurd (not_405 (refused_is 405 500 false close is))

-- ---- what was heard

module _ {S C F L E : Type 0} (view : View S C F) (lists : Listings S C L E) (q : Query) (c : C) where
  abbrev RoseFrom : S → S → Type 0
  RoseFrom s t = Rose (view.state s).faults (view.state t).faults

  -- because of what a look led to
  abbrev Led : Course → S → S → Type 0
  Led co m t = FailsOn view lists q co c m t ⊎ RoseFrom m t

  address_led : (b : Bool) (number : Option ℕ) (info : Info) (g : F) (m x t : S) (o : Result Stood FsError) (e : FsError) → o ≡ Err e → e ≡ fs.GeneralFailure
      → (view.state m).faults ≤ (view.state x).faults → HearsAddress view q b number info g x o t → RoseFrom m t
  address_led false number info g m x t o e is general le (same, counts) = cc
  address_led true number info g m x t o e is general le (Ok address, h, l, asked, same, counts) = cc
  address_led true number info g m x t o e is general le (Err f, h, l, asked, same, counts) = by asked.done.refused
    where
      by : Spoiled {T = Option (List ℕ)} (view.state x) (Err f) (view.state l) → RoseFrom m t
      by (inl (fault, rose)) = rose_through _ _ _ _ le rose counts
      by (inr none) = cc

  meta_led : (said : Result Info FsError) (number : Option ℕ) (file g : F) (m x l t : S) (o : Result Stood FsError) (e : FsError) → o ≡ Err e → e ≡ fs.GeneralFailure
      → (view.state m).faults ≤ (view.state x).faults → SaysOf view x file said l g → HearsMeta view q said number g l o t → RoseFrom m t
  meta_led (Err f) number file g m x l t o e is general le says (same, counts) = let fault = says.done.refused in rose_through _ _ _ _ le fault.1 counts
  meta_led (Ok info) number file g m x l t o e is general le says (could, heard) =
      let counts = says.done.keeps.counts in
      address_led (is_file info.kind && is_set q.settings.redirect) number info g m l t o e is general (omega arith) heard

  file_led : (path : WebPath) (answer : Result F FsError) (number : Option ℕ) (m x t : S) (o : Result Stood FsError) (e : FsError) → o ≡ Err e → e ≡ fs.GeneralFailure
      → view.opens m c path reading answer x → OpensOne view.file reading (view.state m) answer (view.state x)
      → HearsFile view q answer number x o t → Led (opening path) m t
  file_led path (Ok file) number m x t o e is general opens one (told, (said, g, l, says, heard)) =
      inr (meta_led said number file g m x l t o e is general one.others.counts says heard)
  file_led path (Err f) number m x t o e is general opens one (same, counts) =
      let failure : f ≡ fs.GeneralFailure = cc in
      inl (x, subst (λ (r : FsError). view.opens m c path reading (Err r) x) failure opens, counts)

module _ {S C F L E : Type 0} (view : View S C F) (lists : Listings S C L E) (q : Query) (c : C) where
  opened_led : (path : WebPath) (answer : Result F FsError) (number : Option ℕ) (m x t : S) (o : Result Stood FsError) (rose : Type 0) (reply : Reply) → WasHad o
      → view.opens m c path reading answer x → OpensOne view.file reading (view.state m) answer (view.state x)
      → HearsFile view (asked_at q path) answer number x o t → IsPlacedOr q (due_opened path o) rose reply → reply.status ≡ 500 → Led view lists q c (opening path) m t
  opened_led path answer number m x t (Ok stood) rose reply had opens one heard right e =
      let (close, is) = placed_fails q (due_sent stood.kind path stood) rose reply right e in sent_stands stood.kind path stood close is
  opened_led path answer number m x t (Err f) rose reply had opens one heard right e =
      let (close, is) = placed_fails q (refused (fs_status f) false) rose reply right e in
      file_led view lists (asked_at q path) c path answer number m x t (Err f) f refl (due_fails f close (λ none. had (ap Err none)) is) opens one heard

  listed_led : (m t : S) (l : Result (List Member) FsError) (rose : Type 0) (reply : Reply) → WasHad l → IsListing view lists (is_get q.method) c q.path m l t
      → IsPlacedOr q (due_listed q.path l) rose reply → reply.status ≡ 500 → Led view lists q c listing m t
  listed_led m t (Ok members) rose reply had heard right e = let (close, is) = placed_fails q (page q.path members) rose reply right e in cc
  listed_led m t (Err f) rose reply had refuses right e =
      let (close, is) = placed_fails q (refused (fs_status f) false) rose reply right e in
      let failure = due_fails f close (λ none. had (ap Err none)) is in
      inl (t, subst (λ (r : FsError). lists.lists m c q.path Data (Err r) t) failure refuses, omega arith)

  -- the same by each course
  record CourseLeads (m t : S) (number : Option ℕ) (info : Info) (o : Result Stood FsError) (l : Result (List Member) FsError) (rose : Type 0) (reply : Reply) (co : Course) : Type 0 where
    leads : HearsCourse view lists q co c number m o l t → IsPlacedOr q (due_course (shown_heard (Ok info) o l) q.path co) rose reply → Led view lists q c co m t

  course_led : (m t : S) (number : Option ℕ) (info : Info) (o : Result Stood FsError) (l : Result (List Member) FsError) (rose : Type 0) (reply : Reply) → WasHad o → WasHad l
      → reply.status ≡ 500 → (kind : Kind) → CourseLeads m t number info o l rose reply (course q kind)
  course_led m t number info o l rose reply o_had l_had e =
      course_holds q (λ co. CourseLeads m t number info o l rose reply co) (record {
        directs = record { leads = λ heard right. let (close, is) = placed_fails q (to_slash q.path) rose reply right e in cc };
        lists = record { leads = λ heard right. listed_led m t l rose reply l_had heard.0 right e };
        unlisted = record { leads = λ heard right. other 405 true right not_405 };
        unnamed = record { leads = λ heard right. other 404 false right not_404 };
        opens = record { path = at q.path; index = λ slash name set. at _ };
      })
    where
      other : {X : Type 0} (status : ℕ) (close : Bool) → IsPlacedOr q (refused status close) rose reply → (status ≡ 500 → ⊥) → X
      other status close right never = let (shut, is) = placed_fails q (refused status close) rose reply right e in absurd (never (refused_is status 500 close shut is))

      at : (path : WebPath) → CourseLeads m t number info o l rose reply (opening path)
      at path = record { leads = λ (answer, x, opens, one, heard) right. opened_led path answer number m x t o rose reply o_had opens one heard right e }

module _ {S C F L E : Type 0} (view : View S C F) (lists : Listings S C L E) (q : Query) (c : C) where
  look_fails : (look : Result Info FsError) (s m t : S) (number : Option ℕ) (o : Result Stood FsError) (l : Result (List Member) FsError) (rose : Type 0) (reply : Reply)
      → view.looks s c q.path look m → (view.state s).faults ≤ (view.state m).faults → WasHad look → WasHad o → WasHad l
      → HearsLook view lists q look c number m o l t → IsPlacedOr q (due_looked (shown_heard look o l) q (looked_of look)) rose reply → reply.status ≡ 500
      → HasCause view lists q c s t
  look_fails (Err f) s m t number o l rose reply looks le had o_had l_had counts right e =
      let (close, is) = placed_fails q (refused (fs_status f) false) rose reply right e in
      inl (record { look = Err f; after = m; looks = looks; counts = le; fails = (due_fails f close (λ none. had (ap Err none)) is, counts) })
  look_fails (Ok info) s m t number o l rose reply looks le had o_had l_had heard right e =
      by ((course_led view lists q c m t number info o l rose reply o_had l_had e info.kind).leads heard right)
    where
      by : Led view lists q c (course q info.kind) m t → HasCause view lists q c s t
      by (inl fails) = inl (record { look = Ok info; after = m; looks = looks; counts = le; fails = fails })
      by (inr risen) = inr (rose_through _ _ _ _ le risen (omega arith))

  -- Where a GET or HEAD is answered 500, a call of the store was refused with a failure, or the disk met a fault.
  pub heard_fails : (s t : S) (given : Given F) → Heard view lists q c s given t → ((n : ℕ) → (reply_at {F = F} q.fields n given).status ≡ 500) → HasCause view lists q c s t
  heard_fails s t given h e = by (is_well_known q.settings q.method q.path) refl
    where
      by : (b : Bool) → is_well_known q.settings q.method q.path ≡ b → HasCause view lists q c s t
      by true plain =
          let right = subst (λ b. IsPlacedOr q (cond b known (due_looked (shown_heard h.looked h.opened h.listed) q (looked_of h.looked))) (Rose (view.state s).faults (view.state t).faults)
          (reply_at {F = F} q.fields (or_zero h.number) given)) plain h.right in
          let (close, is) = placed_fails q known (Rose (view.state s).faults (view.state t).faults) (reply_at {F = F} q.fields (or_zero h.number) given) right (e (or_zero h.number)) in cc
      by false plain =
          let (m, look, keeps, hears) = h.hears plain in
          let right = subst (λ b. IsPlacedOr q (cond b known (due_looked (shown_heard h.looked h.opened h.listed) q (looked_of h.looked))) (Rose (view.state s).faults (view.state t).faults)
          (reply_at {F = F} q.fields (or_zero h.number) given)) plain h.right in
          look_fails h.looked s m t h.number h.opened h.listed (Rose (view.state s).faults (view.state t).faults) (reply_at {F = F} q.fields (or_zero h.number) given) look keeps.counts
          h.looked_had h.opened_had h.listed_had hears right (e (or_zero h.number))

-- ---- a store that refuses few things

module _ {S C F L E : Type 0} (view : View S C F) (lists : Listings S C L E) (few : RefusesFew view lists) where
  could_not : {X : Type 0} (e : FsError) → e ≡ fs.GeneralFailure → CouldRefuse e → X
  could_not e is (inl other) = cc
  could_not e is (inr other) = cc

  spoiled_rose : {T : Type 0} (m x : S) → CouldRefuse fs.GeneralFailure ⊎ Spoiled {T = T} (view.state m) (Err fs.GeneralFailure) (view.state x)
      → Rose (view.state m).faults (view.state x).faults
  spoiled_rose m x (inl could) = could_not fs.GeneralFailure refl could
  spoiled_rose m x (inr (inl (is, rose))) = rose
  spoiled_rose m x (inr (inr none)) = cc

  on_rose : (q : Query) (co : Course) (c : C) (m t : S) → FailsOn view lists q co c m t → Rose (view.state m).faults (view.state t).faults
  on_rose q (refusing status close) c m t fails = absurd fails
  on_rose q directing c m t fails = absurd fails
  on_rose q (opening path) c m t (x, opens, counts) =
      rose_through _ _ _ _ (omega arith) (spoiled_rose {T = F} m x (few.opens m x c path fs.GeneralFailure opens)) counts
  on_rose q listing c m t (x, refuses, counts) =
      rose_through _ _ _ _ (omega arith) (spoiled_rose {T = L} m x (few.begins m x c q.path fs.GeneralFailure refuses)) counts

  behind_rose : (q : Query) (look : Result Info FsError) (c : C) (s m t : S) → view.looks s c q.path look m → (view.state s).faults ≤ (view.state m).faults
      → FailsBehind view lists q look c m t → Rose (view.state s).faults (view.state t).faults
  behind_rose q (Err e) c s m t looks le (is, counts) = by (few.looks s m c q.path e looks)
    where
      by : CouldRefuse e ⊎ Spoiled {T = Info} (view.state s) (Err e) (view.state m) → Rose (view.state s).faults (view.state t).faults
      by (inl could) = could_not e is could
      by (inr (inl fault)) = rose_through _ _ _ _ (omega arith) fault.1 counts
      by (inr (inr none)) = cc
  behind_rose q (Ok info) c s m t looks le fails = rose_through _ _ _ _ le (on_rose q (course q info.kind) c m t fails) (omega arith)

  -- There a call is refused with a failure only where the disk met a fault.
  pub cause_rose : (q : Query) (c : C) (s t : S) → HasCause view lists q c s t → Rose (view.state s).faults (view.state t).faults
  cause_rose q c s t (inr rose) = rose
  cause_rose q c s t (inl line) = behind_rose q line.look c s line.after t line.looks line.counts line.fails
