-- What a GET hears by its table, and that its answer is right for it.
use Rattle.std.proofs.Common.{◌≡◌, ◌≤◌, ◌&&◌, ℕ, Bool, true, false, cond, List, Option, None, Some, Result, Ok, Err, IfOk, IsSome, refl, sym, ap, subst, ◌∙◌, arith, ◌⊎◌, inl, inr}
use Rattle.std.specs.Option.{option_map}
use Rattle.dav_io.specs.Counts.{Rose}
use Rattle.dav_core.specs.declared.dav_error.DavError.TheVariants.{NoMemory}
use Rattle.dav_core.specs.declared.error.FsError.{FsError}
use Rattle.dav_core.specs.declared.error.FsError.TheVariants as fs
use Rattle.dav_core.specs.declared.member.Member.{Member}
use Rattle.dav_core.specs.declared.tree.Kind.{Kind}
use Rattle.dav_core.specs.declared.tree.Kind.TheVariants.{Dir, File, Link}
use Rattle.dav_core.specs.declared.handle.OpenOptions.{OpenOptions}
use Rattle.dav_core.specs.DavPath.{WebPath}
use Rattle.dav_core.specs.Disk.{Live, can_read}
use Rattle.dav_core.specs.Info.{Info}
use Rattle.dav_core.specs.Writing.{reading}
use Rattle.dav_core.specs.Statuses.{of_fs, status_of, closes, fs_status}
use Rattle.dav_core.specs.Tree.{is_file}
use Rattle.dav_core.specs.Unchanged.{Keeps}
use Rattle.dav_store.specs.Frames.{OpensOne}
use Rattle.dav_store.specs.View.{View, Listings, seen_in, Says as SaysOf, Closes}
use Rattle.dav_model.specs.Conditions.{Fields}
use Rattle.dav_model.specs.declared.outcome.Outcome.{Outcome}
use Rattle.dav_model.specs.Due.{Course, Due, Query, IsHead, course, directing, due, due_course, due_looked, due_opened, due_sent, known, listing, opening, page, refused, refusing, to_slash, file as sends}
use Rattle.dav_model.specs.Head.{IsFileHead, Reply, Stood, address_of, directed, is_get, is_set, is_well_known, redirected, refusal}
use Rattle.dav_model.specs.Shown.{Shown}
use Rattle.dav_get.specs.Heard.{Heard, HearsAddress, HearsCourse, HearsFile, HearsMeta, IsPlacedOr, WasHad, shown_heard, stood_heard}
use Rattle.dav_get.specs.Bodies.{parts_of}
use Rattle.dav_get.specs.Right.{IsOfNumber, number_told, or_zero, reply_at}
use Rattle.dav_get.specs.Table.{AfterListing, AfterLook, AfterMeta, AfterOpen, AfterRedirect, ByCourse, ByFile, ByRedirect, ByWellKnown, CouldSay, Gets, Given, IsListing, Redirects, SendsAway, SendsFile, asked_at, refused_as}
use Rattle.dav_get.proofs.Pages.{page_given, page_numbers}
use Rattle.dav_get.proofs.Sending.{placed_right}
use Rattle.dav_io.proofs.Rising.{rose_before}
use Rattle.dav_core.proofs.Rows.{file_kind}
use Rattle.dav_io.proofs.Cases.{not_there}

-- A refusal of the store that isn't want of memory is answered with its status.
record IsRefusal (e : FsError) : Type 0 where
  status : status_of (of_fs e) ≡ fs_status e
  stays : closes (of_fs e) ≡ false
  had : e ≡ fs.NoMemory → ⊥

refused_with : (e : FsError) → (of_fs e ≡ NoMemory) ⊎ IsRefusal e
refused_with fs.NoMemory = inl refl
refused_with other = inr (record { status = refl; stays = refl; had = λ is. cc })

refusal_had : {A : Type 0} (e : FsError) → (e ≡ fs.NoMemory → ⊥) → WasHad {A = A} (Err e)
refusal_had e had is = had cc

answer_had : {A : Type 0} (a : A) → WasHad {A = A} (Ok a)
answer_had a is = cc

-- a regular file that was opened for reading may be read
reads_of : (live : Option Live) (kind : Kind) → IsSome live → ((l : Live) → live ≡ Some l → l.how ≡ reading)
    → option_map (λ l. l.kind) live ≡ Some kind → is_file kind ≡ true → can_read live ≡ true
reads_of None kind some how is regular = cc
reads_of (Some l) kind some how is regular =
    let same : l.kind ≡ kind = cc in
    let read : l.how.read ≡ true = ap (λ (o : OpenOptions). o.read) (how l refl) in
    rw (same, regular, read) refl

no_address : (b : Bool) (address : Option (List ℕ)) → cond b address address ≡ address
no_address true address = refl
no_address false address = refl

pub no_file_due : (k : Kind) (path : WebPath) (stood : Stood) → is_file k ≡ false → due_sent k path stood ≡ refused 405 false
no_file_due Dir path stood is = refl
no_file_due File path stood is = cc
no_file_due Link path stood is = refl

-- A refusal is answered with its status, and closes where it is to.
pub refused_reply : (fields : Fields) (status : ℕ) (close : Bool) → refusal fields (status_of (refused_as status close)) (closes (refused_as status close)) ≡ refusal fields status close
refused_reply fields status true = refl
refused_reply fields status false = refl

-- What was due of another path is due.
pub placed_at : (q : Query) (path : WebPath) (d : Due) (rose : Type 0) (reply : Reply) → IsPlacedOr (asked_at q path) d rose reply → IsPlacedOr q d rose reply
placed_at q path known rose reply is = is
placed_at q path (refused status close) rose reply is = is
placed_at q path (to_slash at) rose reply is = is
placed_at q path (page dir members) rose reply is = is
placed_at q path (sends at stood) rose reply (inl head) = inl head
placed_at q path (sends at stood) rose reply (inr (is, risen)) = inr (record { here = is.here; partial = is.partial; sent = is.sent }, risen)

module _ {S C F : Type 0} (view : View S C F) (q : Query) where
  closed_counts : (s : S) (g : F) (t : S) → Closes view s g t → (view.state s).faults ≤ (view.state t).faults
  closed_counts s g t closed = let same = closed.done.counts in omega arith

  -- What an opening led to, of which P says by which calls; and the answer is right for it.
  record Leads (number : Option ℕ) (P : Result Stood FsError → Type 0) (s : S) (result : Given F) (t : S) : Type 0 where
    opened : Result Stood FsError
    hears : P opened
    had : WasHad opened
    right : IsPlacedOr q (due_opened q.path opened) (Rose (view.state s).faults (view.state t).faults) (reply_at {F = F} q.fields (or_zero number) result)
    named : IsOfNumber view number t result

  abbrev Leading : Option ℕ → (Result Stood FsError → Type 0) → S → Given F → S → Type 0
  Leading number P s result t = (result ≡ Err NoMemory) ⊎ Leads number P s result t

  right_before : (d : Due) (s m t : S) (reply : Reply) → (view.state s).faults ≤ (view.state m).faults
      → IsPlacedOr q d (Rose (view.state m).faults (view.state t).faults) reply → IsPlacedOr q d (Rose (view.state s).faults (view.state t).faults) reply
  right_before d s m t reply le (inl head) = inl head
  right_before d s m t reply le (inr (unplaced, rose)) = inr (unplaced, rose_before _ _ _ le rose)

  -- calls came before, by which it was heard
  led_before : (number : Option ℕ) (P Q : Result Stood FsError → Type 0) (s m : S) (result : Given F) (t : S) → (view.state s).faults ≤ (view.state m).faults
      → ((opened : Result Stood FsError) → P opened → Q opened) → Leading number P m result t → Leading number Q s result t
  led_before number P Q s m result t le to (inl none) = inl none
  led_before number P Q s m result t le to (inr led) = inr (record {
    opened = led.opened;
    hears = to led.opened led.hears;
    had = led.had;
    right = right_before (due_opened q.path led.opened) s m t _ le led.right;
    named = led.named;
  })

  refused_leads : (e : FsError) (number : Option ℕ) (P : Result Stood FsError → Type 0) (s : S) (result : Given F) (t : S) → P (Err e) → result ≡ Err (of_fs e) → Leading number P s result t
  refused_leads e number P s result t hears is = elim (refused_with e) [
    | inl none ↦ inl (is ∙ ap Err none)
    | inr r ↦ inr (record {
      opened = Err e;
      hears = hears;
      had = refusal_had e r.had;
      right = inl (ap (reply_at {F = F} q.fields (or_zero number)) is ∙ (λ i. refusal q.fields (r.status i) (r.stays i)));
      named = subst (λ x. IsOfNumber view number t x) (sym is) tt;
    })
  ]

  module _ (number : Option ℕ) (info : Info) where
    -- a regular file is sent
    sends_leads : (P : Result Stood FsError → Type 0) (g : F) (s : S) (result : Given F) (t : S) → is_file info.kind ≡ true
        → ((view.state s).faults ≤ (view.state t).faults → P (Ok (stood_heard number info None)))
        → number_told (seen_in view s g) ≡ number → can_read ((view.state s).live (view.file.handle g)) ≡ true
        → SendsFile view q info g s result t → Leading number P s result t
    sends_leads P g s (Err e) t regular hears told live row = absurd row
    sends_leads P g s (Ok answer) t regular hears told live row =
        let sent = placed_right view q info number g s answer t told live row in
        let stood : Stood = stood_heard number info None in
        let none : address_of q.settings stood ≡ None = no_address (is_set q.settings.redirect) None in
        let at : IsPlacedOr q (sends q.path stood) (Rose (view.state s).faults (view.state t).faults) (reply_at {F = F} q.fields (or_zero number) (Ok answer)) =
        elim sent.right [
          | inl right ↦ inl (subst (λ a. IsFileHead a q.method q.fields q.path stood (reply_at {F = F} q.fields (or_zero number) (Ok answer))) (sym none) right)
          | inr unplaced ↦ inr (record { here = none; partial = unplaced.0; sent = unplaced.1 }, unplaced.2)
        ] in
        inr (record {
          opened = Ok stood;
          hears = hears sent.counts;
          had = answer_had stood;
          right = subst (λ k. IsPlacedOr q (due_sent k q.path stood) (Rose (view.state s).faults (view.state t).faults) (reply_at {F = F} q.fields (or_zero number) (Ok answer))) (sym (file_kind info.kind regular)) at;
          named = sent.file;
        })

    -- the client is sent to another address
    away_leads : (P : Result Stood FsError → Type 0) (address : List ℕ) (g : F) (s : S) (result : Given F) (t : S) → is_file info.kind ≡ true → is_set q.settings.redirect ≡ true
        → ((view.state s).faults ≤ (view.state t).faults → P (Ok (stood_heard number info (Some address))))
        → SendsAway view info address g s result t → Leading number P s result t
    away_leads P address g s (Err e) t regular set hears row = absurd row
    away_leads P address g s (Ok answer) t regular set hears ((date, dated, is), closed, (left, none)) =
        let stood : Stood = stood_heard number info (Some address) in
        let to : address_of q.settings stood ≡ Some address = ap (λ b. cond b (Some address) None) set in
        let reply : reply_at {F = F} q.fields (or_zero number) (Ok answer) ≡ redirected address info.tag date =
        λ i. record { status = ap (λ (o : Outcome). o.status) is i; fields = ap (λ (o : Outcome). o.fields) is i; parts = ap (parts_of (or_zero number)) left i } in
        let head : IsFileHead (Some address) q.method q.fields q.path stood (reply_at {F = F} q.fields (or_zero number) (Ok answer)) = (date, dated, reply) in
        let at : IsHead q (sends q.path stood) (reply_at {F = F} q.fields (or_zero number) (Ok answer)) =
        subst (λ a. IsFileHead a q.method q.fields q.path stood (reply_at {F = F} q.fields (or_zero number) (Ok answer))) (sym to) head in
        inr (record {
          opened = Ok stood;
          hears = hears (closed_counts s g t closed);
          had = answer_had stood;
          right = inl (subst (λ k. IsHead q (due_sent k q.path stood) (reply_at {F = F} q.fields (or_zero number) (Ok answer))) (sym (file_kind info.kind regular)) at);
          named = λ h some. absurd (not_there answer.1.file h none some);
        })

    -- a file that is asked for its address
    asked_leads : (said : Result (Option (List ℕ)) FsError) (file g : F) (s m : S) (result : Given F) (t : S) → is_file info.kind ≡ true → is_set q.settings.redirect ≡ true
        → number_told (seen_in view s file) ≡ number → can_read ((view.state s).live (view.file.handle file)) ≡ true
        → Redirects view s file said m g → AfterRedirect view said q info g m result t
        → Leading number (λ opened. HearsAddress view q true number info file s opened t) s result t
    asked_leads (Err e) file g s m result t regular set told live asked (closed, is) =
        refused_leads e number _ s result t (Err e, g, m, asked, refl, closed_counts m g t closed) is
    asked_leads (Ok (Some address)) file g s m result t regular set told live asked row =
        led_before number (λ opened. HearsAddress view q true number info file s opened t) (λ opened. HearsAddress view q true number info file s opened t) s m result t asked.done.keeps.counts (λ opened h. h)
        (away_leads (λ opened. HearsAddress view q true number info file s opened t) address g m result t regular set
        (λ counts. (Ok (Some address), g, m, asked, refl, counts)) row)
    asked_leads (Ok None) file g s m result t regular set told live asked row =
        let told2 = ap number_told asked.done.same ∙ told in
        let live2 : can_read ((view.state m).live (view.file.handle g)) ≡ true =
        ap (λ h. can_read ((view.state m).live h)) asked.handle ∙ ap can_read (asked.done.keeps.live (view.file.handle file)) ∙ live in
        led_before number (λ opened. HearsAddress view q true number info file s opened t) (λ opened. HearsAddress view q true number info file s opened t) s m result t asked.done.keeps.counts (λ opened h. h)
        (sends_leads (λ opened. HearsAddress view q true number info file s opened t) g m result t regular
        (λ counts. (Ok None, g, m, asked, refl, counts)) told2 live2 row)

    by_redirect_leads : (b : Bool) (file : F) (s : S) (result : Given F) (t : S) → is_file info.kind ≡ true → is_set q.settings.redirect ≡ b
        → number_told (seen_in view s file) ≡ number → can_read ((view.state s).live (view.file.handle file)) ≡ true
        → ByRedirect view b q info file s result t → Leading number (λ opened. HearsAddress view q b number info file s opened t) s result t
    by_redirect_leads false file s result t regular set told live row =
        sends_leads (λ opened. HearsAddress view q false number info file s opened t) file s result t regular (λ counts. (refl, counts)) told live row
    by_redirect_leads true file s result t regular set told live (said, g, m, asked, row) =
        asked_leads said file g s m result t regular set told live asked row

    by_file_leads : (b : Bool) (file : F) (s : S) (result : Given F) (t : S) → is_file info.kind ≡ b
        → number_told (seen_in view s file) ≡ number → (is_file info.kind ≡ true → can_read ((view.state s).live (view.file.handle file)) ≡ true)
        → ByFile view b q info file s result t
        → Leading number (λ opened. HearsAddress view q (b && is_set q.settings.redirect) number info file s opened t) s result t
    by_file_leads true file s result t regular told live row = by_redirect_leads (is_set q.settings.redirect) file s result t regular refl told (live regular) row
    by_file_leads false file s result t other told live (closed, is) =
        let stood : Stood = stood_heard number info None in
        inr (record {
          opened = Ok stood;
          hears = (refl, closed_counts s file t closed);
          had = answer_had stood;
          right = inl (subst (λ d. IsHead q d (reply_at {F = F} q.fields (or_zero number) result)) (sym (no_file_due info.kind q.path stood other)) (ap (reply_at {F = F} q.fields (or_zero number)) is));
          named = subst (λ x. IsOfNumber view number t x) (sym is) tt;
        })

  -- the metadata of a file that was opened
  meta_leads : (said : Result Info FsError) (number : Option ℕ) (file g : F) (s m : S) (result : Given F) (t : S) → number_told (seen_in view s file) ≡ number
      → IsSome ((view.state s).live (view.file.handle file)) → ((l : Live) → (view.state s).live (view.file.handle file) ≡ Some l → l.how ≡ reading)
      → SaysOf view s file said m g → IfOk said CouldSay → AfterMeta view said q g m result t
      → Leading number (λ opened. HearsMeta view q said number g m opened t) m result t
  meta_leads (Err e) number file g s m result t told some how says could (closed, is) =
      refused_leads e number _ m result t (refl, closed_counts m g t closed) is
  meta_leads (Ok info) number file g s m result t told some how says could row =
      let told2 = ap number_told says.done.same ∙ told in
      let live2 : is_file info.kind ≡ true → can_read ((view.state m).live (view.file.handle g)) ≡ true =
      λ regular. ap (λ h. can_read ((view.state m).live h)) says.handle ∙ ap can_read (says.done.keeps.live (view.file.handle file))
      ∙ reads_of ((view.state s).live (view.file.handle file)) info.kind some how says.done.kind regular in
      led_before number (λ opened. HearsAddress view q (is_file info.kind && is_set q.settings.redirect) number info g m opened t)
      (λ opened. HearsMeta view q (Ok info) number g m opened t) m m result t (omega arith) (λ opened h. (could, h))
      (by_file_leads number info (is_file info.kind) g m result t refl told2 live2 row)

  -- what an opening leads to, under some number
  abbrev LeadsOn : (Option ℕ → Result Stood FsError → Type 0) → S → Given F → S → Type 0
  LeadsOn P s result t = (result ≡ Err NoMemory) ⊎ ((number : Option ℕ) × Leads number (P number) s result t)

  some_number : (P : Option ℕ → Result Stood FsError → Type 0) (number : Option ℕ) (s : S) (result : Given F) (t : S) → Leading number (P number) s result t → LeadsOn P s result t
  some_number P number s result t (inl none) = inl none
  some_number P number s result t (inr led) = inr (number, led)

  file_leads : (answer : Result F FsError) (s m : S) (result : Given F) (t : S) → OpensOne view.file reading (view.state s) answer (view.state m)
      → AfterOpen view answer q m result t → LeadsOn (λ number opened. HearsFile view q answer number m opened t) m result t
  file_leads (Err e) s m result t one (same, is) =
      some_number (λ number opened. HearsFile view q (Err e) number m opened t) None m result t
      (refused_leads e None (λ opened. HearsFile view q (Err e) None m opened t) m result t (refl, rw same (omega arith)) is)
  file_leads (Ok file) s m result t one (inr none) = inl none
  file_leads (Ok file) s m result t one (inl (said, g, k, says, could, row)) =
      let number = number_told (seen_in view m file) in
      some_number (λ number opened. HearsFile view q (Ok file) number m opened t) number m result t
      (led_before number (λ opened. HearsMeta view q said number g k opened t) (λ opened. HearsFile view q (Ok file) number m opened t) m k result t says.done.keeps.counts
      (λ opened h. (refl, (said, g, k, says, h)))
      (meta_leads said number file g m k result t refl one.live one.options says could row))

module _ {S C F L E : Type 0} (view : View S C F) (lists : Listings S C L E) (q : Query) where
  module _ (c : C) (plain : is_well_known q.settings q.method q.path ≡ false) where
    -- where the tree is looked at
    at_due : (shown : Shown) (rose : Type 0) (reply : Reply) → IsPlacedOr q (due_looked shown q (shown.looked q.path)) rose reply → IsPlacedOr q (due shown q) rose reply
    at_due shown rose reply right = subst (λ b. IsPlacedOr q (cond b known (due_looked shown q (shown.looked q.path))) rose reply) (sym plain) right

    abbrev Hearing : S → Given F → S → Type 0
    Hearing s result t = (result ≡ Err NoMemory) ⊎ Heard view lists q c s result t

    -- an answer that is given at once, after a look
    at_once : (co : Course) (info : Info) (listed : Result (List Member) FsError) (s m : S) (result : Given F) (t : S) → WasHad listed → course q info.kind ≡ co → view.looks s c q.path (Ok info) m → Keeps (view.state s) (view.state m)
        → HearsCourse view lists q co c None m (Err fs.NotFound) listed t
        → IsHead q (due_course (shown_heard (Ok info) (Err fs.NotFound) listed) q.path co) (reply_at {F = F} q.fields 0 result) → IsOfNumber view None t result → Hearing s result t
    at_once co info listed s m result t had is looks keeps hears head named =
        let shown : Shown = shown_heard (Ok info) (Err fs.NotFound) listed in
        let reply : Reply = reply_at {F = F} q.fields 0 result in
        let rose : Type 0 = Rose (view.state s).faults (view.state t).faults in
        inr (record {
          looked = Ok info;
          opened = Err fs.NotFound;
          listed = listed;
          number = None;
          hears = λ no. (m, looks, keeps, subst (λ x. HearsCourse view lists q x c None m (Err fs.NotFound) listed t) (sym is) hears);
          looked_had = answer_had info;
          opened_had = refusal_had fs.NotFound (λ is. cc);
          listed_had = had;
          right = at_due shown rose reply (inl (subst (λ x. IsHead q (due_course shown q.path x) reply) (sym is) head));
          file = named;
        })

    opened_heard : (path : WebPath) (info : Info) (answer : Result F FsError) (s m k : S) (result : Given F) (t : S) → course q info.kind ≡ opening path
        → view.looks s c q.path (Ok info) m → Keeps (view.state s) (view.state m)
        → view.opens m c path reading answer k → OpensOne view.file reading (view.state m) answer (view.state k) → (view.state m).faults ≤ (view.state k).faults
        → LeadsOn view (asked_at q path) (λ number opened. HearsFile view (asked_at q path) answer number k opened t) k result t → Hearing s result t
    opened_heard path info answer s m k result t is looks keeps opens one counts (inl none) = inl none
    opened_heard path info answer s m k result t is looks keeps opens one counts (inr (number, led)) =
        let shown : Shown = shown_heard (Ok info) led.opened (Err fs.NotFound) in
        let reply : Reply = reply_at {F = F} q.fields (or_zero number) result in
        let rose : Type 0 = Rose (view.state s).faults (view.state t).faults in
        let le = keeps.counts in
        let right : IsPlacedOr q (due_opened path led.opened) rose reply =
        placed_at q path (due_opened path led.opened) rose reply (right_before view (asked_at q path) (due_opened path led.opened) s k t reply (omega arith) led.right) in
        inr (record {
          looked = Ok info;
          opened = led.opened;
          listed = Err fs.NotFound;
          number = number;
          hears = λ no. (m, looks, keeps, subst (λ x. HearsCourse view lists q x c number m led.opened (Err fs.NotFound) t) (sym is) (answer, k, opens, one, led.hears));
          looked_had = answer_had info;
          opened_had = led.had;
          listed_had = refusal_had fs.NotFound (λ is. cc);
          right = at_due shown rose reply (subst (λ x. IsPlacedOr q (due_course shown q.path x) rose reply) (sym is) right);
          file = led.named;
        })

    nothing_had : WasHad {A = List Member} (Err fs.NotFound)
    nothing_had = refusal_had fs.NotFound (λ is. cc)

    -- A directory is listed.
    listing_heard : (answer : Result (List Member) FsError) (info : Info) (s m : S) (result : Given F) (t : S) → course q info.kind ≡ listing
        → view.looks s c q.path (Ok info) m → Keeps (view.state s) (view.state m) → IsListing view lists (is_get q.method) c q.path m answer t → Keeps (view.state m) (view.state t)
        → AfterListing answer q result → Hearing s result t
    listing_heard (Ok members) info s m result t is looks keeps lists' kept row =
        at_once listing info (Ok members) s m result t (answer_had members) is looks keeps (lists', kept) (page_given q members 0 result row) (page_numbers view None q members result t row)
    listing_heard (Err e) info s m result t is looks keeps lists' kept row = elim (refused_with e) [
      | inl none ↦ inl (row ∙ ap Err none)
      | inr r ↦ at_once listing info (Err e) s m result t (refusal_had e r.had) is looks keeps (lists', kept)
          (ap (reply_at {F = F} q.fields 0) row ∙ (λ i. refusal q.fields (r.status i) (r.stays i))) (subst (λ x. IsOfNumber view None t x) (sym row) tt)
    ]

    -- A look told what stands there.
    course_heard : (co : Course) (info : Info) (s m : S) (result : Given F) (t : S) → course q info.kind ≡ co
        → view.looks s c q.path (Ok info) m → Keeps (view.state s) (view.state m) → ByCourse view lists co q c m result t → Hearing s result t
    course_heard (refusing status close) info s m result t is looks keeps (same, fails) =
        at_once (refusing status close) info (Err fs.NotFound) s m result t nothing_had is looks keeps (rw same (omega arith)) (ap (reply_at {F = F} q.fields 0) fails ∙ refused_reply q.fields status close)
        (subst (λ x. IsOfNumber view None t x) (sym fails) tt)
    course_heard directing info s m (Err e) t is looks keeps (same, directs) = absurd directs
    course_heard directing info s m (Ok r) t is looks keeps (same, (outcome, (left, none))) =
        let reply : reply_at {F = F} q.fields 0 (Ok r) ≡ directed q.path =
        λ i. record { status = ap (λ (o : Outcome). o.status) outcome i; fields = ap (λ (o : Outcome). o.fields) outcome i; parts = ap (parts_of 0) left i } in
        at_once directing info (Err fs.NotFound) s m (Ok r) t nothing_had is looks keeps (rw same (omega arith)) reply (λ h some. absurd (not_there r.1.file h none some))
    course_heard listing info s m result t is looks keeps (answer, lists', kept, row) =
        listing_heard answer info s m result t is looks keeps lists' kept row
    course_heard (opening path) info s m result t is looks keeps (answer, k, opens, one, row) =
        opened_heard path info answer s m k result t is looks keeps opens one (opened_counts answer one) (file_leads view (asked_at q path) answer m k result t one row)
      where
        opened_counts : (answer : Result F FsError) → OpensOne view.file reading (view.state m) answer (view.state k)
            → (view.state m).faults ≤ (view.state k).faults
        opened_counts (Ok f) one = one.others.counts
        opened_counts (Err e) one = one.others.counts

    look_heard : (looked : Result Info FsError) (s m : S) (result : Given F) (t : S) → view.looks s c q.path looked m → Keeps (view.state s) (view.state m)
        → AfterLook view lists looked q c m result t → Hearing s result t
    look_heard (Ok info) s m result t looks keeps row = course_heard (course q info.kind) info s m result t refl looks keeps row
    look_heard (Err e) s m result t looks keeps (same, is) = elim (refused_with e) [
      | inl none ↦ inl (is ∙ ap Err none)
      | inr r ↦
          let shown : Shown = shown_heard (Err e) (Err fs.NotFound) (Err fs.NotFound) in
          let reply : Reply = reply_at {F = F} q.fields 0 result in
          let rose : Type 0 = Rose (view.state s).faults (view.state t).faults in
          let head : IsHead q (refused (fs_status e) false) reply = ap (reply_at {F = F} q.fields 0) is ∙ (λ i. refusal q.fields (r.status i) (r.stays i)) in
          inr (record {
            looked = Err e;
            opened = Err fs.NotFound;
            listed = Err fs.NotFound;
            number = None;
            hears = λ no. (m, looks, keeps, rw same (omega arith));
            looked_had = refusal_had e r.had;
            opened_had = refusal_had fs.NotFound (λ is. cc);
            listed_had = nothing_had;
            right = at_due shown rose reply (inl head);
            file = subst (λ x. IsOfNumber view None t x) (sym is) tt;
          })
    ]

  well_known_heard : (b : Bool) (c : C) (s : S) (result : Given F) (t : S) → is_well_known q.settings q.method q.path ≡ b
      → ByWellKnown view lists b q c s result t → (result ≡ Err NoMemory) ⊎ Heard view lists q c s result t
  well_known_heard false c s result t plain (looked, m, looks, keeps, row) = look_heard c plain looked s m result t looks keeps row
  well_known_heard true c s (Err e) t known_page (same, row) = absurd row
  well_known_heard true c s (Ok r) t known_page (same, (is, (left, none))) =
      let shown : Shown = shown_heard (Err fs.NotFound) (Err fs.NotFound) (Err fs.NotFound) in
      let reply : Reply = reply_at {F = F} q.fields 0 (Ok r) in
      let rose : Type 0 = Rose (view.state s).faults (view.state t).faults in
      let head : IsHead q known reply =
      λ i. record { status = ap (λ (o : Outcome). o.status) is i; fields = ap (λ (o : Outcome). o.fields) is i; parts = ap (parts_of 0) left i } in
      inr (record {
        looked = Err fs.NotFound;
        opened = Err fs.NotFound;
        listed = Err fs.NotFound;
        number = None;
        hears = λ no. (let both : true ≡ false = sym known_page ∙ no in cc);
        looked_had = refusal_had fs.NotFound (λ is. cc);
        opened_had = refusal_had fs.NotFound (λ is. cc);
        listed_had = refusal_had fs.NotFound (λ is. cc);
        right = inl (subst (λ b. IsHead q (cond b known (due_looked shown q (shown.looked q.path))) reply) (sym known_page) head);
        file = λ h some. absurd (not_there r.1.file h none some);
      })

  -- What the table answers is heard, and right for it.
  pub gets_heard : (c : C) (s : S) (result : Given F) (t : S) → Gets view lists q c s result t ⊎ (result ≡ Err NoMemory)
      → (result ≡ Err NoMemory) ⊎ Heard view lists q c s result t
  gets_heard c s result t (inl row) = well_known_heard (is_well_known q.settings q.method q.path) c s result t refl row
  gets_heard c s result t (inr none) = inl none
