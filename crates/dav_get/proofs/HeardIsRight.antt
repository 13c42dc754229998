-- What is heard over a store that shows what stands at the path is right for that.
use Rattle.std.proofs.Common.{◌≡◌, ◌≤◌, ◌&&◌, ℕ, Bool, true, false, cond, List, [], ◌∷◌, ◌++◌, append-nil, Option, None, Some, Result, Ok, Err, refl, sym, ap, subst, ◌∙◌, arith, ◌⊎◌, inl, inr}
use Rattle.std.specs.Prelude.{is_some}
use Rattle.std.specs.List.Sorted.{IsPermutation}
use Rattle.dav_io.specs.Counts.{Rose}
use Rattle.dav_core.specs.declared.error.FsError.{FsError}
use Rattle.dav_core.specs.declared.error.FsError.TheVariants as fs
use Rattle.dav_core.specs.declared.member.Member.{Member}
use Rattle.dav_core.specs.Unchanged.{Keeps}
use Rattle.dav_core.proofs.UnchangedLemmas.{keeps_then}
use Rattle.dav_page.specs.Listed.{AreRows}
use Rattle.dav_core.specs.declared.tree.Kind.{Kind}
use Rattle.dav_core.specs.declared.tree.Kind.TheVariants.{Dir, File, Link}
use Rattle.dav_core.specs.Info.{Info}
use Rattle.dav_core.specs.Writing.{reading}
use Rattle.dav_core.specs.Statuses.{fs_status}
use Rattle.dav_core.specs.DavPath.{WebPath}
use Rattle.dav_core.specs.Tree.{is_file}
use Rattle.dav_store.specs.Files.{Spoiled}
use Rattle.dav_store.specs.Frames.{OpensOne}
use Rattle.dav_store.specs.Shows.{here, looks, LooksThere, OpensThere, IsThere, seen_of}
use Rattle.dav_store.specs.Standing.{Standing, Seen, Agrees, AgreesOpen}
use Rattle.dav_store.specs.Members.{BeginsThere, ReadsThere, ShowsMembers}
use Rattle.dav_store.specs.View.{View, Listings, seen_in, Says as SaysOf}
use Rattle.dav_model.specs.Conditions.{Fields}
use Rattle.dav_model.specs.Due.{Course, Due, Query, IsHead, IsSpoiled, course, directing, due_course, due_kind, due_listed, due_looked, due_opened, due_sent, failure, known, listing, opening, page, refused, refusing, to_slash, file as sends}
use Rattle.dav_model.specs.Indexes.{AreRowsOfSome, IsIndexReply}
use Rattle.dav_model.specs.Head.{IsFileHead, Reply, Stood, address_of, directed, is_get, is_set, is_well_known, refusal, well_known}
use Rattle.dav_model.specs.Shown.{Shown}
use Rattle.dav_get.specs.declared.open_at.OpenAt.{OpenAt}
use Rattle.dav_get.specs.declared.part.BodyPart.{BodyPart}
use Rattle.dav_get.specs.Bodies.{left_of, parts_of}
use Rattle.dav_get.specs.Heard.{Heard, HearsAddress, HearsCourse, HearsFile, HearsLook, HearsMeta, IsPlacedOr, WasHad, looked_of, shown_heard, stood_heard}
use Rattle.dav_get.specs.Lives.{OpenOnlyHeld}
use Rattle.dav_get.specs.Right.{IsOfNumber, number_told, or_zero, reply_at}
use Rattle.dav_get.specs.Table.{Given, IsListing, ReadsMembers, asked_at}
use Rattle.dav_get.specs.Told.{IsRightFor, ShowsFor, found_as, number_by, number_for, number_in, number_looked, shown_as, stood_of}
use Rattle.dav_get.proofs.PageMembers.{rows_alike, shows_later}
use Rattle.dav_get.proofs.Pages.{index_renumbered, index_rows, no_file_kept}
use Rattle.dav_get.proofs.TableIsHeard.{no_file_due, placed_at}
use Rattle.dav_core.proofs.Rows.{file_kind}

pub rose_through : (a b c d : ℕ) → a ≤ b → Rose b c → c ≤ d → Rose a d
rose_through a b c d le rose more = grind arith

pub none_left : (n : ℕ) (parts : List BodyPart) → parts_of n parts ≡ [] → parts ≡ []
none_left n [] is = refl
none_left n (part ∷ parts) is = cc

-- A reply without parts is the same under any number.
renumbered : {F : Type 0} (fields : Fields) (n k : ℕ) (result : Given F) (reply : Reply) → reply.parts ≡ [] → reply_at fields n result ≡ reply → reply_at fields k result ≡ reply
renumbered fields n k (Err e) reply none is = is
renumbered fields n k (Ok r) reply none is =
    let left : left_of r.1 ≡ [] = none_left n (left_of r.1) (ap (λ (x : Reply). x.parts) is ∙ none) in
    let parts : parts_of k (left_of r.1) ≡ reply.parts = ap (parts_of k) left ∙ sym none in
    λ i. record { status = ap (λ (x : Reply). x.status) is i; fields = ap (λ (x : Reply). x.fields) is i; parts = parts i }

-- The address counts only where the client may be sent there.
head_alike : (q : Query) (to address : Option (List ℕ)) (stood : Stood) (reply : Reply)
    → IsFileHead to q.method q.fields q.path (record stood { address = address }) reply → IsFileHead to q.method q.fields q.path stood reply
head_alike q None address stood reply head = head
head_alike q (Some a) address stood reply head = head

module _ {S C F : Type 0} (view : View S C F) (q : Query) where
  -- the failure of a disk may stand in the place of all but the page
  failed_sent : (k : Kind) (path : WebPath) (stood : Stood) (reply : Reply) → reply ≡ failure → IsSpoiled q (due_sent k path stood) reply
  failed_sent Dir path stood reply is = is
  failed_sent File path stood reply is = inl is
  failed_sent Link path stood reply is = is

  failed_opened : (path : WebPath) (opened : Result Stood FsError) (reply : Reply) → reply ≡ failure → IsSpoiled q (due_opened path opened) reply
  failed_opened path (Err e) reply is = is
  failed_opened path (Ok stood) reply is = failed_sent stood.kind path stood reply is

  failed_listed : (path : WebPath) (found : Result (List Member) FsError) (reply : Reply) → reply ≡ failure → IsSpoiled q (due_listed path found) reply
  failed_listed path (Err e) reply is = is
  failed_listed path (Ok members) reply is = inl is

  failed_course : (co : Course) (shown : Shown) (path : WebPath) (reply : Reply) → reply ≡ failure → IsSpoiled q (due_course shown path co) reply
  failed_course (refusing status close) shown path reply is = is
  failed_course directing shown path reply is = is
  failed_course (opening at) shown path reply is = failed_opened at (shown.opened at) reply is
  failed_course listing shown path reply is = failed_listed path (shown.listed path) reply is

  pub failed_looked : (looked : Result Stood FsError) (shown : Shown) (reply : Reply) → reply ≡ failure → IsSpoiled q (due_looked shown q looked) reply
  failed_looked (Err e) shown reply is = is
  failed_looked (Ok stood) shown reply is = failed_course (course q stood.kind) shown q.path reply is

  module _ (s : S) (result : Given F) (t : S) (life : OpenOnlyHeld view s result t) (k : ℕ) where
    abbrev Risen : Type 0
    Risen = Rose (view.state s).faults (view.state t).faults

    abbrev TheReply : Reply
    TheReply = reply_at {F = F} q.fields k result

    -- right for what is due, and the body's file is told under this number
    pub record Settled (d : Due) : Type 0 where
      pub right : IsHead q d TheReply ⊎ (IsSpoiled q d TheReply × Risen)
      pub named : IsOfNumber view (Some k) t result

    -- A body of a reply without parts has no file.
    no_file : (x : Given F) → OpenOnlyHeld view s x t → (reply : Reply) → reply.parts ≡ [] → reply_at q.fields k x ≡ reply → IsOfNumber view (Some k) t x
    no_file (Err e) only reply none is = tt
    no_file (Ok r) only reply none is =
        let left = none_left k (left_of r.1) (ap (λ (x : Reply). x.parts) is ∙ none) in
        λ h some. absurd (both r.1.file h (only.0.over left) some)
      where
        both : (o : Option (OpenAt F)) (h : OpenAt F) → is_some o ≡ false → o ≡ Some h → ⊥
        both None h over some = cc
        both (Some g) h over some = cc

    refused_settled : (status : ℕ) (close : Bool) (n : ℕ) → reply_at q.fields n result ≡ refusal q.fields status close → Settled (refused status close)
    refused_settled status close n is =
        let at = renumbered q.fields n k result (refusal q.fields status close) refl is in
        record { right = inl at; named = no_file result life (refusal q.fields status close) refl at }

    -- a call that was refused because of a fault
    fault_settled : (d : Due) (e : FsError) (n : ℕ) → ((reply : Reply) → reply ≡ failure → IsSpoiled q d reply) → e ≡ fs.GeneralFailure → reply_at q.fields n result ≡ refusal q.fields (fs_status e) false
        → Risen → Settled d
    fault_settled d e n may fault is rose =
        let failed : reply_at q.fields n result ≡ failure = is ∙ ap (λ x. refusal q.fields (fs_status x) false) fault in
        let at = renumbered q.fields n k result failure refl failed in
        record { right = inr (may (reply_at q.fields k result) at, rose); named = no_file result life failure refl at }

    -- what is heard of a refused opening
    heard_refused : (o : Result Stood FsError) (e : FsError) (n : ℕ) → o ≡ Err e → IsPlacedOr q (due_opened q.path o) Risen (reply_at q.fields n result)
        → reply_at q.fields n result ≡ refusal q.fields (fs_status e) false
    heard_refused o e n is right = at (subst (λ x. IsPlacedOr q (due_opened q.path x) Risen (reply_at q.fields n result)) is right)
      where
        at : IsPlacedOr q (refused (fs_status e) false) Risen (reply_at q.fields n result) → reply_at q.fields n result ≡ refusal q.fields (fs_status e) false
        at (inl head) = head
        at (inr (none, rose)) = absurd none

    spoiled_settled : {T : Type 0} (d : Due) (r : Result T FsError) (e : FsError) (o : Result Stood FsError) (x y : S) (n : ℕ) → ((reply : Reply) → reply ≡ failure → IsSpoiled q d reply)
        → r ≡ Err e → Spoiled (view.state x) r (view.state y) → o ≡ Err e → WasHad o
        → (view.state s).faults ≤ (view.state x).faults → (view.state y).faults ≤ (view.state t).faults
        → IsPlacedOr q (due_opened q.path o) Risen (reply_at q.fields n result) → Settled d
    spoiled_settled d r e o x y n may is (inl (fault, rose)) same had before after right =
        fault_settled d e n may (let f : e ≡ fs.GeneralFailure = cc in f) (heard_refused o e n same right) (rose_through _ _ _ _ before rose after)
    spoiled_settled d r e o x y n may is (inr none) same had before after right = absurd (had (let f : o ≡ Err fs.NoMemory = cc in f))

    module _ (there : Standing) (number : Option ℕ) (o : Result Stood FsError) (had : WasHad o) (named : IsOfNumber view number t result)
        (right : IsPlacedOr q (due_opened q.path o) Risen (reply_at q.fields (or_zero number) result)) where
      abbrev DueThere : Due
      DueThere = due_opened q.path (Ok (stood_of there))

      -- an open regular file, of which all is told
      alike_settled : (info : Info) (address : Option (List ℕ)) → k ≡ there.number → number ≡ Some there.number → Agrees info there → is_file there.kind ≡ true
          → address_of q.settings (stood_heard number info address) ≡ address_of q.settings (stood_of there)
          → o ≡ Ok (stood_heard number info address) → Settled DueThere
      alike_settled info address key told agrees regular to is =
          let stood : Stood = stood_heard number info address in
          let other : Stood = record (stood_of there) { address = address } in
          let same : stood ≡ other = λ i. record { kind = agrees.kind i; number = or_zero (told i); len = agrees.len i; modified = agrees.modified i; tag = agrees.tag i; address = address } in
          let numbered : or_zero number ≡ k = ap or_zero told ∙ sym key in
          let right1 = subst (λ x. IsPlacedOr q (due_opened q.path x) Risen (reply_at q.fields (or_zero number) result)) (is ∙ ap Ok same) right in
          let right2 = subst (λ j. IsPlacedOr q (due_sent j q.path other) Risen (reply_at q.fields (or_zero number) result)) (file_kind there.kind regular) right1 in
          let right3 = subst (λ n. IsPlacedOr q (sends q.path other) Risen (reply_at q.fields n result)) numbered right2 in
          let where' : address_of q.settings other ≡ address_of q.settings (stood_of there) = sym (ap (address_of q.settings) same) ∙ to in
          let at : IsHead q (sends q.path (stood_of there)) TheReply ⊎ (IsSpoiled q (sends q.path (stood_of there)) TheReply × Risen) =
          elim right3 [
            | inl head ↦ inl (head_alike q (address_of q.settings (stood_of there)) address (stood_of there) TheReply (subst (λ a. IsFileHead a q.method q.fields q.path other TheReply) where' head))
            | inr unplaced ↦ inr (inr (record { here = sym where' ∙ unplaced.0.here; partial = unplaced.0.partial; sent = unplaced.0.sent }), unplaced.1)
          ] in
          record {
            right = subst (λ j. IsHead q (due_sent j q.path (stood_of there)) TheReply ⊎ (IsSpoiled q (due_sent j q.path (stood_of there)) TheReply × Risen)) (sym (file_kind there.kind regular)) at;
            named = subst (λ n. IsOfNumber view n t result) (told ∙ ap Some (sym key)) named;
          }

      -- what is no regular file
      other_settled : (info : Info) (address : Option (List ℕ)) → info.kind ≡ there.kind → is_file there.kind ≡ false
          → o ≡ Ok (stood_heard number info address) → Settled DueThere
      other_settled info address kind other is =
          let right1 = subst (λ x. IsPlacedOr q (due_opened q.path x) Risen (reply_at q.fields (or_zero number) result)) is right in
          let none : is_file info.kind ≡ false = ap is_file kind ∙ other in
          let right2 = subst (λ d. IsPlacedOr q d Risen (reply_at q.fields (or_zero number) result)) (no_file_due info.kind q.path (stood_heard number info address) none) right1 in
          subst Settled (sym (no_file_due there.kind q.path (stood_of there) other)) (at right2)
        where
          at : IsPlacedOr q (refused 405 false) Risen (reply_at q.fields (or_zero number) result) → Settled (refused 405 false)
          at (inl head) = refused_settled 405 false (or_zero number) head
          at (inr (none, rose)) = absurd none

      module _ (key : k ≡ there.number) where
        -- a regular file, which may be asked for its address
        address_settled : (b : Bool) (info : Info) (g : F) (m : S) → is_set q.settings.redirect ≡ b → number ≡ Some there.number → Agrees info there → is_file there.kind ≡ true
            → seen_in view m g ≡ Some (seen_of there) → (view.state s).faults ≤ (view.state m).faults
            → HearsAddress view q b number info g m o t → Settled DueThere
        address_settled false info g m set told agrees regular seen le (is, counts) =
            let none : (x : Stood) → address_of q.settings x ≡ None = λ x. ap (λ b. cond b x.address None) set in
            alike_settled info None key told agrees regular (none (stood_heard number info None) ∙ sym (none (stood_of there))) is
        address_settled true info g m set told agrees regular seen le (Ok address, h, l, asked, is, counts) =
            let to : address ≡ there.redirect = rw seen at asked.done.told in
            alike_settled info address key told agrees regular (λ i. cond (is_set q.settings.redirect) (to i) None) is
        address_settled true info g m set told agrees regular seen le (Err e, h, l, asked, is, counts) =
            let spoiled : Spoiled {T = Option (List ℕ)} (view.state m) (Err e) (view.state l) = rw seen at asked.done.told in
            spoiled_settled {T = Option (List ℕ)} DueThere (Err e) e o m l (or_zero number) (failed_opened q.path (Ok (stood_of there))) refl spoiled is had le counts right

        kind_settled : (b : Bool) (info : Info) (f : Seen) (g : F) (m : S) → is_file there.kind ≡ b → number ≡ Some f.stands.number → IsThere there f → AgreesOpen info f.stands
            → seen_in view m g ≡ Some f → (view.state s).faults ≤ (view.state m).faults
            → HearsAddress view q (b && is_set q.settings.redirect) number info g m o t → Settled DueThere
        kind_settled true info f g m regular told is agrees seen le heard =
            let same = is.file regular in
            let all : Agrees info there = (subst (λ (x : Seen). AgreesOpen info x.stands) same agrees).file regular in
            address_settled (is_set q.settings.redirect) info g m refl (told ∙ ap Some is.number) all regular (seen ∙ ap Some same) le heard
        kind_settled false info f g m other told is agrees seen le (at, counts) = other_settled info None (agrees.kind ∙ is.kind) other at

        meta_settled : (said : Result Info FsError) (f : Seen) (file g : F) (x m : S) → number ≡ Some f.stands.number → IsThere there f → seen_in view x file ≡ Some f
            → (view.state s).faults ≤ (view.state x).faults → SaysOf view x file said m g → HearsMeta view q said number g m o t → Settled DueThere
        meta_settled (Err e) f file g x m told is seen le says (at, counts) =
            spoiled_settled {T = Info} DueThere (Err e) e o x m (or_zero number) (failed_opened q.path (Ok (stood_of there))) refl (inl says.done.refused) at had le counts right
        meta_settled (Ok info) f file g x m told is seen le says (could, heard) =
            let agrees : AgreesOpen info f.stands = rw seen at says.done.told in
            let kind : is_file info.kind ≡ is_file there.kind = ap is_file (agrees.kind ∙ is.kind) in
            let counts = says.done.keeps.counts in
            kind_settled (is_file there.kind) info f g m refl told is agrees (says.done.same ∙ seen) (omega arith)
            (subst (λ b. HearsAddress view q (b && is_set q.settings.redirect) number info g m o t) kind heard)

    -- what is opened
    pub open_settled : (opened : Result Standing FsError) (answer : Result F FsError) (number : Option ℕ) (o : Result Stood FsError) (m x : S) → k ≡ number_in opened
        → OpensThere view.file.seen opened answer (view.state x) ⊎ Spoiled (view.state m) answer (view.state x)
        → (view.state s).faults ≤ (view.state m).faults → (view.state m).faults ≤ (view.state x).faults
        → WasHad o → IsOfNumber view number t result → IsPlacedOr q (due_opened q.path o) Risen (reply_at q.fields (or_zero number) result)
        → HearsFile view q answer number x o t → Settled (due_opened q.path (found_as opened))
    open_settled (Ok there) (Ok file) number o m x key (inl (f, seen, is)) before after had named right (told, (said, g, l, says, heard)) =
        meta_settled there number o had named right key said f file g x l (told ∙ ap number_told seen) is seen (omega arith) says heard
    open_settled (Ok there) (Err e) number o m x key (inl shown) before after had named right heard = absurd shown
    open_settled (Err e) (Ok file) number o m x key (inl shown) before after had named right heard = absurd shown
    open_settled (Err e) (Err f) number o m x key (inl same) before after had named right (is, counts) =
        subst (λ y. Settled (refused (fs_status y) false)) same (refused_settled (fs_status f) false (or_zero number) (heard_refused o f (or_zero number) is right))
    open_settled opened (Ok file) number o m x key (inr (inl (is, rose))) before after had named right heard = cc
    open_settled opened (Ok file) number o m x key (inr (inr is)) before after had named right heard = cc
    open_settled opened (Err f) number o m x key (inr spoiled) before after had named right (is, counts) =
        spoiled_settled {T = F} (due_opened q.path (found_as opened)) (Err f) f o m x (or_zero number) (failed_opened q.path (found_as opened)) refl spoiled is had before counts right

-- What is right over another path is right.
pub fit_at : (q : Query) (path : WebPath) (d : Due) (rose : Type 0) (reply : Reply) → IsHead (asked_at q path) d reply ⊎ (IsSpoiled (asked_at q path) d reply × rose)
    → IsHead q d reply ⊎ (IsSpoiled q d reply × rose)
fit_at q path known rose reply is = is
fit_at q path (refused status close) rose reply is = is
fit_at q path (to_slash at) rose reply is = is
fit_at q path (page dir members) rose reply is = is
fit_at q path (sends at stood) rose reply (inl head) = inl head
fit_at q path (sends at stood) rose reply (inr (inl failed, risen)) = inr (inl failed, risen)
fit_at q path (sends at stood) rose reply (inr (inr is, risen)) = inr (inr (record { here = is.here; partial = is.partial; sent = is.sent }), risen)

module _ {S C F L E : Type 0} (view : View S C F) (lists : Listings S C L E) (q : Query) where
  module _ (s : S) (result : Given F) (t : S) (life : OpenOnlyHeld view s result t) (k : ℕ) where
    abbrev SettledOf : Due → Type 0
    SettledOf d = Settled view q s result t life k d

    -- a reply without parts
    alone_settled : (d : Due) (n : ℕ) (reply : Reply) → reply.parts ≡ [] → reply_at q.fields n result ≡ reply → (reply_at q.fields k result ≡ reply → IsHead q d (reply_at q.fields k result)) → SettledOf d
    alone_settled d n reply none is head =
        let at = renumbered q.fields n k result reply none is in
        record { right = inl (head at); named = no_file view q s result t life k result life reply none at }

    pub settled_at : (path : WebPath) (d : Due) → Settled view (asked_at q path) s result t life k d → SettledOf d
    settled_at path d settled = record { right = fit_at q path d (Rose (view.state s).faults (view.state t).faults) (reply_at q.fields k result) settled.right; named = settled.named }

    -- what is heard and shown of a path that is opened
    abbrev OpensAs : (WebPath → Result Standing FsError) → C → S → WebPath → Type 0
    OpensAs opened c m path = (answer : Result F FsError) (x : S) → view.opens m c path reading answer x
        → OpensThere view.file.seen (opened path) answer (view.state x) ⊎ Spoiled (view.state m) answer (view.state x)

    -- where nothing changed, a page has no file
    page_named : (x : Given F) → OpenOnlyHeld view s x t → Keeps (view.state s) (view.state t) → IsOfNumber view (Some k) t x
    page_named (Err e) only keeps = tt
    page_named (Ok r) only keeps = λ h some. absurd (no_file_kept view s r t h only keeps some)

    -- a page that was given, of some of these members or of all
    pub page_settled : (all members : List Member) (n from : ℕ) → is_get q.method ≡ true → ReadsThere (Ok all) from members (view.state t).faults
        → (view.state s).faults ≤ from → Keeps (view.state s) (view.state t) → IsIndexReply true q.path (AreRows q.path members) (reply_at q.fields n result) → SettledOf (page q.path all)
    page_settled all members n from get (missing, parts, why) before keeps reply =
        let given = index_renumbered q.fields n k true q.path (AreRows q.path members) result reply in
        record { right = of_missing missing parts why given; named = page_named result life keeps }
      where
        of_missing : (missing : List Member) → IsPermutation all (members ++ missing) → (missing ≡ []) ⊎ Rose from (view.state t).faults
            → IsIndexReply true q.path (AreRows q.path members) (reply_at q.fields k result)
            → IsHead q (page q.path all) (reply_at q.fields k result) ⊎ (IsSpoiled q (page q.path all) (reply_at q.fields k result) × Rose (view.state s).faults (view.state t).faults)
        of_missing missing parts (inl none) given =
            let same : IsPermutation all members = subst (IsPermutation all) (ap (λ xs. members ++ xs) none ∙ append-nil members) parts in
            inl (subst (λ b. IsIndexReply b q.path (AreRows q.path all) (reply_at q.fields k result)) (sym get)
            (index_rows q.fields k true q.path (AreRows q.path members) (AreRows q.path all) result (λ rows are. rows_alike q.path all members rows same are) given))
        of_missing missing parts (inr rose) given =
            inr (
              inr (subst (λ b. IsIndexReply b q.path (AreRowsOfSome q.path all) (reply_at q.fields k result)) (sym get)
                  (index_rows q.fields k true q.path (AreRows q.path members) (AreRowsOfSome q.path all) result (λ rows are. record { some = members; missing = missing; parts = parts; shown = are }) given)),
              rose_through _ _ _ _ before rose (omega arith),
            )

    -- the answer of a page without its body, where a listing was begun
    pub bare_settled : (found : Result (List Member) FsError) (lister : L) (members : List Member) (n : ℕ) (m after : S) → is_get q.method ≡ false
        → BeginsThere found (Ok lister) ⊎ Spoiled (view.state m) (Ok lister) (view.state after) → Keeps (view.state s) (view.state t)
        → IsIndexReply false q.path (AreRows q.path members) (reply_at q.fields n result) → SettledOf (due_listed q.path found)
    bare_settled found lister members n m after get begins keeps reply = of_found found begins (index_renumbered q.fields n k false q.path (AreRows q.path members) result reply)
      where
        of_found : (found : Result (List Member) FsError) → BeginsThere found (Ok lister) ⊎ Spoiled (view.state m) (Ok lister) (view.state after)
            → IsIndexReply false q.path (AreRows q.path members) (reply_at q.fields k result) → SettledOf (due_listed q.path found)
        of_found (Ok all) (inl there) given = record {
          right = inl (subst (λ b. IsIndexReply b q.path (AreRows q.path all) (reply_at q.fields k result)) (sym get) (record { status = given.status; fields = given.fields; parts = given.parts }));
          named = page_named result life keeps;
        }
        of_found (Err e) (inl there) given = absurd there
        of_found found (inr (inl (is, rose))) given = cc
        of_found found (inr (inr is)) given = cc

    -- a listing that was refused
    pub unlisted_settled : (found : Result (List Member) FsError) (e : FsError) (n : ℕ) (m : S) → BeginsThere {L = L} found (Err e) ⊎ Spoiled {T = L} (view.state m) (Err e) (view.state t)
        → (view.state s).faults ≤ (view.state m).faults → WasHad {A = List Member} (Err e) → reply_at q.fields n result ≡ refusal q.fields (fs_status e) false → SettledOf (due_listed q.path found)
    unlisted_settled (Ok all) e n m (inl never) before had head = absurd never
    unlisted_settled (Err f) e n m (inl same) before had head = subst (λ x. SettledOf (refused (fs_status x) false)) same (refused_settled view q s result t life k (fs_status e) false n head)
    unlisted_settled found e n m (inr (inl (is, rose))) before had head =
        fault_settled view q s result t life k (due_listed q.path found) e n (failed_listed view q q.path found) (let f : e ≡ fs.GeneralFailure = cc in f) head
        (rose_through _ _ _ _ before rose (omega arith))
    unlisted_settled found e n m (inr (inr is)) before had head = absurd (had (ap Err (let f : e ≡ fs.NoMemory = cc in f)))

    -- a page that was given, for members that the store shows
    read_settled : (gives : Bool) (c : C) (found : Result (List Member) FsError) (members : List Member) (n : ℕ) (m : S) → is_get q.method ≡ gives
        → ShowsMembers view lists m c q.path found → (view.state s).faults ≤ (view.state m).faults → Keeps (view.state s) (view.state t)
        → ReadsMembers view lists gives c q.path m members t → IsIndexReply gives q.path (AreRows q.path members) (reply_at q.fields n result) → SettledOf (due_listed q.path found)
    read_settled true c (Err e) members n m get shows before keeps (listed, by) reply = absurd (by (Err e) shows)
    read_settled true c (Ok all) members n m get shows before keeps (listed, by) reply = page_settled all members n (view.state m).faults get (by (Ok all) shows) before keeps reply
    read_settled false c found members n m get shows before keeps (none, (lister, after, begins, ends)) reply =
        bare_settled found lister members n m after get (shows.begins m after (Ok lister) here begins) keeps reply

    -- a listing
    listing_settled : (c : C) (found l : Result (List Member) FsError) (n : ℕ) (m : S) → ShowsMembers view lists m c q.path found
        → (view.state s).faults ≤ (view.state m).faults → Keeps (view.state s) (view.state t) → WasHad l
        → IsPlacedOr q (due_listed q.path l) (Rose (view.state s).faults (view.state t).faults) (reply_at q.fields n result)
        → IsListing view lists (is_get q.method) c q.path m l t → SettledOf (due_listed q.path found)
    listing_settled c found (Ok members) n m shows before keeps had (inr (none, rose)) hears = absurd none
    listing_settled c found (Ok members) n m shows before keeps had (inl reply) (read, plain) =
        read_settled (is_get q.method) c found members n m refl shows before keeps read reply
    listing_settled c found (Err e) n m shows before keeps had (inr (none, rose)) hears = absurd none
    listing_settled c found (Err e) n m shows before keeps had (inl head) hears = unlisted_settled found e n m (shows.begins m t (Err e) here hears) before had head

    course_settled : (co : Course) (r : Result Info FsError) (c : C) (looked opened : WebPath → Result Standing FsError) (listed : WebPath → Result (List Member) FsError) (number : Option ℕ)
        (o : Result Stood FsError) (l : Result (List Member) FsError) (m : S)
        → ((path : WebPath) → co ≡ opening path → k ≡ number_in (opened path)) → ((path : WebPath) → co ≡ opening path → OpensAs opened c m path)
        → (co ≡ listing → ShowsMembers view lists m c q.path (listed q.path)) → Keeps (view.state s) (view.state m)
        → WasHad o → WasHad l → IsOfNumber view number t result
        → IsPlacedOr q (due_course (shown_heard r o l) q.path co) (Rose (view.state s).faults (view.state t).faults) (reply_at q.fields (or_zero number) result)
        → HearsCourse view lists q co c number m o l t → SettledOf (due_course (shown_as looked opened listed) q.path co)
    course_settled (refusing status close) r c looked opened listed number o l m key shows members before had l_had named (inl head) hears =
        alone_settled (refused status close) (or_zero number) (refusal q.fields status close) refl head (λ at. at)
    course_settled (refusing status close) r c looked opened listed number o l m key shows members before had l_had named (inr (none, rose)) hears = absurd none
    course_settled directing r c looked opened listed number o l m key shows members before had l_had named (inl head) hears =
        alone_settled (to_slash q.path) (or_zero number) (directed q.path) refl head (λ at. at)
    course_settled directing r c looked opened listed number o l m key shows members before had l_had named (inr (none, rose)) hears = absurd none
    course_settled listing r c looked opened listed number o l m key shows members before had l_had named right (hears, kept) =
        listing_settled c (listed q.path) l (or_zero number) m (members refl) before.counts (keeps_then (view.state s) (view.state m) (view.state t) before kept) l_had right hears
    course_settled (opening path) r c looked opened listed number o l m key shows members before had l_had named right (answer, x, opens, one, hears) =
        settled_at path (due_opened path (found_as (opened path)))
        (open_settled view (asked_at q path) s result t life k (opened path) answer number o m x (key path refl) (shows path refl answer x opens) before.counts (opened_counts answer one) had named
        (placed_at (asked_at q path) q.path (due_opened path o) (Rose (view.state s).faults (view.state t).faults) (reply_at q.fields (or_zero number) result) right) hears)
      where
        opened_counts : (answer : Result F FsError) → OpensOne view.file reading (view.state m) answer (view.state x)
            → (view.state m).faults ≤ (view.state x).faults
        opened_counts (Ok f) one = one.others.counts
        opened_counts (Err e) one = one.others.counts

    -- P of each path that is opened for what stands where it is looked
    abbrev ForOpened : Result Standing FsError → (WebPath → Type 0) → Type 0
    ForOpened found P = (there : Standing) (path : WebPath) → found ≡ Ok there → course q there.kind ≡ opening path → P path

    -- P, where the directory that stands there is listed
    abbrev ForListed : Result Standing FsError → Type 0 → Type 0
    ForListed found P = (there : Standing) → found ≡ Ok there → course q there.kind ≡ listing → P

    look_settled : (found : Result Standing FsError) (looked opened : WebPath → Result Standing FsError) (listed : WebPath → Result (List Member) FsError) (r : Result Info FsError) (c : C)
        (number : Option ℕ) (o : Result Stood FsError) (l : Result (List Member) FsError) (m : S)
        → ForOpened found (λ path. k ≡ number_in (opened path)) → LooksThere found r ⊎ Spoiled (view.state s) r (view.state m) → ForOpened found (OpensAs opened c m)
        → ForListed found (ShowsMembers view lists m c q.path (listed q.path)) → Keeps (view.state s) (view.state m)
        → WasHad r → WasHad o → WasHad l → IsOfNumber view number t result
        → IsPlacedOr q (due_looked (shown_heard r o l) q (looked_of r)) (Rose (view.state s).faults (view.state t).faults) (reply_at q.fields (or_zero number) result)
        → HearsLook view lists q r c number m o l t → SettledOf (due_looked (shown_as looked opened listed) q (found_as found))
    look_settled (Ok there) looked opened listed (Ok info) c number o l m key (inl agrees) shows members before looked_had had l_had named right hears =
        let same = ap (course q) agrees.kind in
        subst (λ j. SettledOf (due_kind (shown_as looked opened listed) q j)) agrees.kind
        (course_settled (course q info.kind) (Ok info) c looked opened listed number o l m (λ path e. key there path refl (sym same ∙ e)) (λ path e. shows there path refl (sym same ∙ e))
        (λ e. members there refl (sym same ∙ e)) before had l_had named right hears)
    look_settled (Ok there) looked opened listed (Err e) c number o l m key (inl shown) shows members before looked_had had l_had named right hears = absurd shown
    look_settled (Err e) looked opened listed (Ok info) c number o l m key (inl shown) shows members before looked_had had l_had named right hears = absurd shown
    look_settled (Err e) looked opened listed (Err f) c number o l m key (inl same) shows members before looked_had had l_had named (inl head) hears =
        subst (λ y. SettledOf (refused (fs_status y) false)) same
        (alone_settled (refused (fs_status f) false) (or_zero number) (refusal q.fields (fs_status f) false) refl head (λ at. at))
    look_settled (Err e) looked opened listed (Err f) c number o l m key (inl same) shows members before looked_had had l_had named (inr (none, rose)) hears = absurd none
    look_settled found looked opened listed (Ok info) c number o l m key (inr (inl (is, rose))) shows members before looked_had had l_had named right hears = cc
    look_settled found looked opened listed (Ok info) c number o l m key (inr (inr is)) shows members before looked_had had l_had named right hears = cc
    look_settled found looked opened listed (Err f) c number o l m key (inr (inl (is, rose))) shows members before looked_had had l_had named (inl head) counts =
        let counts' = before.counts in
        fault_settled view q s result t life k (due_looked (shown_as looked opened listed) q (found_as found)) f (or_zero number) (failed_looked view q (found_as found) (shown_as looked opened listed))
        (let g : f ≡ fs.GeneralFailure = cc in g) head (rose_through _ _ _ _ (omega arith) rose counts)
    look_settled found looked opened listed (Err f) c number o l m key (inr (inl (is, rose))) shows members before looked_had had l_had named (inr (none, risen)) counts = absurd none
    look_settled found looked opened listed (Err f) c number o l m key (inr (inr none)) shows members before looked_had had l_had named right counts = absurd (looked_had none)

    heard_settled : (b : Bool) (looked opened : WebPath → Result Standing FsError) (listed : WebPath → Result (List Member) FsError) (c : C)
        → ForOpened (looked q.path) (λ path. k ≡ number_in (opened path)) → is_well_known q.settings q.method q.path ≡ b
        → ShowsFor view lists s c q looked opened listed → Heard view lists q c s result t → SettledOf (cond b known (due_looked (shown_as looked opened listed) q (found_as (looked q.path))))
    heard_settled false looked opened listed c key plain shows h =
        let (m, look, keeps, hears) = h.hears plain in
        let right = subst (λ b. IsPlacedOr q (cond b known (due_looked (shown_heard h.looked h.opened h.listed) q (looked_of h.looked))) (Rose (view.state s).faults (view.state t).faults) (reply_at q.fields (or_zero h.number) result)) plain h.right in
        look_settled (looked q.path) looked opened listed h.looked c h.number h.opened h.listed m key (shows.path.looks_there s m h.looked here look)
        (λ there path is takes answer x opens. (shows.at there path is takes).opens_there m x answer (looks s m q.path h.looked here look) opens)
        (λ there is takes. shows_later view lists s m c q.path (listed q.path) (looks s m q.path h.looked here look) (shows.members there is takes))
        keeps h.looked_had h.opened_had h.listed_had h.file right hears
    heard_settled true looked opened listed c key known_page shows h =
        at (subst (λ b. IsPlacedOr q (cond b known (due_looked (shown_heard h.looked h.opened h.listed) q (looked_of h.looked))) (Rose (view.state s).faults (view.state t).faults) (reply_at q.fields (or_zero h.number) result)) known_page h.right)
      where
        at : IsPlacedOr q known (Rose (view.state s).faults (view.state t).faults) (reply_at q.fields (or_zero h.number) result) → SettledOf known
        at (inr (none, rose)) = absurd none
        at (inl head) = alone_settled known (or_zero h.number) well_known refl head (λ is. is)

  -- What is heard is right for what the store shows.
  pub heard_right : (looked opened : WebPath → Result Standing FsError) (listed : WebPath → Result (List Member) FsError) (c : C) (s : S) (result : Given F) (t : S)
      → ShowsFor view lists s c q looked opened listed → OpenOnlyHeld view s result t → Heard view lists q c s result t → IsRightFor view q looked opened listed s result t
  heard_right looked opened listed c s result t shows life h =
      let settled = heard_settled s result t life (number_for looked opened q) (is_well_known q.settings q.method q.path) looked opened listed c
      (λ there path is takes. ap (number_looked opened q) is ∙ ap (number_by opened) takes) refl shows h in
      record { right = settled.right; file = settled.named }
