-- What follows of each right reply: its length is announced as it is, no part is empty, its status is one of a list, and
-- 500 is a fault's.
use Rattle.std.proofs.Common.{◌≡◌, ◌⊎◌, inl, inr, ◌&&◌, ℕ, Bool, true, false, cond, if◌then◌else◌, List, [], ◌∷◌, codes, Option, None, Some, Result, Ok, Err, refl, sym, ap, subst, ◌∙◌, true≢false}
use Rattle.std.specs.List.{AllByRecursion}
use Rattle.dav_core.specs.declared.error.FsError.{FsError}
use Rattle.dav_core.specs.declared.member.Member.{Member}
use Rattle.dav_core.specs.declared.method.DavMethod.{DavMethod}
use Rattle.dav_core.specs.declared.time.FileTime.{FileTime}
use Rattle.dav_core.specs.declared.etag.ETag.{ETag}
use Rattle.dav_core.specs.declared.etag_list.EtagList.{EtagList}
use Rattle.dav_core.specs.declared.tree.Kind.{Kind}
use Rattle.dav_core.specs.declared.tree.Kind.TheVariants.{Dir, File, Link}
use Rattle.dav_core.specs.DavPath.{WebPath}
use Rattle.dav_core.specs.Statuses.{fs_status}
use Rattle.dav_core.specs.Tags.{equal_weakly}
use Rattle.dav_page.specs.Listed.{AreRows, HasPlainName}
use Rattle.dav_model.specs.declared.ranges.Slice.{Slice}
use Rattle.dav_model.specs.declared.ranges.Ranges.{Ranges}
use Rattle.dav_model.specs.declared.ranges.Ranges.TheVariants.{Whole, Unsatisfiable, Parts}
use Rattle.dav_model.specs.declared.sent.Sent.TheVariants.{Unsatisfied}
use Rattle.dav_model.specs.declared.target.Target.TheVariants.{At}
use Rattle.dav_core.specs.declared.method.DavMethodSet.{DavMethodSet}
use Rattle.dav_model.specs.Allowing.{allowing}
use Rattle.dav_model.specs.Announced.{HasSoundBody, IsFramed, length_is_own, value_of}
use Rattle.dav_model.specs.Conditions.{Fields, condition, date_in, first_bytes, is_refused, is_unmodified, list_in, matches, ranges_are_heard, reads, repeated, strong}
use Rattle.dav_model.specs.Head.{Reply, Stood, IsFileHead, address_of, directed, is_get, is_uncached, is_well_known, redirected, refusal, refused_with, sent_by, sent_of, sent_parts_of, sent_ranges, sent_status, well_known}
use Rattle.dav_model.specs.Slices.{ranges}
use Rattle.dav_core.specs.Tree.{is_dir}
use Rattle.dav_model.proofs.Courses.{course_holds}
use Rattle.dav_model.proofs.WriteReplies.{write_framed, write_sound}
use Rattle.dav_model.proofs.Framing.{directed_framed, framed_empty, framed_redirect, framed_well_known, index_framed, refused_framed, sent_framed}
use Rattle.dav_model.proofs.Nonempty.{index_sound, sent_has, sent_sound, sound_empty}
use Rattle.dav_model.specs.Indexes.{AreRowsOfSome}
use Rattle.dav_model.specs.Due.{Query, Due, known, page, refused, to_slash, file, due, due_listed, due_looked, due_opened, due_course, due_kind, due_sent, course, dir_course, index_course, index_path, opening, IsHead, IsRight, IsSpoiled, IsUnplaced}
use Rattle.dav_core.specs.declared.method.DavMethod.TheVariants.{Get, Head}
use Rattle.dav_io.specs.Counts.{Rose}
use Rattle.dav_model.specs.declared.settings.Settings.{Settings}
use Rattle.dav_model.specs.declared.target.Target.{Target}
use Rattle.dav_model.specs.declared.target.Target.TheVariants.{Methods, Refused, Writes}
use Rattle.dav_model.specs.Announced.{bare}
use Rattle.dav_model.specs.Due.{query}
use Rattle.dav_model.specs.Play.{Replies}
use Rattle.dav_model.specs.Rules.{Rules, Knowledge}
use Rattle.dav_model.specs.Trail.{Point}
use Rattle.dav_model.proofs.Announcing.{head_of_get, shared_status}
use Rattle.dav_core.specs.Errors.{CouldRefuse}
use Rattle.dav_model.specs.Shown.{Shown, Could, CouldShow, CouldStand}
use Rattle.dav_model.specs.WellFormed.{is_among, right_statuses}

-- ---- content-length is that of the body

head_framed : (q : Query) (d : Due) (reply : Reply) → IsHead q d reply → IsFramed (At q.method q.path) reply
head_framed q known reply is = subst (IsFramed (At q.method q.path)) (sym is) (framed_well_known (length_is_own (At q.method q.path) 200))
head_framed q (refused status close) reply is = refused_framed (At q.method q.path) reply q.fields status close is
head_framed q (to_slash path) reply is = subst (IsFramed (At q.method q.path)) (sym is) (directed_framed (At q.method q.path) path)
head_framed q (file path stood) reply is = by_address (address_of q.settings stood) is
  where
    by_address : (address : Option (List ℕ)) → IsFileHead address q.method q.fields path stood reply → IsFramed (At q.method q.path) reply
    by_address (Some address) (date, dated, is) = subst (IsFramed (At q.method q.path)) (sym is) (framed_redirect (length_is_own (At q.method q.path) 302) address stood.tag date)
    by_address None is = sent_framed q.method path stood (sent_of q.method q.fields stood) reply is
head_framed q (page dir members) reply is = index_framed q.method q.path dir (AreRows dir members) reply is

spoiled_framed : (q : Query) (d : Due) (reply : Reply) → IsSpoiled q d reply → IsFramed (At q.method q.path) reply
spoiled_framed q known reply is = absurd is
spoiled_framed q (refused status close) reply is = refused_framed (At q.method q.path) reply q.fields 500 false is
spoiled_framed q (to_slash path) reply is = refused_framed (At q.method q.path) reply q.fields 500 false is
spoiled_framed q (file path stood) reply (inl is) = refused_framed (At q.method q.path) reply q.fields 500 false is
spoiled_framed q (file path stood) reply (inr is) = sent_framed q.method path stood Unsatisfied reply is.sent
spoiled_framed q (page dir members) reply (inl is) = refused_framed (At q.method q.path) reply q.fields 500 false is
spoiled_framed q (page dir members) reply (inr is) = index_framed q.method q.path dir (AreRowsOfSome dir members) reply is

pub right_framed : (q : Query) (shown : Shown) (rose : Type 0) (reply : Reply) → IsRight q shown rose reply → IsFramed (At q.method q.path) reply
right_framed q shown rose reply (inl is) = head_framed q (due shown q) reply is
right_framed q shown rose reply (inr (is, r)) = spoiled_framed q (due shown q) reply is

-- ---- no part is empty

pub refusal_sound : (fields : Fields) (status : ℕ) (close : Bool) (reply : Reply) → reply ≡ refusal fields status close → HasSoundBody reply
refusal_sound fields status close reply is = sound_empty reply (ap (λ (r : Reply). r.parts) is)

head_sound : (q : Query) (d : Due) (reply : Reply) → IsHead q d reply → HasSoundBody reply
head_sound q known reply is = sound_empty reply (ap (λ (r : Reply). r.parts) is)
head_sound q (refused status close) reply is = refusal_sound q.fields status close reply is
head_sound q (to_slash path) reply is = sound_empty reply (ap (λ (r : Reply). r.parts) is)
head_sound q (file path stood) reply is = by_address (address_of q.settings stood) is
  where
    by_address : (address : Option (List ℕ)) → IsFileHead address q.method q.fields path stood reply → HasSoundBody reply
    by_address (Some address) (date, dated, is) = sound_empty reply (ap (λ (r : Reply). r.parts) is)
    by_address None is = sent_sound q.method path stood (sent_of q.method q.fields stood) reply (sent_has q.method q.fields stood) is
head_sound q (page dir members) reply is = index_sound (is_get q.method) dir (AreRows dir members) reply is

spoiled_sound : (q : Query) (d : Due) (reply : Reply) → IsSpoiled q d reply → HasSoundBody reply
spoiled_sound q known reply is = absurd is
spoiled_sound q (refused status close) reply is = refusal_sound q.fields 500 false reply is
spoiled_sound q (to_slash path) reply is = refusal_sound q.fields 500 false reply is
spoiled_sound q (file path stood) reply (inl is) = refusal_sound q.fields 500 false reply is
spoiled_sound q (file path stood) reply (inr is) = sent_sound q.method path stood Unsatisfied reply tt is.sent
spoiled_sound q (page dir members) reply (inl is) = refusal_sound q.fields 500 false reply is
spoiled_sound q (page dir members) reply (inr is) = index_sound (is_get q.method) dir (AreRowsOfSome dir members) reply is

pub right_sound : (q : Query) (shown : Shown) (rose : Type 0) (reply : Reply) → IsRight q shown rose reply → HasSoundBody reply
right_sound q shown rose reply (inl is) = head_sound q (due shown q) reply is
right_sound q shown rose reply (inr (is, r)) = spoiled_sound q (due shown q) reply is

-- A refusal announces that it has no body.
refusal_length : (uncached close : Bool) (status : ℕ) → value_of (codes "content-length") (refused_with uncached status close).fields ≡ Some (codes "0")
refusal_length true true status = refl
refusal_length true false status = refl
refusal_length false true status = refl
refusal_length false false status = refl

pub refusal_announces : (fields : Fields) (status : ℕ) (close : Bool) → value_of (codes "content-length") (refusal fields status close).fields ≡ Some (codes "0")
refusal_announces fields status close = refusal_length (is_uncached fields status) close status

-- ---- the statuses: 500 comes only where a fault was met

-- a status of right replies, where nothing failed
abbrev IsListed : ℕ → Type 0
IsListed status = is_among status right_statuses ≡ true

-- It holds of the status, where there is one.
abbrev pub Where : (ℕ → Type 0) → Option ℕ → Type 0
Where Has None = Unit {0}
Where Has (Some status) = Has status

-- A precondition's status is 304 or 412.
module _ (Has : ℕ → Type 0) (repeats : Has 304) (fails : Has 412) where
  either : (b : Bool) (x y : Option ℕ) → Where Has x → Where Has y → Where Has (if b then x else y)
  either true x y p q = p
  either false x y p q = q

  read_status : (b : Bool) → Where Has (Some (if b then 304 else 412))
  read_status true = repeats
  read_status false = fails

  repeats_where : (method : DavMethod) (list : Option EtagList) (date : Option ℕ) (stands : Bool) (tag : Option ETag) (time : Option FileTime)
      → Where Has (repeated method list date stands tag time)
  repeats_where method (Some list) date stands tag time =
      either (matches equal_weakly stands tag list) (Some (if reads method then 304 else 412)) None (read_status (reads method)) tt
  repeats_where method None (Some date) stands tag time = either (reads method && is_unmodified time date) (Some 304) None repeats tt
  repeats_where method None None stands tag time = tt

  pub condition_where : (method : DavMethod) (fields : Fields) (tag : Option ETag) (time : Option FileTime)
      → Where Has (condition method fields true tag time)
  condition_where method fields tag time = either (is_refused (list_in fields (codes "if-match")) (date_in fields (codes "if-unmodified-since")) true tag time) (Some 412)
      (repeated method (list_in fields (codes "if-none-match")) (date_in fields (codes "if-modified-since")) true tag time) fails
      (repeats_where method (list_in fields (codes "if-none-match")) (date_in fields (codes "if-modified-since")) true tag time)

parts_listed : (parts : List Slice) → IsListed (sent_status (sent_parts_of parts))
parts_listed [] = refl
parts_listed (a ∷ []) = refl
parts_listed (a ∷ b ∷ parts) = refl

ranges_listed : (r : Ranges) → IsListed (sent_status (sent_ranges r))
ranges_listed Whole = refl
ranges_listed Unsatisfiable = refl
ranges_listed (Parts parts) = parts_listed parts

sent_listed : (status : Option ℕ) (on : Bool) (range : Option (List ℕ)) (len : ℕ) → Where IsListed status → IsListed (sent_status (sent_by status on range len))
sent_listed (Some status) on range len is = is
sent_listed None false range len is = refl
sent_listed None true range len is = ranges_listed (ranges range len)

abbrev IsListedDue : Due → Type 0
IsListedDue known = Unit {0}
IsListedDue (refused status close) = IsListed status
IsListedDue (to_slash path) = Unit {0}
IsListedDue (file path stood) = Unit {0}
IsListedDue (page dir members) = Unit {0}

refused_listed : (e : FsError) → CouldRefuse e → IsListed (fs_status e)
refused_listed e (inl is) = subst (λ x. IsListed (fs_status x)) (sym is) refl
refused_listed e (inr is) = subst (λ x. IsListed (fs_status x)) (sym is) refl

opened_listed : (path : WebPath) (found : Result Stood FsError) → Could CouldStand found → IsListedDue (due_opened path found)
opened_listed path (Err e) could = refused_listed e could
opened_listed path (Ok stood) could = by_kind stood.kind
  where
    by_kind : (kind : Kind) → IsListedDue (due_sent kind path stood)
    by_kind Dir = refl
    by_kind File = tt
    by_kind Link = refl

members_listed : (path : WebPath) (found : Result (List Member) FsError) → Could (AllByRecursion HasPlainName) found → IsListedDue (due_listed path found)
members_listed path (Err e) could = refused_listed e could
members_listed path (Ok members) could = tt

if_listed : (b : Bool) (c d : Due) → IsListedDue c → IsListedDue d → IsListedDue (cond b c d)
if_listed true c d p q = p
if_listed false c d p q = q

kind_listed : (shown : Shown) (q : Query) (kind : Kind) → CouldShow shown → IsListedDue (due_kind shown q kind)
kind_listed shown q kind could =
    course_holds q (λ c. IsListedDue (due_course shown q.path c)) (record {
      directs = tt;
      lists = members_listed q.path (shown.listed q.path) (could.listed q.path);
      unlisted = refl;
      unnamed = refl;
      opens = record { path = at q.path; index = λ slash name set. at (index_path q.path name) };
    }) kind
  where
    at : (path : WebPath) → IsListedDue (due_opened path (shown.opened path))
    at path = opened_listed path (shown.opened path) (could.opened path)

looked_listed : (shown : Shown) (q : Query) (found : Result Stood FsError) → Could CouldStand found → CouldShow shown → IsListedDue (due_looked shown q found)
looked_listed shown q (Err e) here could = refused_listed e here
looked_listed shown q (Ok stood) here could = kind_listed shown q stood.kind could

due_is_listed : (shown : Shown) (q : Query) → CouldShow shown → IsListedDue (due shown q)
due_is_listed shown q could = if_listed (is_well_known q.settings q.method q.path) known _ tt (looked_listed shown q _ (could.looked q.path) could)

-- the status of a reply that is this one
status_of : (reply other : Reply) → reply ≡ other → IsListed other.status → IsListed reply.status
status_of reply other is listed = subst (λ (r : Reply). IsListed r.status) (sym is) listed

head_listed : (q : Query) (d : Due) (reply : Reply) → IsListedDue d → IsHead q d reply → IsListed reply.status
head_listed q known reply listed is = status_of reply well_known is refl
head_listed q (refused status close) reply listed is = status_of reply (refusal q.fields status close) is listed
head_listed q (to_slash path) reply listed is = status_of reply (directed path) is refl
head_listed q (file path stood) reply listed is = by_address (address_of q.settings stood) is
  where
    by_address : (address : Option (List ℕ)) → IsFileHead address q.method q.fields path stood reply → IsListed reply.status
    by_address (Some address) (date, dated, is) = status_of reply (redirected address stood.tag date) is refl
    by_address None (date, dated, is) = status_of reply _ is
        (sent_listed (condition q.method q.fields true (strong stood.tag) stood.modified) (ranges_are_heard q.fields (strong stood.tag) stood.modified)
        (first_bytes q.fields (codes "range")) stood.len (condition_where IsListed refl refl q.method q.fields (strong stood.tag) stood.modified))
head_listed q (page dir members) reply listed is = subst IsListed (sym is.status) refl

spoiled_listed : (q : Query) (d : Due) (reply : Reply) → IsSpoiled q d reply → IsListed reply.status ⊎ (reply.status ≡ 500)
spoiled_listed q known reply is = absurd is
spoiled_listed q (refused status close) reply is = inr (ap (λ (r : Reply). r.status) is)
spoiled_listed q (to_slash path) reply is = inr (ap (λ (r : Reply). r.status) is)
spoiled_listed q (file path stood) reply (inl is) = inr (ap (λ (r : Reply). r.status) is)
spoiled_listed q (file path stood) reply (inr unplaced) = let (date, dated, is) = unplaced.sent in inl (status_of reply _ is refl)
spoiled_listed q (page dir members) reply (inl is) = inr (ap (λ (r : Reply). r.status) is)
spoiled_listed q (page dir members) reply (inr is) = inl (subst IsListed (sym is.status) refl)

with_rise : (rose : Type 0) (status : ℕ) → rose → IsListed status ⊎ (status ≡ 500) → IsListed status ⊎ ((status ≡ 500) × rose)
with_rise rose status r (inl listed) = inl listed
with_rise rose status r (inr failed) = inr (failed, r)

-- The status is one of the list, or 500, and then a fault was met.
pub right_listed : (q : Query) (shown : Shown) (rose : Type 0) (reply : Reply) → CouldShow shown → IsRight q shown rose reply
    → (is_among reply.status right_statuses ≡ true) ⊎ ((reply.status ≡ 500) × rose)
right_listed q shown rose reply could (inl is) = inl (head_listed q (due shown q) reply (due_is_listed shown q could) is)
right_listed q shown rose reply could (inr (is, r)) = with_rise rose reply.status r (spoiled_listed q (due shown q) reply is)

pub failed_by_fault : (q : Query) (shown : Shown) (rose : Type 0) (reply : Reply) → CouldShow shown → IsRight q shown rose reply → reply.status ≡ 500 → rose
failed_by_fault q shown rose reply could right e = by_list (right_listed q shown rose reply could right)
  where
    by_list : (is_among reply.status right_statuses ≡ true) ⊎ ((reply.status ≡ 500) × rose) → rose
    by_list (inl listed) = absurd (true≢false (sym listed ∙ ap (λ n. is_among n right_statuses) e))
    by_list (inr (is, r)) = r

-- A right reply is 500 only where a refusal with 500 is due.
never_500 : {X : Type 0} (reply : Reply) → IsListed reply.status → reply.status ≡ 500 → X
never_500 reply listed e = absurd (true≢false (sym listed ∙ ap (λ n. is_among n right_statuses) e))

pub head_fails : (q : Query) (d : Due) (reply : Reply) → IsHead q d reply → reply.status ≡ 500 → (close : Bool) × (d ≡ refused 500 close)
head_fails q known reply is e = never_500 reply (head_listed q known reply tt is) e
head_fails q (refused status close) reply is e = (close, ap (λ n. refused n close) (sym (ap (λ (r : Reply). r.status) is) ∙ e))
head_fails q (to_slash path) reply is e = never_500 reply (head_listed q (to_slash path) reply tt is) e
head_fails q (file path stood) reply is e = never_500 reply (head_listed q (file path stood) reply tt is) e
head_fails q (page dir members) reply is e = never_500 reply (head_listed q (page dir members) reply tt is) e

-- One where no range could be met isn't.
pub unplaced_stands : {X : Type 0} (q : Query) (path : WebPath) (stood : Stood) (reply : Reply) → IsUnplaced q path stood reply → reply.status ≡ 500 → X
unplaced_stands q path stood reply unplaced e = let (date, dated, is) = unplaced.sent in never_500 reply (status_of reply _ is refl) e

-- what the gates refuse, or the right reply to what they let through, announces the length of its body
-- the answer to OPTIONS
allowing_framed : (allow : Option DavMethodSet) (reply : Reply) → reply ≡ allowing allow false → IsFramed Methods reply
allowing_framed allow reply is = subst (IsFramed Methods) (sym is) (framed_empty true (allowing allow false) refl refl)

pub replies_framed : (target : Target) (rules : Rules) (k : Knowledge) (s t : Point) (fields : Fields) (reply : Reply) → Replies target rules k s t fields reply → IsFramed target reply
replies_framed (Refused status close) rules k s t fields reply is = refused_framed (Refused status close) reply fields status close is
replies_framed Methods rules k s t fields reply is = allowing_framed rules.settings.allow reply is
replies_framed (Writes method path) rules k s t fields reply is = write_framed method path rules.settings.prefix fields (Rose s.faults t.faults) reply is
replies_framed (At method path) rules k s t fields reply reads =
    right_framed (query rules.settings fields method path) reads.shown (Rose s.faults t.faults) reply reads.right

pub replies_sound : (target : Target) (rules : Rules) (k : Knowledge) (s t : Point) (fields : Fields) (reply : Reply) → Replies target rules k s t fields reply → HasSoundBody reply
replies_sound (Refused status close) rules k s t fields reply is = refusal_sound fields status close reply is
replies_sound Methods rules k s t fields reply is = subst HasSoundBody (sym is) (record { full = tt; bodiless = λ e. refl })
replies_sound (Writes method path) rules k s t fields reply is = write_sound method rules.settings.prefix fields (Rose s.faults t.faults) reply is
replies_sound (At method path) rules k s t fields reply reads =
    right_sound (query rules.settings fields method path) reads.shown (Rose s.faults t.faults) reply reads.right

-- A HEAD is answered as the GET, without a body: at every status but 412 and 416, which announce the whole file to a HEAD.
head_of_file : (address : Option (List ℕ)) (fields : Fields) (path : WebPath) (stood : Stood) (reply : Reply) → IsFileHead address Get fields path stood reply
    → (reply.status ≡ 412 → ⊥) → (reply.status ≡ 416 → ⊥) → IsFileHead address Head fields path stood (bare reply)
head_of_file (Some address) fields path stood reply (date, dated, is) no_412 no_416 = (date, dated, ap bare is)
head_of_file None fields path stood reply is no_412 no_416 = head_of_get fields path stood reply is (shared_status fields path stood reply is no_412 no_416)

-- The course is the same for both methods.
course_by_method : (settings : Settings) (fields : Fields) (path : WebPath) (kind : Kind) → course (query settings fields Get path) kind ≡ course (query settings fields Head path) kind
course_by_method settings fields path kind = by_dir (is_dir kind)
  where
    gets : Query
    gets = query settings fields Get path

    heads : Query
    heads = query settings fields Head path

    by_index : (index : Option (List ℕ)) → index_course gets index ≡ index_course heads index
    by_index None = refl
    by_index (Some name) = refl

    by_slash : (slash : Bool) → dir_course gets slash ≡ dir_course heads slash
    by_slash false = refl
    by_slash true = by_index settings.indexfile

    by_dir : (dir : Bool) → cond dir (dir_course gets path.slash) (opening path) ≡ cond dir (dir_course heads path.slash) (opening path)
    by_dir false = refl
    by_dir true = by_slash path.slash

looked_by_method : (shown : Shown) (settings : Settings) (fields : Fields) (path : WebPath) (found : Result Stood FsError)
    → due_looked shown (query settings fields Get path) found ≡ due_looked shown (query settings fields Head path) found
looked_by_method shown settings fields path (Err e) = refl
looked_by_method shown settings fields path (Ok stood) = ap (due_course shown path) (course_by_method settings fields path stood.kind)

-- What is due to a HEAD is due to the GET, save the one page that is there for GET alone.
due_by_method : (shown : Shown) (settings : Settings) (fields : Fields) (path : WebPath) → is_well_known settings Get path ≡ false
    → due shown (query settings fields Get path) ≡ due shown (query settings fields Head path)
due_by_method shown settings fields path other =
    ap (λ b. cond b known (due_looked shown (query settings fields Get path) (shown.looked path))) other ∙ looked_by_method shown settings fields path (shown.looked path)

head_of_due : (d : Due) (settings : Settings) (fields : Fields) (path : WebPath) (reply : Reply) → IsHead (query settings fields Get path) d reply
    → (reply.status ≡ 412 → ⊥) → (reply.status ≡ 416 → ⊥) → IsHead (query settings fields Head path) d (bare reply)
head_of_due known settings fields path reply is no_412 no_416 = ap bare is
head_of_due (refused status close) settings fields path reply is no_412 no_416 = ap bare is
head_of_due (to_slash at) settings fields path reply is no_412 no_416 = ap bare is
head_of_due (file at stood) settings fields path reply is no_412 no_416 = head_of_file (address_of settings stood) fields at stood reply is no_412 no_416
head_of_due (page dir members) settings fields path reply is no_412 no_416 = record { status = is.status; fields = is.fields; parts = refl }

pub head_as_get : (shown : Shown) (settings : Settings) (fields : Fields) (path : WebPath) (reply : Reply) → is_well_known settings Get path ≡ false
    → IsHead (query settings fields Get path) (due shown (query settings fields Get path)) reply → (reply.status ≡ 412 → ⊥) → (reply.status ≡ 416 → ⊥)
    → IsHead (query settings fields Head path) (due shown (query settings fields Head path)) (bare reply)
head_as_get shown settings fields path reply other is no_412 no_416 =
    subst (λ d. IsHead (query settings fields Head path) d (bare reply)) (due_by_method shown settings fields path other)
    (head_of_due (due shown (query settings fields Get path)) settings fields path reply is no_412 no_416)
