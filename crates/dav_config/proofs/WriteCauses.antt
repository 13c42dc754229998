-- Why a method that writes gives 500 over any store: a call was refused with a failure on the way; or, of PUT, its reader
-- failed.
use Rattle.std.proofs.Common.{◌≡◌, ◌≤◌, ◌++◌, ◌⊎◌, ℕ, List, [], ◌∷◌, length, Bool, true, false, not, Option, None, Some, Result, Ok, Err, refl, sym, ap, subst, ◌∙◌, inl, inr, arith, true≢false}
use Rattle.std.specs.Prelude.{if◌then◌else◌}
use Rattle.dav_io.specs.Counts.{Rose}
use Rattle.dav_io.proofs.Ends.{last_same}
use Rattle.dav_core.specs.declared.dav_error.DavError.{DavError}
use Rattle.dav_core.specs.declared.dav_error.DavError.TheVariants as dav
use Rattle.dav_core.specs.declared.error.FsError.{FsError}
use Rattle.dav_core.specs.declared.error.FsError.TheVariants as fs
use Rattle.dav_core.specs.declared.etag.ETag.{ETag}
use Rattle.dav_core.specs.declared.etag_list.EtagList.{EtagList}
use Rattle.dav_core.specs.declared.method.DavMethod.{DavMethod}
use Rattle.dav_core.specs.declared.method.DavMethod.TheVariants.{Copy, Delete, MkAddressbook, MkCalendar, MkCol, Move, Put}
use Rattle.dav_core.specs.declared.parse_error.ParseError.{ParseError}
use Rattle.dav_core.specs.declared.parse_error.ParseError.TheVariants as parse
use Rattle.dav_core.specs.declared.time.FileTime.{FileTime}
use Rattle.dav_core.specs.DavPath.{WebPath}
use Rattle.dav_core.specs.Grammar.{begins_with_slash, parsed}
use Rattle.dav_core.specs.Info.{Info}
use Rattle.dav_core.specs.Statuses.{lacks_memory, of_fs, of_path, status_of}
use Rattle.dav_core.specs.Tags.{equal_weakly}
use Rattle.dav_core.specs.Tree.{is_dir}
use Rattle.dav_model.specs.Conditions.{Fields, condition, condition_of, date_in, first_bytes, is_refused, is_unmodified, list_in, matches, reads, repeated, strong}
use Rattle.std.specs.Prelude.{◌&&◌, codes}
use Rattle.dav_model.specs.declared.outcome.Outcome.{Outcome}
use Rattle.dav_store.specs.declared.entry.ReadDirMeta.TheVariants.{DataSymlink}
use Rattle.dav_store.specs.Bodies.{BodyState}
use Rattle.dav_store.specs.Members.{Answered, Walked, begun, goes as walks}
use Rattle.dav_store.specs.View.{View, Listings}
use Rattle.dav_get.proofs.HeardIsRight.{rose_through}
use Rattle.dav_model.specs.declared.asked.Asked.{Asked}
use Rattle.dav_methods.specs.Carrying.{CopyMoves, may_leave, may_take_place}
use Rattle.dav_model.specs.CarryPlans.{method_of}
use Rattle.dav_model.specs.Destination.{Asks, IsDestination, IsPlace, asked_by, depth_of, overwrite_of, path_or_refusal}
use Rattle.dav_walks.specs.Follows as on
use Rattle.dav_walks.specs.Lines.{Line, fails_when}
use Rattle.dav_methods.specs.Lines.{Given, first_of, found_or_failed, info_there, is_dir_there, is_there, made, may_delete, may_make, may_put, no_parent, refused_but_missing, silent, unless, unmet, with_status}
use Rattle.dav_model.specs.Overlap.{overlap}
use Rattle.dav_walks.specs.Pouring.{Poured, Stops, Writes, WritesFile, begun as none_poured, goes as pours_on}
use Rattle.dav_methods.specs.Putting.{AfterChecks, MayPut, Puts, put_options}
use Rattle.dav_walks.specs.Reading.{HasNoMembers, MembersUnread, ReadRefused}
use Rattle.dav_methods.specs.Deleting.{Deletes}
use Rattle.dav_methods.specs.Table.{MkCalendars, MkCols, Next, Run}
use Rattle.dav_walks.proofs.calls.ListingsLead.{listed_on, unread_on}
use Rattle.dav_methods.proofs.tables.TablesKept.{CallsKeep, CarryJudges, Fits, Gives, Judges, Keeps, Left, carry_keeps, delete_keeps, may_put_keeps, mkcalendar_keeps, mkcol_keeps}
use Rattle.dav_config.specs.Writing as one
use Rattle.dav_config.specs.Writing.{ByTable, Order, RefusedOnWay, RefusesOne, behind}

-- ---- statuses

-- 500 is given, and memory was had
abbrev pub Fails : Given → Type 0
Fails (Ok outcome) = outcome.status ≡ 500
Fails (Err e) = (lacks_memory e ≡ false) × (status_of e ≡ 500)

abbrev pub FailsWith : DavError → Type 0
FailsWith e = (lacks_memory e ≡ false) × (status_of e ≡ 500)

-- Want of memory isn't given.
never_wanting : {X : Type 0} (e : DavError) → e ≡ dav.NoMemory → FailsWith e → X
never_wanting e is fails = absurd (true≢false (sym (ap lacks_memory is) ∙ fails.0))

-- nor is another status
never_status : {X : Type 0} (status : ℕ) (e : DavError) → status_of e ≡ status → (status ≡ 500 → ⊥) → FailsWith e → X
never_status status e is not_it fails = absurd (not_it (sym is ∙ fails.1))

-- A refusal that becomes such an error is a failure.
of_failure : (x : FsError) (e : DavError) → e ≡ of_fs x → FailsWith e → x ≡ fs.GeneralFailure
of_failure fs.GeneralFailure e is fails = refl
of_failure fs.NoMemory e is fails = never_wanting e is fails
of_failure fs.NotFound e is fails = never_status 404 e (ap status_of is) (λ s. omega (arith, s)) fails
of_failure fs.Forbidden e is fails = never_status 403 e (ap status_of is) (λ s. omega (arith, s)) fails
of_failure fs.Exists e is fails = never_status 405 e (ap status_of is) (λ s. omega (arith, s)) fails
of_failure fs.NotImplemented e is fails = never_status 501 e (ap status_of is) (λ s. omega (arith, s)) fails
of_failure fs.InsufficientStorage e is fails = never_status 507 e (ap status_of is) (λ s. omega (arith, s)) fails
of_failure fs.LoopDetected e is fails = never_status 508 e (ap status_of is) (λ s. omega (arith, s)) fails
of_failure fs.PathTooLong e is fails = never_status 414 e (ap status_of is) (λ s. omega (arith, s)) fails
of_failure fs.TooLarge e is fails = never_status 413 e (ap status_of is) (λ s. omega (arith, s)) fails
of_failure fs.IsRemote e is fails = never_status 502 e (ap status_of is) (λ s. omega (arith, s)) fails

-- ---- lines

-- A line that fits and gives 500 is a refused look.
abbrev IsMindful : (Result Info FsError → Line) → Type 0
IsMindful line = (found : Result Info FsError) (e : DavError) → line found ≡ Err e → FailsWith e → found ≡ Err fs.GeneralFailure

same_error : (a e : DavError) → ◌≡◌ {A = Line} (Err a) (Err e) → e ≡ a
same_error a e is = cc

when_never : {X : Type 0} (b : Bool) (status : ℕ) (e : DavError) → fails_when b status ≡ Err e → (status ≡ 500 → ⊥) → FailsWith e → X
when_never true status e is not_it fails = never_status status e (ap status_of (same_error (dav.Status status) e is)) not_it fails
when_never false status e is not_it fails = cc

look_failed : (x : FsError) (e : DavError) → ◌≡◌ {A = Line} (Err (of_fs x)) (Err e) → FailsWith e → ◌≡◌ {A = Result Info FsError} (Err x) (Err fs.GeneralFailure)
look_failed x e is fails = ap (λ (y : FsError). Err y) (of_failure x e (same_error (of_fs x) e is) fails)

-- no precondition gives 500
abbrev NeverFails : Option ℕ → Type 0
NeverFails None = Unit {0}
NeverFails (Some status) = status ≡ 500 → ⊥

either_never : (b : Bool) (x y : Option ℕ) → NeverFails x → NeverFails y → NeverFails (if b then x else y)
either_never true x y p q = p
either_never false x y p q = q

read_never : (b : Bool) → NeverFails (Some (if b then 304 else 412))
read_never true s = omega (arith, s)
read_never false s = omega (arith, s)

repeated_never : (method : DavMethod) (list : Option EtagList) (date : Option ℕ) (stands : Bool) (tag : Option ETag) (time : Option FileTime)
    → NeverFails (repeated method list date stands tag time)
repeated_never method (Some list) date stands tag time = either_never (matches equal_weakly stands tag list) (Some (if reads method then 304 else 412)) None (read_never (reads method)) tt
repeated_never method None (Some date) stands tag time = either_never (reads method && is_unmodified time date) (Some 304) None (λ s. omega (arith, s)) tt
repeated_never method None None stands tag time = tt

condition_never : (method : DavMethod) (fields : Fields) (stands : Bool) (tag : Option ETag) (time : Option FileTime) → NeverFails (condition method fields stands tag time)
condition_never method fields stands tag time =
    either_never (is_refused (list_in fields (codes "if-match")) (date_in fields (codes "if-unmodified-since")) stands tag time) (Some 412) _ (λ s. omega (arith, s))
    (repeated_never method (list_in fields (codes "if-none-match")) (date_in fields (codes "if-modified-since")) stands tag time)

found_never : (method : DavMethod) (fields : Fields) (there : Option Info) → NeverFails (condition_of method fields there)
found_never method fields None = condition_never method fields false None None
found_never method fields (Some info) = condition_never method fields true (strong info.tag) info.modified

-- the last of some lines
last_never : {X : Type 0} (status : Option ℕ) (e : DavError) → NeverFails status → first_of (with_status status ∷ []) ≡ Err e → FailsWith e → X
last_never None e never is fails = cc
last_never (Some status) e never is fails = never_status status e (ap status_of (same_error (dav.Status status) e is)) never fails

dir_then_never : {X : Type 0} (b : Bool) (status : Option ℕ) (e : DavError) → NeverFails status → first_of (fails_when b 405 ∷ with_status status ∷ []) ≡ Err e → FailsWith e → X
dir_then_never true status e never is fails = never_status 405 e (ap status_of (same_error (dav.Status 405) e is)) (λ s. omega (arith, s)) fails
dir_then_never false status e never is fails = last_never status e never is fails

mind_parent : IsMindful no_parent
mind_parent (Ok info) e is fails = when_never (not (is_dir info.kind)) 409 e is (λ s. omega (arith, s)) fails
mind_parent (Err fs.GeneralFailure) e is fails = refl
mind_parent (Err fs.NoMemory) e is fails = never_wanting e (same_error dav.NoMemory e is) fails
mind_parent (Err x) e is fails = never_status 409 e (ap status_of (same_error (dav.Status 409) e is)) (λ s. omega (arith, s)) fails

mind_found : IsMindful found_or_failed
mind_found (Ok info) e is fails = never_status 405 e (ap status_of (same_error (dav.StatusClose 405) e is)) (λ s. omega (arith, s)) fails
mind_found (Err fs.GeneralFailure) e is fails = refl
mind_found (Err fs.NoMemory) e is fails = never_wanting e (same_error dav.NoMemory e is) fails
mind_found (Err x) e is fails = cc

-- a refused look, but where nothing stands; and then lines that give no 500
mind_missing : (x : FsError) (lines : List Line) (e : DavError) → ((e : DavError) → first_of lines ≡ Err e → FailsWith e → ⊥)
    → first_of (refused_but_missing (Err x) ∷ lines) ≡ Err e → FailsWith e → ◌≡◌ {A = Result Info FsError} (Err x) (Err fs.GeneralFailure)
mind_missing fs.NotFound lines e never is fails = absurd (never e is fails)
mind_missing x lines e never is fails = look_failed x e is fails

mind_make : (fields : Fields) → IsMindful (may_make fields)
mind_make fields (Ok info) e is fails = never_status 405 e (ap status_of (same_error (dav.Status 405) e is)) (λ s. omega (arith, s)) fails
mind_make fields (Err x) e is fails =
    mind_missing x (unmet MkCol fields (Err x) ∷ []) e (λ f same fails. last_never (condition_of MkCol fields None) f (found_never MkCol fields None) same fails) is fails

mind_put : (fields : Fields) → IsMindful (may_put fields)
mind_put fields (Ok info) e is fails = dir_then_never (is_dir info.kind) (condition_of Put fields (Some info)) e (found_never Put fields (Some info)) is fails
mind_put fields (Err x) e is fails =
    mind_missing x (fails_when (is_dir_there (Err x)) 405 ∷ unmet Put fields (Err x) ∷ []) e
    (λ f same fails. last_never (condition_of Put fields None) f (found_never Put fields None) same fails) is fails

mind_delete : (fields : Fields) → IsMindful (may_delete fields)
mind_delete fields (Ok info) e is fails = last_never (condition_of Delete fields (Some info)) e (found_never Delete fields (Some info)) is fails
mind_delete fields (Err x) e is fails = look_failed x e is fails

-- a line alone, and one behind a refused look
alone_never : {X : Type 0} (b : Bool) (status : ℕ) (e : DavError) → first_of (fails_when b status ∷ []) ≡ Err e → (status ≡ 500 → ⊥) → FailsWith e → X
alone_never true status e is not_it fails = never_status status e (ap status_of (same_error (dav.Status status) e is)) not_it fails
alone_never false status e is not_it fails = cc

mind_leave : (folds : Bool) (from to : WebPath) → IsMindful (may_leave folds from to)
mind_leave folds from to (Ok info) e is fails = alone_never (overlap folds from.names to.names) 403 e is (λ s. omega (arith, s)) fails
mind_leave folds from to (Err x) e is fails = look_failed x e is fails

mind_arrive : (replaces : Bool) → IsMindful (may_take_place replaces)
mind_arrive replaces (Ok info) e is fails = alone_never (is_there (Ok info) && not replaces) 412 e is (λ s. omega (arith, s)) fails
mind_arrive replaces (Err x) e is fails =
    mind_missing x (fails_when (is_there (Err x) && not replaces) 412 ∷ []) e
    (λ f same fails. alone_never (is_there (Err x) && not replaces) 412 f same (λ s. omega (arith, s)) fails) is fails

met_never : {X : Type 0} (status : Option ℕ) (e : DavError) → NeverFails status → with_status status ≡ Err e → FailsWith e → X
met_never None e never is fails = cc
met_never (Some status) e never is fails = never_status status e (ap status_of (same_error (dav.Status status) e is)) never fails

-- ---- what the fields of a COPY or a MOVE ask for

-- Where it is refused, that isn't with 500.
abbrev NeverBy : {T : Type 0} → Result T DavError → Type 0
NeverBy (Ok x) = Unit {0}
NeverBy (Err e) = FailsWith e → ⊥

path_never : (path : Result WebPath ParseError) → NeverBy (path_or_refusal path)
path_never (Ok path) = tt
path_never (Err parse.InvalidPath) = λ fails. never_status 400 (of_path parse.InvalidPath) refl (λ s. omega (arith, s)) fails
path_never (Err parse.ForbiddenPath) = λ fails. never_status 403 (of_path parse.ForbiddenPath) refl (λ s. omega (arith, s)) fails
path_never (Err parse.PrefixMismatch) = λ fails. never_status 404 (of_path parse.PrefixMismatch) refl (λ s. omega (arith, s)) fails
path_never (Err parse.NotText) = λ fails. never_status 404 (of_path parse.NotText) refl (λ s. omega (arith, s)) fails
path_never (Err parse.NoMemory) = λ fails. never_wanting dav.NoMemory refl fails

bad_never : FailsWith (dav.Status 400) → ⊥
bad_never fails = never_status 400 (dav.Status 400) refl (λ s. omega (arith, s)) fails

place_never : (slash : Bool) (prefix text : List ℕ) (to : Result WebPath DavError) → IsPlace slash prefix text to → NeverBy to
place_never true prefix text to is = rw is (path_never (parsed text prefix))
place_never false prefix text to (inl (uri, spells, has, is)) = rw is (path_never _)
place_never false prefix text to (inr (unaddressed, is)) = rw is bad_never

destination_never : (prefix : List ℕ) (field : Option (List ℕ)) (to : Result WebPath DavError) → IsDestination prefix field to → NeverBy to
destination_never prefix None to is = rw is bad_never
destination_never prefix (Some text) to is = place_never (begins_with_slash text) prefix text to is

by_never : (moving : Bool) (to : Result WebPath DavError) (replaces alone : Option Bool) → NeverBy to → NeverBy (asked_by moving to replaces alone)
by_never moving (Err e) replaces alone never = never
by_never moving (Ok to) None alone never = bad_never
by_never moving (Ok to) (Some replaces) None never = bad_never
by_never moving (Ok to) (Some replaces) (Some alone) never = tt

asked_never : (moving : Bool) (prefix : List ℕ) (fields : Fields) (asked : Result Asked DavError) → Asks moving prefix fields asked → NeverBy asked
asked_never moving prefix fields asked (to, is, by) =
    rw by (by_never moving to (overwrite_of (first_bytes fields (codes "overwrite"))) (depth_of moving (first_bytes fields (codes "depth")))
    (destination_never prefix (first_bytes fields (codes "destination")) to is))

-- ---- ways

module _ {S C F L E : Type 0} (view : View S C F) (lists : Listings S C L E) (writes : Writes F) (c : C) where
  abbrev Reach : S → S → Type 0
  Reach = on.Reached view lists writes c

  abbrev Refuses : S → S → Type 0
  Refuses = RefusesOne view lists writes c

  abbrev Way : S → S → Type 0
  Way = RefusedOnWay view lists writes c

  -- From a store a method came here: 500 was given only for a call that was refused on the way.
  abbrev Came : S → Given → S → Type 0
  Came s (Ok outcome) t = (outcome.status ≡ 500 → ⊥) × Reach s t
  Came s (Err e) t = FailsWith e → Way s t

  way : (s m n t : S) → Reach s m → Refuses m n → Reach n t → Way s t
  way s m n t came fails ends = record { before = m; after = n; came = came; fails = fails; ends = ends }

  -- ---- the reading of a directory

  -- the last that was asked was refused, and the listing was ended
  said_way : (s b m o t : S) (path : WebPath) (l k : L) (all front : List Answered) (a : Answered) → a.meta ≡ Err fs.GeneralFailure → all ≡ front ++ a ∷ [] → Reach s b
      → lists.lists b c path DataSymlink (Ok l) m → Walked view lists m l all o k → lists.ends_list o k t → Way s t
  said_way s b m o t path l k all [] a is same came begins begun ended = cc
  said_way s b m o t path l k all (x ∷ front) a is same came begins begun ended = cc
  said_way s b m o t path l k all front a is same came begins (walks before n p q i j e r walked nexts said lends keeps) ended =
      let last = last_same before front (record { name = lists.called e; meta = r }) a same in
      let refused : r ≡ Err fs.GeneralFailure = ap (λ (x : Answered). x.meta) last ∙ is in
      way s b t t came (one.says path DataSymlink l i k m n p o before e begins walked nexts (subst (λ x. lists.says e (view.state p) x (view.state o)) refused said) ended) on.here

  read_way : (s b m o t : S) (path : WebPath) (l k : L) (e : FsError) → Reach s b → lists.lists b c path DataSymlink (Ok l) m → ReadRefused view lists m l e o k → lists.ends_list o k t
      → e ≡ fs.GeneralFailure → Way s t
  read_way s b m o t path l k e came begins (inl (wants, answers, walk)) ended is = cc
  read_way s b m o t path l k e came begins (inr (inl (answers, place, left, walk, said, refused))) ended is =
      way s b t t came (one.goes_on path DataSymlink l left k m place o answers begins walk (subst (λ x. lists.lists_on place left (Err x) o k) is refused) ended) on.here
  read_way s b m o t path l k e came begins (inr (inr (answers, name, said, walk))) ended is =
      said_way s b m o t path l k (answers ++ record { name = name; meta = Err e } ∷ []) answers (record { name = name; meta = Err e }) (ap (λ (x : FsError). Err x) is) refl came begins walk ended

  unread_way : (s m t : S) (path : WebPath) (e : FsError) → Reach s m → HasNoMembers view lists m c path e t → e ≡ fs.GeneralFailure → Way s t
  unread_way s m t path e came none is = by none.why
    where
      by : MembersUnread view lists m c path e t → Way s t
      by (inl (wants, listed, was)) = cc
      by (inr (inl refused)) = way s m t t came (one.begins path DataSymlink (subst (λ x. lists.lists m c path DataSymlink (Err x) t) is refused)) on.here
      by (inr (inr (begin, after, listing, over, begins, refused, ended))) = read_way s m begin after t path listing over e came begins refused ended is

  -- ---- what each call keeps, and what each line is minded of

  module _ (s : S) where
    abbrev Refused : FsError → S → Type 0
    Refused e t = e ≡ fs.GeneralFailure → Way s t

    abbrev Bad : DavError → S → Type 0
    Bad e t = FailsWith e → Way s t

    abbrev Done : Outcome → Type 0
    Done outcome = outcome.status ≡ 500 → ⊥

    left : {T : Type 0} (m n t : S) (r : Result T FsError) → Reach s m → Reach s t → Reach n t → (r ≡ Err fs.GeneralFailure → Refuses m n) → Left view lists writes c (Reach s) Refused Bad Done r t
    left m n t (Ok x) came on_to ends fails = on_to
    left m n t (Err e) came on_to ends fails = (on_to, λ is. way s m n t came (fails (ap (λ (x : FsError). Err x) is)) ends)

    calls_kept : CallsKeep view lists writes c (Reach s) Refused Bad Done
    calls_kept = record {
      looks = λ m t path r came call. left m t t r came (on.looks m t path r came call) on.here (λ is. one.looks path (subst (λ x. view.looks m c path x t) is call));
      looks_at_link = λ m t path r came call. left m t t r came (on.looks_at_link m t path r came call) on.here (λ is. one.looks_at_link path (subst (λ x. view.looks_at_link m c path x t) is call));
      makes_dir = λ m t path r came call. left m t t r came (on.makes_dir m t path r came call) on.here (λ is. one.makes_dir path (subst (λ x. view.makes_dir m c path x t) is call));
      removes_dir = λ m t path r came call. left m t t r came (on.removes_dir m t path r came call) on.here (λ is. one.removes_dir path (subst (λ x. view.removes_dir m c path x t) is call));
      removes_file = λ m t path r came call. left m t t r came (on.removes_file m t path r came call) on.here (λ is. one.removes_file path (subst (λ x. view.removes_file m c path x t) is call));
      renames = λ m t from to r came call. left m t t r came (on.renames m t from to r came call) on.here (λ is. one.renames from to (subst (λ x. view.renames m c from to x t) is call));
      copies = λ m t from to r came call. left m t t r came (on.copies m t from to r came call) on.here (λ is. one.copies from to (subst (λ x. view.copies m c from to x t) is call));
      opens = λ m t path r came call. left m t t r came (on.opens m t path put_options r came call) on.here (λ is. one.opens path put_options (subst (λ x. view.opens m c path put_options x t) is call));
      fills = λ m n t f g bytes r came written closes.
          left m n t r came (on.ends_file n t g (on.writes_file m n f g bytes r came written) closes) (on.ends_file n t g on.here closes)
          (λ is. one.writes_file f g bytes (subst (λ x. WritesFile view writes m f bytes x n g) is written));
      listed = λ m t path members came has. listed_on view lists writes c s m t path has.listed came has.was;
      unlisted = λ m t path e came none. (unread_on view lists writes c s m t path e came none.why, unread_way s m t path e came none);
      refused = λ e t is fails. is (of_failure e (of_fs e) refl fails);
      wanting = λ t fails. never_wanting dav.NoMemory refl fails;
      deep = λ t fails. never_status 403 (dav.Status 403) refl (λ x. omega (arith, x)) fails;
    }

    line_fits : (line : Line) (t : S) → ((e : DavError) → line ≡ Err e → FailsWith e → Way s t) → Fits view lists writes c (Reach s) Refused Bad Done line t
    line_fits (Ok x) t stop = tt
    line_fits (Err e) t stop = stop e refl

    look_way : (found : Result Info FsError) (t : S) → Left view lists writes c (Reach s) Refused Bad Done found t → found ≡ Err fs.GeneralFailure → Way s t
    look_way (Ok info) t came is = cc
    look_way (Err e) t came is = came.1 (let same : e ≡ fs.GeneralFailure = cc in same)

    judges : (line : Result Info FsError → Line) → IsMindful line → Judges view lists writes c (Reach s) Refused Bad Done line
    judges line mind found t came = line_fits (line found) t (λ e is fails. look_way found t came (mind found e is fails))

    carry_judges : (moving : Bool) (prefix : List ℕ) (path : WebPath) (fields : Fields) → CarryJudges view lists writes c (Reach s) Refused Bad Done moving prefix path fields
    carry_judges moving prefix path fields = record {
      asked = λ e t asks fails. absurd (asked_never moving prefix fields (Err e) asks fails);
      leaves = λ folds to. judges (may_leave folds path to) (mind_leave folds path to);
      parent = judges no_parent mind_parent;
      met = λ moves found t.
          line_fits (unmet (method_of moves) fields found) t
          (λ e is fails. met_never (condition_of (method_of moves) fields (info_there found)) e (found_never (method_of moves) fields (info_there found)) is fails);
      arrives = λ asked asks. judges (may_take_place asked.replaces) (mind_arrive asked.replaces);
    }

    new_never : Done made
    new_never is = omega (arith, is)

    old_never : Done silent
    old_never is = omega (arith, is)

    came_by : (run : Run S) → Keeps view lists writes c (Reach s) Refused Bad Done run → (t : S) (r : Given) → run s r t → Came s r t
    came_by run keeps t r ran = by r (keeps s t r on.here ran)
      where
        by : (g : Given) → Reach s t × Gives view lists writes c (Reach s) Refused Bad Done g t → Came s g t
        by (Ok outcome) kept = (kept.1, kept.0)
        by (Err e) kept = kept.1

    may_keeps : (path : WebPath) (fields : Fields) → Keeps view lists writes c (Reach s) Refused Bad Done (MayPut view c path fields)
    may_keeps path fields =
        may_put_keeps view lists writes c (Reach s) Refused Bad Done calls_kept path fields (λ t fails. never_status 405 (dav.Status 405) refl (λ x. omega (arith, x)) fails)
        (judges no_parent mind_parent) (judges (may_put fields) (mind_put fields)) new_never old_never

    mkcol_came : (t : S) (r : Given) (path : WebPath) (fields : Fields) → MkCols view c path fields s r t → Came s r t
    mkcol_came t r path fields =
        came_by (MkCols view c path fields)
        (mkcol_keeps view lists writes c (Reach s) Refused Bad Done calls_kept path fields (judges (may_make fields) (mind_make fields)) (judges no_parent mind_parent) new_never) t r

    mkcalendar_came : (t : S) (r : Given) (path : WebPath) → MkCalendars view c path s r t → Came s r t
    mkcalendar_came t r path =
        came_by (MkCalendars view c path) (mkcalendar_keeps view lists writes c (Reach s) Refused Bad Done calls_kept path (judges found_or_failed mind_found) new_never) t r

    delete_came : (t : S) (r : Given) (path : WebPath) (fields : Fields) → Deletes view lists c path fields s r t → Came s r t
    delete_came t r path fields =
        came_by (Deletes view lists c path fields)
        (delete_keeps view lists writes c (Reach s) Refused Bad Done calls_kept path fields (judges (may_delete fields) (mind_delete fields)) old_never) t r

    carry_came : (t : S) (r : Given) (moving : Bool) (prefix : List ℕ) (path : WebPath) (fields : Fields) → Next (CopyMoves view lists c moving prefix path fields) s r t → Came s r t
    carry_came t r moving prefix path fields =
        came_by (Next (CopyMoves view lists c moving prefix path fields))
        (carry_keeps view lists writes c (Reach s) Refused Bad Done calls_kept moving prefix path fields (carry_judges moving prefix path fields) new_never old_never) t r

  -- ---- PUT, whose reader may fail

  -- what was poured leads on, and forgets no fault of the reader
  poured_came : (s m : S) (f : F) (b : BodyState) (bytes : List ℕ) (n : S) (g : F) (k : BodyState) → Reach s m → Poured view writes m f b bytes n g k → Reach s n
  poured_came s m f b bytes n g k came none_poured = came
  poured_came s m f b bytes n g k came (pours_on front piece o p h i j l before gives written) =
      on.writes_file o n h g piece (Ok tt) (poured_came s m f b front o h j came before) written

  poured_counts : (m : S) (f : F) (b : BodyState) (bytes : List ℕ) (n : S) (g : F) (k : BodyState) → Poured view writes m f b bytes n g k → b.faults ≤ k.faults
  poured_counts m f b bytes n g k none_poured = omega arith
  poured_counts m f b bytes n g k (pours_on front piece o p h i j l before gives written) =
      let first = poured_counts m f b front o h j before in let last = gives.counts in omega arith

  abbrev pub PutCause : S → BodyState → S → BodyState → Type 0
  PutCause s b t n = Way s t ⊎ Rose b.faults n.faults

  stops_cause : (s m n t : S) (f g : F) (b k : BodyState) (total : ℕ) (e : DavError) → Reach s m → Stops view writes total m f b (Err e) n g k → FailsWith e
      → (Reach n t) → PutCause s b t k
  stops_cause s m n t f g b k total e came (inl (failed, gives, is, same, file)) fails more = inr (gives.failed refl)
  stops_cause s m n t f g b k total e came (inr (piece, gives, inl (is, most, same, file))) fails more = never_status 413 e (ap status_of is) (λ x. omega (arith, x)) fails
  stops_cause s m n t f g b k total e came (inr (piece, gives, inr (refusal, is, written))) fails more = inl (record {
    before = m;
    after = n;
    came = came;
    fails = one.writes_file f g piece (subst (λ x. WritesFile view writes m f piece (Err x) n g) (of_failure refusal e is fails) written);
    ends = more;
  })

  ended_cause : (s m n t : S) (f g : F) (b k : BodyState) (total : ℕ) (line : Line) (outcome : Outcome) (r : Given) → Reach s m → Stops view writes total m f b line n g k
      → (outcome.status ≡ 500 → ⊥) → r ≡ unless line outcome → Fails r → Reach n t → PutCause s b t k
  ended_cause s m n t f g b k total (Ok x) outcome r came stops not_it is fails more = absurd (not_it (subst Fails is fails))
  ended_cause s m n t f g b k total (Err e) outcome r came stops not_it is fails more = stops_cause s m n t f g b k total e came stops (subst Fails is fails) more

  put_after : (s m t : S) (may r : Given) (path : WebPath) (b n : BodyState) → Came s may m → AfterChecks view writes c may path b m r t n → Fails r → PutCause s b t n
  put_after s m t (Err e) r path b n came ((same, is), unread) fails = inl (subst (Way s) (sym same) (came (subst Fails is fails)))
  put_after s m t (Ok outcome) r path b n came (Err e, o, opened, left, after) fails =
      inl (way s m o t came.1 (one.opens path put_options (subst (λ x. view.opens m c path put_options (Err x) o)
      (of_failure e (of_fs e) refl (subst Fails after.0.1 fails)) opened)) (subst (Reach o) (sym after.0.0) on.here))
  put_after s m t (Ok outcome) r path b n came (Ok f, o, opened, left, pours) fails =
      let begin = on.opens m o path put_options (Ok f) came.1 opened in
      let run = pours.pours in
      let reach = poured_came s o f b run.bytes run.place run.file run.reader begin run.poured in
      let counts = poured_counts o f b run.bytes run.place run.file run.reader run.poured in
      later run.reader counts (ended_cause s run.place pours.full t run.file pours.file run.reader n (length run.bytes) pours.ended outcome r reach run.stops came.0 pours.answer fails
      (on.ends_file pours.full t pours.file on.here pours.closes))
    where
      later : (k : BodyState) → b.faults ≤ k.faults → PutCause s k t n → PutCause s b t n
      later k counts (inl on_way) = inl on_way
      later k counts (inr rose) = inr (rose_through _ _ _ _ counts rose (omega arith))

  put_cause : (s t : S) (r : Given) (path : WebPath) (fields : Fields) (b n : BodyState) → Puts view writes c path fields b s r t n → Fails r → PutCause s b t n
  put_cause s t r path fields b n (may, m, checks, after) fails = put_after s m t may r path b n (came_by s (MayPut view c path fields) (may_keeps s path fields) m may checks) after fails

  -- ---- each method

  came_cause : (s t : S) (r : Given) (b n : BodyState) → Came s r t → Fails r → PutCause s b t n
  came_cause s t (Ok outcome) b n came fails = absurd (came.0 fails)
  came_cause s t (Err e) b n came fails = inl (came fails)

  -- 500 is given only where a call was refused with a failure, or the reader failed.
  pub written_cause : (method : DavMethod) (o : Order) (b n : BodyState) (s t : S) (r : Given) → ByTable view lists writes c method o (behind b) s r t (behind n) → Fails r → PutCause s b t n
  written_cause Put o b n s t r table fails =
      let same : table.0 ≡ n = cc in
      put_cause s t r o.path o.fields b n (subst (Puts view writes c o.path o.fields b s r t) same table.2) fails
  written_cause MkCol o b n s t r table fails = came_cause s t r b n (mkcol_came s t r o.path o.fields table.0) fails
  written_cause MkCalendar o b n s t r table fails = came_cause s t r b n (mkcalendar_came s t r o.path table.0) fails
  written_cause MkAddressbook o b n s t r table fails = came_cause s t r b n (mkcalendar_came s t r o.path table.0) fails
  written_cause Delete o b n s t r table fails = came_cause s t r b n (delete_came s t r o.path o.fields table.0) fails
  written_cause Copy o b n s t r table fails = came_cause s t r b n (carry_came s t r false o.prefix o.path o.fields table.0) fails
  written_cause Move o b n s t r table fails = came_cause s t r b n (carry_came s t r true o.prefix o.path o.fields table.0) fails
  written_cause other o b n s t r table fails = absurd table
