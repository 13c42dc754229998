-- What each call of a store keeps, each table of a method that writes keeps, in every outcome.
-- Headlines: `mkcol_keeps`, `put_keeps`, `delete_keeps` and `carry_keeps`.
use Rattle.std.proofs.Common.{◌≡◌, ℕ, List, [], ◌∷◌, Bool, true, false, Result, Ok, Err, sym, subst, inl, inr}
use Rattle.dav_core.specs.declared.dav_error.DavError.{DavError}
use Rattle.dav_core.specs.declared.dav_error.DavError.TheVariants.{NoMemory, Status}
use Rattle.dav_core.specs.declared.error.FsError.{FsError}
use Rattle.dav_core.specs.DavPath.{WebPath}
use Rattle.dav_core.specs.Info.{Info}
use Rattle.dav_core.specs.Statuses.{of_fs}
use Rattle.dav_core.specs.Tree.{is_dir}
use Rattle.dav_store.specs.View.{Closes, Listings, View}
use Rattle.dav_model.specs.declared.asked.Asked.{Asked}
use Rattle.dav_model.specs.declared.outcome.Outcome.{Outcome}
use Rattle.dav_model.specs.CarryPlans.{method_of}
use Rattle.dav_model.specs.Conditions.{Fields}
use Rattle.dav_model.specs.Destination.{Asks}
use Rattle.dav_walks.specs.declared.child.Child.{Child}
use Rattle.dav_walks.specs.declared.transfer.Transfer.{Transfer}
use Rattle.dav_walks.specs.declared.work.Work.{Work}
use Rattle.dav_walks.specs.declared.work.Work.TheVariants.{Emptied, Whole}
use Rattle.dav_methods.specs.Carrying.{Arrives, Carries, CopyMoves, Goes, Leaves, TakesPlace, may_leave, may_take_place, transfer}
use Rattle.dav_walks.specs.Copying.{AfterMaking, Copies, CopiesBy, CopiesDir, Enters, ReadsInto, done as all_copied, short as copied_short, goes as copies_more, stops as copies_stopped}
use Rattle.dav_walks.specs.Lines.{Line, above, fails_when}
use Rattle.dav_methods.specs.Lines.{Given, done_over, found_or_failed, is_dir_there, made, may_delete, may_make, may_put, no_parent, silent, unless, unmet}
use Rattle.dav_walks.specs.Pouring.{Writes, WritesFile}
use Rattle.dav_methods.specs.Putting.{AfterChecksWhole, AfterOpeningWhole, MayPut, MayReplace, PutsWhole, put_options}
use Rattle.dav_walks.specs.Reading.{HasMembers, HasNoMembers}
use Rattle.dav_walks.specs.Removing.{RefusesDir, RemovesOne, Removes, is_deep, line_of, done, short, goes as removes_more, stops as removes_stopped}
use Rattle.dav_methods.specs.Deleting.{Deletes, LooksAtLink, RemovesAll, is_root}
use Rattle.dav_methods.specs.Table.{Below, Ends, EndsMade, Looks, MkCalendars, MkCols, Next, Run, Unless, answered}

-- What is kept is `At`, of each store on the way. Where a call is refused, `Refused` is known of the store that it leaves.
-- Then each answer is one that was done (`Done`), or an error that may be given at the store that is left (`Bad`).
module _ {S C F L E : Type 0} (view : View S C F) (lists : Listings S C L E) (writes : Writes F) (c : C)
    (At : S → Type 0) (Refused : FsError → S → Type 0) (Bad : DavError → S → Type 0) (Done : Outcome → Type 0) where
  -- a store that a call left, with this answer
  abbrev pub Left : {T : Type 0} → Result T FsError → S → Type 0
  Left (Ok x) t = At t
  Left (Err e) t = At t × Refused e t

  -- a line that is judged at a store, and an answer that is given there
  abbrev pub Fits : Line → S → Type 0
  Fits (Ok x) t = Unit {0}
  Fits (Err e) t = Bad e t

  abbrev pub Gives : Given → S → Type 0
  Gives (Ok outcome) t = Done outcome
  Gives (Err e) t = Bad e t

  -- a line by what a look found
  abbrev pub Judges : (Result Info FsError → Line) → Type 0
  Judges line = (found : Result Info FsError) (t : S) → Left found t → Fits (line found) t

  abbrev pub Keeps : Run S → Type 0
  Keeps run = (s t : S) (r : Given) → At s → run s r t → At t × Gives r t

  -- Each call keeps it. (A listing is one call, and so is a file that is filled.) Errors that any table gives may be given.
  pub record CallsKeep : Type 0 where
    pub looks : (s t : S) (path : WebPath) (r : Result Info FsError) → At s → view.looks s c path r t → Left r t
    pub looks_at_link : (s t : S) (path : WebPath) (r : Result Info FsError) → At s → view.looks_at_link s c path r t → Left r t
    pub makes_dir : (s t : S) (path : WebPath) (r : Result Unit FsError) → At s → view.makes_dir s c path r t → Left r t
    pub removes_dir : (s t : S) (path : WebPath) (r : Result Unit FsError) → At s → view.removes_dir s c path r t → Left r t
    pub removes_file : (s t : S) (path : WebPath) (r : Result Unit FsError) → At s → view.removes_file s c path r t → Left r t
    pub renames : (s t : S) (from to : WebPath) (r : Result Unit FsError) → At s → view.renames s c from to r t → Left r t
    pub copies : (s t : S) (from to : WebPath) (r : Result Unit FsError) → At s → view.copies s c from to r t → Left r t
    pub opens : (s t : S) (path : WebPath) (r : Result F FsError) → At s → view.opens s c path put_options r t → Left r t
    pub fills : (s m t : S) (f g : F) (bytes : List ℕ) (r : Result Unit FsError) → At s → WritesFile view writes s f bytes r m g → Closes view m g t → Left r t
    pub listed : (s t : S) (path : WebPath) (members : List Child) → At s → HasMembers view lists s c path members t → At t
    pub unlisted : (s t : S) (path : WebPath) (e : FsError) → At s → HasNoMembers view lists s c path e t → At t × Refused e t
    pub refused : (e : FsError) (t : S) → Refused e t → Bad (of_fs e) t
    pub wanting : (t : S) → Bad NoMemory t
    pub deep : (t : S) → Bad (Status 403) t

  -- Each line that a COPY or a MOVE may end at fits.
  pub record CarryJudges (moving : Bool) (prefix : List ℕ) (path : WebPath) (fields : Fields) : Type 0 where
    pub asked : (e : DavError) (t : S) → Asks moving prefix fields (Err e) → Bad e t
    pub leaves : (folds : Bool) (to : WebPath) → Judges (may_leave folds path to)
    pub parent : Judges no_parent
    pub met : (moves : Bool) (found : Result Info FsError) (t : S) → Fits (unmet (method_of moves) fields found) t
    pub arrives : (asked : Asked) → Asks moving prefix fields (Ok asked) → Judges (may_take_place asked.replaces)

  module _ (keep : CallsKeep) where
    -- ---- lines and answers

    left_at : {T : Type 0} (r : Result T FsError) (t : S) → Left r t → At t
    left_at (Ok x) t left = left
    left_at (Err e) t left = left.0

    call_fits : (r : Result Unit FsError) (t : S) → Left r t → Fits (line_of r) t
    call_fits (Ok x) t left = tt
    call_fits (Err e) t left = keep.refused e t left.1

    when_fits : (b : Bool) (status : ℕ) (t : S) → Bad (Status status) t → Fits (fails_when b status) t
    when_fits true status t bad = bad
    when_fits false status t bad = tt

    line_gives : (line : Line) (outcome : Outcome) (t : S) → Done outcome → Fits line t → Gives (unless line outcome) t
    line_gives (Ok x) outcome t may fits = may
    line_gives (Err e) outcome t may fits = fits

    call_gives : (r : Result Unit FsError) (outcome : Outcome) (t : S) → Done outcome → Left r t → Gives (answered outcome r) t
    call_gives (Ok x) outcome t may left = may
    call_gives (Err e) outcome t may left = keep.refused e t left.1

    over_done : Done made → Done silent → (found : Result Info FsError) → Done (done_over found)
    over_done new old (Ok info) = old
    over_done new old (Err e) = new

    -- ---- the words of the tables

    ended : (given : Given) (s t : S) (r : Given) → At s → Gives given s → Ends given s r t → At t × Gives r t
    ended given s t r at gives (same, is) = rw (same, is) (at, gives)

    next_keeps : (run : Run S) (s t : S) (r : Given) → At s → (run s r t → At t × Gives r t) → Next run s r t → At t × Gives r t
    next_keeps run s t r at more (inl wants) = ended (Err NoMemory) s t r at (keep.wanting s) wants
    next_keeps run s t r at more (inr ran) = more ran

    unless_keeps : (line : Line) (run : Run S) (s t : S) (r : Given) → At s → Fits line s → Keeps run → Unless line run s r t → At t × Gives r t
    unless_keeps (Ok x) run s t r at fits more ran = more s t r at ran
    unless_keeps (Err e) run s t r at fits more ends = ended (Err e) s t r at fits ends

    -- A look, a line by what it found, and what follows.
    looks_keep : (path : WebPath) (line : Result Info FsError → Line) (run : Result Info FsError → Run S) → Judges line → ((found : Result Info FsError) → Keeps (run found))
        → Keeps (Looks view c path (λ found. Unless (line found) (run found)))
    looks_keep path line run judges more s t r at (found, m, call, next) =
        let left : Left found m = keep.looks s m path found at call in
        let here = left_at found m left in
        next_keeps (Unless (line found) (run found)) m t r here (unless_keeps (line found) (run found) m t r here (judges found m left) (more found)) next

    link_keeps : (path : WebPath) (line : Result Info FsError → Line) (run : Result Info FsError → Run S) → Judges line → ((found : Result Info FsError) → Keeps (run found))
        → Keeps (LooksAtLink view lists c path (λ found. Unless (line found) (run found)))
    link_keeps path line run judges more s t r at (found, m, call, next) =
        let left : Left found m = keep.looks_at_link s m path found at call in
        let here = left_at found m left in
        next_keeps (Unless (line found) (run found)) m t r here (unless_keeps (line found) (run found) m t r here (judges found m left) (more found)) next

    below_keeps : (path : WebPath) (run : Run S) → Judges no_parent → Keeps run → Keeps (Below view c path run)
    below_keeps path run parent more = looks_keep (above path) no_parent (λ up. run) parent (λ up. more)

    -- ---- a directory is made

    made_keeps : (path : WebPath) → Done made → Keeps (EndsMade view c path)
    made_keeps path new s t r at (answer, m, call, ends) =
        let left : Left answer m = keep.makes_dir s m path answer at call in
        ended (answered made answer) m t r (left_at answer m left) (call_gives answer made m new left) ends

    pub mkcol_keeps : (path : WebPath) (fields : Fields) → Judges (may_make fields) → Judges no_parent → Done made → Keeps (MkCols view c path fields)
    mkcol_keeps path fields may parent new =
        looks_keep path (may_make fields) (λ found. Below view c path (EndsMade view c path)) may (λ found. below_keeps path (EndsMade view c path) parent (made_keeps path new))

    pub mkcalendar_keeps : (path : WebPath) → Judges found_or_failed → Done made → Keeps (MkCalendars view c path)
    mkcalendar_keeps path may new = looks_keep path found_or_failed (λ found. EndsMade view c path) may (λ found. made_keeps path new)

    -- ---- PUT

    replaces_keeps : (path : WebPath) (fields : Fields) → Judges (may_put fields) → Done made → Done silent → Keeps (MayReplace view c path fields)
    replaces_keeps path fields may new old s t r at (found, m, call, next) =
        let left : Left found m = keep.looks s m path found at call in
        let here = left_at found m left in
        let given = unless (may_put fields found) (done_over found) in
        next_keeps (Ends given) m t r here (ended given m t r here (line_gives (may_put fields found) (done_over found) m (over_done new old found) (may found m left))) next

    pub may_put_keeps : (path : WebPath) (fields : Fields) → ((t : S) → Bad (Status 405) t) → Judges no_parent → Judges (may_put fields) → Done made → Done silent
        → Keeps (MayPut view c path fields)
    may_put_keeps path fields slash parent may new old s t r at =
        unless_keeps (fails_when path.slash 405) (Next (Below view c path (MayReplace view c path fields))) s t r at (when_fits path.slash 405 s (slash s))
        (λ m n g here. next_keeps (Below view c path (MayReplace view c path fields)) m n g here
        (below_keeps path (MayReplace view c path fields) parent (replaces_keeps path fields may new old) m n g here))

    opened_keeps : (opened : Result F FsError) (outcome : Outcome) (bytes : List ℕ) (s t : S) (r : Given) → Left opened s → Done outcome
        → AfterOpeningWhole view writes c opened outcome bytes s r t → At t × Gives r t
    opened_keeps (Err e) outcome bytes s t r left may ends = ended (Err (of_fs e)) s t r left.0 (keep.refused e s left.1) ends
    opened_keeps (Ok f) outcome bytes s t r at may into =
        let left : Left into.ended t = keep.fills s into.full t f into.file bytes into.ended at into.written into.closes in
        (left_at into.ended t left, subst (λ g. Gives g t) (sym into.answer) (line_gives (line_of into.ended) outcome t may (call_fits into.ended t left)))

    checked_keeps : (given : Given) (path : WebPath) (bytes : List ℕ) (s t : S) (r : Given) → At s → Gives given s → AfterChecksWhole view writes c given path bytes s r t
        → At t × Gives r t
    checked_keeps (Err e) path bytes s t r at bad ends = ended (Err e) s t r at bad ends
    checked_keeps (Ok outcome) path bytes s t r at may (opened, m, call, one, after) =
        opened_keeps opened outcome bytes m t r (keep.opens s m path opened at call) may after

    pub put_keeps : (path : WebPath) (fields : Fields) (bytes : List ℕ) → Keeps (MayPut view c path fields) → Keeps (PutsWhole view writes c path fields bytes)
    put_keeps path fields bytes may s t r at (given, m, checks, after) =
        let judged = may s m given at checks in checked_keeps given path bytes m t r judged.0 judged.1 after

    -- ---- DELETE

    -- A call is one of the work.
    worked : (answer : Result Unit FsError) (t : S) (r : Line) → Left answer t → r ≡ line_of answer → At t × Fits r t
    worked answer t r left is = (left_at answer t left, subst (λ l. Fits l t) (sym is) (call_fits answer t left))

    unread_keeps : (s t : S) (path : WebPath) (refusal : FsError) (e : DavError) → At s → HasNoMembers view lists s c path refusal t → e ≡ of_fs refusal → At t × Bad e t
    unread_keeps s t path refusal e at none is =
        let left = keep.unlisted s t path refusal at none in (left.0, subst (λ x. Bad x t) (sym is) (keep.refused refusal t left.1))

    read_short : (s t : S) (path : WebPath) (members : List Child) (e : DavError) → At s → HasMembers view lists s c path members t → e ≡ NoMemory → At t × Bad e t
    read_short s t path members e at has is = (keep.listed s t path members at has, subst (λ x. Bad x t) (sym is) (keep.wanting t))

    dir_keeps : (path : WebPath) (s t : S) (e : DavError) → At s → RefusesDir view lists c path s e t → At t × Bad e t
    dir_keeps path s t e at (inl (deep, is, same)) = rw (is, same) (at, keep.deep s)
    dir_keeps path s t e at (inr (inl (deep, refusal, none, is))) = unread_keeps s t path refusal e at none is
    dir_keeps path s t e at (inr (inr (deep, members, has, is))) = read_short s t path members e at has is

    one_removed : (work : Work) (works rest : List Work) (s t : S) (r : Line) → At s → RemovesOne view lists c work works s r t rest → At t × Fits r t
    one_removed (Whole path false) works rest s t r at (gone, call, is, same) = worked gone t r (keep.removes_file s t path gone at call) is
    one_removed (Emptied path) works rest s t r at (gone, call, is, same) = worked gone t r (keep.removes_dir s t path gone at call) is
    one_removed (Whole path true) works rest s t (Ok x) at (deep, members, has, same) = (keep.listed s t path members at has, tt)
    one_removed (Whole path true) works rest s t (Err e) at refuses = dir_keeps path s t e at refuses

    pub removes_keep : (works : List Work) (s t : S) (r : Line) → At s → Removes view lists c works s r t → At t × Fits r t
    removes_keep works s t r at (done u) = (at, tt)
    removes_keep works s t r at (short left u) = (at, keep.wanting s)
    removes_keep works s t r at (removes_more work left rest u m v line first later) =
        removes_keep rest m t r (one_removed work left rest s m (Ok tt) at first).0 later
    removes_keep works s t r at (removes_stopped work left rest u v e first) = one_removed work left rest s t (Err e) at first

    all_keeps : (path : WebPath) (dir : Bool) → Done silent → Keeps (RemovesAll view lists c path dir)
    all_keeps path dir old s t r at (all, removes, is) =
        let came = removes_keep (Whole path dir ∷ []) s t all at removes in (came.0, subst (λ g. Gives g t) (sym is) (line_gives all silent t old came.1))

    pub delete_keeps : (path : WebPath) (fields : Fields) → Judges (may_delete fields) → Done silent → Keeps (Deletes view lists c path fields)
    delete_keeps path fields may old s t r at =
        let run : Result Info FsError → Run S = λ found. RemovesAll view lists c path (is_dir_there found) in
        unless_keeps (fails_when (is_root path.names) 403) (LooksAtLink view lists c path (λ found. Unless (may_delete fields found) (run found))) s t r at
        (when_fits (is_root path.names) 403 s (keep.deep s)) (link_keeps path (may_delete fields) run may (λ found. all_keeps path (is_dir_there found) old))

    -- ---- COPY and MOVE

    into_keeps : (x : Transfer) (works rest : List Transfer) (s t : S) (r : Line) → At s → ReadsInto view lists c x works s r t rest → At t × Fits r t
    into_keeps x works rest s t (Ok y) at (members, has, same) = (keep.listed s t x.from members at has, tt)
    into_keeps x works rest s t (Err e) at (inl (refusal, none, is)) = unread_keeps s t x.from refusal e at none is
    into_keeps x works rest s t (Err e) at (inr (members, has, is)) = read_short s t x.from members e at has is

    module _ (alone : Bool) where
      entered_keeps : (skips : Bool) (x : Transfer) (works rest : List Transfer) (s t : S) (r : Line) → At s → Enters view lists c alone skips x works s r t rest → At t × Fits r t
      entered_keeps true x works rest s t r at (same, is, left) = rw (same, is) (at, tt)
      entered_keeps false x works rest s t r at reads = into_keeps x works rest s t r at reads

      after_keeps : (answer : Result Unit FsError) (x : Transfer) (works rest : List Transfer) (s t : S) (r : Line) → Left answer s
          → AfterMaking view lists c alone answer x works s r t rest → At t × Fits r t
      after_keeps (Ok y) x works rest s t r at enters = entered_keeps alone x works rest s t r at enters
      after_keeps (Err e) x works rest s t r left (same, is) = rw (same, is) (left.0, keep.refused e s left.1)

      dir_copied : (deep : Bool) (x : Transfer) (works rest : List Transfer) (s t : S) (r : Line) → At s → CopiesDir view lists c alone deep x works s r t rest → At t × Fits r t
      dir_copied true x works rest s t r at (same, is) = rw (same, is) (at, keep.deep s)
      dir_copied false x works rest s t r at (answer, m, call, after) = after_keeps answer x works rest m t r (keep.makes_dir s m x.to answer at call) after

      one_copied : (dir : Bool) (x : Transfer) (works rest : List Transfer) (s t : S) (r : Line) → At s → CopiesBy view lists c alone dir x works s r t rest → At t × Fits r t
      one_copied true x works rest s t r at copies = dir_copied (is_deep x.from) x works rest s t r at copies
      one_copied false x works rest s t r at (answer, call, is, left) = worked answer t r (keep.copies s t x.from x.to answer at call) is

      copies_keep : (works : List Transfer) (s t : S) (r : Line) → At s → Copies view lists c alone works s r t → At t × Fits r t
      copies_keep works s t r at (all_copied u) = (at, tt)
      copies_keep works s t r at (copied_short left u) = (at, keep.wanting s)
      copies_keep works s t r at (copies_more x left rest u m v line first later) =
          copies_keep rest m t r (one_copied x.dir x left rest s m (Ok tt) at first).0 later
      copies_keep works s t r at (copies_stopped x left rest u v e first) = one_copied x.dir x left rest s t (Err e) at first

    module _ (new : Done made) (old : Done silent) (asked : Asked) (x : Transfer) where
      goes_keeps : (moving : Bool) (outcome : Outcome) → Done outcome → Keeps (Goes view lists c moving asked x outcome)
      goes_keeps true outcome may s t r at (answer, call, is) =
          let left : Left answer t = keep.renames s t x.from x.to answer at call in
          (left_at answer t left, subst (λ g. Gives g t) (sym is) (call_gives answer outcome t may left))
      goes_keeps false outcome may s t r at (all, copies, is) =
          let came = copies_keep asked.alone (x ∷ []) s t all at copies in (came.0, subst (λ g. Gives g t) (sym is) (line_gives all outcome t may came.1))

      takes_keep : (there : Result Info FsError) → Keeps (TakesPlace view lists c asked x there)
      takes_keep (Ok info) s t r at (gone, m, removes, more) =
          let came = removes_keep (Whole asked.to (is_dir info.kind) ∷ []) s m gone at removes in
          unless_keeps gone (Goes view lists c asked.moving asked x silent) m t r came.0 came.1 (goes_keeps asked.moving silent old) more
      takes_keep (Err e) s t r at goes = goes_keeps asked.moving made new s t r at goes

    module _ (moving : Bool) (prefix : List ℕ) (path : WebPath) (fields : Fields) (judge : CarryJudges moving prefix path fields) (new : Done made) (old : Done silent) where
      leaves_keep : (asked : Asked) → Asks moving prefix fields (Ok asked) → (found : Result Info FsError) → Keeps (Leaves view lists c path fields asked found)
      leaves_keep asked asks found =
          let x = transfer path asked found in
          let arrives : Run S = LooksAtLink view lists c asked.to (Arrives view lists c asked x) in
          below_keeps asked.to (Unless (unmet (method_of asked.moving) fields found) arrives) judge.parent
          (λ s t r at. unless_keeps (unmet (method_of asked.moving) fields found) arrives s t r at (judge.met asked.moving found s)
          (link_keeps asked.to (may_take_place asked.replaces) (TakesPlace view lists c asked x) (judge.arrives asked asks) (takes_keep new old asked x)))

      carries_keep : (asked : Result Asked DavError) → Asks moving prefix fields asked → Keeps (Carries view lists c path fields asked)
      carries_keep (Err e) asks s t r at ends = ended (Err e) s t r at (judge.asked e s asks) ends
      carries_keep (Ok asked) asks s t r at looks =
          looks_keep path (may_leave (view.folding s) path asked.to) (Leaves view lists c path fields asked) (judge.leaves (view.folding s) asked.to) (leaves_keep asked asks) s t r at looks

      pub carry_keeps : Keeps (Next (CopyMoves view lists c moving prefix path fields))
      carry_keeps s t r at = next_keeps (CopyMoves view lists c moving prefix path fields) s t r at (λ (asked, asks, carries). carries_keep asked asks s t r at carries)
