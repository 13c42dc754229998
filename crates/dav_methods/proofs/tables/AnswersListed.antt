-- What the methods that write may answer over a store that refuses few things, by the calls that they make.
-- Headlines: `mkcol_listed`, `put_listed` and `delete_listed`.
use Rattle.std.proofs.Common.{◌≡◌, ◌≤◌, ℕ, List, true, Result, Ok, Err, inl, inr, refl, arith}
use Rattle.dav_io.specs.Counts.{Rose}
use Rattle.dav_core.specs.declared.dav_error.DavError.{DavError}
use Rattle.dav_core.specs.declared.error.FsError.{FsError}
use Rattle.dav_core.specs.declared.method.DavMethod.{DavMethod}
use Rattle.dav_core.specs.DavPath.{WebPath}
use Rattle.dav_core.specs.Info.{Info}
use Rattle.dav_core.specs.Statuses.{of_fs}
use Rattle.dav_store.specs.View.{Listings, View}
use Rattle.dav_model.specs.declared.outcome.Outcome.{Outcome}
use Rattle.dav_model.specs.Conditions.{Fields}
use Rattle.dav_model.specs.WellFormed.{is_among}
use Rattle.dav_model.specs.Written.{MayEnd, halt_statuses, may_close}
use Rattle.dav_methods.specs.Answers.{Answers, RefusedUsually, RefusesUsually, Usual}
use Rattle.dav_walks.specs.Lines.{Line}
use Rattle.dav_methods.specs.Lines.{Given, found_or_failed, may_delete, may_make, may_put, no_parent}
use Rattle.dav_walks.specs.Pouring.{Writes}
use Rattle.dav_methods.specs.Putting.{PutsWhole, put_options}
use Rattle.dav_walks.specs.Reading.{HasNoMembers}
use Rattle.dav_methods.specs.Deleting.{Deletes}
use Rattle.dav_methods.specs.Table.{MkCalendars, MkCols, Run}
use Rattle.dav_methods.proofs.tables.LinesListed.{Fine, IsListed, MayBe, calendar_fine, delete_fine, fs_listed, make_fine, not_500, parent_fine, replace_fine, undue}
use Rattle.dav_methods.proofs.tables.ReadingListed.{Refuses, members_count, refuses_wider, unread_refuses}
use Rattle.dav_methods.proofs.tables.TablesKept.{CallsKeep, Fits, Gives, Judges, Keeps, Left, delete_keeps, may_put_keeps, mkcalendar_keeps, mkcol_keeps, put_keeps}

module _ (verb : DavMethod) (prefix : List ℕ) (fields : Fields) where
  module _ {S C F : Type 0} (view : View S C F) where
    -- What is answered may be, and no fault is forgotten.
    pub record AnswersWell (s : S) (r : Given) (t : S) : Type 0 where
      pub counts : (view.state s).faults ≤ (view.state t).faults
      pub answers : Answers verb prefix fields view s r t

    abbrev pub RunsWell : Run S → Type 0
    RunsWell run = (s : S) (r : Given) (t : S) → run s r t → AnswersWell s r t

  module _ {S C F L E : Type 0} (view : View S C F) (lists : Listings S C L E) (writes : Writes F) (c : C) (few : RefusesUsually view lists writes c) where
    -- ---- what is kept, from a store on

    abbrev pub Counts : S → S → Type 0
    Counts s t = (view.state s).faults ≤ (view.state t).faults

    abbrev pub Refused : S → FsError → S → Type 0
    Refused s e t = Refuses view lists writes c few s e t

    abbrev pub Bad : S → DavError → S → Type 0
    Bad s e t = IsListed verb prefix fields (Rose (view.state s).faults (view.state t).faults) e

    abbrev pub Done : Outcome → Type 0
    Done outcome = MayBe verb prefix fields outcome

    -- from the store before a call to one that is left later
    left : {T : Type 0} (s m n t : S) (r : Result T FsError) → Counts s m → Usual (view.state m) r (view.state n) → Counts n t
        → Left view lists writes c (Counts s) (Refused s) (Bad s) Done r t
    left s m n t (Ok x) at usual after = let counts = usual.counts in omega (arith, at, counts, after)
    left s m n t (Err e) at usual after = let counts = usual.counts in (omega (arith, at, counts, after), refuses_wider view lists writes c few s m n t e at after usual.refused)

    pub calls_listed : (s : S) → CallsKeep view lists writes c (Counts s) (Refused s) (Bad s) Done
    calls_listed s = record {
      looks = λ m t path r at call. left s m t t r at (few.looks m t path r call) (omega arith);
      looks_at_link = λ m t path r at call. left s m t t r at (few.looks_at_link m t path r call) (omega arith);
      makes_dir = λ m t path r at call. left s m t t r at (few.makes_dir m t path r call) (omega arith);
      removes_dir = λ m t path r at call. left s m t t r at (few.removes_dir m t path r call) (omega arith);
      removes_file = λ m t path r at call. left s m t t r at (few.removes_file m t path r call) (omega arith);
      renames = λ m t from to r at call. left s m t t r at (few.renames m t from to r call) (omega arith);
      copies = λ m t from to r at call. left s m t t r at (few.copies m t from to r call) (omega arith);
      opens = λ m t path r at call. left s m t t r at (few.opens m t path put_options r call) (omega arith);
      fills = λ m n t f g bytes r at written closes. let counts = closes.done.counts in left s m n t r at (few.writes_file m n f g bytes r written) (omega (arith, counts));
      listed = λ m t path members at has. let counts = members_count view lists writes c few path members m t has in omega (arith, at, counts);
      unlisted = λ m t path e at none.
          let counts = none.keeps.counts in
          (omega (arith, at, counts), refuses_wider view lists writes c few s m t t e at (omega arith) (unread_refuses view lists writes c few path e m t none));
      refused = λ e t is. fs_listed verb prefix fields (Rose (view.state s).faults (view.state t).faults) e is.0 is.1;
      wanting = λ t. inl refl;
      deep = λ t. inr (refl, not_500 403 refl, (λ c. cc), undue verb prefix fields 403 refl refl);
    }

    -- ---- lines and answers

    pub usually : (s : S) (found : Result Info FsError) (t : S) → Left view lists writes c (Counts s) (Refused s) (Bad s) Done found t
        → RefusedUsually (view.state s) found (view.state t)
    usually s (Ok info) t left = tt
    usually s (Err e) t left = left.1

    pub fits : (s : S) (line : Line) (t : S) → Fine verb prefix fields (Rose (view.state s).faults (view.state t).faults) line
        → Fits view lists writes c (Counts s) (Refused s) (Bad s) Done line t
    fits s (Ok x) t fine = tt
    fits s (Err e) t fine = fine

    pub parent_judged : is_among 409 (halt_statuses verb) ≡ true → (s : S) → Judges view lists writes c (Counts s) (Refused s) (Bad s) Done no_parent
    parent_judged own s up t left = fits s (no_parent up) t (parent_fine verb prefix fields (view.state s) (view.state t) own up (usually s up t left))

    answers : (s : S) (r : Given) (t : S) → Gives view lists writes c (Counts s) (Refused s) (Bad s) Done r t → Answers verb prefix fields view s r t
    answers s (Ok outcome) t may = may
    answers s (Err e) t listed = listed

    pub keeps_well : (run : Run S) → ((s : S) → Keeps view lists writes c (Counts s) (Refused s) (Bad s) Done run) → RunsWell view run
    keeps_well run keeps s r t ran =
        let kept = keeps s s t r (omega arith) ran in record { counts = kept.0; answers = answers s r t kept.1 }

    -- ---- the tables

    pub mkcol_listed : is_among 409 (halt_statuses verb) ≡ true → is_among 412 (halt_statuses verb) ≡ true → MayEnd verb 201 → (path : WebPath) → RunsWell view (MkCols view c path fields)
    mkcol_listed up own new path =
        keeps_well (MkCols view c path fields)
        (λ s. mkcol_keeps view lists writes c (Counts s) (Refused s) (Bad s) Done (calls_listed s) path fields
        (λ found t left. fits s (may_make fields found) t (make_fine verb prefix fields (view.state s) (view.state t) own found (usually s found t left)))
        (parent_judged up s) (inl (refl, new)))

    pub mkcalendar_listed : may_close verb ≡ true → MayEnd verb 201 → (path : WebPath) → RunsWell view (MkCalendars view c path)
    mkcalendar_listed may new path =
        keeps_well (MkCalendars view c path)
        (λ s. mkcalendar_keeps view lists writes c (Counts s) (Refused s) (Bad s) Done (calls_listed s) path
        (λ found t left. fits s (found_or_failed found) t (calendar_fine verb prefix fields (view.state s) (view.state t) may found (usually s found t left))) (inl (refl, new)))

    pub put_listed : is_among 409 (halt_statuses verb) ≡ true → is_among 412 (halt_statuses verb) ≡ true → MayEnd verb 201 → MayEnd verb 204 → (path : WebPath) (bytes : List ℕ)
        → RunsWell view (PutsWhole view writes c path fields bytes)
    put_listed up own new old path bytes =
        keeps_well (PutsWhole view writes c path fields bytes)
        (λ s. put_keeps view lists writes c (Counts s) (Refused s) (Bad s) Done (calls_listed s) path fields bytes
        (may_put_keeps view lists writes c (Counts s) (Refused s) (Bad s) Done (calls_listed s) path fields (λ t. inr (refl, not_500 405 refl, (λ c. cc), undue verb prefix fields 405 refl refl)) (parent_judged up s)
        (λ found t left. fits s (may_put fields found) t (replace_fine verb prefix fields (view.state s) (view.state t) own found (usually s found t left)))
        (inl (refl, new)) (inr (refl, old))))

    pub delete_listed : is_among 412 (halt_statuses verb) ≡ true → MayEnd verb 204 → (path : WebPath) → RunsWell view (Deletes view lists c path fields)
    delete_listed own old path =
        keeps_well (Deletes view lists c path fields)
        (λ s. delete_keeps view lists writes c (Counts s) (Refused s) (Bad s) Done (calls_listed s) path fields
        (λ found t left. fits s (may_delete fields found) t (delete_fine verb prefix fields (view.state s) (view.state t) own found (usually s found t left))) (inr (refl, old)))

    -- a directory that isn't listed
    pub unread_listed : (path : WebPath) (e : FsError) (s t : S) → HasNoMembers view lists s c path e t → IsListed verb prefix fields (Rose (view.state s).faults (view.state t).faults) (of_fs e)
    unread_listed path e s t has =
        let is = unread_refuses view lists writes c few path e s t has in fs_listed verb prefix fields (Rose (view.state s).faults (view.state t).faults) e is.0 is.1
