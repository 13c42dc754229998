-- The calls that a method that writes makes lead to the store that is left, in every outcome.
-- Headline: `writes_lead`.
use Rattle.std.proofs.Common.{ℕ, List, Bool, true, false, Result, Ok, Err}
use Rattle.dav_core.specs.declared.dav_error.DavError.{DavError}
use Rattle.dav_core.specs.declared.error.FsError.{FsError}
use Rattle.dav_core.specs.declared.method.DavMethod.{DavMethod}
use Rattle.dav_core.specs.declared.method.DavMethod.TheVariants.{Copy, Delete, MkCol, Move, Put}
use Rattle.dav_core.specs.DavPath.{WebPath}
use Rattle.dav_core.specs.Info.{Info}
use Rattle.dav_store.specs.View.{Listings, View}
use Rattle.dav_model.specs.declared.outcome.Outcome.{Outcome}
use Rattle.dav_model.specs.CarryPlans.{method_of}
use Rattle.dav_model.specs.Conditions.{Fields}
use Rattle.dav_methods.specs.Carrying.{may_leave, may_take_place}
use Rattle.dav_methods.specs.Changing.{Changes}
use Rattle.dav_walks.specs.Follows as on
use Rattle.dav_walks.specs.Lines.{Line}
use Rattle.dav_methods.specs.Lines.{Given, found_or_failed, may_delete, may_make, may_put, no_parent, unmet}
use Rattle.dav_walks.specs.Pouring.{Writes}
use Rattle.dav_methods.specs.Putting.{put_options}
use Rattle.dav_walks.proofs.calls.ListingsLead as lead
use Rattle.dav_methods.proofs.tables.TablesKept.{CallsKeep, CarryJudges, Fits, Judges, Left, carry_keeps, delete_keeps, may_put_keeps, mkcalendar_keeps, mkcol_keeps, put_keeps}

module _ {S C F L E : Type 0} (view : View S C F) (lists : Listings S C L E) (writes : Writes F) (c : C) (s : S) where
  abbrev Reach : S → Type 0
  Reach = on.Reached view lists writes c s

  -- Nothing is asked of refusals, errors and outcomes.
  abbrev Refused : FsError → S → Type 0
  Refused e t = Unit {0}

  abbrev Bad : DavError → S → Type 0
  Bad e t = Unit {0}

  abbrev Done : Outcome → Type 0
  Done outcome = Unit {0}

  left : {T : Type 0} (r : Result T FsError) (t : S) → Reach t → Left view lists writes c Reach Refused Bad Done r t
  left (Ok x) t came = came
  left (Err e) t came = (came, tt)

  fits : (line : Line) (t : S) → Fits view lists writes c Reach Refused Bad Done line t
  fits (Ok x) t = tt
  fits (Err e) t = tt

  judges : (line : Result Info FsError → Line) → Judges view lists writes c Reach Refused Bad Done line
  judges line found t came = fits (line found) t

  calls_lead : CallsKeep view lists writes c Reach Refused Bad Done
  calls_lead = record {
    looks = λ m t path r came call. left r t (on.looks m t path r came call);
    looks_at_link = λ m t path r came call. left r t (on.looks_at_link m t path r came call);
    makes_dir = λ m t path r came call. left r t (on.makes_dir m t path r came call);
    removes_dir = λ m t path r came call. left r t (on.removes_dir m t path r came call);
    removes_file = λ m t path r came call. left r t (on.removes_file m t path r came call);
    renames = λ m t from to r came call. left r t (on.renames m t from to r came call);
    copies = λ m t from to r came call. left r t (on.copies m t from to r came call);
    opens = λ m t path r came call. left r t (on.opens m t path put_options r came call);
    fills = λ m n t f g bytes r came written closes. left r t (on.ends_file n t g (on.writes_file m n f g bytes r came written) closes);
    listed = λ m t path members came has. lead.listed_on view lists writes c s m t path has.listed came has.was;
    unlisted = λ m t path e came none. (lead.unread_on view lists writes c s m t path e came none.why, tt);
    refused = λ e t is. tt;
    wanting = λ t. tt;
    deep = λ t. tt;
  }

  carry_judges : (moving : Bool) (prefix : List ℕ) (path : WebPath) (fields : Fields) → CarryJudges view lists writes c Reach Refused Bad Done moving prefix path fields
  carry_judges moving prefix path fields = record {
    asked = λ e t asks. tt;
    leaves = λ folds to. judges (may_leave folds path to);
    parent = judges no_parent;
    met = λ moves found t. fits (unmet (method_of moves) fields found) t;
    arrives = λ asked asks. judges (may_take_place asked.replaces);
  }

  -- The calls of a method that writes lead to the store that is left.
  pub writes_lead : (method : DavMethod) (prefix : List ℕ) (path : WebPath) (fields : Fields) (bytes : List ℕ) (r : Given) (t : S)
      → Changes view lists writes c method prefix path fields bytes s r t → on.Reached view lists writes c s t
  writes_lead Put prefix path fields bytes r t ran =
      (put_keeps view lists writes c Reach Refused Bad Done calls_lead path fields bytes
      (may_put_keeps view lists writes c Reach Refused Bad Done calls_lead path fields (λ u. tt) (judges no_parent) (judges (may_put fields)) tt tt) s t r on.here ran).0
  writes_lead MkCol prefix path fields bytes r t ran =
      (mkcol_keeps view lists writes c Reach Refused Bad Done calls_lead path fields (judges (may_make fields)) (judges no_parent) tt s t r on.here ran).0
  writes_lead Delete prefix path fields bytes r t ran =
      (delete_keeps view lists writes c Reach Refused Bad Done calls_lead path fields (judges (may_delete fields)) tt s t r on.here ran).0
  writes_lead Copy prefix path fields bytes r t ran =
      (carry_keeps view lists writes c Reach Refused Bad Done calls_lead false prefix path fields (carry_judges false prefix path fields) tt tt s t r on.here ran).0
  writes_lead Move prefix path fields bytes r t ran =
      (carry_keeps view lists writes c Reach Refused Bad Done calls_lead true prefix path fields (carry_judges true prefix path fields) tt tt s t r on.here ran).0
  writes_lead other prefix path fields bytes r t ran =
      (mkcalendar_keeps view lists writes c Reach Refused Bad Done calls_lead path (judges found_or_failed) tt s t r on.here ran).0
