-- COPY and MOVE over the calls of any store (RFC 4918, sections 9.8 and 9.9): what stands at a path is copied to the
-- destination or moved there, in place of what stands there.
use Rattle.std.specs.Prelude.{◌≡◌, ◌&&◌, ℕ, List, [], ◌∷◌, Bool, true, false, not, Result, Ok, Err}
use Rattle.dav_core.specs.declared.dav_error.DavError.{DavError}
use Rattle.dav_core.specs.declared.error.FsError.{FsError}
use Rattle.dav_core.specs.DavPath.{WebPath}
use Rattle.dav_core.specs.Info.{Info}
use Rattle.dav_core.specs.Tree.{is_dir}
use Rattle.dav_store.specs.View.{View, Listings}
use Rattle.dav_model.specs.declared.outcome.Outcome.{Outcome}
use Rattle.dav_model.specs.CarryPlans.{method_of}
use Rattle.dav_model.specs.Conditions.{Fields}
use Rattle.dav_model.specs.declared.asked.Asked.{Asked}
use Rattle.dav_walks.specs.declared.transfer.Transfer.{Transfer}
use Rattle.dav_walks.specs.declared.work.Work.TheVariants.{Whole}
use Rattle.dav_walks.specs.Copying.{Copies}
use Rattle.dav_model.specs.Destination.{Asks}
use Rattle.dav_walks.specs.Lines.{Line, fails_when}
use Rattle.dav_methods.specs.declared.carrying.Carriage.{Carriage}
use Rattle.dav_methods.specs.Lines.{first_of, is_dir_there, is_there, made, refused, refused_but_missing, silent, unless, unmet}
use Rattle.dav_model.specs.Overlap.{overlap}
use Rattle.dav_walks.specs.Removing.{Removes}
use Rattle.dav_methods.specs.Deleting.{LooksAtLink}
use Rattle.dav_methods.specs.Table.{Below, Ends, Looks, Next, Run, Unless, answered}

-- What was found at the source lets a request go on.
abbrev pub may_leave : Bool → WebPath → WebPath → Result Info FsError → Line
may_leave folds from to found = first_of (refused found ∷ fails_when (overlap folds from.names to.names) 403 ∷ [])

-- What was found at the destination lets it go on.
abbrev pub may_take_place : Bool → Result Info FsError → Line
may_take_place replaces there = first_of (refused_but_missing there ∷ fails_when (is_there there && not replaces) 412
    ∷ [])

-- what goes from the source, by what was found there
abbrev pub transfer : WebPath → Asked → Result Info FsError → Transfer
transfer path asked found = record { from = path; to = asked.to; dir = is_dir_there found }

-- the same for what a private function holds
abbrev pub carried : Carriage → Transfer
carried carriage = record { from = carriage.path.now; to = carriage.asked.to; dir = carriage.dir }

module _ {S C F L E : Type 0} (view : View S C F) (lists : Listings S C L E) (c : C) where
  -- What follows by whether the store folds names.
  abbrev pub ByFolding : (Bool → Run S) → Run S
  ByFolding run s r t = run (view.folding s) s r t

  -- the last act, by whether it is a MOVE
  abbrev pub Goes : Bool → Asked → Transfer → Outcome → Run S
  Goes true asked x outcome s r t = (moved : Result Unit FsError) × view.renames s c x.from x.to moved t
      × (r ≡ answered outcome moved)
  Goes false asked x outcome s r t = (all : Line) × Copies view lists c asked.alone (x ∷ []) s all t
      × (r ≡ unless all outcome)

  -- What stands at the destination, which may be a directory, is removed with all below it, and then the last act is
  -- done.
  abbrev pub Replaces : Asked → Transfer → Bool → Run S
  Replaces asked x dir s r t = (gone : Line) × (m : S) × Removes view lists c (Whole asked.to dir ∷ []) s gone m
      × Unless gone (Goes asked.moving asked x silent) m r t

  -- the same where what stands at the destination was looked at
  abbrev pub TakesPlace : Asked → Transfer → Result Info FsError → Run S
  TakesPlace asked x (Ok info) = Replaces asked x (is_dir info.kind)
  TakesPlace asked x (Err e) = Goes asked.moving asked x made

  -- what follows a look at the destination
  abbrev pub Arrives : Asked → Transfer → Result Info FsError → Run S
  Arrives asked x there = Unless (may_take_place asked.replaces there) (TakesPlace asked x there)

  -- what follows a look at the source
  abbrev pub Leaves : WebPath → Fields → Asked → Result Info FsError → Run S
  Leaves path fields asked found = Below view c asked.to (Unless (unmet (method_of asked.moving) fields found)
      (LooksAtLink view lists c asked.to (Arrives asked (transfer path asked found))))

  -- what is done where the fields ask for this
  abbrev pub Carries : WebPath → Fields → Result Asked DavError → Run S
  Carries path fields (Err e) = Ends (Err e)
  Carries path fields (Ok asked) = ByFolding (λ folds. Looks view c path (λ found.
      Unless (may_leave folds path asked.to found) (Leaves path fields asked found)))

  -- The fields are read under a prefix.
  abbrev pub CopyMoves : Bool → List ℕ → WebPath → Fields → Run S
  CopyMoves moving prefix path fields s r t = (asked : Result Asked DavError) × Asks moving prefix fields asked
      × Carries path fields asked s r t

  abbrev pub CopiesTo : List ℕ → WebPath → Fields → Run S
  CopiesTo prefix path fields = Next (CopyMoves false prefix path fields)

  abbrev pub MovesTo : List ℕ → WebPath → Fields → Run S
  MovesTo prefix path fields = Next (CopyMoves true prefix path fields)
