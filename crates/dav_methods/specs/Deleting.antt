-- DELETE over the calls of any store (RFC 9110, section 9.3.5, and RFC 4918, section 9.6): what stands at a path is
-- removed, a directory's members before it.
use Rattle.std.specs.Prelude.{◌≡◌, [], ◌∷◌, Bool, true, false, Result}
use Rattle.dav_core.specs.declared.error.FsError.{FsError}
use Rattle.dav_core.specs.DavPath.{WebPath}
use Rattle.dav_core.specs.Info.{Info}
use Rattle.dav_core.specs.Path.{Names}
use Rattle.dav_store.specs.View.{View, Listings}
use Rattle.dav_model.specs.Conditions.{Fields}
use Rattle.dav_walks.specs.declared.work.Work.TheVariants.{Whole}
use Rattle.dav_walks.specs.Lines.{Line, fails_when}
use Rattle.dav_walks.specs.Removing.{Removes}
use Rattle.dav_methods.specs.Lines.{is_dir_there, may_delete, silent, unless}
use Rattle.dav_methods.specs.Table.{Next, Run, Unless}

abbrev pub is_root : Names → Bool
is_root [] = true
is_root (name ∷ names) = false

module _ {S C F L E : Type 0} (view : View S C F) (lists : Listings S C L E) (c : C) where
  -- A look at a path, links not followed, and what follows by what it found.
  abbrev pub LooksAtLink : WebPath → (Result Info FsError → Run S) → Run S
  LooksAtLink path run s r t = (found : Result Info FsError) × (m : S) × view.looks_at_link s c path found m
      × Next (run found) m r t

  -- What stands at a path is removed, with all below it.
  abbrev pub RemovesAll : WebPath → Bool → Run S
  RemovesAll path dir s r t = (all : Line) × Removes view lists c (Whole path dir ∷ []) s all t × (r ≡ unless all silent)

  abbrev pub Deletes : WebPath → Fields → Run S
  Deletes path fields = Unless (fails_when (is_root path.names) 403) (LooksAtLink path (λ found.
      Unless (may_delete fields found) (RemovesAll path (is_dir_there found))))
