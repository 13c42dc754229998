-- The tables of the methods that write, over the calls of any store: which calls are made one after the other, and what
-- is answered by the answer of each. Here are the words in which they are written, and the tables of the methods that
-- make a directory.
use Rattle.std.specs.Prelude.{◌≡◌, ◌⊎◌, Result, Ok, Err}
use Rattle.dav_core.specs.declared.dav_error.DavError.TheVariants.{NoMemory}
use Rattle.dav_core.specs.declared.error.FsError.{FsError}
use Rattle.dav_core.specs.DavPath.{WebPath}
use Rattle.dav_core.specs.Info.{Info}
use Rattle.dav_core.specs.Statuses.{of_fs}
use Rattle.dav_store.specs.View.{View}
use Rattle.dav_model.specs.declared.outcome.Outcome.{Outcome}
use Rattle.dav_model.specs.Conditions.{Fields}
use Rattle.dav_walks.specs.Lines.{Line, above}
use Rattle.dav_methods.specs.Lines.{Given, found_or_failed, made, may_make, no_parent}

-- from a store, an answer and the store that is left
abbrev pub Run : Type 0 → Type 1
Run S = S → Given → S → Type 0

abbrev pub Ends : {S : Type 0} → Given → Run S
Ends given s r t = (t ≡ s) × (r ≡ given)

-- Memory may be refused in place of what follows.
abbrev pub Next : {S : Type 0} → Run S → Run S
Next run s r t = Ends (Err NoMemory) s r t ⊎ run s r t

-- A line that fits ends the request.
abbrev pub Unless : {S : Type 0} → Line → Run S → Run S
Unless (Ok x) run s r t = run s r t
Unless (Err e) run s r t = Ends (Err e) s r t

-- the answer of the last call: this where it was done
abbrev pub answered : Outcome → Result Unit FsError → Given
answered outcome (Ok x) = Ok outcome
answered outcome (Err e) = Err (of_fs e)

module _ {S C F : Type 0} (view : View S C F) (c : C) where
  -- A look at a path, and what follows by what it found.
  abbrev pub Looks : WebPath → (Result Info FsError → Run S) → Run S
  Looks path run s r t = (found : Result Info FsError) × (m : S) × view.looks s c path found m × Next (run found) m r t

  -- What follows where a directory stands above a path.
  abbrev pub Below : WebPath → Run S → Run S
  Below path run = Looks (above path) (λ up. Unless (no_parent up) run)

  -- A directory is made at a path, and what follows by the answer.
  abbrev pub MakesDir : WebPath → (Result Unit FsError → Run S) → Run S
  MakesDir path run s r t = (answer : Result Unit FsError) × (m : S) × view.makes_dir s c path answer m
      × run answer m r t

  -- The last act: a directory is made.
  abbrev pub EndsMade : WebPath → Run S
  EndsMade path = MakesDir path (λ answer. Ends (answered made answer))

  abbrev pub MkCols : WebPath → Fields → Run S
  MkCols path fields = Looks path (λ found. Unless (may_make fields found) (Below path (EndsMade path)))

  -- MKCALENDAR and MKADDRESSBOOK
  abbrev pub MkCalendars : WebPath → Run S
  MkCalendars path = Looks path (λ found. Unless (found_or_failed found) (EndsMade path))
