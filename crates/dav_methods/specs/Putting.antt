-- PUT over the calls of any store (RFC 9110, section 9.3.4, and RFC 4918, section 9.7).
use Rattle.std.specs.Prelude.{◌≡◌, ℕ, List, true, false, Result, Ok, Err}
use Rattle.dav_core.specs.declared.error.FsError.{FsError}
use Rattle.dav_core.specs.declared.handle.OpenOptions.{OpenOptions}
use Rattle.dav_core.specs.DavPath.{WebPath}
use Rattle.dav_core.specs.Statuses.{of_fs}
use Rattle.dav_store.specs.Bodies.{BodyState}
use Rattle.dav_store.specs.Frames.{OpensOne}
use Rattle.dav_store.specs.View.{View, Closes}
use Rattle.dav_model.specs.declared.outcome.Outcome.{Outcome}
use Rattle.dav_model.specs.Conditions.{Fields}
use Rattle.dav_walks.specs.Lines.{Line, fails_when}
use Rattle.dav_methods.specs.Lines.{Given, done_over, may_put, unless}
use Rattle.dav_walks.specs.Pouring.{Pours, Writes, WritesFile}
use Rattle.dav_walks.specs.Removing.{line_of}
use Rattle.dav_methods.specs.Table.{Below, Ends, Looks, Next, Run, Unless}

-- How the file of a PUT is opened: it is made where nothing stands, and emptied where a file does.
abbrev pub put_options : OpenOptions
put_options = record { read = false; write = true; append = false; truncate = true; create = true; create_new = false }

module _ {S C F : Type 0} (view : View S C F) (c : C) where
  -- what the path itself allows
  abbrev pub MayReplace : WebPath → Fields → Run S
  MayReplace path fields = Looks view c path (λ found. Ends (unless (may_put fields found) (done_over found)))

  -- What a PUT is answered with where all goes well, or what refuses it before anything is opened.
  abbrev pub MayPut : WebPath → Fields → Run S
  MayPut path fields = Unless (fails_when path.slash 405) (Next (Below view c path (MayReplace path fields)))

module _ {S C F : Type 0} (view : View S C F) (writes : Writes F) (c : C) where
  -- The body went into a file that was opened, and the file was closed. The reader is `b` before and `n` after.
  pub record PoursInto (f : F) (outcome : Outcome) (b : BodyState) (s : S) (r : Given) (t : S) (n : BodyState)
      : Type 0 where
    pub ended : Line
    pub full : S
    pub file : F
    pub pours : Pours view writes s f b ended full file n
    pub closes : Closes view full file t
    pub answer : r ≡ unless ended outcome

  abbrev pub AfterOpening : Result F FsError → Outcome → BodyState → S → Given → S → BodyState → Type 0
  AfterOpening (Err e) outcome b s r t n = Ends (Err (of_fs e)) s r t × (n ≡ b)
  AfterOpening (Ok f) outcome b s r t n = PoursInto f outcome b s r t n

  abbrev pub AfterChecks : Given → WebPath → BodyState → S → Given → S → BodyState → Type 0
  AfterChecks (Err e) path b s r t n = Ends (Err e) s r t × (n ≡ b)
  AfterChecks (Ok outcome) path b s r t n = (opened : Result F FsError) × (m : S)
      × view.opens s c path put_options opened m
      × OpensOne view.file put_options (view.state s) opened (view.state m)
      × AfterOpening opened outcome b m r t n

  abbrev pub Puts : WebPath → Fields → BodyState → S → Given → S → BodyState → Type 0
  Puts path fields b s r t n = (may : Given) × (m : S) × MayPut view c path fields s may m
      × AfterChecks may path b m r t n

  -- ---- a body that is in memory

  -- All bytes were written to a file that was opened, and the file was closed.
  pub record WritesInto (f : F) (outcome : Outcome) (bytes : List ℕ) (s : S) (r : Given) (t : S) : Type 0 where
    pub ended : Result Unit FsError
    pub full : S
    pub file : F
    pub written : WritesFile view writes s f bytes ended full file
    pub closes : Closes view full file t
    pub answer : r ≡ unless (line_of ended) outcome

  abbrev pub AfterOpeningWhole : Result F FsError → Outcome → List ℕ → Run S
  AfterOpeningWhole (Err e) outcome bytes = Ends (Err (of_fs e))
  AfterOpeningWhole (Ok f) outcome bytes = WritesInto f outcome bytes

  abbrev pub AfterChecksWhole : Given → WebPath → List ℕ → Run S
  AfterChecksWhole (Err e) path bytes s r t = Ends (Err e) s r t
  AfterChecksWhole (Ok outcome) path bytes s r t = (opened : Result F FsError) × (m : S)
      × view.opens s c path put_options opened m
      × OpensOne view.file put_options (view.state s) opened (view.state m)
      × AfterOpeningWhole opened outcome bytes m r t

  abbrev pub PutsWhole : WebPath → Fields → List ℕ → Run S
  PutsWhole path fields bytes s r t = (may : Given) × (m : S) × MayPut view c path fields s may m
      × AfterChecksWhole may path bytes m r t
