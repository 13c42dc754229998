-- A line of a table that ends a request does so with an error that its method may answer, over a store that refuses few
-- things.
use Rattle.std.proofs.Common.{◌≡◌, ◌⊎◌, ◌==◌, ◌||◌, is_some, codes, inl, inr, ℕ, Bool, true, false, cond, List, [], ◌∷◌, Option, None, Some, Result, Ok, Err, refl, sym, subst}
use Rattle.dav_io.specs.Counts.{Rose}
use Rattle.dav_core.specs.declared.dav_error.DavError.{DavError}
use Rattle.dav_core.specs.declared.error.FsError.{FsError}
use Rattle.dav_core.specs.declared.error.FsError.TheVariants as fs
use Rattle.dav_core.specs.declared.etag.ETag.{ETag}
use Rattle.dav_core.specs.declared.etag_list.EtagList.{EtagList}
use Rattle.dav_core.specs.declared.method.DavMethod.{DavMethod}
use Rattle.dav_core.specs.declared.method.DavMethod.TheVariants.{Delete, MkCol, Put}
use Rattle.dav_core.specs.declared.time.FileTime.{FileTime}
use Rattle.dav_core.specs.Disk.{DiskState}
use Rattle.dav_core.specs.Info.{Info}
use Rattle.dav_core.specs.Statuses.{closes, lacks_memory, of_fs, status_of}
use Rattle.dav_core.proofs.UnchangedLemmas.{other_keys}
use Rattle.dav_model.specs.declared.outcome.Outcome.{Outcome}
use Rattle.dav_model.specs.Causes.{IsDueTo, Spares, has_condition}
use Rattle.dav_model.specs.Conditions.{Fields, condition, condition_of, date_in, is_refused, list_in, reads, repeated}
use Rattle.dav_model.specs.WellFormed.{is_among}
use Rattle.dav_model.specs.Written.{MayEnd, halt_statuses, may_close}
use Rattle.dav_methods.specs.Answers.{RefusedUsually, is_usual}
use Rattle.dav_walks.specs.Lines.{Line, fails_when}
use Rattle.dav_methods.specs.Lines.{first_of, found_or_failed, info_there, is_dir_there, is_there, made, may_delete, may_make, may_put, no_parent, refused, refused_but_missing, silent, unmet, with_status}

-- no failure
pub not_500 : {rose : Type 0} (status : ℕ) → (status == 500) ≡ false → status ≡ 500 → rose
not_500 status other e = absurd (other_keys status 500 other e)

-- ---- preconditions

-- A precondition that isn't met gives 412 to a method that doesn't read, and can be read.
repeated_as : (b : Bool) (status : ℕ) → cond b (Some (cond false 304 412)) None ≡ Some status → status ≡ 412
repeated_as true status e = cc
repeated_as false status e = cc

repeated_unmet : (method : DavMethod) (list : Option EtagList) (date : Option ℕ) (stands : Bool) (tag : Option ETag) (time : Option FileTime) (status : ℕ) → reads method ≡ false
    → repeated method list date stands tag time ≡ Some status → status ≡ 412
repeated_unmet method (Some list) date stands tag time status writes e = repeated_as _ status (rw writes at e)
repeated_unmet method None (Some date) stands tag time status writes e =
    let none : ◌≡◌ {A = Option ℕ} None (Some status) = rw writes at e in cc
repeated_unmet method None None stands tag time status writes e = cc

refused_or : (b : Bool) (other : Option ℕ) (status : ℕ) → (other ≡ Some status → status ≡ 412) → cond b (Some 412) other ≡ Some status → status ≡ 412
refused_or true other status later e = cc
refused_or false other status later e = later e

pub unmet_status : (method : DavMethod) (fields : Fields) (stands : Bool) (tag : Option ETag) (time : Option FileTime) (status : ℕ) → reads method ≡ false
    → condition method fields stands tag time ≡ Some status → status ≡ 412
unmet_status method fields stands tag time status writes e =
    refused_or _ _ status (repeated_unmet method _ _ stands tag time status writes) e

read_refused : (match : Option EtagList) (date : Option ℕ) (stands : Bool) (tag : Option ETag) (time : Option FileTime) → is_refused match date stands tag time ≡ true
    → (is_some match || is_some date) ≡ true
read_refused (Some list) date stands tag time e = refl
read_refused None (Some date) stands tag time e = refl
read_refused None None stands tag time e = cc

read_repeated : (method : DavMethod) (none : Option EtagList) (date : Option ℕ) (stands : Bool) (tag : Option ETag) (time : Option FileTime) (status : ℕ) → reads method ≡ false
    → repeated method none date stands tag time ≡ Some status → is_some none ≡ true
read_repeated method (Some list) date stands tag time status writes e = refl
read_repeated method None (Some date) stands tag time status writes e =
    let none : ◌≡◌ {A = Option ℕ} None (Some status) = rw writes at e in cc
read_repeated method None None stands tag time status writes e = cc

-- of three that may be read
read_first : (a b c : Bool) → (a || b) ≡ true → (a || (b || c)) ≡ true
read_first true b c e = refl
read_first false true c e = refl
read_first false false c e = cc

read_last : (a b c : Bool) → c ≡ true → (a || (b || c)) ≡ true
read_last true b c e = refl
read_last false true c e = refl
read_last false false c e = e

read_either : (b : Bool) (others : Option ℕ) (status : ℕ) (A : Type 0) → (b ≡ true → A) → (others ≡ Some status → A) → cond b (Some 412) others ≡ Some status → A
read_either true others status A first last e = first refl
read_either false others status A first last e = last e

has_read : (method : DavMethod) (fields : Fields) (stands : Bool) (tag : Option ETag) (time : Option FileTime) (status : ℕ) → reads method ≡ false
    → condition method fields stands tag time ≡ Some status → has_condition fields ≡ true
has_read method fields stands tag time status writes e =
    read_either _ _ status (has_condition fields ≡ true)
    (λ refused. read_first (is_some (list_in fields (codes "if-match"))) (is_some (date_in fields (codes "if-unmodified-since"))) (is_some (list_in fields (codes "if-none-match")))
    (read_refused (list_in fields (codes "if-match")) (date_in fields (codes "if-unmodified-since")) stands tag time refused))
    (λ again. read_last (is_some (list_in fields (codes "if-match"))) (is_some (date_in fields (codes "if-unmodified-since"))) (is_some (list_in fields (codes "if-none-match")))
    (read_repeated method (list_in fields (codes "if-none-match")) (date_in fields (codes "if-modified-since")) stands tag time status writes again)) e

has_read_as : (method : DavMethod) (fields : Fields) (info : Option Info) (status : ℕ) → reads method ≡ false → condition_of method fields info ≡ Some status → has_condition fields ≡ true
has_read_as method fields None status writes e = has_read method fields false None None status writes e
has_read_as method fields (Some info) status writes e = has_read method fields true _ info.modified status writes e

unmet_as : (method : DavMethod) (fields : Fields) (info : Option Info) (status : ℕ) → reads method ≡ false → condition_of method fields info ≡ Some status → status ≡ 412
unmet_as method fields None status writes e = unmet_status method fields false None None status writes e
unmet_as method fields (Some info) status writes e = unmet_status method fields true _ info.modified status writes e

module _ (verb : DavMethod) (prefix : List ℕ) (fields : Fields) where
  -- ---- errors and lines

  -- what may be answered where all was done
  abbrev pub MayBe : Outcome → Type 0
  MayBe outcome = ((outcome ≡ made) × MayEnd verb 201) ⊎ ((outcome ≡ silent) × MayEnd verb 204)

  -- an error that may be answered
  abbrev pub IsListed : Type 0 → DavError → Type 0
  IsListed rose e = (lacks_memory e ≡ true) ⊎ ((is_among (status_of e) (halt_statuses verb) ≡ true) × (status_of e ≡ 500 → rose) × (closes e ≡ true → (status_of e ≡ 405) × (may_close verb ≡ true)) × IsDueTo verb prefix fields (status_of e))

  -- a line that ends a request does so with such an error
  abbrev pub Fine : Type 0 → Line → Type 0
  Fine rose (Ok x) = Unit {0}
  Fine rose (Err e) = IsListed rose e

  -- a status of which no field is the cause
  pub undue : (status : ℕ) → (status == 400) ≡ false → (status == 412) ≡ false → IsDueTo verb prefix fields status
  undue status bad unmet = record { asked = λ e. absurd (other_keys status 400 bad e); unmet = λ e. absurd (other_keys status 412 unmet e) }

  -- 412, with its cause
  pub due_412 : (has_condition fields ≡ true) ⊎ Spares verb fields → IsDueTo verb prefix fields 412
  due_412 why = record { asked = λ e. absurd (other_keys 412 400 refl e); unmet = λ e. why }

  pub fs_listed : (rose : Type 0) (e : FsError) → is_usual e ≡ true → (e ≡ fs.GeneralFailure → rose) → IsListed rose (of_fs e)
  fs_listed rose fs.NotFound u f = inr (refl, not_500 404 refl, (λ c. cc), undue 404 refl refl)
  fs_listed rose fs.Forbidden u f = inr (refl, not_500 403 refl, (λ c. cc), undue 403 refl refl)
  fs_listed rose fs.Exists u f = inr (refl, not_500 405 refl, (λ c. cc), undue 405 refl refl)
  fs_listed rose fs.GeneralFailure u f = inr (refl, (λ e. f refl), (λ c. cc), undue 500 refl refl)
  fs_listed rose fs.NoMemory u f = inl refl
  fs_listed rose other u f = cc

  pub when_fine : (rose : Type 0) (b : Bool) (status : ℕ) → is_among status (halt_statuses verb) ≡ true → (status ≡ 500 → rose) → (b ≡ true → IsDueTo verb prefix fields status) → Fine rose (fails_when b status)
  when_fine rose true status listed failed due = inr (listed, failed, (λ c. cc), due refl)
  when_fine rose false status listed failed due = tt

  status_fine : (rose : Type 0) (o : Option ℕ) → is_among 412 (halt_statuses verb) ≡ true → ((status : ℕ) → o ≡ Some status → status ≡ 412) → ((status : ℕ) → o ≡ Some status → has_condition fields ≡ true)
      → Fine rose (with_status o)
  status_fine rose None own is has = tt
  status_fine rose (Some status) own is has =
      let e : status ≡ 412 = is status refl in
      inr (subst (λ z. is_among z (halt_statuses verb) ≡ true) (sym e) own, rw e (not_500 412 refl), (λ c. cc), subst (IsDueTo verb prefix fields) (sym e) (due_412 (inl (has status refl))))

  pub unmet_fine : (rose : Type 0) (method : DavMethod) (found : Result Info FsError) → is_among 412 (halt_statuses verb) ≡ true → reads method ≡ false → Fine rose (unmet method fields found)
  unmet_fine rose method found own writes =
      status_fine rose (condition_of method fields (info_there found)) own (λ status e. unmet_as method fields (info_there found) status writes e)
      (λ status e. has_read_as method fields (info_there found) status writes e)

  -- of several lines
  pub fine_then : (rose : Type 0) (line : Line) (lines : List Line) → Fine rose line → Fine rose (first_of lines) → Fine rose (first_of (line ∷ lines))
  fine_then rose (Ok x) lines p q = q
  fine_then rose (Err e) lines p q = p

  pub fine_two : (rose : Type 0) (a b : Line) → Fine rose a → Fine rose b → Fine rose (first_of (a ∷ b ∷ []))
  fine_two rose a b p q = fine_then rose a (b ∷ []) p (fine_then rose b [] q tt)

  pub fine_three : (rose : Type 0) (a b c : Line) → Fine rose a → Fine rose b → Fine rose c → Fine rose (first_of (a ∷ b ∷ c ∷ []))
  fine_three rose a b c p q r = fine_then rose a (b ∷ c ∷ []) p (fine_two rose b c q r)

  module _ (s t : DiskState) where
    abbrev Rises : Type 0
    Rises = Rose s.faults t.faults

    pub refused_fine : (found : Result Info FsError) → RefusedUsually s found t → Fine Rises (refused found)
    refused_fine (Ok info) u = tt
    refused_fine (Err e) u = fs_listed Rises e u.0 u.1

    pub missing_fine : (found : Result Info FsError) → RefusedUsually s found t → Fine Rises (refused_but_missing found)
    missing_fine (Ok info) u = tt
    missing_fine (Err fs.NotFound) u = tt
    missing_fine (Err e) u = refused_fine (Err e) u

    pub parent_fine : is_among 409 (halt_statuses verb) ≡ true → (up : Result Info FsError) → RefusedUsually s up t → Fine Rises (no_parent up)
    parent_fine own (Ok info) u = when_fine Rises _ 409 own (not_500 409 refl) (λ b. undue 409 refl refl)
    parent_fine own (Err fs.GeneralFailure) u = inr (refl, (λ e. u.1 refl), (λ c. cc), undue 500 refl refl)
    parent_fine own (Err fs.NoMemory) u = inl refl
    parent_fine own (Err e) u = inr (own, not_500 409 refl, (λ c. cc), undue 409 refl refl)

    pub calendar_fine : may_close verb ≡ true → (found : Result Info FsError) → RefusedUsually s found t → Fine Rises (found_or_failed found)
    calendar_fine may (Ok info) u = inr (refl, not_500 405 refl, (λ c. (refl, may)), undue 405 refl refl)
    calendar_fine may (Err fs.GeneralFailure) u = inr (refl, (λ e. u.1 refl), (λ c. cc), undue 500 refl refl)
    calendar_fine may (Err fs.NoMemory) u = inl refl
    calendar_fine may (Err e) u = tt

    pub make_fine : is_among 412 (halt_statuses verb) ≡ true → (found : Result Info FsError) → RefusedUsually s found t → Fine Rises (may_make fields found)
    make_fine own found u =
        fine_three Rises (fails_when (is_there found) 405) (refused_but_missing found) (unmet MkCol fields found) (when_fine Rises (is_there found) 405 refl (not_500 405 refl) (λ b. undue 405 refl refl))
        (missing_fine found u) (unmet_fine Rises MkCol found own refl)

    pub replace_fine : is_among 412 (halt_statuses verb) ≡ true → (found : Result Info FsError) → RefusedUsually s found t → Fine Rises (may_put fields found)
    replace_fine own found u =
        fine_three Rises (refused_but_missing found) (fails_when (is_dir_there found) 405) (unmet Put fields found) (missing_fine found u)
        (when_fine Rises (is_dir_there found) 405 refl (not_500 405 refl) (λ b. undue 405 refl refl)) (unmet_fine Rises Put found own refl)

    pub delete_fine : is_among 412 (halt_statuses verb) ≡ true → (found : Result Info FsError) → RefusedUsually s found t → Fine Rises (may_delete fields found)
    delete_fine own found u = fine_two Rises (refused found) (unmet Delete fields found) (refused_fine found u) (unmet_fine Rises Delete found own refl)
