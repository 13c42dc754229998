-- The lines of the tables are those of the plans, by what a look found.
use Rattle.std.proofs.Common.{◌≡◌, inl, inr, ℕ, Bool, true, false, not, List, [], ◌∷◌, Option, None, Some, Result, Ok, Err, refl, ap, ◌∙◌}
use Rattle.dav_core.specs.declared.error.FsError.{FsError}
use Rattle.dav_core.specs.declared.error.FsError.TheVariants as fs
use Rattle.dav_core.specs.declared.method.DavMethod.{DavMethod}
use Rattle.dav_core.specs.declared.method.DavMethod.TheVariants.{Delete, MkCol, Put}
use Rattle.dav_core.specs.Errors.{CouldRefuse}
use Rattle.dav_core.specs.Info.{Info}
use Rattle.dav_core.specs.Tree.{is_dir}
use Rattle.dav_model.specs.Conditions.{Fields, condition, strong}
use Rattle.dav_model.specs.Head.{Stood}
use Rattle.dav_model.specs.Plans.{Halt, closing_when, failing, first, is_dir_found, is_found, refused as plan_refused, refused_there, unmet as plan_unmet, when}
use Rattle.dav_walks.specs.Follows.{Finds}
use Rattle.dav_walks.specs.Lines.{Line, fails_when}
use Rattle.dav_methods.specs.Lines.{first_of, found_or_failed, is_dir_there, is_there, may_delete, may_make, may_put, no_parent, refused, refused_but_missing, unmet, with_status}
use Rattle.dav_walks.proofs.trees.StandsAsBefore.{fs_line}
use Rattle.dav_methods.proofs.plans.EndsByPlan.{Matches}

-- ---- several lines

match_then : (a : Line) (h : Option Halt) (lines : List Line) (hs : List (Option Halt)) → Matches a h → Matches (first_of lines) (first hs) → Matches (first_of (a ∷ lines)) (first (h ∷ hs))
match_then (Ok x) None lines hs p q = q
match_then (Ok x) (Some l) lines hs p q = absurd p
match_then (Err d) None lines hs p q = absurd p
match_then (Err d) (Some l) lines hs p q = p

pub match_two : (a b : Line) (h k : Option Halt) → Matches a h → Matches b k → Matches (first_of (a ∷ b ∷ [])) (first (h ∷ k ∷ []))
match_two a b h k p q = match_then a h (b ∷ []) (k ∷ []) p (match_then b k [] [] q tt)

pub match_three : (a b c : Line) (h k l : Option Halt) → Matches a h → Matches b k → Matches c l → Matches (first_of (a ∷ b ∷ c ∷ [])) (first (h ∷ k ∷ l ∷ []))
match_three a b c h k l p q r = match_then a h (b ∷ c ∷ []) (k ∷ l ∷ []) p (match_two b c k l q r)

pub first_more : (a : Option Halt) (x y : List (Option Halt)) → first x ≡ first y → first (a ∷ x) ≡ first (a ∷ y)
first_more None x y e = e
first_more (Some l) x y e = refl

-- Lines of a plan that a table judges together.
pub first_two : (a b : Option Halt) (rest : List (Option Halt)) → first (a ∷ b ∷ rest) ≡ first (first (a ∷ b ∷ []) ∷ rest)
first_two (Some l) b rest = refl
first_two None (Some l) rest = refl
first_two None None rest = refl

pub first_three : (a b c : Option Halt) (rest : List (Option Halt)) → first (a ∷ b ∷ c ∷ rest) ≡ first (first (a ∷ b ∷ c ∷ []) ∷ rest)
first_three (Some l) b c rest = refl
first_three None (Some l) c rest = refl
first_three None None (Some l) rest = refl
first_three None None None rest = refl

-- ---- lines of a plan that don't fit

pub none_two : (a b : Option Halt) → first (a ∷ b ∷ []) ≡ None → (a ≡ None) × (b ≡ None)
none_two (Some l) b e = cc
none_two None (Some l) e = cc
none_two None None e = (refl, refl)

pub none_when : (b : Bool) (status : ℕ) → when b status ≡ None → b ≡ false
none_when true status e = cc
none_when false status e = refl

pub found_ok : (x : Result Stood FsError) → plan_refused x ≡ None → (there : Stood) × (x ≡ Ok there)
found_ok (Ok there) e = (there, refl)
found_ok (Err f) e = cc

-- ---- one line

pub when_match : (b d : Bool) (status : ℕ) → b ≡ d → Matches (fails_when b status) (when d status)
when_match true true status e = (refl, refl)
when_match true false status e = cc
when_match false true status e = cc
when_match false false status e = tt

pub there_found : (x : Result Stood FsError) (found : Result Info FsError) → Finds x found → is_there found ≡ is_found x
there_found (Ok there) (Ok info) finds = refl
there_found (Ok there) (Err f) finds = absurd finds
there_found (Err e) (Ok info) finds = absurd finds
there_found (Err e) (Err f) finds = refl

pub dir_found : (x : Result Stood FsError) (found : Result Info FsError) → Finds x found → is_dir_there found ≡ is_dir_found x
dir_found (Ok there) (Ok info) finds = ap is_dir finds.kind
dir_found (Ok there) (Err f) finds = absurd finds
dir_found (Err e) (Ok info) finds = absurd finds
dir_found (Err e) (Err f) finds = refl

missing_error : (e : FsError) → Matches (refused_but_missing (Err e)) (refused_there (Err e))
missing_error fs.NotFound = tt
missing_error other = (refl, refl)

pub missing_match : (x : Result Stood FsError) (found : Result Info FsError) → Finds x found → Matches (refused_but_missing found) (refused_there x)
missing_match (Ok there) (Ok info) finds = tt
missing_match (Ok there) (Err f) finds = absurd finds
missing_match (Err e) (Ok info) finds = absurd finds
missing_match (Err e) (Err f) finds = rw finds (missing_error e)

pub refused_match : (x : Result Stood FsError) (found : Result Info FsError) → Finds x found → Matches (refused found) (plan_refused x)
refused_match (Ok there) (Ok info) finds = tt
refused_match (Ok there) (Err f) finds = absurd finds
refused_match (Err e) (Ok info) finds = absurd finds
refused_match (Err e) (Err f) finds = rw finds (fs_line e)

status_match : (a b : Option ℕ) → a ≡ b → Matches (with_status a) (failing b)
status_match None None e = tt
status_match None (Some status) e = cc
status_match (Some status) None e = cc
status_match (Some status) (Some other) e = (cc, refl)

pub unmet_match : (method : DavMethod) (fields : Fields) (x : Result Stood FsError) (found : Result Info FsError) → Finds x found → Matches (unmet method fields found) (plan_unmet method fields x)
unmet_match method fields (Ok there) (Ok info) finds =
    status_match _ _ (ap (λ tag. condition method fields true (strong tag) info.modified) finds.tag ∙ ap (condition method fields true (strong there.tag)) finds.modified)
unmet_match method fields (Ok there) (Err f) finds = absurd finds
unmet_match method fields (Err e) (Ok info) finds = absurd finds
unmet_match method fields (Err e) (Err f) finds = status_match (condition method fields false None None) (condition method fields false None None) refl

-- ---- the lines of each table

pub make_match : (fields : Fields) (x : Result Stood FsError) (found : Result Info FsError) → Finds x found
    → Matches (may_make fields found) (first (when (is_found x) 405 ∷ refused_there x ∷ plan_unmet MkCol fields x ∷ []))
make_match fields x found finds =
    match_three (fails_when (is_there found) 405) (refused_but_missing found) (unmet MkCol fields found) (when (is_found x) 405) (refused_there x) (plan_unmet MkCol fields x)
    (when_match (is_there found) (is_found x) 405 (there_found x found finds)) (missing_match x found finds) (unmet_match MkCol fields x found finds)

pub put_match : (fields : Fields) (x : Result Stood FsError) (found : Result Info FsError) → Finds x found
    → Matches (may_put fields found) (first (refused_there x ∷ when (is_dir_found x) 405 ∷ plan_unmet Put fields x ∷ []))
put_match fields x found finds =
    match_three (refused_but_missing found) (fails_when (is_dir_there found) 405) (unmet Put fields found) (refused_there x) (when (is_dir_found x) 405) (plan_unmet Put fields x)
    (missing_match x found finds) (when_match (is_dir_there found) (is_dir_found x) 405 (dir_found x found finds)) (unmet_match Put fields x found finds)

not_same : (a b : Bool) → a ≡ b → not a ≡ not b
not_same a b e = ap not e

pub parent_match : (x : Result Stood FsError) (up : Result Info FsError) → ((e : FsError) → x ≡ Err e → CouldRefuse e) → Finds x up → Matches (no_parent up) (when (not (is_dir_found x)) 409)
parent_match (Ok there) (Ok info) plainly finds = when_match (not (is_dir info.kind)) (not (is_dir there.kind)) 409 (not_same (is_dir info.kind) (is_dir there.kind) (ap is_dir finds.kind))
parent_match (Ok there) (Err f) plainly finds = absurd finds
parent_match (Err e) (Ok info) plainly finds = absurd finds
parent_match (Err e) (Err f) plainly finds = rw finds (by (plainly e refl))
  where
    by : CouldRefuse e → Matches (no_parent (Err e)) (when (not (is_dir_found (Err e))) 409)
    by (inl is) = rw is (refl, refl)
    by (inr is) = rw is (refl, refl)

pub calendar_match : (x : Result Stood FsError) (found : Result Info FsError) → ((e : FsError) → x ≡ Err e → CouldRefuse e) → Finds x found → Matches (found_or_failed found) (closing_when (is_found x) 405)
calendar_match (Ok there) (Ok info) plainly finds = (refl, refl)
calendar_match (Ok there) (Err f) plainly finds = absurd finds
calendar_match (Err e) (Ok info) plainly finds = absurd finds
calendar_match (Err e) (Err f) plainly finds = rw finds (by (plainly e refl))
  where
    by : CouldRefuse e → Matches (found_or_failed (Err e)) (closing_when (is_found (Err e)) 405)
    by (inl is) = rw is tt
    by (inr is) = rw is tt

pub delete_match : (fields : Fields) (x : Result Stood FsError) (found : Result Info FsError) → Finds x found → Matches (may_delete fields found) (first (plan_refused x ∷ plan_unmet Delete fields x ∷ []))
delete_match fields x found finds = match_two (refused found) (unmet Delete fields found) (plan_refused x) (plan_unmet Delete fields x) (refused_match x found finds) (unmet_match Delete fields x found finds)
