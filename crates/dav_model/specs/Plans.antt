-- The tables of the methods that write, over a world: the line that refuses a request, or the changes that it makes, in
-- their order (RFC 9110, sections 9.3.4 and 9.3.5, and RFC 4918, sections 9.3, 9.6 and 9.7). In each table the first
-- line that fits decides.
use Rattle.std.specs.Prelude.{◌&&◌, ◌||◌, ℕ, nat_lt, List, [], ◌∷◌, map, Bool, true, false, cond, not, length, Option, None, Some, Result, Ok, Err}
use Rattle.std.specs.List.{list_all, list_any}
use Rattle.dav_core.specs.declared.error.FsError.{FsError}
use Rattle.dav_core.specs.declared.error.FsError.TheVariants as fs
use Rattle.dav_core.specs.declared.handle.OpenOptions.{OpenOptions}
use Rattle.dav_core.specs.declared.method.DavMethod.{DavMethod}
use Rattle.dav_core.specs.declared.method.DavMethod.TheVariants.{Delete, MkCol, Put}
use Rattle.dav_core.specs.declared.tree.Row.{Row}
use Rattle.dav_core.specs.Allowed.{Allowed, is_root, making_dir, opening, taking_dir, taking_file}
use Rattle.dav_core.specs.Changes.{is_leaf}
use Rattle.dav_core.specs.DavPath.{WebPath}
use Rattle.dav_core.specs.Edits.{Edit, makes, fills, takes}
use Rattle.dav_core.specs.Errors.{fs_error_of}
use Rattle.dav_core.specs.Path.{Names, is_front, parent_of}
use Rattle.dav_core.specs.Statuses.{fs_status}
use Rattle.dav_core.specs.Tree.{has_dir, is_dir, is_link, is_linked}
use Rattle.dav_core.specs.World.{World}
use Rattle.dav_model.specs.Conditions.{Fields, condition, strong}
use Rattle.dav_model.specs.Finding.{exactly, is_forbidden, is_localized, looked_at, resolved}
use Rattle.dav_model.specs.Head.{Stood}
use Rattle.dav_model.specs.Rules.{Rules}
use Rattle.dav_model.specs.Walks.{members_first, walk}

-- ---- what is asked, and what is planned

-- A request that writes, with its whole body.
pub record Ask : Type 0 where
  pub method : DavMethod
  pub path : WebPath
  pub fields : Fields
  pub body : List ℕ

-- why a request ends before all was done: a status, and whether the connection closes
pub record Halt : Type 0 where
  pub status : ℕ
  pub close : Bool

-- a change, or a refusal that ends the request
pub data Act : Type 0 where
  does : Edit → Act
  halts : Halt → Act

-- the acts of a request in their order, and its status where all were done
pub record Plan : Type 0 where
  pub acts : List Act
  pub done : ℕ

-- ---- what stands where

-- what a look at a path finds
abbrev pub stands : Rules → World → WebPath → Result Stood FsError
stands rules w path = looked_at rules w (exactly rules w.tree) path

-- the directory above a path
abbrev pub above : WebPath → WebPath
above path = record path { names = parent_of path.names; slash = true }

abbrev pub is_found : Result Stood FsError → Bool
is_found (Ok there) = true
is_found (Err e) = false

abbrev pub is_dir_found : Result Stood FsError → Bool
is_dir_found (Ok there) = is_dir there.kind
is_dir_found (Err e) = false

-- ---- lines

abbrev pub line : ℕ → Halt
line status = record { status = status; close = false }

abbrev pub when : Bool → ℕ → Option Halt
when true status = Some (line status)
when false status = None

abbrev pub closing_when : Bool → ℕ → Option Halt
closing_when true status = Some (record { status = status; close = true })
closing_when false status = None

abbrev pub first : List (Option Halt) → Option Halt
first [] = None
first (None ∷ lines) = first lines
first (Some l ∷ lines) = Some l

abbrev pub refused : Result Stood FsError → Option Halt
refused (Ok there) = None
refused (Err e) = Some (line (fs_status e))

-- refused, but not since nothing stands there
abbrev pub refused_there : Result Stood FsError → Option Halt
refused_there (Err fs.NotFound) = None
refused_there found = refused found

abbrev pub failing : Option ℕ → Option Halt
failing None = None
failing (Some status) = Some (line status)

-- a precondition isn't met by what was found
abbrev pub unmet : DavMethod → Fields → Result Stood FsError → Option Halt
unmet method fields (Ok there) = failing (condition method fields true (strong there.tag) there.modified)
unmet method fields (Err e) = failing (condition method fields false None None)

-- the disk refuses it
abbrev pub not_allowed : Allowed → Option Halt
not_allowed (Ok edit) = None
not_allowed (Err e) = Some (line (fs_status (fs_error_of e)))

abbrev pub has_parent : Rules → World → WebPath → Bool
has_parent rules w path = is_dir_found (stands rules w (above path))

-- The line that fits refuses; else these are the acts.
abbrev pub unless : Option Halt → List Act → List Act
unless None acts = acts
unless (Some l) acts = halts l ∷ []

-- ---- PUT

abbrev pub put_options : OpenOptions
put_options = record { read = false; write = true; append = false; truncate = true; create = true; create_new = false }

-- A new file is made with the body. One that stood is emptied first.
abbrev pub put_acts : List ℕ → Allowed → List Act
put_acts body (Ok (Some (makes path kind bytes))) = does (makes path kind body) ∷ []
put_acts body (Ok (Some (fills number bytes))) = does (fills number bytes) ∷ does (fills number body) ∷ []
put_acts body other = []

abbrev pub putting : Rules → World → WebPath → Allowed
putting rules w path = opening w.tree (resolved rules w.tree path.names) put_options

abbrev pub may_put : Rules → World → Ask → Option Halt
may_put rules w ask = first (
    when ask.path.slash 405
    ∷ when (not (has_parent rules w ask.path)) 409
    ∷ refused_there (stands rules w ask.path)
    ∷ when (is_dir_found (stands rules w ask.path)) 405
    ∷ unmet Put ask.fields (stands rules w ask.path)
    ∷ when (is_forbidden rules ask.path) 403
    ∷ not_allowed (putting rules w ask.path)
    ∷ [])

-- 201 where nothing stood
abbrev pub status_over : Result Stood FsError → ℕ
status_over found = cond (is_found found) 204 201

abbrev pub put_plan : Rules → World → Ask → Plan
put_plan rules w ask = record {
  acts = unless (may_put rules w ask) (put_acts ask.body (putting rules w ask.path));
  done = status_over (stands rules w ask.path);
}

-- ---- MKCOL, MKCALENDAR, MKADDRESSBOOK

abbrev pub making : Rules → World → WebPath → Allowed
making rules w path = making_dir w.tree (resolved rules w.tree path.names)

abbrev pub edits_of : Allowed → List Act
edits_of (Ok (Some e)) = does e ∷ []
edits_of (Ok None) = []
edits_of (Err e) = []

abbrev pub may_make : Rules → World → Ask → Option Halt
may_make rules w ask = first (
    when (is_found (stands rules w ask.path)) 405
    ∷ refused_there (stands rules w ask.path)
    ∷ unmet MkCol ask.fields (stands rules w ask.path)
    ∷ when (not (has_parent rules w ask.path)) 409
    ∷ when (is_forbidden rules ask.path) 403
    ∷ not_allowed (making rules w ask.path)
    ∷ [])

abbrev pub mkcol_plan : Rules → World → Ask → Plan
mkcol_plan rules w ask = record {
  acts = unless (may_make rules w ask) (edits_of (making rules w ask.path));
  done = 201;
}

-- Neither preconditions nor the directory above are asked for.
abbrev pub may_make_calendar : Rules → World → Ask → Option Halt
may_make_calendar rules w ask = first (
    closing_when (is_found (stands rules w ask.path)) 405
    ∷ when (is_forbidden rules ask.path) 403
    ∷ not_allowed (making rules w ask.path)
    ∷ [])

abbrev pub mkcalendar_plan : Rules → World → Ask → Plan
mkcalendar_plan rules w ask = record {
  acts = unless (may_make_calendar rules w ask) (edits_of (making rules w ask.path));
  done = 201;
}

-- ---- DELETE

-- A directory whose path has more than 65,536 names. No such directory is walked into.
abbrev pub is_deep_dir : Row → Bool
is_deep_dir row = is_dir row.kind && nat_lt 65536 (length row.path)

-- A path that lies in such a directory among these rows, or is one.
abbrev pub is_too_deep : List Row → Names → Bool
is_too_deep rows path = list_any (λ row. is_deep_dir row && is_front row.path path) rows

-- A file that clients of macOS may not remove. (A directory of that name goes.)
abbrev pub stays_localized : Rules → Row → Bool
stays_localized rules row = rules.macos && (not (is_dir row.kind) && is_localized row.path)

abbrev pub removal : Rules → List Row → Row → Act
removal rules rows row = cond (stays_localized rules row || is_too_deep rows row.path) (halts (line 403))
    (does (takes row.path))

-- These rows go, in their order.
abbrev pub removals : Rules → List Row → List Act
removals rules rows = map (removal rules rows) rows

-- What stands in the place of one file that is served alone goes in one change.
abbrev pub taking : List Row → Names → Allowed
taking tree file = cond (has_dir tree file) (taking_dir tree file) (taking_file tree file)

-- A directory there that has members stays: each path below it names itself, so no call removes a member. So does one
-- that is asked for by a path of too many names.
abbrev pub stays_full : List Row → Names → WebPath → Bool
stays_full tree file path = has_dir tree file && (nat_lt 65536 (length path.names) || not (is_leaf file tree))

abbrev pub may_take : List Row → Names → WebPath → Option Halt
may_take tree file path = first (when (stays_full tree file path) 403 ∷ not_allowed (taking tree file) ∷ [])

-- What stands at a path goes: members before their directory, in the order of their names; or what stands in the place of
-- the one file that each path names.
abbrev pub removing_by : Option Names → Rules → World → WebPath → List Act
removing_by None rules w path = removals rules (walk members_first (resolved rules w.tree path.names) w.tree)
removing_by (Some file) rules w path = unless (may_take w.tree file path) (edits_of (taking w.tree file))

abbrev pub removing : Rules → World → WebPath → List Act
removing rules w path = removing_by rules.alone rules w path

-- What was found is a file whose name clients of macOS may not use.
abbrev pub keeps_file : Rules → WebPath → Result Stood FsError → Bool
keeps_file rules path found = is_forbidden rules path && not (is_dir_found found)

abbrev pub may_delete : Rules → World → Ask → Option Halt
may_delete rules w ask = first (
    when (is_root ask.path.names) 403
    ∷ refused (stands rules w ask.path)
    ∷ unmet Delete ask.fields (stands rules w ask.path)
    ∷ when (keeps_file rules ask.path (stands rules w ask.path)) 403
    ∷ [])

abbrev pub delete_plan : Rules → World → Ask → Plan
delete_plan rules w ask = record {
  acts = unless (may_delete rules w ask) (removing rules w ask.path);
  done = 204;
}

-- ---- all of them

-- The plan of a method. (Only methods that write are asked for theirs. COPY and MOVE have plans of their own, by what
-- their fields ask for.)
abbrev pub plan_as : DavMethod → Rules → World → Ask → Plan
plan_as Put rules w ask = put_plan rules w ask
plan_as MkCol rules w ask = mkcol_plan rules w ask
plan_as Delete rules w ask = delete_plan rules w ask
plan_as other rules w ask = mkcalendar_plan rules w ask

abbrev pub plan : Rules → World → Ask → Plan
plan rules w ask = plan_as ask.method rules w ask

-- ---- links

-- A link stands below a path.
abbrev pub has_link_below : List Row → Names → Bool
has_link_below tree path = not (list_all (λ (row : Row). not (is_link row.kind && is_front path row.path)) tree)

-- The request meets a link: on the way to its path, at it, or below it where all below it goes. Of such a request
-- nothing is said.
abbrev pub meets_link : DavMethod → List Row → Names → Bool
meets_link Delete tree path = is_linked tree path || has_link_below tree path
meets_link other tree path = is_linked tree path
