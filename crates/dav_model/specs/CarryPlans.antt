-- The tables of COPY and MOVE over a world (RFC 4918, sections 9.8 and 9.9): the line that refuses a request, or the
-- changes that it makes, in their order. What stands at the destination goes first.
use Rattle.std.specs.Prelude.{◌&&◌, ◌||◌, ◌++◌, ℕ, nat_lt, List, [], ◌∷◌, map, drop, Bool, true, false, cond, not, length, is_some, Option, None, Some, Result, Ok, Err}
use Rattle.std.specs.List.{filter}
use Rattle.dav_core.specs.declared.dav_error.DavError.{DavError}
use Rattle.dav_core.specs.declared.method.DavMethod.{DavMethod}
use Rattle.dav_core.specs.declared.method.DavMethod.TheVariants.{Copy, Move}
use Rattle.dav_core.specs.declared.tree.Kind.TheVariants.{Dir}
use Rattle.dav_core.specs.declared.tree.Row.{Row}
use Rattle.dav_core.specs.Allowed.{Allowed, copying, making_dir, moving}
use Rattle.dav_core.specs.Changes.{without}
use Rattle.dav_core.specs.DavPath.{WebPath}
use Rattle.dav_core.specs.Edits.{makes, takes}
use Rattle.dav_core.specs.Errors.{fs_error_of}
use Rattle.dav_core.specs.Path.{Names, same_names}
use Rattle.dav_core.specs.Statuses.{closes, fs_status, status_of}
use Rattle.dav_core.specs.Tree.{is_dir, is_linked, row_at}
use Rattle.dav_core.specs.World.{World, bytes_of}
use Rattle.dav_model.specs.declared.asked.Asked.{Asked}
use Rattle.dav_model.specs.Finding.{is_forbidden, resolved}
use Rattle.dav_model.specs.Overlap.{overlap}
use Rattle.dav_model.specs.Plans.{Act, Ask, Halt, Plan, does, first, halts, has_link_below, has_parent, is_deep_dir, is_dir_found, is_found, keeps_file, line, refused, refused_there, removing, stands, status_over, unless, unmet, when}
use Rattle.dav_model.specs.Rules.{Rules}
use Rattle.dav_model.specs.Walks.{dir_first, walk}

abbrev pub method_of : Bool → DavMethod
method_of true = Move
method_of false = Copy

-- ---- lines

-- The source is judged before the destination, but for the directory above that.
abbrev pub may_carry : Rules → World → Ask → Asked → Option Halt
may_carry rules w ask asked = first (
    refused (stands rules w ask.path)
    ∷ when (overlap rules.folds ask.path.names asked.to.names) 403
    ∷ when (not (has_parent rules w asked.to)) 409
    ∷ unmet (method_of asked.moving) ask.fields (stands rules w ask.path)
    ∷ refused_there (stands rules w asked.to)
    ∷ when (is_found (stands rules w asked.to) && not asked.replaces) 412
    ∷ [])

-- ---- what stands at the destination

-- the tree without what stands at a path, where something was found there
abbrev pub cleared : Rules → World → WebPath → List Row
cleared rules w to = cond (is_found (stands rules w to)) (without (resolved rules w.tree to.names) w.tree) w.tree

abbrev pub clearing : Rules → World → WebPath → List Act
clearing rules w to = cond (is_found (stands rules w to))
    (unless (when (keeps_file rules to (stands rules w to)) 403) (removing rules w to)) []

-- ---- MOVE

abbrev pub act_of : Allowed → List Act
act_of (Ok (Some e)) = does e ∷ []
act_of (Ok None) = []
act_of (Err e) = halts (line (fs_status (fs_error_of e))) ∷ []

-- a directory at one place, and at another what is none
abbrev pub is_dir_over : Option Row → Option Row → Bool
is_dir_over None there = false
is_dir_over (Some row) None = false
is_dir_over (Some row) (Some there) = is_dir row.kind && not (is_dir there.kind)

-- A directory takes the place of a file by two changes: the file goes first.
abbrev pub moves_by : Bool → List Row → Names → Names → List Act
moves_by true tree from to = does (takes to) ∷ act_of (moving (without to tree) from to)
moves_by false tree from to = act_of (moving tree from to)

abbrev pub moves_in : List Row → Names → Names → List Act
moves_in tree from to = moves_by (is_dir_over (row_at tree from) (row_at tree to)) tree from to

-- Where the destination is found is judged in the tree without what stood there: so the name asked for is made. (Of one
-- file that is served alone the source went with what stood at the destination: nothing is found.)
abbrev pub move_acts : Rules → World → WebPath → WebPath → List Act
move_acts rules w path to = unless (when (is_forbidden rules path || is_forbidden rules to) 403)
    (moves_in (cleared rules w to) (resolved rules w.tree path.names) (resolved rules (cleared rules w to) to.names))

-- ---- COPY

-- A path that lies as far below another as a row does below a place: it ends with a slash where a directory stands. At
-- that place it is the path as it was asked.
abbrev pub slash_below : WebPath → Names → Row → Bool
slash_below path [] row = path.slash
slash_below path (name ∷ rest) row = is_dir row.kind

abbrev pub path_below : WebPath → Names → Row → WebPath
path_below path at row = record path {
  names = path.names ++ drop (length at) row.path;
  slash = slash_below path (drop (length at) row.path) row;
}

-- what clients of macOS may not make, and what of theirs no file stands for
abbrev pub denies_copy : Rules → WebPath → WebPath → Row → Bool
denies_copy rules from to row = is_forbidden rules to || (not (is_dir row.kind) && is_forbidden rules from)

-- the bytes with which a row is made again: a directory has none
abbrev pub bytes_in : World → Row → List ℕ
bytes_in w row = cond (is_dir row.kind) [] (bytes_of w row.number)

-- A row at or below one place is made again at or below another. No directory is copied whose path has more than 65,536
-- names.
abbrev pub copy_act : Rules → World → WebPath → WebPath → Names → Names → Row → Act
copy_act rules w path to at new row = cond (is_deep_dir row
    || denies_copy rules (path_below path at row) (path_below to at row) row) (halts (line 403))
    (does (makes (new ++ drop (length at) row.path) row.kind (bytes_in w row)))

-- the rows that are copied, a directory before its members; or what stands at the place alone
abbrev pub copied_rows : Bool → Names → List Row → List Row
copied_rows true at tree = filter (λ row. same_names at row.path) tree
copied_rows false at tree = walk dir_first at tree

-- Something stands at a path that no look shows, since its name is hidden from clients of macOS.
abbrev pub hides : Rules → World → WebPath → Bool
hides rules w to = not (is_found (stands rules w to)) && is_some (row_at w.tree (resolved rules w.tree to.names))

-- What is hidden at the destination stays: into a file goes what a file holds, and nothing else is made there.
abbrev pub fill_acts : Rules → World → WebPath → WebPath → Option Row → List Act
fill_acts rules w path to None = []
fill_acts rules w path to (Some row) = unless (when (is_deep_dir row || denies_copy rules path to row) 403)
    (act_of (cond (is_dir row.kind) (making_dir w.tree (resolved rules w.tree to.names))
    (copying w (resolved rules w.tree path.names) (resolved rules w.tree to.names))))

-- What stood in the place of the one file that each path names was a directory without members, and went: it is made
-- again. (One with members didn't go.)
abbrev pub made_again : Rules → WebPath → WebPath → Names → List Act
made_again rules path to file = unless (when (nat_lt 65536 (length path.names) || is_forbidden rules to) 403)
    (does (makes file Dir []) ∷ [])

abbrev pub made_by : Option Names → Rules → World → WebPath → WebPath → Bool → List Act
made_by None rules w path to alone =
    map (copy_act rules w path to (resolved rules w.tree path.names) (resolved rules (cleared rules w to) to.names))
    (copied_rows alone (resolved rules w.tree path.names) w.tree)
made_by (Some file) rules w path to alone = made_again rules path to file

-- (What a look finds may be a file that the tree hasn't.)
abbrev pub copy_acts : Rules → World → WebPath → WebPath → Bool → List Act
copy_acts rules w path to alone = unless (when
    (is_forbidden rules path && not (is_dir_found (stands rules w path))) 403)
    (cond (hides rules w to) (fill_acts rules w path to (row_at w.tree (resolved rules w.tree path.names)))
    (made_by rules.alone rules w path to alone))

-- ---- both

abbrev pub carrying : Bool → Rules → World → WebPath → Asked → List Act
carrying true rules w path asked = move_acts rules w path asked.to
carrying false rules w path asked = copy_acts rules w path asked.to asked.alone

-- the plan of what the fields ask for, or are refused with
abbrev pub carry_plan : Rules → World → Ask → Result Asked DavError → Plan
carry_plan rules w ask (Err e) = record {
  acts = halts (record { status = status_of e; close = closes e }) ∷ [];
  done = 201;
}
carry_plan rules w ask (Ok asked) = record {
  acts = unless (may_carry rules w ask asked)
      (clearing rules w asked.to ++ carrying asked.moving rules w ask.path asked);
  done = status_over (stands rules w asked.to);
}

-- ---- of what nothing is said

-- A link stands on the way to a path, at it or below it.
abbrev pub has_link_about : List Row → Names → Bool
has_link_about tree path = is_linked tree path || has_link_below tree path

-- A request that is carried out meets one about its source or about its destination. Of such a request nothing is said.
abbrev pub carries_link : Rules → List Row → WebPath → Result Asked DavError → Bool
carries_link rules tree path (Err e) = false
carries_link rules tree path (Ok asked) = has_link_about tree (resolved rules tree path.names)
    || has_link_about tree (resolved rules tree asked.to.names)
