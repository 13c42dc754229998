-- Worked rows of COPY and MOVE: what their fields ask for, which paths overlap, what each look lets go on, and the work of a copy.
use Rattle.std.specs.Prelude.{◌≡◌, ℕ, List, [], ◌∷◌, codes, Bool, true, false, None, Some, Ok, Err, refl}
use Rattle.dav_core.specs.declared.dav_error.DavError.TheVariants.{Fs, Path, Status}
use Rattle.dav_core.specs.declared.error.FsError.TheVariants as fs
use Rattle.dav_core.specs.declared.parse_error.ParseError.TheVariants.{ForbiddenPath, InvalidPath}
use Rattle.dav_core.specs.declared.tree.Kind.{Kind}
use Rattle.dav_core.specs.declared.tree.Kind.TheVariants.{Dir, File}
use Rattle.dav_core.specs.DavPath.{WebPath}
use Rattle.dav_core.specs.Info.{Info}
use Rattle.dav_walks.specs.declared.child.Child.{Child}
use Rattle.dav_walks.specs.declared.transfer.Transfer.{Transfer}
use Rattle.dav_methods.specs.Carrying.{may_leave, may_take_place}
use Rattle.dav_walks.specs.Copying.{transfers_in}
use Rattle.dav_model.specs.Destination.{IsDestination, asked_by, depth_of, overwrite_of}
use Rattle.dav_model.specs.Overlap.{overlap}
use Rattle.dav_walks.specs.Reading.{child_named}

abbrev at : List (List ℕ) → Bool → WebPath
at names slash = record { prefix = []; names = names; slash = slash }

-- ---- Destination

no_field : IsDestination [] None (Err (Status 400))
no_field = refl

the_root : IsDestination [] (Some (codes "/")) (Ok (at [] true))
the_root = refl

the_root_queried : IsDestination [] (Some (codes "/d/..?x")) (Ok (at [] true))
the_root_queried = refl

above_root : IsDestination [] (Some (codes "/../x")) (Err (Path ForbiddenPath))
above_root = refl

a_fragment : IsDestination [] (Some (codes "/x#y")) (Err (Path InvalidPath))
a_fragment = refl

-- ---- Overwrite and Depth

overwrites : overwrite_of None ≡ Some true
overwrites = refl

overwrites_said : overwrite_of (Some (codes "T")) ≡ Some true
overwrites_said = refl

overwrites_not : overwrite_of (Some (codes "F")) ≡ Some false
overwrites_not = refl

small_letter : overwrite_of (Some (codes "t")) ≡ None
small_letter = refl

copies_all : depth_of false None ≡ Some false
copies_all = refl

copies_deep : depth_of false (Some (codes "infinity")) ≡ Some false
copies_deep = refl

copies_alone : depth_of false (Some (codes "0")) ≡ Some true
copies_alone = refl

copies_one : depth_of false (Some (codes "1")) ≡ None
copies_one = refl

capital_letter : depth_of false (Some (codes "Infinity")) ≡ None
capital_letter = refl

moves_alone : depth_of true (Some (codes "0")) ≡ None
moves_alone = refl

-- the path is judged before Overwrite, and Overwrite before Depth
path_first : asked_by false (Err (Path ForbiddenPath)) None None ≡ Err (Path ForbiddenPath)
path_first = refl

-- ---- paths that overlap

equal : overlap false (codes "a" ∷ []) (codes "a" ∷ []) ≡ true
equal = refl

inside : overlap false (codes "c2" ∷ []) (codes "c2" ∷ codes "d" ∷ []) ≡ true
inside = refl

outside : overlap false (codes "c2" ∷ codes "d" ∷ []) (codes "c2" ∷ []) ≡ true
outside = refl

root : overlap false [] (codes "a" ∷ []) ≡ true
root = refl

beside : overlap false (codes "a" ∷ []) (codes "b" ∷ []) ≡ false
beside = refl

longer_name : overlap false (codes "a" ∷ []) (codes "ab" ∷ []) ≡ false
longer_name = refl

other_case : overlap false (codes "a" ∷ []) (codes "A" ∷ []) ≡ false
other_case = refl

-- ---- looks

abbrev there : Kind → Info
there kind = record { kind = kind; len = 0; modified = None; created = None; accessed = None; changed = None; exec = None; tag = None }

source_missing : may_leave false (at (codes "a" ∷ []) false) (at (codes "a" ∷ []) false) (Err fs.NotFound) ≡ Err (Fs fs.NotFound)
source_missing = refl

into_itself : may_leave false (at (codes "c2" ∷ []) false) (at (codes "c2" ∷ codes "d" ∷ []) false) (Ok (there Dir)) ≡ Err (Status 403)
into_itself = refl

leaves : may_leave false (at (codes "a" ∷ []) false) (at (codes "b" ∷ []) false) (Ok (there File)) ≡ Ok tt
leaves = refl

kept : may_take_place false (Ok (there File)) ≡ Err (Status 412)
kept = refl

replaced : may_take_place true (Ok (there Dir)) ≡ Ok tt
replaced = refl

free : may_take_place false (Err fs.NotFound) ≡ Ok tt
free = refl

refused_there : may_take_place false (Err fs.Forbidden) ≡ Err (Fs fs.Forbidden)
refused_there = refl

-- ---- a directory's members come first, each below the other directory

abbrev first : Transfer
first = record { from = at (codes "a" ∷ codes "x" ∷ []) false; to = at (codes "b" ∷ codes "x" ∷ []) false; dir = false }

abbrev second : Transfer
second = record { from = at (codes "a" ∷ codes "y" ∷ []) true; to = at (codes "b" ∷ codes "y" ∷ []) true; dir = true }

abbrev later : Transfer
later = record { from = at (codes "z" ∷ []) false; to = at (codes "c" ∷ []) false; dir = false }

abbrev members : List Child
members = child_named (at (codes "a" ∷ []) true) (codes "x") false ∷ child_named (at (codes "a" ∷ []) true) (codes "y") true ∷ []

members_first : transfers_in (at (codes "b" ∷ []) false) members (later ∷ []) ≡ first ∷ second ∷ later ∷ []
members_first = refl
