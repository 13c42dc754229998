-- What a look into a tree finds is one of its rows, and what it is refused with stands in the tree.
use Rattle.std.specs.Prelude.{◌≡◌, ◌==◌, ◌<◌, ◌&&◌, ◌||◌, ℕ, suc, List, [], ◌∷◌, ◌++◌, Bool, true, false, cond, not, length, Option, None, Some, Result, Ok, Err, refl}
use Rattle.std.proofs.Common.{get_or, sym, ap, subst, ◌∙◌, inl, inr, ◌⊎◌, append_assoc, append-nil, arith}
use Rattle.std.specs.List.{find, AllByRecursion, list_any, list_all}
use Rattle.std.proofs.lemmas.Option.{none-some}
use Rattle.dav_core.specs.declared.tree.Row.{Row}
use Rattle.dav_core.specs.declared.tree.Kind.{Kind}
use Rattle.dav_core.specs.declared.tree.Kind.TheVariants.{Dir, File, Link}
use Rattle.dav_core.specs.declared.handle.DiskError.{DiskError}
use Rattle.dav_core.specs.declared.handle.DiskError.TheVariants.{NotFound, NotDir}
use Rattle.dav_core.specs.Path.{Names, same_names, parent_of, is_front}
use Rattle.dav_core.specs.Tree.{is_dir, is_file, is_link, row_at, is_dir_row, has_dir, is_placed, is_free, is_apart, is_tree, is_linked, standing, below_kind, below, look_from, look, IsTreeRefusal}
use Rattle.dav_core.specs.World.{World, IsWorld, time_of}

pub standing_row : (o : Option Row) (row : Row) → standing o ≡ Ok row → o ≡ Some row
standing_row None row e = cc
standing_row (Some r) row e = cc

pub below_kind_ok : (kind : Kind) (found : Result Row DiskError) (row : Row) → below_kind kind found ≡ Ok row → (kind ≡ Dir) × (found ≡ Ok row)
below_kind_ok Dir found row e = (refl, e)
below_kind_ok File found row e = cc
below_kind_ok Link found row e = cc

-- what is found below a place is found below a directory
pub below_ok : (o : Option Row) (found : Result Row DiskError) (row : Row) → below o found ≡ Ok row → (at : Row) × (o ≡ Some at) × (at.kind ≡ Dir) × (found ≡ Ok row)
below_ok None found row e = cc
below_ok (Some at) found row e = let p = below_kind_ok at.kind found row e in (at, refl, p.0, p.1)

pub below_dir : (o : Option Row) (at : Row) (found : Result Row DiskError) → o ≡ Some at → at.kind ≡ Dir → below o found ≡ found
below_dir o at found is kind = ap (λ x. below x found) is ∙ ap (λ k. below_kind k found) kind

-- What a look finds stands at the path.
pub look_there : (tree : List Row) (at names : Names) (row : Row) → look_from tree at names ≡ Ok row → row_at tree (at ++ names) ≡ Some row
look_there tree at [] row e = subst (λ z. row_at tree z ≡ Some row) (sym (append-nil at)) (standing_row (row_at tree at) row e)
look_there tree at (name ∷ names) row e =
    let (over, is, kind, rest) = below_ok (row_at tree at) (look_from tree (at ++ name ∷ []) names) row e in
    subst (λ z. row_at tree z ≡ Some row) (append_assoc at (name ∷ []) names) (look_there tree (at ++ name ∷ []) names row rest)

pub not_looked : (tree : List Row) (path : Names) → row_at tree path ≡ None → (e : DiskError) × (look tree path ≡ Err e)
not_looked tree path none = by (look tree path) refl
  where
    by : (found : Result Row DiskError) → look tree path ≡ found → (e : DiskError) × (found ≡ Err e)
    by (Err e) is = (e, refl)
    by (Ok row) is = absurd (none-some row (sym none ∙ look_there tree [] path row is))

-- what stands in a directory is found there
pub look_child : (tree : List Row) (at names : Names) (name : List ℕ) (dir row : Row) → look_from tree at names ≡ Ok dir → dir.kind ≡ Dir
    → row_at tree (at ++ (names ++ name ∷ [])) ≡ Some row → look_from tree at (names ++ name ∷ []) ≡ Ok row
look_child tree at [] name dir row looked kind found =
    below_dir (row_at tree at) dir (standing (row_at tree (at ++ name ∷ []))) (standing_row (row_at tree at) dir looked) kind ∙ ap standing found
look_child tree at (first ∷ names) name dir row looked kind found =
    let (over, is, over_kind, rest) = below_ok (row_at tree at) (look_from tree (at ++ first ∷ []) names) dir looked in
    below_dir (row_at tree at) over (look_from tree (at ++ first ∷ []) (names ++ name ∷ [])) is over_kind
    ∙ look_child tree (at ++ first ∷ []) names name dir row rest kind (ap (row_at tree) (append_assoc at (first ∷ []) (names ++ name ∷ [])) ∙ found)

chosen : (P : Row → Type 0) (b : Bool) (r row : Row) (o : Option Row) → P r → (o ≡ Some row → P row) → cond b (Some r) o ≡ Some row → P row
chosen P true r row o p h e = let f : r ≡ row = cc in rw (← f) p
chosen P false r row o p h e = h e

row_all : (P : Row → Type 0) (tree : List Row) (path : Names) (row : Row) → AllByRecursion P tree → row_at tree path ≡ Some row → P row
row_all P [] path row all e = cc
row_all P (r ∷ tree) path row all e = chosen P (same_names path r.path) r row (row_at tree path) all.0 (row_all P tree path row all.1) e

-- what holds of each row holds of one that is found
pub look_all : (P : Row → Type 0) (tree : List Row) (path : Names) (row : Row) → AllByRecursion P tree → look tree path ≡ Ok row → P row
look_all P tree path row all e = row_all P tree path row all (look_there tree [] path row e)

-- what holds at each place of a list holds of each element
each_holds : (P : Row → Type 0) (rows : List Row) → ((k : ℕ) (row : Row) → k < length rows → P (get_or rows k row)) → AllByRecursion P rows
each_holds P [] h = tt
each_holds P (row ∷ rows) h = (h 0 row (omega arith), each_holds P rows (λ k row lt. h (suc k) row (omega arith)))

abbrev IsStored : World → Row → Type 0
IsStored w row = row.kind ≡ File → time_of w row.number ≡ Some row.time

-- a file of a told tree is stored with its row's time
pub stored_time : (w : World) (path : Names) (row : Row) → IsWorld w → look w.tree path ≡ Ok row → row.kind ≡ File → time_of w row.number ≡ Some row.time
stored_time w path row is stands file = look_all (IsStored w) w.tree path row (each_holds (IsStored w) w.tree (λ k row lt. is.stored k row lt)) stands file

standing_err : (o : Option Row) (e : DiskError) → standing o ≡ Err e → IsTreeRefusal e
standing_err None e h = inl (let f : NotFound ≡ e = cc in sym f)
standing_err (Some r) e h = cc

below_kind_err : (k : Kind) (found : Result Row DiskError) (e : DiskError) → (found ≡ Err e → IsTreeRefusal e) → below_kind k found ≡ Err e → IsTreeRefusal e
below_kind_err Dir found e h f = h f
below_kind_err File found e h f = inr (let g : NotDir ≡ e = cc in sym g)
below_kind_err Link found e h f = inr (let g : NotDir ≡ e = cc in sym g)

below_err : (o : Option Row) (found : Result Row DiskError) (e : DiskError) → (found ≡ Err e → IsTreeRefusal e) → below o found ≡ Err e → IsTreeRefusal e
below_err None found e h f = inl (let g : NotFound ≡ e = cc in sym g)
below_err (Some r) found e h f = below_kind_err r.kind found e h f

look_from_err : (tree : List Row) (at names : Names) (e : DiskError) → look_from tree at names ≡ Err e → IsTreeRefusal e
look_from_err tree at [] e h = standing_err (row_at tree at) e h
look_from_err tree at (name ∷ names) e h = below_err (row_at tree at) _ e (look_from_err tree (at ++ name ∷ []) names e) h

pub look_err : (tree : List Row) (path : Names) (e : DiskError) → look tree path ≡ Err e → IsTreeRefusal e
look_err tree path e h = look_from_err tree [] path e h
