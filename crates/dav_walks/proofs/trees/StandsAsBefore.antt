-- What stands at a path depends on nothing that looks change.
-- Headline: `stands_same`.
use Rattle.std.proofs.Common.{◌≡◌, ◌&&◌, ◌||◌, inl, inr, ℕ, Bool, true, false, cond, length, List, [], Option, None, Some, Result, Ok, Err, refl, sym, ap, subst, ◌∙◌}
use Rattle.dav_core.specs.declared.error.FsError.{FsError}
use Rattle.dav_core.specs.declared.error.FsError.TheVariants as fs
use Rattle.dav_core.specs.declared.handle.DiskError.{DiskError}
use Rattle.dav_core.specs.declared.tree.Row.{Row}
use Rattle.dav_core.specs.DavPath.{WebPath}
use Rattle.dav_core.specs.Errors.{CouldRefuse, fs_error_of}
use Rattle.dav_core.specs.Info.{known_time, tag_of}
use Rattle.dav_core.specs.Path.{Names}
use Rattle.dav_core.specs.Statuses.{closes, fs_status, of_fs, status_of}
use Rattle.dav_core.specs.Tree.{IsTreeRefusal, is_file, look}
use Rattle.dav_core.specs.World.{SameBesidesOpens, Stored, World, bytes_or_none, is_numbered}
use Rattle.dav_core.proofs.LookLemmas.{look_err, look_there}
use Rattle.dav_core.proofs.Rows.{numbered_in, row_at_in}
use Rattle.dav_model.specs.Finding.{empty_file, has_slash, is_localized, is_virtual, resolved, stood_at}
use Rattle.dav_model.specs.Head.{Stood}
use Rattle.dav_model.specs.Plans.{stands}
use Rattle.dav_model.specs.Rules.{Knowledge, Rules, SameDots}
use Rattle.dav_model.specs.Folds.{dir_time, has_name}
use Rattle.dav_model.specs.Valid.{IsRegular, no_twins}

-- What is found has a number of the tree.
pub found_numbered : (tree : List Row) (path : Names) (row : Row) → look tree path ≡ Ok row → is_numbered tree row.number ≡ true
found_numbered tree path row e = numbered_in tree row (row_at_in tree path row (look_there tree [] path row e)).0

abbrev stood_with : Row → List ℕ → Stood
stood_with row bytes = record {
  kind = row.kind;
  number = row.number;
  len = length bytes;
  modified = known_time row.time;
  tag = tag_of row.kind row.number (length bytes) (known_time row.time);
  address = None;
}

stood_same : (slash : Bool) (v u : World) (found : Result Row DiskError) → ((row : Row) → found ≡ Ok row → u.files row.number ≡ v.files row.number) → stood_at slash u found ≡ stood_at slash v found
stood_same slash v u (Ok row) same = ap (λ (f : Option Stored). cond (slash && is_file row.kind) (Err fs.Forbidden) (Ok (stood_with row (bytes_or_none f)))) (same row refl)
stood_same slash v u (Err e) same = refl

-- What stands somewhere depends on nothing that looks change.
pub stands_same : (rules : Rules) (v u : World) (path : WebPath) → SameBesidesOpens v u → stands rules u path ≡ stands rules v path
stands_same rules v u path same =
    let at : Names = resolved rules v.tree path.names in
    let first = ap (λ (tree : List Row). cond (is_virtual rules path) (Ok empty_file) (cond ((rules.macos && is_localized (resolved rules tree path.names)) || false) (Err fs.NotFound)
    (stood_at (has_slash rules.alone path) u (look tree (resolved rules tree path.names))))) same.tree in
    let stood : stood_at (has_slash rules.alone path) u (look v.tree at) ≡ stood_at (has_slash rules.alone path) v (look v.tree at) =
    stood_same (has_slash rules.alone path) v u (look v.tree at)
    (λ row e. (same.files row.number (inl (ap (λ tree. is_numbered tree row.number) same.tree ∙ found_numbered v.tree at row e))).1) in
    let second =
    shown (is_virtual rules path) ((rules.macos && is_localized at) || false) (stood_at (has_slash rules.alone path) u (look v.tree at)) (stood_at (has_slash rules.alone path) v (look v.tree at)) stood in
    first ∙ second
  where
    shown : (b l : Bool) (x y : Result Stood FsError) → x ≡ y → cond b (Ok empty_file) (cond l (Err fs.NotFound) x) ≡ cond b (Ok empty_file) (cond l (Err fs.NotFound) y)
    shown b l x y e = ap (λ z. cond b (Ok empty_file) (cond l (Err fs.NotFound) z)) e

slashed_could : (b : Bool) (there : Stood) (e : FsError) → cond b (Err fs.Forbidden) (Ok there) ≡ Err e → CouldRefuse e
slashed_could true there e f = inr (let g : fs.Forbidden ≡ e = cc in sym g)
slashed_could false there e f = cc

refused_could : (slash : Bool) (w : World) (path : Names) (found : Result Row DiskError) (e : FsError) → look w.tree path ≡ found → stood_at slash w found ≡ Err e → CouldRefuse e
refused_could slash w path (Ok row) e at f = slashed_could (slash && is_file row.kind) (stood_with row _) e f
refused_could slash w path (Err d) e at f = by (look_err w.tree path d at)
  where
    same : fs_error_of d ≡ e
    same = cc

    by : IsTreeRefusal d → CouldRefuse e
    by (inl is) = inl (sym same ∙ ap fs_error_of is)
    by (inr is) = inr (sym same ∙ ap fs_error_of is)

-- A look is refused with NotFound or Forbidden alone.
pub stands_plainly : (rules : Rules) (w : World) (path : WebPath) (e : FsError) → stands rules w path ≡ Err e → CouldRefuse e
stands_plainly rules w path e f = by (is_virtual rules path) ((rules.macos && is_localized (resolved rules w.tree path.names)) || false) f
  where
    by : (v l : Bool) → cond v (Ok empty_file) (cond l (Err fs.NotFound) (stood_at (has_slash rules.alone path) w (look w.tree (resolved rules w.tree path.names)))) ≡ Err e → CouldRefuse e
    by true l f = cc
    by false true f = inl (let g : fs.NotFound ≡ e = cc in sym g)
    by false false f = refused_could (has_slash rules.alone path) w (resolved rules w.tree path.names) (look w.tree (resolved rules w.tree path.names)) e refl f

-- A world with the same tree is as regular.
pub regular_same : (rules : Rules) (k : Knowledge) (v u : World) → u.tree ≡ v.tree → IsRegular rules k v → IsRegular rules k u
regular_same rules k v u same regular = record {
  apart = λ folds. ap no_twins same ∙ regular.apart folds;
  sound = λ macos. let s = regular.sound macos in record {
    closed = λ dir time e. s.closed dir time (subst (λ (tree : List Row). dir_time tree dir ≡ Some time) same e);
    names = λ dir time has e f. subst (λ (tree : List Row). SameDots has (has_name tree dir)) (sym same) (s.names dir time has (subst (λ (tree : List Row). dir_time tree dir ≡ Some time) same e) f);
  };
}

-- the status of a refusal of a store, which keeps the connection
pub fs_line : (e : FsError) → (status_of (of_fs e) ≡ fs_status e) × (closes (of_fs e) ≡ false)
fs_line fs.NotFound = (refl, refl)
fs_line other = (refl, refl)
