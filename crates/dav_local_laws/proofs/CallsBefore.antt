-- What a call did to a world that only looks lie before, it did to the world before them.
use Rattle.std.proofs.Common.{◌≡◌, inl, inr, ◌==◌, ◌||◌, ◌&&◌, ℕ, Bool, true, false, cond, List, [], ◌∷◌, take, Option, None, Some, Result, Ok, Err, refl, sym, ap, subst, ◌∙◌, arith}
use Rattle.dav_core.specs.declared.error.FsError.{FsError}
use Rattle.dav_core.specs.declared.handle.DiskError.{DiskError}
use Rattle.dav_core.specs.declared.handle.DiskError.TheVariants.{IsDir}
use Rattle.dav_core.specs.declared.handle.OpenOptions.{OpenOptions}
use Rattle.dav_core.specs.declared.tree.Kind.TheVariants.{Dir, File}
use Rattle.dav_core.specs.declared.tree.Row.{Row}
use Rattle.dav_core.specs.Allowed.{Allowed, copying, copying_over, copying_to, found_then, is_root, making_at, making_dir, may_go, moving, moving_over, moving_to, opening, opening_at, opening_row, place, taking_dir, taking_dir_row, taking_file, taking_file_row}
use Rattle.dav_core.specs.Edits.{Edit, Edited, EditedBy, IsPart, fills, makes, moves, takes}
use Rattle.dav_core.specs.Path.{Names, is_front, same_names}
use Rattle.dav_core.specs.Changes.{is_leaf}
use Rattle.dav_core.specs.Tree.{is_dir, is_file, look}
use Rattle.dav_core.specs.World.{SameBesidesOpens, World, bytes_of, bytes_or_none, is_numbered}
use Rattle.dav_core.specs.Writing.{LeftBy}
use Rattle.dav_core.proofs.UnchangedLemmas.{same_besides_then}
use Rattle.dav_core.proofs.PlaceLemmas.{place_there}
use Rattle.dav_store.specs.View.{Listings, View}
use Rattle.dav_model.specs.Finding.{IsOf}
use Rattle.dav_model.proofs.LooseWalks.{find_row}
use Rattle.dav_walks.specs.Follows.{Calls}
use Rattle.dav_walks.specs.Pouring.{Writes}
use Rattle.dav_walks.proofs.trees.EditsJoined.{filled_after, made_after, moved_after, taken_after}
use Rattle.dav_walks.proofs.trees.StandsAsBefore.{found_numbered}

-- ---- what stands has a number

numbered_in : (rows : List Row) (x : Row) → IsOf x rows → is_numbered rows x.number ≡ true
numbered_in [] x of = absurd of
numbered_in (r ∷ rows) x (inl same) = ap (λ b. b || is_numbered rows x.number) (ap (λ (z : Row). x.number == z.number) (sym same) ∙ itself x.number)
  where
    itself : (n : ℕ) → (n == n) ≡ true
    itself n = grind arith
numbered_in (r ∷ rows) x (inr of) = later (x.number == r.number) (numbered_in rows x of)
  where
    later : (b : Bool) → is_numbered rows x.number ≡ true → (b || is_numbered rows x.number) ≡ true
    later true e = refl
    later false e = e

placed_numbered : (tree : List Row) (path : Names) (there : Row) → place tree path ≡ Ok (Some there) → is_numbered tree there.number ≡ true
placed_numbered tree path there e = numbered_in tree there (find_row (λ r. same_names path r.path) tree there (place_there tree [] path (Some there) e)).1

-- ---- what an edit that is allowed fills

-- a file that is filled stands there
abbrev pub FillsNumbered : List Row → Edit → Type 0
FillsNumbered tree (makes path kind bytes) = Unit {0}
FillsNumbered tree (fills number bytes) = is_numbered tree number ≡ true
FillsNumbered tree (takes path) = Unit {0}
FillsNumbered tree (moves from to) = Unit {0}

abbrev pub AllowsNumbered : List Row → Allowed → Type 0
AllowsNumbered tree allowed = (e : Edit) → allowed ≡ Ok (Some e) → FillsNumbered tree e

this_one : (tree : List Row) (a e : Edit) → ◌≡◌ {A = Allowed} (Ok (Some a)) (Ok (Some e)) → FillsNumbered tree a → FillsNumbered tree e
this_one tree a e is fills_so = subst (FillsNumbered tree) (let same : a ≡ e = cc in same) fills_so

making_at_numbered : (tree : List Row) (found : Result (Option Row) DiskError) (path : Names) → AllowsNumbered tree (making_at found path)
making_at_numbered tree (Err d) path e is = cc
making_at_numbered tree (Ok (Some row)) path e is = cc
making_at_numbered tree (Ok None) path e is = this_one tree (makes path Dir []) e is tt

pub making_numbered : (tree : List Row) (path : Names) → AllowsNumbered tree (making_dir tree path)
making_numbered tree path = making_at_numbered tree (place tree path) path

taking_dir_by : (tree : List Row) (path : Names) (d g : Bool) (one other : DiskError) → AllowsNumbered tree (cond d (cond g (Ok (Some (takes path))) (Err one)) (Err other))
taking_dir_by tree path true true one other e is = this_one tree (takes path) e is tt
taking_dir_by tree path true false one other e is = cc
taking_dir_by tree path false g one other e is = cc

taking_dir_of : (tree : List Row) (found : Result Row DiskError) → AllowsNumbered tree (found_then (taking_dir_row tree) found)
taking_dir_of tree (Err d) e is = cc
taking_dir_of tree (Ok row) e is = taking_dir_by tree row.path (is_dir row.kind) (may_go tree row) _ _ e is

pub taking_dir_numbered : (tree : List Row) (path : Names) → AllowsNumbered tree (taking_dir tree path)
taking_dir_numbered tree path = taking_dir_of tree (look tree path)

taking_file_by : (tree : List Row) (path : Names) (d : Bool) (one : DiskError) → AllowsNumbered tree (cond d (Err one) (Ok (Some (takes path))))
taking_file_by tree path true one e is = cc
taking_file_by tree path false one e is = this_one tree (takes path) e is tt

taking_file_of : (tree : List Row) (found : Result Row DiskError) → AllowsNumbered tree (found_then taking_file_row found)
taking_file_of tree (Err d) e is = cc
taking_file_of tree (Ok row) e is = taking_file_by tree row.path (is_dir row.kind) _ e is

pub taking_file_numbered : (tree : List Row) (path : Names) → AllowsNumbered tree (taking_file tree path)
taking_file_numbered tree path = taking_file_of tree (look tree path)

either_numbered : (tree : List Row) (b : Bool) (x y : Allowed) → AllowsNumbered tree x → AllowsNumbered tree y → AllowsNumbered tree (cond b x y)
either_numbered tree true x y p q = p
either_numbered tree false x y p q = q

moved_numbered : (tree : List Row) (from to : Names) → AllowsNumbered tree (Ok (Some (moves from to)))
moved_numbered tree from to e is = this_one tree (moves from to) e is tt

refused_numbered : (tree : List Row) (d : DiskError) → AllowsNumbered tree (Err d)
refused_numbered tree d e is = cc

left_numbered : (tree : List Row) → AllowsNumbered tree (Ok None)
left_numbered tree e is = cc

moving_over_numbered : (tree : List Row) (row : Row) (to : Names) (there : Option Row) → AllowsNumbered tree (moving_over tree row to there)
moving_over_numbered tree row to None = moved_numbered tree row.path to
moving_over_numbered tree row to (Some there) =
    either_numbered tree (is_dir row.kind) _ _
    (either_numbered tree (is_dir there.kind) _ _
    (either_numbered tree (is_leaf there.path tree) _ _ (moved_numbered tree row.path to) (refused_numbered tree _)) (refused_numbered tree _))
    (either_numbered tree (is_dir there.kind) _ _ (refused_numbered tree _) (moved_numbered tree row.path to))

moving_to_numbered : (tree : List Row) (row : Row) (to : Names) (found : Result (Option Row) DiskError) → AllowsNumbered tree (moving_to tree row to found)
moving_to_numbered tree row to (Err d) = refused_numbered tree d
moving_to_numbered tree row to (Ok there) =
    either_numbered tree (is_root row.path || is_root to) _ _ (refused_numbered tree _)
    (either_numbered tree (same_names row.path to) _ _ (left_numbered tree)
    (either_numbered tree (is_front row.path to) _ _ (refused_numbered tree _) (moving_over_numbered tree row to there)))

moving_of : (tree : List Row) (to : Names) (found : Result Row DiskError) → AllowsNumbered tree (found_then (λ row. moving_to tree row to (place tree to)) found)
moving_of tree to (Err d) = refused_numbered tree d
moving_of tree to (Ok row) = moving_to_numbered tree row to (place tree to)

pub moving_numbered : (tree : List Row) (from to : Names) → AllowsNumbered tree (moving tree from to)
moving_numbered tree from to = moving_of tree to (look tree from)

copying_over_numbered : (w : World) (row : Row) (to : Names) (there : Option Row) → place w.tree to ≡ Ok there → AllowsNumbered w.tree (copying_over w row to there)
copying_over_numbered w row to None at = λ e is. this_one w.tree (makes to File (bytes_of w row.number)) e is tt
copying_over_numbered w row to (Some there) at =
    either_numbered w.tree (is_dir there.kind) _ _ (refused_numbered w.tree _)
    (either_numbered w.tree (same_names row.path to) _ _ (left_numbered w.tree)
    (λ e is. this_one w.tree (fills there.number (bytes_of w row.number)) e is (placed_numbered w.tree to there at)))

copying_to_numbered : (w : World) (row : Row) (to : Names) (found : Result (Option Row) DiskError) → place w.tree to ≡ found → AllowsNumbered w.tree (copying_to w row to found)
copying_to_numbered w row to (Err d) at = refused_numbered w.tree d
copying_to_numbered w row to (Ok there) at = either_numbered w.tree (is_dir row.kind) _ _ (refused_numbered w.tree _) (copying_over_numbered w row to there at)

copying_of : (w : World) (to : Names) (found : Result Row DiskError) → AllowsNumbered w.tree (found_then (λ row. copying_to w row to (place w.tree to)) found)
copying_of w to (Err d) = refused_numbered w.tree d
copying_of w to (Ok row) = copying_to_numbered w row to (place w.tree to) refl

pub copying_numbered : (w : World) (from to : Names) → AllowsNumbered w.tree (copying w from to)
copying_numbered w from to = copying_of w to (look w.tree from)

opening_kept : (tree : List Row) (b : Bool) (number : ℕ) → is_numbered tree number ≡ true → AllowsNumbered tree (Ok (cond b (Some (fills number [])) None))
opening_kept tree true number numbered e is = this_one tree (fills number []) e is numbered
opening_kept tree false number numbered e is = cc

opening_row_numbered : (tree : List Row) (how : OpenOptions) (row : Row) → is_numbered tree row.number ≡ true → AllowsNumbered tree (opening_row how row)
opening_row_numbered tree how row numbered =
    either_numbered tree how.create_new _ _ (refused_numbered tree _)
    (either_numbered tree (is_dir row.kind && (how.write || how.append)) _ _ (refused_numbered tree _)
    (opening_kept tree (is_file row.kind && (how.write && how.truncate)) row.number numbered))

opening_at_numbered : (tree : List Row) (how : OpenOptions) (path : Names) (found : Result (Option Row) DiskError) → place tree path ≡ found → AllowsNumbered tree (opening_at how path found)
opening_at_numbered tree how path (Err d) at = refused_numbered tree d
opening_at_numbered tree how path (Ok (Some row)) at = opening_row_numbered tree how row (placed_numbered tree path row at)
opening_at_numbered tree how path (Ok None) at =
    either_numbered tree (how.create || how.create_new) _ _ (λ e is. this_one tree (makes path File []) e is tt) (refused_numbered tree _)

pub opening_numbered : (tree : List Row) (path : Names) (how : OpenOptions) → AllowsNumbered tree (opening tree path how)
opening_numbered tree path how = opening_at_numbered tree how path (place tree path) refl

-- ---- before an edit

pub edit_before : (e : Edit) (v u w : World) → FillsNumbered u.tree e → SameBesidesOpens v u → Edited e u w → Edited e v w
edit_before (makes path kind bytes) v u w fills_so same edited = made_after path kind bytes v u w same edited
edit_before (fills number bytes) v u w fills_so same edited = filled_after number bytes v u w (inl fills_so) same edited
edit_before (takes path) v u w fills_so same edited = taken_after path v u w same edited
edit_before (moves from to) v u w fills_so same edited = moved_after from to v u w same edited

part_before : (e part : Edit) (v u w : World) → FillsNumbered u.tree e → SameBesidesOpens v u → IsPart e part → Edited part u w → Edited part v w
part_before (makes path kind bytes) part v u w fills_so same (n, is) edited =
    subst (λ x. Edited x v w) (sym is) (made_after path kind (take n bytes) v u w same (subst (λ x. Edited x u w) is edited))
part_before (fills number bytes) part v u w fills_so same (n, is) edited =
    subst (λ x. Edited x v w) (sym is) (filled_after number (take n bytes) v u w (inl fills_so) same (subst (λ x. Edited x u w) is edited))
part_before (takes path) part v u w fills_so same is edited = absurd is
part_before (moves from to) part v u w fills_so same is edited =
    subst (λ x. Edited x v w) (sym is) (moved_after from to v u w same (subst (λ x. Edited x u w) is edited))

pub edited_before : (allowed : Allowed) (edit : Option Edit) (v u w : World) → AllowsNumbered u.tree allowed → allowed ≡ Ok edit → SameBesidesOpens v u → EditedBy edit u w → EditedBy edit v w
edited_before allowed None v u w numbered is same edited = same_besides_then v u w same edited
edited_before allowed (Some e) v u w numbered is same edited = edit_before e v u w (numbered e is) same edited

left_before : (allowed : Allowed) (v u w : World) → AllowsNumbered u.tree allowed → SameBesidesOpens v u → LeftBy true allowed u w → LeftBy true allowed v w
left_before (Ok (Some e)) v u w numbered same (inl kept) = inl (same_besides_then v u w same kept)
left_before (Ok (Some e)) v u w numbered same (inr (part, is, edited)) = inr (part, is, part_before e part v u w (numbered e refl) same is edited)
left_before (Ok None) v u w numbered same left = same_besides_then v u w same left
left_before (Err d) v u w numbered same left = same_besides_then v u w same left

pub left_same : (allowed : Allowed) (v w : World) → SameBesidesOpens v w → LeftBy true allowed v w
left_same (Ok (Some e)) v w same = inl same
left_same (Ok None) v w same = same
left_same (Err d) v w same = same

module _ {S C F L E : Type 0} (view : View S C F) (lists : Listings S C L E) (writes : Writes F) (c : C) where
  pub calls_before : (allowed : Allowed) (m n : S) (r : Result Unit FsError) (v u w : World) → AllowsNumbered u.tree allowed → SameBesidesOpens v u
      → Calls view lists writes c allowed m r n u w → Calls view lists writes c allowed m r n v w
  calls_before allowed m n (Ok x) v u w numbered same (edit, is, edited) = (edit, is, edited_before allowed edit v u w numbered is same edited)
  calls_before allowed m n (Err e) v u w numbered same (inl (called, kept)) = inl (called, same_besides_then v u w same kept)
  calls_before allowed m n (Err e) v u w numbered same (inr (spoiled, left)) = inr (spoiled, left_before allowed v u w numbered same left)

-- ---- what is copied after looks is what was copied before them

pub copying_same : (v u : World) (from to : Names) → SameBesidesOpens v u → copying u from to ≡ copying v from to
copying_same v u from to same =
    ap (λ (t : List Row). found_then (λ row. copying_to u row to (place t to)) (look t from)) same.tree ∙ by (look v.tree from) refl
  where
    over : (row : Row) (there : Option Row) → bytes_of u row.number ≡ bytes_of v row.number → copying_over u row to there ≡ copying_over v row to there
    over row None e = ap (λ bytes. Ok (Some (makes to File bytes))) e
    over row (Some there) e = ap (λ bytes. cond (is_dir there.kind) (Err IsDir) (cond (same_names row.path to) (Ok None) (Ok (Some (fills there.number bytes))))) e

    at : (row : Row) (found : Result (Option Row) DiskError) → bytes_of u row.number ≡ bytes_of v row.number → copying_to u row to found ≡ copying_to v row to found
    at row (Err d) e = refl
    at row (Ok there) e = ap (λ a. cond (is_dir row.kind) (Err IsDir) a) (over row there e)

    by : (found : Result Row DiskError) → look v.tree from ≡ found → found_then (λ row. copying_to u row to (place v.tree to)) found ≡ found_then (λ row. copying_to v row to (place v.tree to)) found
    by (Err d) e = refl
    by (Ok row) e = at row (place v.tree to) (ap bytes_or_none (same.files row.number (inl (ap (λ t. is_numbered t row.number) same.tree ∙ found_numbered v.tree from row e))).1)
