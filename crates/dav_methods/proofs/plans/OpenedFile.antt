-- The file that a PUT opened, in a told world: its being filled ends as the plan says.
-- Headline: `put_into`.
use Rattle.std.proofs.Common.{◌≡◌, ◌<◌, ◌-◌, ◌+◌, ◌&&◌, ◌++◌, inl, inr, ℕ, Bool, true, false, length, take, List, [], ◌∷◌, Option, None, Some, Result, Ok, Err, refl, sym, ap, subst, ◌∙◌, arith, append-nil}
use Rattle.std.proofs.Math.Seq.{drop-nil}
use Rattle.std.proofs.lemmas.List.{length-take-le}
use Rattle.std.specs.Option.{option_map}
use Rattle.dav_core.specs.declared.handle.DiskError.TheVariants.{IsDir}
use Rattle.dav_core.specs.declared.handle.DiskError.{DiskError}
use Rattle.dav_core.specs.declared.tree.Kind.TheVariants.{Dir, File, Link}
use Rattle.dav_core.specs.declared.tree.Kind.{Kind}
use Rattle.dav_core.specs.declared.tree.Row.{Row}
use Rattle.dav_core.specs.Allowed.{Allowed, opening, opening_at, opening_row, place}
use Rattle.dav_core.specs.Disk.{Live}
use Rattle.dav_core.specs.Edits.{Edit, Edited, EditedBy, fills, makes}
use Rattle.dav_core.specs.Path.{Names, parent_of, same_names}
use Rattle.dav_core.specs.Tree.{has_dir, is_dir_row, is_link, is_linked, is_tree, look, row_at}
use Rattle.dav_core.specs.World.{Holds, IsWorld, SameBesidesOpens, World, bytes_of, is_numbered}
use Rattle.dav_core.specs.Writing.{appends, can_write, written}
use Rattle.dav_core.proofs.PlaceLemmas.{look_place, place_there, stands_at}
use Rattle.dav_core.proofs.Plain.{names_same}
use Rattle.dav_core.proofs.UnchangedLemmas.{same_besides}
use Rattle.dav_core.proofs.EditsLemmas.{edit_then}
use Rattle.dav_model.specs.Conditions.{Fields}
use Rattle.dav_model.specs.Head.{Reply}
use Rattle.dav_model.specs.Plans.{put_acts, put_options}
use Rattle.dav_model.specs.Written.{ByActs, PartOf, done_reply}
use Rattle.dav_model.proofs.PlainWalks.{unlinked_row}
use Rattle.dav_walks.proofs.trees.EditsJoined.{filled_after, filled_bytes, filled_file, made_after, made_bytes, made_file, made_filled}
use Rattle.dav_walks.proofs.trees.StandsAsBefore.{found_numbered}
use Rattle.dav_walks.proofs.trees.OthersStay.{world_numbers}

-- ---- what stands at a path that may be put to

some_place : (a o : Option Row) → ◌≡◌ {A = Result (Option Row) DiskError} (Ok a) (Ok o) → a ≡ o
some_place a o e = cc

and_first : (a b : Bool) → (a && b) ≡ true → a ≡ true
and_first true b e = refl
and_first false b e = cc

-- Where nothing stands the path isn't the root.
not_root : (tree : List Row) (path : Names) → is_tree tree ≡ true → row_at tree path ≡ None → 0 < length path
not_root tree [] is none =
    let root : has_dir tree [] ≡ true = and_first (has_dir tree []) _ is in
    let f : true ≡ false = sym root ∙ ap is_dir_row none in cc
not_root tree (name ∷ names) is none = omega arith

apart_by : (b : Bool) (path : Names) → same_names (parent_of path) path ≡ b → 0 < length path → b ≡ false
apart_by false path e some = refl
apart_by true path e some =
    let same : parent_of path ≡ path = names_same (parent_of path) path e in
    let shorter : length (parent_of path) ≡ length path - 1 = length-take-le (length path - 1) path (omega arith) in
    let long : length (parent_of path) ≡ length path = ap length same in
    absurd (omega arith)

-- A path below the root isn't that of its directory.
above_apart : (tree : List Row) (path : Names) → is_tree tree ≡ true → row_at tree path ≡ None → same_names (parent_of path) path ≡ false
above_apart tree path is none = apart_by (same_names (parent_of path) path) path refl (not_root tree path is none)

-- ---- bytes

written_new : (bytes : List ℕ) → written 0 bytes [] ≡ bytes
written_new bytes = ap (λ x. bytes ++ x) (drop-nil (0 + length bytes)) ∙ append-nil bytes

-- ---- the file that was opened

-- The file at a path is open and empty, so that its being filled ends as the plan says.
pub record Into (fields : Fields) (allowed : Allowed) (body : List ℕ) (v a : World) (row : Row) : Type 0 where
  pub edit : Option Edit
  pub allows : allowed ≡ Ok edit
  pub kind : row.kind ≡ File
  pub empty : bytes_of a row.number ≡ []
  pub whole : (w : World) → Edited (fills row.number body) a w → (done : ℕ) (reply : Reply) → reply ≡ done_reply done → ByActs fields (put_acts body allowed) done reply v w
  pub part : (n : ℕ) (w : World) → Edited (fills row.number (take n body)) a w → PartOf (put_acts body allowed) v w

into_new : (fields : Fields) (body : List ℕ) (at : Names) (v a : World) (row : Row) → IsWorld v → row_at v.tree at ≡ None → Edited (makes at File []) v a → row_at a.tree at ≡ Some row
    → Holds a row.number → Into fields (Ok (Some (makes at File []))) body v a row
into_new fields body at v a row is none (number, s, p, next, new, dir, becomes) found held =
    let edited : Edited (makes at File []) v a = (number, s, p, next, new, dir, becomes) in
    let file = made_file at (parent_of at) number s p row v.tree none (sym (ap (λ (rows : List Row). row_at rows at) becomes.tree) ∙ found) in
    let own : number ≡ row.number = sym file.numbered in
    let apart = above_apart v.tree at is.tree none in
    let given = world_numbers v is in
    record {
      edit = Some (makes at File []);
      allows = refl;
      kind = file.kind;
      empty = made_bytes at row.number v a edited own held;
      whole = λ w fill done reply e. (w, made_filled at row.number body v a w edited apart given own held fill, (e, same_besides w));
      part = λ n w fill. inr (inl (makes at File (take n body), (n, refl), made_filled at row.number (take n body) v a w edited apart given own held fill));
    }

into_old : (fields : Fields) (body : List ℕ) (at : Names) (v a : World) (there row : Row) → row_at v.tree at ≡ Some there → there.kind ≡ File → Edited (fills there.number []) v a
    → row_at a.tree at ≡ Some row → Holds a row.number → Into fields (Ok (Some (fills there.number []))) body v a row
into_old fields body at v a there row stood kind edited found held =
    let file = filled_file there.number [] at there row v a edited stood kind found in
    let own : row.number ≡ there.number = file.numbered in
    record {
      edit = Some (fills there.number []);
      allows = refl;
      kind = file.kind;
      empty = ap (bytes_of a) own ∙ filled_bytes there.number [] v a edited (subst (Holds a) own held);
      whole = λ w fill done reply e. (a, edited, (w, subst (λ n. Edited (fills n body) a w) own fill, (e, same_besides w)));
      part = λ n w fill. inr (inr (a, edited, inr (inl (fills there.number (take n body), (n, refl), subst (λ k. Edited (fills k (take n body)) a w) own fill))));
    }

-- what is allowed over a row
abbrev allowed_by : Kind → ℕ → Allowed
allowed_by Dir number = Err IsDir
allowed_by File number = Ok (Some (fills number []))
allowed_by Link number = Ok None

row_allowed : (kind : Kind) (row : Row) → row.kind ≡ kind → opening_row put_options row ≡ allowed_by kind row.number
row_allowed Dir row e = rw e refl
row_allowed File row e = rw e refl
row_allowed Link row e = rw e refl

into_row : (kind : Kind) (fields : Fields) (body : List ℕ) (at : Names) (v u a : World) (there row : Row) (edit : Option Edit) → SameBesidesOpens v u → is_linked v.tree at ≡ false
    → place v.tree at ≡ Ok (Some there) → there.kind ≡ kind → allowed_by kind there.number ≡ Ok edit → EditedBy edit u a → row_at a.tree at ≡ Some row → Holds a row.number
    → Into fields (allowed_by kind there.number) body v a row
into_row Dir fields body at v u a there row edit same free stood kind allows edited found held = cc
into_row File fields body at v u a there row edit same free stood kind allows edited found held =
    let is : Some (fills there.number []) ≡ edit = cc in
    let did : Edited (fills there.number []) u a = subst (λ o. EditedBy o u a) (sym is) edited in
    let seen : look v.tree at ≡ Ok there = look_place v.tree at ∙ ap stands_at stood in
    let holds : Holds u there.number = inl (ap (λ (tree : List Row). is_numbered tree there.number) same.tree ∙ found_numbered v.tree at there seen) in
    into_old fields body at v a there row (place_there v.tree [] at (Some there) stood) kind (filled_after there.number [] v u a holds same did) found held
into_row Link fields body at v u a there row edit same free stood kind allows edited found held =
    let seen : look v.tree at ≡ Ok there = look_place v.tree at ∙ ap stands_at stood in
    let f : true ≡ false = sym (ap is_link kind) ∙ unlinked_row v.tree at there seen free in cc

into_place : (place_is : Result (Option Row) DiskError) (fields : Fields) (body : List ℕ) (at : Names) (v u a : World) (row : Row) (edit : Option Edit) → IsWorld v → SameBesidesOpens v u
    → is_linked v.tree at ≡ false → place v.tree at ≡ place_is → opening_at put_options at place_is ≡ Ok edit → EditedBy edit u a → row_at a.tree at ≡ Some row → Holds a row.number
    → Into fields (opening_at put_options at place_is) body v a row
into_place (Err d) fields body at v u a row edit is same free stood allows edited found held = cc
into_place (Ok None) fields body at v u a row edit is same free stood allows edited found held =
    let made : Some (makes at File []) ≡ edit = cc in
    let did : Edited (makes at File []) u a = subst (λ o. EditedBy o u a) (sym made) edited in
    into_new fields body at v a row is (place_there v.tree [] at None stood) (made_after at File [] v u a same did) found held
into_place (Ok (Some there)) fields body at v u a row edit is same free stood allows edited found held =
    let by = row_allowed there.kind there refl in
    subst (λ o. Into fields o body v a row) (sym by)
    (into_row there.kind fields body at v u a there row edit same free stood refl (sym by ∙ allows) edited found held)

pub put_into : (fields : Fields) (body : List ℕ) (at : Names) (v u a : World) (row : Row) (edit : Option Edit) → IsWorld v → SameBesidesOpens v u → is_linked v.tree at ≡ false
    → opening v.tree at put_options ≡ Ok edit → EditedBy edit u a → row_at a.tree at ≡ Some row → Holds a row.number → Into fields (opening v.tree at put_options) body v a row
put_into fields body at v u a row edit is same free allows edited found held =
    into_place (place v.tree at) fields body at v u a row edit is same free refl allows edited found held

-- the edit of a write from the first byte of an empty file
pub fill_of : (number : ℕ) (bytes : List ℕ) (a b w : World) → bytes_of a number ≡ [] → Edited (fills number (written 0 bytes (bytes_of a number))) a b → SameBesidesOpens b w → Edited (fills number bytes) a w
fill_of number bytes a b w empty edited same =
    edit_then (fills number bytes) a b w (subst (λ x. Edited (fills number x) a b) (ap (written 0 bytes) empty ∙ written_new bytes) edited) same

-- A regular file that a PUT opened can be written.
pub live_can : (o : Option Live) (kind : Kind) → option_map (λ (l : Live). l.kind) o ≡ Some kind → kind ≡ File → ((l : Live) → o ≡ Some l → l.how ≡ put_options) → can_write o ≡ true
live_can None kind e is how = cc
live_can (Some l) kind e is how = let same : l.kind ≡ kind = cc in rw (same, is, how l refl) refl

-- and it wasn't opened to append
pub never_appends : (o : Option Live) → ((l : Live) → o ≡ Some l → l.how ≡ put_options) → appends o ≡ false
never_appends None how = refl
never_appends (Some l) how = rw (how l refl) refl
