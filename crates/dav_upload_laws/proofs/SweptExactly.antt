-- A sweep over a local store takes exactly the regular files with hidden names of a directory.
use Rattle.std.proofs.Common.{◌≡◌, ◌⊎◌, ◌+◌, ◌&&◌, ◌++◌, inl, inr, ℕ, List, [], ◌∷◌, length, map, Bool, true, false, not, cond, Option, None, Some, Result, Ok, Err, refl, sym, ap, subst, ◌∙◌, arith}
use Rattle.std.proofs.lemmas.Bool.{and_parts, not-true}
use Rattle.std.specs.List.{filter}
use Rattle.std.specs.Option.{option_map}
use Rattle.dav_io.specs.declared.clock.Moment.{Moment}
use Rattle.dav_core.specs.declared.handle.DiskError.TheVariants.{IsDir}
use Rattle.dav_core.specs.declared.tree.Kind.{Kind}
use Rattle.dav_core.specs.declared.tree.Kind.TheVariants.{Dir, File, Link}
use Rattle.dav_core.specs.declared.tree.Row.{Row}
use Rattle.dav_core.specs.Allowed.{Allowed, found_then, taking_file, taking_file_row}
use Rattle.dav_core.specs.Changes.{timed_row, without}
use Rattle.dav_core.specs.DavPath.{WebPath, last_name}
use Rattle.dav_core.specs.Edits.{Edit, Edited, EditedBy, takes}
use Rattle.dav_core.specs.Listing.{name_of, or_empty, stands_in}
use Rattle.dav_core.specs.Path.{Names, parent_of, same_names}
use Rattle.dav_core.specs.Tree.{is_dir, is_link, is_linked, row_at}
use Rattle.dav_core.specs.World.{IsWorld, SameBesidesOpens, World}
use Rattle.dav_core.proofs.Elements.{In, filter_in, in_filter}
use Rattle.dav_core.proofs.Rows.{row_at_in}
use Rattle.dav_store.specs.View.{Listings, View}
use Rattle.dav_memory.specs.Memory.{MemoryState}
use Rattle.dav_model.specs.Finding.{is_clear}
use Rattle.dav_model.specs.Unset.{nothing_set}
use Rattle.dav_model.specs.Walks.{dir_first, in_order, put_by}
use Rattle.dav_model.proofs.LooseWalks.{parent_pushed}
use Rattle.dav_model.proofs.PlainWalks.{unlinked_row}
use Rattle.dav_walks.specs.declared.child.Child.{Child}
use Rattle.dav_walks.specs.Follows.{child_of, children_in}
use Rattle.dav_walks.specs.Follows.Reached.{here}
use Rattle.dav_walks.specs.Pouring.{Writes}
use Rattle.dav_walks.specs.Reading.{HasMembers}
use Rattle.dav_walks.proofs.trees.TreeRows.{at_row, parts_of}
use Rattle.dav_local.specs.declared.entry.LocalFsDirEntry.{LocalFsDirEntry}
use Rattle.dav_local.specs.declared.file.LocalFsFile.{LocalFsFile}
use Rattle.dav_local.specs.declared.gathering.LocalFsReadDir.{LocalFsReadDir}
use Rattle.dav_local.specs.declared.ways.Ways.{Ways}
use Rattle.dav_local_laws.proofs.LocalFollows.{local_follows}
use Rattle.dav_local_laws.specs.LocalStore.{IsLocalStore}
use Rattle.dav_upload.specs.declared.error.UploadError.{UploadError}
use Rattle.dav_upload.specs.Ends.{EndsAs}
use Rattle.dav_upload.specs.Kept.{KeepsRow}
use Rattle.dav_upload.specs.Names.{is_hidden, is_hidden_path}
use Rattle.dav_upload.specs.Steps.{HasClearNames}
use Rattle.dav_upload.specs.Takes.{TakesUploads}
use Rattle.dav_upload.specs.Uploading.{Sweeps, TakesAll, hidden_files, is_hidden_file}
use Rattle.dav_upload.specs.Uploading.TakesAll.{done, goes, short, stops}
use Rattle.dav_upload.proofs.Beside.{looked_at, hidden_some}
use Rattle.dav_upload.proofs.Chains.{one_told, told_pair}
use Rattle.dav_upload.proofs.Kept.{kept_same, kept_taken}
use Rattle.dav_upload.proofs.Leaves.{rows_then}
use Rattle.dav_upload.proofs.Links.{links_kept}
use Rattle.dav_upload.proofs.Moving.{beside_at, gone_at, never, path_of, timed_at}
use Rattle.dav_upload.proofs.StepsLeave.{equal_worlds}
use Rattle.dav_upload.proofs.Sweeps.{AreClear, Took, files_clear, removed_one, still_clear, took_one}
use Rattle.dav_upload_laws.specs.Swept.{IsLeftOver, Swept}
use Rattle.dav_upload_laws.specs.Written.{finds_as_written}
use Rattle.dav_upload_laws.proofs.LocalReading.{local_reads}
use Rattle.dav_upload_laws.proofs.LocalTakes.{local_takes, written_parts}
use Rattle.dav_upload_laws.proofs.Succeeds.{written_resolved}
use Rattle.dav_io.proofs.ToldLemmas.{told_after}
use Rattle.dav_core.proofs.Paths.{names_equal, names_same, last_pushed, parent_and_last}
use Rattle.dav_core.proofs.Rows.{path_in, stands_there}

-- ---- the order of members keeps them all

put_to : (before : Names → Names → Bool) (row : Row) (rows : List Row) (x : Row) → In x (row ∷ rows) → In x (put_by before row rows)
put_to before row [] x i = i
put_to before row (next ∷ rows) x i = by (before row.path next.path) refl i (put_to before row rows x)
  where
    by : (b : Bool) → before row.path next.path ≡ b → In x (row ∷ next ∷ rows) → (In x (row ∷ rows) → In x (put_by before row rows)) → In x (put_by before row (next ∷ rows))
    by true e i more = rw e i
    by false e (inl same) more = rw e (inr (more (inl same)))
    by false e (inr (inl same)) more = rw e (inl same)
    by false e (inr (inr j)) more = rw e (inr (more (inr j)))

put_from : (before : Names → Names → Bool) (row : Row) (rows : List Row) (x : Row) → In x (put_by before row rows) → In x (row ∷ rows)
put_from before row [] x i = i
put_from before row (next ∷ rows) x i = by (before row.path next.path) refl i (put_from before row rows x)
  where
    on : In x (next ∷ put_by before row rows) → (In x (put_by before row rows) → In x (row ∷ rows)) → In x (row ∷ next ∷ rows)
    on (inl same) more = inr (inl same)
    on (inr j) more = elim (more j) [ inl same ↦ inl same | inr k ↦ inr (inr k) ]

    by : (b : Bool) → before row.path next.path ≡ b → In x (put_by before row (next ∷ rows)) → (In x (put_by before row rows) → In x (row ∷ rows)) → In x (row ∷ next ∷ rows)
    by true e i more = rw e at i
    by false e i more = on (rw e at i) more

order_to : (before : Names → Names → Bool) (rows : List Row) (x : Row) → In x rows → In x (in_order before rows)
order_to before [] x i = i
order_to before (row ∷ rows) x (inl same) = put_to before row (in_order before rows) x (inl same)
order_to before (row ∷ rows) x (inr j) = put_to before row (in_order before rows) x (inr (order_to before rows x j))

order_from : (before : Names → Names → Bool) (rows : List Row) (x : Row) → In x (in_order before rows) → In x rows
order_from before [] x i = i
order_from before (row ∷ rows) x i = elim (put_from before row (in_order before rows) x i) [ inl same ↦ inl same | inr j ↦ inr (order_from before rows x j) ]

-- ---- the paths of a sweep

-- a path is one of these
abbrev pub IsAmong : Names → List WebPath → Type 0
IsAmong p [] = ⊥
IsAmong p (x ∷ xs) = (p ≡ x.names) ⊎ IsAmong p xs

among_to : (dir : WebPath) (rows : List Row) (r : Row) → In r rows → is_dir r.kind ≡ false → is_hidden (name_of r) ≡ true → IsAmong (dir.names ++ name_of r ∷ []) (hidden_files dir (map (child_of dir) rows))
among_to dir [] r i file hides = i
among_to dir (row ∷ rows) r i file hides = by (is_hidden_file (child_of dir row)) refl i (λ j. among_to dir rows r j file hides)
  where
    by : (b : Bool) → is_hidden_file (child_of dir row) ≡ b → In r (row ∷ rows) → (In r rows → IsAmong (dir.names ++ name_of r ∷ []) (hidden_files dir (map (child_of dir) rows)))
        → IsAmong (dir.names ++ name_of r ∷ []) (hidden_files dir (map (child_of dir) (row ∷ rows)))
    by true e (inl same) more = rw e (inl (ap (λ (x : Row). dir.names ++ name_of x ∷ []) same))
    by true e (inr j) more = rw e (inr (more j))
    by false e (inl same) more =
        let is : is_hidden_file (child_of dir r) ≡ true = ap (λ b. not b && is_hidden (name_of r)) file ∙ hides in
        never (is_hidden_file (child_of dir row)) (ap (λ (x : Row). is_hidden_file (child_of dir x)) (sym same) ∙ is) e
    by false e (inr j) more = rw e (more j)

-- a member whose path is one of them
record Of (dir : WebPath) (rows : List Row) (p : Names) : Type 0 where
  row : Row
  within : In row rows
  file : is_dir row.kind ≡ false
  hides : is_hidden (name_of row) ≡ true
  at : p ≡ dir.names ++ name_of row ∷ []

among_from : (dir : WebPath) (rows : List Row) (p : Names) → IsAmong p (hidden_files dir (map (child_of dir) rows)) → Of dir rows p
among_from dir [] p i = absurd i
among_from dir (row ∷ rows) p i = by (is_hidden_file (child_of dir row)) refl i (among_from dir rows p)
  where
    more : Of dir rows p → Of dir (row ∷ rows) p
    more o = record { row = o.row; within = inr o.within; file = o.file; hides = o.hides; at = o.at }

    first : is_hidden_file (child_of dir row) ≡ true → p ≡ dir.names ++ name_of row ∷ [] → Of dir (row ∷ rows) p
    first e at = let (a, b) = and_parts (not (is_dir row.kind)) (is_hidden (name_of row)) e in record { row = row; within = inl refl; file = not-true (is_dir row.kind) a; hides = b; at = at }

    either : is_hidden_file (child_of dir row) ≡ true → (p ≡ dir.names ++ name_of row ∷ []) ⊎ IsAmong p (hidden_files dir (map (child_of dir) rows)) → (IsAmong p (hidden_files dir (map (child_of dir) rows)) → Of dir rows p)
        → Of dir (row ∷ rows) p
    either e (inl at) on = first e at
    either e (inr j) on = more (on j)

    by : (b : Bool) → is_hidden_file (child_of dir row) ≡ b → IsAmong p (hidden_files dir (map (child_of dir) (row ∷ rows))) → (IsAmong p (hidden_files dir (map (child_of dir) rows)) → Of dir rows p) → Of dir (row ∷ rows) p
    by true e i on = either e (rw e at i) on
    by false e i on = more (on (rw e at i))

-- ---- names in a directory

-- ---- what one removal takes

pub none_took : (v w : World) (hidden p : Names) → Took hidden v w → row_at v.tree p ≡ None → row_at w.tree p ≡ None
none_took v w hidden p (inr same) none = ap (λ rows. row_at rows p) same.tree ∙ none
none_took v w hidden p (inl (there, (t, new, becomes))) none = ap (λ rows. row_at rows p) becomes.tree ∙ (timed_at (parent_of hidden) t (without hidden v.tree) p ∙ ap (option_map (timed_row (parent_of hidden) t)) (by (same_names p hidden) refl))
  where
    by : (b : Bool) → same_names p hidden ≡ b → row_at (without hidden v.tree) p ≡ None
    by true e = ap (row_at (without hidden v.tree)) (names_same p hidden e) ∙ gone_at hidden v.tree
    by false e = beside_at hidden v.tree p there.alone (λ f. never (same_names p hidden) (names_equal p hidden f) e) ∙ none

gone_behind : (v w : World) (hidden : Names) → Edited (takes hidden) v w → row_at w.tree hidden ≡ None
gone_behind v w hidden (t, new, becomes) =
    ap (λ rows. row_at rows hidden) becomes.tree ∙ (timed_at (parent_of hidden) t (without hidden v.tree) hidden ∙ ap (option_map (timed_row (parent_of hidden) t)) (gone_at hidden v.tree))

pub taken_gone : (v w : World) (hidden : Names) → IsWorld v → Took hidden v w → EndsAs (taking_file v.tree hidden) (Ok tt) v w → row_at w.tree hidden ≡ None
taken_gone v w hidden is took (edit, allowed, edited) = by (row_at v.tree hidden) refl
  where
    shape : (row : Row) → row_at v.tree hidden ≡ Some row → cond (is_dir row.kind) (Err IsDir) (Ok (Some (takes row.path))) ≡ Ok edit
    shape row at = sym (ap (found_then taking_file_row) (looked_at v hidden row is at)) ∙ allowed

    edits : (a b : Option Edit) → ◌≡◌ {A = Allowed} (Ok a) (Ok b) → a ≡ b
    edits a b e = cc

    by_kind : (row : Row) → row_at v.tree hidden ≡ Some row → (b : Bool) → is_dir row.kind ≡ b → cond b (Err IsDir) (Ok (Some (takes row.path))) ≡ Ok edit → row_at w.tree hidden ≡ None
    by_kind row at true kind e = cc
    by_kind row at false kind e =
        let same : Some (takes row.path) ≡ edit = edits (Some (takes row.path)) edit e in
        let did : Edited (takes row.path) v w = subst (λ x. EditedBy x v w) (sym same) edited in
        gone_behind v w hidden (subst (λ p. Edited (takes p) v w) (sym (path_of v.tree hidden row at)) did)

    by : (o : Option Row) → row_at v.tree hidden ≡ o → row_at w.tree hidden ≡ None
    by None none = none_took v w hidden hidden took none
    by (Some row) at = by_kind row at (is_dir row.kind) refl (shape row at)

pub took_keeps : (v w : World) (hidden p : Names) → Took hidden v w → (p ≡ hidden → ⊥) → KeepsRow v w p
took_keeps v w hidden p (inl (there, edited)) ne = kept_taken v w hidden p there.alone ne edited
took_keeps v w hidden p (inr same) ne = kept_same v w p same

-- ---- the sweep

-- These paths are gone at Ok, and counted; all others stay.
record Gone (paths : List WebPath) (n : ℕ) (r : Result ℕ UploadError) (v w : World) : Type 0 where
  others : (p : Names) → (IsAmong p paths → ⊥) → KeepsRow v w p
  nothing : (p : Names) → row_at v.tree p ≡ None → row_at w.tree p ≡ None
  all : (k : ℕ) → r ≡ Ok k → (p : Names) → IsAmong p paths → row_at w.tree p ≡ None
  count : (k : ℕ) → r ≡ Ok k → k ≡ n + length paths

gone_none : (n k : ℕ) (paths : List WebPath) (r : Result ℕ UploadError) (v w : World) → SameBesidesOpens v w → ((k : ℕ) → r ≡ Ok k → (paths ≡ []) × (k ≡ n)) → Gone paths n r v w
gone_none n k paths r v w same empty = record {
  others = λ p off. kept_same v w p same;
  nothing = λ p none. ap (λ rows. row_at rows p) same.tree ∙ none;
  all = λ k is p i. absurd (subst (IsAmong p) (empty k is).0 i);
  count = λ k is. (let (a, b) = empty k is in let c = ap length a in omega (arith, b, c));
}

module _ {S C : Type 0} (view : View S C LocalFsFile) (lists : Listings S C LocalFsReadDir LocalFsDirEntry) (writes : Writes LocalFsFile) (c : C) (ways : S → Ways) (memory : S → MemoryState) (moment : S → Moment)
    (local : IsLocalStore view lists writes ways memory moment) where
  abbrev test : S → Bool
  test s = finds_as_written (ways s)

  takes_all : TakesUploads view writes c (λ s. finds_as_written (ways s))
  takes_all = local_takes view lists writes c ways memory moment local

  paths_gone : (paths : List WebPath) (n : ℕ) (s t : S) (r : Result ℕ UploadError) (v w : World) → (view.state s).told ≡ Some v → (view.state t).told ≡ Some w → finds_as_written (ways s) ≡ true → TakesAll view lists c paths n s r t
      → AreClear v paths → Gone paths n r v w
  paths_gone paths n s t r v w was now plain (done i a) clear =
      gone_none i i [] (Ok i) v w (equal_worlds v w (one_told (view.state s).told v w was now)) (λ k is. (refl, (let e : ◌≡◌ {A = Result ℕ UploadError} (Ok i) (Ok k) = is in cc)))
  paths_gone paths n s t r v w was now plain (short all i a) clear = gone_none i i all r v w (equal_worlds v w (one_told (view.state s).told v w was now)) (λ k is. cc)
  paths_gone paths n s t r v w was now plain (stops path rest i a b e removes keeps) ((hides, free), clear) =
      let took = took_one view writes c (λ s. finds_as_written (ways s)) takes_all path s t v w (Err e) was now plain hides free removes in record {
        others = λ p off. took_keeps v w path.names p took (λ f. off (inl f));
        nothing = λ p none. none_took v w path.names p took none;
        all = λ k is p j. cc;
        count = λ k is. cc;
      }
  paths_gone paths n s t r v w was now plain (goes path rest i a m b q removes keeps on) ((hides, free), clear) =
      let taken = takes_all.removes s m path (Ok tt) plain removes in
      let (x, here_so, ends) = told_after (view.state s).told (view.state m).told _ v taken.1 was in
      let took = took_one view writes c (λ s. finds_as_written (ways s)) takes_all path s m v x (Ok tt) was here_so plain hides free removes in
      let unseen = removed_one view writes c (λ s. finds_as_written (ways s)) takes_all path s m v x (Ok tt) was here_so plain hides free removes in
      let then = paths_gone rest (i + 1) m t r x w here_so now taken.0 on (still_clear v x rest unseen clear) in
      let first : row_at x.tree path.names ≡ None = taken_gone v x path.names (takes_all.worlds s v was) took (ends free) in record {
        others = λ p off. rows_then v x w p (took_keeps v x path.names p took (λ f. off (inl f))) (then.others p (λ j. off (inr j)));
        nothing = λ p none. then.nothing p (none_took v x path.names p took none);
        all = λ k is p j. elim j [
          | inl here_is ↦ ap (row_at w.tree) here_is ∙ then.nothing path.names first
          | inr later ↦ then.all k is p later
        ];
        count = λ k is. (let e = then.count k is in omega (arith, e));
      }

  -- ---- by the tree

  members_read : (dir : WebPath) (s m : S) (v : World) (members : List Child) → (view.state s).told ≡ Some v → finds_as_written (ways s) ≡ true → is_clear v.tree dir.names ≡ true
      → HasMembers view lists s c dir members m → members ≡ children_in v.tree dir.names dir
  members_read dir s m v members was plain clear has =
      let follows = local_follows view lists writes c ways memory moment local nothing_set s in
      let (x, here_so, lists_so) = told_after (view.state s).told (view.state m).told _ v (follows.members s m dir members here has) was in
      let same = written_resolved nothing_set (ways s) plain v.tree dir.names in
      lists_so.1 (λ folds. (let no : true ≡ false = sym folds ∙ (written_parts (ways s) plain).1 in cc)) (ap (is_clear v.tree) same ∙ clear) ∙ ap (λ names. children_in v.tree names dir) same

  of_left : (dir : WebPath) (v : World) (p : Names) → IsWorld v → HasClearNames v dir.names → IsAmong p (hidden_files dir (children_in v.tree dir.names dir)) → IsLeftOver v dir.names p
  of_left dir v p is clear i =
      let o = among_from dir (in_order dir_first (filter (stands_in dir.names) v.tree)) p i in
      let (in_tree, stands) = in_filter (stands_in dir.names) v.tree o.row (order_from dir_first (filter (stands_in dir.names) v.tree) o.row o.within) in
      let path : o.row.path ≡ p = path_in dir.names o.row stands ∙ sym o.at in
      let at : row_at v.tree p ≡ Some o.row = ap (row_at v.tree) (sym path) ∙ at_row v.tree o.row (parts_of v.tree is.tree).once in_tree in
      let free : is_linked v.tree p ≡ false = ap (is_linked v.tree) o.at ∙ clear (name_of o.row) o.hides in
      record {
        row = o.row;
        at = at;
        file = kinds o.row.kind o.file (unlinked_row v.tree p o.row (looked_at v p o.row is at) free);
        hides = ap is_hidden_path o.at ∙ (ap (λ n. is_hidden (or_empty n)) (last_pushed dir.names (name_of o.row)) ∙ o.hides);
        within = ap parent_of o.at ∙ parent_pushed dir.names (name_of o.row);
      }
    where
      kinds : (k : Kind) → is_dir k ≡ false → is_link k ≡ false → k ≡ File
      kinds Dir e f = cc
      kinds File e f = refl
      kinds Link e f = cc

  left_of : (dir : WebPath) (v : World) (p : Names) → IsLeftOver v dir.names p → IsAmong p (hidden_files dir (children_in v.tree dir.names dir))
  left_of dir v p left =
      let (name, is) = parent_and_last p (hidden_some p left.hides) in
      let path : left.row.path ≡ dir.names ++ name ∷ [] = sym (path_of v.tree p left.row left.at) ∙ (is ∙ ap (λ x. x ++ name ∷ []) left.within) in
      let stands = stands_there dir.names name left.row path in
      let in_tree = (row_at_in v.tree p left.row left.at).0 in
      let called : name_of left.row ≡ name = ap (λ x. or_empty (last_name x)) path ∙ ap or_empty (last_pushed dir.names name) in
      let hides : is_hidden (name_of left.row) ≡ true = ap (λ x. is_hidden (or_empty (last_name x))) (sym (path_of v.tree p left.row left.at)) ∙ left.hides in
      subst (λ x. IsAmong x (hidden_files dir (children_in v.tree dir.names dir))) (ap (λ n. dir.names ++ n ∷ []) called ∙ (ap (λ x. x ++ name ∷ []) (sym left.within) ∙ sym is))
      (among_to dir (in_order dir_first (filter (stands_in dir.names) v.tree)) left.row (order_to dir_first (filter (stands_in dir.names) v.tree) left.row (filter_in (stands_in dir.names) v.tree left.row stands in_tree))
      (ap is_dir left.file) hides)

  pub swept_exactly : (dir : WebPath) (s t : S) (v w : World) (r : Result ℕ UploadError) → (view.state s).told ≡ Some v → (view.state t).told ≡ Some w → finds_as_written (ways s) ≡ true → HasClearNames v dir.names
      → is_clear v.tree dir.names ≡ true → Sweeps view lists c dir s r t → Swept dir r v w
  swept_exactly dir s t v w r was now plain clear_names clear (inl (e, hasnt, is)) =
      let same = told_pair (view.state s).told (view.state t).told SameBesidesOpens v w hasnt.keeps.world was now in record {
        others = λ p off. kept_same v w p same;
        gone = λ n ok p left. (let f : Err _ ≡ Ok n = sym is ∙ ok in cc);
        count = λ n ok. (let f : Err _ ≡ Ok n = sym is ∙ ok in cc);
      }
  swept_exactly dir s t v w r was now plain clear_names clear (inr (members, m, has, keeps, removals)) =
      let (x, here_so, same) = told_after (view.state s).told (view.state m).told SameBesidesOpens v keeps.world was in
      let still : HasClearNames x dir.names = λ name hides. links_kept v x same (dir.names ++ name ∷ []) ∙ clear_names name hides in
      let world = takes_all.worlds s v was in
      let all : members ≡ children_in v.tree dir.names dir = members_read dir s m v members was plain clear has in
      let g : Gone (hidden_files dir members) 0 r x w =
      paths_gone (hidden_files dir members) 0 m t r x w here_so now (local_reads view lists writes c ways memory moment local s m dir members plain has) removals (files_clear x dir members still) in
      let h : Gone (hidden_files dir (children_in v.tree dir.names dir)) 0 r x w = subst (λ ms. Gone (hidden_files dir ms) 0 r x w) all g in record {
        others = λ p off. rows_then v x w p (kept_same v x p same) (h.others p (λ i. off (of_left dir v p world clear_names i)));
        gone = λ n ok p left. h.all n ok p (left_of dir v p left);
        count = λ n ok. (let e = h.count n ok in omega (arith, e));
      }
