-- A sweep of what was left before a time takes, over a local store, exactly what was changed before it.
use Rattle.std.proofs.Common.{◌≡◌, ◌⊎◌, ◌≤◌, ◌+◌, ◌&&◌, ◌||◌, ◌++◌, inl, inr, ℕ, List, [], ◌∷◌, map, Bool, true, false, cond, Option, None, Some, Result, Ok, Err, refl, sym, ap, subst, ◌∙◌, append-nil, arith}
use Rattle.std.proofs.lemmas.Bool.{and_from, and_parts}
use Rattle.std.proofs.lemmas.List.Elements.{All-from_recursion, recursion_from_All}
use Rattle.std.proofs.lemmas.List.Sorted.{All-permutation, IsPermutation-sym}
use Rattle.std.specs.List.{AllByRecursion, filter}
use Rattle.std.specs.List.Sorted.{IsPermutation}
use Rattle.dav_io.specs.Counts.{Rose}
use Rattle.dav_io.specs.declared.clock.Moment.{Moment}
use Rattle.dav_io.proofs.AppendingLemmas.{rose_after}
use Rattle.dav_io.proofs.ToldLemmas.{told_after}
use Rattle.dav_core.specs.declared.error.FsError.TheVariants as fs
use Rattle.dav_core.specs.declared.handle.DiskError.{DiskError}
use Rattle.dav_core.specs.declared.handle.DiskError.TheVariants as disk
use Rattle.dav_core.specs.declared.member.Member.{Member}
use Rattle.dav_core.specs.declared.time.FileTime.{FileTime}
use Rattle.dav_core.specs.declared.tree.Kind.{Kind}
use Rattle.dav_core.specs.declared.tree.Kind.TheVariants.{Dir, File, Link}
use Rattle.dav_core.specs.declared.tree.Row.{Row}
use Rattle.dav_core.specs.Allowed.{found_then, taking_file, taking_file_row}
use Rattle.dav_core.specs.DavPath.{WebPath, last_name}
use Rattle.dav_core.specs.Edits.{takes}
use Rattle.dav_core.specs.Errors.{fs_error_of}
use Rattle.dav_core.specs.Info.{known_time}
use Rattle.dav_core.specs.Listing.{listable, name_of, or_empty, stands_in}
use Rattle.dav_core.specs.Members.{member_of, members}
use Rattle.dav_core.specs.Path.{Names, parent_of}
use Rattle.dav_core.specs.Tree.{is_dir, is_file, is_linked, look, row_at}
use Rattle.dav_core.specs.World.{IsWorld, SameBesidesOpens, World}
use Rattle.dav_core.proofs.Elements.{In, filter_in, in_filter}
use Rattle.dav_core.proofs.Paths.{last_pushed, parent_and_last}
use Rattle.dav_core.proofs.Rows.{path_in, row_at_in, stands_there}
use Rattle.dav_store.specs.Members.{ReadsThere, WasListed}
use Rattle.dav_store.specs.View.{Listings, View}
use Rattle.dav_store.proofs.Reading.{listed_there}
use Rattle.dav_memory.specs.Memory.{MemoryState}
use Rattle.dav_model.specs.Finding.{has_slash, is_clear, is_forbidden, members_or, resolved}
use Rattle.dav_model.specs.Unset.{nothing_set}
use Rattle.dav_model.specs.Valid.{TellsApart}
use Rattle.dav_model.proofs.LooseWalks.{parent_pushed}
use Rattle.dav_methods.specs.Answers.{RefusesUsually}
use Rattle.dav_walks.specs.Follows.{Calls, CallsFor, IfFound, UnlessShut}
use Rattle.dav_walks.specs.Follows.Reached.{here}
use Rattle.dav_walks.specs.Pouring.{Writes}
use Rattle.dav_walks.proofs.trees.TreeRows.{at_row, parts_of}
use Rattle.dav_local.specs.declared.entry.LocalFsDirEntry.{LocalFsDirEntry}
use Rattle.dav_local.specs.declared.file.LocalFsFile.{LocalFsFile}
use Rattle.dav_local.specs.declared.gathering.LocalFsReadDir.{LocalFsReadDir}
use Rattle.dav_local.specs.declared.ways.Ways.{Ways}
use Rattle.dav_local.specs.Standing.{HasNoLinks}
use Rattle.dav_local.specs.Ways.{rules_of}
use Rattle.dav_local_laws.proofs.LocalFollows.{local_follows}
use Rattle.dav_local_laws.proofs.LocalShows.{local_shows_members}
use Rattle.dav_local_laws.proofs.LocalUsual.{local_usual}
use Rattle.dav_local_laws.proofs.RuledReads.{no_links}
use Rattle.dav_local_laws.specs.LocalStore.{IsLocalStore}
use Rattle.dav_local_laws.specs.Ruled.{members_in}
use Rattle.dav_upload.specs.declared.error.UploadError.{UploadError}
use Rattle.dav_upload.specs.Kept.{KeepsRow}
use Rattle.dav_upload.specs.Names.{is_hidden, is_hidden_path}
use Rattle.dav_upload.specs.Others.{LeavesOthers}
use Rattle.dav_upload.specs.Steps.{HasClearNames}
use Rattle.dav_upload.specs.Sweeping.{SweepsBefore, TakesEach, is_left_before, left_before, was_before}
use Rattle.dav_upload.specs.Sweeping.TakesEach.{done, goes, gone, stops}
use Rattle.dav_upload.specs.Takes.{TakesUploads}
use Rattle.dav_upload.proofs.Beside.{hidden_some, looked_at}
use Rattle.dav_upload.proofs.Chains.{one_told}
use Rattle.dav_upload.proofs.Kept.{kept_same}
use Rattle.dav_upload.proofs.Leaves.{rows_then}
use Rattle.dav_upload.proofs.Links.{links_kept}
use Rattle.dav_upload.proofs.Moving.{never, path_of}
use Rattle.dav_upload.proofs.StepsLeave.{equal_worlds}
use Rattle.dav_upload.proofs.Sweeps.{AreClear, Took, removed_one, still_clear, took_one}
use Rattle.dav_upload.proofs.SweepsBefore.{AreOff, before_left, left_clear}
use Rattle.dav_upload_laws.specs.Swept.{IsLeftBefore, IsNotLeftBefore, SweptBefore}
use Rattle.dav_upload_laws.specs.Written.{finds_as_written}
use Rattle.dav_upload_laws.proofs.LocalReading.{local_leads}
use Rattle.dav_upload_laws.proofs.LocalTakes.{local_takes, written_parts}
use Rattle.dav_upload_laws.proofs.Succeeds.{written_resolved}
use Rattle.dav_upload_laws.proofs.SweptExactly.{IsAmong, none_took, taken_gone, took_keeps}

-- ---- lists

each_of : {A : Type 0} (P : A → Type 0) (xs : List A) (x : A) → AllByRecursion P xs → In x xs → P x
each_of P [] x all i = absurd i
each_of P (y ∷ xs) x (first, all) (inl same) = subst P (sym same) first
each_of P (y ∷ xs) x (first, all) (inr i) = each_of P xs x all i

each_in : {A : Type 0} (P : A → Type 0) (xs : List A) → ((x : A) → In x xs → P x) → AllByRecursion P xs
each_in P [] h = tt
each_in P (y ∷ xs) h = (h y (inl refl), each_in P xs (λ x i. h x (inr i)))

in_order_of : {A : Type 0} (xs ys : List A) (x : A) → IsPermutation xs ys → In x ys → In x xs
in_order_of xs ys x order i = each_of (λ y. In y xs) ys x (recursion_from_All _ ys (All-permutation (λ y. In y xs) xs ys order (All-from_recursion _ xs (each_in (λ y. In y xs) xs (λ y j. j))))) i

in_front : {A : Type 0} (x : A) (xs ys : List A) → In x xs → In x (xs ++ ys)
in_front x (y ∷ xs) ys (inl same) = inl same
in_front x (y ∷ xs) ys (inr i) = inr (in_front x xs ys i)
in_front x [] ys i = absurd i

in_mapped : {A B : Type 0} (f : A → B) (xs : List A) (y : B) → In y (map f xs) → (x : A) × In x xs × (f x ≡ y)
in_mapped f [] y i = absurd i
in_mapped f (x ∷ xs) y (inl same) = (x, inl refl, sym same)
in_mapped f (x ∷ xs) y (inr i) = let (z, j, e) = in_mapped f xs y i in (z, inr j, e)

mapped_in : {A B : Type 0} (f : A → B) (xs : List A) (x : A) → In x xs → In (f x) (map f xs)
mapped_in f [] x i = absurd i
mapped_in f (y ∷ xs) x (inl same) = inl (ap f same)
mapped_in f (y ∷ xs) x (inr i) = inr (mapped_in f xs x i)

-- ---- the paths that are chosen

-- a chosen path is that of a member
record Chosen (limit : FileTime) (dir : WebPath) (ms : List Member) (p : Names) : Type 0 where
  member : Member
  within : In member ms
  left : is_left_before limit member ≡ true
  at : p ≡ dir.names ++ member.name ∷ []

chosen_from : (limit : FileTime) (dir : WebPath) (ms : List Member) (p : Names) → IsAmong p (left_before limit dir ms) → Chosen limit dir ms p
chosen_from limit dir [] p i = absurd i
chosen_from limit dir (m ∷ ms) p i = by (is_left_before limit m) refl i (chosen_from limit dir ms p)
  where
    more : Chosen limit dir ms p → Chosen limit dir (m ∷ ms) p
    more o = record { member = o.member; within = inr o.within; left = o.left; at = o.at }

    either : is_left_before limit m ≡ true → (p ≡ dir.names ++ m.name ∷ []) ⊎ IsAmong p (left_before limit dir ms) → (IsAmong p (left_before limit dir ms) → Chosen limit dir ms p) → Chosen limit dir (m ∷ ms) p
    either e (inl at) on = record { member = m; within = inl refl; left = e; at = at }
    either e (inr j) on = more (on j)

    by : (b : Bool) → is_left_before limit m ≡ b → IsAmong p (left_before limit dir (m ∷ ms)) → (IsAmong p (left_before limit dir ms) → Chosen limit dir ms p) → Chosen limit dir (m ∷ ms) p
    by true e i on = either e (rw e at i) on
    by false e i on = more (on (rw e at i))

chosen_to : (limit : FileTime) (dir : WebPath) (ms : List Member) (m : Member) → In m ms → is_left_before limit m ≡ true → IsAmong (dir.names ++ m.name ∷ []) (left_before limit dir ms)
chosen_to limit dir [] m i left = absurd i
chosen_to limit dir (x ∷ ms) m i left = by (is_left_before limit x) refl i (λ j. chosen_to limit dir ms m j left)
  where
    by : (b : Bool) → is_left_before limit x ≡ b → In m (x ∷ ms) → (In m ms → IsAmong (dir.names ++ m.name ∷ []) (left_before limit dir ms)) → IsAmong (dir.names ++ m.name ∷ []) (left_before limit dir (x ∷ ms))
    by true e (inl same) more = rw e (inl (ap (λ (y : Member). dir.names ++ y.name ∷ []) same))
    by true e (inr j) more = rw e (inr (more j))
    by false e (inl same) more = never (is_left_before limit x) (ap (is_left_before limit) (sym same) ∙ left) e
    by false e (inr j) more = rw e (more j)

-- none among others is chosen
off_chosen : (other : Names → Type 0) (paths : List WebPath) → ((p : Names) → other p → IsAmong p paths → ⊥) → AreOff other paths
off_chosen other [] off = tt
off_chosen other (x ∷ xs) off = (λ p is e. off p is (inl e), off_chosen other xs (λ p is i. off p is (inr i)))

-- ---- the members of a told world

file_kind : (k : Kind) → is_file k ≡ true → k ≡ File
file_kind Dir e = cc
file_kind File e = refl
file_kind Link e = cc

left_of_member : (dir : WebPath) (limit : FileTime) (v : World) (m : Member) (p : Names) → IsWorld v → In m (members v dir.names) → is_left_before limit m ≡ true → p ≡ dir.names ++ m.name ∷ [] → IsLeftBefore v dir.names limit p
left_of_member dir limit v m p is i left at =
    let (row, j, same) = in_mapped (member_of v) (filter (stands_in dir.names) v.tree) m i in
    let (in_tree, stands) = in_filter (stands_in dir.names) v.tree row j in
    let parts = and_parts (is_file m.kind) (is_hidden m.name && was_before limit m.modified) left in
    let more = and_parts (is_hidden m.name) (was_before limit m.modified) parts.1 in
    let called : m.name ≡ name_of row = ap (λ (x : Member). x.name) (sym same) in
    let path : row.path ≡ p = path_in dir.names row stands ∙ (ap (λ n. dir.names ++ n ∷ []) (sym called) ∙ sym at) in
    record {
      over = record {
        row = row;
        at = ap (row_at v.tree) (sym path) ∙ at_row v.tree row (parts_of v.tree is.tree).once in_tree;
        file = file_kind row.kind (ap (λ (x : Member). is_file x.kind) same ∙ parts.0);
        hides = ap is_hidden_path at ∙ (ap (λ n. is_hidden (or_empty n)) (last_pushed dir.names m.name) ∙ more.0);
        within = ap parent_of at ∙ parent_pushed dir.names m.name;
      };
      before = ap (λ (x : Member). was_before limit x.modified) same ∙ more.1;
    }

-- the member that is left at a path
record Left (dir : WebPath) (limit : FileTime) (v : World) (p : Names) : Type 0 where
  member : Member
  within : In member (members v dir.names)
  left : is_left_before limit member ≡ true
  at : p ≡ dir.names ++ member.name ∷ []

member_of_left : (dir : WebPath) (limit : FileTime) (v : World) (p : Names) → IsLeftBefore v dir.names limit p → Left dir limit v p
member_of_left dir limit v p before =
    let left = before.over in
    let (name, is) = parent_and_last p (hidden_some p left.hides) in
    let path : left.row.path ≡ dir.names ++ name ∷ [] = sym (path_of v.tree p left.row left.at) ∙ (is ∙ ap (λ x. x ++ name ∷ []) left.within) in
    let stands = stands_there dir.names name left.row path in
    let in_tree = (row_at_in v.tree p left.row left.at).0 in
    let called : name_of left.row ≡ name = ap (λ x. or_empty (last_name x)) path ∙ ap or_empty (last_pushed dir.names name) in
    let hides : is_hidden (name_of left.row) ≡ true = ap (λ x. is_hidden (or_empty (last_name x))) (sym (path_of v.tree p left.row left.at)) ∙ left.hides in
    record {
      member = member_of v left.row;
      within = mapped_in (member_of v) (filter (stands_in dir.names) v.tree) left.row (filter_in (stands_in dir.names) v.tree left.row stands in_tree);
      left = and_from (is_file left.row.kind) (is_hidden (name_of left.row) && was_before limit (known_time left.row.time)) (ap is_file left.file) (and_from (is_hidden (name_of left.row)) (was_before limit (known_time left.row.time)) hides before.before);
      at = is ∙ (ap (λ x. x ++ name ∷ []) left.within ∙ ap (λ n. dir.names ++ n ∷ []) (sym called));
    }

-- ---- a name that is gone

not_found : (d : DiskError) → fs.NotFound ≡ fs_error_of d → d ≡ disk.NotFound
not_found disk.NotFound e = refl
not_found other e = cc

missing_row : (v : World) (p : Names) → IsWorld v → CallsFor (taking_file v.tree p) fs.NotFound → row_at v.tree p ≡ None
missing_row v p is calls = by (row_at v.tree p) refl
  where
    off_row : (row : Row) (b : Bool) → is_dir row.kind ≡ b → CallsFor (cond (is_dir row.kind) (Err disk.IsDir) (Ok (Some (takes row.path)))) fs.NotFound → ⊥
    off_row row true e calls = let f : fs.NotFound ≡ fs_error_of disk.IsDir = rw e at calls in cc
    off_row row false e calls = rw e at calls

    by : (o : Option Row) → row_at v.tree p ≡ o → row_at v.tree p ≡ None
    by None at = at
    by (Some row) at = absurd (off_row row (is_dir row.kind) refl (subst (λ r. CallsFor (found_then taking_file_row r) fs.NotFound) (looked_at v p row is at) calls))

-- ---- the removals

-- These paths are gone at Ok; all others stay.
record GoneEach (paths : List WebPath) (r : Result ℕ UploadError) (v w : World) : Type 0 where
  others : (p : Names) → (IsAmong p paths → ⊥) → KeepsRow v w p
  nothing : (p : Names) → row_at v.tree p ≡ None → row_at w.tree p ≡ None
  all : (k : ℕ) → r ≡ Ok k → (p : Names) → IsAmong p paths → row_at w.tree p ≡ None

module _ {S C : Type 0} (view : View S C LocalFsFile) (lists : Listings S C LocalFsReadDir LocalFsDirEntry) (writes : Writes LocalFsFile) (c : C) (ways : S → Ways) (memory : S → MemoryState) (moment : S → Moment)
    (local : IsLocalStore view lists writes ways memory moment) where
  takes_all : TakesUploads view writes c (λ s. finds_as_written (ways s))
  takes_all = local_takes view lists writes c ways memory moment local

  apart : (s : S) (v : World) → finds_as_written (ways s) ≡ true → TellsApart (rules_of (ways s)) v
  apart s v plain folds = let no : true ≡ false = sym folds ∙ (written_parts (ways s) plain).1 in cc

  -- a name that wasn't found doesn't stand there
  gone_before : (path : WebPath) (s m : S) (v : World) → (view.state s).told ≡ Some v → finds_as_written (ways s) ≡ true → is_linked v.tree path.names ≡ false → view.removes_file s c path (Err fs.NotFound) m → row_at v.tree path.names ≡ None
  gone_before path s m v was plain free removes =
      let (x, now, unless_so) = told_after (view.state s).told (view.state m).told _ v ((local_follows view lists writes c ways memory moment local nothing_set s).removes_file s m path (Err fs.NotFound) here removes) was in
      by (is_forbidden (rules_of (ways s)) path || has_slash (ways s).alone path) refl x unless_so
    where
      same : resolved (rules_of (ways s)) v.tree path.names ≡ path.names
      same = written_resolved nothing_set (ways s) plain v.tree path.names

      called : (x : World) → Calls view lists writes c (taking_file v.tree (resolved (rules_of (ways s)) v.tree path.names)) s (Err fs.NotFound) m v x → row_at v.tree path.names ≡ None
      called x (inl (calls, kept)) = missing_row v path.names (takes_all.worlds s v was) (subst (λ z. CallsFor (taking_file v.tree z) fs.NotFound) same calls)
      called x (inr (inl fault, left)) = let e = fault.0 in cc
      called x (inr (inr starved, left)) = cc

      by : (b : Bool) → (is_forbidden (rules_of (ways s)) path || has_slash (ways s).alone path) ≡ b → (x : World) → UnlessShut view lists writes c {T = Unit} (is_forbidden (rules_of (ways s)) path || has_slash (ways s).alone path) (Err fs.NotFound) v x
          (IfFound view lists writes c (rules_of (ways s)) v path (Calls view lists writes c (taking_file v.tree (resolved (rules_of (ways s)) v.tree path.names)) s (Err fs.NotFound) m v x)) → row_at v.tree path.names ≡ None
      by true e x unless_so = let is = (unless_so.refused e).0 in cc
      by false e x unless_so = called x (unless_so.called e (apart s v plain) (ap (is_linked v.tree) same ∙ free))

  -- one removal, and the rest
  then_gone : (path : WebPath) (rest : List WebPath) (r : Result ℕ UploadError) (v x w : World) → Took path.names v x → row_at x.tree path.names ≡ None → GoneEach rest r x w → GoneEach (path ∷ rest) r v w
  then_gone path rest r v x w took first then = record {
    others = λ p off. rows_then v x w p (took_keeps v x path.names p took (λ f. off (inl f))) (then.others p (λ j. off (inr j)));
    nothing = λ p none. then.nothing p (none_took v x path.names p took none);
    all = λ k is p j. elim j [
      | inl here_is ↦ ap (row_at w.tree) here_is ∙ then.nothing path.names first
      | inr later ↦ then.all k is p later
    ];
  }

  each_gone : (paths : List WebPath) (n : ℕ) (s t : S) (r : Result ℕ UploadError) (v w : World) → (view.state s).told ≡ Some v → (view.state t).told ≡ Some w → finds_as_written (ways s) ≡ true → TakesEach view c paths n s r t
      → AreClear v paths → GoneEach paths r v w
  each_gone paths n s t r v w was now plain (done i a) clear =
      let same = equal_worlds v w (one_told (view.state s).told v w was now) in record {
        others = λ p off. kept_same v w p same;
        nothing = λ p none. ap (λ rows. row_at rows p) same.tree ∙ none;
        all = λ k is p j. absurd j;
      }
  each_gone paths n s t r v w was now plain (stops path rest i a b e unlike removes keeps) ((hides, free), clear) =
      let took = took_one view writes c (λ s. finds_as_written (ways s)) takes_all path s t v w (Err e) was now plain hides free removes in record {
        others = λ p off. took_keeps v w path.names p took (λ f. off (inl f));
        nothing = λ p none. none_took v w path.names p took none;
        all = λ k is p j. cc;
      }
  each_gone paths n s t r v w was now plain (goes path rest i a m b q removes keeps on) ((hides, free), clear) =
      let taken = takes_all.removes s m path (Ok tt) plain removes in
      let (x, here_so, ends) = told_after (view.state s).told (view.state m).told _ v taken.1 was in
      let took = took_one view writes c (λ s. finds_as_written (ways s)) takes_all path s m v x (Ok tt) was here_so plain hides free removes in
      let unseen = removed_one view writes c (λ s. finds_as_written (ways s)) takes_all path s m v x (Ok tt) was here_so plain hides free removes in
      then_gone path rest r v x w took (taken_gone v x path.names (takes_all.worlds s v was) took (ends free)) (each_gone rest (i + 1) m t r x w here_so now taken.0 on (still_clear v x rest unseen clear))
  each_gone paths n s t r v w was now plain (gone path rest i a m b q removes keeps on) ((hides, free), clear) =
      let taken = takes_all.removes s m path (Err fs.NotFound) plain removes in
      let (x, here_so, ends) = told_after (view.state s).told (view.state m).told _ v taken.1 was in
      let took = took_one view writes c (λ s. finds_as_written (ways s)) takes_all path s m v x (Err fs.NotFound) was here_so plain hides free removes in
      let unseen = removed_one view writes c (λ s. finds_as_written (ways s)) takes_all path s m v x (Err fs.NotFound) was here_so plain hides free removes in
      then_gone path rest r v x w took (none_took v x path.names path.names took (gone_before path s m v was plain free removes)) (each_gone rest i m t r x w here_so now taken.0 on (still_clear v x rest unseen clear))

  -- ---- the choice

  reads_so : (dir : WebPath) (s m : S) (v : World) (read : List Member) → (view.state s).told ≡ Some v → finds_as_written (ways s) ≡ true → is_clear v.tree dir.names ≡ true → WasListed view lists s c dir read m
      → ReadsThere (Ok (members v dir.names)) (view.state s).faults read (view.state m).faults
  reads_so dir s m v read was plain clear listed = by (listable (look v.tree (resolved (rules_of (ways s)) v.tree dir.names))) refl
      (listed_there view lists (members_in (ways s) v dir) s c dir read m listed (local_shows_members view lists writes ways memory moment local s c dir v (apart s v plain) was links)
      (few.begins s listed.begin dir _ (Ok listed.listing) listed.begins).counts (few.ends listed.after m listed.over listed.ended))
    where
      few : RefusesUsually view lists writes c
      few = local_usual view lists writes c ways memory moment local

      same : resolved (rules_of (ways s)) v.tree dir.names ≡ dir.names
      same = written_resolved nothing_set (ways s) plain v.tree dir.names

      links : HasNoLinks v (resolved (rules_of (ways s)) v.tree dir.names)
      links = subst (HasNoLinks v) (sym same) (no_links v dir.names clear)

      by : (found : Result Row DiskError) → listable (look v.tree (resolved (rules_of (ways s)) v.tree dir.names)) ≡ found → ReadsThere (members_or v (resolved (rules_of (ways s)) v.tree dir.names) found) (view.state s).faults read (view.state m).faults
          → ReadsThere (Ok (members v dir.names)) (view.state s).faults read (view.state m).faults
      by (Ok row) e reads = subst (λ z. ReadsThere (Ok (members v z)) (view.state s).faults read (view.state m).faults) same reads
      by (Err f) e reads = absurd reads

  -- what is chosen was left before, and what was left before is chosen, unless the count rose
  chosen_left : (dir : WebPath) (limit : FileTime) (s m : S) (v : World) (read : List Member) (p : Names) → (view.state s).told ≡ Some v → finds_as_written (ways s) ≡ true → is_clear v.tree dir.names ≡ true
      → WasListed view lists s c dir read m → IsAmong p (left_before limit dir read) → IsLeftBefore v dir.names limit p
  chosen_left dir limit s m v read p was plain clear listed i =
      let (missing, order, why) = reads_so dir s m v read was plain clear listed in
      let o = chosen_from limit dir read p i in
      left_of_member dir limit v o.member p (takes_all.worlds s v was) (in_order_of (members v dir.names) (read ++ missing) o.member order (in_front o.member read missing o.within)) o.left o.at

  left_chosen : (dir : WebPath) (limit : FileTime) (s m : S) (v : World) (read : List Member) (p : Names) → (view.state s).told ≡ Some v → finds_as_written (ways s) ≡ true → is_clear v.tree dir.names ≡ true
      → WasListed view lists s c dir read m → IsLeftBefore v dir.names limit p → IsAmong p (left_before limit dir read) ⊎ Rose (view.state s).faults (view.state m).faults
  left_chosen dir limit s m v read p was plain clear listed left =
      let (missing, order, why) = reads_so dir s m v read was plain clear listed in
      by missing order why
    where
      at : Left dir limit v p
      at = member_of_left dir limit v p left

      by : (missing : List Member) → IsPermutation (members v dir.names) (read ++ missing) → (missing ≡ []) ⊎ Rose (view.state s).faults (view.state m).faults → IsAmong p (left_before limit dir read) ⊎ Rose (view.state s).faults (view.state m).faults
      by missing order (inr rose) = inr rose
      by missing order (inl none) =
          let order_of : IsPermutation (members v dir.names) read = subst (IsPermutation (members v dir.names)) (ap (λ xs. read ++ xs) none ∙ append-nil read) order in
          let i = in_order_of read (members v dir.names) at.member (IsPermutation-sym _ _ order_of) at.within in
          inl (subst (λ z. IsAmong z (left_before limit dir read)) (sym at.at) (chosen_to limit dir read at.member i at.left))

  counted : (paths : List WebPath) (n : ℕ) (s t : S) (r : Result ℕ UploadError) → TakesEach view c paths n s r t → (view.state s).faults ≤ (view.state t).faults
  counted paths n s t r (done i a) = omega arith
  counted paths n s t r (stops path rest i a b e unlike removes keeps) = keeps.counts
  counted paths n s t r (goes path rest i a m b q removes keeps on) = let p = keeps.counts in let q = counted rest (i + 1) m t r on in omega (arith, p, q)
  counted paths n s t r (gone path rest i a m b q removes keeps on) = let p = keeps.counts in let q = counted rest i m t r on in omega (arith, p, q)

  -- ---- the sweep

  pub others_left : (shown : ℕ → Bool) (dir : WebPath) (limit : FileTime) (s t : S) (v w : World) (r : Result ℕ UploadError) → (view.state s).told ≡ Some v → (view.state t).told ≡ Some w → finds_as_written (ways s) ≡ true → HasClearNames v dir.names
      → is_clear v.tree dir.names ≡ true → SweepsBefore view lists c dir limit s r t → LeavesOthers shown None (IsNotLeftBefore v dir.names limit) (view.state s).live (view.state t).live v w
  others_left shown dir limit s t v w r was now plain clear_names clear sweeps =
      before_left view writes c (λ s. finds_as_written (ways s)) takes_all lists (local_leads view lists writes c ways memory moment local) shown dir limit (IsNotLeftBefore v dir.names limit) s t v w r was now plain clear_names
      (λ read m listed. off_chosen (IsNotLeftBefore v dir.names limit) (left_before limit dir read) (λ p off i. off (chosen_left dir limit s m v read p was plain clear listed i))) sweeps

  pub swept_before : (dir : WebPath) (limit : FileTime) (s t : S) (v w : World) (r : Result ℕ UploadError) → (view.state s).told ≡ Some v → (view.state t).told ≡ Some w → finds_as_written (ways s) ≡ true → HasClearNames v dir.names
      → is_clear v.tree dir.names ≡ true → SweepsBefore view lists c dir limit s r t → SweptBefore dir.names limit r (view.state s).faults (view.state t).faults v w
  swept_before dir limit s t v w r was now plain clear_names clear (Err error, m, chooses, (same, is)) =
      let (x, here_so, kept) = told_after (view.state s).told (view.state m).told SameBesidesOpens v chooses.keeps.world was in
      let end : (view.state t).told ≡ Some x = ap (λ (z : S). (view.state z).told) same ∙ here_so in
      let after = equal_worlds x w (one_told (view.state t).told x w end now) in record {
        others = λ p off. rows_then v x w p (kept_same v x p kept) (kept_same x w p after);
        gone = λ n ok p left. (let f : Err _ ≡ Ok n = sym is ∙ ok in cc);
      }
  swept_before dir limit s t v w r was now plain clear_names clear (Ok paths, m, chooses, taken) =
      let (x, here_so, kept) = told_after (view.state s).told (view.state m).told SameBesidesOpens v chooses.keeps.world was in
      let still : HasClearNames x dir.names = λ name hides. links_kept v x kept (dir.names ++ name ∷ []) ∙ clear_names name hides in
      let (read, listed, is) = chooses.chosen_as in
      let there = local_leads view lists writes c ways memory moment local s m plain chooses.leads in
      let g : GoneEach (left_before limit dir read) r x w = each_gone (left_before limit dir read) 0 m t r x w here_so now there (subst (λ ps. TakesEach view c ps 0 m r t) is taken) (left_clear x dir limit read still) in
      record {
        others = λ p off. rows_then v x w p (kept_same v x p kept) (g.others p (λ i. off (chosen_left dir limit s m v read p was plain clear listed i)));
        gone = λ n ok p left. elim (left_chosen dir limit s m v read p was plain clear listed left) [
          | inl i ↦ inl (g.all n ok p i)
          | inr rose ↦ inr (rose_after (view.state s).faults (view.state m).faults (view.state t).faults rose (counted (left_before limit dir read) 0 m t r (subst (λ ps. TakesEach view c ps 0 m r t) is taken)))
        ];
      }
