-- No change gives a directory bytes, and what was stored stays stored.
use Rattle.std.proofs.Common.{◌≡◌, ◌≢◌, ◌≤◌, ◌==◌, ◌+◌, ◌&&◌, ◌||◌, ◌⊎◌, ◌∷◌, ◌++◌, [], ℕ, List, Bool, true, false, cond, not, length, map, nat_lt, Option, None, Some, Result, Ok, Err, OnOk, OnErr, inl, inr, refl, sym, ap, ◌∙◌, arith, subst}
use Rattle.std.specs.List.{list_any}
use Rattle.std.proofs.lemmas.Bool.{and_parts}
use Rattle.std.specs.Option.{is_none, is_some, option_map}
use Rattle.std.proofs.lemmas.List.Elements.{All-from_recursion, All-weaker, recursion_from_All}
use Rattle.std.specs.BTreeMap.{BTreeMap, Updates, IsUnchanged, is_at}
use Rattle.std.specs.Map.{lookup}
use Rattle.std.specs.Ordering.{nat_cmp}
use Rattle.dav_io.specs.Counts.{greatest}
use Rattle.dav_core.specs.declared.tree.Row.{Row}
use Rattle.dav_core.specs.declared.tree.Kind.{Kind}
use Rattle.dav_core.specs.declared.tree.Kind.TheVariants.{Dir, File, Link}
use Rattle.dav_core.specs.declared.time.FileTime.{FileTime}
use Rattle.dav_core.specs.declared.change.Change.{Change}
use Rattle.dav_core.specs.declared.change.Change.TheVariants.{AddDir, AddFile, Cut, Remove, Rename}
use Rattle.dav_core.specs.declared.handle.DiskError.{DiskError}
use Rattle.dav_core.specs.Path.{Names, same_names, parent_of, is_front}
use Rattle.dav_core.specs.Tree.{look, is_dir, is_file, is_tree}
use Rattle.dav_core.specs.World.{World, Stored, AreGiven, put, at_key, bytes_of, bytes_or_none}
use Rattle.dav_core.specs.Edits.{makes, timed_number}
use Rattle.dav_core.specs.Writing.{can_write}
use Rattle.dav_core.specs.declared.handle.OpenOptions.{OpenOptions}
use Rattle.dav_core.proofs.TablesLemmas.{updates_put}
use Rattle.dav_core.proofs.UnchangedLemmas.{put_same, put_other, equal_keys}
use Rattle.dav_core.specs.Changes.{tick, timed_row, touched_at, touched, then_touched, added_at, added, stored_in, made_or, cut_at_time, cut_kind, cut_found, without, removed_found, moved_row, renames_to, parents_touched, renamed_found, changed, all_changed, turned, turned_by, is_free_in, resized}
use Rattle.dav_disk.specs.declared.tables.Opened.{Opened}
use Rattle.dav_disk.specs.declared.tables.StoredFile.{StoredFile}
use Rattle.dav_disk.specs.Files.{IsBare, AreBare, AreKept, NamesNoDir, AreStored, IsStored, live_of, stored_at, stored_of}
use Rattle.dav_disk.specs.Making.{edited}
use Rattle.dav_disk.proofs.Added.{not_equal, other_numbers}
use Rattle.dav_disk.proofs.Trees.{each_at, each_in, only_number}
use Rattle.dav_disk.proofs.Changed.{Good, in_more, look_in}
use Rattle.dav_disk.proofs.Moved.{changed_good, kind_same, number_same}
use Rattle.dav_core.proofs.Elements.{In, in_map, in_filter}
use Rattle.dav_core.proofs.Rows.{tree_parts}
use Rattle.dav_core.proofs.ChangedRows.{set_kind, set_number}

-- What stays: `old` are the files that were stored before.
record Bare (old : ℕ → Option Stored) (w : World) : Type 0 where
  dirs : (r : Row) → In r w.tree → IsBare w.files r
  above : (n : ℕ) (f : Stored) → w.files n ≡ Some f → n ≤ w.greatest
  stay : (n : ℕ) → is_some (old n) ≡ true → is_some (w.files n) ≡ true

abbrev BareIf : (ℕ → Option Stored) → Option World → Type 0
BareIf old None = Unit {0}
BareIf old (Some w) = Bare old w

made_bare : (old : ℕ → Option Stored) (w : World) (o : Option World) → Bare old w → BareIf old o → Bare old (made_or w o)
made_bare old w None b h = b
made_bare old w (Some v) b h = h

cond_bare : (old : ℕ → Option Stored) (c : Bool) (x y : World) → Bare old x → Bare old y → Bare old (cond c x y)
cond_bare old true x y b h = b
cond_bare old false x y b h = h

if_bare : (old : ℕ → Option Stored) (c : Bool) (x y : Option World) → BareIf old x → BareIf old y → BareIf old (cond c x y)
if_bare old true x y b h = b
if_bare old false x y b h = h

-- ---- rows that keep their kinds and numbers

mapped_bare : (old : ℕ → Option Stored) (w : World) (f : Row → Row) (t : FileTime) → ((r : Row) → (f r).kind ≡ r.kind) → ((r : Row) → (f r).number ≡ r.number) → Bare old w
    → Bare old (record w { tree = map f w.tree; latest = t })
mapped_bare old w f t kind number b = record {
  dirs = λ y i. (let (r, at, e) = in_map f w.tree y i in rw e (λ dir. ap w.files (number r) ∙ b.dirs r at (sym (kind r) ∙ dir)));
  above = b.above;
  stay = b.stay;
}

touched_bare : (old : ℕ → Option Stored) (path : Names) (o : Option FileTime) (w : World) → Bare old w → BareIf old (touched_at path o w)
touched_bare old path None w b = tt
touched_bare old path (Some t) w b = mapped_bare old w (timed_row path t) t (λ r. set_kind (same_names path r.path) t r) (λ r. set_number (same_names path r.path) t r) b

then_bare : (old : ℕ → Option Stored) (path : Names) (o : Option World) → BareIf old o → BareIf old (then_touched path o)
then_bare old path None b = tt
then_bare old path (Some w) b = touched_bare old path (tick w.latest) w b

without_bare : (old : ℕ → Option Stored) (path : Names) (w : World) → Bare old w → Bare old (record w { tree = without path w.tree })
without_bare old path w b = record {
  dirs = λ r i. b.dirs r (in_filter (λ (row : Row). not (is_front path row.path)) w.tree r i).0;
  above = b.above;
  stay = b.stay;
}

moved_bare : (old : ℕ → Option Stored) (from to : Names) (w : World) → Bare old w → Bare old (record w { tree = map (moved_row from to) w.tree })
moved_bare old from to w b = mapped_bare old w (moved_row from to) w.latest (λ r. kind_same (is_front from r.path) r _) (λ r. number_same (is_front from r.path) r _) b

-- ---- rows and files more

none_of : (o : Option Stored) → ((f : Stored) → o ≡ Some f → ⊥) → o ≡ None
none_of None h = refl
none_of (Some f) h = absurd (h f refl)

-- a new number stores nothing
none_above : (old : ℕ → Option Stored) (w : World) → Bare old w → w.files (w.greatest + 1) ≡ None
none_above old w b = none_of (w.files (w.greatest + 1)) (λ f e. let le = b.above (w.greatest + 1) f e in omega arith)

bare_more : (files : ℕ → Option Stored) (rows : List Row) (x y : Row) → ((r : Row) → In r rows → IsBare files r) → IsBare files x → In y rows ⊎ (y ≡ x) → IsBare files y
bare_more files rows x y h here (inl i) = h y i
bare_more files rows x y h here (inr same) = rw same here

above_put : (c : Bool) (k n g : ℕ) (s f : Stored) (o : Option Stored) → (n == k) ≡ c → k ≤ g → (o ≡ Some f → n ≤ g) → cond c (Some s) o ≡ Some f → n ≤ g
above_put true k n g s f o test le other e = let same : n ≡ k = equal_keys n k test in omega arith
above_put false k n g s f o test le other e = other e

stay_put : (c : Bool) (s : Stored) (o : Option Stored) → is_some o ≡ true → is_some (cond c (Some s) o) ≡ true
stay_put true s o e = refl
stay_put false s o e = e

-- a file of a number that no directory has
bare_put : (files : ℕ → Option Stored) (k : ℕ) (s : Stored) (r : Row) → IsBare files r → (r.kind ≡ Dir → r.number ≢ k) → IsBare (put k (Some s) files) r
bare_put files k s r b other dir = put_other k r.number (Some s) files (other dir) ∙ b dir

dir_then : (old : ℕ → Option Stored) (w : World) (path : Names) (c : Bool) (o : Option FileTime) → Bare old w → BareIf old (then_touched (parent_of path) (cond c (added_at path Dir o w) None))
dir_then old w path true None b = tt
dir_then old w path true (Some t) b =
    let x : Row = record { path = path; kind = Dir; number = w.greatest + 1; time = t } in
    let v : World = record w { tree = w.tree ++ x ∷ []; greatest = w.greatest + 1; latest = t } in
    touched_bare old (parent_of path) (tick t) v (record {
      dirs = λ y i. bare_more w.files w.tree x y b.dirs (λ dir. none_above old w b) (in_more w.tree x y i);
      above = λ n f e. (let le = b.above n f e in omega arith);
      stay = b.stay;
    })
dir_then old w path false o b = tt

file_then : (old : ℕ → Option Stored) (w : World) (path : Names) (bytes : List ℕ) (c : Bool) (o : Option FileTime) → Good w → Bare old w
    → BareIf old (then_touched (parent_of path) (stored_in bytes (cond c (added_at path File o w) None)))
file_then old w path bytes true None g b = tt
file_then old w path bytes true (Some t) g b =
    let x : Row = record { path = path; kind = File; number = w.greatest + 1; time = t } in
    let s : Stored = record { bytes = bytes; time = t } in
    let v : World = record w { tree = w.tree ++ x ∷ []; greatest = w.greatest + 1; latest = t; files = put (w.greatest + 1) (Some s) w.files } in
    touched_bare old (parent_of path) (tick t) v (record {
      dirs = λ y i. bare_more (put (w.greatest + 1) (Some s) w.files) w.tree x y
          (λ r at. bare_put w.files (w.greatest + 1) s r (b.dirs r at) (λ dir e. let le = g.numbers r at in omega arith)) (λ dir. cc) (in_more w.tree x y i);
      above = λ n f e. above_put (n == (w.greatest + 1)) (w.greatest + 1) n (w.greatest + 1) s f (w.files n) refl (omega arith) (λ e. let le = b.above n f e in omega arith) e;
      stay = λ n e. stay_put (n == (w.greatest + 1)) s (w.files n) (b.stay n e);
    })
file_then old w path bytes false o g b = tt

-- ---- a file's length

cut_at_bare : (old : ℕ → Option Stored) (w : World) (row : Row) (len : ℕ) (o : Option FileTime) → Good w → In row w.tree → row.kind ≡ File → Bare old w → Bare old (cut_at_time row len o w)
cut_at_bare old w row len None g i file b = b
cut_at_bare old w row len (Some t) g i file b =
    let s : Stored = record { bytes = resized len (bytes_of w row.number); time = t } in
    mapped_bare old (record w { files = put row.number (Some s) w.files }) (timed_row row.path t) t (λ r. set_kind (same_names row.path r.path) t r) (λ r. set_number (same_names row.path r.path) t r) (record {
      dirs = λ r at. bare_put w.files row.number s r (b.dirs r at) (λ dir e. other r at dir e);
      above = λ n f e. above_put (n == row.number) row.number n w.greatest s f (w.files n) refl (g.numbers row i) (b.above n f) e;
      stay = λ n e. stay_put (n == row.number) s (w.files n) (b.stay n e);
    })
  where
    other : (r : Row) → In r w.tree → r.kind ≡ Dir → r.number ≡ row.number → ⊥
    other r at dir e =
        let same = only_number w.tree r row (tree_parts w.tree g.tree).apart at i e in
        let clash : Dir ≡ File = sym dir ∙ ap (λ (r : Row). r.kind) same ∙ file in cc

cut_kind_bare : (old : ℕ → Option Stored) (w : World) (kind : Kind) (row : Row) (len : ℕ) → row.kind ≡ kind → Good w → In row w.tree → Bare old w → Bare old (cut_kind kind row len w)
cut_kind_bare old w Dir row len e g i b = b
cut_kind_bare old w Link row len e g i b = b
cut_kind_bare old w File row len e g i b = cond_bare old _ w (cut_at_time row len (tick w.latest) w) b (cut_at_bare old w row len (tick w.latest) g i e b)

cut_found_bare : (old : ℕ → Option Stored) (w : World) (found : Result Row DiskError) (len : ℕ) → Good w → ((row : Row) → found ≡ Ok row → In row w.tree) → Bare old w → Bare old (cut_found found len w)
cut_found_bare old w (Ok row) len g h b = cut_kind_bare old w row.kind row len refl g (h row refl) b
cut_found_bare old w (Err e) len g h b = b

-- ---- each change

removed_bare : (old : ℕ → Option Stored) (found : Result Row DiskError) (w : World) → Bare old w → Bare old (removed_found found w)
removed_bare old (Err e) w b = b
removed_bare old (Ok row) w b =
    let v : World = record w { tree = without row.path w.tree } in
    cond_bare old (length row.path == 0) w (made_or w (touched (parent_of row.path) v)) b
    (made_bare old w (touched (parent_of row.path) v) b (touched_bare old (parent_of row.path) (tick v.latest) v (without_bare old row.path w b)))

parents_bare : (old : ℕ → Option Stored) (from to : Names) (w : World) → Bare old w → BareIf old (parents_touched from to w)
parents_bare old from to w b =
    if_bare old (same_names (parent_of from) (parent_of to)) (touched (parent_of from) w) (then_touched (parent_of to) (touched (parent_of from) w))
    (touched_bare old (parent_of from) (tick w.latest) w b)
    (then_bare old (parent_of to) (touched (parent_of from) w) (touched_bare old (parent_of from) (tick w.latest) w b))

renamed_bare : (old : ℕ → Option Stored) (found : Result Row DiskError) (to : Names) (w : World) → Bare old w → Bare old (renamed_found found to w)
renamed_bare old (Err e) to w b = b
renamed_bare old (Ok row) to w b =
    let v : World = record w { tree = map (moved_row row.path to) (without to w.tree) } in
    cond_bare old (renames_to w row to) (made_or w (parents_touched row.path to v)) w
    (made_bare old w (parents_touched row.path to v) b
    (parents_bare old row.path to v (moved_bare old row.path to (record w { tree = without to w.tree }) (without_bare old to w b))))
    b

changed_bare : (old : ℕ → Option Stored) (w : World) (change : Change) → Good w → Bare old w → Bare old (changed w change)
changed_bare old w (AddDir path) g b =
    cond_bare old (is_free_in w.tree path) (made_or w (then_touched (parent_of path) (added path Dir w))) w
    (made_bare old w (then_touched (parent_of path) (added path Dir w)) b (dir_then old w path (nat_lt w.greatest greatest) (tick w.latest) b)) b
changed_bare old w (AddFile path bytes) g b =
    cond_bare old (is_free_in w.tree path) (made_or w (then_touched (parent_of path) (stored_in bytes (added path File w)))) w
    (made_bare old w (then_touched (parent_of path) (stored_in bytes (added path File w))) b (file_then old w path bytes (nat_lt w.greatest greatest) (tick w.latest) g b)) b
changed_bare old w (Cut path len) g b = cut_found_bare old w (look w.tree path) len g (look_in w.tree path) b
changed_bare old w (Remove path) g b = removed_bare old (look w.tree path) w b
changed_bare old w (Rename from to) g b = renamed_bare old (look w.tree from) to w b

all_bare : (old : ℕ → Option Stored) (w : World) (changes : List Change) → Good w → Bare old w → Bare old (all_changed w changes)
all_bare old w [] g b = b
all_bare old w (change ∷ changes) g b = all_bare old (changed w change) changes (changed_good w change g) (changed_bare old w change g b)

turned_by_bare : (old : ℕ → Option Stored) (w : World) (script : List (List Change)) → Good w → Bare old w → Bare old (turned_by w script)
turned_by_bare old w [] g b = b
turned_by_bare old w (batch ∷ batches) g b =
    all_bare old (record w { script = batches }) batch (record { tree = g.tree; stored = g.stored; numbers = g.numbers }) (record { dirs = b.dirs; above = b.above; stay = b.stay })

-- ---- what a disk keeps

-- what holds of a disk's tables: no directory has bytes, and what is open as a file is stored
pub record Bared (tree : List Row) (files : ℕ → Option Stored) (opens : ℕ → Option Opened) : Type 0 where
  pub bare : AreBare tree files
  pub kept : AreKept opens files

bare_of : (w : World) → AreBare w.tree w.files → AreGiven w.tree w.files w.opens w.greatest w.latest → Bare w.files w
bare_of w bare given = record {
  dirs = λ r i. each_at (IsBare w.files) w.tree r (recursion_from_All (IsBare w.files) w.tree bare) i;
  above = λ n f e. (given.files n f e).within;
  stay = λ n e. e;
}

bared_by : (old : ℕ → Option Stored) (w : World) (opens : ℕ → Option Opened) → Bare old w → AreKept opens old → Bared w.tree w.files opens
bared_by old w opens b kept = record {
  bare = All-from_recursion (IsBare w.files) w.tree (each_in (IsBare w.files) w.tree b.dirs);
  kept = λ h o at file. b.stay o.number (kept h o at file);
}

-- it holds after a change
pub changed_bared : (v w : World) (opens : ℕ → Option Opened) (change : Change) → v ≡ changed w change → Good w → AreGiven w.tree w.files w.opens w.greatest w.latest → Bared w.tree w.files opens → Bared v.tree v.files opens
changed_bared v w opens change e g given b = rw e (bared_by w.files (changed w change) opens (changed_bare w.files w change g (bare_of w b.bare given)) b.kept)

-- and after a batch
pub turned_bared : (v w : World) (opens : ℕ → Option Opened) → v ≡ turned w → Good w → AreGiven w.tree w.files w.opens w.greatest w.latest → Bared w.tree w.files opens → Bared v.tree v.files opens
turned_bared v w opens e g given b = rw e (bared_by w.files (turned w) opens (turned_by_bare w.files w w.script g (bare_of w b.bare given)) b.kept)

-- ---- one file's bytes

-- what is stored has no directory's number
pub stored_no_dir : (tree : List Row) (files : ℕ → Option Stored) (number : ℕ) → AreBare tree files → is_some (files number) ≡ true → NamesNoDir tree number
stored_no_dir tree files number bare stored = All-weaker (IsBare files) (λ r. r.kind ≡ Dir → r.number ≢ number) (λ r b dir e. clash r b dir e) tree bare
  where
    clash : (r : Row) → IsBare files r → r.kind ≡ Dir → r.number ≡ number → ⊥
    clash r b dir e = let t : false ≡ true = sym (ap is_some (ap files (sym e) ∙ b dir)) ∙ stored in cc

-- nor has what stands in a tree and is no directory
pub row_no_dir : (tree : List Row) (row : Row) → is_tree tree ≡ true → In row tree → is_dir row.kind ≡ false → NamesNoDir tree row.number
row_no_dir tree row whole i other =
    All-from_recursion (λ (r : Row). r.kind ≡ Dir → r.number ≢ row.number) tree (each_in (λ (r : Row). r.kind ≡ Dir → r.number ≢ row.number) tree (λ r at dir e.
    let same = only_number tree r row (tree_parts tree whole).apart at i e in
    let t : true ≡ false = sym (ap is_dir (sym (ap (λ (r : Row). r.kind) same) ∙ dir)) ∙ other in cc))

bare_timed : (files : ℕ → Option Stored) (c : Bool) (t : FileTime) (r : Row) → IsBare files r → IsBare files (cond c (record r { time = t }) r)
bare_timed files true t r b = b
bare_timed files false t r b = b

-- a file is filled whose number no directory has
pub filled_bared : (w : World) (rows : List Row) (files : ℕ → Option Stored) (number : ℕ) (bytes : List ℕ) (t : FileTime) (opens : ℕ → Option Opened) → rows ≡ map (timed_number number t) w.tree
    → files ≡ put number (Some (record { bytes = bytes; time = t })) w.files → NamesNoDir w.tree number → Bared w.tree w.files opens → Bared rows files opens
filled_bared w rows files number bytes t opens e f apart b =
    let s : Stored = record { bytes = bytes; time = t } in
    let here : (r : Row) → In r w.tree → IsBare w.files r = λ r at. each_at (IsBare w.files) w.tree r (recursion_from_All (IsBare w.files) w.tree b.bare) at in
    let others : (r : Row) → In r w.tree → r.kind ≡ Dir → r.number ≢ number =
    λ r at. each_at (λ (r : Row). r.kind ≡ Dir → r.number ≢ number) w.tree r (recursion_from_All (λ (r : Row). r.kind ≡ Dir → r.number ≢ number) w.tree apart) at in
    rw (e, f) (record {
      bare = All-from_recursion (IsBare (put number (Some s) w.files)) (map (timed_number number t) w.tree) (each_in (IsBare (put number (Some s) w.files)) (map (timed_number number t) w.tree) (λ y i.
          let (r, at, same) = in_map (timed_number number t) w.tree y i in
          rw same (bare_timed (put number (Some s) w.files) (r.number == number) t r (bare_put w.files number s r (here r at) (others r at)))));
      kept = λ h o at file. stay_put (o.number == number) s (w.files o.number) (b.kept h o at file);
    })

-- ---- rows that are set

none_is : (o : Option Stored) → is_none o ≡ true → o ≡ None
none_is None e = refl
none_is (Some f) e = cc

-- a directory more, whose number stores nothing
pub dir_bared : (w : World) (x : Row) (new : List Row) (opens : ℕ → Option Opened) → is_none (w.files x.number) ≡ true → new ≡ w.tree ++ x ∷ [] → Bared w.tree w.files opens → Bared new w.files opens
dir_bared w x new opens none e b = rw e (record {
  bare = All-from_recursion (IsBare w.files) (w.tree ++ x ∷ []) (each_in (IsBare w.files) (w.tree ++ x ∷ []) (λ y i. bare_more w.files w.tree x y
      (λ r at. each_at (IsBare w.files) w.tree r (recursion_from_All (IsBare w.files) w.tree b.bare) at) (λ dir. none_is (w.files x.number) none) (in_more w.tree x y i)));
  kept = b.kept;
})

no_number : (rows : List Row) (n : ℕ) (r : Row) → not (list_any (λ row. n == row.number) rows) ≡ true → In r rows → r.number ≢ n
no_number [] n r new i = absurd i
no_number (x ∷ rows) n r new (inl e) = rw e (not_equal n x.number (other_numbers (n == x.number) (list_any (λ row. n == row.number) rows) new).0)
no_number (x ∷ rows) n r new (inr i) = no_number rows n r (other_numbers (n == x.number) (list_any (λ row. n == row.number) rows) new).1 i

-- a file more, whose number no row has
pub file_bared : (w : World) (x : Row) (s : Stored) (mid new : List Row) (files : ℕ → Option Stored) (opens : ℕ → Option Opened) → x.kind ≡ File → not (list_any (λ row. x.number == row.number) w.tree) ≡ true
    → mid ≡ w.tree → new ≡ mid ++ x ∷ [] → files ≡ put x.number (Some s) w.files → Bared w.tree w.files opens → Bared new files opens
file_bared w x s mid new files opens file fresh before e f b = rw (e, f, before) (record {
  bare = All-from_recursion (IsBare (put x.number (Some s) w.files)) (w.tree ++ x ∷ []) (each_in (IsBare (put x.number (Some s) w.files)) (w.tree ++ x ∷ []) (λ y i.
      bare_more (put x.number (Some s) w.files) w.tree x y
      (λ r at. bare_put w.files x.number s r (each_at (IsBare w.files) w.tree r (recursion_from_All (IsBare w.files) w.tree b.bare) at) (λ dir. no_number w.tree x.number r fresh at))
      (λ dir. absurd (let clash : Dir ≡ File = sym dir ∙ file in cc)) (in_more w.tree x y i)));
  kept = λ h o at is. stay_put (o.number == x.number) s (w.files o.number) (b.kept h o at is);
})

-- rows and files that are the same again
pub bared_back : (tree rows : List Row) (stored files : ℕ → Option Stored) (opens : ℕ → Option Opened) → rows ≡ tree → files ≡ stored → Bared tree stored opens → Bared rows files opens
bared_back tree rows stored files opens e f b = rw (e, f) b

-- files that stay
pub unchanged_bared : (tree : List Row) (old now : BTreeMap ℕ StoredFile) (opens : ℕ → Option Opened) → IsUnchanged old now → Bared tree (stored_at old) opens → Bared tree (stored_at now) opens
unchanged_bared tree old now opens same b =
    subst (λ (entries : List (ℕ × StoredFile)). Bared tree (λ n. option_map stored_of (lookup (is_at (nat_cmp n)) entries)) opens) (sym same) b

-- ---- open files

kept_case : (files : ℕ → Option Stored) (c : Bool) (p x : Option Opened) (o : Opened) → (p ≡ Some o → o.kind ≡ File → is_some (files o.number) ≡ true) → (x ≡ Some o → o.kind ≡ File → is_some (files o.number) ≡ true)
    → cond c p x ≡ Some o → o.kind ≡ File → is_some (files o.number) ≡ true
kept_case files true p x o new old e = new e
kept_case files false p x o new old e = old e

-- an open file more, or one whose place is set
pub kept_put : (files : ℕ → Option Stored) (old now : ℕ → Option Opened) (h : ℕ) (p : Option Opened) → now ≡ put h p old → AreKept old files
    → ((o : Opened) → p ≡ Some o → o.kind ≡ File → is_some (files o.number) ≡ true) → AreKept now files
kept_put files old now h p e kept new = rw e (λ n o at. kept_case files (n == h) p (old n) o (new o) (kept n o) at)

pub kept_placed : (files : ℕ → Option Stored) (old now : ℕ → Option Opened) (h : ℕ) (o : Opened) (place : ℕ) → old h ≡ Some o → now ≡ put h (Some (record o { place = place })) old → AreKept old files → AreKept now files
kept_placed files old now h o place at e kept =
    kept_put files old now h (Some (record o { place = place })) e kept (λ p f. let same : record o { place = place } ≡ p = cc in rw (← same) (kept h o at))

-- what is opened, or refused for want of memory
pub kept_insert : {T E : Type 0} (files : ℕ → Option Stored) (old now : BTreeMap ℕ Opened) (h : ℕ) (o : Opened) (r : Result T E) → OnOk r (Updates nat_cmp old now h (Some o)) → OnErr r (IsUnchanged old now)
    → (o.kind ≡ File → is_some (files o.number) ≡ true) → AreKept (at_key old) files → AreKept (at_key now) files
kept_insert files old now h o (Ok x) updates same new kept =
    kept_put files (at_key old) (at_key now) h (Some o) (updates_put h old now (Some o) updates) kept (λ p f. let same : o ≡ p = cc in rw (← same) new)
kept_insert files old now h o (Err x) updates same new kept =
    subst (λ (entries : List (ℕ × Opened)). AreKept (λ n. lookup (is_at (nat_cmp n)) entries) files) (sym same) kept

-- a file of a tree is stored
pub is_kept : (tree : List Row) (files : ℕ → Option Stored) (row : Row) → AreStored tree files → In row tree → row.kind ≡ File → is_some (files row.number) ≡ true
is_kept tree files row stored i file = some_of (files row.number) row.time (each_at (IsStored files) tree row (recursion_from_All (IsStored files) tree stored) i file)
  where
    some_of : (o : Option Stored) (t : FileTime) → option_map (λ s. s.time) o ≡ Some t → is_some o ≡ true
    some_of None t e = cc
    some_of (Some s) t e = refl

-- a directory that is found has no bytes
pub found_bare : (tree : List Row) (files : ℕ → Option Stored) (path : Names) (row : Row) → AreBare tree files → look tree path ≡ Ok row → row.kind ≡ Dir → length (bytes_or_none (files row.number)) ≡ 0
found_bare tree files path row bare e dir =
    ap (λ o. length (bytes_or_none o)) (each_at (IsBare files) tree row (recursion_from_All (IsBare files) tree bare) (look_in tree path row e) dir)

-- ---- kinds of what is open

-- what may be written is a file
pub written_file : (o : Opened) → can_write (Some (live_of o)) ≡ true → o.kind ≡ File
written_file o can = by o.kind refl (and_parts (is_file o.kind) (o.how.write || o.how.append) can).0
  where
    by : (k : Kind) → o.kind ≡ k → is_file o.kind ≡ true → o.kind ≡ File
    by Dir e f = absurd (let t : false ≡ true = sym (ap is_file e) ∙ f in cc)
    by File e f = e
    by Link e f = absurd (let t : false ≡ true = sym (ap is_file e) ∙ f in cc)

-- and so is what opening empties
pub emptied_file : (kind : Kind) (how : OpenOptions) → (is_file kind && (how.write && how.truncate)) ≡ true → kind ≡ File
emptied_file Dir how e = cc
emptied_file File how e = refl
emptied_file Link how e = cc

-- A file that is made is stored.
pub new_row : (w v : World) (path : Names) → edited (makes path File []) w ≡ Some v → is_some (v.files (w.greatest + 1)) ≡ true
new_row w v path e = by (nat_lt w.greatest greatest) (tick w.latest) e
  where
    stored_here : (u : World) (o : Option FileTime) → is_some (u.files (w.greatest + 1)) ≡ true → touched_at (parent_of path) o u ≡ Some v → is_some (v.files (w.greatest + 1)) ≡ true
    stored_here u None here e = cc
    stored_here u (Some t) here e = let same : record u { tree = map (timed_row (parent_of path) t) u.tree; latest = t } ≡ v = cc in rw (← same) here

    by : (c : Bool) (o : Option FileTime) → then_touched (parent_of path) (stored_in [] (cond c (added_at path File o w) None)) ≡ Some v → is_some (v.files (w.greatest + 1)) ≡ true
    by true None e = cc
    by true (Some t) e =
        stored_here _ (tick t) (ap is_some (put_same (w.greatest + 1) (Some (record { bytes = []; time = t })) w.files)) e
    by false o e = cc
