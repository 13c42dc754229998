-- A local store follows the rules of its ways.
use Rattle.std.proofs.Common.{◌≡◌, ◌⊎◌, ◌||◌, ◌++◌, inl, inr, ℕ, true, false, List, [], ◌∷◌, map, length, Option, None, Some, Result, Ok, Err, IsOk, refl, sym, ap, subst, ◌∙◌, arith, append-nil, length-append}
use Rattle.std.proofs.lemmas.List.Elements.{All-from_recursion, recursion_from_All}
use Rattle.std.proofs.lemmas.List.Sorted.{All-permutation, IsPermutation-map, IsPermutation-sym, IsPermutation-trans, length_permutation}
use Rattle.std.proofs.lemmas.Slice.Zip.{AllZip-long}
use Rattle.std.specs.List.{AllByRecursion, AllZip, filter}
use Rattle.std.specs.List.Sorted.{IsPermutation}
use Rattle.dav_io.specs.Counts.{Rose}
use Rattle.dav_io.specs.Told.{Both}
use Rattle.dav_io.proofs.ToldLemmas.{both_map}
use Rattle.dav_io.specs.declared.clock.Moment.{Moment}
use Rattle.dav_core.specs.declared.error.FsError.{FsError}
use Rattle.dav_core.specs.declared.handle.DiskError.{DiskError}
use Rattle.dav_core.specs.declared.handle.DiskError.TheVariants.{NotFound, Exists, NotDir, IsDir, NotEmpty, Failed, NoMemory}
use Rattle.dav_core.specs.declared.member.Member.{Member}
use Rattle.dav_core.specs.declared.tree.Kind.TheVariants.{Dir}
use Rattle.dav_core.specs.declared.tree.Row.{Row}
use Rattle.dav_core.specs.DavPath.{WebPath}
use Rattle.dav_core.specs.Disk.{DiskState}
use Rattle.dav_core.specs.Allowed.{copying, taking_dir, taking_file}
use Rattle.dav_core.specs.Info.{Info}
use Rattle.dav_core.specs.Listing.{EndedIn, ListedIn, ListsOn, NextIn, listable, name_of, stands_in}
use Rattle.dav_core.specs.Members.{member_of, members}
use Rattle.dav_core.specs.Path.{Names}
use Rattle.dav_core.specs.Tree.{has_dir, is_dir, is_linked, look}
use Rattle.dav_core.specs.World.{SameBesidesOpens, World, put}
use Rattle.dav_core.specs.Writing.{appends}
use Rattle.dav_store.specs.declared.entry.ReadDirMeta.TheVariants.{DataSymlink}
use Rattle.dav_store.specs.Files.{Spoiled}
use Rattle.dav_store.specs.Members.{Answered, AreOf, BeginsThere, IsAnswerOf, SaysOrRose, Walked, begun, goes as walks}
use Rattle.dav_store.specs.View.{Listings, View}
use Rattle.dav_model.specs.declared.settings.Settings.{Settings}
use Rattle.dav_model.specs.Finding.{EndsLoosely, has_slash, is_clear, is_forbidden, listed_in, members_or, resolved}
use Rattle.dav_model.specs.Plans.{making}
use Rattle.dav_model.specs.Rules.{Rules}
use Rattle.dav_model.specs.Valid.{TellsApart}
use Rattle.dav_model.specs.Walks.{dir_first, in_order}
use Rattle.dav_model.proofs.LooseWalks.{found_exactly}
use Rattle.dav_walks.specs.declared.child.Child.{Child}
use Rattle.dav_walks.specs.Follows.{Calls, FailsToList, Follows, IfBothFound, IfFound, ListsBy, LooksBy, MovesBy, OpensBy, Reached, Told, UnlessShut, child_of, children_in}
use Rattle.dav_walks.specs.Pouring.{Writes, WritesFile}
use Rattle.dav_walks.specs.Reading.{AllSaid, HasMembers, HasNoMembers, MembersUnread, ReadRefused, child_named, child_said, children_said}
use Rattle.dav_memory.specs.Memory.{LearnsNothing, MemoryState}
use Rattle.dav_local.specs.declared.entry.LocalFsDirEntry.{LocalFsDirEntry}
use Rattle.dav_local.specs.declared.file.LocalFsFile.{LocalFsFile}
use Rattle.dav_local.specs.Calls.{BeginsAt, Finds, Place}
use Rattle.dav_local.specs.Listing.{Fills, ListingState, NextEntry, ReadsOne, Refills}
use Rattle.dav_local.specs.Listing.Fills.{ended, full, more as reads_more}
use Rattle.dav_local.specs.Shown.{EndsBy, ListsByRules, WhyRefused, knowledge_of}
use Rattle.dav_local.specs.Ways.{rules_with}
use Rattle.dav_local.specs.Standing.{HasNoLinks}
use Rattle.dav_local.specs.declared.ways.Ways.{Ways}
use Rattle.dav_local.proofs.ByRules.{lists_by_rules, spoiled_by}
use Rattle.dav_local.proofs.Filling.{given_keeps}
use Rattle.dav_local.proofs.EntriesTold.{listed_dir, rows_stand}
use Rattle.dav_local.proofs.Walked.{ListsLocal, walk_ends, walk_fails, walk_told}
use Rattle.dav_local_laws.proofs.FileWrites.{WrittenFrom, writes_told}
use Rattle.dav_local_laws.proofs.ListingWorlds.{listed_besides, next_besides, same_world}
use Rattle.dav_local_laws.proofs.NamedMembers.{are_members, in_name_order, member, paths_of, rows_members}
use Rattle.dav_local_laws.proofs.NameOrder.{ascending_once, order_ascends, order_permutes, sorted_ascends}
use Rattle.dav_local_laws.proofs.LocalCalls.{copy_told, make_told, open_told, take_dir_told, take_file_told}
use Rattle.dav_local_laws.proofs.LocalLooks.{Besides, besides_same, besides_then, look_at_link_told, look_told}
use Rattle.dav_local_laws.proofs.PlainLooks.{both_with}
use Rattle.dav_local_laws.proofs.ReachedCounts.{reached_counts}
use Rattle.dav_local_laws.proofs.TreeLooks.{dir_listed}
use Rattle.dav_local_laws.proofs.RuledReads.{no_links}
use Rattle.dav_local_laws.specs.LocalStore.{IsLocalStore, place}
use Rattle.dav_local_laws.proofs.LocalLeads.{calls_remain}
use Rattle.dav_local_laws.proofs.LocalMoves.{move_told}
use Rattle.dav_local_laws.proofs.LocalUsual.{local_usual}
use Rattle.dav_local.specs.declared.gathering.LocalFsReadDir.{LocalFsReadDir}
use Rattle.dav_local.proofs.Gathered.{Next, after_keeps}
use Rattle.dav_local_laws.proofs.LocalListings.{lists_local, next_local}

-- ---- members

abbrev childm : WebPath → Member → Child
childm path m = child_named path m.name (is_dir m.kind)

one_said : (path : WebPath) (from now : ℕ) (a : Answered) (m : Member) → (r : Result Info FsError) → a.meta ≡ r → IsOk r → IsAnswerOf from now a m
    → child_said path a.name r ≡ childm path m ∷ []
one_said path from now a m (Ok info) is ok of =
    let says = subst (SaysOrRose from now m) is of.says in
    ap (λ n. child_named path n (is_dir info.kind) ∷ []) of.name ∙ ap (λ k. child_named path m.name (is_dir k) ∷ []) says.0
one_said path from now a m (Err e) is ok of = cc

said_given : (path : WebPath) (from now : ℕ) (answers : List Answered) (given : List Member) → AllSaid answers → AllZip (IsAnswerOf from now) answers given
    → children_said path answers ≡ map (childm path) given
said_given path from now [] [] said each = refl
said_given path from now [] (m ∷ given) said each = absurd each
said_given path from now (a ∷ answers) [] said each = absurd each
said_given path from now (a ∷ answers) (m ∷ given) said each =
    ap (λ ms. ms ++ children_said path answers) (one_said path from now a m a.meta refl said.0 each.0)
    ∙ ap (λ ms. childm path m ∷ ms) (said_given path from now answers given said.1 each.1)

rows_children : (w : World) (path : WebPath) (rows : List Row) → map (childm path) (map (member_of w) rows) ≡ map (child_of path) rows
rows_children w path [] = refl
rows_children w path (row ∷ rows) = ap (λ ms. child_of path row ∷ ms) (rows_children w path rows)

names_children : (path : WebPath) (rows : List Row) → map (λ (m : Child). m.name) (map (child_of path) rows) ≡ map name_of rows
names_children path [] = refl
names_children path (row ∷ rows) = ap (λ ns. name_of row ∷ ns) (names_children path rows)

none_left : (given rest : List Member) (n : ℕ) → length (given ++ rest) ≡ n → length given ≡ n → rest ≡ []
none_left given [] n all some = refl
none_left given (m ∷ rest) n all some = absurd (omega (arith, length-append given (m ∷ rest)))

-- Where all members were told of, the children are those of the rows, in some order.
children_are : (w : World) (dir : Names) (path : WebPath) (from now : ℕ) (answers : List Answered) → AreOf (members w dir) from now answers → length answers ≡ length (members w dir) → AllSaid answers
    → IsPermutation (map (child_of path) (filter (stands_in dir) w.tree)) (children_said path answers)
children_are w dir path from now answers of long said =
    let rows = filter (stands_in dir) w.tree in
    let all = members w dir in
    let none = none_left of.given of.rest (length all) (length_permutation all (of.given ++ of.rest) of.once) (AllZip-long (IsAnswerOf from now) answers of.given of.each ∙ long) in
    let once : IsPermutation all of.given = subst (IsPermutation all) (ap (λ xs. of.given ++ xs) none ∙ append-nil of.given) of.once in
    subst (λ z. IsPermutation (map (child_of path) rows) z) (sym (said_given path from now answers of.given said of.each))
    (subst (λ z. IsPermutation z (map (childm path) of.given)) (rows_children w path rows) (IsPermutation-map (childm path) all of.given once))

-- ---- what listings leave of the told world

asked_besides : (l : ℕ) (answer : Result (Option (List ℕ)) DiskError) (s m t : DiskState) → ListsOn s l answer m → Besides m t → Besides s t
asked_besides l answer s m t on rest = besides_then s m t (both_map s.told m.told (NextIn l answer) SameBesidesOpens (next_besides l answer) on.told) rest

reads_besides : (s t : DiskState) (k e : ListingState) → ReadsOne s k t e → Besides s t
reads_besides s t k e (Ok (Some name), m, on, (given, gives, is)) = asked_besides k.lister.0 (Ok (Some name)) s m t on (given_keeps name k.path k.wanted m given t gives).world
reads_besides s t k e (Ok None, m, on, (same, is)) = asked_besides k.lister.0 (Ok None) s m t on (besides_same m t same)
reads_besides s t k e (Err NoMemory, m, on, (same, is)) = asked_besides k.lister.0 (Err NoMemory) s m t on (besides_same m t same)
reads_besides s t k e (Err Failed, m, on, (same, is)) = asked_besides k.lister.0 (Err Failed) s m t on (besides_same m t same)
reads_besides s t k e (Err NotFound, m, on, (same, is)) = asked_besides k.lister.0 (Err NotFound) s m t on (besides_same m t same)
reads_besides s t k e (Err Exists, m, on, (same, is)) = asked_besides k.lister.0 (Err Exists) s m t on (besides_same m t same)
reads_besides s t k e (Err NotDir, m, on, (same, is)) = asked_besides k.lister.0 (Err NotDir) s m t on (besides_same m t same)
reads_besides s t k e (Err IsDir, m, on, (same, is)) = asked_besides k.lister.0 (Err IsDir) s m t on (besides_same m t same)
reads_besides s t k e (Err NotEmpty, m, on, (same, is)) = asked_besides k.lister.0 (Err NotEmpty) s m t on (besides_same m t same)

fills_besides : (n : ℕ) (s t : DiskState) (k e : ListingState) → Fills n s k t e → Besides s t
fills_besides n s t k e (full a d) = besides_same a a refl
fills_besides n s t k e (ended i a d over) = besides_same a a refl
fills_besides n s t k e (reads_more i a m b d f g still reads fills) = besides_then a m b (reads_besides a m d f reads) (fills_besides i m b f g fills)

refills_besides : (batch : List LocalFsDirEntry) (s t : DiskState) (k e : ListingState) → Refills batch s k t e → Besides s t
refills_besides [] s t k e fills = fills_besides 256 s t k e fills
refills_besides (entry ∷ batch) s t k e (same, is) = besides_same s t same

pub next_entry_besides : (s t : DiskState) (k e : ListingState) (r : Result (Option LocalFsDirEntry) FsError) → NextEntry s k r t e → Besides s t
next_entry_besides s t k e r (f, refills, gives) = refills_besides k.batch s t k f refills

begins_besides : (p q : Place) (names : Names) (r : Result LocalFsReadDir FsError) → Finds p names (BeginsAt DataSymlink) r q → Besides p.disk q.disk
begins_besides p q names r (Err e, m, resolves, (is, ends)) =
    besides_then p.disk m.disk q.disk resolves.keeps.world (besides_same m.disk q.disk (ap (λ (x : Place). x.disk) ends))
begins_besides p q names r (Ok end, m, resolves, (t, (reading, (answer, lists_so, is), whole), ends)) =
    besides_then p.disk m.disk q.disk resolves.keeps.world
    (besides_then m.disk t q.disk (both_map m.disk.told t.told (ListedIn end answer) SameBesidesOpens (listed_besides end answer) lists_so.told) (besides_same t q.disk (ap (λ (x : Place). x.disk) ends)))

next_besides_all : (s t : DiskState) (k e : LocalFsReadDir) (r : Result (Option LocalFsDirEntry) FsError) → Next s k r t e → Besides s t
next_besides_all s t k e r n =
    besides_then s n.middle t (next_entry_besides s n.middle k.reading n.reading n.given n.first)
    (besides_then n.middle n.before.disk t (besides_same n.middle n.before.disk n.start)
    (besides_then n.before.disk n.after.disk t (after_keeps k.builder n.given n.now n.before (record k { reading = n.reading }) r n.after e n.follows).world (besides_same n.after.disk t (sym n.disk))))

why_spoiled : (s t : DiskState) (e : FsError) → WhyRefused s.faults t.faults e → Spoiled {T = Unit {0}} s (Err e) t
why_spoiled s t e (inl none) = inr (ap Err none)
why_spoiled s t e (inr (is, rose)) = inl (ap Err is, rose)

module _ {S C : Type 0} (view : View S C LocalFsFile) (lists : Listings S C LocalFsReadDir LocalFsDirEntry) (writes : Writes LocalFsFile) (c : C) (ways : S → Ways) (memory : S → MemoryState) (moment : S → Moment)
    (local : IsLocalStore view lists writes ways memory moment) (settings : Settings) where
  abbrev at : S → Place
  at s = place view lists writes ways memory moment s

  writes_file_told : (m n : S) (f g : LocalFsFile) (bytes : List ℕ) (r : Result Unit FsError) → WritesFile view writes m f bytes r n g → appends ((view.state m).live (view.file.handle f)) ≡ false
      → Told view lists writes c m n (WrittenFrom (view.file.handle f) bytes r)
  writes_file_told m n f g bytes r h end =
      let (all, same) = local.writes_file f g (view.state m) (view.state n) bytes r h.done in
      let own = local.handle f in
      subst (λ k. Both (view.state m).told (view.state n).told (WrittenFrom k bytes r)) (sym own)
      (writes_told f.handle.0 (view.state m) bytes r (view.state n) all (ap (λ k. appends ((view.state m).live k)) (sym own) ∙ end))

  -- ---- listings

  abbrev listings : ListsLocal view lists
  listings = lists_local view lists writes ways memory moment local

  next : (s t : S) (d e : LocalFsReadDir) (r : Result (Option LocalFsDirEntry) FsError) → lists.lists_on s d r t e → Next (view.state s) d r (view.state t) e
  next s t d e r on = next_local view lists writes ways memory moment local s t d e r on

  abbrev rules : S → Rules
  rules m = rules_with settings (ways m)

  -- where the rules find the directory
  abbrev dir_at : S → World → WebPath → Names
  dir_at m v path = resolved (rules m) v.tree path.names

  lists_so : (m n : S) (path : WebPath) (r : Result LocalFsReadDir FsError) (v : World) → (view.state m).told ≡ Some v → lists.lists m c path DataSymlink r n
      → ListsByRules (ways m) v path (view.state m) r (view.state n)
  lists_so m n path r v told h = lists_by_rules (at m) (at n) v path DataSymlink r told (local.begins m n c path DataSymlink r h).0

  ends_there : (m : S) (v : World) (path : WebPath) (end : Names) → TellsApart (rules m) v → EndsLoosely (ways m).alone (ways m).folds v.tree path.names end → end ≡ dir_at m v path
  ends_there m v path end apart loosely = found_exactly (rules m) v.tree path.names end apart loosely

  -- the directory that was listed is the one asked
  listed_here : (m n : S) (path : WebPath) (l : LocalFsReadDir) (v : World) → TellsApart (rules m) v → (view.state m).told ≡ Some v → is_clear v.tree (dir_at m v path) ≡ true
      → lists.lists m c path DataSymlink (Ok l) n → l.reading.path ≡ dir_at m v path
  listed_here m n path l v apart told clear h =
      let b = lists_so m n path (Ok l) v told h in
      let here = ends_there m v path b.end apart b.loosely in
      b.at_end l refl (ap (is_linked v.tree) here ∙ (no_links v (dir_at m v path) clear).way) ∙ here

  links_at : (m n : S) (path : WebPath) (l : LocalFsReadDir) (v : World) → TellsApart (rules m) v → (view.state m).told ≡ Some v → is_clear v.tree (dir_at m v path) ≡ true
      → lists.lists m c path DataSymlink (Ok l) n → HasNoLinks v l.reading.path
  links_at m n path l v apart told clear h = subst (HasNoLinks v) (sym (listed_here m n path l v apart told clear h)) (no_links v (dir_at m v path) clear)

  dir_begun : (v : World) (dir : Names) (found : Result Row DiskError) (l : LocalFsReadDir) → BeginsThere (members_or v dir found) (Ok l) → IsOk found
  dir_begun v dir (Ok row) l there = refl
  dir_begun v dir (Err e) l there = absurd there

  -- a directory stands there
  dir_of_listing : (m n : S) (path : WebPath) (l : LocalFsReadDir) (v : World) → TellsApart (rules m) v → (view.state m).told ≡ Some v → is_clear v.tree (dir_at m v path) ≡ true
      → lists.lists m c path DataSymlink (Ok l) n → (row : Row) × ((look v.tree (dir_at m v path) ≡ Ok row) × (row.kind ≡ Dir))
  dir_of_listing m n path l v apart told clear h =
      let b = lists_so m n path (Ok l) v told h in
      let here = ends_there m v path b.end apart b.loosely in
      by b.end here (b.shows (ap (is_linked v.tree) here ∙ (no_links v (dir_at m v path) clear).way))
    where
      by : (end : Names) → end ≡ dir_at m v path → BeginsThere (listed_in v end) (Ok l) ⊎ Spoiled (view.state m) (Ok l) (view.state n) → (row : Row) × ((look v.tree (dir_at m v path) ≡ Ok row) × (row.kind ≡ Dir))
      by end here (inl there) =
          let dir = listed_dir (look v.tree (dir_at m v path)) (subst (λ z. IsOk (listable (look v.tree z))) here (dir_begun v end (listable (look v.tree end)) l there)) in
          (dir.row, (dir.is, dir.kind))
      by end here (inr (inl (is, rose))) = cc
      by end here (inr (inr is)) = cc

  -- the members that were read are those of the tree
  members_read : (m n : S) (path : WebPath) (read : List Child) (v : World) → TellsApart (rules m) v → HasMembers view lists m c path read n → (view.state m).told ≡ Some v
      → is_clear v.tree (dir_at m v path) ≡ true → read ≡ children_in v.tree (dir_at m v path) path
  members_read m n path read v apart has told clear =
      let dir : Names = dir_at m v path in
      let was = has.was in
      let all_read = was.reads in
      let is = local.worlds m v told in
      let begins_so = (local.begins m was.begin c path DataSymlink (Ok was.listing) was.begins).0 in
      let links = links_at m was.begin path was.listing v apart told clear was.begins in
      let here = listed_here m was.begin path was.listing v apart told clear was.begins in
      let of = subst (λ d. AreOf (members v d) (view.state m).faults (view.state all_read.place).faults all_read.answers) here
      (walk_told view lists listings false (at m) (at was.begin) v path was.begin all_read.place was.listing all_read.left all_read.answers told is begins_so refl links all_read.walk) in
      let long = subst (λ d. EndsBy (view.state m).faults (members v d) all_read.answers (Ok None) (view.state was.after).faults) here
      (walk_ends view lists listings false (at m) (at was.begin) v path was.begin all_read.place was.after was.listing all_read.left was.over all_read.answers (Ok None) told begins_so refl links all_read.walk all_read.ends) in
      let rows = filter (stands_in dir) v.tree in
      let target = map (child_of path) rows in
      let (kind_row, stands) = dir_of_listing m was.begin path was.listing v apart told clear was.begins in
      let stand = rows_stand v.tree dir kind_row is.tree stands.0 in
      let said : IsPermutation target has.listed = subst (IsPermutation target) (sym all_read.told) (children_are v dir path (view.state m).faults (view.state all_read.place).faults all_read.answers of long all_read.said) in
      let given : IsPermutation target read = IsPermutation-trans target has.listed read said has.each_once in
      let each_row : AllByRecursion (λ (x : Child). x ≡ member v dir path x.name) target =
      subst (AllByRecursion (λ (x : Child). x ≡ member v dir path x.name)) (rows_members v dir path rows stand) (are_members v dir path (map name_of rows)) in
      let each = recursion_from_All (λ (x : Child). x ≡ member v dir path x.name) read (All-permutation (λ (x : Child). x ≡ member v dir path x.name) target read given
      (All-from_recursion (λ (x : Child). x ≡ member v dir path x.name) target each_row)) in
      let ordered = map name_of (in_order dir_first rows) in
      let names : IsPermutation (map (λ (x : Child). x.name) read) ordered =
      IsPermutation-trans (map (λ (x : Child). x.name) read) (map name_of rows) ordered
      (IsPermutation-sym (map name_of rows) (map (λ (x : Child). x.name) read)
      (subst (λ z. IsPermutation z (map (λ (x : Child). x.name) read)) (names_children path rows) (IsPermutation-map (λ (x : Child). x.name) target read given)))
      (IsPermutation-map name_of rows (in_order dir_first rows) (order_permutes dir_first rows)) in
      in_name_order v dir path rows read stand each
      (ascending_once (map (λ (x : Child). x.name) read) ordered (sorted_ascends (λ (x : Child). x.name) read has.in_order)
      (order_ascends dir rows (paths_of v dir rows stand)) names)

  walk_besides : (n : S) (l : LocalFsReadDir) (answers : List Answered) (o : S) (k : LocalFsReadDir) → Walked view lists n l answers o k → Besides (view.state n) (view.state o)
  walk_besides n l answers o k begun = besides_same (view.state n) (view.state n) refl
  walk_besides n l answers o k (walks before m p q d j e r walk on_so said lent keeps) =
      besides_then (view.state n) (view.state m) (view.state o) (walk_besides n l before m d walk)
      (besides_then (view.state m) (view.state p) (view.state o) (next_besides_all (view.state m) (view.state p) d j (Ok (Some e)) (next m p d j (Ok (Some e)) on_so)) keeps.world)

  -- a listing that came to its end left the world
  listing_besides : (m n : S) (path : WebPath) (read : List Child) → HasMembers view lists m c path read n → Besides (view.state m) (view.state n)
  listing_besides m n path read has =
      let was = has.was in
      let all_read = was.reads in
      besides_then (view.state m) (view.state was.begin) (view.state n) (begins_besides (at m) (at was.begin) path.names (Ok was.listing) (local.begins m was.begin c path DataSymlink (Ok was.listing) was.begins).0)
      (besides_then (view.state was.begin) (view.state all_read.place) (view.state n) (walk_besides was.begin was.listing all_read.answers all_read.place all_read.left all_read.walk)
      (besides_then (view.state all_read.place) (view.state was.after) (view.state n)
      (next_besides_all (view.state all_read.place) (view.state was.after) all_read.left was.over (Ok None) (next all_read.place was.after all_read.left was.over (Ok None) all_read.ends))
      (both_map (view.state was.after).told (view.state n).told (EndedIn was.over.reading.lister.0) SameBesidesOpens
      (λ v w ended_so. same_world v w (put was.over.reading.lister.0 None v.listings) ended_so) (local.ends was.after n was.over was.ended).0.told)))

  members_told : (m n : S) (path : WebPath) (read : List Child) → HasMembers view lists m c path read n → Told view lists writes c m n (ListsBy view lists writes c (rules m) path read)
  members_told m n path read has =
      both_with (view.state m).told (view.state n).told SameBesidesOpens (ListsBy view lists writes c (rules m) path read) (listing_besides m n path read has)
      (λ v w told now same. (same, λ apart clear. members_read m n path read v apart has told clear))

  -- ---- a listing that fails

  begin_refused : (m n : S) (path : WebPath) (e : FsError) (v : World) → TellsApart (rules m) v → (view.state m).told ≡ Some v → is_clear v.tree (dir_at m v path) ≡ true → has_dir v.tree (dir_at m v path) ≡ true
      → lists.lists m c path DataSymlink (Err e) n → Spoiled {T = Unit {0}} (view.state m) (Err e) (view.state n)
  begin_refused m n path e v apart told clear dir h =
      let b = lists_so m n path (Err e) v told h in
      let here = ends_there m v path b.end apart b.loosely in
      let (row, there) = dir_listed v.tree (local.worlds m v told).tree (dir_at m v path) dir in
      by b.end row (ap (λ z. listable (look v.tree z)) here ∙ there) (b.shows (ap (is_linked v.tree) here ∙ (no_links v (dir_at m v path) clear).way))
    where
      never : (end : Names) (found : Result Row DiskError) (row : Row) → found ≡ Ok row → BeginsThere {L = LocalFsReadDir} (members_or v end found) (Err e) → ⊥
      never end (Ok x) row is there = there
      never end (Err d) row is there = cc

      by : (end : Names) (row : Row) → listable (look v.tree end) ≡ Ok row → BeginsThere {L = LocalFsReadDir} (listed_in v end) (Err e) ⊎ Spoiled {T = LocalFsReadDir} (view.state m) (Err e) (view.state n)
          → Spoiled {T = Unit {0}} (view.state m) (Err e) (view.state n)
      by end row is (inl there) = absurd (never end (listable (look v.tree end)) row is there)
      by end row is (inr spoiled) = spoiled_by {U = Unit {0}} (view.state m) (view.state m) (view.state n) e (Err e) (omega arith) refl spoiled

  read_refused : (m b n : S) (path : WebPath) (l k : LocalFsReadDir) (e : FsError) (v : World) → TellsApart (rules m) v → (view.state m).told ≡ Some v → is_clear v.tree (dir_at m v path) ≡ true
      → lists.lists m c path DataSymlink (Ok l) b → ReadRefused view lists b l e n k → Spoiled {T = Unit {0}} (view.state m) (Err e) (view.state n)
  read_refused m b n path l k e v apart told clear begins (inl (is, answers, walk)) = inr (ap Err is)
  read_refused m b n path l k e v apart told clear begins (inr (inl (answers, here, left, walk, said, on_so))) =
      why_spoiled (view.state m) (view.state n) e
      (walk_ends view lists listings false (at m) (at b) v path b here n l left k answers (Err e) told (local.begins m b c path DataSymlink (Ok l) begins).0 refl (links_at m b path l v apart told clear begins) walk on_so)
  read_refused m b n path l k e v apart told clear begins (inr (inr (answers, name, said, walk))) =
      let failed = walk_fails view lists listings false (at m) (at b) v path b n l k answers name e told (local.worlds m v told) (local.begins m b c path DataSymlink (Ok l) begins).0 refl
      (links_at m b path l v apart told clear begins) walk in
      inl (ap Err failed.0, failed.1)

  spoiled_on : (s m t : DiskState) (e : FsError) → t.faults ≡ m.faults → Spoiled {T = Unit {0}} s (Err e) m → Spoiled {T = Unit {0}} s (Err e) t
  spoiled_on s m t e same (inl (is, rose)) = inl (is, subst (Rose s.faults) (sym same) rose)
  spoiled_on s m t e same (inr is) = inr is

  -- the members weren't read because of a fault, or for want of memory
  members_unread : (m n : S) (path : WebPath) (e : FsError) (v : World) → TellsApart (rules m) v → HasNoMembers view lists m c path e n → (view.state m).told ≡ Some v → is_clear v.tree (dir_at m v path) ≡ true
      → has_dir v.tree (dir_at m v path) ≡ true → Spoiled {T = Unit {0}} (view.state m) (Err e) (view.state n)
  members_unread m n path e v apart hasnt told clear dir = by_why hasnt.why
    where
      by_why : MembersUnread view lists m c path e n → Spoiled {T = Unit {0}} (view.state m) (Err e) (view.state n)
      by_why (inl (is, listed, was)) = inr (ap Err is)
      by_why (inr (inl begins)) = begin_refused m n path e v apart told clear dir begins
      by_why (inr (inr (begin, after, listing, over, begins, refused_so, ended_so))) =
          spoiled_on (view.state m) (view.state after) (view.state n) e (local.ends after n over ended_so).0.counts (read_refused m begin after path listing over e v apart told clear begins refused_so)

  no_members_told : (m n : S) (path : WebPath) (e : FsError) → HasNoMembers view lists m c path e n → Told view lists writes c m n (FailsToList view lists writes c (rules m) path m e n)
  no_members_told m n path e hasnt =
      both_with (view.state m).told (view.state n).told SameBesidesOpens (FailsToList view lists writes c (rules m) path m e n) hasnt.keeps.world
      (λ v w told now same. (same, λ apart clear dir. members_unread m n path e v apart hasnt told clear dir))

  -- ---- the rules of the store where the request began

  pub local_follows : (s : S) → Follows view lists writes c (rules_with settings (ways s)) (knowledge_of (memory s)) s
  local_follows s = record {
    counts = λ n reached. reached_counts view lists writes c (local_usual view lists writes c ways memory moment local) s n reached;
    folds = λ n reached. local.folding n ∙ ap (λ (w : Ways). w.folds) (stays n reached);
    trees = λ n w reached told. local.worlds n w told;
    looks = λ m n path r reached h. look_as m n path r reached (look_told view lists writes c ways memory moment local settings m n path r (memory s) (learns m reached) h);
    looks_at_link = λ m n path r reached h. look_as m n path r reached (look_at_link_told view lists writes c ways memory moment local settings m n path r (memory s) (learns m reached) h);
    makes_dir = λ m n path r reached h. subst (λ x. Told view lists writes c m n (λ v w. UnlessShut view lists writes c (is_forbidden x path) r v w (IfFound view lists writes c x v path
        (Calls view lists writes c (making x v path) m r n v w)))) (same m reached) (make_told view lists writes c ways memory moment local settings m n path r h);
    removes_dir = λ m n path r reached h. subst (λ (x : Rules). Told view lists writes c m n (λ v w. IfFound view lists writes c x v path
        (Calls view lists writes c (taking_dir v.tree (resolved x v.tree path.names)) m r n v w))) (same m reached) (take_dir_told view lists writes c ways memory moment local settings m n path r h);
    removes_file = λ m n path r reached h. subst (λ (x : Rules). Told view lists writes c m n (λ v w. UnlessShut view lists writes c (is_forbidden x path || has_slash x.alone path) r v w
        (IfFound view lists writes c x v path (Calls view lists writes c (taking_file v.tree (resolved x v.tree path.names)) m r n v w))))
        (same m reached) (take_file_told view lists writes c ways memory moment local settings m n path r h);
    renames = λ m n from to r reached h. subst (λ (x : Rules). Told view lists writes c m n (λ v w. UnlessShut view lists writes c (is_forbidden x from || is_forbidden x to) r v w
        (IfBothFound view lists writes c x v from to (MovesBy view lists writes c (resolved x v.tree from.names) (resolved x v.tree to.names) m r n v w))))
        (same m reached) (move_told view lists writes c ways memory moment local settings m n from to r h);
    copies = λ m n from to r reached h. subst (λ (x : Rules). Told view lists writes c m n (λ v w. UnlessShut view lists writes c (is_forbidden x from || is_forbidden x to) r v w
        (IfBothFound view lists writes c x v from to (Calls view lists writes c (copying v (resolved x v.tree from.names) (resolved x v.tree to.names)) m r n v w))))
        (same m reached) (copy_told view lists writes c ways memory moment local settings m n from to r h);
    opens = λ m n path r reached h. subst (λ (x : Rules). Told view lists writes c m n (λ v w. UnlessShut view lists writes c (is_forbidden x path || has_slash x.alone path) r v w
        (IfFound view lists writes c x v path (OpensBy view lists writes c x path m r n v w)))) (same m reached) (open_told view lists writes c ways memory moment local settings m n path r h);
    writes_file = λ m n f g bytes r reached h end. writes_file_told m n f g bytes r h end;
    members = λ m n path read reached has. subst (λ x. Told view lists writes c m n (ListsBy view lists writes c x path read)) (same m reached) (members_told m n path read has);
    no_members = λ m n path e reached hasnt. subst (λ x. Told view lists writes c m n (FailsToList view lists writes c x path m e n)) (same m reached) (no_members_told m n path e hasnt);
  }
    where
      stays : (m : S) → Reached view lists writes c s m → ways m ≡ ways s
      stays m reached = (calls_remain view lists writes ways memory moment local c s m reached).0

      learns : (m : S) → Reached view lists writes c s m → LearnsNothing (memory s) (memory m)
      learns m reached = (calls_remain view lists writes ways memory moment local c s m reached).1

      same : (m : S) → Reached view lists writes c s m → rules m ≡ rules s
      same m reached = ap (rules_with settings) (stays m reached)

      look_as : (m n : S) (path : WebPath) (r : Result Info FsError) → Reached view lists writes c s m → Told view lists writes c m n (LooksBy view lists writes c (rules m) (knowledge_of (memory s)) path m r n)
          → Told view lists writes c m n (LooksBy view lists writes c (rules s) (knowledge_of (memory s)) path m r n)
      look_as m n path r reached told = subst (λ x. Told view lists writes c m n (LooksBy view lists writes c x (knowledge_of (memory s)) path m r n)) (same m reached) told
