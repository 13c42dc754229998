-- What the calls of a local store that an upload makes do to the told world, where names don't fold and the disk's root is served: each is one call of the disk
-- at the path as it is written.
use Rattle.std.proofs.Common.{◌≡◌, ◌⊎◌, ◌≤◌, inl, inr, ◌&&◌, ◌||◌, ℕ, Bool, true, false, not, List, length, drop, Option, None, Some, Result, Ok, Err, refl, sym, ap, subst, ◌∙◌}
use Rattle.std.specs.Option.{is_some, option_map}
use Rattle.dav_io.specs.Told.{Both}
use Rattle.dav_io.proofs.ToldLemmas.{both_known, both_map, both_same, both_then, told_after, both_and}
use Rattle.dav_io.specs.declared.clock.Moment.{Moment}
use Rattle.dav_core.specs.declared.error.FsError.{FsError}
use Rattle.dav_core.specs.declared.error.FsError.TheVariants as fs
use Rattle.dav_core.specs.declared.handle.DiskError.{DiskError}
use Rattle.dav_core.specs.declared.handle.DiskError.TheVariants.{NotFound, Exists, NotDir, IsDir, NotEmpty, Failed, NoMemory}
use Rattle.dav_core.specs.declared.handle.Handle.{Handle}
use Rattle.dav_core.specs.declared.handle.Meta.{Meta}
use Rattle.dav_core.specs.declared.tree.Kind.TheVariants.{File}
use Rattle.dav_core.specs.declared.tree.Row.{Row}
use Rattle.dav_core.specs.Allowed.{Allowed, moving, opening, taking_file}
use Rattle.dav_core.specs.DavPath.{WebPath}
use Rattle.dav_core.specs.Disk.{DiskState, Live, Metas, OpenedOver, Opens, Refused, at_start, kind_opened}
use Rattle.dav_core.specs.Edits.{Edit, SameOpens}
use Rattle.dav_core.specs.Errors.{fs_error_of}
use Rattle.dav_core.specs.Path.{Names}
use Rattle.dav_core.specs.Tree.{is_dir, is_linked, row_at}
use Rattle.dav_core.specs.World.{OpenFile, SameBesidesOpens, World, bytes_of}
use Rattle.dav_core.specs.Writing.{DoesIn, LeftBy, Renames, RemovesFile, WrittenIn, WroteIn, appends, can_write}
use Rattle.dav_core.proofs.UnchangedLemmas.{put_same, same_besides, same_besides_then}
use Rattle.dav_store.specs.Files.{Spoiled}
use Rattle.dav_store.specs.View.{Listings, View}
use Rattle.dav_walks.specs.Pouring.{Writes, WritesFile}
use Rattle.dav_memory.specs.Memory.{MemoryState}
use Rattle.dav_model.specs.Finding.{is_forbidden, or_walk}
use Rattle.dav_local.specs.declared.entry.LocalFsDirEntry.{LocalFsDirEntry}
use Rattle.dav_local.specs.declared.file.LocalFsFile.{LocalFsFile}
use Rattle.dav_local.specs.declared.gathering.LocalFsReadDir.{LocalFsReadDir}
use Rattle.dav_local.specs.declared.ways.Ways.{Ways}
use Rattle.dav_local.specs.Calls.{AfterMove, AfterNotDir, AsksToMove, AsksToTakeFile, Finds, IsOpening, MovesAgain, MovesAt, Place, blocked_by, is_shut}
use Rattle.dav_local.specs.Files.{done_by, filed}
use Rattle.dav_local.specs.Ways.{is_known, rules_of}
use Rattle.dav_local.specs.Writing.{WritesAll}
use Rattle.dav_local.specs.Writing.WritesAll.{more, nothing, refused}
use Rattle.dav_local.proofs.Rows.{looked_row}
use Rattle.dav_local_laws.proofs.FileWrites.{WrittenFrom, writes_told}
use Rattle.dav_local_laws.specs.LocalStore.{IsLocalStore, place}
use Rattle.dav_upload.specs.Ends.{EndsAs, MakesFile, WritesAt, is_spoiled}
use Rattle.dav_upload.specs.Pieces.{upload_options}
use Rattle.dav_upload.specs.Takes.{TakesUploads}
use Rattle.dav_upload_laws.specs.Written.{finds_as_written}
use Rattle.dav_core.proofs.LeftLemmas.{left_more}

-- ---- what is told

-- ---- where a path is found

pub written_parts : (ways : Ways) → finds_as_written ways ≡ true → (ways.alone ≡ None) × (ways.folds ≡ false)
written_parts ways e = by ways.alone ways.folds refl refl e
  where
    by : (alone : Option Names) (folds : Bool) → ways.alone ≡ alone → ways.folds ≡ folds → (not (is_some alone) && not folds) ≡ true → (ways.alone ≡ None) × (ways.folds ≡ false)
    by None false a f e = (a, f)
    by None true a f e = cc
    by (Some x) folds a f e = cc

known_written : (ways : Ways) → finds_as_written ways ≡ true → is_known ways ≡ true
known_written ways e = let (a, f) = written_parts ways e in ap (λ o. is_some o || not ways.folds) a ∙ ap not f

-- A path is found as it is written with nothing asked, or memory was refused.
abbrev Lost : {T : Type 0} → Place → Result T FsError → Place → Type 0
Lost p r q = (r ≡ Err fs.NoMemory) × (q ≡ p)

pub finds_here : {T : Type 0} (p q : Place) (names : Names) (call : Names → Place → Result T FsError → Place → Type 0) (r : Result T FsError) → finds_as_written p.ways ≡ true → Finds p names call r q
    → call names p r q ⊎ Lost p r q
finds_here p q names call r plain (Ok at, m, resolves, after) =
    let (same, is) = resolves.known (known_written p.ways plain) in
    let found : at ≡ names = is ∙ ap (λ o. or_walk o names) (written_parts p.ways plain).0 in
    inl (subst (λ k. call names k r q) same (subst (λ z. call z m r q) found after))
finds_here p q names call r plain (Err e, m, resolves, (is, ends)) =
    let none : e ≡ fs.NoMemory = (let starved = resolves.starved (known_written p.ways plain) in cc) in
    inr (is ∙ ap Err none, ends ∙ (resolves.known (known_written p.ways plain)).0)

-- ---- what a call ends with

left_all : (b : Bool) (allowed : Allowed) (v w : World) → SameBesidesOpens v w → LeftBy b allowed v w
left_all true (Ok (Some e)) v w same = inl same
left_all true (Ok None) v w same = same
left_all true (Err d) v w same = same
left_all false (Ok (Some e)) v w same = same
left_all false (Ok None) v w same = same
left_all false (Err d) v w same = same

-- where the tree calls for the refusal
left_none : (may b : Bool) (d : DiskError) (allowed : Allowed) (v w : World) → allowed ≡ Err d → LeftBy may allowed v w → LeftBy b allowed v w
left_none may b d allowed v w is left = subst (λ a. LeftBy b a v w) (sym is) (left_all b (Err d) v w (same may (subst (λ a. LeftBy may a v w) is left)))
  where
    same : (may : Bool) → LeftBy may (Err d) v w → SameBesidesOpens v w
    same true left = left
    same false left = left

done_ends : (may : Bool) (allowed : Allowed) (answer : Result Unit DiskError) (v w : World) → DoesIn may allowed answer v w → EndsAs allowed (done_by answer) v w
done_ends may allowed (Ok x) v w done = done
done_ends may allowed (Err Failed) v w (why, left) = left_more may allowed v w left
done_ends may allowed (Err NoMemory) v w (why, left) = left_more may allowed v w left
done_ends may allowed (Err NotFound) v w (why, left) = left_none may (is_spoiled (fs_error_of NotFound)) NotFound allowed v w why left
done_ends may allowed (Err Exists) v w (why, left) = left_none may (is_spoiled (fs_error_of Exists)) Exists allowed v w why left
done_ends may allowed (Err NotDir) v w (why, left) = left_none may (is_spoiled (fs_error_of NotDir)) NotDir allowed v w why left
done_ends may allowed (Err IsDir) v w (why, left) = left_none may (is_spoiled (fs_error_of IsDir)) IsDir allowed v w why left
done_ends may allowed (Err NotEmpty) v w (why, left) = left_none may (is_spoiled (fs_error_of NotEmpty)) NotEmpty allowed v w why left

-- ---- what a write leaves open

abbrev StaysHere : ℕ → World → World → Type 0
StaysHere h v w = (o : OpenFile) → v.opens h ≡ Some o → (now : OpenFile) × (w.opens h ≡ Some now) × (now.number ≡ o.number)

wrote_here : (append : Bool) (h : ℕ) (piece : List ℕ) (n : ℕ) (v w : World) → WroteIn append h piece n v w → StaysHere h v w
wrote_here append h piece n v w (p, there, some, within, edited, opens, listings) o at =
    let same : p ≡ o = (let g : Some p ≡ Some o = sym there ∙ at in cc) in
    (_, ap (λ (f : ℕ → Option OpenFile). f h) opens ∙ put_same h _ v.opens, ap (λ (x : OpenFile). x.number) same)

abbrev MayWrite : Option Live → ℕ → List ℕ → World → World → Type 0
MayWrite l h from v w = (SameBesidesOpens v w × SameOpens v w) ⊎ ((can_write l ≡ true) × (n : ℕ) × WroteIn (appends l) h from n v w)

may_here : (l : Option Live) (h : ℕ) (piece : List ℕ) (v w : World) → MayWrite l h piece v w → StaysHere h v w
may_here l h piece v w (inl (same, opens)) o at = (o, ap (λ (f : ℕ → Option OpenFile). f h) opens.opens ∙ at, refl)
may_here l h piece v w (inr (can, n, wrote)) o at = wrote_here (appends l) h piece n v w wrote o at

write_here : (l : Option Live) (h : ℕ) (piece : List ℕ) (r : Result ℕ DiskError) (v w : World) → WrittenIn l h piece r v w → StaysHere h v w
write_here l h piece (Ok n) v w (can, wrote) = wrote_here (appends l) h piece n v w wrote
write_here l h piece (Err IsDir) v w (can, same, opens) = may_here l h piece v w (inl (same, opens))
write_here l h piece (Err other) v w left = may_here l h piece v w left

here_then : (h : ℕ) (u v w : World) → StaysHere h u v → StaysHere h v w → StaysHere h u w
here_then h u v w first then o at =
    let (p, there, number) = first o at in
    let (q, end, same) = then p there in
    (q, end, same ∙ number)

writes_here : (h : ℕ) (s : DiskState) (from : List ℕ) (r : Result Unit FsError) (t : DiskState) → WritesAll h s from r t → Both s.told t.told (StaysHere h)
writes_here h s from r t (nothing a) = both_same a.told a.told (StaysHere h) (λ w o at. (o, at, refl)) refl
writes_here h s from r t (refused a b xs piece e chunk some writes) =
    both_map a.told b.told (WrittenIn (a.live h) h piece (Err e)) (StaysHere h) (write_here (a.live h) h piece (Err e)) writes.told
writes_here h s from r t (more a m b xs piece n result chunk writes rest) =
    both_then a.told m.told b.told (WrittenIn (a.live h) h piece (Ok n)) (StaysHere h) (StaysHere h)
    (λ u v w wrote then. here_then h u v w (write_here (a.live h) h piece (Ok n) u v wrote) then) writes.told (writes_here h m (drop n xs) result b rest)

written_at : (h : ℕ) (bytes : List ℕ) (r : Result Unit FsError) (v w : World) → WrittenFrom h bytes r v w → StaysHere h v w → (o : OpenFile) → v.opens h ≡ Some o → o.place ≤ length (bytes_of v o.number) → WritesAt h bytes r o v w
written_at h bytes (Ok x) v w wrote stays o at le = wrote o at le
written_at h bytes (Err e) v w wrote stays o at le =
    let (n, edited) = wrote o at le in
    let (now, there, number) = stays o at in
    (n, now, edited, there, number)

module _ {S C : Type 0} (view : View S C LocalFsFile) (lists : Listings S C LocalFsReadDir LocalFsDirEntry) (writes : Writes LocalFsFile) (c : C) (ways : S → Ways) (memory : S → MemoryState) (moment : S → Moment)
    (local : IsLocalStore view lists writes ways memory moment) where
  abbrev at : S → Place
  at s = place view lists writes ways memory moment s

  abbrev Told : S → S → (World → World → Type 0) → Type 0
  Told s t P = Both (view.state s).told (view.state t).told P

  abbrev plain : S → Type 0
  plain s = finds_as_written (ways s) ≡ true

  -- nothing was asked
  unasked : (m n : S) (P : World → World → Type 0) → at n ≡ at m → ((w : World) → P w w) → Told m n P
  unasked m n P same h = both_same (view.state m).told (view.state n).told P h (ap (λ (x : Place). x.disk.told) same)

  still : (m n : S) → ways n ≡ ways m → plain m → plain n
  still m n same p = ap finds_as_written same ∙ p

  -- ---- an opening

  opened_at : (path : WebPath) (h : Handle) (t : DiskState) (v w : World) → OpenedOver path.names upload_options (Ok h) (kind_opened (Ok h) t) v w → is_linked v.tree path.names ≡ false
      → MakesFile view.file.handle t.live path.names (filed (Ok h)) v w
  opened_at path h t v w (number, opens, listings, held, rows) clear =
      let (edit, row, allowed, edited, there, numbered, of) = rows clear in
      let own : view.file.handle (record { handle = h }) ≡ h.0 = local.handle (record { handle = h }) in (
        edit,
        row,
        allowed,
        edited,
        there,
        ap w.opens own ∙ (ap (λ (f : ℕ → Option OpenFile). f h.0) opens ∙ (put_same h.0 (Some (at_start number)) v.opens ∙ ap (λ k. Some (at_start k)) (sym numbered))),
        λ l is. (let at : t.live h.0 ≡ Some l = ap t.live (sym own) ∙ is in
            let both : Some l.kind ≡ Some row.kind = sym (ap (option_map (λ (x : Live). x.kind)) at) ∙ of in
            cc),
      )

  abbrev Made : (ℕ → Option Live) → WebPath → Result LocalFsFile FsError → World → World → Type 0
  Made live path r v w = is_linked v.tree path.names ≡ false → MakesFile view.file.handle live path.names r v w

  opened_told : (path : WebPath) (answer : Result Handle DiskError) (s t : DiskState) → Opens s path.names upload_options answer t → Both s.told t.told (Made t.live path (filed answer))
  opened_told path (Ok h) s t opens = both_map s.told t.told _ (Made t.live path (filed (Ok h))) (λ v w over clear. opened_at path h t v w over clear) opens.told
  opened_told path (Err d) s t opens = both_map s.told t.told _ (Made t.live path (filed (Err d))) (λ v w over clear. (over.1 clear).0) opens.told

  makes_told : (m n : S) (path : WebPath) (r : Result LocalFsFile FsError) → plain m → view.opens m c path upload_options r n → Told m n (Made (view.state n).live path r)
  makes_told m n path r p h = by (is_shut (ways m) path) refl
    where
      run : IsOpening (at m) path upload_options r (at n)
      run = (local.opens m n c path upload_options r h).0

      lost : (e : FsError) → r ≡ Err e → at n ≡ at m → Told m n (Made (view.state n).live path r)
      lost e is same = subst (λ z. Told m n (Made (view.state n).live path z)) (sym is) (unasked m n (Made (view.state n).live path (Err e)) same (λ w clear. same_besides w))

      by : (b : Bool) → is_shut (ways m) path ≡ b → Told m n (Made (view.state n).live path r)
      by true e = let (is, same) = run.forbidden e in lost fs.Forbidden is same
      by false e = elim (finds_here (at m) (at n) path.names _ r p (run.asked e)) [
        | inl (answer, t, opens, is, ends) ↦
            let same : t ≡ view.state n = sym (ap (λ (x : Place). x.disk) ends) in
            subst (λ z. Told m n (Made (view.state n).live path z)) (sym is) (subst (λ (d : DiskState). Both (view.state m).told d.told (Made d.live path (filed answer))) same (opened_told path answer (view.state m) t opens))
        | inr (none, same) ↦ lost fs.NoMemory none same
      ]

  -- a hidden file that may be made isn't refused but for a fault or want of memory
  pub local_opens_only : (m n : S) (path : WebPath) (e : FsError) → plain m → is_shut (ways m) path ≡ false → view.opens m c path upload_options (Err e) n → (v : World) → (view.state m).told ≡ Some v
      → is_linked v.tree path.names ≡ false → (edit : Option Edit) → opening v.tree path.names upload_options ≡ Ok edit → Spoiled {T = LocalFsFile} (view.state m) (Err e) (view.state n)
  local_opens_only m n path e p shut h v was clear edit allowed = elim (finds_here (at m) (at n) path.names _ (Err e) p ((local.opens m n c path upload_options (Err e) h).0.asked shut)) [
    | inl (answer, t, opens, is, ends) ↦
        let same : t ≡ view.state n = sym (ap (λ (x : Place). x.disk) ends) in
        subst (λ (d : DiskState). Spoiled {T = LocalFsFile} (view.state m) (Err e) d) same (by answer t opens is)
    | inr (none, same) ↦ inr none
  ]
    where
      called : (d : DiskError) (t : DiskState) → Opens (view.state m) path.names upload_options (Err d) t → Refused d (opening v.tree path.names upload_options)
      called d t opens = let (w, here, over) = told_after (view.state m).told t.told _ v opens.told was in (over.1 clear).1

      never_allowed : (d : DiskError) (t : DiskState) → opening v.tree path.names upload_options ≡ Err d → Spoiled {T = LocalFsFile} (view.state m) (Err e) t
      never_allowed d t is = let f : Ok edit ≡ Err d = sym allowed ∙ is in cc

      by_error : (d : DiskError) (t : DiskState) → Opens (view.state m) path.names upload_options (Err d) t → ◌≡◌ {A = Result LocalFsFile FsError} (Err e) (Err (fs_error_of d)) → Spoiled {T = LocalFsFile} (view.state m) (Err e) t
      by_error Failed t opens is = inl (is, opens.asks.rose refl)
      by_error NoMemory t opens is = inr is
      by_error NotFound t opens is = never_allowed NotFound t (called NotFound t opens)
      by_error Exists t opens is = never_allowed Exists t (called Exists t opens)
      by_error NotDir t opens is = never_allowed NotDir t (called NotDir t opens)
      by_error IsDir t opens is = never_allowed IsDir t (called IsDir t opens)
      by_error NotEmpty t opens is = never_allowed NotEmpty t (called NotEmpty t opens)

      by : (answer : Result Handle DiskError) (t : DiskState) → Opens (view.state m) path.names upload_options answer t → Err e ≡ filed answer → Spoiled {T = LocalFsFile} (view.state m) (Err e) t
      by (Ok f) t opens is = cc
      by (Err d) t opens is = by_error d t opens is

  -- ---- a removal

  abbrev Took : WebPath → Result Unit FsError → World → World → Type 0
  Took path r v w = is_linked v.tree path.names ≡ false → EndsAs (taking_file v.tree path.names) r v w

  takes_told : (m n : S) (path : WebPath) (r : Result Unit FsError) → plain m → view.removes_file m c path r n → Told m n (Took path r)
  takes_told m n path r p h = by (is_shut (ways m) path) refl
    where
      run : AsksToTakeFile (at m) path r (at n)
      run = (local.removes_file m n c path r h).0

      lost : (e : FsError) → r ≡ Err e → at n ≡ at m → Told m n (Took path r)
      lost e is same = subst (λ z. Told m n (Took path z)) (sym is) (unasked m n (Took path (Err e)) same (λ w clear. left_all (is_spoiled e) (taking_file w.tree path.names) w w (same_besides w)))

      taken : (answer : Result Unit DiskError) (t : DiskState) → RemovesFile (view.state m) path.names answer t → Both (view.state m).told t.told (Took path (done_by answer))
      taken answer t does =
          both_map (view.state m).told t.told _ (Took path (done_by answer)) (λ v w done clear. done_ends false (taking_file v.tree path.names) answer v w (done clear)) does.told

      by : (b : Bool) → is_shut (ways m) path ≡ b → Told m n (Took path r)
      by true e = let (is, same) = run.forbidden e in lost fs.Forbidden is same
      by false e = elim (finds_here (at m) (at n) path.names _ r p (run.asked e)) [
        | inl (answer, t, does, is, ends) ↦
            let same : t ≡ view.state n = sym (ap (λ (x : Place). x.disk) ends) in
            subst (λ z. Told m n (Took path z)) (sym is) (subst (λ (d : DiskState). Both (view.state m).told d.told (Took path (done_by answer))) same (taken answer t does))
        | inr (none, same) ↦ lost fs.NoMemory none same
      ]

  -- ---- a move of a file

  abbrev Went : WebPath → WebPath → Result Unit FsError → World → World → Type 0
  Went from to r v w = is_linked v.tree from.names ≡ false → is_linked v.tree to.names ≡ false → (row : Row) → row_at v.tree from.names ≡ Some row → row.kind ≡ File
      → EndsAs (moving v.tree from.names to.names) r v w

  abbrev Renamed : Names → Names → Result Unit DiskError → World → World → Type 0
  Renamed from to answer v w = is_linked v.tree from ≡ false → is_linked v.tree to ≡ false → DoesIn true (moving v.tree from to) answer v w

  renamed_went : (from to : WebPath) (answer : Result Unit DiskError) (v w : World) → Renamed from.names to.names answer v w → Went from to (done_by answer) v w
  renamed_went from to answer v w does clear free row there kind = done_ends true (moving v.tree from.names to.names) answer v w (does clear free)

  -- no file is found to be a directory
  abbrev NoDir : Names → World → World → Type 0
  NoDir from v w = is_linked v.tree from ≡ false → (row : Row) → row_at v.tree from ≡ Some row → row.kind ≡ File → ⊥

  dir_looked : (from : Names) (meta : Meta) (s t : DiskState) (v : World) → Metas s from (Ok meta) t → is_dir meta.kind ≡ true → s.told ≡ Some v → NoDir from v v
  dir_looked from meta s t v metas dir told clear row there kind =
      let (found, stands, of) = metas.told v told clear in
      let same : found ≡ row = (let g : Some found ≡ Some row = sym (looked_row v.tree from found stands) ∙ there in cc) in
      let file : meta.kind ≡ File = of.kind ∙ (ap (λ (x : Row). x.kind) same ∙ kind) in
      let never : false ≡ true = sym (ap is_dir file) ∙ dir in cc

  module _ (m n : S) (from to : WebPath) (r : Result Unit FsError) where
    refused_file : (v u : World) → Renamed from.names to.names (Err NotDir) v u → is_linked v.tree from.names ≡ false → is_linked v.tree to.names ≡ false → SameBesidesOpens v u
    refused_file v u does clear free = let (is, left) = does clear free in subst (λ a. LeftBy true a v u) is left

    went_same : (v w : World) → SameBesidesOpens v w → (e : FsError) → r ≡ Err e → EndsAs (moving v.tree from.names to.names) r v w
    went_same v w same e is = subst (λ z. EndsAs (moving v.tree from.names to.names) z v w) (sym is) (left_all (is_spoiled e) (moving v.tree from.names to.names) v w same)

    -- what follows a first move that was refused, over the world that it left
    abbrev After : World → World → Type 0
    After u w = is_linked u.tree from.names ≡ false → (row : Row) → row_at u.tree from.names ≡ Some row → row.kind ≡ File → SameBesidesOpens u w × (e : FsError) × (r ≡ Err e)

    after_found : (dir : Bool) (meta : Meta) (k j t : DiskState) → Metas k from.names (Ok meta) j → is_dir meta.kind ≡ dir → MovesAgain dir from.names to.names j r t → Both k.told t.told After
    after_found false meta k j t metas dir (is, same) =
        both_same k.told t.told After (λ w clear row there kind. (same_besides w, fs.Forbidden, is)) (ap (λ (d : DiskState). d.told) same ∙ metas.world)
    after_found true meta k j t metas dir (removal, i, removes, again, renames, is) =
        both_known k.told t.told (λ v w. Unit) After (λ v w told x clear row there kind. absurd (dir_looked from.names meta k j v metas dir told clear row there kind))
        (subst (λ told. Both told t.told (λ v w. Unit)) metas.world
        (both_then j.told i.told t.told _ _ (λ v w. Unit) (λ a b d x y. tt) removes.told renames.told))

    after_refused : (look_says : Result Meta DiskError) (k j t : DiskState) → Metas k from.names look_says j → AfterNotDir look_says from.names to.names j r t → Both k.told t.told After
    after_refused (Ok meta) k j t metas after = after_found (is_dir meta.kind) meta k j t metas refl after
    after_refused (Err e) k j t metas (is, same) =
        both_same k.told t.told After (λ w clear row there kind. (same_besides w, blocked_by e, is)) (ap (λ (d : DiskState). d.told) same ∙ metas.world)

    then_went : (v u w : World) → Renamed from.names to.names (Err NotDir) v u → After u w → Went from to r v w
    then_went v u w does after clear free row there kind =
        let same = refused_file v u does clear free in
        let (rest, e, is) = after (ap (λ t. is_linked t from.names) same.tree ∙ clear) row (ap (λ t. row_at t from.names) same.tree ∙ there) kind in
        went_same v w (same_besides_then v u w same rest) e is

    went_once : (answer : Result Unit DiskError) (k t : DiskState) → Renames (view.state m) from.names to.names answer k → r ≡ done_by answer → t ≡ k → Both (view.state m).told t.told (Went from to r)
    went_once answer k t renames is same =
        subst (λ z. Both (view.state m).told t.told (Went from to z)) (sym is)
        (subst (λ (d : DiskState). Both (view.state m).told d.told (Went from to (done_by answer))) (sym same)
        (both_map (view.state m).told k.told _ (Went from to (done_by answer)) (renamed_went from to answer) renames.told))

    went_by : (answer : Result Unit DiskError) (k t : DiskState) → Renames (view.state m) from.names to.names answer k → AfterMove answer from.names to.names k r t → Both (view.state m).told t.told (Went from to r)
    went_by (Ok x) k t renames (is, same) = went_once (Ok x) k t renames is same
    went_by (Err NotDir) k t renames (look_says, j, metas, again) =
        both_then (view.state m).told k.told t.told (Renamed from.names to.names (Err NotDir)) After (Went from to r) then_went renames.told
        (after_refused look_says k j t metas again)
    went_by (Err NotFound) k t renames (is, same) = went_once (Err NotFound) k t renames is same
    went_by (Err Exists) k t renames (is, same) = went_once (Err Exists) k t renames is same
    went_by (Err IsDir) k t renames (is, same) = went_once (Err IsDir) k t renames is same
    went_by (Err NotEmpty) k t renames (is, same) = went_once (Err NotEmpty) k t renames is same
    went_by (Err Failed) k t renames (is, same) = went_once (Err Failed) k t renames is same
    went_by (Err NoMemory) k t renames (is, same) = went_once (Err NoMemory) k t renames is same

    lost_move : (e : FsError) → r ≡ Err e → at n ≡ at m → Told m n (Went from to r)
    lost_move e is same = unasked m n (Went from to r) same (λ w clear free row there kind. went_same w w (same_besides w) e is)

    moves_told : plain m → view.renames m c from to r n → Told m n (Went from to r)
    moves_told p h = by (is_forbidden (rules_of (ways m)) from || is_forbidden (rules_of (ways m)) to) refl
      where
        run : AsksToMove (at m) from to r (at n)
        run = (local.renames m n c from to r h).0

        moved : MovesAt from.names to.names (at m) r (at n) → Told m n (Went from to r)
        moved (answer, k, renames, t, after, ends) =
            let same : t ≡ view.state n = sym (ap (λ (x : Place). x.disk) ends) in
            subst (λ (d : DiskState). Both (view.state m).told d.told (Went from to r)) same (went_by answer k t renames after)

        by : (b : Bool) → (is_forbidden (rules_of (ways m)) from || is_forbidden (rules_of (ways m)) to) ≡ b → Told m n (Went from to r)
        by true e = let (is, same) = run.forbidden e in lost_move fs.Forbidden is same
        by false e = elim (finds_here (at m) (at n) from.names _ r p (run.asked e)) [
          | inl finds ↦ elim (finds_here (at m) (at n) to.names _ r p finds) [
            | inl moves ↦ moved moves
            | inr (none, same) ↦ lost_move fs.NoMemory none same
          ]
          | inr (none, same) ↦ lost_move fs.NoMemory none same
        ]

  -- ---- a piece

  writes_at : (m n : S) (f g : LocalFsFile) (bytes : List ℕ) (r : Result Unit FsError) → WritesFile view writes m f bytes r n g → appends ((view.state m).live (view.file.handle f)) ≡ false
      → Told m n (λ v w. (o : OpenFile) → v.opens (view.file.handle f) ≡ Some o → o.place ≤ length (bytes_of v o.number) → WritesAt (view.file.handle f) bytes r o v w)
  writes_at m n f g bytes r h end =
      let (all, same) = local.writes_file f g (view.state m) (view.state n) bytes r h.done in
      let own = local.handle f in
      subst (λ k. Both (view.state m).told (view.state n).told (λ v w. (o : OpenFile) → v.opens k ≡ Some o → o.place ≤ length (bytes_of v o.number) → WritesAt k bytes r o v w)) (sym own)
      (both_map (view.state m).told (view.state n).told _ _ (λ v w (wrote, stays) o there le. written_at f.handle.0 bytes r v w wrote stays o there le)
      (both_and (view.state m).told (view.state n).told (WrittenFrom f.handle.0 bytes r) (StaysHere f.handle.0)
      (writes_told f.handle.0 (view.state m) bytes r (view.state n) all (ap (λ k. appends ((view.state m).live k)) (sym own) ∙ end))
      (writes_here f.handle.0 (view.state m) bytes r (view.state n) all)))

  pub local_takes : TakesUploads view writes c (λ s. finds_as_written (ways s))
  local_takes = record {
    worlds = local.worlds;
    lends = λ m n p lent. still m n (ap (λ (x : Place). x.ways) (local.lends m n lent)) p;
    looks = λ m n path r p h. still m n (local.looks m n c path r h).1 p;
    opens = λ m n path r p h. (still m n (local.opens m n c path upload_options r h).1 p, makes_told m n path r p h);
    removes = λ m n path r p h. (still m n (local.removes_file m n c path r h).1 p, takes_told m n path r p h);
    moves = λ m n from to r p h. (still m n (local.renames m n c from to r h).1 p, moves_told m n from to r p h);
    writes_file = λ m n f g bytes r h end. writes_at m n f g bytes r h end;
  }
