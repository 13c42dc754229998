-- What a local store shows over a told disk is what the rules show where its path is found.
use Rattle.std.proofs.Common.{◌≡◌, ◌==◌, ◌⊎◌, inl, inr, ℕ, Bool, true, false, List, [], ◌∷◌, Option, None, Some, Result, Ok, Err, refl, sym, ap, subst, ◌∙◌}
use Rattle.std.proofs.lemmas.Bool.{or_right, or_left, eq-eqb}
use Rattle.std.specs.List.{AllByRecursion}
use Rattle.std.specs.Option.{option_map}
use Rattle.dav_io.proofs.ToldLemmas.{told_after}
use Rattle.dav_core.specs.declared.handle.DiskError.{DiskError}
use Rattle.dav_core.specs.declared.handle.DiskError.TheVariants.{NotFound, NotDir, IsDir, Exists, NotEmpty, Failed, NoMemory}
use Rattle.dav_core.specs.declared.handle.Handle.{Handle}
use Rattle.dav_core.specs.declared.handle.Meta.{Meta}
use Rattle.dav_core.specs.declared.tree.Kind.{Kind}
use Rattle.dav_core.specs.declared.tree.Kind.TheVariants.{Dir, File, Link}
use Rattle.dav_core.specs.declared.tree.Row.{Row}
use Rattle.dav_core.specs.Disk.{Asks, DiskState, IsMetaOf, Live, MetaIn, Metas, OpenedIn, Opens, Refused, at_start, kind_at, kind_opened, with_opens}
use Rattle.dav_core.specs.Errors.{fs_error_of}
use Rattle.dav_core.specs.Info.{Info, info_of, known}
use Rattle.dav_core.specs.Writing.{reading}
use Rattle.dav_core.specs.Path.{Names}
use Rattle.dav_core.specs.Tree.{is_linked, look}
use Rattle.dav_core.specs.Unchanged.{SameBesidesOpens}
use Rattle.dav_core.specs.World.{IsWorld, Stored, World, bytes_of, bytes_or_none, is_numbered, put, time_of}
use Rattle.dav_core.proofs.UnchangedLemmas.{put_same}
use Rattle.dav_store.specs.Files.{Spoiled}
use Rattle.dav_store.specs.Shows.{IsThere, LooksThere, OpensThere}
use Rattle.dav_store.specs.Standing.{Agrees, Standing}
use Rattle.dav_local.specs.declared.file.LocalFsFile.{LocalFsFile}
use Rattle.dav_local.specs.Files.{filed, looked_as, seen_by}
use Rattle.dav_local.specs.Standing.{found, seen_in, seen_with, standing_as, standing_of, under_slash}
use Rattle.dav_core.proofs.LookLemmas.{look_all, stored_time}
use Rattle.dav_core.proofs.Rows.{file_kind}

-- a refusal that the tree calls for, or a fault or want of memory
refused : {T U V : Type 0} (e : DiskError) (stands : Result U DiskError) (answer : Result T DiskError) (s t : DiskState) → Refused e stands → answer ≡ Err e → Asks answer s t
    → (stands ≡ Err e) ⊎ Spoiled {T = V} s (Err (fs_error_of e)) t
refused NotFound stands answer s t r is asks = inl r
refused NotDir stands answer s t r is asks = inl r
refused IsDir stands answer s t r is asks = inl r
refused Exists stands answer s t r is asks = inl r
refused NotEmpty stands answer s t r is asks = inl r
refused Failed stands answer s t r is asks = inr (inl (refl, asks.rose is))
refused NoMemory stands answer s t r is asks = inr (inr refl)

agrees : (m : Meta) (w : World) (row : Row) → IsMetaOf w row m → Agrees (info_of m) (standing_of w row)
agrees m w row is = record {
  kind = is.kind;
  len = is.len;
  modified = ap known is.modified;
  tag = rw (is.kind, is.number, is.len, is.modified) refl;
}

-- a final slash forbids both, or neither
under_one : (slash : Bool) (kind : Kind) (info : Info) (there : Standing) → Agrees info there → LooksThere (under_slash slash kind there) (under_slash slash kind info)
under_one false kind info there is = is
under_one true Dir info there is = is
under_one true File info there is = refl
under_one true Link info there is = refl

under_kinds : (slash : Bool) (kind other : Kind) (info : Info) (there : Standing) → other ≡ kind → Agrees info there → LooksThere (under_slash slash kind there) (under_slash slash other info)
under_kinds slash kind other info there e is = rw e (under_one slash kind info there is)

looks_in : (w : World) (at : Names) (slash : Bool) (answer : Result Meta DiskError) (s t : DiskState) → MetaIn at answer w → Asks answer s t
    → LooksThere (found w slash (look w.tree at)) (looked_as slash answer) ⊎ Spoiled s (looked_as slash answer) t
looks_in w at slash (Ok m) s t (row, stands, is) asks = inl (rw stands (under_kinds slash row.kind m.kind (info_of m) (standing_of w row) is.kind (agrees m w row is)))
looks_in w at slash (Err e) s t r asks = elim (refused {V = Info} e (look w.tree at) (Err e) s t r refl asks) [ inl f ↦ inl (rw f refl) | inr x ↦ inr x ]

-- a file at this place is stored with its row's time
abbrev StoredAt : World → Names → Type 0
StoredAt w at = (row : Row) → look w.tree at ≡ Ok row → row.kind ≡ File → time_of w row.number ≡ Some row.time

is_there : (w : World) (path : Names) (row : Row) → StoredAt w path → look w.tree path ≡ Ok row → IsThere (standing_of w row) (seen_in w row.kind (at_start row.number))
is_there w path row stored stands = record {
  number = refl;
  kind = refl;
  place = refl;
  file = λ file. ap (λ time. record { stands = standing_as row.kind row.number time (bytes_of w row.number); place = 0 }) (stored row stands (file_kind row.kind file));
}

-- what a handle shows after an opening
seen_opened : (w v : World) (h number : ℕ) (live : Option Live) (kind : Kind) → v ≡ with_opens w (put h (Some (at_start number)) w.opens) → option_map (λ l. l.kind) live ≡ Some kind
    → seen_with (Some v) live h ≡ Some (seen_in w kind (at_start number))
seen_opened w v h number None kind e k = cc
seen_opened w v h number (Some l) kind e k =
    let same : l.kind ≡ kind = cc in
    rw (e, put_same h (Some (at_start number)) w.opens) (ap (λ x. Some (seen_in w x (at_start number))) same)

opened_row : (w v : World) (at : Names) (h : Handle) (t : DiskState) (row : Row) (number : ℕ) → StoredAt w at → t.told ≡ Some v
    → v ≡ with_opens w (put h.0 (Some (at_start number)) w.opens) → look w.tree at ≡ Ok row → row.number ≡ number → kind_at t h.0 ≡ Some row.kind
    → OpensThere seen_by (found w false (look w.tree at)) (Ok (record { handle = h })) t
opened_row w v at h t row number is now e stands same kind =
    rw stands (
      seen_in w row.kind (at_start row.number),
      ap (λ told. seen_with told (t.live h.0) h.0) now ∙ seen_opened w v h.0 number (t.live h.0) row.kind e kind ∙ ap (λ n. Some (seen_in w row.kind (at_start n))) (sym same),
      is_there w at row is stands,
    )

opens_in : (w : World) (at : Names) (answer : Result Handle DiskError) (s t : DiskState) → StoredAt w at → s.told ≡ Some w → is_linked w.tree at ≡ false
    → Opens s at reading answer t → OpensThere seen_by (found w false (look w.tree at)) (filed answer) t ⊎ Spoiled s (filed answer) t
opens_in w at (Ok h) s t is told clear opens =
    let (v, now, listed) = told_after s.told t.told (OpenedIn at (Ok h) (kind_opened (Ok h) t)) w opens.told told in
    let (row, stands, same, kind) = listed.3 clear in
    inl (opened_row w v at h t row listed.0 is now listed.1 stands same kind)
opens_in w at (Err e) s t is told clear opens =
    let (v, now, listed) = told_after s.told t.told (OpenedIn at (Err e) (kind_opened (Err e) t)) w opens.told told in
    elim (refused {V = LocalFsFile} e (look w.tree at) (Err e) s t (listed.1 clear) refl opens.asks) [ inl f ↦ inl (rw f refl) | inr x ↦ inr x ]

-- ---- a world in which others are open shows the same

pub each_numbered : (tree rows : List Row) → ((n : ℕ) → is_numbered rows n ≡ true → is_numbered tree n ≡ true) → AllByRecursion (λ (r : Row). is_numbered tree r.number ≡ true) rows
each_numbered tree [] up = tt
each_numbered tree (r ∷ rows) up = (
  up r.number (or_left (r.number == r.number) (is_numbered rows r.number) (eq-eqb r.number r.number refl)),
  each_numbered tree rows (λ n e. up n (or_right (n == r.number) (is_numbered rows n) e)),
)

pub found_numbered : (tree : List Row) (path : Names) (row : Row) → look tree path ≡ Ok row → is_numbered tree row.number ≡ true
found_numbered tree path row e = look_all (λ r. is_numbered tree r.number ≡ true) tree path row (each_numbered tree tree (λ n e. e)) e

same_row : (w v : World) (slash : Bool) (at : Names) (stands : Result Row DiskError) → SameBesidesOpens w v → look v.tree at ≡ stands → found v slash stands ≡ found w slash stands
same_row w v slash at (Err e) same is = refl
same_row w v slash at (Ok row) same is =
    ap (λ bytes. under_slash slash row.kind (standing_as row.kind row.number (Some row.time) bytes))
    (ap bytes_or_none (same.files row.number (inl (found_numbered v.tree at row is))).1)

pub same_found : (w v : World) (slash : Bool) (at : Names) → SameBesidesOpens w v → found v slash (look v.tree at) ≡ found w slash (look w.tree at)
same_found w v slash at same = same_row w v slash at (look v.tree at) same refl ∙ ap (λ rows. found w slash (look rows at)) same.tree

-- a look at a place, after what left the world
pub looks_there : (w v : World) (at : Names) (slash : Bool) (answer : Result Meta DiskError) (s t : DiskState) → SameBesidesOpens w v → s.told ≡ Some v → is_linked w.tree at ≡ false
    → Metas s at answer t → LooksThere (found w slash (look w.tree at)) (looked_as slash answer) ⊎ Spoiled s (looked_as slash answer) t
looks_there w v at slash answer s t same told clear metas =
    subst (λ there. LooksThere there (looked_as slash answer) ⊎ Spoiled s (looked_as slash answer) t) (same_found w v slash at same)
    (looks_in v at slash answer s t (metas.told v told (ap (λ rows. is_linked rows at) same.tree ∙ clear)) metas.asks)

stored_still : (w v : World) (at : Names) → IsWorld w → SameBesidesOpens w v → StoredAt v at
stored_still w v at is same row stands file =
    ap (option_map (λ (s : Stored). s.time)) (same.files row.number (inl (found_numbered v.tree at row stands))).1
    ∙ stored_time w at row is (ap (λ rows. look rows at) (sym same.tree) ∙ stands) file

pub opens_there : (w v : World) (at : Names) (answer : Result Handle DiskError) (s t : DiskState) → IsWorld w → SameBesidesOpens w v → s.told ≡ Some v → is_linked w.tree at ≡ false
    → Opens s at reading answer t → OpensThere seen_by (found w false (look w.tree at)) (filed answer) t ⊎ Spoiled s (filed answer) t
opens_there w v at answer s t is same told clear opens =
    subst (λ there. OpensThere seen_by there (filed answer) t ⊎ Spoiled s (filed answer) t) (same_found w v false at same)
    (opens_in v at answer s t (stored_still w v at is same) told (ap (λ rows. is_linked rows at) same.tree ∙ clear) opens)
