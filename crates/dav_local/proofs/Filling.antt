-- A batch that is read, and how many answers are to come after it.
use Rattle.std.proofs.Common.{◌≡◌, ◌≤◌, ◌<◌, ◌+◌, ◌-◌, ◌||◌, ◌⊎◌, inl, inr, ℕ, zero, suc, Bool, true, false, List, [], ◌∷◌, ◌++◌, length, Option, None, Some, IsSome, Result, Ok, Err, refl, sym, ap, subst, ◌∙◌, arith}
use Rattle.std.specs.Option.{is_some}
use Rattle.std.proofs.lemmas.List.{length-append}
use Rattle.dav_core.specs.declared.error.FsError.{FsError}
use Rattle.dav_core.specs.declared.error.FsError.TheVariants as fs
use Rattle.dav_core.specs.declared.handle.DiskError.TheVariants.{NotFound, NotDir, IsDir, Exists, NotEmpty, Failed, NoMemory}
use Rattle.dav_core.specs.Disk.{DiskState}
use Rattle.dav_core.specs.Listing.{ListsOn}
use Rattle.dav_core.specs.Path.{Names}
use Rattle.dav_core.specs.Unchanged.{Keeps}
use Rattle.dav_core.proofs.UnchangedLemmas.{keeps_same, put_same}
use Rattle.dav_store.specs.declared.entry.ReadDirMeta.{ReadDirMeta}
use Rattle.dav_store.specs.declared.entry.ReadDirMeta.TheVariants.{Data, DataSymlink}
use Rattle.dav_store.specs.declared.entry.ReadDirMeta.TheVariants as wanted
use Rattle.dav_store.specs.Listings.{GoesOn}
use Rattle.dav_store.proofs.Walking.{walk_then}
use Rattle.dav_local.specs.declared.entry.EntryMeta.{EntryMeta}
use Rattle.dav_local.specs.declared.entry.EntryMeta.TheVariants.{Read, At}
use Rattle.dav_local.specs.declared.entry.LocalFsDirEntry.{LocalFsDirEntry}
use Rattle.dav_local.specs.Listing.{Filled, Fills, GivesEntry, IsKnown, ListingState, ReadsOne, Refills, come, is_ended, pending, to_come, with_given}
use Rattle.dav_local.proofs.Keeping.{metas_keep}
use Rattle.dav_local.specs.Listing.Fills.{full, ended, more}

-- ---- one name

reads_kept : (s m t : DiskState) (d e : ListingState) (name : List ℕ) (entry : LocalFsDirEntry) → ListsOn s d.lister.0 (Ok (Some name)) m → GivesEntry name d.path d.wanted m (Ok entry) t → Keeps m t
    → (e ≡ with_given d (Ok entry)) ⊎ (e ≡ with_given d (Err fs.NoMemory)) → ReadsOne s d t e
reads_kept s m t d e name entry on gives keeps (inl is) = (Ok (Some name), m, on, (Ok entry, gives, is))
reads_kept s m t d e name entry on gives keeps (inr is) = (Ok (Some name), m, on, (Err fs.NoMemory, (refl, keeps), is))

-- the same, where the listing is given by its parts, and by those that it has after the call
pub reads_kept_at : (s m t : DiskState) (v d x e : ListingState) (name : List ℕ) (entry : LocalFsDirEntry) → v ≡ d → x ≡ v → ListsOn s v.lister.0 (Ok (Some name)) m → GivesEntry name v.path v.wanted m (Ok entry) t
    → Keeps m t → (e ≡ with_given x (Ok entry)) ⊎ (e ≡ with_given x (Err fs.NoMemory)) → ReadsOne s d t e
reads_kept_at s m t v d x e name entry same stays on gives keeps either =
    reads_kept s m t d e name entry (subst (λ (y : ListingState). ListsOn s y.lister.0 (Ok (Some name)) m) same on)
    (subst (λ (y : ListingState). GivesEntry name y.path y.wanted m (Ok entry) t) same gives) keeps
    (subst (λ (y : ListingState). (e ≡ with_given y (Ok entry)) ⊎ (e ≡ with_given y (Err fs.NoMemory))) (stays ∙ same) either)

-- ---- how many answers are to come

pub none_refused : (d : ListingState) → is_ended d ≡ false → (d.over ≡ false) × (d.refused ≡ None)
none_refused d e = by_over d.over d.refused e
  where
    by_over : (over : Bool) (refused : Option FsError) → (over || is_some refused) ≡ false → (over ≡ false) × (refused ≡ None)
    by_over false None e = (refl, refl)
    by_over false (Some f) e = cc
    by_over true refused e = cc

-- so many before a name is asked for
going : (d : ListingState) (left : Option ℕ) → is_ended d ≡ false → to_come d left ≡ length d.batch + (0 + come false left)
going d left e = let (over, refused) = none_refused d e in rw (over, refused) refl

pending_small : (o : Option FsError) → pending o ≤ 1
pending_small None = omega arith
pending_small (Some fs.NotImplemented) = omega arith
pending_small (Some fs.GeneralFailure) = omega arith
pending_small (Some fs.Exists) = omega arith
pending_small (Some fs.NotFound) = omega arith
pending_small (Some fs.Forbidden) = omega arith
pending_small (Some fs.InsufficientStorage) = omega arith
pending_small (Some fs.LoopDetected) = omega arith
pending_small (Some fs.PathTooLong) = omega arith
pending_small (Some fs.TooLarge) = omega arith
pending_small (Some fs.IsRemote) = omega arith
pending_small (Some fs.NoMemory) = omega arith

-- The entry of a name leaves all as it was.
known_keeps : (meta : EntryMeta) (wanted : ReadDirMeta) (s : DiskState) (path : Names) (t : DiskState) → IsKnown meta wanted s path t → Keeps s t
known_keeps (Read answer) Data s path t (said, metas, is) = metas_keep true s path said t metas
known_keeps (Read answer) DataSymlink s path t (said, metas, is) = metas_keep false s path said t metas
known_keeps (Read answer) wanted.None s path t known = absurd known
known_keeps (At place) Data s path t known = absurd known
known_keeps (At place) DataSymlink s path t known = absurd known
known_keeps (At place) wanted.None s path t (is, same) = subst (λ u. Keeps s u) (sym same) (keeps_same s)

pub given_keeps : (name : List ℕ) (path : Names) (wanted : ReadDirMeta) (s : DiskState) (given : Result LocalFsDirEntry FsError) (t : DiskState) → GivesEntry name path wanted s given t → Keeps s t
given_keeps name path wanted s (Ok entry) t (called, known) = known_keeps entry.meta wanted s (path ++ name ∷ []) t known
given_keeps name path wanted s (Err e) t (is, keeps) = keeps

abbrev Bound : DiskState → ListingState → DiskState → ListingState → Type 0
Bound s d t e = to_come e (t.listers d.lister.0) ≤ to_come d (s.listers d.lister.0)

bound_given : (d : ListingState) (k : ℕ) (given : Result LocalFsDirEntry FsError) → d.over ≡ false → d.refused ≡ None → to_come (with_given d given) (Some k) ≤ length d.batch + suc (suc k)
bound_given d k (Ok entry) over refused =
    let long : length (d.batch ++ entry ∷ []) ≡ length d.batch + 1 = length-append d.batch (entry ∷ []) in
    rw (over, refused) (omega (arith, long))
bound_given d k (Err e) over refused = let small = pending_small (Some e) in rw over (omega (arith, small))

bound_name : (s m t : DiskState) (d e : ListingState) (name : List ℕ) (given : Result LocalFsDirEntry FsError) → is_ended d ≡ false → ListsOn s d.lister.0 (Ok (Some name)) m
    → t.listers ≡ m.listers → e ≡ with_given d given → Bound s d t e
bound_name s m t d e name given open_still on same is =
    let (k, before, after) = on.listers in
    let now : t.listers d.lister.0 ≡ Some k = ap (λ (f : ℕ → Option ℕ). f d.lister.0) (same ∙ after) ∙ put_same d.lister.0 (Some k) s.listers in
    let (over, refused) = none_refused d open_still in
    let first : to_come d (s.listers d.lister.0) ≡ length d.batch + (0 + suc (suc k)) = going d (s.listers d.lister.0) open_still ∙ ap (λ o. length d.batch + (0 + come false o)) before in
    let last : to_come e (t.listers d.lister.0) ≡ to_come (with_given d given) (Some k) = ap (λ x. to_come x (t.listers d.lister.0)) is ∙ ap (to_come (with_given d given)) now in
    let small = bound_given d k given over refused in
    omega (arith, first, last, small)

come_some : (o : Option ℕ) → IsSome o → 1 ≤ come false o
come_some None live = cc
come_some (Some k) live = omega arith

bound_over : (d : ListingState) (left after : Option ℕ) → is_ended d ≡ false → to_come (record d { over = true }) after ≤ to_come d left
bound_over d left after open_still = let (over, refused) = none_refused d open_still in rw (over, refused) (omega arith)

bound_failed : (d : ListingState) (e : FsError) (left after : Option ℕ) → is_ended d ≡ false → IsSome left → to_come (record d { refused = Some e; over = true }) after ≤ to_come d left
bound_failed d e left after open_still live =
    let (over, refused) = none_refused d open_still in
    let some = come_some left live in
    let small = pending_small (Some e) in
    rw (over, refused) (omega (arith, some, small))

bound_starved : (d : ListingState) (left : Option ℕ) → is_ended d ≡ false → to_come (record d { refused = Some fs.NoMemory }) left ≤ to_come d left
bound_starved d left open_still = let (over, refused) = none_refused d open_still in rw (over, refused) (omega arith)

failed_by : (s t : DiskState) (d e : ListingState) (f : FsError) → is_ended d ≡ false → IsSome (s.listers d.lister.0) → e ≡ record d { refused = Some f; over = true } → Bound s d t e
failed_by s t d e f open_still live is = subst (λ x. Bound s d t x) (sym is) (bound_failed d f (s.listers d.lister.0) (t.listers d.lister.0) open_still live)

-- A name that was asked for leaves no more answers to come.
pub read_bound : (s t : DiskState) (d e : ListingState) → is_ended d ≡ false → IsSome (s.listers d.lister.0) → ReadsOne s d t e → Bound s d t e
read_bound s t d e open_still live (Ok (Some name), m, on, (given, gives, is)) = bound_name s m t d e name given open_still on (given_keeps name d.path d.wanted m given t gives).listers is
read_bound s t d e open_still live (Ok None, m, on, (same, is)) = subst (λ x. Bound s d t x) (sym is) (bound_over d (s.listers d.lister.0) (t.listers d.lister.0) open_still)
read_bound s t d e open_still live (Err NoMemory, m, on, (same, is)) =
    let stays : t.listers d.lister.0 ≡ s.listers d.lister.0 = ap (λ (x : DiskState). x.listers d.lister.0) same ∙ ap (λ (f : ℕ → Option ℕ). f d.lister.0) on.listers in
    subst (λ x. Bound s d t x) (sym is) (subst (λ o. to_come (record d { refused = Some fs.NoMemory }) o ≤ to_come d (s.listers d.lister.0)) (sym stays) (bound_starved d (s.listers d.lister.0) open_still))
read_bound s t d e open_still live (Err NotFound, m, on, (same, is)) = failed_by s t d e _ open_still live is
read_bound s t d e open_still live (Err NotDir, m, on, (same, is)) = failed_by s t d e _ open_still live is
read_bound s t d e open_still live (Err IsDir, m, on, (same, is)) = failed_by s t d e _ open_still live is
read_bound s t d e open_still live (Err Exists, m, on, (same, is)) = failed_by s t d e _ open_still live is
read_bound s t d e open_still live (Err NotEmpty, m, on, (same, is)) = failed_by s t d e _ open_still live is
read_bound s t d e open_still live (Err Failed, m, on, (same, is)) = failed_by s t d e _ open_still live is

-- ---- a batch

pub record Filling (s : DiskState) (d : ListingState) (left : ℕ) (t : DiskState) (e : ListingState) : Type 0 where
  pub all : (u : DiskState) (f : ListingState) → Fills left t e u f → Fills 256 s d u f
  pub goes : GoesOn s (Some d.lister.0) t
  pub lister : e.lister ≡ d.lister
  pub bound : to_come e (t.listers d.lister.0) ≤ to_come d (s.listers d.lister.0)

goes_then : (own : Option ℕ) (s m t : DiskState) → GoesOn s own m → GoesOn m own t → GoesOn s own t
goes_then own s m t p q = record { keeps = walk_then own s m t p.keeps q.keeps; live = q.live }

suc_of : (n : ℕ) → 0 < n → n ≡ suc (n - 1)
suc_of zero lt = absurd (omega arith)
suc_of (suc n) lt = omega arith

pub filling_on : (s m t : DiskState) (d e f : ListingState) (left : ℕ) → Filling s d left m e → 0 < left → is_ended e ≡ false → ReadsOne m e t f → GoesOn m (Some e.lister.0) t
    → f.lister ≡ e.lister → Filling s d (left - 1) t f
filling_on s m t d e f left filling some going reads goes lister = record {
  all = λ u g fills. filling.all u g (subst (λ n. Fills n m e u g) (sym (suc_of left some)) (more (left - 1) m t u e f g going reads fills));
  goes = goes_then (Some d.lister.0) s m t filling.goes (subst (λ l. GoesOn m (Some l) t) (ap (λ l. l.0) filling.lister) goes);
  lister = lister ∙ filling.lister;
  bound =
      (let own : e.lister.0 ≡ d.lister.0 = ap (λ l. l.0) filling.lister in
      let one = read_bound m t e f going (subst (λ l. IsSome (m.listers l)) (sym own) filling.goes.live) reads in
      let here : to_come f (t.listers d.lister.0) ≤ to_come e (m.listers d.lister.0) = subst (λ l. to_come f (t.listers l) ≤ to_come e (m.listers l)) own one in
      let before = filling.bound in
      omega (arith, here, before));
}

filled_by : (s t : DiskState) (d e : ListingState) (left : ℕ) → Filling s d left t e → Fills left t e t e → Filled s d t e
filled_by s t d e left filling last = record { fills = filling.all t e last; goes = filling.goes; lister = filling.lister; bound = filling.bound }

pub filled_full : (s t : DiskState) (d e : ListingState) (left : ℕ) → Filling s d left t e → left ≡ 0 → Filled s d t e
filled_full s t d e left filling none = filled_by s t d e left filling (subst (λ n. Fills n t e t e) (sym none) (full t e))

pub filled_ended : (s t : DiskState) (d e : ListingState) (left : ℕ) → Filling s d left t e → is_ended e ≡ true → Filled s d t e
filled_ended s t d e left filling over = filled_by s t d e left filling (ended left t e over)

same_by : (batch : List LocalFsDirEntry) (s : DiskState) (d : ListingState) → 0 < length batch → Refills batch s d s d
same_by [] s d some = absurd (omega arith)
same_by (x ∷ batch) s d some = (refl, refl)
