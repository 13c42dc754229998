-- Where a listing of a local store stands: the names that were given, those that were read, and those to come are the names
-- of its directory.
use Rattle.std.proofs.Common.{◌≡◌, ◌||◌, ◌≤◌, ◌<◌, ◌⊎◌, inl, inr, ℕ, suc, Bool, true, false, List, [], ◌∷◌, ◌++◌, length, map, Option, None, Some, IfSome, Result, Ok, Err, refl, sym, ap, ◌∙◌, subst, append_assoc, arith}
use Rattle.std.specs.Option.{is_some}
use Rattle.std.proofs.lemmas.List.{length-append, map-append}
use Rattle.std.specs.List.{AllByRecursion}
use Rattle.dav_io.specs.Counts.{Rose}
use Rattle.dav_io.proofs.ToldLemmas.{told_after}
use Rattle.dav_core.specs.declared.error.FsError.{FsError}
use Rattle.dav_core.specs.declared.error.FsError.TheVariants as fs
use Rattle.dav_core.specs.declared.handle.DiskError.{DiskError}
use Rattle.dav_core.specs.declared.handle.DiskError.TheVariants.{NotFound, NotDir, IsDir, Exists, NotEmpty, Failed, NoMemory}
use Rattle.dav_core.specs.Disk.{DiskState}
use Rattle.dav_core.specs.Info.{known}
use Rattle.dav_core.specs.Listing.{ListsOn, NextIn, with_listings}
use Rattle.dav_core.specs.Path.{Names}
use Rattle.dav_core.specs.Tree.{is_linked}
use Rattle.dav_core.specs.Unchanged.{Keeps, SameBesidesOpens, SameListing}
use Rattle.dav_core.specs.World.{World, put}
use Rattle.dav_core.proofs.UnchangedLemmas.{put_same, same_besides_then}
use Rattle.dav_store.specs.declared.entry.ReadDirMeta.{ReadDirMeta}
use Rattle.dav_store.specs.declared.entry.ReadDirMeta.TheVariants.{Data, DataSymlink}
use Rattle.dav_store.proofs.Reading.{rose_from}
use Rattle.dav_local.specs.declared.entry.EntryMeta.{EntryMeta}
use Rattle.dav_local.specs.declared.entry.EntryMeta.TheVariants.{Read, At}
use Rattle.dav_local.specs.declared.entry.LocalFsDirEntry.{LocalFsDirEntry}
use Rattle.dav_local.specs.Entries.{said_info}
use Rattle.dav_local.specs.Listing.{Fills, Gives, IsKnown, ListingState, ReadsOne, Refills, WasRead, is_ended, with_given}
use Rattle.dav_local.specs.Listing.Fills.{full, ended, more}
use Rattle.dav_local.specs.Shown.{WhyRefused}
use Rattle.dav_local.proofs.Filling.{given_keeps, none_refused}
use Rattle.dav_local.proofs.EntriesTold.{SaidOf, said_later, said_of}

-- ---- a listing as it was begun

-- what a listing wants to be read: the metadata of each entry, links followed or not
abbrev pub wanted_by : Bool → ReadDirMeta
wanted_by true = Data
wanted_by false = DataSymlink

pub record Begun : Type 0 where
  pub follows : Bool
  pub lister : ℕ
  pub world : World
  pub dir : Names
  pub names : Names
  pub from : ℕ

-- what was read of an entry at this path
abbrev pub MetaTold : Begun → Names → ℕ → EntryMeta → Type 0
MetaTold b path now (Read answer) = is_linked b.world.tree path ≡ false → SaidOf b.world path b.from now (said_info answer)
MetaTold b path now (At place) = ⊥

abbrev EntryTold : Begun → ℕ → LocalFsDirEntry → Type 0
EntryTold b now entry = MetaTold b (b.dir ++ entry.name ∷ []) now entry.meta

meta_later : (b : Begun) (path : Names) (x y : ℕ) (meta : EntryMeta) → x ≤ y → MetaTold b path x meta → MetaTold b path y meta
meta_later b path x y (Read answer) le told = λ linked. said_later b.world path b.from x y (said_info answer) le (told linked)
meta_later b path x y (At place) le told = absurd told

entries_later : (b : Begun) (x y : ℕ) (entries : List LocalFsDirEntry) → x ≤ y → AllByRecursion (EntryTold b x) entries → AllByRecursion (EntryTold b y) entries
entries_later b x y [] le all = tt
entries_later b x y (e ∷ entries) le all = (meta_later b (b.dir ++ e.name ∷ []) x y e.meta le all.0, entries_later b x y entries le all.1)

entries_push : (P : LocalFsDirEntry → Type 0) (xs : List LocalFsDirEntry) (x : LocalFsDirEntry) → AllByRecursion P xs → P x → AllByRecursion P (xs ++ x ∷ [])
entries_push P [] x all last = (last, tt)
entries_push P (y ∷ xs) x all last = (all.0, entries_push P xs x all.1 last)

abbrev pub called : LocalFsDirEntry → List ℕ
called e = e.name

-- ---- where a listing stands: what was given, and what is to be given

pub record Front (b : Begun) (given : Names) (t : DiskState) (k : ListingState) : Type 0 where
  pub lister : k.lister.0 ≡ b.lister
  pub path : k.path ≡ b.dir
  pub wanted : k.wanted ≡ wanted_by b.follows
  pub rest : Names
  pub lost : Names
  pub now : World
  pub told : t.told ≡ Some now
  pub world : SameBesidesOpens b.world now
  pub listing : now.listings b.lister ≡ Some rest
  pub are : b.names ≡ given ++ (map called k.batch ++ (lost ++ rest))
  pub whole : k.refused ≡ None → lost ≡ []
  pub over : k.over ≡ true → k.refused ≡ None → rest ≡ []
  pub each : AllByRecursion (EntryTold b t.faults) k.batch
  pub why : IfSome k.refused (WhyRefused b.from t.faults)
  pub counts : b.from ≤ t.faults

-- the world after a name was given
world_on : (l : ℕ) (w v x : World) (rest : Names) → SameBesidesOpens w v → x ≡ with_listings v (put l (Some rest) v.listings) → SameBesidesOpens w x
world_on l w v x rest same e = same_besides_then w v x same (rw e (record { tree = refl; files = λ number held. (held, refl); greatest = refl; latest = refl; script = refl }))

-- After a name was given by the disk: the world, and the names to come.
record After (b : Begun) (m : DiskState) (name : List ℕ) (before : Names) : Type 0 where
  rest : Names
  first : before ≡ name ∷ rest
  now : World
  told : m.told ≡ Some now
  world : SameBesidesOpens b.world now
  listing : now.listings b.lister ≡ Some rest
  bound : ℕ
  live : m.listers b.lister ≡ Some bound

after_name : (b : Begun) (given : Names) (s m : DiskState) (k : ListingState) (name : List ℕ) (f : Front b given s k) → ListsOn s k.lister.0 (Ok (Some name)) m → After b m name f.rest
after_name b given s m k name f on =
    let here = subst (λ l. ListsOn s l (Ok (Some name)) m) f.lister on in
    let (x, at, next) = told_after s.told m.told (NextIn b.lister (Ok (Some name))) f.now here.told f.told in
    let (bound, before, after) = here.listers in
    record {
      rest = next.0;
      first = (let h : Some f.rest ≡ Some (name ∷ next.0) = sym f.listing ∙ next.1 in cc);
      now = x;
      told = at;
      world = world_on b.lister b.world f.now x next.0 f.world next.2;
      listing = ap (λ u. u.listings b.lister) next.2 ∙ put_same b.lister (Some next.0) f.now.listings;
      bound = bound;
      live = ap (λ (g : ℕ → Option ℕ). g b.lister) after ∙ put_same b.lister (Some bound) s.listers;
    }

-- Nothing that keeps all takes a name away.
record Later (b : Begun) (t : DiskState) (rest : Names) : Type 0 where
  now : World
  told : t.told ≡ Some now
  world : SameBesidesOpens b.world now
  listing : now.listings b.lister ≡ Some rest

kept_after : (b : Begun) (m t : DiskState) (name : List ℕ) (before : Names) (a : After b m name before) → Keeps m t → Later b t a.rest
kept_after b m t name before a keeps =
    let (y, at, same) = told_after m.told t.told SameBesidesOpens a.now keeps.world a.told in
    let (z, also, listing) = told_after m.told t.told (SameListing b.lister) a.now (keeps.listings b.lister a.bound a.live) a.told in
    let one : z ≡ y = (let h : Some z ≡ Some y = sym also ∙ at in cc) in
    record {
      now = y;
      told = at;
      world = same_besides_then b.world a.now y a.world same;
      listing = ap (λ (u : World). u.listings b.lister) (sym one) ∙ (listing ∙ a.listing);
    }

names_moved : (given batch rest after : Names) (name : List ℕ) → rest ≡ name ∷ after → given ++ (batch ++ ([] ++ rest)) ≡ given ++ ((batch ++ name ∷ []) ++ ([] ++ after))
names_moved given batch rest after name first = ap (λ z. given ++ z) (ap (λ z. batch ++ z) first ∙ sym (append_assoc batch (name ∷ []) after))

was_read : (follows : Bool) (meta : EntryMeta) (m t : DiskState) (path : Names) → IsKnown meta (wanted_by follows) m path t → WasRead follows meta m path t
was_read true meta m t path known = known
was_read false meta m t path known = known

-- what was read of the entry of a name
read_told : (b : Begun) (meta : EntryMeta) (m t : DiskState) (x : World) (path : Names) → SameBesidesOpens b.world x → m.told ≡ Some x → b.from ≤ m.faults → WasRead b.follows meta m path t → MetaTold b path t.faults meta
read_told b (Read answer) m t x path same told le (said, metas, is) = λ linked.
    subst (λ a. SaidOf b.world path b.from t.faults (said_info a)) (sym is) (said_of b.follows said b.world x path b.from m t same metas told le linked)
read_told b (At place) m t x path same told le known = absurd known

-- An entry more is to be given.
front_entry : (b : Begun) (given : Names) (s m t : DiskState) (k e : ListingState) (name : List ℕ) (entry : LocalFsDirEntry) (f : Front b given s k) → is_ended k ≡ false → ListsOn s k.lister.0 (Ok (Some name)) m
    → entry.name ≡ name → IsKnown entry.meta k.wanted m (k.path ++ name ∷ []) t → Keeps m t → e ≡ with_given k (Ok entry) → Front b given t e
front_entry b given s m t k e name entry f still on named kept_meta keeps is =
    let (over, refused) = none_refused k still in
    let a = after_name b given s m k name f on in
    let l = kept_after b m t name f.rest a keeps in
    let none = f.whole refused in
    let up : s.faults ≤ t.faults = omega (arith, on.counted.counts, keeps.counts) in
    let le : b.from ≤ m.faults = omega (arith, f.counts, on.counted.counts) in
    let was = was_read b.follows entry.meta m t (k.path ++ name ∷ []) (subst (λ (x : ReadDirMeta). IsKnown entry.meta x m (k.path ++ name ∷ []) t) f.wanted kept_meta) in
    let place : k.path ++ name ∷ [] ≡ b.dir ++ entry.name ∷ [] = ap (λ d. d ++ name ∷ []) f.path ∙ ap (λ z. b.dir ++ z ∷ []) (sym named) in
    let read = read_told b entry.meta m t a.now (b.dir ++ entry.name ∷ []) a.world a.told le (subst (λ p. WasRead b.follows entry.meta m p t) place was) in
    subst (Front b given t) (sym is) (record {
      lister = f.lister;
      path = f.path;
      wanted = f.wanted;
      rest = a.rest;
      lost = [];
      now = l.now;
      told = l.told;
      world = l.world;
      listing = l.listing;
      are = f.are ∙ ap (λ z. given ++ (map called k.batch ++ (z ++ f.rest))) none ∙ names_moved given (map called k.batch) f.rest a.rest name a.first
          ∙ ap (λ z. given ++ (z ++ ([] ++ a.rest))) (ap (λ n. map called k.batch ++ n ∷ []) (sym named) ∙ sym (map-append called k.batch (entry ∷ [])));
      whole = λ e. refl;
      over = λ o r. (let never : true ≡ false = sym o ∙ over in cc);
      each = entries_push (EntryTold b t.faults) k.batch entry (entries_later b s.faults t.faults k.batch up f.each) read;
      why = subst (λ o. IfSome o (WhyRefused b.from t.faults)) (sym refused) tt;
      counts = omega (arith, f.counts, up);
    })

-- A name was lost for want of memory.
front_lost : (b : Begun) (given : Names) (s m t : DiskState) (k e : ListingState) (name : List ℕ) (error : FsError) (f : Front b given s k) → is_ended k ≡ false → ListsOn s k.lister.0 (Ok (Some name)) m
    → error ≡ fs.NoMemory → Keeps m t → e ≡ with_given k (Err error) → Front b given t e
front_lost b given s m t k e name error f still on none_left keeps is =
    let (over, refused) = none_refused k still in
    let a = after_name b given s m k name f on in
    let l = kept_after b m t name f.rest a keeps in
    let none = f.whole refused in
    let up : s.faults ≤ t.faults = omega (arith, on.counted.counts, keeps.counts) in
    subst (Front b given t) (sym is) (record {
      lister = f.lister;
      path = f.path;
      wanted = f.wanted;
      rest = a.rest;
      lost = name ∷ [];
      now = l.now;
      told = l.told;
      world = l.world;
      listing = l.listing;
      are = f.are ∙ ap (λ z. given ++ (map called k.batch ++ (z ++ f.rest))) none ∙ ap (λ z. given ++ (map called k.batch ++ z)) a.first;
      whole = λ e. cc;
      over = λ o r. cc;
      each = entries_later b s.faults t.faults k.batch up f.each;
      why = inl none_left;
      counts = omega (arith, f.counts, up);
    })

-- Nothing was given: the names to come are the same.
front_none : (b : Begun) (given : Names) (s t : DiskState) (k e : ListingState) (refused : Option FsError) (over : Bool) (f : Front b given s k) → is_ended k ≡ false → t.told ≡ Some f.now → s.faults ≤ t.faults
    → (over ≡ true → refused ≡ None → f.rest ≡ []) → IfSome refused (WhyRefused b.from t.faults) → e ≡ record k { refused = refused; over = over } → Front b given t e
front_none b given s t k e refused over f still told up ends why is =
    let none = f.whole (none_refused k still).1 in
    subst (Front b given t) (sym is) (record {
      lister = f.lister;
      path = f.path;
      wanted = f.wanted;
      rest = f.rest;
      lost = [];
      now = f.now;
      told = told;
      world = f.world;
      listing = f.listing;
      are = f.are ∙ ap (λ z. given ++ (map called k.batch ++ (z ++ f.rest))) none;
      whole = λ e. refl;
      over = ends;
      each = entries_later b s.faults t.faults k.batch up f.each;
      why = why;
      counts = omega (arith, f.counts, up);
    })

same_still : (b : Begun) (given : Names) (s m : DiskState) (k : ListingState) (answer : Result (Option (List ℕ)) DiskError) (f : Front b given s k) → ListsOn s k.lister.0 answer m
    → ((l : ℕ) (v w : World) → NextIn l answer v w → w ≡ v) → m.told ≡ Some f.now
same_still b given s m k answer f on same =
    let (x, at, next) = told_after s.told m.told (NextIn k.lister.0 answer) f.now on.told f.told in
    at ∙ ap (λ z. Some z) (same k.lister.0 f.now x next)

front_reads : (b : Begun) (given : Names) (s t : DiskState) (k e : ListingState) → is_ended k ≡ false → Front b given s k → ReadsOne s k t e → Front b given t e
front_reads b given s t k e still f (Ok (Some name), m, on, (Ok entry, gives, is)) = front_entry b given s m t k e name entry f still on gives.0 gives.1 (given_keeps name k.path k.wanted m (Ok entry) t gives) is
front_reads b given s t k e still f (Ok (Some name), m, on, (Err error, gives, is)) = front_lost b given s m t k e name error f still on gives.0 gives.1 is
front_reads b given s t k e still f (Ok None, m, on, (same, is)) =
    let (over, refused) = none_refused k still in
    let told = ap (λ (x : DiskState). x.told) same ∙ same_still b given s m k (Ok None) f on (λ l v w n. n.1) in
    let (x, at, next) = told_after s.told m.told (NextIn k.lister.0 (Ok None)) f.now on.told f.told in
    let ends : f.rest ≡ [] = (let h : Some f.rest ≡ Some [] = sym f.listing ∙ (ap f.now.listings (sym f.lister) ∙ next.0) in cc) in
    let up : s.faults ≤ t.faults = subst (λ (x : DiskState). s.faults ≤ x.faults) (sym same) on.counted.counts in
    front_none b given s t k e None true f still told up (λ o r. ends) tt (is ∙ ap (λ r. record k { refused = r; over = true }) refused)
front_reads b given s t k e still f (Err NoMemory, m, on, (same, is)) =
    let (over, refused) = none_refused k still in
    let told = ap (λ (x : DiskState). x.told) same ∙ same_still b given s m k (Err NoMemory) f on (λ l v w n. n) in
    let up : s.faults ≤ t.faults = subst (λ (x : DiskState). s.faults ≤ x.faults) (sym same) on.counted.counts in
    front_none b given s t k e (Some fs.NoMemory) false f still told up (λ o r. cc) (inl refl) (is ∙ ap (λ o. record k { refused = Some fs.NoMemory; over = o }) over)
front_reads b given s t k e still f (Err Failed, m, on, (same, is)) =
    let told = ap (λ (x : DiskState). x.told) same ∙ same_still b given s m k (Err Failed) f on (λ l v w n. n) in
    let up : s.faults ≤ t.faults = subst (λ (x : DiskState). s.faults ≤ x.faults) (sym same) on.counted.counts in
    let rose = subst (λ (x : DiskState). Rose b.from x.faults) (sym same) (rose_from b.from s.faults m.faults f.counts (on.counted.rose refl)) in
    front_none b given s t k e (Some fs.GeneralFailure) true f still told up (λ o r. cc) (inr (refl, rose)) is
front_reads b given s t k e still f (Err NotFound, m, on, (same, is)) = absurd on.only
front_reads b given s t k e still f (Err NotDir, m, on, (same, is)) = absurd on.only
front_reads b given s t k e still f (Err IsDir, m, on, (same, is)) = absurd on.only
front_reads b given s t k e still f (Err Exists, m, on, (same, is)) = absurd on.only
front_reads b given s t k e still f (Err NotEmpty, m, on, (same, is)) = absurd on.only

front_fills : (b : Begun) (given : Names) (n : ℕ) (s t : DiskState) (k e : ListingState) → Fills n s k t e → Front b given s k → Front b given t e
front_fills b given n s t k e (full a c) f = f
front_fills b given n s t k e (ended i a c over) f = f
front_fills b given n s t k e (more i a m z c d x still reads fills) f = front_fills b given i m z d x fills (front_reads b given a m c d still f reads)

pub front_refills : (b : Begun) (given : Names) (batch : List LocalFsDirEntry) (s t : DiskState) (k e : ListingState) → Refills batch s k t e → Front b given s k → Front b given t e
front_refills b given [] s t k e fills f = front_fills b given 256 s t k e fills f
front_refills b given (x ∷ batch) s t k e (same, is) f = rw (same, is) f

-- ---- what is given

given_more : (given batch others : Names) (name : List ℕ) → given ++ ((name ∷ batch) ++ others) ≡ (given ++ name ∷ []) ++ (batch ++ others)
given_more given batch others name = sym (append_assoc given (name ∷ []) (batch ++ others))

pub record GivenOne (b : Begun) (given : Names) (t : DiskState) (entry : LocalFsDirEntry) (e : ListingState) : Type 0 where
  pub front : Front b (given ++ entry.name ∷ []) t e
  pub told : EntryTold b t.faults entry

given_by : (b : Begun) (given : Names) (t : DiskState) (k e : ListingState) (entry : LocalFsDirEntry) (batch : List LocalFsDirEntry) → k.batch ≡ entry ∷ batch → Front b given t k → e ≡ record k { batch = batch }
    → GivenOne b given t entry e
given_by b given t k e entry batch first f is =
    let all = subst (AllByRecursion (EntryTold b t.faults)) first f.each in
    record {
      front = subst (Front b (given ++ entry.name ∷ []) t) (sym is) (record {
        lister = f.lister;
        path = f.path;
        wanted = f.wanted;
        rest = f.rest;
        lost = f.lost;
        now = f.now;
        told = f.told;
        world = f.world;
        listing = f.listing;
        are = f.are ∙ ap (λ z. given ++ (map called z ++ (f.lost ++ f.rest))) first ∙ given_more given (map called batch) (f.lost ++ f.rest) entry.name;
        whole = f.whole;
        over = f.over;
        each = all.1;
        why = f.why;
        counts = f.counts;
      });
      told = all.0;
    }

pub same_entry : (a b : LocalFsDirEntry) → ◌≡◌ {A = Result (Option LocalFsDirEntry) FsError} (Ok (Some a)) (Ok (Some b)) → a ≡ b
same_entry a b e = cc

pub given_from : (b : Begun) (given : Names) (t : DiskState) (k e : ListingState) (entry : LocalFsDirEntry) (batch : List LocalFsDirEntry) (refused : Option FsError) → k.batch ≡ batch
    → Gives batch refused k (Ok (Some entry)) e → Front b given t k → GivenOne b given t entry e
given_from b given t k e entry (x ∷ batch) refused first (is, ends) f =
    given_by b given t k e entry batch (first ∙ ap (λ z. z ∷ batch) (sym (same_entry entry x is))) f ends
given_from b given t k e entry [] None first (is, ends) f = cc
given_from b given t k e entry [] (Some error) first (is, ends) f = cc

-- ---- what a batch leaves

pub still_after : (s m t : DiskState) → s.faults ≤ m.faults → t ≡ m → s.faults ≤ t.faults
still_after s m t le same = subst (λ (x : DiskState). s.faults ≤ x.faults) (sym same) le

reads_counts : (s t : DiskState) (k e : ListingState) → ReadsOne s k t e → s.faults ≤ t.faults
reads_counts s t k e (Ok (Some name), m, on, (given, gives, is)) = omega (arith, on.counted.counts, (given_keeps name k.path k.wanted m given t gives).counts)
reads_counts s t k e (Ok None, m, on, (same, is)) = still_after s m t on.counted.counts same
reads_counts s t k e (Err NoMemory, m, on, (same, is)) = still_after s m t on.counted.counts same
reads_counts s t k e (Err Failed, m, on, (same, is)) = still_after s m t on.counted.counts same
reads_counts s t k e (Err NotFound, m, on, (same, is)) = still_after s m t on.counted.counts same
reads_counts s t k e (Err NotDir, m, on, (same, is)) = still_after s m t on.counted.counts same
reads_counts s t k e (Err IsDir, m, on, (same, is)) = still_after s m t on.counted.counts same
reads_counts s t k e (Err Exists, m, on, (same, is)) = still_after s m t on.counted.counts same
reads_counts s t k e (Err NotEmpty, m, on, (same, is)) = still_after s m t on.counted.counts same

fills_counts : (n : ℕ) (s t : DiskState) (k e : ListingState) → Fills n s k t e → s.faults ≤ t.faults
fills_counts n s t k e (full a c) = omega arith
fills_counts n s t k e (ended i a c over) = omega arith
fills_counts n s t k e (more i a m z c d x still reads fills) =
    let first = reads_counts a m c d reads in
    let later = fills_counts i m z d x fills in
    omega (arith, first, later)

pub refills_counts : (batch : List LocalFsDirEntry) (s t : DiskState) (k e : ListingState) → Refills batch s k t e → s.faults ≤ t.faults
refills_counts [] s t k e fills = fills_counts 256 s t k e fills
refills_counts (x ∷ batch) s t k e (same, is) = still_after s s t (omega arith) same

-- A read ends the batch, or leaves an entry more.
abbrev EndsOrGrows : ListingState → ListingState → Type 0
EndsOrGrows k e = (is_ended e ≡ true) ⊎ (length k.batch < length e.batch)

refused_ends : (over : Bool) (e : FsError) → (over || is_some (Some e)) ≡ true
refused_ends true e = refl
refused_ends false e = refl

given_grows : (k : ListingState) (given : Result LocalFsDirEntry FsError) → EndsOrGrows k (with_given k given)
given_grows k (Ok entry) = inr (let long = length-append k.batch (entry ∷ []) in omega (arith, long))
given_grows k (Err e) = inl (refused_ends k.over e)

reads_grow : (s t : DiskState) (k e : ListingState) → ReadsOne s k t e → EndsOrGrows k e
reads_grow s t k e (Ok (Some name), m, on, (given, gives, is)) = subst (EndsOrGrows k) (sym is) (given_grows k given)
reads_grow s t k e (Ok None, m, on, (same, is)) = subst (EndsOrGrows k) (sym is) (inl refl)
reads_grow s t k e (Err NoMemory, m, on, (same, is)) = subst (EndsOrGrows k) (sym is) (inl (refused_ends k.over fs.NoMemory))
reads_grow s t k e (Err Failed, m, on, (same, is)) = subst (EndsOrGrows k) (sym is) (inl refl)
reads_grow s t k e (Err NotFound, m, on, (same, is)) = subst (EndsOrGrows k) (sym is) (inl refl)
reads_grow s t k e (Err NotDir, m, on, (same, is)) = subst (EndsOrGrows k) (sym is) (inl refl)
reads_grow s t k e (Err IsDir, m, on, (same, is)) = subst (EndsOrGrows k) (sym is) (inl refl)
reads_grow s t k e (Err Exists, m, on, (same, is)) = subst (EndsOrGrows k) (sym is) (inl refl)
reads_grow s t k e (Err NotEmpty, m, on, (same, is)) = subst (EndsOrGrows k) (sym is) (inl refl)

-- A batch that was begun ends, or has an entry.
fills_end : (n : ℕ) (s t : DiskState) (k e : ListingState) → (0 < n) ⊎ ((is_ended k ≡ true) ⊎ (0 < length k.batch)) → Fills n s k t e → (is_ended e ≡ true) ⊎ (0 < length e.batch)
fills_end n s t k e (inl some) (full a c) = absurd (omega (arith, some))
fills_end n s t k e (inr was) (full a c) = was
fills_end n s t k e was (ended i a c over) = inl over
fills_end n s t k e was (more i a m z c d x still reads fills) = fills_end i m z d x (inr (by_read (reads_grow a m c d reads))) fills
  where
    by_read : EndsOrGrows c d → (is_ended d ≡ true) ⊎ (0 < length d.batch)
    by_read (inl over) = inl over
    by_read (inr grows) = inr (omega (arith, grows))

-- Where neither an entry nor a refusal is left, the listing is over.
over_by : (k : ListingState) → (is_ended k ≡ true) ⊎ (0 < length k.batch) → k.batch ≡ [] → k.refused ≡ None → k.over ≡ true
over_by k (inl over) none refused = or_none k.over (ap (λ r. k.over || is_some r) (sym refused) ∙ over)
  where
    or_none : (b : Bool) → (b || false) ≡ true → b ≡ true
    or_none true e = refl
    or_none false e = cc
over_by k (inr some) none refused = absurd (let long : length k.batch ≡ 0 = ap length none in omega (arith, some, long))

pub refills_over : (batch : List LocalFsDirEntry) (s t : DiskState) (k e : ListingState) → k.batch ≡ batch → Refills batch s k t e → e.batch ≡ [] → e.refused ≡ None → e.over ≡ true
refills_over [] s t k e is fills none refused = over_by e (fills_end 256 s t k e (inl (omega arith)) fills) none refused
refills_over (x ∷ batch) s t k e is (same, as_it_was) none refused =
    absurd (let long : length e.batch ≡ 0 = ap length none in let some : length e.batch ≡ suc (length batch) = ap (λ (d : ListingState). length d.batch) as_it_was ∙ ap length is in omega (arith, long, some))
