-- What a local store's memory learns of a listing is what the told world has.
use Rattle.std.proofs.Common.{◌≡◌, ◌||◌, ◌⊎◌, inl, inr, Bool, true, false, List, [], ◌∷◌, ◌++◌, map, Option, None, Some, Result, Ok, Err, refl, sym, ap, subst, ◌∙◌, append-nil, if◌then◌else◌}
use Rattle.std.specs.List.{list_any}
use Rattle.std.specs.List.Sorted.{IsPermutation}
use Rattle.std.proofs.lemmas.List.Sorted.{list_any-IsPermutation}
use Rattle.std.proofs.lemmas.Slice.Eq.{bytes_eq-Decides}
use Rattle.std.proofs.lemmas.Bool.{or_right}
use Rattle.dav_io.specs.declared.clock.Moment.{Moment}
use Rattle.dav_io.specs.declared.failure.NoMemory.{NoMemory as Starved}
use Rattle.dav_io.proofs.ToldLemmas.{told_after}
use Rattle.dav_core.specs.declared.error.FsError.{FsError}
use Rattle.dav_core.specs.declared.handle.DiskError.{DiskError}
use Rattle.dav_core.specs.declared.handle.Meta.{Meta}
use Rattle.dav_core.specs.declared.time.FileTime.{FileTime}
use Rattle.dav_core.specs.declared.tree.Kind.{Kind}
use Rattle.dav_core.specs.DavPath.{WebPath}
use Rattle.dav_core.specs.Disk.{DiskState, Metas}
use Rattle.dav_core.specs.Info.{Info}
use Rattle.dav_core.specs.Listing.{names_in}
use Rattle.dav_core.specs.Path.{Names}
use Rattle.dav_core.specs.Tree.{is_dir, is_linked}
use Rattle.dav_core.specs.Unchanged.{Keeps, SameBesidesOpens}
use Rattle.dav_core.specs.World.{World}
use Rattle.dav_store.specs.declared.entry.ReadDirMeta.TheVariants.{Data}
use Rattle.dav_store.specs.Leads.{ListedOn, ListedThrough, begun as just_begun, goes_on as goes_further, says as says_on}
use Rattle.dav_store.specs.View.{Listings, View}
use Rattle.dav_walks.specs.Pouring.{Writes}
use Rattle.dav_model.specs.Folds.{Name, dir_time, dir_time_of, has_name, is_dot}
use Rattle.dav_model.specs.Rules.{Knowledge, Learns, SameDots, ShowsNames, WasKnown}
use Rattle.dav_model.proofs.JoiningLemmas.{same_dots_then}
use Rattle.dav_memory.specs.Builder.{BuilderState, Finishes, Settles, may_settle, time_found, with_name}
use Rattle.dav_memory.specs.Entries.{is_time, one_time}
use Rattle.dav_memory.specs.declared.sealed.Sealed.{Sealed}
use Rattle.dav_memory.specs.Entries.{dir_key, kept}
use Rattle.dav_memory.specs.Memory.{LearnsNothing, MemoryState, SealsIn}
use Rattle.dav_memory.specs.Trees.{same_name}
use Rattle.dav_memory.proofs.Keeping.{any-kept}
use Rattle.dav_memory.proofs.Order.{any-push}
use Rattle.dav_local.specs.declared.entry.LocalFsDirEntry.{LocalFsDirEntry}
use Rattle.dav_local.specs.declared.file.LocalFsFile.{LocalFsFile}
use Rattle.dav_local.specs.declared.ways.Ways.{Ways}
use Rattle.dav_local.specs.Calls.{BeginsAt, Finds}
use Rattle.dav_local.specs.declared.gathering.LocalFsReadDir.{LocalFsReadDir}
use Rattle.dav_local.specs.Gathering.{AfterNext, BeginsDir, gathers, site_of}
use Rattle.dav_local.specs.Listing.{Gives, ListingState, NextEntry}
use Rattle.dav_local.specs.Places.{Place}
use Rattle.dav_local.specs.Shown.{knowledge_of}
use Rattle.dav_local.proofs.Fronts.{Begun, Front, GivenOne, front_refills, given_from, refills_over}
use Rattle.dav_local.proofs.Gathered.{next_entry}
use Rattle.dav_local.proofs.Walked.{began, says_read}
use Rattle.dav_local_laws.specs.LocalStore.{IsLocalStore, place}
use Rattle.dav_local_laws.proofs.DirNames.{named_rows}
use Rattle.dav_local_laws.proofs.LocalListings.{lists_local, next_local}

-- ---- what is learned

pub learns_told_then : (told : Option World) (k l m : Knowledge) → Learns told k l → Learns told l m → Learns told k m
learns_told_then told k l m first more = record {
  open_same = λ dir time. more.open_same dir time ∙ first.open_same dir time;
  known = λ dir time has is. by dir time has (more.known dir time has is);
}
  where
    before : (dir : Names) (time : FileTime) (has had : Name → Bool) → SameDots has had → WasKnown k dir time had ⊎ ((w : World) → told ≡ Some w → ShowsNames w dir time had)
        → WasKnown k dir time has ⊎ ((w : World) → told ≡ Some w → ShowsNames w dir time has)
    before dir time has had same (inl (old, is, alike)) = inl (old, is, same_dots_then has had old same alike)
    before dir time has had same (inr shows) = inr (λ w now clear.
        let shown = shows w now clear in
        record { there = shown.there; names = same_dots_then has had (has_name w.tree dir) same shown.names })

    by : (dir : Names) (time : FileTime) (has : Name → Bool) → WasKnown l dir time has ⊎ ((w : World) → told ≡ Some w → ShowsNames w dir time has)
        → WasKnown k dir time has ⊎ ((w : World) → told ≡ Some w → ShowsNames w dir time has)
    by dir time has (inl (had, is, same)) = before dir time has had same (first.known dir time had is)
    by dir time has (inr shows) = inr shows

pub nothing_learned : (told : Option World) (m n : MemoryState) → LearnsNothing m n → Learns told (knowledge_of m) (knowledge_of n)
nothing_learned told m n learns = record {
  open_same = learns.same_open;
  known = λ dir time has is. (let (had, was, alike) = learns.known dir time has is in inl (had, was, λ x dot. alike x));
}

same_learned : (told : Option World) (m n : MemoryState) → n ≡ m → Learns told (knowledge_of m) (knowledge_of n)
same_learned told m n same =
    subst (λ (x : MemoryState). Learns told (knowledge_of m) (knowledge_of x)) (sym same)
    (record { open_same = λ dir time. refl; known = λ dir time has is. inl (has, is, λ x dot. refl) })

-- what a world shows that has the same tree
pub learns_besides : (v : Option World) (told : Option World) (k l : Knowledge) → ((w : World) → told ≡ Some w → (x : World) × (v ≡ Some x) × (x.tree ≡ w.tree)) → Learns v k l → Learns told k l
learns_besides v told k l same learns = record {
  open_same = learns.open_same;
  known = λ dir time has is. elim (learns.known dir time has is) [
    | inl was ↦ inl was
    | inr shows ↦ inr (λ w now clear.
        let (x, there, tree) = same w now in
        let shown = shows x there (ap (λ rows. is_linked rows dir) tree ∙ clear) in
        record { there = ap (λ rows. dir_time rows dir) (sym tree) ∙ shown.there; names = λ y dot. shown.names y dot ∙ ap (λ rows. has_name rows dir y) tree })
  ];
}

-- ---- what was gathered

-- nothing is sealed of it any more
abbrev is_idle : BuilderState → Bool
is_idle b = b.finished || b.faulted

-- The names that were gathered are those that were given, and the names of the directory are to be given.
record Gathered (w : World) (dir : Names) (s : DiskState) (k : ListingState) (b : BuilderState) : Type 0 where
  begun : Begun
  world : begun.world ≡ w
  order : IsPermutation (names_in w.tree dir) begun.names
  given : Names
  front : Front begun given s k
  names : (x : Name) → is_dot x ≡ true → list_any (same_name x) b.names ≡ list_any (same_name x) given

record Stands (told : Option World) (dir : Names) (s : DiskState) (k : ListingState) (b : BuilderState) : Type 0 where
  dir_is : b.dir ≡ dir
  time : (w : World) → told ≡ Some w → is_linked w.tree dir ≡ false → (t : FileTime) → b.before ≡ Some t → dir_time w.tree dir ≡ Some t
  names : (w : World) → told ≡ Some w → is_linked w.tree dir ≡ false → (is_idle b ≡ true) ⊎ Gathered w dir s k b

abbrev StandsFor : Option World → Names → DiskState → ListingState → Option BuilderState → Type 0
StandsFor told dir s k None = Unit {0}
StandsFor told dir s k (Some b) = Stands told dir s k b

-- ---- a name more

dot_apart : (x n : Name) → is_dot x ≡ true → is_dot n ≡ false → same_name x n ≡ false
dot_apart x n dot other = by (same_name x n) refl
  where
    by : (b : Bool) → same_name x n ≡ b → b ≡ false
    by false e = refl
    by true e = (let same : x ≡ n = (bytes_eq-Decides x n).0 e in let never : true ≡ false = sym dot ∙ (ap is_dot same ∙ other) in cc)

pushed : (name : Name) (b : BuilderState) (given : Names) → ((x : Name) → is_dot x ≡ true → list_any (same_name x) b.names ≡ list_any (same_name x) given)
    → (x : Name) → is_dot x ≡ true → list_any (same_name x) (with_name name b).names ≡ list_any (same_name x) (given ++ name ∷ [])
pushed name b given same x dot = by (is_dot name) refl ∙ sym (any-push x name given)
  where
    by : (d : Bool) → is_dot name ≡ d → list_any (same_name x) (if d then record b { names = kept name b.names } else b).names ≡ (same_name x name || list_any (same_name x) given)
    by true e = any-kept x name b.names ∙ ap (λ r. same_name x name || r) (same x dot)
    by false e = same x dot ∙ ap (λ f. f || list_any (same_name x) given) (sym (dot_apart x name dot e))

-- a name that is gathered changes nothing else
with_dir : (name : Name) (b : BuilderState) → (with_name name b).dir ≡ b.dir
with_dir name b = by (is_dot name)
  where
    by : (d : Bool) → (if d then record b { names = kept name b.names } else b).dir ≡ b.dir
    by true = refl
    by false = refl

with_before : (name : Name) (b : BuilderState) → (with_name name b).before ≡ b.before
with_before name b = by (is_dot name)
  where
    by : (d : Bool) → (if d then record b { names = kept name b.names } else b).before ≡ b.before
    by true = refl
    by false = refl

with_idle : (name : Name) (b : BuilderState) → is_idle (with_name name b) ≡ is_idle b
with_idle name b = by (is_dot name)
  where
    by : (d : Bool) → is_idle (if d then record b { names = kept name b.names } else b) ≡ is_idle b
    by true = refl
    by false = refl

entry_given : (b : Begun) (given : Names) (s t : DiskState) (k f : ListingState) (entry : LocalFsDirEntry) → Front b given s k → NextEntry s k (Ok (Some entry)) t f → GivenOne b given t entry f
entry_given b given s t k f entry front (x, refills, gives) =
    given_from b given t x f entry x.batch x.refused refl gives (front_refills b given k.batch s t k x refills front)

gathers_on : (told : Option World) (dir : Names) (s t : DiskState) (k f : ListingState) (b : BuilderState) (entry : LocalFsDirEntry) → Stands told dir s k b → NextEntry s k (Ok (Some entry)) t f
    → Stands told dir t f (with_name entry.name b)
gathers_on told dir s t k f b entry st first = record {
  dir_is = with_dir entry.name b ∙ st.dir_is;
  time = λ w now clear time is. st.time w now clear time (sym (with_before entry.name b) ∙ is);
  names = λ w now clear. elim (st.names w now clear) [
    | inl idle ↦ inl (with_idle entry.name b ∙ idle)
    | inr g ↦ (let one = entry_given g.begun g.given s t k f entry g.front first in inr (record {
      begun = g.begun;
      world = g.world;
      order = g.order;
      given = g.given ++ entry.name ∷ [];
      front = one.front;
      names = pushed entry.name b g.given g.names;
    }))
  ];
}

idle_stands : (told : Option World) (dir : Names) (s t : DiskState) (k f : ListingState) (b c : BuilderState) → c.dir ≡ b.dir → c.before ≡ b.before → is_idle c ≡ true → Stands told dir s k b → Stands told dir t f c
idle_stands told dir s t k f b c same_dir same_before idle st = record {
  dir_is = same_dir ∙ st.dir_is;
  time = λ w now clear time is. st.time w now clear time (sym same_before ∙ is);
  names = λ w now clear. inl idle;
}

-- ---- the seal

settled_before : (before after : Option FileTime) (time : FileTime) → one_time before after ≡ Some time → before ≡ Some time
settled_before None after time e = cc
settled_before (Some t) after time e = by (is_time t after) e
  where
    by : (b : Bool) → (if b then Some t else None) ≡ Some time → Some t ≡ Some time
    by true e = e
    by false e = cc

settles_whole : (fin fau : Bool) (before : Option FileTime) (time : FileTime) → (if fin || fau then None else before) ≡ Some time → ((fin || fau) ≡ false) × (before ≡ Some time)
settles_whole true fau before time e = cc
settles_whole false true before time e = cc
settles_whole false false before time e = (refl, e)

-- At the end of a listing all names of its directory were given.
ended_given : (b : Begun) (given : Names) (s t : DiskState) (k f : ListingState) → Front b given s k → NextEntry s k (Ok None) t f → b.names ≡ given
ended_given b given s t k f front (x, refills, gives) = by x.batch x.refused refl refl gives
  where
    h : Front b given t x
    h = front_refills b given k.batch s t k x refills front

    by : (batch : List LocalFsDirEntry) (refused : Option FsError) → x.batch ≡ batch → x.refused ≡ refused → Gives batch refused x (Ok None) f → b.names ≡ given
    by (entry ∷ batch) refused first none (is, ends) = cc
    by [] (Some e) first none (is, ends) = cc
    by [] None first none (is, ends) =
        let left : map (λ (e : LocalFsDirEntry). e.name) x.batch ++ (h.lost ++ h.rest) ≡ [] =
        ap (λ z. map (λ (e : LocalFsDirEntry). e.name) z ++ (h.lost ++ h.rest)) first
        ∙ (ap (λ z. z ++ h.rest) (h.whole none) ∙ h.over (refills_over k.batch s t k x refl refills first none) none) in
        h.are ∙ (ap (λ z. given ++ z) left ∙ append-nil given)

seal_learns : (told : Option World) (dir : Names) (s t : DiskState) (k f : ListingState) (b : BuilderState) (after : Option FileTime) (time : FileTime) (m n : MemoryState) (now : Moment) (sealed : Sealed)
    → Stands told dir s k b → NextEntry s k (Ok None) t f → one_time (may_settle b) after ≡ Some time → SealsIn m (dir_key b.dir) time b.names now sealed n → Learns told (knowledge_of m) (knowledge_of n)
seal_learns told dir s t k f b after time m n now sealed st first settled seals = record {
  open_same = seals.same_open;
  known = λ d u has is. elim (seals.known d u has is) [
    | inl (had, was, same) ↦ inl (had, was, λ x dot. same x)
    | inr (here, at, same) ↦ inr (λ w told_now clear. shows d u has here at same w told_now clear)
  ];
}
  where
    whole : (is_idle b ≡ false) × (b.before ≡ Some time)
    whole = settles_whole b.finished b.faulted b.before time (settled_before (may_settle b) after time settled)

    given_names : (w : World) (g : Gathered w dir s k b) (x : Name) → is_dot x ≡ true → list_any (same_name x) b.names ≡ has_name w.tree dir x
    given_names w g x dot =
        let all : g.begun.names ≡ g.given = ended_given g.begun g.given s t k f g.front first in
        g.names x dot ∙ (ap (list_any (same_name x)) (sym all) ∙ (sym (list_any-IsPermutation (same_name x) (names_in w.tree dir) g.begun.names g.order) ∙ named_rows w.tree dir x))

    shows : (d : Names) (u : FileTime) (has : Name → Bool) → d ≡ b.dir → u ≡ time → ((x : Name) → has x ≡ list_any (same_name x) b.names) → (w : World) → told ≡ Some w → ShowsNames w d u has
    shows d u has here at same w told_now clear =
        let place : d ≡ dir = here ∙ st.dir_is in
        let clear_here : is_linked w.tree dir ≡ false = ap (is_linked w.tree) (sym place) ∙ clear in
        elim (st.names w told_now clear_here) [
          | inl idle ↦ (let never : true ≡ false = sym idle ∙ whole.0 in cc)
          | inr g ↦ record {
            there = ap (dir_time w.tree) place ∙ (st.time w told_now clear_here time whole.1 ∙ ap (λ x. Some x) (sym at));
            names = λ x dot. same x ∙ (given_names w g x dot ∙ ap (λ p. has_name w.tree p x) (sym place));
          }
        ]

-- What the end of a listing leaves.
record Ended (told : Option World) (dir : Names) (m n : MemoryState) (t : DiskState) (f : ListingState) (c : BuilderState) : Type 0 where
  learns : Learns told (knowledge_of m) (knowledge_of n)
  stands : Stands told dir t f c

finish_learns : (told : Option World) (dir : Names) (s t : DiskState) (k f : ListingState) (b c : BuilderState) (fin : Bool) (now : Moment) (p q : Place) (sealed : Result Unit Starved) (u : DiskState)
    → b.finished ≡ fin → Stands told dir s k b → NextEntry s k (Ok None) t f → Finishes (λ m. m) fin (site_of b p) now sealed (site_of c q) → Ended told dir p.memory q.memory u f c
finish_learns told dir s t k f b c true now p q sealed u fin st first (ok, same, disk, memory) = record {
  learns = same_learned told p.memory q.memory memory;
  stands = idle_stands told dir s u k f b c (ap (λ (x : BuilderState). x.dir) same) (ap (λ (x : BuilderState). x.before) same) (ap is_idle same ∙ ap (λ x. x || b.faulted) fin) st;
}
finish_learns told dir s t k f b c false now p q sealed u fin st first (answer, metas, is, settles) = record {
  learns = by (one_time (may_settle b) (time_found answer)) refl settles;
  stands = idle_stands told dir s u k f b c (ap (λ (x : BuilderState). x.dir) is) (ap (λ (x : BuilderState). x.before) is) (ap is_idle is) st;
}
  where
    by : (time : Option FileTime) → one_time (may_settle b) (time_found answer) ≡ time → Settles (λ m. m) time b now p.memory sealed q.memory → Learns told (knowledge_of p.memory) (knowledge_of q.memory)
    by None e (ok, same) = same_learned told p.memory q.memory same
    by (Some time) e (seal, seals, tells) = seal_learns told dir s t k f b (time_found answer) time p.memory q.memory now seal st first e seals

-- ---- one call of a listing

module _ {S C : Type 0} (view : View S C LocalFsFile) (lists : Listings S C LocalFsReadDir LocalFsDirEntry) (writes : Writes LocalFsFile) (ways : S → Ways) (memory : S → MemoryState) (moment : S → Moment)
    (local : IsLocalStore view lists writes ways memory moment) where
  abbrev at : S → Place
  at s = place view lists writes ways memory moment s

  -- What was learned from a listing so far, and where it stands.
  record Led (told : Option World) (dir : Names) (from : S) (n : S) (k : LocalFsReadDir) : Type 0 where
    paths : ways n ≡ ways from
    learns : Learns told (knowledge_of (memory from)) (knowledge_of (memory n))
    stands : StandsFor told dir (view.state n) k.reading k.builder

  after_led : (told : Option World) (dir : Names) (m n : S) (l k : LocalFsReadDir) (builder : Option BuilderState) (given r : Result (Option LocalFsDirEntry) FsError) (now : Moment) (t : DiskState) (f : ListingState)
      → l.builder ≡ builder → StandsFor told dir (view.state m) l.reading builder → NextEntry (view.state m) l.reading given t f
      → AfterNext builder given now (record (at m) { disk = t }) (record l { reading = f }) r (at n) k → Led told dir m n k
  after_led told dir m n l k None given r now t f none st first (is, same, whole) = record {
    paths = ap (λ (p : Place). p.ways) same;
    learns = same_learned told (memory m) (memory n) (ap (λ (p : Place). p.memory) same);
    stands = subst (λ b. StandsFor told dir (view.state n) k.reading b) (sym (ap (λ (d : LocalFsReadDir). d.builder) whole ∙ none)) tt;
  }
  after_led told dir m n l k (Some b) (Ok (Some entry)) (Ok found) now t f none st first (same, (is, whole)) = record {
    paths = ap (λ (p : Place). p.ways) same;
    learns = same_learned told (memory m) (memory n) (ap (λ (p : Place). p.memory) same);
    stands = subst (λ (d : LocalFsReadDir). StandsFor told dir (view.state n) d.reading d.builder) (sym whole)
        (subst (λ (p : Place). Stands told dir p.disk f (with_name entry.name b)) (sym same) (gathers_on told dir (view.state m) t l.reading f b entry st first));
  }
  after_led told dir m n l k (Some b) (Ok (Some entry)) (Err e) now t f none st first (same, (is, whole)) = record {
    paths = ap (λ (p : Place). p.ways) same;
    learns = same_learned told (memory m) (memory n) (ap (λ (p : Place). p.memory) same);
    stands = subst (λ (d : LocalFsReadDir). StandsFor told dir (view.state n) d.reading d.builder) (sym whole)
        (idle_stands told dir (view.state m) (view.state n) l.reading _ b (record b { faulted = true }) refl refl (or_right b.finished true refl) st);
  }
  after_led told dir m n l k (Some b) (Ok None) r now t f none st first (sealed, c, finishes, stays, is, whole) =
      let ended = finish_learns told dir (view.state m) t l.reading f b c b.finished now (record (at m) { disk = t }) (at n) sealed (view.state n) refl st first finishes in
      record {
        paths = stays;
        learns = ended.learns;
        stands = subst (λ (d : LocalFsReadDir). StandsFor told dir (view.state n) d.reading d.builder) (sym whole) ended.stands;
      }
  after_led told dir m n l k (Some b) (Err e) r now t f none st first (is, same, whole) = record {
    paths = ap (λ (p : Place). p.ways) same;
    learns = same_learned told (memory m) (memory n) (ap (λ (p : Place). p.memory) same);
    stands = subst (λ (d : LocalFsReadDir). StandsFor told dir (view.state n) d.reading d.builder) (sym whole)
        (idle_stands told dir (view.state m) (view.state n) l.reading f b (record b { faulted = true }) refl refl (or_right b.finished true refl) st);
  }

  next_led : (told : Option World) (dir : Names) (from m n : S) (l k : LocalFsReadDir) (r : Result (Option LocalFsDirEntry) FsError) → Led told dir from m l → lists.lists_on m l r n k → Led told dir from n k
  next_led told dir from m n l k r before on =
      let (now, gives, here, timed) = local.goes_on m n l k r on in
      let (given, t, f, first, follows) = gives in
      let step = after_led told dir m n l k l.builder given r now t f refl before.stands first follows in
      record {
        paths = step.paths ∙ before.paths;
        learns = learns_told_then told (knowledge_of (memory from)) (knowledge_of (memory m)) (knowledge_of (memory n)) before.learns step.learns;
        stands = step.stands;
      }

  -- An entry that was read is asked without the disk.
  asked_same : (told : Option World) (dir : Names) (m n o : S) (l k : LocalFsReadDir) (e : LocalFsDirEntry) (r : Result Info FsError) (b : BuilderState) → Stands told dir (view.state m) l.reading b
      → lists.lists_on m l (Ok (Some e)) n k → lists.says e (view.state n) r (view.state o) → (w : World) → told ≡ Some w → is_linked w.tree dir ≡ false → (is_idle b ≡ true) ⊎ (view.state o ≡ view.state n)
  asked_same told dir m n o l k e r b st on said w now clear = elim (st.names w now clear) [
    | inl idle ↦ inl idle
    | inr g ↦ (
        let first = next_entry (view.state m) (view.state n) l k e (next_local view lists writes ways memory moment local m n l k (Ok (Some e)) on) in
        let one = entry_given g.begun g.given (view.state m) (view.state n) l.reading k.reading e g.front first in
        inr (says_read g.begun (g.begun.dir ++ e.name ∷ []) (view.state n).faults e.meta (view.state n) (view.state o) r one.told (local.says (view.state n) (view.state o) e r said)).0)
  ]

  -- what is gathered after an entry is what is gathered before it, and its name
  says_led : (told : Option World) (dir : Names) (from m n o : S) (l k : LocalFsReadDir) (e : LocalFsDirEntry) (r : Result Info FsError) → Led told dir from m l → lists.lists_on m l (Ok (Some e)) n k
      → lists.says e (view.state n) r (view.state o) → view.lends n o → Led told dir from o k
  says_led told dir from m n o l k e r before on said lent =
      let after = next_led told dir from m n l k (Ok (Some e)) before on in
      let still = local.lends n o lent in
      record {
        paths = ap (λ (p : Place). p.ways) still ∙ after.paths;
        learns = learns_told_then told (knowledge_of (memory from)) (knowledge_of (memory n)) (knowledge_of (memory o)) after.learns (same_learned told (memory n) (memory o) (ap (λ (p : Place). p.memory) still));
        stands = by l.builder k.builder refl refl before.stands after.stands;
      }
    where
      gathered : (b c : BuilderState) → l.builder ≡ Some b → k.builder ≡ Some c → is_idle c ≡ is_idle b
      gathered b c lb kc =
          let (now, gives, here, timed) = local.goes_on m n l k (Ok (Some e)) on in
          let (given, t, f, first, follows) = gives in
          by_given now t f given (subst (λ x. AfterNext x given now (record (at m) { disk = t }) (record l { reading = f }) (Ok (Some e)) (at n) k) lb follows)
        where
          by_given : (now : Moment) (t : DiskState) (f : ListingState) (given : Result (Option LocalFsDirEntry) FsError)
              → AfterNext (Some b) given now (record (at m) { disk = t }) (record l { reading = f }) (Ok (Some e)) (at n) k → is_idle c ≡ is_idle b
          by_given now t f (Ok (Some entry)) (same, (is, whole)) =
              let e : Some c ≡ Some (with_name entry.name b) = sym kc ∙ ap (λ (d : LocalFsReadDir). d.builder) whole in
              let one : c ≡ with_name entry.name b = cc in
              ap is_idle one ∙ with_idle entry.name b
          by_given now t f (Ok None) (Ok x, d, finishes, stays, is, whole) = cc
          by_given now t f (Ok None) (Err x, d, finishes, stays, is, whole) = cc
          by_given now t f (Err x) (is, same, whole) = cc

      by : (lb kb : Option BuilderState) → l.builder ≡ lb → k.builder ≡ kb → StandsFor told dir (view.state m) l.reading lb → StandsFor told dir (view.state n) k.reading kb → StandsFor told dir (view.state o) k.reading kb
      by lb None le ke before after = tt
      by None (Some c) le ke before after =
          let (now, gives, here, timed) = local.goes_on m n l k (Ok (Some e)) on in
          let (given, t, f, first, follows) = gives in
          let (is, same, whole) = subst (λ x. AfterNext x given now (record (at m) { disk = t }) (record l { reading = f }) (Ok (Some e)) (at n) k) le follows in
          let never : None ≡ Some c = sym (ap (λ (d : LocalFsReadDir). d.builder) whole ∙ le) ∙ ke in cc
      by (Some b) (Some c) le ke before after = record {
        dir_is = after.dir_is;
        time = after.time;
        names = λ w now clear. elim (asked_same told dir m n o l k e r b before on said w now clear) [
          | inl idle ↦ inl (gathered b c le ke ∙ idle)
          | inr same ↦ elim (after.names w now clear) [
            | inl idle ↦ inl idle
            | inr g ↦ inr (subst (λ s. Gathered w dir s k.reading c) (sym same) g)
          ]
        ];
      }

  -- the calls of a listing from its beginning on
  listed_led : (told : Option World) (dir : Names) (from b : S) (first : LocalFsReadDir) (n : S) (l : LocalFsReadDir) → Led told dir from b first → ListedOn view lists b first n l → Led told dir from n l
  listed_led told dir from b first n l start just_begun = start
  listed_led told dir from b first n l start (goes_further m k i j r before on) = next_led told dir from m n i l r (listed_led told dir from b first m i start before) on
  listed_led told dir from b first n l start (says_on m k o i j e r before on said lent keeps) =
      says_led told dir from m k n i l e r (listed_led told dir from b first m i start before) on said lent

  -- ---- the beginning of a listing

  found_time : (kind : Kind) (row_kind : Kind) (modified : Option FileTime) (time t : FileTime) → kind ≡ row_kind → modified ≡ Some time → (if is_dir kind then modified else None) ≡ Some t
      → (if is_dir row_kind then Some time else None) ≡ Some t
  found_time kind row_kind modified time t same is e = ap (λ k. if is_dir k then Some time else None) (sym same) ∙ (ap (λ m. if is_dir kind then m else None) (sym is) ∙ e)

  -- the directory's time was found
  time_there : (found : Result Meta DiskError) (s t : DiskState) (dir : Names) (w : World) (time : FileTime) → Metas s dir found t → s.told ≡ Some w → is_linked w.tree dir ≡ false → time_found found ≡ Some time
      → dir_time w.tree dir ≡ Some time
  time_there (Err e) s t dir w time metas told clear is = cc
  time_there (Ok meta) s t dir w time metas told clear is =
      let (row, looked, meta_is) = metas.told w told clear in
      ap dir_time_of looked ∙ found_time meta.kind row.kind meta.modified row.time time meta_is.kind meta_is.modified is

  starts : (m n : S) (c : C) (path : WebPath) (l : LocalFsReadDir) → lists.lists m c path Data (Ok l) n → Led (view.state m).told l.reading.path m n l
  starts m n c path l h = by_found (local.begins m n c path Data (Ok l) h).0
    where
      stays : ways n ≡ ways m
      stays = (local.begins m n c path Data (Ok l) h).1

      -- the names are to be given
      to_come : (b : BuilderState) → b.names ≡ [] → (w : World) → (view.state m).told ≡ Some w → is_linked w.tree l.reading.path ≡ false → Finds (at m) path.names (BeginsAt Data) (Ok l) (at n)
          → Gathered w l.reading.path (view.state n) l.reading b
      to_come b none w now clear (found, k, resolves, after) =
          let g = began view lists (lists_local view lists writes ways memory moment local) true (at m) (at n) w path n l found k now resolves after refl clear in
          record {
            begun = g.begun;
            world = g.world;
            order = subst (λ (v : World). IsPermutation (names_in v.tree l.reading.path) g.begun.names) g.world
                (subst (λ d. IsPermutation (names_in g.begun.world.tree d) g.begun.names) g.dir g.start.order);
            given = [];
            front = g.start.first;
            names = λ x dot. ap (list_any (same_name x)) none;
          }

      by_dir : (gather : Bool) (k : Place) (dir : Names) (t : DiskState) → Finds (at m) path.names (BeginsAt Data) (Ok l) (at n)
          → Keeps (view.state m) k.disk → BeginsDir gather dir Data k.disk (Ok l) t → StandsFor (view.state m).told l.reading.path (view.state n) l.reading l.builder
      by_dir false k dir t finds keeps (Ok reading, begins, whole) =
          subst (λ b. StandsFor (view.state m).told l.reading.path (view.state n) l.reading b) (let e : None ≡ l.builder = cc in e) tt
      by_dir false k dir t finds keeps (Err e, begins, whole) = cc
      by_dir true k dir t finds keeps (inl (starved, as_it_was)) = cc
      by_dir true k dir t finds keeps (inr (b, u, starts_so, Err e, begins, whole)) = cc
      by_dir true k dir t finds keeps (inr (b, u, (said, metas, is_b), Ok reading, (Err d, lists_so, is), whole)) = cc
      by_dir true k dir t finds keeps (inr (b, u, (said, metas, is_b), Ok reading, (Ok lister, lists_so, is), whole)) =
          subst (λ b. StandsFor (view.state m).told l.reading.path (view.state n) l.reading b) (let e : Some b ≡ l.builder = cc in e) (record {
            dir_is = ap (λ (x : BuilderState). x.dir) is_b ∙ here;
            time = λ w now clear time before.
                (let (v, told, besides) = told_after (view.state m).told k.disk.told SameBesidesOpens w keeps.world now in
                let clear_then : is_linked v.tree dir ≡ false = ap (λ rows. is_linked rows dir) besides.tree ∙ (ap (is_linked w.tree) here ∙ clear) in
                ap (dir_time w.tree) (sym here) ∙ (ap (λ rows. dir_time rows dir) (sym besides.tree)
                ∙ time_there said k.disk u dir v time metas told clear_then (sym (ap (λ (x : BuilderState). x.before) is_b) ∙ before)));
            names = λ w now clear. inr (to_come b (ap (λ (x : BuilderState). x.names) is_b) w now clear finds);
          })
        where
          here : dir ≡ l.reading.path
          here = (let e : l.reading ≡ record { lister = lister; path = dir; wanted = Data; batch = []; refused = None; over = false } = cc in sym (ap (λ (d : ListingState). d.path) e))

      by_found : Finds (at m) path.names (BeginsAt Data) (Ok l) (at n) → Led (view.state m).told l.reading.path m n l
      by_found (Err e, k, resolves, (is, ends)) = cc
      by_found (Ok dir, k, resolves, (t, begins, ends)) = record {
        paths = stays;
        learns = nothing_learned (view.state m).told (memory m) (memory n)
            (subst (λ (p : Place). LearnsNothing (memory m) p.memory) (sym ends) resolves.learns);
        stands = by_dir (gathers k.ways.macos Data) k dir t (Ok dir, k, resolves, (t, begins, ends)) resolves.keeps begins;
      }

  -- What a whole listing teaches is what the told world has.
  pub listing_learns : (m n : S) (c : C) (path : WebPath) → ListedThrough view lists Data m c path n
      → (ways n ≡ ways m) × Learns (view.state m).told (knowledge_of (memory m)) (knowledge_of (memory n))
  listing_learns m n c path through =
      let led = listed_led (view.state m).told through.listing.reading.path m through.begin through.listing through.after through.over (starts m through.begin c path through.listing through.begins) through.on in
      let still = (local.ends through.after n through.over through.ended).1 in (
        ap (λ (p : Place). p.ways) still ∙ led.paths,
        learns_told_then (view.state m).told (knowledge_of (memory m)) (knowledge_of (memory through.after)) (knowledge_of (memory n)) led.learns
            (same_learned (view.state m).told (memory through.after) (memory n) (ap (λ (p : Place). p.memory) still)),
      )
