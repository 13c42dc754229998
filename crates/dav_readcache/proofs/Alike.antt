-- A cache whose entries are sound shows what the store inside shows.
use Rattle.std.specs.Prelude.{◌≡◌, ◌≤◌, ◌+◌, ◌==◌, ◌&&◌, ◌⊎◌, ℕ, List, [], ◌∷◌, length, take, drop, Bool, true, false, cond, nat_eq, nat_le, Option, None, Some, IfOk, IfSome, IsErr, Result, Ok, Err, refl}
use Rattle.std.specs.Option.{option_map}
use Rattle.std.specs.Cmp.Lexicographic.{pointwise}
use Rattle.std.specs.Map.{lookup}
use Rattle.std.proofs.Common.{sym, ap, subst, ◌∙◌, inl, inr, arith}
use Rattle.std.proofs.lemmas.Bool.{and_parts}
use Rattle.std.proofs.Math.Seq.{take-length}
use Rattle.dav_io.specs.declared.failure.NoMemory.{NoMemory}
use Rattle.dav_io.proofs.ToldLemmas.{told_after}
use Rattle.dav_core.specs.declared.error.FsError.{FsError}
use Rattle.dav_core.specs.declared.error.FsError.TheVariants as fs
use Rattle.dav_core.specs.declared.tree.Kind.TheVariants.{File}
use Rattle.dav_core.specs.DavPath.{WebPath}
use Rattle.dav_core.specs.Disk.{DiskState}
use Rattle.dav_core.specs.Info.{Info, known, tag_of}
use Rattle.dav_core.specs.Tree.{is_file}
use Rattle.dav_core.specs.World.{Stored, SameBesidesOpens, World, bytes_or_none}
use Rattle.dav_core.proofs.UnchangedLemmas.{equal_keys}
use Rattle.dav_store.specs.Files.{Spoiled}
use Rattle.dav_store.specs.Shows.{IsThere, Looked, OpensThere, Shows, here, looks, looks_at_link}
use Rattle.dav_store.specs.Standing.{AgreesOpen, Seen, Standing}
use Rattle.dav_store.specs.View.{View, seen_in}
use Rattle.dav_readcache.specs.declared.cached.CachedFile.{CachedFile}
use Rattle.dav_readcache.specs.declared.cached.Reading.{Reading}
use Rattle.dav_readcache.specs.declared.keeping.Wanted.{Wanted}
use Rattle.dav_readcache.specs.declared.store.ReadCache.{ReadCache}
use Rattle.dav_readcache.specs.Cached.{cached_file, is_tag, place_of, seen_as, shown}
use Rattle.dav_readcache.specs.Opening.{AfterOpen, EndsOpen, Fetches, FrontIn, Holds, HoldsBy, HoldsOpened, HoldsWanted, Keeps, KeepsWhere, Opening, Starves, holding, says_tag, unheld, wanted_by, wanted_of}
use Rattle.dav_readcache.specs.Shelf.{Pairs, ShelfState, bytes_for}
use Rattle.dav_readcache.specs.Sound.{AreFilesTold, AreSoundIn, IsFileIn, IsSoundIn, IsWorldThere}
use Rattle.dav_readcache.specs.Store.{cache_view}
use Rattle.dav_readcache.proofs.Opened.{IsReadFrom, is_holding, is_unheld, kept_from, refused_any}
use Rattle.dav_readcache.proofs.Showing.{same_bytes, tag_same}
use Rattle.dav_readcache.proofs.Stepping.{place_placed}
use Rattle.dav_core.proofs.Rows.{file_kind}

-- Sound in a world, sound in one that differs only in what is open.
pub sound_beside : (w v : World) (tag bytes : List ℕ) → SameBesidesOpens w v → IsSoundIn w tag bytes → IsSoundIn v tag bytes
sound_beside w v tag bytes beside sound = λ number held is.
    let (before, same) = beside.files number held in
    ap bytes_or_none same ∙ sound number before (sym (ap (λ (x : Option Stored). tag_of File number (length (bytes_or_none x)) (known (option_map (λ (s : Stored). s.time) x))) same) ∙ is)

-- ---- an entry is found among sound ones

found_when : (b : Bool) (w : World) (tag key bytes found : List ℕ) (rest : Option (List ℕ)) → pointwise nat_eq tag key ≡ b → IsSoundIn w key bytes → (rest ≡ Some found → IsSoundIn w tag found)
    → cond b (Some bytes) rest ≡ Some found → IsSoundIn w tag found
found_when true w tag key bytes found rest same sound on e =
    let is : bytes ≡ found = cc in
    let key_is : ◌≡◌ {A = Option (List ℕ)} (Some key) (Some tag) = tag_same tag (Some key) same in
    let k : key ≡ tag = cc in
    subst (λ t. IsSoundIn w t found) k (subst (λ b. IsSoundIn w key b) is sound)
found_when false w tag key bytes found rest same sound on e = on e

pub found_sound : (w : World) (tag found : List ℕ) (pairs : Pairs) → AreSoundIn w pairs → lookup (pointwise nat_eq tag) pairs ≡ Some found → IsSoundIn w tag found
found_sound w tag found [] all e = cc
found_sound w tag found (pair ∷ pairs) (one, all) e =
    found_when (pointwise nat_eq tag pair.0) w tag pair.0 pair.1 found (lookup (pointwise nat_eq tag) pairs) refl one (found_sound w tag found pairs all) e

-- ---- what is wanted of a file

wanted_when : (b : Bool) (tag : Option (List ℕ)) (len : ℕ) (wanted : Wanted) → ◌≡◌ {A = Option Wanted} (cond b (option_map (λ tag. record { tag = tag; len = len }) tag) None) (Some wanted)
    → (b ≡ true) × (tag ≡ Some wanted.tag) × (wanted.len ≡ len)
wanted_when true (Some tag) len wanted e =
    let given : Wanted = record { tag = tag; len = len } in
    let same : given ≡ wanted = cc in
    (refl, ap (λ (x : Wanted). Some x.tag) same, ap (λ (x : Wanted). x.len) (sym same))
wanted_when true None len wanted e = cc
wanted_when false tag len wanted e = cc

-- It is a regular file, with this tag and this length.
pub wanted_parts : (most : ℕ) (info : Info) (wanted : Wanted) → wanted_of most info ≡ Some wanted → (is_file info.kind ≡ true) × (info.tag ≡ Some wanted.tag) × (wanted.len ≡ info.len)
wanted_parts most info wanted is =
    let (asks, tag, len) = wanted_when (is_file info.kind && nat_le info.len most) info.tag info.len wanted is in
    ((and_parts (is_file info.kind) (nat_le info.len most) asks).0, tag, len)

module _ (w : World) (f : Seen) (told : f.stands.kind ≡ File → (v : World) × SameBesidesOpens w v × IsFileIn v f.stands) where
  shown_entry : (tag bytes : List ℕ) → IsSoundIn w tag bytes → shown (Some (record { tag = tag; bytes = bytes })) f.stands ≡ f.stands
  shown_entry tag bytes sound = same_bytes (is_file f.stands.kind && is_tag tag f.stands.tag) bytes f.stands (λ e.
      let parts = and_parts (is_file f.stands.kind) (is_tag tag f.stands.tag) e in
      let (v, beside, is) = told (file_kind f.stands.kind parts.0) in
      sym (sound_beside w v tag bytes beside sound f.stands.number is.held (sym is.tag ∙ tag_same tag f.stands.tag parts.1)) ∙ sym is.bytes)

  pub agrees_in : (most : ℕ) (info : Info) (wanted : Wanted) → wanted_of most info ≡ Some wanted → AgreesOpen info f.stands → (f.stands.kind ≡ File) × (f.stands.tag ≡ Some wanted.tag)
  agrees_in most info wanted is agrees =
      let (asks, tag, len) = wanted_parts most info wanted is in
      let regular : is_file f.stands.kind ≡ true = ap is_file (sym agrees.kind) ∙ asks in
      (file_kind f.stands.kind regular, sym (agrees.file regular).tag ∙ tag)

  pub read_all : (most : ℕ) (info : Info) (wanted : Wanted) (buffer : List ℕ) (n : ℕ) (g : Seen) → f.place ≡ 0 → wanted_of most info ≡ Some wanted → AgreesOpen info f.stands → length buffer ≡ wanted.len
      → n ≡ wanted.len → FrontIn buffer n f g → buffer ≡ f.stands.bytes
  read_all most info wanted buffer n g first is agrees whole all front =
      let (asks, tag, len) = wanted_parts most info wanted is in
      let regular : is_file f.stands.kind ≡ true = ap is_file (sym agrees.kind) ∙ asks in
      let (v, beside, there) = told (file_kind f.stands.kind regular) in
      let agreed = agrees.file regular in
      let long : n ≡ length f.stands.bytes = all ∙ (len ∙ (agreed.len ∙ there.len)) in
      let same : n ≡ length buffer = all ∙ sym whole in
      let a : take n buffer ≡ buffer = ap (λ k. take k buffer) same ∙ take-length buffer in
      let b : take n (drop f.place f.stands.bytes) ≡ f.stands.bytes = ap (λ p. take n (drop p f.stands.bytes)) first ∙ (ap (λ k. take k f.stands.bytes) long ∙ take-length f.stands.bytes) in
      sym a ∙ (front.1 ∙ b)

  shown_read : (tag bytes : List ℕ) → bytes ≡ f.stands.bytes → shown (Some (record { tag = tag; bytes = bytes })) f.stands ≡ f.stands
  shown_read tag bytes same = same_bytes (is_file f.stands.kind && is_tag tag f.stands.tag) bytes f.stands (λ e. same)

  -- where what is held is what stands there
  abbrev IsShownSame : Result Reading NoMemory → Type 0
  IsShownSame result = IfOk result (λ r. shown r.content f.stands ≡ f.stands)

  same_unheld : (n : ℕ) (result : Result Reading NoMemory) → result ≡ Ok (unheld n) → IsShownSame result
  same_unheld n result e = subst (λ (x : Result Reading NoMemory). IfOk x (λ r. shown r.content f.stands ≡ f.stands)) (sym e) refl

  same_holding : (tag bytes : List ℕ) (n : ℕ) (result : Result Reading NoMemory) → result ≡ Ok (holding tag bytes n) → shown (Some (record { tag = tag; bytes = bytes })) f.stands ≡ f.stands → IsShownSame result
  same_holding tag bytes n result e same = subst (λ (x : Result Reading NoMemory). IfOk x (λ r. shown r.content f.stands ≡ f.stands)) (sym e) same

  same_refused : (result : Result Reading NoMemory) → IsErr result → IsShownSame result
  same_refused (Ok r) e = cc
  same_refused (Err x) e = tt

  module _ {S C F : Type 0} (view : View S C F) where
    -- where a content is looked for of a file that is shown as f
    record Shown (p : Opening S F) (result : Result Reading NoMemory) (q : Opening S F) : Type 0 where
      count : ℕ
      after : Seen
      seen : seen_in view q.store q.file ≡ Some after
      stands : after.stands ≡ f.stands
      place : after.place ≡ count
      from : IsReadFrom count result
      same : IsShownSame result

    shown_at : (p m q : Opening S F) (result : Result Reading NoMemory) → f.place ≡ 0 → seen_in view m.store m.file ≡ Some f → q.store ≡ m.store → q.file ≡ m.file → IsReadFrom 0 result → IsShownSame result → Shown p result q
    shown_at p m q result first is store file from same = record {
      count = 0;
      after = f;
      seen = subst (λ x. seen_in view x q.file ≡ Some f) (sym store) (subst (λ x. seen_in view m.store x ≡ Some f) (sym file) is);
      stands = refl;
      place = first;
      from = from;
      same = same;
    }

    shown_starved : (p m q : Opening S F) (result : Result Reading NoMemory) → f.place ≡ 0 → seen_in view m.store m.file ≡ Some f → Starves m result q → Shown p result q
    shown_starved p m q result first is starves =
        shown_at p m q result first is (ap (λ (x : Opening S F). x.store) starves.same) (ap (λ (x : Opening S F). x.file) starves.same) (refused_any 0 result starves.refused) (same_refused result starves.refused)

    kept_same : (tag bytes : List ℕ) (s t : ShelfState) (result : Result Reading NoMemory) → bytes ≡ f.stands.bytes → Keeps tag bytes s result t → IsShownSame result
    kept_same tag bytes s t result same (inl done) = same_holding tag bytes (length bytes) result done.0 (shown_read tag bytes same)
    kept_same tag bytes s t result same (inr refused) = same_refused result refused.0

    where_same : (b : Bool) (n len : ℕ) (tag buffer : List ℕ) (s t : ShelfState) (result : Result Reading NoMemory) (same : Bool) → ((n == len) && same) ≡ b → length buffer ≡ len
        → (n ≡ len → buffer ≡ f.stands.bytes) → KeepsWhere b tag buffer n s result t → IsReadFrom n result × IsShownSame result
    where_same true n len tag buffer s t result same all is on keeps =
        let e : n ≡ len = equal_keys n len (and_parts (n == len) same all).0 in
        (kept_from n tag buffer s t result (omega (arith, e, is)) keeps, kept_same tag buffer s t result (on e) keeps)
    where_same false n len tag buffer s t result same all is on keeps = (is_unheld n result keeps.0, same_unheld n result keeps.0)

    shown_fetched : (most : ℕ) (info : Info) (p m q : Opening S F) (result : Result Reading NoMemory) (wanted : Wanted) → f.place ≡ 0 → wanted_of most info ≡ Some wanted → AgreesOpen info f.stands
        → seen_in view m.store m.file ≡ Some f → Fetches view wanted m result q → Shown p result q
    shown_fetched most info p m q result wanted first asks agrees is fetches =
        let (g, seen, front) = told_after (seen_in view m.store m.file) (seen_in view fetches.store fetches.file) (FrontIn fetches.buffer fetches.count) f fetches.reads.reads.told is in
        let (from, same) = where_same ((fetches.count == wanted.len) && says_tag wanted.tag fetches.said) fetches.count wanted.len wanted.tag fetches.buffer m.shelf q.shelf result
        (says_tag wanted.tag fetches.said) refl fetches.len (λ all. read_all most info wanted fetches.buffer fetches.count g first asks agrees fetches.len all front) fetches.keeps in
        let moved : g.place ≡ f.place + fetches.count = ap (λ (x : Seen). x.place) front.2 in
        record {
          count = fetches.count;
          after = g;
          seen = fetches.says.done.same ∙ seen;
          stands = ap (λ (x : Seen). x.stands) front.2;
          place = omega (arith, moved, first);
          from = from;
          same = same;
        }

    shown_by : (found : Option (List ℕ)) (most : ℕ) (info : Info) (p m q : Opening S F) (result : Result Reading NoMemory) (wanted : Wanted) → f.place ≡ 0 → wanted_of most info ≡ Some wanted → AgreesOpen info f.stands
        → seen_in view m.store m.file ≡ Some f → ((bytes : List ℕ) → found ≡ Some bytes → IsSoundIn w wanted.tag bytes) → HoldsBy view found wanted m result q → Shown p result q
    shown_by (Some bytes) most info p m q result wanted first asks agrees is sound (inl held) =
        shown_at p m q result first is (ap (λ (x : Opening S F). x.store) held.1) (ap (λ (x : Opening S F). x.file) held.1) (is_holding wanted.tag bytes 0 result held.0)
        (same_holding wanted.tag bytes 0 result held.0 (shown_entry wanted.tag bytes (sound bytes refl)))
    shown_by (Some bytes) most info p m q result wanted first asks agrees is sound (inr starves) = shown_starved p m q result first is starves
    shown_by None most info p m q result wanted first asks agrees is sound (inl starves) = shown_starved p m q result first is starves
    shown_by None most info p m q result wanted first asks agrees is sound (inr fetches) = shown_fetched most info p m q result wanted first asks agrees is fetches

    shown_where : (wanted : Option Wanted) (most : ℕ) (info : Info) (p m q : Opening S F) (result : Result Reading NoMemory) → f.place ≡ 0 → wanted_of most info ≡ wanted → AgreesOpen info f.stands
        → seen_in view m.store m.file ≡ Some f → AreSoundIn w m.shelf.entries → HoldsWanted view wanted m result q → Shown p result q
    shown_where None most info p m q result first asks agrees is sound held =
        shown_at p m q result first is (ap (λ (x : Opening S F). x.store) held.1) (ap (λ (x : Opening S F). x.file) held.1) (is_unheld 0 result held.0) (same_unheld 0 result held.0)
    shown_where (Some wanted) most info p m q result first asks agrees is sound held =
        shown_by (bytes_for wanted.tag m.shelf) most info p m q result wanted first asks agrees is (λ bytes found. found_sound w wanted.tag bytes m.shelf.entries sound found) held

    shown_said : (said : Result Info FsError) (p m q : Opening S F) (result : Result Reading NoMemory) → f.place ≡ 0 → IfOk said (λ info. AgreesOpen info f.stands)
        → seen_in view m.store m.file ≡ Some f → AreSoundIn w m.shelf.entries → HoldsWanted view (wanted_by m.shelf.most said) m result q → Shown p result q
    shown_said (Ok info) p m q result first agrees is sound held = shown_where (wanted_of m.shelf.most info) m.shelf.most info p m q result first refl agrees is sound held
    shown_said (Err e) p m q result first agrees is sound held =
        shown_at p m q result first is (ap (λ (x : Opening S F). x.store) held.1) (ap (λ (x : Opening S F). x.file) held.1) (is_unheld 0 result held.0) (same_unheld 0 result held.0)

    agrees_of : (said : Result Info FsError) (seen : Option Seen) → seen ≡ Some f → IfOk said (λ info. IfSome seen (λ g. AgreesOpen info g.stands)) → IfOk said (λ info. AgreesOpen info f.stands)
    agrees_of (Ok info) seen e all = subst (λ (x : Option Seen). IfSome x (λ g. AgreesOpen info g.stands)) e all
    agrees_of (Err x) seen e all = tt

    holds_shown : (p q : Opening S F) (result : Result Reading NoMemory) → f.place ≡ 0 → seen_in view p.store p.file ≡ Some f → AreSoundIn w p.shelf.entries → Holds view p result q → Shown p result q
    holds_shown p q result first is sound holds = by holds.holds
      where
        by : Starves (record p { store = holds.store; file = holds.file }) result q ⊎ HoldsWanted view (wanted_by p.shelf.most holds.said) (record p { store = holds.store; file = holds.file }) result q → Shown p result q
        by (inl starves) = shown_starved p (record p { store = holds.store; file = holds.file }) q result first (holds.says.done.same ∙ is) starves
        by (inr held) = shown_said holds.said p (record p { store = holds.store; file = holds.file }) q result first (agrees_of holds.said (seen_in view p.store p.file) is holds.says.done.told) (holds.says.done.same ∙ is) sound held

    -- the file that is held is shown as the one that the store opened
    shown_as_opened : (r : Reading) (p q : Opening S F) → f.place ≡ 0 → Shown p (Ok r) q → option_map (seen_as r) (seen_in view q.store q.file) ≡ Some f
    shown_as_opened r p q first is =
        let at : is.after.place ≡ is.count = is.place in
        let stands : shown r.content is.after.stands ≡ f.stands = ap (shown r.content) is.stands ∙ is.same in
        let place : place_of r.pending is.after.place ≡ f.place =
        ap (λ x. place_of x is.after.place) is.from.1 ∙ (place_placed (Some is.count) 0 is.after.place (λ a e. at ∙ some_nat is.count a e) ∙ sym first) in
        ap (option_map (seen_as r)) is.seen ∙ ap (λ x. Some x) (ap (λ x. record { stands = x; place = place_of r.pending is.after.place }) stands ∙ ap (λ x. record { stands = f.stands; place = x }) place)
      where
        some_nat : (a b : ℕ) → ◌≡◌ {A = Option ℕ} (Some a) (Some b) → a ≡ b
        some_nat a b e = cc

-- ---- counts

module _ {S C F : Type 0} (view : View S C F) where
  abbrev faults_at : S → ℕ
  faults_at s = (view.state s).faults

  counts_by : (found : Option (List ℕ)) (wanted : Wanted) (m q : Opening S F) (result : Result Reading NoMemory) → HoldsBy view found wanted m result q → faults_at m.store ≤ faults_at q.store
  counts_by (Some bytes) wanted m q result (inl held) = same_count (ap (λ (x : Opening S F). faults_at x.store) held.1)
    where
      same_count : faults_at q.store ≡ faults_at m.store → faults_at m.store ≤ faults_at q.store
      same_count e = omega (arith, e)
  counts_by (Some bytes) wanted m q result (inr starves) = let e : faults_at q.store ≡ faults_at m.store = ap (λ (x : Opening S F). faults_at x.store) starves.same in omega (arith, e)
  counts_by None wanted m q result (inl starves) = let e : faults_at q.store ≡ faults_at m.store = ap (λ (x : Opening S F). faults_at x.store) starves.same in omega (arith, e)
  counts_by None wanted m q result (inr fetches) = let a = fetches.reads.reads.keeps.counts in let b = fetches.says.done.keeps.counts in omega (arith, a, b)

  counts_where : (wanted : Option Wanted) (m q : Opening S F) (result : Result Reading NoMemory) → HoldsWanted view wanted m result q → faults_at m.store ≤ faults_at q.store
  counts_where None m q result held = let e : faults_at q.store ≡ faults_at m.store = ap (λ (x : Opening S F). faults_at x.store) held.1 in omega (arith, e)
  counts_where (Some wanted) m q result held = counts_by (bytes_for wanted.tag m.shelf) wanted m q result held

  holds_counts : (p q : Opening S F) (result : Result Reading NoMemory) → Holds view p result q → faults_at p.store ≤ faults_at q.store
  holds_counts p q result holds = by holds.holds
    where
      on : faults_at holds.store ≤ faults_at q.store → faults_at p.store ≤ faults_at q.store
      on le = let a = holds.says.done.keeps.counts in omega (arith, a, le)

      by : Starves (record p { store = holds.store; file = holds.file }) result q ⊎ HoldsWanted view (wanted_by p.shelf.most holds.said) (record p { store = holds.store; file = holds.file }) result q → faults_at p.store ≤ faults_at q.store
      by (inl starves) = on (let e : faults_at q.store ≡ faults_at holds.store = ap (λ (x : Opening S F). faults_at x.store) starves.same in omega (arith, e))
      by (inr held) = on (counts_where (wanted_by p.shelf.most holds.said) (record p { store = holds.store; file = holds.file }) q result held)

  ends_counts : (held : Result Reading NoMemory) (q : Opening S F) (result : Result (CachedFile F) FsError) (t : S) (shelf : ShelfState) → EndsOpen view held q result t shelf → faults_at q.store ≤ faults_at t
  ends_counts (Ok r) q result t shelf ends = let e : faults_at t ≡ faults_at q.store = ap faults_at ends.1 in omega (arith, e)
  ends_counts (Err x) q result t shelf ends = let e = ends.1.done.counts in omega (arith, e)

  opened_counts : (p : Opening S F) (result : Result (CachedFile F) FsError) (t : S) (shelf : ShelfState) → HoldsOpened view p result t shelf → faults_at p.store ≤ faults_at t
  opened_counts p result t shelf opened =
      let a = holds_counts p opened.at opened.held opened.holds in
      let b = ends_counts opened.held opened.at result t shelf opened.ends in
      omega (arith, a, b)

  after_counts : (o : Result F FsError) (k : S) (m n : ReadCache S C) (result : Result (CachedFile F) FsError) → AfterOpen view o k m result n → faults_at k ≤ faults_at n.store
  after_counts (Err e) k m n result after = let e : faults_at n.store ≡ faults_at k = ap (λ (x : ReadCache S C). faults_at x.store) after.1 in omega (arith, e)
  after_counts (Ok file) k m n result after = opened_counts (record { store = k; file = file; shelf = m.shelf }) result n.store n.shelf after.0

  -- ---- what the cache shows

  pub looked_inside : (s : ReadCache S C) (c : C) (t : ReadCache S C) → Looked (cache_view view) s c t → Looked view s.store c t.store × (t.shelf ≡ s.shelf)
  looked_inside s c t here = (here, refl)
  looked_inside s c t (looks m n path r before call) =
      let (inside, same) = looked_inside s c m before in (looks m.store n.store path r inside call.0, ap (λ (x : ReadCache S C). x.shelf) call.1 ∙ same)
  looked_inside s c t (looks_at_link m n path r before call) =
      let (inside, same) = looked_inside s c m before in (looks_at_link m.store n.store path r inside call.0, ap (λ (x : ReadCache S C). x.shelf) call.1 ∙ same)

  err_is : {A : Type 0} (a b : FsError) → ◌≡◌ {A = Result A FsError} (Err a) (Err b) → a ≡ b
  err_is a b e = cc

  refused_there : (opened : Result Standing FsError) (e : FsError) (s t : DiskState) → OpensThere {F = F} view.file.seen opened (Err e) t ⊎ Spoiled {T = F} s (Err e) t
      → OpensThere {F = CachedFile F} (cached_file view.file).seen opened (Err e) t ⊎ Spoiled {T = CachedFile F} s (Err e) t
  refused_there (Ok there) e s t (inl never) = absurd never
  refused_there (Err x) e s t (inl same) = inl same
  refused_there opened e s t (inr (inl (is, rose))) = inr (inl (ap (λ x. Err x) (err_is {A = F} e fs.GeneralFailure is), rose))
  refused_there opened e s t (inr (inr is)) = inr (inr (ap (λ x. Err x) (err_is {A = F} e fs.NoMemory is)))

  held_there : (w : World) (f : Seen) (told : f.stands.kind ≡ File → (v : World) × SameBesidesOpens w v × IsFileIn v f.stands) (there : Standing) (held : Result Reading NoMemory) (p q : Opening S F)
      (result : Result (CachedFile F) FsError) (t : S) (shelf : ShelfState) (s : DiskState) → IsThere there f → seen_in view p.store p.file ≡ Some f → AreSoundIn w p.shelf.entries → Holds view p held q → EndsOpen view held q result t shelf
      → OpensThere (cached_file view.file).seen (Ok there) result (view.state t) ⊎ Spoiled s result (view.state t)
  held_there w f told there (Ok r) p q result t shelf s is seen sound holds ends =
      let same = shown_as_opened w f told view r p q is.place (holds_shown w f told view p q (Ok r) is.place seen sound holds) in
      inl (subst (λ x. OpensThere (cached_file view.file).seen (Ok there) x (view.state t)) (sym ends.0)
      (subst (λ x. OpensThere (cached_file view.file).seen (Ok there) (Ok (record { file = q.file; reading = Some r })) (view.state x)) (sym ends.1) (f, same, is)))
  held_there w f told there (Err x) p q result t shelf s is seen sound holds ends = inr (inr ends.0)

  opened_there : (w : World) (opened : Result Standing FsError) (o : Result F FsError) (k : S) (m n : ReadCache S C) (result : Result (CachedFile F) FsError) → AreFilesTold view.file
      → ((v : World) → (view.state k).told ≡ Some v → SameBesidesOpens w v) → AreSoundIn w m.shelf.entries → OpensThere view.file.seen opened o (view.state k) ⊎ Spoiled (view.state m.store) o (view.state k)
      → AfterOpen view o k m result n → OpensThere (cached_file view.file).seen opened result (view.state n.store) ⊎ Spoiled (view.state m.store) result (view.state n.store)
  opened_there w opened (Err e) k m n result files world sound there after =
      subst (λ x. OpensThere (cached_file view.file).seen opened x (view.state n.store) ⊎ Spoiled (view.state m.store) x (view.state n.store)) (sym after.0)
      (subst (λ (x : ReadCache S C). OpensThere {F = CachedFile F} (cached_file view.file).seen opened (Err e) (view.state x.store) ⊎ Spoiled {T = CachedFile F} (view.state m.store) (Err e) (view.state x.store)) (sym after.1)
      (refused_there opened e (view.state m.store) (view.state k) there))
  opened_there w opened (Ok file) k m n result files world sound (inr (inl (is, rose))) after = cc
  opened_there w opened (Ok file) k m n result files world sound (inr (inr is)) after = cc
  opened_there w (Err e) (Ok file) k m n result files world sound (inl never) after = absurd never
  opened_there w (Ok there) (Ok file) k m n result files world sound (inl (f, seen, is)) (opens, same) =
      held_there w f told there opens.held (record { store = k; file = file; shelf = m.shelf }) opens.at result n.store n.shelf (view.state m.store) is seen sound opens.holds opens.ends
    where
      told : f.stands.kind ≡ File → (v : World) × SameBesidesOpens w v × IsFileIn v f.stands
      told regular = let (v, tells, is_in) = files file (view.state k) f seen regular in (v, world v tells, is_in)

  pub shows_alike : (s : ReadCache S C) (c : C) (w : World) (path : WebPath) (looked opened : Result Standing FsError) → AreFilesTold view.file → IsWorldThere view s.store c path w
      → AreSoundIn w s.shelf.entries → Shows view s.store c path looked opened → Shows (cache_view view) s c path looked opened
  shows_alike s c w path looked opened files world sound shows = record {
    looks_there = λ m n r before call. shows.looks_there m.store n.store r (looked_inside s c m before).0 call.0;
    opens_there = λ m n o before call.
        let (first, k, opens, after) = call in
        let (inside, same) = looked_inside s c m before in
        opened_there w opened first k m n o files (λ v told. world m.store k first v inside opens told) (subst (λ (x : ShelfState). AreSoundIn w x.entries) (sym same) sound)
        (shows.opens_there m.store k first inside opens) after;
    looks_counts = λ m n r before call. shows.looks_counts m.store n.store r (looked_inside s c m before).0 call.0;
    opens_counts = λ m n o before call.
        let (first, k, opens, after) = call in
        let a = shows.opens_counts m.store k first (looked_inside s c m before).0 opens in
        let b = after_counts first k m n o after in
        omega (arith, a, b);
  }
