-- Entries stay sound.
use Rattle.std.specs.Prelude.{◌≡◌, ◌-◌, ◌==◌, ◌&&◌, ◌⊎◌, ℕ, List, [], ◌∷◌, length, Bool, true, false, cond, nat_eq, nat_le, Option, None, Some, IfOk, IfSome, Result, Ok, Err, refl}
use Rattle.std.specs.Cmp.Lexicographic.{pointwise}
use Rattle.std.specs.List.{AllByRecursion}
use Rattle.std.specs.Map.{lookup_entry, remove_entry}
use Rattle.std.specs.Option.{option_map, option_map_or}
use Rattle.std.proofs.Common.{sym, ap, subst, ◌∙◌, inl, inr}
use Rattle.std.proofs.lemmas.Bool.{and_parts}
use Rattle.dav_io.specs.declared.failure.NoMemory.{NoMemory}
use Rattle.dav_io.proofs.ToldLemmas.{told_after}
use Rattle.dav_core.specs.declared.error.FsError.{FsError}
use Rattle.dav_core.specs.declared.tree.Kind.TheVariants.{File}
use Rattle.dav_core.specs.Info.{Info, known, tag_of}
use Rattle.dav_core.specs.World.{SameBesidesOpens, Stored, World, bytes_of, bytes_or_none}
use Rattle.dav_core.proofs.UnchangedLemmas.{equal_keys}
use Rattle.dav_store.specs.Standing.{AgreesOpen, Seen}
use Rattle.dav_core.specs.DavPath.{WebPath}
use Rattle.dav_core.specs.Writing.{reading}
use Rattle.dav_store.specs.View.{View, seen_in}
use Rattle.lru.specs.LruCache as lru
use Rattle.dav_readcache.specs.declared.cached.CachedFile.{CachedFile}
use Rattle.dav_readcache.specs.declared.cached.Reading.{Reading}
use Rattle.dav_readcache.specs.declared.keeping.Wanted.{Wanted}
use Rattle.dav_readcache.specs.declared.store.ReadCache.{ReadCache}
use Rattle.dav_readcache.specs.Store.{cache_view}
use Rattle.dav_readcache.specs.Opening.{AfterOpen, EndsOpen, Fetches, FrontIn, Holds, HoldsBy, HoldsOpened, HoldsWanted, Keeps, KeepsWhere, Opening, Starves, says_tag, wanted_by, wanted_of}
use Rattle.dav_readcache.specs.Shelf.{Pairs, ShelfState, bytes_for, front_within}
use Rattle.dav_readcache.specs.Sound.{AreFaithful, AreFilesTold, AreSound, In, IsFileIn, IsSound, OpensTold, tag_in}
use Rattle.dav_readcache.proofs.Alike.{agrees_in, read_all}

module _ (P : List ℕ × List ℕ → Type 0) where
  IsAlso : Option (List ℕ × List ℕ) → Type 0
  IsAlso None = Unit {0}
  IsAlso (Some pair) = P pair

  taken_when : (test : List ℕ → Bool) (b : Bool) (p : List ℕ × List ℕ) (pairs : Pairs) → P p → AllByRecursion P pairs → IsAlso (lookup_entry test pairs) × AllByRecursion P (remove_entry test pairs)
      → IsAlso (cond b (Some p) (lookup_entry test pairs)) × AllByRecursion P (cond b pairs (p ∷ remove_entry test pairs))
  unfolding IsAlso
  taken_when test true p pairs one all rest = (one, all)
  taken_when test false p pairs one all rest = (rest.0, (one, rest.1))

  taken : (test : List ℕ → Bool) (pairs : Pairs) → AllByRecursion P pairs → IsAlso (lookup_entry test pairs) × AllByRecursion P (remove_entry test pairs)
  unfolding IsAlso
  taken test [] all = (tt, tt)
  taken test (p ∷ pairs) (one, all) = taken_when test (test p.0) p pairs one all (taken test pairs all)

  also_as : (found : Option (List ℕ × List ℕ)) (pairs rest : Pairs) → AllByRecursion P pairs → IsAlso found × AllByRecursion P rest → AllByRecursion P (option_map_or (λ e. e ∷ rest) found pairs)
  unfolding IsAlso
  also_as None pairs rest all parts = all
  also_as (Some p) pairs rest all parts = parts

  all_promoted : (test : List ℕ → Bool) (pairs : Pairs) → AllByRecursion P pairs → AllByRecursion P (lru.promoted test pairs)
  all_promoted test pairs all = also_as (lookup_entry test pairs) pairs (remove_entry test pairs) all (taken test pairs all)

  front_when : (b : Bool) (p : List ℕ × List ℕ) (rest : Pairs) → P p → AllByRecursion P rest → AllByRecursion P (cond b (p ∷ rest) [])
  front_when true p rest one all = (one, all)
  front_when false p rest one all = tt

  all_front : (n r : ℕ) (pairs : Pairs) → AllByRecursion P pairs → AllByRecursion P (front_within n r pairs)
  all_front n r [] all = tt
  all_front n r (p ∷ pairs) (one, all) = front_when (nat_le 1 n && nat_le (length p.1) r) p (front_within (n - 1) (r - length p.1) pairs) one (all_front (n - 1) (r - length p.1) pairs all)

-- A file of a world that differs only in what is open is one of the world.
module _ (trail : List World) (faithful : AreFaithful trail) (w : World) (inside : In w trail) (f : Seen)
    (told : f.stands.kind ≡ File → (v : World) × SameBesidesOpens w v × IsFileIn v f.stands) where
  pub read_sound : (tag : List ℕ) → f.stands.kind ≡ File → f.stands.tag ≡ Some tag → IsSound trail tag f.stands.bytes
  read_sound tag regular is =
      let (v, beside, there) = told regular in
      let (before, same) = beside.files f.stands.number there.held in
      let tagged : tag_in w f.stands.number ≡ Some tag = sym (ap (λ (x : Option Stored). tag_of File f.stands.number (length (bytes_or_none x)) (known (option_map (λ (s : Stored). s.time) x))) same) ∙ (sym there.tag ∙ is) in
      let bytes : f.stands.bytes ≡ bytes_of w f.stands.number = there.bytes ∙ ap bytes_or_none same in
      λ x in_trail number held other. faithful w x f.stands.number number tag inside in_trail before held tagged other ∙ sym bytes

  kept_sound : (tag bytes : List ℕ) (s t : ShelfState) (result : Result Reading NoMemory) → IsSound trail tag bytes → AreSound trail s.entries → Keeps tag bytes s result t → AreSound trail t.entries
  kept_sound tag bytes s t result one all (inl done) = subst (λ (x : ShelfState). AreSound trail x.entries) (sym done.1) (one, all_front (λ pair. IsSound trail pair.0 pair.1) (s.size - 1) (s.room - length bytes) s.entries all)
  kept_sound tag bytes s t result one all (inr (e, inl same)) = subst (λ (x : ShelfState). AreSound trail x.entries) (sym same) all
  kept_sound tag bytes s t result one all (inr (e, inr room)) =
      subst (λ (x : ShelfState). AreSound trail x.entries) (sym room) (all_front (λ pair. IsSound trail pair.0 pair.1) (s.size - 1) (s.room - length bytes) s.entries all)

  where_sound : (b : Bool) (n len : ℕ) (tag buffer : List ℕ) (s t : ShelfState) (result : Result Reading NoMemory) (same : Bool) → ((n == len) && same) ≡ b
      → (n ≡ len → IsSound trail tag buffer) → AreSound trail s.entries → KeepsWhere b tag buffer n s result t → AreSound trail t.entries
  where_sound true n len tag buffer s t result same is one all keeps = kept_sound tag buffer s t result (one (equal_keys n len (and_parts (n == len) same is).0)) all keeps
  where_sound false n len tag buffer s t result same is one all keeps = subst (λ (x : ShelfState). AreSound trail x.entries) (sym keeps.1) all

  module _ {S C F : Type 0} (view : View S C F) where
    starved_sound : (m q : Opening S F) (result : Result Reading NoMemory) → AreSound trail m.shelf.entries → Starves m result q → AreSound trail q.shelf.entries
    starved_sound m q result all starves = subst (λ (x : Opening S F). AreSound trail x.shelf.entries) (sym starves.same) all

    fetched_sound : (most : ℕ) (info : Info) (m q : Opening S F) (result : Result Reading NoMemory) (wanted : Wanted) → f.place ≡ 0 → wanted_of most info ≡ Some wanted → AgreesOpen info f.stands
        → seen_in view m.store m.file ≡ Some f → AreSound trail m.shelf.entries → Fetches view wanted m result q → AreSound trail q.shelf.entries
    fetched_sound most info m q result wanted first asks agrees is all fetches =
        let (g, seen, front) = told_after (seen_in view m.store m.file) (seen_in view fetches.store fetches.file) (FrontIn fetches.buffer fetches.count) f fetches.reads.reads.told is in
        let (regular, tag) = agrees_in w f told most info wanted asks agrees in
        where_sound ((fetches.count == wanted.len) && says_tag wanted.tag fetches.said) fetches.count wanted.len wanted.tag fetches.buffer m.shelf q.shelf result (says_tag wanted.tag fetches.said) refl
        (λ whole. subst (IsSound trail wanted.tag) (sym (read_all w f told most info wanted fetches.buffer fetches.count g first asks agrees fetches.len whole front)) (read_sound wanted.tag regular tag))
        all fetches.keeps

    by_sound : (found : Option (List ℕ)) (most : ℕ) (info : Info) (m q : Opening S F) (result : Result Reading NoMemory) (wanted : Wanted) → f.place ≡ 0 → wanted_of most info ≡ Some wanted → AgreesOpen info f.stands
        → seen_in view m.store m.file ≡ Some f → AreSound trail m.shelf.entries → HoldsBy view found wanted m result q → AreSound trail q.shelf.entries
    by_sound (Some bytes) most info m q result wanted first asks agrees is all (inl held) =
        subst (λ (x : Opening S F). AreSound trail x.shelf.entries) (sym held.1) (all_promoted (λ pair. IsSound trail pair.0 pair.1) (pointwise nat_eq wanted.tag) m.shelf.entries all)
    by_sound (Some bytes) most info m q result wanted first asks agrees is all (inr starves) = starved_sound m q result all starves
    by_sound None most info m q result wanted first asks agrees is all (inl starves) = starved_sound m q result all starves
    by_sound None most info m q result wanted first asks agrees is all (inr fetches) = fetched_sound most info m q result wanted first asks agrees is all fetches

    wanted_sound : (wanted : Option Wanted) (most : ℕ) (info : Info) (m q : Opening S F) (result : Result Reading NoMemory) → f.place ≡ 0 → wanted_of most info ≡ wanted → AgreesOpen info f.stands
        → seen_in view m.store m.file ≡ Some f → AreSound trail m.shelf.entries → HoldsWanted view wanted m result q → AreSound trail q.shelf.entries
    wanted_sound None most info m q result first asks agrees is all held = subst (λ (x : Opening S F). AreSound trail x.shelf.entries) (sym held.1) all
    wanted_sound (Some wanted) most info m q result first asks agrees is all held = by_sound (bytes_for wanted.tag m.shelf) most info m q result wanted first asks agrees is all held

    said_sound : (said : Result Info FsError) (m q : Opening S F) (result : Result Reading NoMemory) → f.place ≡ 0 → IfOk said (λ info. AgreesOpen info f.stands)
        → seen_in view m.store m.file ≡ Some f → AreSound trail m.shelf.entries → HoldsWanted view (wanted_by m.shelf.most said) m result q → AreSound trail q.shelf.entries
    said_sound (Ok info) m q result first agrees is all held = wanted_sound (wanted_of m.shelf.most info) m.shelf.most info m q result first refl agrees is all held
    said_sound (Err e) m q result first agrees is all held = subst (λ (x : Opening S F). AreSound trail x.shelf.entries) (sym held.1) all

    agrees_still : (said : Result Info FsError) (seen : Option Seen) → seen ≡ Some f → IfOk said (λ info. IfSome seen (λ g. AgreesOpen info g.stands)) → IfOk said (λ info. AgreesOpen info f.stands)
    agrees_still (Ok info) seen e all = subst (λ (x : Option Seen). IfSome x (λ g. AgreesOpen info g.stands)) e all
    agrees_still (Err x) seen e all = tt

    holds_sound : (p q : Opening S F) (result : Result Reading NoMemory) → f.place ≡ 0 → seen_in view p.store p.file ≡ Some f → AreSound trail p.shelf.entries → Holds view p result q → AreSound trail q.shelf.entries
    holds_sound p q result first is all holds = by holds.holds
      where
        by : Starves (record p { store = holds.store; file = holds.file }) result q ⊎ HoldsWanted view (wanted_by p.shelf.most holds.said) (record p { store = holds.store; file = holds.file }) result q → AreSound trail q.shelf.entries
        by (inl starves) = starved_sound (record p { store = holds.store; file = holds.file }) q result all starves
        by (inr held) = said_sound holds.said (record p { store = holds.store; file = holds.file }) q result first
            (agrees_still holds.said (seen_in view p.store p.file) is holds.says.done.told) (holds.says.done.same ∙ is) all held

    ends_sound : (held : Result Reading NoMemory) (q : Opening S F) (result : Result (CachedFile F) FsError) (t : S) (shelf : ShelfState) → AreSound trail q.shelf.entries → EndsOpen view held q result t shelf → AreSound trail shelf.entries
    ends_sound (Ok r) q result t shelf all ends = subst (λ (x : ShelfState). AreSound trail x.entries) (sym ends.2) all
    ends_sound (Err e) q result t shelf all ends = subst (λ (x : ShelfState). AreSound trail x.entries) (sym ends.2) all

    pub opened_sound : (p : Opening S F) (result : Result (CachedFile F) FsError) (t : S) (shelf : ShelfState) → f.place ≡ 0 → seen_in view p.store p.file ≡ Some f → AreSound trail p.shelf.entries → HoldsOpened view p result t shelf
        → AreSound trail shelf.entries
    opened_sound p result t shelf first is all opened = ends_sound opened.held opened.at result t shelf (holds_sound p opened.at opened.held first is all opened.holds) opened.ends

module _ {S C F : Type 0} (view : View S C F) where
  after_sound : (trail : List World) (faithful : AreFaithful trail) (w : World) (inside : In w trail) (s t : ReadCache S C) (c : C) (path : WebPath) (first : Result F FsError) (k : S) (o : Result (CachedFile F) FsError)
      → AreFilesTold view.file → OpensTold view s.store c path w → AreSound trail s.shelf.entries → view.opens s.store c path reading first k → AfterOpen view first k s o t → AreSound trail t.shelf.entries
  after_sound trail faithful w inside s t c path (Err e) k o files told all opens after = subst (λ (x : ReadCache S C). AreSound trail x.shelf.entries) (sym after.1) all
  after_sound trail faithful w inside s t c path (Ok file) k o files told all opens after =
      let (f, seen, place, world) = told k file opens in
      opened_sound trail faithful w inside f (λ regular. let (v, tells, there) = files file (view.state k) f seen regular in (v, world v tells, there))
      view (record { store = k; file = file; shelf = s.shelf }) o t.store t.shelf place seen all after.0

  pub entries_sound : (s : ReadCache S C) (c : C) (trail : List World) (w : World) (path : WebPath) (o : Result (CachedFile F) FsError) (t : ReadCache S C) → AreFaithful trail → In w trail → AreFilesTold view.file
      → OpensTold view s.store c path w → AreSound trail s.shelf.entries → (cache_view view).opens s c path reading o t → AreSound trail t.shelf.entries
  entries_sound s c trail w path o t faithful inside files told all (first, k, opens, after) = after_sound trail faithful w inside s t c path first k o files told all opens after
