-- Where the reads of the store inside are those of the rules, so are a cache's, whatever is held.
use Rattle.std.specs.Prelude.{◌≡◌, ◌⊎◌, List, Option, None, Some, Result, Ok, Err}
use Rattle.std.proofs.Common.{sym, ap, subst, ◌∙◌, inl, inr}
use Rattle.dav_io.specs.declared.failure.NoMemory.{NoMemory}
use Rattle.dav_core.specs.declared.error.FsError.{FsError}
use Rattle.dav_core.specs.declared.error.FsError.TheVariants as fs
use Rattle.dav_core.specs.declared.member.Member.{Member}
use Rattle.dav_core.specs.DavPath.{WebPath}
use Rattle.dav_core.specs.Errors.{CouldRefuse}
use Rattle.dav_core.specs.Writing.{reading}
use Rattle.dav_store.specs.Files.{Spoiled}
use Rattle.dav_store.specs.Leads.{ListedOn, begun as just_begun, goes_on, says as says_on}
use Rattle.dav_store.specs.Members.{RunsOut, WasListed}
use Rattle.dav_store.specs.View.{Listings, View}
use Rattle.dav_memory.specs.Memory.{MemoryState}
use Rattle.dav_local.specs.declared.entry.LocalFsDirEntry.{LocalFsDirEntry}
use Rattle.dav_local.specs.declared.gathering.LocalFsReadDir.{LocalFsReadDir}
use Rattle.dav_local.specs.declared.ways.Ways.{Ways}
use Rattle.dav_readcache.specs.declared.cached.CachedFile.{CachedFile}
use Rattle.dav_readcache.specs.declared.cached.Reading.{Reading}
use Rattle.dav_readcache.specs.declared.store.ReadCache.{ReadCache}
use Rattle.dav_readcache.specs.Opening.{AfterOpen, EndsOpen, Opening}
use Rattle.dav_readcache.specs.Store.{cache_listings, cache_view}
use Rattle.dav_readcache.proofs.Inside.{walked_inside}
use Rattle.dav_local_laws.specs.ReadsByRules.{ReadsByRules}
use Rattle.dav_readcache_laws.proofs.AlikeOpen.{opened_alike}

-- ---- listings

module _ {S C F L E : Type 0} (view : View S C F) (lists : Listings S C L E) where
  listed_inside : (s : ReadCache S C) (l : L) (t : ReadCache S C) (k : L) → ListedOn (cache_view view) (cache_listings lists) s l t k → ListedOn view lists s.store l t.store k
  listed_inside s l t k just_begun = just_begun
  listed_inside s l t k (goes_on m n i j r before on) = goes_on m.store n.store i j r (listed_inside s l m i before) on.0
  listed_inside s l t k (says_on m n o i j e r before gives says lends keeps) = says_on m.store n.store o.store i j e r (listed_inside s l m i before) gives.0 says lends.0 keeps

  out_inside : (last : Result (Option E) FsError) (s : ReadCache S C) (l : L) (t : ReadCache S C) (over : L) → RunsOut (cache_view view) (cache_listings lists) last s l t over → RunsOut view lists last s.store l t.store over
  out_inside (Ok None) s l t over (same, on) = (ap (λ (x : ReadCache S C). x.store) same, on)
  out_inside (Ok (Some e)) s l t over never = absurd never
  out_inside (Err e) s l t over (m, k, on, ends) = (m.store, k, listed_inside s l m k on, ends.0)

  pub was_inside : (s t : ReadCache S C) (c : C) (path : WebPath) (read : List Member) → WasListed (cache_view view) (cache_listings lists) s c path read t → WasListed view lists s.store c path read t.store
  was_inside s t c path read was =
      let w = was.walks in
      record {
        begin = was.begin.store;
        listing = was.listing;
        begins = was.begins.0;
        after = was.after.store;
        over = was.over;
        walks = record {
          answers = w.answers;
          place = w.place.store;
          left = w.left;
          walk = walked_inside view lists was.begin was.listing w.answers w.place w.left w.walk;
          last = w.last;
          stops = w.stops;
          behind = w.behind.store;
          rest = w.rest;
          ends = w.ends.0;
          runs_out = out_inside w.last w.behind w.rest was.after was.over w.runs_out;
          told = w.told;
          from = w.from;
          on = w.on;
          out = w.out;
        };
        ended = was.ended.0;
      }

-- ---- openings

module _ {S C F : Type 0} (view : View S C F) (lists : Listings S C LocalFsReadDir LocalFsDirEntry) (ways : S → Ways) (memory : S → MemoryState) (rule : ReadsByRules view lists ways memory) where
  refused_few : {A B : Type 0} (s t : S) (e : FsError) → CouldRefuse e ⊎ Spoiled {T = A} (view.state s) (Err e) (view.state t) → CouldRefuse e ⊎ Spoiled {T = B} (view.state s) (Err e) (view.state t)
  refused_few {A = A} s t e (inl could) = inl could
  refused_few {A = A} s t e (inr (inl (is, rose))) = inr (inl (ap (λ x. Err x) (err_is is), rose))
    where
      err_is : ◌≡◌ {A = Result A FsError} (Err e) (Err fs.GeneralFailure) → e ≡ fs.GeneralFailure
      err_is same = cc
  refused_few {A = A} s t e (inr (inr is)) = inr (inr (ap (λ x. Err x) (err_is is)))
    where
      err_is : ◌≡◌ {A = Result A FsError} (Err e) (Err fs.NoMemory) → e ≡ fs.NoMemory
      err_is same = cc

  abbrev RefusesOpen : ReadCache S C → FsError → ReadCache S C → Type 0
  RefusesOpen s e t = CouldRefuse e ⊎ Spoiled {T = CachedFile F} (view.state s.store) (Err e) (view.state t.store)

  ends_few : (held : Result Reading NoMemory) (q : Opening S F) (s : ReadCache S C) (e : FsError) (t : ReadCache S C) → EndsOpen view held q (Err e) t.store t.shelf → RefusesOpen s e t
  ends_few (Ok r) q s e t (is, store, shelf) = cc
  ends_few (Err x) q s e t (is, closes, shelf) = inr (inr is)

  opens_few : (first : Result F FsError) (k : S) (s : ReadCache S C) (c : C) (path : WebPath) (e : FsError) (t : ReadCache S C) → view.opens s.store c path reading first k → AfterOpen view first k s (Err e) t → RefusesOpen s e t
  opens_few (Err x) k s c path e t opens (is, same) =
      let answer : x ≡ e = cc in
      subst (λ (u : ReadCache S C). RefusesOpen s e u) (sym same) (refused_few s.store k e (rule.few.opens s.store k c path e (subst (λ y. view.opens s.store c path reading (Err y) k) answer opens)))
  opens_few (Ok file) k s c path e t opens (held, same) = ends_few held.held held.at s e t held.ends

  pub cache_by_rules : ReadsByRules (cache_view view) (cache_listings lists) (λ s. ways s.store) (λ s. memory s.store)
  unfolding was_inside
  cache_by_rules = record {
    worlds = λ s w told. rule.worlds s.store w told;
    few = record {
      looks = λ s t c path e h. rule.few.looks s.store t.store c path e h.0;
      opens = λ s t c path e h. let (first, k, opens, after) = h in opens_few first k s c path e t opens after;
      begins = λ s t c path e h. rule.few.begins s.store t.store c path e h.0;
    };
    looks = λ s t c path r w told h. rule.looks s.store t.store c path r w told h.0;
    ways_stay = λ s t c path r h. rule.ways_stay s.store t.store c path r h.0;
    opens = λ s t c path o w told h.
        let (first, k, opens, after) = h in
        let inside = rule.opens s.store k c path first w told opens in
        record {
          end = inside.end;
          loosely = inside.loosely;
          shows = λ clear.
              let one = inside.shows clear in
              let other = opened_alike view one.stands first k s t o one.there after in
              record { stands = other.stands; alike = other.alike ∙ one.alike; there = other.there };
        };
    begins = λ s t c path r w told h. rule.begins s.store t.store c path r w told h.0;
    pages = λ s t c path read w told was links. rule.pages s.store t.store c path read w told (was_inside view lists s t c path read was) links;
  }
