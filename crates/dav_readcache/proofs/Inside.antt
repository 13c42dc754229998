-- Listings through a cache are those of the store inside.
use Rattle.std.specs.Prelude.{List, Option, None, Some, Result, Ok, Err}
use Rattle.dav_core.specs.declared.error.FsError.{FsError}
use Rattle.dav_core.specs.declared.member.Member.{Member}
use Rattle.dav_core.specs.DavPath.{WebPath}
use Rattle.dav_store.specs.Members.{Answered, EndsThere, ShowsMembers, Walked, begun, goes}
use Rattle.dav_store.specs.View.{Listings, View}
use Rattle.dav_readcache.specs.declared.store.ReadCache.{ReadCache}
use Rattle.dav_readcache.specs.Store.{cache_listings, cache_view}
use Rattle.dav_readcache.proofs.Alike.{looked_inside}

module _ {S C F L E : Type 0} (view : View S C F) (lists : Listings S C L E) where
  pub walked_inside : (s : ReadCache S C) (l : L) (all : List Answered) (t : ReadCache S C) (h : L) → Walked (cache_view view) (cache_listings lists) s l all t h → Walked view lists s.store l all t.store h
  walked_inside s l all t h begun = begun
  walked_inside s l all t h (goes answers m n o k j e r before on says lends keeps) =
      goes answers m.store n.store o.store k j e r (walked_inside s l answers m k before) on.0 says lends.0 keeps

  ends_alike : (all : List Member) (answers : List Answered) (r : Result (Option E) FsError) (m p : ReadCache S C) → EndsThere view lists all answers r m.store p.store
      → EndsThere (cache_view view) (cache_listings lists) all answers r m p
  ends_alike all answers (Ok None) m p ends = ends
  ends_alike all answers (Ok (Some entry)) m p ends = tt
  ends_alike all answers (Err e) m p ends = ends

  -- The cache shows the members that the store inside shows.
  pub members_alike : (s : ReadCache S C) (c : C) (path : WebPath) (found : Result (List Member) FsError) → ShowsMembers view lists s.store c path found → ShowsMembers (cache_view view) (cache_listings lists) s c path found
  members_alike s c path found shows = record {
    begins = λ m n r first h. shows.begins m.store n.store r (looked_inside view s c m first).0 h.0;
    walks = λ all is m n o l k answers first h walk.
        shows.walks all is m.store n.store o.store l k answers (looked_inside view s c m first).0 h.0 (walked_inside n l answers o k walk);
    ends = λ all is m n o p l k j answers r first h walk on.
        ends_alike all answers r m p (shows.ends all is m.store n.store o.store p.store l k j answers r (looked_inside view s c m first).0 h.0 (walked_inside n l answers o k walk) on.0);
  }
