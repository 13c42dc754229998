-- A local store over a told disk shows all that a GET or HEAD asks for, where each path is meant as it is written and no link stands.
use Rattle.std.proofs.Common.{◌≡◌, ◌⊎◌, List, [], ◌∷◌, Bool, true, false, None, Some, Result, refl, sym, ap, subst, ◌∙◌}
use Rattle.std.specs.List.{AllByRecursion, filter}
use Rattle.dav_io.specs.declared.clock.Moment.{Moment}
use Rattle.dav_io.proofs.ToldLemmas.{told_after}
use Rattle.dav_core.specs.declared.error.FsError.{FsError}
use Rattle.dav_core.specs.declared.tree.Row.{Row}
use Rattle.dav_core.specs.DavPath.{WebPath}
use Rattle.dav_core.specs.Info.{Info}
use Rattle.dav_core.specs.Listing.{stands_in}
use Rattle.dav_core.specs.Path.{Names}
use Rattle.dav_core.specs.Tree.{is_linked}
use Rattle.dav_core.specs.World.{SameBesidesOpens, World}
use Rattle.dav_core.specs.Writing.{reading}
use Rattle.dav_store.specs.Files.{Spoiled}
use Rattle.dav_store.specs.Members.{ShowsMembers}
use Rattle.dav_store.specs.Reached.{Reached, ShowsOn, by_look, by_look_at_link, by_none}
use Rattle.dav_store.specs.Shows.{Looked, LooksThere, Shows, here, looks, looks_at_link}
use Rattle.dav_store.specs.View.{Listings, View}
use Rattle.dav_walks.specs.Pouring.{Writes}
use Rattle.dav_model.specs.Due.{Query}
use Rattle.dav_model.specs.Finding.{EndsLoosely}
use Rattle.dav_model.specs.Unset.{nothing_set}
use Rattle.dav_model.proofs.LooseWalks.{found_exactly}
use Rattle.dav_model.proofs.PlainWalks.{plain_resolved}
use Rattle.dav_memory.specs.Memory.{MemoryState}
use Rattle.dav_get.specs.Told.{ShowsFor}
use Rattle.dav_local.specs.declared.entry.LocalFsDirEntry.{LocalFsDirEntry}
use Rattle.dav_local.specs.declared.file.LocalFsFile.{LocalFsFile}
use Rattle.dav_local.specs.declared.gathering.LocalFsReadDir.{LocalFsReadDir}
use Rattle.dav_local.specs.declared.ways.Ways.{Ways}
use Rattle.dav_local.specs.Places.{Place}
use Rattle.dav_local.specs.Shown.{LooksByRules, knowledge_of, looked_by}
use Rattle.dav_local.specs.Standing.{HasNoLinks}
use Rattle.dav_local.specs.Ways.{resolved_by, rules_of}
use Rattle.dav_local.proofs.ByRules.{looks_by_rules}
use Rattle.dav_local.proofs.Showing.{same_found}
use Rattle.dav_local_laws.specs.LocalStore.{IsLocalStore, place}
use Rattle.dav_local_laws.specs.Ruled.{FindsOnce, members_in, opened_in}
use Rattle.dav_local_laws.specs.Simple.{opened, plain_ways}
use Rattle.dav_local_laws.proofs.LocalShows.{local_shows_members, local_shows_on}
use Rattle.dav_local_laws.proofs.PlainWays.{plain_members, plain_once, plain_opened}
use Rattle.dav_readcache.proofs.LocalWorlds.{look_keeps, looked_stays, opening_stays}
use Rattle.dav_readcache_laws.specs.Plain.{HasNoLink, listed, looked}

-- where a path ends that is meant as it is written
plain_end : (tree : List Row) (names end : Names) → EndsLoosely None false tree names end → end ≡ names
plain_end tree names end loose = found_exactly (rules_of plain_ways) tree names end (λ e. cc) loose ∙ plain_resolved nothing_set tree names

unlinked : (w : World) (rows : List Row) → HasNoLink w → AllByRecursion (λ (row : Row). is_linked w.tree row.path ≡ false) rows
unlinked w [] none = tt
unlinked w (row ∷ rows) none = (none row.path, unlinked w rows none)

no_links : (w : World) (dir : Names) → HasNoLink w → HasNoLinks w dir
no_links w dir none = record { way = none dir; rows = unlinked w (filter (stands_in dir) w.tree) none }

-- what the rules show where nothing is denied
undenied : (w : World) (denies : Bool) (path : WebPath) → (denies ≡ true → plain_ways.macos ≡ true) → looked_by plain_ways w path.names denies path ≡ looked w path
undenied w true path denied = let never : false ≡ true = denied refl in cc
undenied w false path denied = refl

module _ {S C : Type 0} (view : View S C LocalFsFile) (lists : Listings S C LocalFsReadDir LocalFsDirEntry) (writes : Writes LocalFsFile) (ways : S → Ways) (memory : S → MemoryState) (moment : S → Moment)
    (local : IsLocalStore view lists writes ways memory moment) where
  abbrev at : S → Place
  at s = place view lists writes ways memory moment s

  reached : (s : S) (c : C) (m : S) → Looked view s c m → Reached view lists s c m
  reached s c m here = by_none
  reached s c t (looks m n path r before call) = by_look m n path r (reached s c m before) call (look_keeps true (at m) (at n) path r (local.looks m n c path r call).0)
  reached s c t (looks_at_link m n path r before call) = by_look_at_link m n path r (reached s c m before) call (look_keeps false (at m) (at n) path r (local.looks_at_link m n c path r call).0)

  ways_stay : (s : S) (c : C) (m : S) → Looked view s c m → ways m ≡ ways s
  ways_stay s c m here = refl
  ways_stay s c t (looks m n path r before call) = (local.looks m n c path r call).1 ∙ ways_stay s c m before
  ways_stay s c t (looks_at_link m n path r before call) = (local.looks_at_link m n c path r call).1 ∙ ways_stay s c m before

  module _ (s : S) (c : C) (w : World) (plain : ways s ≡ plain_ways) (told : (view.state s).told ≡ Some w) (none : HasNoLink w) where
    -- a look by the rules, where the tree is that of a world in which nothing stands open
    by_rules : (m n : S) (path : WebPath) (r : Result Info FsError) (v : World) → SameBesidesOpens w v → LooksByRules plain_ways (knowledge_of (memory m)) v path (view.state m) r (view.state n)
        → LooksThere (looked w path) r ⊎ Spoiled (view.state m) r (view.state n)
    by_rules m n path r v same rules =
        let end : rules.end ≡ path.names = plain_end v.tree path.names rules.end rules.loosely in
        let clear : is_linked v.tree rules.end ≡ false = ap (λ rows. is_linked rows rules.end) same.tree ∙ none rules.end in
        let shows = subst (λ z. LooksThere (looked_by plain_ways v z rules.denies path) r ⊎ Spoiled (view.state m) r (view.state n)) end (rules.shows clear) in
        subst (λ z. LooksThere z r ⊎ Spoiled (view.state m) r (view.state n)) (undenied v rules.denies path (λ e. (rules.denied e).0) ∙ same_found w v path.slash path.names same) shows

    looks_there : (m n : S) (path : WebPath) (r : Result Info FsError) → Looked view s c m → view.looks m c path r n → LooksThere (looked w path) r ⊎ Spoiled (view.state m) r (view.state n)
    looks_there m n path r before call =
        let stays = looked_stays view at (λ s. refl) (λ file s. ap (λ f. f file s) local.seen) (λ s t c path r h. (local.looks s t c path r h).0) (λ s t c path r h. (local.looks_at_link s t c path r h).0)
        (λ s t c path r h. (local.opens s t c path reading r h).0) s c m before in
        let (v, now, same) = told_after (view.state s).told (view.state m).told SameBesidesOpens w stays told in
        by_rules m n path r v same (subst (λ x. LooksByRules x (knowledge_of (memory m)) v path (view.state m) r (view.state n)) (ways_stay s c m before ∙ plain)
        (looks_by_rules (at m) (at n) v path r now (local.looks m n c path r call).0))

    once : FindsOnce (ways s) w
    once = subst (λ x. FindsOnce x w) (sym plain) (plain_once w)

    shows_on : (path : WebPath) → ShowsOn view lists s c path (opened w path)
    shows_on path = subst (ShowsOn view lists s c path) (ap (λ x. opened_in x w path) plain ∙ plain_opened w path)
        (local_shows_on view lists writes ways memory moment local s c path w once told (none (resolved_by (ways s) w.tree path.names)))

    shows_members : (path : WebPath) → ShowsMembers view lists s c path (listed w path)
    shows_members path = subst (ShowsMembers view lists s c path) (ap (λ x. members_in x w path) plain ∙ plain_members w path)
        (local_shows_members view lists writes ways memory moment local s c path w once told (no_links w (resolved_by (ways s) w.tree path.names) none))

    -- what a look and an opening find at a path
    shows_all : (path : WebPath) → Shows view s c path (looked w path) (opened w path)
    shows_all path = record {
      looks_there = λ m n r before call. looks_there m n path r before call;
      opens_there = λ m n o before call. shows_on path m n o (reached s c m before) call;
      looks_counts = λ m n r before call. (look_keeps true (at m) (at n) path r (local.looks m n c path r call).0).counts;
      opens_counts = λ m n o before call. (opening_stays (at m) (at n) path o (local.opens m n c path reading o call).0).0;
    }

    pub shows_for_all : (q : Query) → ShowsFor view lists s c q (looked w) (opened w) (listed w)
    shows_for_all q = record {
      path = shows_all q.path;
      at = λ there path is course. shows_all path;
      members = λ there is course. shows_members q.path;
    }
