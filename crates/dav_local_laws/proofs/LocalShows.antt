-- A local store over a told disk shows what stands in the world by its rules, where they find each path in one place.
use Rattle.std.proofs.Common.{◌≡◌, ◌⊎◌, inl, inr, List, true, false, Option, None, Some, Result, Ok, Err, refl, sym, ap, subst, ◌∙◌}
use Rattle.std.specs.List.{AllByRecursion, filter}
use Rattle.dav_io.specs.declared.clock.Moment.{Moment}
use Rattle.dav_io.proofs.ToldLemmas.{both_map, told_after}
use Rattle.dav_core.specs.declared.error.FsError.{FsError}
use Rattle.dav_core.specs.declared.handle.DiskError.{DiskError}
use Rattle.dav_core.specs.declared.member.Member.{Member}
use Rattle.dav_core.specs.declared.tree.Row.{Row}
use Rattle.dav_core.specs.DavPath.{WebPath}
use Rattle.dav_core.specs.Info.{Info}
use Rattle.dav_core.specs.Listing.{listable, stands_in}
use Rattle.dav_core.specs.Members.{members}
use Rattle.dav_core.specs.Writing.{reading}
use Rattle.dav_core.specs.Path.{Names}
use Rattle.dav_core.specs.Tree.{is_linked, look}
use Rattle.dav_core.specs.World.{SameBesidesOpens, World}
use Rattle.dav_store.specs.declared.entry.ReadDirMeta.TheVariants.{Data}
use Rattle.dav_store.specs.Files.{Spoiled}
use Rattle.dav_store.specs.Leads.{ListedOn, begun as just_begun, goes_on as goes_further, says as says_on}
use Rattle.dav_store.specs.Members.{Answered, AreOf, BeginsThere, EndsThere, RunsOut, ShowsMembers, Walked, begun, goes}
use Rattle.dav_store.specs.Reached.{Reached, ShowsOn, by_file, by_listing, by_look, by_look_at_link, by_none, by_opening}
use Rattle.dav_store.specs.Shows.{Looked, OpensThere, here, looks, looks_at_link}
use Rattle.dav_store.specs.View.{Listings, View}
use Rattle.dav_store.proofs.Reached.{reached_world}
use Rattle.dav_walks.specs.Follows.{LooksBy, Told}
use Rattle.dav_walks.specs.Pouring.{Writes}
use Rattle.dav_model.specs.Finding.{EndsLoosely, listed_in, members_or}
use Rattle.dav_model.specs.Unset.{nothing_set}
use Rattle.dav_model.proofs.LooseWalks.{found_exactly}
use Rattle.dav_memory.specs.Memory.{MemoryState}
use Rattle.dav_local.specs.declared.entry.LocalFsDirEntry.{LocalFsDirEntry}
use Rattle.dav_local.specs.declared.file.LocalFsFile.{LocalFsFile}
use Rattle.dav_local.specs.declared.ways.Ways.{Ways}
use Rattle.dav_local.specs.Calls.{Place}
use Rattle.dav_local.specs.Files.{seen_by}
use Rattle.dav_local.specs.declared.gathering.LocalFsReadDir.{LocalFsReadDir}
use Rattle.dav_local.specs.Shown.{EndsBy, ListsByRules, OpensByRules, knowledge_of, opened_by}
use Rattle.dav_local.specs.Standing.{HasNoLinks}
use Rattle.dav_local.specs.Ways.{resolved_by, rules_of, rules_with}
use Rattle.dav_local.proofs.Allowed.{opened_same}
use Rattle.dav_local.proofs.ByRules.{lists_by_rules, opens_by_rules}
use Rattle.dav_local.proofs.Memories.{learns_none}
use Rattle.dav_local.proofs.Walked.{ListsLocal, walk_ends, walk_told}
use Rattle.dav_local_laws.specs.LocalStore.{IsLocalStore, place}
use Rattle.dav_local_laws.specs.Ruled.{FindsOnce, HasFreeMembers, IsFree, IsOfRules, members_in, opened_in}
use Rattle.dav_local_laws.proofs.LocalListings.{lists_local, next_ways}
use Rattle.dav_local_laws.proofs.LocalLooks.{Besides, besides_same, besides_then, look_at_link_told, look_told}
use Rattle.dav_local_laws.proofs.RuledReads.{begins_still, members_still, opened_still}

-- the members of a directory that can be listed
members_ok : (w : World) (dir : Names) (stands : Result Row DiskError) (all : List Member) → members_or w dir stands ≡ Ok all → members w dir ≡ all
members_ok w dir (Ok row) all is = cc
members_ok w dir (Err e) all is = cc

-- where no link stands, none stands in a world that differs in what is open
links_still : (w v : World) (dir : Names) → SameBesidesOpens w v → HasNoLinks w dir → HasNoLinks v dir
links_still w v dir same links = record {
  way = ap (λ rows. is_linked rows dir) same.tree ∙ links.way;
  rows = subst (λ rows. AllByRecursion (λ (row : Row). is_linked rows row.path ≡ false) (filter (stands_in dir) rows)) (sym same.tree) links.rows;
}

-- where a loose walk of a path ends, where the rules find each in one place
end_found : (ways : Ways) (w v : World) (names end : Names) → FindsOnce ways w → SameBesidesOpens w v → EndsLoosely ways.alone ways.folds v.tree names end → end ≡ resolved_by ways w.tree names
end_found ways w v names end once same loosely =
    found_exactly (rules_of ways) w.tree names end once (subst (λ rows. EndsLoosely ways.alone ways.folds rows names end) same.tree loosely)

free_end : (ways : Ways) (w v : World) (names end : Names) → SameBesidesOpens w v → end ≡ resolved_by ways w.tree names → IsFree ways w names → is_linked v.tree end ≡ false
free_end ways w v names end same is free = ap (λ rows. is_linked rows end) same.tree ∙ (ap (is_linked w.tree) is ∙ free)

-- What is shown is what a run by the rules shows.
pub of_rules : (ways : Ways) (w : World) (path : WebPath) → IsFree ways w path.names → IsOfRules ways w path
of_rules ways w path free = record {
  opened = λ settings. opened_same settings ways w (resolved_by ways w.tree path.names) path free;
  listed = λ settings. refl;
}

module _ {S C : Type 0} (view : View S C LocalFsFile) (lists : Listings S C LocalFsReadDir LocalFsDirEntry) (writes : Writes LocalFsFile) (ways : S → Ways) (memory : S → MemoryState) (moment : S → Moment)
    (local : IsLocalStore view lists writes ways memory moment) where
  abbrev at : S → Place
  at s = place view lists writes ways memory moment s

  abbrev listings : ListsLocal view lists
  listings = lists_local view lists writes ways memory moment local

  -- ---- what stays

  same_ways : (s t : S) → at t ≡ record (at s) { disk = view.state t } → ways t ≡ ways s
  same_ways s t same = ap (λ (x : Place). x.ways) same

  walk_ways : (n : S) (l : LocalFsReadDir) (answers : List Answered) (o : S) (k : LocalFsReadDir) → Walked view lists n l answers o k → ways o ≡ ways n
  walk_ways n l answers o k begun = refl
  walk_ways n l answers o k (goes before m p q d j e r walk on said lent keeps) =
      same_ways p q (local.lends p q lent) ∙ (next_ways view lists writes ways memory moment local m p d j (Ok (Some e)) on ∙ walk_ways n l before m d walk)

  listed_ways : (b : S) (first : LocalFsReadDir) (n : S) (l : LocalFsReadDir) → ListedOn view lists b first n l → ways n ≡ ways b
  listed_ways b first n l just_begun = refl
  listed_ways b first n l (goes_further m p k j r before call) = next_ways view lists writes ways memory moment local m p k j r call ∙ listed_ways b first m k before
  listed_ways b first n l (says_on m p q k j e r before gives said lent keeps) =
      same_ways p q (local.lends p q lent) ∙ (next_ways view lists writes ways memory moment local m p k j (Ok (Some e)) gives ∙ listed_ways b first m k before)

  out_ways : (last : Result (Option LocalFsDirEntry) FsError) (b : S) (l : LocalFsReadDir) (t : S) (over : LocalFsReadDir) → RunsOut view lists last b l t over → ways t ≡ ways b
  out_ways (Ok None) b l t over (same, on) = ap ways same
  out_ways (Ok (Some e)) b l t over never = absurd never
  out_ways (Err e) b l t over (m, k, on, ends) = next_ways view lists writes ways memory moment local m t k over (Ok None) ends ∙ listed_ways b l m k on

  -- A reader's calls leave how paths are found.
  reached_ways : (s : S) (c : C) (t : S) → Reached view lists s c t → ways t ≡ ways s
  reached_ways s c t by_none = refl
  reached_ways s c t (by_look m n path r before call keeps) = (local.looks m n c path r call).1 ∙ reached_ways s c m before
  reached_ways s c t (by_look_at_link m n path r before call keeps) = (local.looks_at_link m n c path r call).1 ∙ reached_ways s c m before
  reached_ways s c t (by_opening m n path r before call one) = (local.opens m n c path reading r call).1 ∙ reached_ways s c m before
  reached_ways s c t (by_file m n h before keeps lent) = same_ways m n (local.lends m n lent) ∙ reached_ways s c m before
  reached_ways s c t (by_listing m n path members before was keeps) =
      let w = was.walks in
      same_ways was.after n (local.ends was.after n was.over was.ended).1
      ∙ (out_ways w.last w.behind w.rest was.after was.over w.runs_out
      ∙ (next_ways view lists writes ways memory moment local w.place w.behind w.left w.rest w.last w.ends
      ∙ (walk_ways was.begin was.listing w.answers w.place w.left w.walk
      ∙ ((local.begins m was.begin c path Data (Ok was.listing) was.begins).1 ∙ reached_ways s c m before))))

  -- Looks leave how paths are found, and what stands in the told world.
  looked_ways : (s : S) (c : C) (t : S) → Looked view s c t → ways t ≡ ways s
  looked_ways s c t here = refl
  looked_ways s c t (looks m n path r before call) = (local.looks m n c path r call).1 ∙ looked_ways s c m before
  looked_ways s c t (looks_at_link m n path r before call) = (local.looks_at_link m n c path r call).1 ∙ looked_ways s c m before

  look_leaves : (c : C) (m n : S) (path : WebPath) (r : Result Info FsError) → Told view lists writes c m n (LooksBy view lists writes c (rules_with nothing_set (ways m)) (knowledge_of (memory m)) path m r n)
      → Besides (view.state m) (view.state n)
  look_leaves c m n path r told =
      both_map (view.state m).told (view.state n).told (LooksBy view lists writes c (rules_with nothing_set (ways m)) (knowledge_of (memory m)) path m r n) SameBesidesOpens (λ v w by. by.0) told

  looked_besides : (s : S) (c : C) (t : S) → Looked view s c t → Besides (view.state s) (view.state t)
  looked_besides s c t here = besides_same (view.state s) (view.state s) refl
  looked_besides s c t (looks m n path r before call) =
      besides_then (view.state s) (view.state m) (view.state n) (looked_besides s c m before)
      (look_leaves c m n path r (look_told view lists writes c ways memory moment local nothing_set m n path r (memory m) (learns_none (memory m)) call))
  looked_besides s c t (looks_at_link m n path r before call) =
      besides_then (view.state s) (view.state m) (view.state n) (looked_besides s c m before)
      (look_leaves c m n path r (look_at_link_told view lists writes c ways memory moment local nothing_set m n path r (memory m) (learns_none (memory m)) call))

  -- ---- openings

  pub local_shows_on : (s : S) (c : C) (path : WebPath) (w : World) → FindsOnce (ways s) w → (view.state s).told ≡ Some w → IsFree (ways s) w path.names → ShowsOn view lists s c path (opened_in (ways s) w path)
  local_shows_on s c path w once told free = λ m n o reached opens.
      let (v, now, same) = reached_world view lists s c m w reached told in
      let by = subst (λ (x : Ways). OpensByRules x v path (view.state m) o (view.state n)) (reached_ways s c m reached)
      (opens_by_rules (at m) (at n) v path o now (local.worlds m v now) (local.opens m n c path reading o opens).0) in
      let is = end_found (ways s) w v path.names by.end once same by.loosely in
      subst (λ seen. OpensThere seen (opened_in (ways s) w path) o (view.state n) ⊎ Spoiled (view.state m) o (view.state n)) (sym local.seen)
      (subst (λ there. OpensThere seen_by there o (view.state n) ⊎ Spoiled (view.state m) o (view.state n))
      (opened_still (ways s) w v by.end path same ∙ ap (λ z. opened_by (ways s) w z path) is) (by.shows (free_end (ways s) w v path.names by.end same is free)))

  -- ---- listings

  module _ (s : S) (c : C) (path : WebPath) (w : World) (once : FindsOnce (ways s) w) (told : (view.state s).told ≡ Some w) (links : HasFreeMembers (ways s) w path.names) where
    abbrev dir : Names
    dir = resolved_by (ways s) w.tree path.names

    -- what a listing that is begun after looks answers
    record Now (m n : S) (r : Result LocalFsReadDir FsError) : Type 0 where
      pub world : World
      pub told_now : (view.state m).told ≡ Some world
      pub same : SameBesidesOpens w world
      pub begun_so : BeginsThere (listed_in w dir) r ⊎ Spoiled (view.state m) r (view.state n)
      pub at_dir : (l : LocalFsReadDir) → r ≡ Ok l → l.reading.path ≡ dir

    begun_still : (m n : S) (r : Result LocalFsReadDir FsError) (v : World) (end : Names) → SameBesidesOpens w v → BeginsThere (listed_in v end) r ⊎ Spoiled (view.state m) r (view.state n)
        → BeginsThere (listed_in w end) r ⊎ Spoiled (view.state m) r (view.state n)
    begun_still m n r v end same (inl there) = inl (begins_still w v end r same there)
    begun_still m n r v end same (inr spoiled) = inr spoiled

    now : (m n : S) (r : Result LocalFsReadDir FsError) → Looked view s c m → lists.lists m c path Data r n → Now m n r
    now m n r first h =
        let (v, is_told, same) = told_after (view.state s).told (view.state m).told SameBesidesOpens w (looked_besides s c m first) told in
        let by = subst (λ (x : Ways). ListsByRules x v path (view.state m) r (view.state n)) (looked_ways s c m first)
        (lists_by_rules (at m) (at n) v path Data r is_told (local.begins m n c path Data r h).0) in
        let is = end_found (ways s) w v path.names by.end once same by.loosely in
        let free = free_end (ways s) w v path.names by.end same is links.way in
        record {
          world = v;
          told_now = is_told;
          same = same;
          begun_so = subst (λ z. BeginsThere (listed_in w z) r ⊎ Spoiled (view.state m) r (view.state n)) is (begun_still m n r v by.end same (by.shows free));
          at_dir = λ l e. by.at_end l e free ∙ is;
        }

    ends_there : (m p : S) (all : List Member) (answers : List Answered) (r : Result (Option LocalFsDirEntry) FsError) → EndsBy (view.state m).faults all answers r (view.state p).faults
        → EndsThere view lists all answers r m p
    ends_there m p all answers (Ok None) ends = ends
    ends_there m p all answers (Ok (Some entry)) ends = tt
    ends_there m p all answers (Err e) (inl none) = inr (ap Err none)
    ends_there m p all answers (Err e) (inr (is, rose)) = inl (ap Err is, rose)

    -- the members of the directory that was begun are those of the world asked about
    same_members : (m n : S) (l : LocalFsReadDir) (all : List Member) → members_in (ways s) w path ≡ Ok all → (x : Now m n (Ok l)) → members x.world l.reading.path ≡ all
    same_members m n l all is x =
        ap (members x.world) (x.at_dir l refl) ∙ (members_still w x.world dir x.same ∙ members_ok w dir (listable (look w.tree dir)) all is)

    links_now : (m n : S) (l : LocalFsReadDir) → (x : Now m n (Ok l)) → HasNoLinks x.world l.reading.path
    links_now m n l x = subst (HasNoLinks x.world) (sym (x.at_dir l refl)) (links_still w x.world dir x.same links)

    pub local_shows_members : ShowsMembers view lists s c path (members_in (ways s) w path)
    local_shows_members = record {
      begins = λ m n r first h. (now m n r first h).begun_so;
      walks = λ all is m n o l k answers first h walk.
          let x = now m n (Ok l) first h in
          subst (λ all. AreOf all (view.state m).faults (view.state o).faults answers) (same_members m n l all is x)
          (walk_told view lists listings true (at m) (at n) x.world path n o l k answers x.told_now (local.worlds m x.world x.told_now) (local.begins m n c path Data (Ok l) h).0 refl
          (links_now m n l x) walk);
      ends = λ all is m n o p l k j answers r first h walk on.
          let x = now m n (Ok l) first h in
          ends_there m p all answers r
          (subst (λ all. EndsBy (view.state m).faults all answers r (view.state p).faults) (same_members m n l all is x)
          (walk_ends view lists listings true (at m) (at n) x.world path n o p l k j answers r x.told_now (local.begins m n c path Data (Ok l) h).0 refl
          (links_now m n l x) walk on));
    }
