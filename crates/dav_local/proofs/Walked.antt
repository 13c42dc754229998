-- A walk over a listing of a local store is told of the members that stand in its directory, each once.
use Rattle.std.proofs.Common.{inl, inr, ◌≡◌, ◌≤◌, ℕ, Bool, true, false, List, [], ◌∷◌, ◌++◌, length, map, Option, None, Some, IfSome, Result, Ok, Err, IsOk, refl, sym, ap, ◌∙◌, subst, append-nil, arith}
use Rattle.std.proofs.lemmas.List.{length-map, map-append}
use Rattle.std.proofs.lemmas.List.Elements.{All-from_recursion, recursion_from_All}
use Rattle.std.proofs.lemmas.List.Sorted.{All-permutation, IsPermutation-map, length_permutation}
use Rattle.std.specs.List.{AllByRecursion, filter}
use Rattle.std.specs.List.Sorted.{IsPermutation}
use Rattle.dav_io.specs.Counts.{Rose}
use Rattle.dav_io.proofs.ToldLemmas.{told_after}
use Rattle.dav_core.specs.declared.error.FsError.{FsError}
use Rattle.dav_core.specs.declared.error.FsError.TheVariants as fs
use Rattle.dav_core.specs.declared.handle.Lister.{Lister}
use Rattle.dav_core.specs.declared.tree.Row.{Row}
use Rattle.dav_core.specs.Disk.{DiskState}
use Rattle.dav_core.specs.Info.{Info}
use Rattle.dav_core.specs.Listing.{ListedIn, Lists, listable, name_of, names_in, stands_in}
use Rattle.dav_core.specs.Members.{member_of, members}
use Rattle.dav_core.specs.Path.{Names}
use Rattle.dav_core.specs.Tree.{is_linked, look}
use Rattle.dav_core.specs.Unchanged.{SameBesidesOpens}
use Rattle.dav_core.specs.World.{World, IsWorld}
use Rattle.dav_core.proofs.UnchangedLemmas.{put_same, same_besides_then}
use Rattle.dav_store.specs.Members.{Answered, AreOf, Walked, begun, goes}
use Rattle.dav_store.specs.View.{View, Listings}
use Rattle.dav_local.specs.declared.entry.EntryMeta.{EntryMeta}
use Rattle.dav_local.specs.declared.entry.EntryMeta.TheVariants.{Read, At}
use Rattle.dav_local.specs.declared.entry.LocalFsDirEntry.{LocalFsDirEntry}
use Rattle.dav_local.specs.Entries.{Says}
use Rattle.dav_local.specs.Calls.{AfterFound, BeginsAt, Finds, Place}
use Rattle.dav_local.specs.Resolving.{Resolves}
use Rattle.dav_core.specs.DavPath.{WebPath}
use Rattle.dav_local.specs.Gathering.{BeginsDir, LocalFsReadDir, gathers}
use Rattle.dav_local.specs.Listing.{Gives, ListingState, NextEntry}
use Rattle.dav_local.specs.Shown.{EndsBy, WhyRefused}
use Rattle.dav_local.specs.Standing.{HasNoLinks}
use Rattle.dav_local.proofs.Gathered.{Next, ends_after, next_entry}
use Rattle.dav_local.proofs.Keeping.{metas_keep}
use Rattle.dav_local.proofs.EntriesTold.{listed_dir, rows_stand, gives_names, Given, given_rows, SaidOf, IsTold, all_later, all_push, moved, Fails, IsFree, both_all, front_all, are_answers, are_failing, last_of}
use Rattle.dav_local.proofs.Fronts.{wanted_by, Begun, MetaTold, called, Front, front_refills, given_from, still_after, refills_counts, refills_over}

-- ---- the walk

-- the calls of listings are those of a local store
pub record ListsLocal {S C F : Type 0} (view : View S C F) (lists : Listings S C LocalFsReadDir LocalFsDirEntry) : Type 0 where
  pub next_so : (s : S) (d : LocalFsReadDir) (r : Result (Option LocalFsDirEntry) FsError) (t : S) (e : LocalFsReadDir) → lists.lists_on s d r t e → Next (view.state s) d r (view.state t) e
  pub called_so : (e : LocalFsDirEntry) → lists.called e ≡ e.name
  pub says_so : (e : LocalFsDirEntry) (s : DiskState) (r : Result Info FsError) (t : DiskState) → lists.says e s r t → Says e.meta s r t

pub says_read : (b : Begun) (path : Names) (now : ℕ) (meta : EntryMeta) (s t : DiskState) (r : Result Info FsError) → MetaTold b path now meta → Says meta s r t
    → (t ≡ s) × (is_linked b.world.tree path ≡ false → SaidOf b.world path b.from now r)
says_read b path now (Read answer) s t r told (is, same) = (same, λ linked. subst (SaidOf b.world path b.from now) (sym is) (told linked))
says_read b path now (At place) s t r told says = absurd told

names_given : (answers : List Answered) (a : Answered) (name : List ℕ) → a.name ≡ name → map (λ (x : Answered). x.name) (answers ++ a ∷ []) ≡ map (λ (x : Answered). x.name) answers ++ name ∷ []
names_given answers a name is = map-append (λ (x : Answered). x.name) answers (a ∷ []) ∙ ap (λ n. map (λ (x : Answered). x.name) answers ++ n ∷ []) is

module _ {S C F : Type 0} (view : View S C F) (lists : Listings S C LocalFsReadDir LocalFsDirEntry) (local : ListsLocal view lists) where
  record Led (b : Begun) (answers : List Answered) (o : S) (k : LocalFsReadDir) : Type 0 where
    front : Front b (map (λ a. a.name) answers) (view.state o) k.reading
    each : AllByRecursion (IsTold b.world b.dir b.from (view.state o).faults) answers

  led_on : (b : Begun) (answers : List Answered) (m p q : S) (d j : LocalFsReadDir) (e : LocalFsDirEntry) (r : Result Info FsError) → Led b answers m d → NextEntry (view.state m) d.reading (Ok (Some e)) (view.state p) j.reading
      → Says e.meta (view.state p) r (view.state q) → Led b (answers ++ record { name = lists.called e; meta = r } ∷ []) q j
  led_on b answers m p q d j e r g (x, refills, gives) says =
      let names = map (λ (a : Answered). a.name) answers in
      let h = front_refills b names d.reading.batch (view.state m) (view.state p) d.reading x refills g.front in
      let got = given_from b names (view.state p) x j.reading e x.batch x.refused refl gives h in
      let (same, said) = says_read b (b.dir ++ e.name ∷ []) (view.state p).faults e.meta (view.state p) (view.state q) r got.told says in
      let up : (view.state m).faults ≤ (view.state q).faults = still_after (view.state m) (view.state p) (view.state q) (refills_counts d.reading.batch (view.state m) (view.state p) d.reading x refills) same in
      let end : (view.state p).faults ≡ (view.state q).faults = ap (λ (y : DiskState). y.faults) (sym same) in
      let place : b.dir ++ e.name ∷ [] ≡ b.dir ++ lists.called e ∷ [] = ap (λ n. b.dir ++ n ∷ []) (sym (local.called_so e)) in
      record {
        front = subst (λ z. Front b z (view.state q) j.reading) (sym (names_given answers (record { name = lists.called e; meta = r }) e.name (local.called_so e)))
            (subst (λ y. Front b (names ++ e.name ∷ []) y j.reading) (sym same) got.front);
        each = all_push (IsTold b.world b.dir b.from (view.state q).faults) answers (record { name = lists.called e; meta = r })
            (all_later b.world b.dir b.from (view.state m).faults (view.state q).faults answers up g.each)
            (λ linked. moved b.world (b.dir ++ e.name ∷ []) (b.dir ++ lists.called e ∷ []) b.from (view.state p).faults (view.state q).faults r r place end refl
            (said (ap (is_linked b.world.tree) place ∙ linked)));
      }

  led : (b : Begun) (n : S) (l : LocalFsReadDir) (o : S) (k : LocalFsReadDir) (answers : List Answered) → Front b [] (view.state n) l.reading → Walked view lists n l answers o k → Led b answers o k
  led b n l o k answers f begun = record { front = f; each = tt }
  led b n l o k answers f (goes before m p q d j e r walk on says lends keeps) =
      led_on b before m p q d j e r (led b n l m d before f walk) (next_entry (view.state m) (view.state p) d j e (local.next_so m d (Ok (Some e)) p j on)) (local.says_so e (view.state p) r (view.state q) says)

  -- what a listing was begun with
  pub record Start (b : Begun) (n : S) (l : LocalFsReadDir) : Type 0 where
    pub first : Front b [] (view.state n) l.reading
    pub listed : IsOk (listable (look b.world.tree b.dir))
    pub order : IsPermutation (names_in b.world.tree b.dir) b.names

  -- the entries are of rows of the directory, each once
  record OfRows (b : Begun) (answers : List Answered) (o : S) : Type 0 where
    others : List Row
    order : IsPermutation (filter (stands_in b.dir) b.world.tree) others
    of : Given answers others
    free : AllByRecursion (IsFree b.world b.dir) of.given
    each : AllByRecursion (IsTold b.world b.dir b.from (view.state o).faults) answers

  of_rows : (b : Begun) (n o : S) (l k : LocalFsReadDir) (answers : List Answered) → IsWorld b.world → HasNoLinks b.world b.dir → Start b n l → Walked view lists n l answers o k → OfRows b answers o
  of_rows b n o l k answers is links s walk =
      let f = led b n l o k answers s.first walk in
      let rows = filter (stands_in b.dir) b.world.tree in
      let (others, order, names) = gives_names rows b.names s.order in
      let g = given_rows answers (map called k.reading.batch ++ (f.front.lost ++ f.front.rest)) others (sym names ∙ f.front.are) in
      let at = listed_dir (look b.world.tree b.dir) s.listed in
      let free = both_all b.world b.dir rows (rows_stand b.world.tree b.dir at.row is.tree at.is) links.rows in
      let moved_free = recursion_from_All (IsFree b.world b.dir) others (All-permutation (IsFree b.world b.dir) rows others order (All-from_recursion (IsFree b.world b.dir) rows free)) in
      record {
        others = others;
        order = order;
        of = g;
        free = front_all (IsFree b.world b.dir) g.given g.others (subst (AllByRecursion (IsFree b.world b.dir)) g.parts moved_free);
        each = f.each;
      }

  -- the entries are of members of the directory, each once
  given_of : (b : Begun) (n o : S) (l k : LocalFsReadDir) (answers : List Answered) → IsWorld b.world → HasNoLinks b.world b.dir → Start b n l → Walked view lists n l answers o k
      → AreOf (members b.world b.dir) b.from (view.state o).faults answers
  given_of b n o l k answers is links s walk =
      let r = of_rows b n o l k answers is links s walk in
      let g = r.of in
      record {
        given = map (member_of b.world) g.given;
        rest = map (member_of b.world) g.others;
        once = subst (λ z. IsPermutation (members b.world b.dir) z) (ap (map (member_of b.world)) g.parts ∙ map-append (member_of b.world) g.given g.others)
            (IsPermutation-map (member_of b.world) (filter (stands_in b.dir) b.world.tree) r.others r.order);
        each = are_answers b.world b.dir b.from (view.state o).faults answers g.given g.names r.each r.free;
      }

  -- at the end all names were given
  all_given : (b : Begun) (answers : List Answered) (left : Names) → IsPermutation (names_in b.world.tree b.dir) b.names → b.names ≡ map (λ a. a.name) answers ++ left → left ≡ []
      → length answers ≡ length (members b.world b.dir)
  all_given b answers left order are none =
      let rows = filter (stands_in b.dir) b.world.tree in
      let all : b.names ≡ map (λ (a : Answered). a.name) answers = are ∙ (ap (λ z. map (λ (a : Answered). a.name) answers ++ z) none ∙ append-nil (map (λ (a : Answered). a.name) answers)) in
      sym (length-map answers (λ (a : Answered). a.name)) ∙ (sym (ap length all) ∙ (length_permutation (names_in b.world.tree b.dir) b.names order ∙ (length-map rows name_of ∙ sym (length-map rows (member_of b.world)))))

  ends_given : (b : Begun) (answers : List Answered) (x j : ListingState) (t : DiskState) (r : Result (Option LocalFsDirEntry) FsError) (batch : List LocalFsDirEntry) (refused : Option FsError)
      → IsPermutation (names_in b.world.tree b.dir) b.names → Front b (map (λ a. a.name) answers) t x → (x.batch ≡ [] → x.refused ≡ None → x.over ≡ true)
      → x.batch ≡ batch → x.refused ≡ refused → Gives batch refused x r j → EndsBy b.from (members b.world b.dir) answers r t.faults
  ends_given b answers x j t r (entry ∷ batch) refused order f over first none (is, ends) = rw is tt
  ends_given b answers x j t r [] None order f over first none (is, ends) =
      let left : map called x.batch ++ (f.lost ++ f.rest) ≡ [] =
      ap (λ z. map called z ++ (f.lost ++ f.rest)) first ∙ (ap (λ z. z ++ f.rest) (f.whole none) ∙ f.over (over first none) none) in
      rw is (all_given b answers (map called x.batch ++ (f.lost ++ f.rest)) order f.are left)
  ends_given b answers x j t r [] (Some e) order f over first none (is, ends) = rw is (subst (λ o. IfSome o (WhyRefused b.from t.faults)) none f.why)

  ends_of : (b : Begun) (n o p : S) (l k j : LocalFsReadDir) (answers : List Answered) (r : Result (Option LocalFsDirEntry) FsError) → Start b n l → Walked view lists n l answers o k
      → lists.lists_on o k r p j → EndsBy b.from (members b.world b.dir) answers r (view.state p).faults
  ends_of b n o p l k j answers r s walk on =
      let f = led b n l o k answers s.first walk in
      let next = local.next_so o k r p j on in
      let (x, refills, gives) = next.first in
      let names = map (λ (a : Answered). a.name) answers in
      let h = front_refills b names k.reading.batch (view.state o) next.middle k.reading x refills f.front in
      ends_after (view.state o) (view.state p) k j r next b.from (members b.world b.dir) answers
      (ends_given b answers x next.reading next.middle next.given x.batch x.refused s.order h (λ none refused. refills_over k.reading.batch (view.state o) next.middle k.reading x refl refills none refused) refl refl gives)

  -- ---- from the beginning of a listing

  same_ok : (l : LocalFsReadDir) (e : FsError) → ◌≡◌ {A = Result LocalFsReadDir FsError} (Ok l) (Err e) → ⊥
  same_ok l e is = cc

  pub record Began (p : Place) (w : World) (n : S) (l : LocalFsReadDir) : Type 0 where
    pub begun : Begun
    pub world : begun.world ≡ w
    pub dir : begun.dir ≡ l.reading.path
    pub from : begun.from ≡ p.disk.faults
    pub start : Start begun n l

  began_at : (follows : Bool) (p : Place) (w v : World) (at : Names) (m t : DiskState) (n : S) (l : LocalFsReadDir) (lister : Lister) → SameBesidesOpens w v → m.told ≡ Some v → p.disk.faults ≤ m.faults
      → is_linked w.tree at ≡ false → Lists m at (Ok lister) t → l.reading ≡ record { lister = lister; path = at; wanted = wanted_by follows; batch = []; refused = None; over = false } → view.state n ≡ t → Began p w n l
  began_at follows p w v at m t n l lister same told le clear lists is ends =
      let (x, now, listed) = told_after m.told t.told (ListedIn at (Ok lister)) v lists.told told in
      let clear_now = ap (λ rows. is_linked rows at) same.tree ∙ clear in
      let stands = listed.2 clear_now in
      let b : Begun = record { follows = follows; lister = lister.0; world = w; dir = at; names = listed.0; from = p.disk.faults } in
      record {
        begun = record { follows = follows; lister = lister.0; world = w; dir = at; names = listed.0; from = p.disk.faults };
        world = refl;
        dir = ap (λ (d : ListingState). d.path) (sym is);
        from = refl;
        start = record {
          first = subst (λ d. Front b [] (view.state n) d) (sym is) (subst (λ s. Front b [] s (record { lister = lister; path = at; wanted = wanted_by follows; batch = []; refused = None; over = false })) (sym ends) (record {
            lister = refl;
            path = refl;
            wanted = refl;
            rest = listed.0;
            lost = [];
            now = x;
            told = now;
            world = same_besides_then w v x same (rw listed.1 (record { tree = refl; files = λ number held. (held, refl); greatest = refl; latest = refl; script = refl }));
            listing = ap (λ u. u.listings lister.0) listed.1 ∙ put_same lister.0 (Some listed.0) v.listings;
            are = refl;
            whole = λ e. refl;
            over = λ e r. cc;
            each = tt;
            why = tt;
            counts = omega (arith, le, lists.counted.counts);
          }));
          listed = subst (λ rows. IsOk (listable (look rows at))) same.tree stands.0;
          order = subst (λ rows. IsPermutation (names_in rows at) listed.0) same.tree stands.1;
        };
      }

  -- the listing that was begun, whatever is gathered from it
  began_dir : (gathers : Bool) (follows : Bool) (p : Place) (w v : World) (at : Names) (m t : DiskState) (n : S) (l : LocalFsReadDir) → SameBesidesOpens w v → m.told ≡ Some v → p.disk.faults ≤ m.faults
      → is_linked w.tree l.reading.path ≡ false → BeginsDir gathers at (wanted_by follows) m (Ok l) t → view.state n ≡ t → Began p w n l
  began_dir false follows p w v at m t n l same told le clear (Err e, (answer, lists, is), whole) ends = absurd (same_ok l e whole)
  began_dir false follows p w v at m t n l same told le clear (Ok reading, (Err e, lists, is), whole) ends = cc
  began_dir false follows p w v at m t n l same told le clear (Ok reading, (Ok lister, lists, is), whole) ends =
      let dir_is : l.reading ≡ record { lister = lister; path = at; wanted = wanted_by follows; batch = []; refused = None; over = false } = cc in
      began_at follows p w v at m t n l lister same told le (ap (λ (d : ListingState). is_linked w.tree d.path) (sym dir_is) ∙ clear) lists dir_is ends
  began_dir true follows p w v at m t n l same told le clear (inl (starved, as_it_was)) ends = cc
  began_dir true follows p w v at m t n l same told le clear (inr (b, u, (found, metas, is_b), (Err e), (answer, lists, is), whole)) ends = absurd (same_ok l e whole)
  began_dir true follows p w v at m t n l same told le clear (inr (b, u, (found, metas, is_b), (Ok reading), (Err e, lists, is), whole)) ends = cc
  began_dir true follows p w v at m t n l same told le clear (inr (b, u, (found, metas, is_b), (Ok reading), (Ok lister, lists, is), whole)) ends =
      let keeps = metas_keep true m at found u metas in
      let (x, now, still) = told_after m.told u.told SameBesidesOpens v keeps.world told in
      let dir_is : l.reading ≡ record { lister = lister; path = at; wanted = wanted_by follows; batch = []; refused = None; over = false } = cc in
      began_at follows p w x at u t n l lister (same_besides_then w v x same still) now (omega (arith, le, keeps.counts)) (ap (λ (d : ListingState). is_linked w.tree d.path) (sym dir_is) ∙ clear) lists dir_is ends

  pub began : (follows : Bool) (p q : Place) (w : World) (path : WebPath) (n : S) (l : LocalFsReadDir) (found : Result Names FsError) (m : Place) → p.disk.told ≡ Some w → Resolves p path.names found m
      → AfterFound found m (BeginsAt (wanted_by follows)) (Ok l) q → view.state n ≡ q.disk → is_linked w.tree l.reading.path ≡ false → Began p w n l
  began follows p q w path n l (Err e) m told resolves (is, ends) state clear = absurd (same_ok l e is)
  began follows p q w path n l (Ok at) m told resolves (t, begins, ends) state clear =
      let (v, now, same) = told_after p.disk.told m.disk.told SameBesidesOpens w resolves.keeps.world told in
      began_dir (gathers m.ways.macos (wanted_by follows)) follows p w v at m.disk t n l same now resolves.keeps.counts clear begins (state ∙ ap (λ (x : Place). x.disk) ends)

  pub walk_told : (follows : Bool) (p q : Place) (w : World) (path : WebPath) (n o : S) (l k : LocalFsReadDir) (answers : List Answered) → p.disk.told ≡ Some w → IsWorld w → Finds p path.names (BeginsAt (wanted_by follows)) (Ok l) q
      → view.state n ≡ q.disk → HasNoLinks w l.reading.path → Walked view lists n l answers o k → AreOf (members w l.reading.path) p.disk.faults (view.state o).faults answers
  walk_told follows p q w path n o l k answers told world (found, m, resolves, after) state links walk =
      by_begun (began follows p q w path n l found m told resolves after state links.way)
    where
      by_begun : Began p w n l → AreOf (members w l.reading.path) p.disk.faults (view.state o).faults answers
      by_begun g =
          subst (λ from. AreOf (members w l.reading.path) from (view.state o).faults answers) g.from
          (subst (λ v. AreOf (members v l.reading.path) g.begun.from (view.state o).faults answers) g.world
          (subst (λ d. AreOf (members g.begun.world d) g.begun.from (view.state o).faults answers) g.dir
          (given_of g.begun n o l k answers (subst IsWorld (sym g.world) world) (subst (λ v. HasNoLinks v g.begun.dir) (sym g.world) (subst (HasNoLinks w) (sym g.dir) links)) g.start walk)))

  -- The last entry of a walk was refused its metadata: because of a fault.
  pub walk_fails : (follows : Bool) (p q : Place) (w : World) (path : WebPath) (n o : S) (l k : LocalFsReadDir) (answers : List Answered) (name : List ℕ) (e : FsError) → p.disk.told ≡ Some w → IsWorld w
      → Finds p path.names (BeginsAt (wanted_by follows)) (Ok l) q → view.state n ≡ q.disk → HasNoLinks w l.reading.path → Walked view lists n l (answers ++ record { name = name; meta = Err e } ∷ []) o k
      → (e ≡ fs.GeneralFailure) × Rose p.disk.faults (view.state o).faults
  walk_fails follows p q w path n o l k answers name e told world (found, m, resolves, after) state links walk =
      by_begun (began follows p q w path n l found m told resolves after state links.way)
    where
      by_begun : Began p w n l → (e ≡ fs.GeneralFailure) × Rose p.disk.faults (view.state o).faults
      by_begun g =
          let all = answers ++ record { name = name; meta = Err e } ∷ [] in
          let r = of_rows g.begun n o l k all (subst IsWorld (sym g.world) world) (subst (λ v. HasNoLinks v g.begun.dir) (sym g.world) (subst (HasNoLinks w) (sym g.dir) links)) g.start walk in
          let failing = are_failing g.begun.world g.begun.dir g.begun.from (view.state o).faults all r.of.given r.of.names r.each r.free in
          subst (λ from. (e ≡ fs.GeneralFailure) × Rose from (view.state o).faults) g.from
          (last_of (Fails g.begun.from (view.state o).faults) answers (record { name = name; meta = Err e }) failing e refl)

  pub walk_ends : (follows : Bool) (p q : Place) (w : World) (path : WebPath) (n o r : S) (l k j : LocalFsReadDir) (answers : List Answered) (last : Result (Option LocalFsDirEntry) FsError) → p.disk.told ≡ Some w
      → Finds p path.names (BeginsAt (wanted_by follows)) (Ok l) q → view.state n ≡ q.disk → HasNoLinks w l.reading.path → Walked view lists n l answers o k → lists.lists_on o k last r j
      → EndsBy p.disk.faults (members w l.reading.path) answers last (view.state r).faults
  walk_ends follows p q w path n o r l k j answers last told (found, m, resolves, after) state links walk on =
      by_begun (began follows p q w path n l found m told resolves after state links.way)
    where
      by_begun : Began p w n l → EndsBy p.disk.faults (members w l.reading.path) answers last (view.state r).faults
      by_begun g =
          subst (λ from. EndsBy from (members w l.reading.path) answers last (view.state r).faults) g.from
          (subst (λ v. EndsBy g.begun.from (members v l.reading.path) answers last (view.state r).faults) g.world
          (subst (λ d. EndsBy g.begun.from (members g.begun.world d) answers last (view.state r).faults) g.dir
          (ends_of g.begun n o r l k j answers last g.start walk on)))
