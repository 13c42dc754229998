-- A call of `get`, `get_open` or `negative` is a row of its caller's events, over a disk that tells the tree and that nobody changes meanwhile.
use Rattle.std.proofs.Common.{◌≡◌, ℕ, zero, suc, Bool, true, false, not, ◌&&◌, List, [], ◌∷◌, ◌++◌, Option, Some, None, Result, Ok, Err, is_ok, option_map, is_some, if◌then◌else◌, slice_get, slice_set, refl, sym, ap, ap₂, subst, ◌∙◌, inl, inr, append_assoc}
use Rattle.std.specs.Map.{lookup}
use Rattle.dav_core.specs.declared.handle.Meta.{Meta}
use Rattle.dav_core.specs.declared.handle.DiskError.{DiskError}
use Rattle.dav_core.specs.declared.tree.Row.{Row}
use Rattle.dav_core.specs.declared.tree.Kind.{Kind}
use Rattle.dav_core.specs.Disk.{DiskState, Metas, OpenedIn, kind_opened}
use Rattle.dav_io.specs.Told.{Both}
use Rattle.dav_core.specs.World.{World}
use Rattle.dav_core.specs.Tree.{row_at, is_dir, is_linked, look_from, look}
use Rattle.dav_core.specs.declared.tree.Kind.TheVariants.{Dir, File, Link}
use Rattle.dav_core.proofs.LookLemmas.{standing_row, below_ok}
use Rattle.dav_memory.specs.Trees.{Name, Names, FileTime, Tree, same_path, has_row, time_of_row, fold_path}
use Rattle.dav_memory.specs.Entries.{Paths, PathCache, DotCache, without, promoted, dir_key, same_key, concludes, is_time}
use Rattle.dav_memory.specs.declared.entry.PathEntry.{PathEntry}
use Rattle.dav_memory.specs.declared.key.DuEntry.{DuEntry}
use Rattle.dav_memory.specs.Calls.{LooksBy, Seeing, Opening, Denies, probed, found_by, has_time, dropped}
use Rattle.dav_cache.specs.Core.{State, Place, Turn, goes, time_told, ask, peeked, peek, check, conclude, drop_dir, find, got, get, probe, drop, turn, step, run}
use Rattle.dav_cache.specs.declared.event.Event.TheVariants.{Ask, Peek, Check, Conclude, DropDir, Find, Get, Probe, Drop}
use Rattle.dav_cache.specs.declared.place.Place.TheVariants.{Idle, Asked, Peeked, Passed, Failed, Finding, Got, Missed}
use Rattle.dav_cache.specs.declared.event.Told.TheVariants.{Nothing, Absent, Path}
use Rattle.dav_cache.specs.Transparency.{GetIsEvents, NegativeIsEvents, LookUpsAreEvents, GetsAreEvents, OpensAreEvents, NegativesAreEvents}
use Rattle.dav_memory.proofs.Keys.{path_decides}
use Rattle.dav_cache.proofs.Places.{get-set_same}

-- ---- what a walk finds

nothing_more : (at : Names) → at ++ [] ≡ at
nothing_more [] = refl
nothing_more (n ∷ at) = ap (λ (l : Names). n ∷ l) (nothing_more at)

walk_is : (tree : Tree) (at names : Names) (row : Row) → look_from tree at names ≡ Ok row → row_at tree (at ++ names) ≡ Some row
walk_is tree at [] row e = ap (row_at tree) (nothing_more at) ∙ standing_row (row_at tree at) row e
walk_is tree at (name ∷ names) row e =
    ap (row_at tree) (sym (append_assoc at (name ∷ []) names)) ∙ walk_is tree (at ++ name ∷ []) names row (below_ok (row_at tree at) _ row e).3

look_is : (tree : Tree) (path : Names) (row : Row) → look tree path ≡ Ok row → row_at tree path ≡ Some row
look_is tree path row e = walk_is tree [] path row e

-- Where such a call of the disk is answered, something stands at its path, if no link stands on the way.
abbrev StandsWhere : {A : Type 0} → (DiskState → Names → Result A DiskError → DiskState → Type 0) → Type 0
StandsWhere call = (before after : DiskState) (w : World) (path : Names) (x : _) → before.told ≡ Some w → is_linked w.tree path ≡ false
    → call before path (Ok x) after → (row : Row) × (look w.tree path ≡ Ok row)

-- ---- places

set-set : (ps : List Place) (c : ℕ) (p q : Place) → slice_set (slice_set ps c p) c q ≡ slice_set ps c q
set-set [] c p q = refl
set-set (r ∷ ps) zero p q = refl
set-set (r ∷ ps) (suc c) p q = ap (λ (l : List Place). r ∷ l) (set-set ps c p q)

set-back : (ps : List Place) (c : ℕ) (p : Place) → slice_get ps c ≡ Some p → slice_set ps c p ≡ ps
set-back [] c p h = refl
set-back (r ∷ ps) zero p h = let same : r ≡ p = cc in ap (λ (q : Place). q ∷ ps) (sym same)
set-back (r ∷ ps) (suc c) p h = ap (λ (l : List Place). r ∷ l) (set-back ps c p h)

-- ---- looking up a path

without-twice : (test : Names → Bool) (es : Paths) → without test (without test es) ≡ without test es
without-twice test [] = refl
without-twice test (e ∷ es) = (elim (test e.0) as (λ y. test e.0 ≡ y → without test (without test (e ∷ es)) ≡ without test (e ∷ es)) [
  | true ↦ λ t. rw t (without-twice test es)
  | false ↦ λ t. rw (t, t) (ap (λ (l : Paths). e ∷ l) (without-twice test es))
]) refl

without-front : (key : Names) (e : PathEntry) (es : Paths)
    → without (same_path key) ((key, e) ∷ without (same_path key) es) ≡ without (same_path key) es
without-front key e es = rw ((path_decides key key).1 refl) (without-twice (same_path key) es)

module _ (s : State) (c : ℕ) (idle : slice_get s.places c ≡ Some Idle) where
  -- the caller is at a place
  abbrev at : Place → State
  at p = record s { places = slice_set s.places c p }

  placed : (p : Place) → slice_get (slice_set s.places c p) c ≡ Some p
  placed p = get-set_same s.places c p Idle idle

  -- and is idle again
  again : (p : Place) → slice_set (slice_set s.places c p) c Idle ≡ s.places
  again p = set-set s.places c p Idle ∙ set-back s.places c Idle idle

  again-2 : (p q : Place) → slice_set (slice_set (slice_set s.places c p) c q) c Idle ≡ s.places
  again-2 p q = set-set (slice_set s.places c p) c q Idle ∙ again p

  again-3 : (p q r : Place) → slice_set (slice_set (slice_set (slice_set s.places c p) c q) c r) c Idle ≡ s.places
  again-3 p q r = set-set (slice_set (slice_set s.places c p) c q) c r Idle ∙ again-2 p q

  module _ (path : Names) where
    abbrev found-at : Option PathEntry → Turn
    found-at o = got (at (Finding path)) c path o

    finds : step s (Find c path) ≡ at (Finding path)
    finds = ap (λ o. (find s c path o).0) idle

    gets : turn (run s (Find c path ∷ [])) (Get c) ≡ found-at (lookup (same_path (fold_path path)) s.paths)
    gets = ap (λ t. turn t (Get c)) finds ∙ ap (λ o. get (at (Finding path)) c o) (placed (Finding path))

    module _ (e : PathEntry) (is : lookup (same_path (fold_path path)) s.paths ≡ Some e) where
      abbrev s2 : State
      s2 = record s { paths = promoted (fold_path path) (Some e) s.paths; places = slice_set (slice_set s.places c (Finding path)) c (Got path e.path) }

      got-it : run s (Find c path ∷ Get c ∷ []) ≡ s2
      got-it = ap (λ (t : Turn). t.0) (gets ∙ ap found-at is)

      placed-2 : slice_get s2.places c ≡ Some (Got path e.path)
      placed-2 = get-set_same (slice_set s.places c (Finding path)) c (Got path e.path) (Finding path) (placed (Finding path))

      probes : (refused : Bool) → turn (run s (Find c path ∷ Get c ∷ [])) (Probe c refused) ≡ (if not refused && has_row s.tree e.path then goes s2 c Idle (Path (Some e.path)) else goes s2 c (Missed path) Nothing)
      probes refused = ap (λ t. turn t (Probe c refused)) got-it ∙ ap (λ o. probe s2 c refused o) placed-2

      hit : has_row s.tree e.path ≡ true → turn (run s (Find c path ∷ Get c ∷ [])) (Probe c false) ≡ goes s2 c Idle (Path (Some e.path))
      hit there = probes false ∙ ap (λ b. if b then goes s2 c Idle (Path (Some e.path)) else goes s2 c (Missed path) Nothing) there

      hit-leaves : (goes s2 c Idle (Path (Some e.path))).0 ≡ record s { paths = promoted (fold_path path) (Some e) s.paths }
      hit-leaves = ap (λ (ps : List Place). let t : State = record s { paths = promoted (fold_path path) (Some e) s.paths; places = ps } in t) (again-2 (Finding path) (Got path e.path))

      abbrev s3 : State
      s3 = record s2 { places = slice_set s2.places c (Missed path) }

      missed : run s (Find c path ∷ Get c ∷ Probe c true ∷ []) ≡ s3
      missed = ap (λ (t : Turn). t.0) (probes true)

      drops : turn (run s (Find c path ∷ Get c ∷ Probe c true ∷ [])) (Drop c) ≡ goes (record s3 { paths = without (same_path (fold_path path)) s3.paths }) c Idle (Path None)
      drops = ap (λ t. turn t (Drop c)) missed ∙ ap (λ o. drop s3 c o) (get-set_same s2.places c (Missed path) (Got path e.path) placed-2)

      drop-leaves : (goes (record s3 { paths = without (same_path (fold_path path)) s3.paths }) c Idle (Path None)).0 ≡ record s { paths = without (same_path (fold_path path)) s.paths }
      drop-leaves =
          ap₂ (λ (ps : List Place) (l : Paths). let t : State = record s { paths = l; places = ps } in t) (again-3 (Finding path) (Got path e.path) (Missed path)) (without-front (fold_path path) e s.paths)

    -- the answer of the disk, over its tree
    module _ {A : Type 0} (call : DiskState → Names → Result A DiskError → DiskState → Type 0) (stands : StandsWhere call) (before after : DiskState) (w : World) (tells : before.told ≡ Some w) (tree : w.tree ≡ s.tree) (free : (e : PathEntry) → lookup (same_path (fold_path path)) s.paths ≡ Some e → is_linked w.tree e.path ≡ false) where
      there : (p : Names) (x : A) → is_linked w.tree p ≡ false → call before p (Ok x) after → has_row s.tree p ≡ true
      there p x no_link called =
          let (row, found) = stands before after w p x tells no_link called in
          ap is_some (ap (λ (t : Tree). row_at t p) (sym tree) ∙ look_is w.tree p row found)

      by_answer : (e : PathEntry) → lookup (same_path (fold_path path)) s.paths ≡ Some e → (answer : Result A DiskError)
          → call before e.path answer after
          → GetIsEvents s c path (option_map (λ f. f.0) (found_by e.path answer)) (probed (is_ok answer) (fold_path path) e s.paths)
      by_answer e is (Ok x) called =
          let all = hit e is (there e.path x (free e is) called) in
          record {
            events = Find c path ∷ Get c ∷ [];
            last = Probe c false;
            row = inr (false, inl refl);
            tells = ap (λ (t : Turn). t.1) all;
            leaves = ap (λ (t : Turn). t.0) all ∙ hit-leaves e is;
          }
      by_answer e is (Err error) called = record {
        events = Find c path ∷ Get c ∷ Probe c true ∷ [];
        last = Drop c;
        row = inr (true, inr refl);
        tells = ap (λ (t : Turn). t.1) (drops e is);
        leaves = ap (λ (t : Turn). t.0) (drops e is) ∙ drop-leaves e is;
      }

      gets-by : (o : Option PathEntry) → lookup (same_path (fold_path path)) s.paths ≡ o → (found : Option (Names × A)) (new : PathCache)
          → LooksBy call o (record { entries = s.paths; size = s.paths_size }) path before found new after
          → GetIsEvents s c path (option_map (λ f. f.0) found) new.entries
      gets-by None is found new (none, same, asked) =
          let all = gets ∙ ap found-at is in
          record {
            events = Find c path ∷ [];
            last = Get c;
            row = inl refl;
            tells = ap (λ (t : Turn). t.1) all ∙ ap (λ (f : Option (Names × A)). Path (option_map (λ g. g.0) f)) (sym none);
            leaves =
                ap (λ (t : Turn). t.0) all ∙ ap (λ (ps : List Place). let t : State = record s { places = ps } in t) (again (Finding path))
                ∙ ap (λ (k : PathCache). let t : State = record s { paths = k.entries } in t) (sym same);
          }
      gets-by (Some e) is found new (answer, called, tells_, left) =
          subst (λ (f : Option (Names × A)). GetIsEvents s c path (option_map (λ g. g.0) f) new.entries) (sym tells_)
          (subst (λ (k : PathCache). GetIsEvents s c path (option_map (λ g. g.0) (found_by e.path answer)) k.entries) (sym left) (by_answer e is answer called))

looks_are_events : {A : Type 0} (call : DiskState → Names → Result A DiskError → DiskState → Type 0) → StandsWhere call → LookUpsAreEvents call
looks_are_events call stands s c path before after w found new idle tells tree free looks =
    gets-by s c idle path call stands before after w tells tree free (lookup (same_path (fold_path path)) s.paths) refl found new looks

seen_stands : StandsWhere Seeing
seen_stands before after w path meta told no_link metas = let (row, found, known) = metas.told w told no_link in (row, found)

pub gets_are_events : GetsAreEvents
gets_are_events = looks_are_events Seeing seen_stands

opened_stands : StandsWhere Opening
opened_stands before after w path handle told no_link (opens, fed) = by_told before.told after.told told opens.told
  where
    by_told : (a b : Option World) → a ≡ Some w → Both a b (OpenedIn path (Ok handle) (kind_opened (Ok handle) after)) → (row : Row) × (look w.tree path ≡ Ok row)
    by_told None b is both = cc
    by_told (Some v) None is both = absurd both
    by_told (Some v) (Some x) is (number, opened, holds, stands) =
        let same : v ≡ w = cc in
        let (row, found, numbered, kind) = stands (ap (λ (u : World). is_linked u.tree path) same ∙ no_link) in
        (row, ap (λ (u : World). look u.tree path) (sym same) ∙ found)

pub opens_are_events : OpensAreEvents
opens_are_events = looks_are_events Opening opened_stands

-- ---- asking whether a name is absent

module _ (s : State) (c : ℕ) (idle : slice_get s.places c ≡ Some Idle) (dir : Names) (name : Name) where
  abbrev peeks-at : Option DuEntry → Turn
  peeks-at o = peeked (at s c idle (Asked dir name)) c dir name o

  asks : step s (Ask c dir name) ≡ at s c idle (Asked dir name)
  asks = ap (λ o. (ask s c dir name o).0) idle

  peeks : turn (run s (Ask c dir name ∷ [])) (Peek c) ≡ peeks-at (lookup (same_key (dir_key dir)) s.dots)
  peeks = ap (λ t. turn t (Peek c)) asks ∙ ap (λ o. peek (at s c idle (Asked dir name)) c o) (placed s c idle (Asked dir name))

  module _ (e : DuEntry) (is : lookup (same_key (dir_key dir)) s.dots ≡ Some e) where
    abbrev held : Place
    held = Peeked dir name e.number e.time

    abbrev p2 : List Place
    p2 = slice_set (slice_set s.places c (Asked dir name)) c held

    holds : run s (Ask c dir name ∷ Peek c ∷ []) ≡ record s { places = p2 }
    holds = ap (λ (t : Turn). t.0) (peeks ∙ ap peeks-at is)

    placed-held : slice_get p2 c ≡ Some held
    placed-held = get-set_same (slice_set s.places c (Asked dir name)) c held (Asked dir name) (placed s c idle (Asked dir name))

    abbrev checked : Bool → Place
    checked b = if b then Passed dir name e.number e.time else Failed dir

    checks : (refused b : Bool) → is_time e.time (time_told refused s.tree dir) ≡ b
        → run s (Ask c dir name ∷ Peek c ∷ Check c refused ∷ []) ≡ record s { places = slice_set p2 c (checked b) }
    checks refused b t =
        ap (λ u. step u (Check c refused)) holds
        ∙ ap (λ o. (check (record s { places = p2 }) c refused o).0) placed-held
        ∙ ap (λ v. let u : State = record s { places = slice_set p2 c (checked v) } in u) t

    placed-checked : (b : Bool) → slice_get (slice_set p2 c (checked b)) c ≡ Some (checked b)
    placed-checked b = get-set_same p2 c (checked b) held placed-held

    concluded : (refused : Bool) → is_time e.time (time_told refused s.tree dir) ≡ true
        → turn (run s (Ask c dir name ∷ Peek c ∷ Check c refused ∷ [])) (Conclude c) ≡ goes (record s { places = slice_set p2 c (checked true) }) c Idle (Absent (concludes s.dots dir name e.number))
    concluded refused t =
        ap (λ u. turn u (Conclude c)) (checks refused true t)
        ∙ ap (λ o. conclude (record s { places = slice_set p2 c (checked true) }) c o) (placed-checked true)

    dropped_out : (refused : Bool) → is_time e.time (time_told refused s.tree dir) ≡ false
        → turn (run s (Ask c dir name ∷ Peek c ∷ Check c refused ∷ [])) (DropDir c) ≡ goes (record s { places = slice_set p2 c (checked false); dots = without (same_key (dir_key dir)) s.dots }) c Idle (Absent false)
    dropped_out refused t =
        ap (λ u. turn u (DropDir c)) (checks refused false t)
        ∙ ap (λ o. drop_dir (record s { places = slice_set p2 c (checked false) }) c o) (placed-checked false)

    abbrev old : DotCache
    old = record { entries = s.dots; size = s.dots_size; next = s.next }

    by_time : (refused b : Bool) → is_time e.time (time_told refused s.tree dir) ≡ b
        → NegativeIsEvents s c dir name (b && concludes s.dots dir name e.number) (if b then old else dropped dir old).entries
    by_time refused true t = record {
      events = Ask c dir name ∷ Peek c ∷ Check c refused ∷ [];
      last = Conclude c;
      row = inr (refused, inl refl);
      tells = ap (λ (u : Turn). u.1) (concluded refused t);
      leaves =
          ap (λ (u : Turn). u.0) (concluded refused t)
          ∙ ap (λ (ps : List Place). let u : State = record s { places = ps } in u) (again-3 s c idle (Asked dir name) held (checked true));
    }
    by_time refused false t = record {
      events = Ask c dir name ∷ Peek c ∷ Check c refused ∷ [];
      last = DropDir c;
      row = inr (refused, inr refl);
      tells = ap (λ (u : Turn). u.1) (dropped_out refused t);
      leaves =
          ap (λ (u : Turn). u.0) (dropped_out refused t)
          ∙ ap (λ (ps : List Place). let u : State = record s { places = ps; dots = without (same_key (dir_key dir)) s.dots } in u) (again-3 s c idle (Asked dir name) held (checked false));
    }

    time-told : (k : Kind) (t : FileTime) → (is_dir k && is_time e.time (Some t)) ≡ is_time e.time (if is_dir k then Some t else None)
    time-told Dir t = refl
    time-told File t = refl
    time-told Link t = refl

    module _ (before after : DiskState) (w : World) (tells : before.told ≡ Some w) (tree : w.tree ≡ s.tree) (free : is_linked w.tree dir ≡ false) where
      check-answer : (answer : Result Meta DiskError) → Metas before dir answer after
          → (refused : Bool) × (is_time e.time (time_told refused s.tree dir) ≡ has_time e.time answer)
      check-answer (Ok meta) metas =
          let (row, found, known) = metas.told w tells free in
          let at_ : row_at s.tree dir ≡ Some row = ap (λ (t : Tree). row_at t dir) (sym tree) ∙ look_is w.tree dir row found in (
            false,
            ap (λ o. is_time e.time (time_of_row o)) at_ ∙ sym (time-told row.kind row.time) ∙ sym (ap₂ (λ k t. is_dir k && is_time e.time t) known.kind known.modified),
          )
      check-answer (Err error) metas = (true, refl)

  negatives-by : (before after : DiskState) (w : World) → before.told ≡ Some w → w.tree ≡ s.tree → is_linked w.tree dir ≡ false → (o : Option DuEntry)
      → lookup (same_key (dir_key dir)) s.dots ≡ o
      → (absent : Bool) (new : DotCache) → Denies o (record { entries = s.dots; size = s.dots_size; next = s.next }) dir name before absent new after
      → NegativeIsEvents s c dir name absent new.entries
  negatives-by before after w tells tree free None is absent new (not_, same, asked) =
      let all = peeks ∙ ap peeks-at is in
      record {
        events = Ask c dir name ∷ [];
        last = Peek c;
        row = inl refl;
        tells = ap (λ (u : Turn). u.1) all ∙ ap Absent (sym not_);
        leaves =
            ap (λ (u : Turn). u.0) all ∙ ap (λ (ps : List Place). let u : State = record s { places = ps } in u) (again s c idle (Asked dir name))
            ∙ ap (λ (k : DotCache). let u : State = record s { dots = k.entries } in u) (sym same);
      }
  negatives-by before after w tells tree free (Some e) is absent new (answer, metas, says, left) =
      let check_ = check-answer e is before after w tells tree free answer metas in
      subst (λ b. NegativeIsEvents s c dir name b new.entries) (sym says)
      (subst (λ (k : DotCache). NegativeIsEvents s c dir name (has_time e.time answer && concludes s.dots dir name e.number) k.entries) (sym left) (by_time e is check_.0 (has_time e.time answer) check_.1))

pub negatives_are_events : NegativesAreEvents
negatives_are_events s c dir name before after w absent new idle tells tree free denies =
    negatives-by s c idle dir name before after w tells tree free (lookup (same_key (dir_key dir)) s.dots) refl absent new denies
