-- Over one file that is served alone the removal at any path does what the plan says of the file's place: a file goes, and a directory
-- that came there without members. One with members stays, since each path below it leads to it again.
-- Headline: `one_removed`.
use Rattle.std.proofs.Common.{◌≡◌, ◌⊎◌, ◌&&◌, ◌||◌, length, List, [], ◌∷◌, map, Bool, true, false, not, cond, Option, None, Some, Result, Ok, Err, refl, sym, ap, subst, ◌∙◌, inl, inr, append-nil, arith}
use Rattle.std.specs.List.{filter, list_all}
use Rattle.dav_io.specs.Told.{Both}
use Rattle.dav_io.proofs.ToldLemmas.{both_map, both_same, both_then}
use Rattle.dav_core.specs.declared.dav_error.DavError.{DavError}
use Rattle.dav_core.specs.declared.dav_error.DavError.TheVariants as dav
use Rattle.dav_core.specs.declared.error.FsError.{FsError}
use Rattle.dav_core.specs.declared.error.FsError.TheVariants as fs
use Rattle.dav_core.specs.declared.handle.DiskError.{DiskError}
use Rattle.dav_core.specs.declared.handle.DiskError.TheVariants.{IsDir, NotDir, NotEmpty}
use Rattle.dav_core.specs.declared.tree.Row.{Row}
use Rattle.dav_core.specs.Allowed.{Allowed, found_then, may_go, taking_dir, taking_dir_row, taking_file, taking_file_row}
use Rattle.dav_core.specs.Changes.{is_leaf}
use Rattle.dav_core.specs.DavPath.{WebPath}
use Rattle.dav_core.specs.Edits.{takes}
use Rattle.dav_core.specs.Listing.{stands_in}
use Rattle.dav_core.specs.Path.{Names, is_front, same_names}
use Rattle.dav_core.specs.Statuses.{of_fs}
use Rattle.dav_core.specs.Tree.{has_dir, is_dir, is_linked, look}
use Rattle.dav_core.specs.World.{IsWorld, SameBesidesOpens, World}
use Rattle.dav_core.proofs.UnchangedLemmas.{same_besides}
use Rattle.dav_core.proofs.Paths.{names_equal, names_same}
use Rattle.dav_core.proofs.Elements.{In, all_at, all_in}
use Rattle.dav_store.specs.View.{Listings, View}
use Rattle.dav_model.specs.CarryPlans.{act_of}
use Rattle.dav_model.specs.Conditions.{Fields}
use Rattle.dav_model.specs.Finding.{has_slash, is_clear, is_forbidden, or_walk, resolved, resolved_from}
use Rattle.dav_model.specs.Plans.{Act, edits_of, first, halts, has_link_below, line, may_take, not_allowed, stays_full, taking, unless, when}
use Rattle.dav_model.specs.Rules.{Knowledge, Rules}
use Rattle.dav_model.specs.Valid.{TellsApart, no_twins}
use Rattle.dav_model.specs.Walks.{in_order, members_first}
use Rattle.dav_model.proofs.JoiningLemmas.{part_none}
use Rattle.dav_walks.specs.declared.child.Child.{Child}
use Rattle.dav_walks.specs.declared.work.Work.{Work}
use Rattle.dav_walks.specs.declared.work.Work.TheVariants.{Emptied, Whole}
use Rattle.dav_walks.specs.Follows.{Calls, FailsToList, Follows, ListsBy, Reached, Told, UnlessShut, child_of, children_in, removes_dir, removes_file}
use Rattle.dav_walks.specs.Lines.{Line}
use Rattle.dav_walks.specs.Pouring.{Writes}
use Rattle.dav_walks.specs.Reading.{HasMembers}
use Rattle.dav_walks.specs.Removing.{RefusesDir, Removes, RemovesOne, goes, is_deep, line_of, short as cut_short, stops, works_in, done as no_work}
use Rattle.dav_walks.proofs.calls.ActsJoined.{Comes, FillsNone, comes_after, comes_then, halted_comes, short_comes, spoiled_comes}
use Rattle.dav_walks.proofs.calls.CallsDoActs.{allowed_comes}
use Rattle.dav_walks.proofs.calls.ListingsLead.{listed_on}
use Rattle.dav_walks.proofs.removals.RemovalDoesActs.{all_left, both_with}
use Rattle.dav_walks.proofs.removals.RemovalsAllowed.{unlinked}
use Rattle.dav_walks.proofs.trees.TreeRows.{Parts, dir_at, look_row, not_both, parts_of}
use Rattle.dav_walks.proofs.removals.RemovalOrder.{paths_in}
use Rattle.dav_walks.proofs.removals.WorkCovers.{all_come, in_all, is_member, listed_members, members, walked}

-- ---- the plan

-- the acts of the removal at a path, by the file that it names
abbrev pub one_acts : List Row → Names → WebPath → List Act
one_acts tree file path = unless (may_take tree file path) (edits_of (taking tree file))

act_same : (allowed : Allowed) → unless (first (not_allowed allowed ∷ [])) (edits_of allowed) ≡ act_of allowed
act_same (Ok (Some e)) = refl
act_same (Ok None) = refl
act_same (Err e) = refl

free_acts : (tree : List Row) (file : Names) (path : WebPath) → stays_full tree file path ≡ false → one_acts tree file path ≡ act_of (taking tree file)
free_acts tree file path e = ap (λ b. unless (first (when b 403 ∷ not_allowed (taking tree file) ∷ [])) (edits_of (taking tree file))) e ∙ act_same (taking tree file)

full_acts : (tree : List Row) (file : Names) (path : WebPath) → stays_full tree file path ≡ true → one_acts tree file path ≡ halts (line 403) ∷ []
full_acts tree file path e = ap (λ b. unless (first (when b 403 ∷ not_allowed (taking tree file) ∷ [])) (edits_of (taking tree file))) e

taking_is : (tree : List Row) (file : Names) (dir : Bool) → has_dir tree file ≡ dir → taking tree file ≡ cond dir (taking_dir tree file) (taking_file tree file)
taking_is tree file dir e = ap (λ b. cond b (taking_dir tree file) (taking_file tree file)) e

dir_none : (dir free : Bool) (p : Names) → FillsNone (act_of (cond dir (cond free (Ok (Some (takes p))) (Err NotEmpty)) (Err NotDir)))
dir_none true true p = tt
dir_none true false p = tt
dir_none false free p = tt

file_none : (dir : Bool) (p : Names) → FillsNone (act_of (cond dir (Err IsDir) (Ok (Some (takes p)))))
file_none true p = tt
file_none false p = tt

found_none : (judge : Row → Allowed) → ((r : Row) → FillsNone (act_of (judge r))) → (found : Result Row DiskError) → FillsNone (act_of (found_then judge found))
found_none judge none (Ok row) = none row
found_none judge none (Err e) = tt

taking_dir_none : (tree : List Row) (file : Names) → FillsNone (act_of (taking_dir tree file))
taking_dir_none tree file = found_none (taking_dir_row tree) (λ r. dir_none (is_dir r.kind) (may_go tree r) r.path) (look tree file)

taking_none : (tree : List Row) (file : Names) (dir : Bool) → FillsNone (act_of (cond dir (taking_dir tree file) (taking_file tree file)))
taking_none tree file true = taking_dir_none tree file
taking_none tree file false = found_none taking_file_row (λ r. file_none (is_dir r.kind) r.path) (look tree file)

-- None of them fills a file.
pub one_none : (tree : List Row) (file : Names) (path : WebPath) → FillsNone (one_acts tree file path)
one_none tree file path = by (stays_full tree file path) refl
  where
    by : (b : Bool) → stays_full tree file path ≡ b → FillsNone (one_acts tree file path)
    by true e = subst FillsNone (sym (full_acts tree file path e)) tt
    by false e = subst FillsNone (sym (free_acts tree file path e)) (taking_none tree file (has_dir tree file))

-- ---- members

-- a row that isn't so
not_all : (q : Row → Bool) (rows : List Row) → list_all q rows ≡ false → (r : Row) × In r rows × (q r ≡ false)
not_all q [] e = cc
not_all q (r ∷ rows) e = by (q r) refl (λ f. not_all q rows f)
  where
    by : (b : Bool) → q r ≡ b → (list_all q rows ≡ false → (s : Row) × In s rows × (q s ≡ false)) → (s : Row) × In s (r ∷ rows) × (q s ≡ false)
    by false f more = (r, inl refl, f)
    by true f more = let (s, i, is) = more (ap (λ b. b && list_all q rows) (sym f) ∙ e) in (s, inr i, is)

below_it : (front same : Bool) → (not front || same) ≡ false → (front ≡ true) × (same ≡ false)
below_it true false e = (refl, refl)
below_it true true e = cc
below_it false same e = cc

-- A directory that is no leaf has a member.
has_member : (tree : List Row) (at : Names) → Parts tree → is_leaf at tree ≡ false → (r : Row) × In r (members at tree)
has_member tree at parts full =
    let (r, i, e) = not_all (λ row. not (is_front at row.path) || same_names at row.path) tree full in
    let (front, other) = below_it (is_front at r.path) (same_names at r.path) e in
    by r other (in_all at tree (members at tree) r.path (all_come at tree r.path parts (paths_in r tree i) front))
  where
    by : (r : Row) → same_names at r.path ≡ false → (r.path ≡ at) ⊎ ((s : Row) × In s (members at tree) × In r.path (walked tree s.path)) → (s : Row) × In s (members at tree)
    by r other (inl e) = not_both (same_names at r.path) (names_equal at r.path (sym e)) other
    by r other (inr (s, j, k)) = (s, j)

none_in : (rows : List Row) → ((r : Row) → In r rows → ⊥) → rows ≡ []
none_in [] never = refl
none_in (r ∷ rows) never = absurd (never r (inl refl))

-- One that is a leaf has none.
pub has_none : (tree : List Row) (at : Names) → is_leaf at tree ≡ true → filter (stands_in at) tree ≡ []
has_none tree at leaf = none_in (filter (stands_in at) tree) never
  where
    same : (front same : Bool) → front ≡ true → (not front || same) ≡ true → same ≡ true
    same true b e f = f
    same false b e f = cc

    never : (r : Row) → In r (filter (stands_in at) tree) → ⊥
    never r i =
        let m = is_member at tree r i in
        let q : (not (is_front at r.path) || same_names at r.path) ≡ true = all_at (λ row. not (is_front at row.path) || same_names at row.path) tree r leaf m.in_tree in
        let here : at ≡ r.path = names_same at r.path (same (is_front at r.path) (same_names at r.path) m.front q) in
        let short : length at ≡ length r.path = ap length here in
        absurd (omega (arith, m.long, short))

-- work that begins with what stands somewhere, and not with a directory that has lost its members
abbrev Begins : List Work → Type 0
Begins [] = ⊥
Begins (Whole path dir ∷ works) = Unit {0}
Begins (Emptied path ∷ works) = ⊥

begins_in : (path : WebPath) (rows : List Row) (r : Row) (works : List Work) → In r rows → Begins (works_in path (map (child_of path) rows) works)
begins_in path [] r works i = absurd i
begins_in path (x ∷ rows) r works i = tt

-- nothing is to go any more
pub none_more : {S C F L E : Type 0} (view : View S C F) (lists : Listings S C L E) (c : C) (works : List Work) (a b : S) (line : Line) → works ≡ [] → Removes view lists c works a line b
    → (b ≡ a) × ((line ≡ Ok tt) ⊎ (line ≡ Err dav.NoMemory))
none_more view lists c works a b line e (no_work x) = (refl, inl refl)
none_more view lists c works a b line e (cut_short others x) = (refl, inr refl)
none_more view lists c works a b line e (goes work others rest x m y l one more) = cc
none_more view lists c works a b line e (stops work others rest x y d one) = cc

module _ {S C F L E : Type 0} (view : View S C F) (lists : Listings S C L E) (writes : Writes F) (c : C) (rules : Rules) (fields : Fields) (start : S)
    (k : Knowledge) (follows : Follows view lists writes c rules k start) (file : Names) (alone : rules.alone ≡ Some file) where
  abbrev Here : S → Type 0
  Here n = Reached view lists writes c start n

  abbrev ToldIn : S → S → (World → World → Type 0) → Type 0
  ToldIn m n P = Told view lists writes c m n P

  abbrev Came : Line → List Act → S → World → World → Type 0
  Came r all t v w = Comes view fields start r all t v w

  -- each path is found there
  here : (tree : List Row) (names : Names) → resolved rules tree names ≡ file
  here tree names = ap (λ o. or_walk o (resolved_from rules.folds tree [] names)) alone

  -- A world in which the file's place meets no link, and each path has one place.
  pub record Clear (v : World) : Type 0 where
    pub world : IsWorld v
    pub apart : TellsApart rules v
    pub free : is_linked v.tree file ≡ false
    pub below : has_link_below v.tree file ≡ false

  -- the same, and a directory stands in the file's place
  record HasDir (v : World) : Type 0 where
    clear : Clear v
    dir : has_dir v.tree file ≡ true

  free_at : (v : World) → Clear v → (path : WebPath) → is_linked v.tree (resolved rules v.tree path.names) ≡ false
  free_at v clear path = ap (is_linked v.tree) (here v.tree path.names) ∙ clear.free

  clear_at : (v : World) → Clear v → (path : WebPath) → is_clear v.tree (resolved rules v.tree path.names) ≡ true
  clear_at v clear path = ap (is_clear v.tree) (here v.tree path.names) ∙ both_parts (is_linked v.tree file) _ clear.free
      (all_in (λ row. not (is_linked v.tree row.path)) (filter (stands_in file) v.tree) (λ r i. ap not (no_link r (is_member file v.tree r i).front)))
    where
      both_parts : (a b : Bool) → a ≡ false → b ≡ true → (not a && b) ≡ true
      both_parts true b e f = cc
      both_parts false b e f = f

      no_link : (r : Row) → is_front file r.path ≡ true → is_linked v.tree r.path ≡ false
      no_link r front = unlinked file v.tree v.tree (walked v.tree file) r.path clear.below clear.free (all_left file v clear.world) front

  -- no call takes it as a file
  no_file : (v : World) → HasDir v → taking_file v.tree file ≡ Err IsDir
  no_file v there =
      let parts = parts_of v.tree there.clear.world.tree in
      let d = dir_at v.tree file there.dir in
      ap (found_then taking_file_row) (ap (look v.tree) (sym d.at) ∙ look_row v.tree d.row parts d.in_tree) ∙ ap (λ b. cond b (Err IsDir) (Ok (Some (takes d.row.path)))) d.dir

  -- what is listed there
  listed : (v : World) → HasDir v → (path : WebPath) → (children : List Child) → children ≡ children_in v.tree (resolved rules v.tree path.names) path → children ≡ map (child_of path) (members file v.tree)
  listed v there path children e =
      e ∙ (ap (λ at. children_in v.tree at path) (here v.tree path.names) ∙ ap (map (child_of path)) (listed_members file v.tree))

  -- ---- one call, and nothing more

  -- a call that does what is allowed in such a world
  abbrev Does : (World → Type 0) → (World → Allowed) → S → Result Unit FsError → S → World → World → Type 0
  Does P allowed m gone n v w = P v → Calls view lists writes c (allowed v) m gone n v w

  -- what came of it
  abbrev CameTo : (World → Type 0) → (World → Allowed) → Line → S → World → World → Type 0
  CameTo P allowed l t v w = P v → Came l (act_of (allowed v)) t v w

  last_done : (P : World → Type 0) (allowed : World → Allowed) (rest : List Work) (m n t : S) (gone : Result Unit FsError) (l : Line) → Here m → Ok tt ≡ line_of gone → rest ≡ []
      → Removes view lists c rest n l t → ToldIn m n (Does P allowed m gone n) → ToldIn m t (CameTo P allowed l t)
  last_done P allowed rest m n t gone l reached ok none more told =
      let (same, ended) = none_more view lists c rest n t l none more in
      both_map (view.state m).told (view.state t).told (Does P allowed m gone n) (CameTo P allowed l t)
      (λ v w does p. by v w ended (allowed_comes view lists writes c fields start (allowed v) m n gone v w (follows.counts m reached) (does p)))
      (subst (λ (z : S). Both (view.state m).told (view.state z).told (Does P allowed m gone n)) (sym same) told)
    where
      by : (v w : World) → (l ≡ Ok tt) ⊎ (l ≡ Err dav.NoMemory) → Came (line_of gone) (act_of (allowed v)) n v w → Came l (act_of (allowed v)) t v w
      by v w (inl e) came = subst (λ z. Came z (act_of (allowed v)) t v w) (sym e) (subst (λ z. Came z (act_of (allowed v)) n v w) (sym ok) came)
      by v w (inr e) came =
          subst (λ z. Came z (act_of (allowed v)) t v w) (sym e)
          (subst (λ acts. Came (Err dav.NoMemory) acts t v w) (append-nil (act_of (allowed v)))
          (comes_then view fields start (Err dav.NoMemory) (act_of (allowed v)) [] t v w w tt (subst (λ z. Came z (act_of (allowed v)) n v w) (sym ok) came)
          (short_comes view fields start [] t w w (same_besides w))))

  last_refused : (P : World → Type 0) (allowed : World → Allowed) (m t : S) (gone : Result Unit FsError) (e : DavError) → Here m → Err e ≡ line_of gone
      → ToldIn m t (Does P allowed m gone t) → ToldIn m t (CameTo P allowed (Err e) t)
  last_refused P allowed m t gone e reached line told =
      both_map (view.state m).told (view.state t).told (Does P allowed m gone t) (CameTo P allowed (Err e) t)
      (λ v w does p. subst (λ z. Came z (act_of (allowed v)) t v w) (sym line)
      (allowed_comes view lists writes c fields start (allowed v) m t gone v w (follows.counts m reached) (does p)))
      told

  -- the removal of a file, and of a directory, at any path
  file_told : (path : WebPath) (m n : S) (gone : Result Unit FsError) → Here m → view.removes_file m c path gone n
      → ToldIn m n (λ v w. UnlessShut view lists writes c (is_forbidden rules path || has_slash rules.alone path) gone v w (Does Clear (λ v. taking_file v.tree file) m gone n v w))
  file_told path m n gone reached call =
      both_map (view.state m).told (view.state n).told _ _ (λ v w h. record {
        refused = h.refused;
        called = λ open_at clear. subst (λ at. Calls view lists writes c (taking_file v.tree at) m gone n v w) (here v.tree path.names) (h.called open_at clear.apart (free_at v clear path));
      })
      (follows.removes_file m n path gone reached call)

  dir_told : (path : WebPath) (m n : S) (gone : Result Unit FsError) → Here m → view.removes_dir m c path gone n → ToldIn m n (Does Clear (λ v. taking_dir v.tree file) m gone n)
  dir_told path m n gone reached call =
      both_map (view.state m).told (view.state n).told _ _
      (λ v w h clear. subst (λ at. Calls view lists writes c (taking_dir v.tree at) m gone n v w) (here v.tree path.names) (h clear.apart (free_at v clear path)))
      (follows.removes_dir m n path gone reached call)

  -- ---- a directory isn't read

  -- It is too deep, or a fault or want of memory was met, whatever was to go.
  abbrev Unread : WebPath → DavError → S → World → World → Type 0
  Unread path e t v w = HasDir v → (all : List Act) → (is_deep path ≡ true → all ≡ halts (line 403) ∷ []) → Came (Err e) all t v w

  dir_refused : (path : WebPath) (m t : S) (e : DavError) → Here m → RefusesDir view lists c path m e t → ToldIn m t (Unread path e t)
  dir_refused path m t e reached (inl (deep, is, same)) =
      both_same (view.state m).told (view.state t).told (Unread path e t)
      (λ v there all halted. subst (λ z. Came (Err e) z t v v) (sym (halted deep))
      (subst (λ d. Came (Err d) (halts (line 403) ∷ []) t v v) (sym is) (halted_comes view fields start (dav.Status 403) (line 403) [] t v v refl refl (same_besides v))))
      (ap (λ z. (view.state z).told) same)
  dir_refused path m t e reached (inr (inl (shallow, f, has, is))) =
      both_map (view.state m).told (view.state t).told (FailsToList view lists writes c rules path m f t) (Unread path e t)
      (λ v w h there all halted. spoiled_comes view fields start f e all m t v w is (follows.counts m reached)
      (h.1 there.clear.apart (clear_at v there.clear path) (ap (has_dir v.tree) (here v.tree path.names) ∙ there.dir)) (part_none all v w h.0))
      (follows.no_members m t path f reached has)
  dir_refused path m t e reached (inr (inr (shallow, children, has, is))) =
      both_map (view.state m).told (view.state t).told (ListsBy view lists writes c rules path children) (Unread path e t)
      (λ v w h there all halted. subst (λ d. Came (Err d) all t v w) (sym is) (short_comes view fields start all t v w h.0))
      (follows.members m t path children reached has)

  -- ---- where it was reached

  pub step_reached : (work : Work) (works rest : List Work) (m n : S) → Here m → RemovesOne view lists c work works m (Ok tt) n rest → Here n
  step_reached (Whole path false) works rest m n reached (gone, call, ok, e) = removes_file m n path gone reached call
  step_reached (Emptied path) works rest m n reached (gone, call, ok, e) = removes_dir m n path gone reached call
  step_reached (Whole path true) works rest m n reached (shallow, children, has, e) = listed_on view lists writes c start m n path has.listed reached has.was

  clear_same : (v u : World) → SameBesidesOpens v u → IsWorld u → Clear v → Clear u
  clear_same v u same world clear = record {
    world = world;
    apart = λ folds. ap no_twins same.tree ∙ clear.apart folds;
    free = ap (λ (rows : List Row). is_linked rows file) same.tree ∙ clear.free;
    below = ap (λ (rows : List Row). has_link_below rows file) same.tree ∙ clear.below;
  }

  dir_same : (v u : World) → SameBesidesOpens v u → IsWorld u → HasDir v → HasDir u
  dir_same v u same world there = record { clear = clear_same v u same world there.clear; dir = ap (λ (rows : List Row). has_dir rows file) same.tree ∙ there.dir }

  -- a directory was read, at any path
  abbrev Read : WebPath → List Child → World → World → Type 0
  Read path children v u = SameBesidesOpens v u × (HasDir v → HasDir u × (children ≡ map (child_of path) (members file v.tree)))

  read_told : (path : WebPath) (children : List Child) (m n : S) → Here m → HasMembers view lists m c path children n → ToldIn m n (Read path children)
  read_told path children m n reached has =
      both_map (view.state m).told (view.state n).told _ (Read path children)
      (λ v u h. (h.0.0, λ there. (dir_same v u h.0.0 h.1 there, listed v there path children (h.0.1 there.clear.apart (clear_at v there.clear path)))))
      (both_with (view.state m).told (view.state n).told (ListsBy view lists writes c rules path children) IsWorld (follows.members m n path children reached has)
      (λ u told. follows.trees n u (listed_on view lists writes c start m n path has.listed reached has.was) told))

  -- ---- a directory with members stays

  -- What begins with a path at which something is to go ends there.
  abbrev Stays : List Work → Line → S → World → World → Type 0
  Stays works all t v w = Begins works → HasDir v → is_leaf file v.tree ≡ false → Came all (halts (line 403) ∷ []) t v w

  -- its first step
  abbrev Stayed : Work → List Work → World → World → Type 0
  Stayed work rest v u = Begins (work ∷ []) → HasDir v → is_leaf file v.tree ≡ false → SameBesidesOpens v u × HasDir u × Begins rest

  step_stays : (work : Work) (works rest : List Work) (m n : S) → Here m → RemovesOne view lists c work works m (Ok tt) n rest → ToldIn m n (Stayed work rest)
  step_stays (Whole path false) works rest m n reached (gone, call, ok, e) =
      both_map (view.state m).told (view.state n).told _ (Stayed (Whole path false) rest)
      (λ v u h begins there full. absurd (by v u (is_forbidden rules path || has_slash rules.alone path) refl there h)) (file_told path m n gone reached call)
    where
      never : (f : FsError) → gone ≡ Err f → ⊥
      never f is = let g : Ok tt ≡ line_of (Err f) = ok ∙ ap line_of is in cc

      done : (o : Result Unit FsError) (v u : World) → gone ≡ o → taking_file v.tree file ≡ Err IsDir → Calls view lists writes c (taking_file v.tree file) m o n v u → ⊥
      done (Ok x) v u is none (edit, allowed, edited) = let g : Ok edit ≡ Err IsDir = sym allowed ∙ none in cc
      done (Err f) v u is none h = never f is

      by : (v u : World) (shut : Bool) → (is_forbidden rules path || has_slash rules.alone path) ≡ shut → HasDir v
          → UnlessShut view lists writes c (is_forbidden rules path || has_slash rules.alone path) gone v u (Does Clear (λ v. taking_file v.tree file) m gone n v u) → ⊥
      by v u true shut there h = never fs.Forbidden (h.refused shut).0
      by v u false open_at there h = done gone v u refl (no_file v there) (h.called open_at there.clear)
  step_stays (Emptied path) works rest m n reached (gone, call, ok, e) =
      both_map (view.state m).told (view.state n).told _ (Stayed (Emptied path) rest) (λ v u h begins there full. absurd begins) (dir_told path m n gone reached call)
  step_stays (Whole path true) works rest m n reached (shallow, children, has, e) =
      both_map (view.state m).told (view.state n).told (Read path children) (Stayed (Whole path true) rest)
      (λ v u h begins there full. (h.0, (h.1 there).0, subst Begins (sym (e ∙ ap (λ z. works_in path z works) (h.1 there).1)) (first v there full)))
      (read_told path children m n reached has)
    where
      first : (v : World) → HasDir v → is_leaf file v.tree ≡ false → Begins (works_in path (map (child_of path) (members file v.tree)) works)
      first v there full = let (r, i) = has_member v.tree file (parts_of v.tree there.clear.world.tree) full in begins_in path (members file v.tree) r works i

  stop_stays : (work : Work) (works rest : List Work) (m t : S) (e : DavError) → Here m → RemovesOne view lists c work works m (Err e) t rest → ToldIn m t (Stays (work ∷ works) (Err e) t)
  stop_stays (Whole path false) works rest m t e reached (gone, call, line_is, same) =
      both_map (view.state m).told (view.state t).told _ (Stays (Whole path false ∷ works) (Err e) t)
      (λ v w h begins there full. by v w (is_forbidden rules path || has_slash rules.alone path) refl there h) (file_told path m t gone reached call)
    where
      by : (v w : World) (shut : Bool) → (is_forbidden rules path || has_slash rules.alone path) ≡ shut → HasDir v
          → UnlessShut view lists writes c (is_forbidden rules path || has_slash rules.alone path) gone v w (Does Clear (λ v. taking_file v.tree file) m gone t v w)
          → Came (Err e) (halts (line 403) ∷ []) t v w
      by v w true shut there h =
          let (is, kept) = h.refused shut in
          subst (λ z. Came z (halts (line 403) ∷ []) t v w) (sym (line_is ∙ ap line_of is)) (halted_comes view fields start (of_fs fs.Forbidden) (line 403) [] t v w refl refl kept)
      by v w false open_at there h =
          subst (λ z. Came z (halts (line 403) ∷ []) t v w) (sym line_is)
          (subst (λ allowed. Came (line_of gone) (act_of allowed) t v w) (no_file v there)
          (allowed_comes view lists writes c fields start (taking_file v.tree file) m t gone v w (follows.counts m reached) (h.called open_at there.clear)))
  stop_stays (Emptied path) works rest m t e reached (gone, call, line_is, same) =
      both_map (view.state m).told (view.state t).told _ (Stays (Emptied path ∷ works) (Err e) t) (λ v w h begins there full. absurd begins) (dir_told path m t gone reached call)
  stop_stays (Whole path true) works rest m t e reached refuses =
      both_map (view.state m).told (view.state t).told (Unread path e t) (Stays (Whole path true ∷ works) (Err e) t)
      (λ v w h begins there full. h there (halts (line 403) ∷ []) (λ deep. refl)) (dir_refused path m t e reached refuses)

  stays : (works : List Work) (m t : S) (all : Line) → Removes view lists c works m all t → Here m → ToldIn m t (Stays works all t)
  stays works m t all (no_work x) reached = both_same (view.state x).told (view.state x).told (Stays [] (Ok tt) x) (λ v begins. absurd begins) refl
  stays works m t all (cut_short others x) reached =
      both_same (view.state x).told (view.state x).told (Stays others (Err dav.NoMemory) x)
      (λ v begins there full. short_comes view fields start (halts (line 403) ∷ []) x v v (same_besides v)) refl
  stays works m t all (goes work others rest x n y l one more) reached =
      both_then (view.state x).told (view.state n).told (view.state y).told (Stayed work rest) (Stays rest l y) (Stays (work ∷ others) l y)
      (λ v u w did later begins there full. on v u w (did (begun work others begins) there full) later full)
      (step_stays work others rest x n reached one) (stays rest n y l more (step_reached work others rest x n reached one))
    where
      begun : (work : Work) (others : List Work) → Begins (work ∷ others) → Begins (work ∷ [])
      begun (Whole path dir) others begins = tt
      begun (Emptied path) others begins = begins

      on : (v u w : World) → SameBesidesOpens v u × HasDir u × Begins rest → Stays rest l y u w → is_leaf file v.tree ≡ false → Came l (halts (line 403) ∷ []) y v w
      on v u w (same, there, begins) later full =
          comes_after view fields start l (halts (line 403) ∷ []) y v u w tt same
          (later begins there (ap (λ (rows : List Row). is_leaf file rows) same.tree ∙ full))
  stays works m t all (stops work others rest x y e one) reached = stop_stays work others rest x y e reached one

  -- ---- what stands there goes, or stays

  -- one call is all that there is to do
  abbrev IsCall : Work → (World → Allowed) → Type 0
  IsCall work allowed = (works rest : List Work) (m n : S) (r : Line) → Here m → RemovesOne view lists c work works m r n rest
      → (gone : Result Unit FsError) × (r ≡ line_of gone) × (rest ≡ works) × ToldIn m n (Does Clear allowed m gone n)

  lone_goes : (work : Work) (allowed : World → Allowed) → IsCall work allowed → (works : List Work) (m t : S) (l : Line) → works ≡ work ∷ [] → Here m → Removes view lists c works m l t
      → ToldIn m t (CameTo Clear allowed l t)
  lone_goes work allowed calls works m t l e reached (no_work x) = cc
  lone_goes work allowed calls works m t l e reached (cut_short others x) =
      both_same (view.state x).told (view.state x).told (CameTo Clear allowed (Err dav.NoMemory) x) (λ v clear. short_comes view fields start (act_of (allowed v)) x v v (same_besides v)) refl
  lone_goes work allowed calls works m t l e reached (goes other others rest x n y all one more) =
      let is : other ≡ work = cc in
      let none : others ≡ [] = cc in
      let (gone, ok, same, told) = calls others rest x n (Ok tt) reached (subst (λ z. RemovesOne view lists c z others x (Ok tt) n rest) is one) in
      last_done Clear allowed rest x n y gone all reached ok (same ∙ none) more told
  lone_goes work allowed calls works m t l e reached (stops other others rest x y d one) =
      let is : other ≡ work = cc in
      let (gone, refused, same, told) = calls others rest x y (Err d) reached (subst (λ z. RemovesOne view lists c z others x (Err d) y rest) is one) in
      last_refused Clear allowed x y gone d reached refused told

  emptied_calls : (path : WebPath) → IsCall (Emptied path) (λ v. taking_dir v.tree file)
  emptied_calls path works rest m n r reached (gone, call, is, same) = (gone, is, same, dir_told path m n gone reached call)

  file_calls : (path : WebPath) → is_forbidden rules path ≡ false → IsCall (Whole path false) (λ v. taking_file v.tree file)
  file_calls path free works rest m n r reached (gone, call, is, same) =
      let open_at : (is_forbidden rules path || has_slash rules.alone path) ≡ false = ap (λ b. b || has_slash rules.alone path) free ∙ ap (λ (o : Option Names). has_slash o path) alone in
      (gone, is, same, both_map (view.state m).told (view.state n).told _ (Does Clear (λ v. taking_file v.tree file) m gone n) (λ v w h. h.called open_at) (file_told path m n gone reached call))

  -- What its removal comes to is what the plan says.
  abbrev pub Taken : WebPath → Bool → Line → S → World → World → Type 0
  Taken path dir all t v w = Clear v → has_dir v.tree file ≡ dir → Came all (one_acts v.tree file path) t v w

  -- the acts, where the call is made
  acts_here : (tree : List Row) (path : WebPath) (dir : Bool) → has_dir tree file ≡ dir → (dir && (is_deep path || not (is_leaf file tree))) ≡ false
      → one_acts tree file path ≡ act_of (cond dir (taking_dir tree file) (taking_file tree file))
  acts_here tree path dir is goes_on =
      free_acts tree file path (ap (λ b. b && (is_deep path || not (is_leaf file tree))) is ∙ goes_on) ∙ ap act_of (taking_is tree file dir is)

  -- and where it isn't
  acts_full : (tree : List Row) (path : WebPath) → has_dir tree file ≡ true → (is_deep path || not (is_leaf file tree)) ≡ true → one_acts tree file path ≡ halts (line 403) ∷ []
  acts_full tree path is full = full_acts tree file path (ap (λ b. b && (is_deep path || not (is_leaf file tree))) is ∙ full)

  -- Its members were read: it had none.
  none_read : (path : WebPath) (rest : List Work) (x n y : S) (l : Line) → is_deep path ≡ false → rest ≡ Emptied path ∷ [] → Here n → Removes view lists c rest n l y
      → ToldIn x n (Read path []) → ToldIn x y (Taken path true l y)
  none_read path rest x n y l shallow e reached more told =
      both_then (view.state x).told (view.state n).told (view.state y).told (Read path []) _ (Taken path true l y)
      (λ v u w read gone clear is. by v u w (is_leaf file v.tree) refl read.0 (read.1 (record { clear = clear; dir = is })) gone clear is)
      told (lone_goes (Emptied path) (λ v. taking_dir v.tree file) (emptied_calls path) rest n y l e reached more)
    where
      never : (tree : List Row) (r : Row) (rows : List Row) → In r rows → [] ≡ map (child_of path) rows → ⊥
      never tree r [] i none = absurd i
      never tree r (s ∷ rows) i none = cc

      by : (v u w : World) (leaf : Bool) → is_leaf file v.tree ≡ leaf → SameBesidesOpens v u → HasDir u × ([] ≡ map (child_of path) (members file v.tree))
          → CameTo Clear (λ v. taking_dir v.tree file) l y u w → Clear v → has_dir v.tree file ≡ true → Came l (one_acts v.tree file path) y v w
      by v u w true leaf same (there, none) gone clear is =
          let acts = acts_here v.tree path true is (ap (λ b. b || not (is_leaf file v.tree)) shallow ∙ ap not leaf) in
          subst (λ z. Came l z y v w) (sym acts)
          (comes_after view fields start l (act_of (taking_dir v.tree file)) y v u w (taking_dir_none v.tree file) same
          (subst (λ (rows : List Row). Came l (act_of (taking_dir rows file)) y u w) same.tree (gone there.clear)))
      by v u w false full same (there, none) gone clear is =
          let (r, i) = has_member v.tree file (parts_of v.tree clear.world.tree) full in absurd (never v.tree r (members file v.tree) i none)

  -- It had some.
  some_read : (path : WebPath) (first : Child) (others : List Child) (rest : List Work) (x n y : S) (l : Line) → rest ≡ works_in path (first ∷ others) [] → Here n → Removes view lists c rest n l y
      → ToldIn x n (Read path (first ∷ others)) → ToldIn x y (Taken path true l y)
  some_read path first others rest x n y l e reached more told =
      both_then (view.state x).told (view.state n).told (view.state y).told (Read path (first ∷ others)) (Stays rest l y) (Taken path true l y)
      (λ v u w read kept clear is. by v u w (is_leaf file v.tree) refl read.0 (read.1 (record { clear = clear; dir = is })) kept is)
      told (stays rest n y l more reached)
    where
      begins : Begins rest
      begins = subst Begins (sym e) tt

      or_true : (a b : Bool) → b ≡ true → (a || b) ≡ true
      or_true true b f = refl
      or_true false b f = f

      by : (v u w : World) (leaf : Bool) → is_leaf file v.tree ≡ leaf → SameBesidesOpens v u → HasDir u × (first ∷ others ≡ map (child_of path) (members file v.tree))
          → Stays rest l y u w → has_dir v.tree file ≡ true → Came l (one_acts v.tree file path) y v w
      by v u w true leaf same (there, some) kept is =
          let none : first ∷ others ≡ [] = some ∙ ap (λ rows. map (child_of path) (in_order members_first rows)) (has_none v.tree file leaf) in cc
      by v u w false full same (there, some) kept is =
          subst (λ z. Came l z y v w) (sym (acts_full v.tree path is (or_true (is_deep path) (not (is_leaf file v.tree)) (ap not full))))
          (comes_after view fields start l (halts (line 403) ∷ []) y v u w tt same (kept begins there (ap (λ (rows : List Row). is_leaf file rows) same.tree ∙ full)))

  opened_goes : (path : WebPath) (children : List Child) (rest : List Work) (x n y : S) (l : Line) → is_deep path ≡ false → rest ≡ works_in path children [] → Here n → Removes view lists c rest n l y
      → ToldIn x n (Read path children) → ToldIn x y (Taken path true l y)
  opened_goes path [] rest x n y l shallow e reached more told = none_read path rest x n y l shallow e reached more told
  opened_goes path (first ∷ others) rest x n y l shallow e reached more told = some_read path first others rest x n y l e reached more told

  dir_goes : (path : WebPath) (works : List Work) (m t : S) (all : Line) → works ≡ Whole path true ∷ [] → Here m → Removes view lists c works m all t → ToldIn m t (Taken path true all t)
  dir_goes path works m t all e reached (no_work x) = cc
  dir_goes path works m t all e reached (cut_short others x) =
      both_same (view.state x).told (view.state x).told (Taken path true (Err dav.NoMemory) x)
      (λ v clear is. short_comes view fields start (one_acts v.tree file path) x v v (same_besides v)) refl
  dir_goes path works m t all e reached (goes work others rest x n y l one more) =
      let is : work ≡ Whole path true = cc in
      let none : others ≡ [] = cc in
      by (subst (λ z. RemovesOne view lists c z others x (Ok tt) n rest) is one) none
    where
      by : RemovesOne view lists c (Whole path true) others x (Ok tt) n rest → others ≡ [] → ToldIn x y (Taken path true l y)
      by (shallow, children, has, same) none =
          opened_goes path children rest x n y l shallow (same ∙ ap (works_in path children) none)
          (listed_on view lists writes c start x n path has.listed reached has.was) more (read_told path children x n reached has)
  dir_goes path works m t all e reached (stops work others rest x y d one) =
      let is : work ≡ Whole path true = cc in
      both_map (view.state x).told (view.state y).told (Unread path d y) (Taken path true (Err d) y)
      (λ v w h clear dir. h (record { clear = clear; dir = dir }) (one_acts v.tree file path) (λ deep. acts_full v.tree path dir (ap (λ b. b || not (is_leaf file v.tree)) deep)))
      (dir_refused path x y d reached (subst (λ z. RemovesOne view lists c z others x (Err d) y rest) is one))

  -- What stands in the file's place goes as the plan says, where no file of the name that was asked for stays.
  pub one_removed : (path : WebPath) (dir : Bool) (m t : S) (all : Line) → (is_forbidden rules path && not dir) ≡ false → Here m → Removes view lists c (Whole path dir ∷ []) m all t
      → ToldIn m t (Taken path dir all t)
  one_removed path true m t all free reached removes = dir_goes path (Whole path true ∷ []) m t all refl reached removes
  one_removed path false m t all free reached removes =
      both_map (view.state m).told (view.state t).told (CameTo Clear (λ v. taking_file v.tree file) all t) (Taken path false all t)
      (λ v w gone clear is. subst (λ z. Came all z t v w) (sym (acts_here v.tree path false is refl)) (gone clear))
      (lone_goes (Whole path false) (λ v. taking_file v.tree file) (file_calls path (open_name (is_forbidden rules path) free)) (Whole path false ∷ []) m t all refl reached removes)
    where
      open_name : (b : Bool) → (b && true) ≡ false → b ≡ false
      open_name true e = e
      open_name false e = refl
