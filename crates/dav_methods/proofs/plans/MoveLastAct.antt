-- The last act of a MOVE: what stands at the source is moved to the destination, where nothing stands that was found.
-- Headline: `moves_right`.
use Rattle.std.proofs.Common.{◌≡◌, ◌≤◌, ◌<◌, ◌&&◌, ◌||◌, ◌++◌, arith, inl, inr, List, [], ◌∷◌, length, Bool, true, false, not, cond, Option, None, Some, Result, Ok, Err, refl, sym, ap, subst, ◌∙◌}
use Rattle.std.proofs.lemmas.Bool.{and_parts, false_from_ne_true as false_or, not-true as not_true}
use Rattle.dav_io.proofs.ToldLemmas.{both_map}
use Rattle.dav_core.specs.declared.error.FsError.{FsError}
use Rattle.dav_core.specs.declared.error.FsError.TheVariants as fs
use Rattle.dav_core.specs.declared.handle.DiskError.{DiskError}
use Rattle.dav_core.specs.declared.handle.DiskError.TheVariants.{IsDir, NotDir, NotEmpty}
use Rattle.dav_core.specs.declared.tree.Row.{Row}
use Rattle.dav_core.specs.Allowed.{Allowed, found_then, is_root, moving, moving_over, moving_to, place, taking_file, taking_file_row}
use Rattle.dav_core.specs.Changes.{is_leaf, without}
use Rattle.dav_core.specs.DavPath.{WebPath}
use Rattle.dav_core.specs.Edits.{Edit, Edited, moves, takes}
use Rattle.dav_core.specs.Info.{Info}
use Rattle.dav_core.specs.Path.{Names, is_front, parent_of, same_names}
use Rattle.dav_core.specs.Statuses.{of_fs}
use Rattle.dav_core.specs.Tree.{is_dir, is_linked, look, row_at}
use Rattle.dav_core.specs.World.{SameBesidesOpens, World}
use Rattle.dav_core.specs.Writing.{LeftBy}
use Rattle.dav_core.proofs.Paths.{front_itself, names_same as same_yes, not_root as some_names, parent_and_last as last_parted, parent_length}
use Rattle.dav_core.proofs.Rows.{row_at_in}
use Rattle.dav_core.proofs.Elements.{In}
use Rattle.dav_core.proofs.LookLemmas.{look_there}
use Rattle.dav_store.specs.View.{Listings, View}
use Rattle.dav_model.specs.declared.asked.Asked.{Asked}
use Rattle.dav_model.specs.declared.outcome.Outcome.{Outcome}
use Rattle.dav_model.specs.CarryPlans.{act_of, cleared, is_dir_over, move_acts, moves_by, moves_in}
use Rattle.dav_model.specs.Finding.{is_forbidden, is_localized, is_virtual, resolved}
use Rattle.dav_model.specs.Plans.{Act, does, halts, is_found, line, stands, unless, when}
use Rattle.dav_model.specs.Head.{Stood}
use Rattle.dav_model.specs.Rules.{Rules}
use Rattle.dav_model.specs.Valid.{no_twins}
use Rattle.dav_model.proofs.LooseWalks.{parent_pushed}
use Rattle.dav_walks.specs.Follows.{Calls, IfBothFound, MeetsFile, MovesBy, UnlessShut}
use Rattle.dav_methods.specs.Lines.{is_dir_there}
use Rattle.dav_methods.specs.Lines as the
use Rattle.dav_walks.specs.Pouring.{Writes}
use Rattle.dav_walks.specs.Removing.{line_of}
use Rattle.dav_methods.specs.Table.{answered}
use Rattle.dav_walks.proofs.calls.ActsJoined.{Comes, FillsNone, comes_after, comes_behind, halted_comes, spoiled_comes}
use Rattle.dav_walks.proofs.trees.StillApart.{takes_apart}
use Rattle.dav_walks.proofs.trees.NoLinkAbove.{above_free}
use Rattle.dav_walks.proofs.calls.CallsDoActs.{allowed_comes, call_comes, call_done}
use Rattle.dav_walks.proofs.trees.OthersStay.{Apart, beside_taken, front_up, not_in_parent, some_from, some_to, unlinked_from}
use Rattle.dav_methods.proofs.plans.CarryClears.{Carry, Cleared, Ends, GoesRight, Prepares, Seen, Vacant}
use Rattle.dav_methods.proofs.plans.DeleteFollows.{Found, found_at, seen_stood}
use Rattle.dav_walks.proofs.trees.EditsJoined.{taken_after}
use Rattle.dav_walks.proofs.trees.FreePlaces.{moving_free, none_at, none_of_free, row_place}
use Rattle.dav_walks.proofs.trees.PlaceCleared.{Gone, Lacks, apart_places, dir_now, free_now, lacks_beside, lacks_without, link_now, place_length, place_now, source_found}
use Rattle.dav_walks.proofs.removals.RemovalsAllowed.{taken_free}
use Rattle.dav_walks.proofs.trees.TimedRows.{parts_taken}
use Rattle.dav_walks.proofs.trees.TreeRows.{DirAt, Parts, above, at_row, look_row, not_both, parts_of}

-- the answer of a call, as a line
pub answered_line : (outcome : Outcome) (moved : Result Unit FsError) → answered outcome moved ≡ the.unless (line_of moved) outcome
answered_line outcome (Ok x) = refl
answered_line outcome (Err e) = refl

-- ---- no move fills a file

either_none : (b : Bool) (x y : Allowed) → FillsNone (act_of x) → FillsNone (act_of y) → FillsNone (act_of (cond b x y))
either_none true x y e f = e
either_none false x y e f = f

over_none : (tree : List Row) (row : Row) (to : Names) (there : Option Row) → FillsNone (act_of (moving_over tree row to there))
over_none tree row to None = tt
over_none tree row to (Some there) =
    either_none (is_dir row.kind) _ _ (either_none (is_dir there.kind) _ _ (either_none (is_leaf there.path tree) _ _ tt tt) tt) (either_none (is_dir there.kind) _ _ tt tt)

to_none : (tree : List Row) (row : Row) (to : Names) (found : Result (Option Row) DiskError) → FillsNone (act_of (moving_to tree row to found))
to_none tree row to (Err e) = tt
to_none tree row to (Ok there) =
    either_none (is_root row.path || is_root to) _ _ tt (either_none (same_names row.path to) _ _ tt (either_none (is_front row.path to) _ _ tt (over_none tree row to there)))

moves_none : (tree : List Row) (from to : Names) → FillsNone (act_of (moving tree from to))
moves_none tree from to = by (look tree from)
  where
    by : (found : Result Row DiskError) → FillsNone (act_of (found_then (λ row. moving_to tree row to (place tree to)) found))
    by (Ok row) = to_none tree row to (place tree to)
    by (Err e) = tt

-- ---- a directory in the place of a file

judged : (over : Edit) (a b c d e f : Bool)
    → cond a (Err NotEmpty) (cond b (Ok None) (cond c (Err NotEmpty) (cond d (cond e (cond f (Ok (Some over)) (Err NotEmpty)) (Err NotDir)) (cond e (Err IsDir) (Ok (Some over)))))) ≡ Err NotDir
    → (d && not e) ≡ true
judged over true b c d e f is = cc
judged over false true c d e f is = cc
judged over false false true d e f is = cc
judged over false false false true true true is = cc
judged over false false false true true false is = cc
judged over false false false true false f is = refl
judged over false false false false true f is = cc
judged over false false false false false f is = cc

-- The disk refuses no other move so, where something stands.
placed : (tree : List Row) (row : Row) (to : Names) → Parts tree → In row tree → 0 < length to → is_dir_over (row_at tree row.path) (row_at tree to) ≡ false
    → moving tree row.path to ≡ Err NotDir → row_at tree to ≡ None
placed tree row to parts i some other is = by (row_at tree to) refl
  where
    source : row_at tree row.path ≡ Some row
    source = at_row tree row parts.once i

    by : (o : Option Row) → row_at tree to ≡ o → row_at tree to ≡ None
    by None e = e
    by (Some there) e =
        let (j, at) = row_at_in tree to there e in
        let up : DirAt tree (parent_of to) = above tree there (parent_of to) parts j (subst (λ z. is_front (parent_of to) z ≡ true) (sym at) (front_up to)) (λ f. longer_than (f ∙ at)) in
        let found : place tree to ≡ Ok (Some there) = row_place tree to parts some up ∙ ap Ok e in
        let moved : moving_to tree row to (Ok (Some there)) ≡ Err NotDir =
        sym (ap (found_then (λ r. moving_to tree r to (place tree to))) (look_row tree row parts i) ∙ ap (moving_to tree row to) found) ∙ is in
        not_both (is_dir_over (row_at tree row.path) (row_at tree to))
        (ap (λ a. is_dir_over a (row_at tree to)) source ∙ (ap (is_dir_over (Some row)) e
        ∙ judged (moves row.path to) (is_root row.path || is_root to) (same_names row.path to) (is_front row.path to) (is_dir row.kind) (is_dir there.kind) (is_leaf there.path tree) moved)) other
      where
        longer_than : parent_of to ≡ to → ⊥
        longer_than f = omega (arith, some, ap length f, parent_length to)

-- a directory, and what is none
over_parts : (a b : Option Row) → is_dir_over a b ≡ true → (row there : Row) × (a ≡ Some row) × (b ≡ Some there) × (is_dir row.kind ≡ true) × (is_dir there.kind ≡ false)
over_parts None b e = cc
over_parts (Some row) None e = cc
over_parts (Some row) (Some there) e = let (dir, other) = and_parts (is_dir row.kind) (not (is_dir there.kind)) e in (row, there, refl, refl, dir, not_true (is_dir there.kind) other)

-- What may be taken as a file stands.
taken_stands : (tree : List Row) (to : Names) (edit : Option Edit) → taking_file tree to ≡ Ok edit → row_at tree to ≡ None → ⊥
taken_stands tree to edit allowed none = by (look tree to) refl allowed
  where
    by : (found : Result Row DiskError) → look tree to ≡ found → found_then taking_file_row found ≡ Ok edit → ⊥
    by (Err e) at is = cc
    by (Ok row) at is = let never : ◌≡◌ {A = Option Row} None (Some row) = sym none ∙ look_there tree [] to row at in cc

file_taken : (tree : List Row) (there : Row) (to : Names) → Parts tree → row_at tree to ≡ Some there → is_dir there.kind ≡ false → taking_file tree to ≡ Ok (Some (takes to))
file_taken tree there to parts is file =
    let (i, at) = row_at_in tree to there is in
    subst (λ q. taking_file tree q ≡ Ok (Some (takes q))) at (ap (found_then taking_file_row) (look_row tree there parts i) ∙ judged)
  where
    judged : taking_file_row there ≡ Ok (Some (takes there.path))
    judged = rw file refl

-- the directory above what stands
dir_above : (tree : List Row) (there : Row) (to : Names) → Parts tree → 0 < length to → row_at tree to ≡ Some there → DirAt tree (parent_of to)
dir_above tree there to parts some is =
    let (j, at) = row_at_in tree to there is in
    above tree there (parent_of to) parts j (subst (λ z. is_front (parent_of to) z ≡ true) (sym at) (front_up to)) (λ f. longer_than (f ∙ at))
  where
    longer_than : parent_of to ≡ to → ⊥
    longer_than f = omega (arith, some, ap length f, parent_length to)

-- A directory isn't moved to where a file stands.
over_refused : (tree : List Row) (row there : Row) (to : Names) → Parts tree → In row tree → 0 < length row.path → 0 < length to → Apart row.path to → row_at tree to ≡ Some there → is_dir row.kind ≡ true
    → is_dir there.kind ≡ false → moving tree row.path to ≡ Err NotDir
over_refused tree row there to parts i some long apart is dir file =
    ap (found_then (λ r. moving_to tree r to (place tree to))) (look_row tree row parts i)
    ∙ (ap (moving_to tree row to) (row_place tree to parts long (dir_above tree there to parts long is) ∙ ap Ok is) ∙ refused)
  where
    other : same_names row.path to ≡ false
    other = false_or (same_names row.path to) (λ e. not_both (is_front row.path to) (subst (λ p. is_front row.path p ≡ true) (same_yes row.path to e) (front_itself row.path)) apart.one)

    refused : moving_to tree row to (Ok (Some there)) ≡ Err NotDir
    refused = rw (some_names row.path some, some_names to long, other, apart.one, dir, file) refl

-- ---- what is known

-- the source stands in the tree, where its name isn't one of the two that no file stands for
pub source_of : (rules : Rules) → rules.alone ≡ None → (from to : WebPath) (dir : Bool) (v : World) (p : Seen rules from to dir v) → is_virtual rules from ≡ false
    → Found v (record from { names = resolved rules v.tree from.names }) p.there
source_of rules alone from to dir v p plain =
    let at : Names = resolved rules v.tree from.names in
    found_at v (record from { names = at }) p.there (look v.tree at) refl (seen_stood rules v from p.there alone plain p.stood).1

pub not_virtual : (rules : Rules) (from to : WebPath) → (is_forbidden rules from || is_forbidden rules to) ≡ false → is_virtual rules from ≡ false
not_virtual rules from to e = first (is_virtual rules from) (rules.macos && is_localized from.names) (first (is_forbidden rules from) (is_forbidden rules to) e)
  where
    first : (a b : Bool) → (a || b) ≡ false → a ≡ false
    first true b f = cc
    first false b f = refl

none_over : (a : Option Row) → is_dir_over a None ≡ false
none_over None = refl
none_over (Some row) = refl

module _ (rules : Rules) (alone : rules.alone ≡ None) (from to : WebPath) (dir : Bool) (v : World) (p : Seen rules from to dir v) (plain : is_virtual rules from ≡ false) where
  pub apart : Apart (resolved rules v.tree from.names) (resolved rules v.tree to.names)
  apart = apart_places rules alone v.tree from.names to.names p.beside

  pub some : 0 < length to.names
  some = subst (λ n. 0 < n) (place_length rules alone v.tree to.names) (some_to (resolved rules v.tree from.names) (resolved rules v.tree to.names) apart)

  abbrev pub gone_in : (now : List Row) → Lacks rules alone (resolved rules v.tree to.names) v.tree now → Gone rules alone v.tree now to.names
  gone_in now lacks = record {
    up = parent_of to.names;
    last = (last_parted to.names some).0;
    is = (last_parted to.names some).1;
    lacks = lacks;
    parts = parts_of v.tree p.world.tree;
    apart = p.regular;
    dir = p.up;
  }

  abbrev pub into : Names
  into = resolved rules v.tree (parent_of to.names) ++ (last_parted to.names some).0 ∷ []

  pub source_now : (now : List Row) → Lacks rules alone (resolved rules v.tree to.names) v.tree now → resolved rules now from.names ≡ resolved rules v.tree from.names
  source_now now lacks = source_found rules alone (resolved rules v.tree to.names) v.tree now from.names lacks apart.two

  pub into_now : (now : List Row) → Lacks rules alone (resolved rules v.tree to.names) v.tree now → resolved rules now to.names ≡ into
  into_now now lacks = place_now rules alone v.tree now to.names (gone_in now lacks)

  -- The move is allowed, wherever what stood at the destination is gone.
  allowed_in : (now : List Row) → Lacks rules alone (resolved rules v.tree to.names) v.tree now
      → moving now (resolved rules now from.names) (resolved rules now to.names) ≡ Ok (Some (moves (resolved rules v.tree from.names) into))
  allowed_in now lacks =
      let g = gone_in now lacks in
      let f = source_of rules alone from to dir v p plain in
      let (s, i, here, kind) = lacks.up f.row f.in_tree (subst (λ z. is_front (resolved rules v.tree to.names) z ≡ false) (sym f.at) apart.two) in
      let place : s.path ≡ resolved rules v.tree from.names = here ∙ f.at in
      let beside : Apart (resolved rules v.tree from.names) into =
      subst (λ z. Apart z into) (source_now now lacks) (subst (Apart (resolved rules now from.names)) (into_now now lacks) (apart_places rules alone now from.names to.names p.beside)) in
      ap (λ z. moving now z (resolved rules now to.names)) (source_now now lacks)
      ∙ (ap (moving now (resolved rules v.tree from.names)) (into_now now lacks)
      ∙ subst (λ z. moving now z into ≡ Ok (Some (moves z into))) place
      (moving_free now s into lacks.parts i (subst (λ z. 0 < length z) (sym place) (some_from (resolved rules v.tree from.names) into beside)) (some_to (resolved rules v.tree from.names) into beside)
      (subst (λ z. Apart z into) (sym place) beside)
      (subst (DirAt now) (sym (parent_pushed (resolved rules v.tree (parent_of to.names)) (last_parted to.names some).0)) (dir_now rules alone v.tree now to.names g))
      (free_now rules alone v.tree now to.names g)))

  -- nothing stands where it goes to
  nothing_over : (now : List Row) → Lacks rules alone (resolved rules v.tree to.names) v.tree now → is_dir_over (row_at now (resolved rules v.tree from.names)) (row_at now (resolved rules now to.names)) ≡ false
  nothing_over now lacks =
      ap (λ q. is_dir_over (row_at now (resolved rules v.tree from.names)) (row_at now q)) (into_now now lacks)
      ∙ (ap (is_dir_over (row_at now (resolved rules v.tree from.names)))
      (none_at now into (none_of_free into now (free_now rules alone v.tree now to.names (gone_in now lacks)))) ∙ none_over (row_at now (resolved rules v.tree from.names)))

  -- Where a file stood that wasn't found and went, the source is moved to its place.
  over_moved : (there : Row) → row_at v.tree (resolved rules v.tree to.names) ≡ Some there → (now : List Row) → Lacks rules alone (resolved rules v.tree to.names) v.tree now
      → moving now (resolved rules v.tree from.names) (resolved rules v.tree to.names) ≡ Ok (Some (moves (resolved rules v.tree from.names) (resolved rules v.tree to.names)))
  over_moved there is now lacks =
      let top : Names = resolved rules v.tree to.names in
      let long : 0 < length top = some_to (resolved rules v.tree from.names) top apart in
      let f = source_of rules alone from to dir v p plain in
      let (s, i, here, kind) = lacks.up f.row f.in_tree (subst (λ z. is_front top z ≡ false) (sym f.at) apart.two) in
      let at : s.path ≡ resolved rules v.tree from.names = here ∙ f.at in
      let d = dir_above v.tree there top (parts_of v.tree p.world.tree) long is in
      let (e, j, same, own) = lacks.up d.row d.in_tree (subst (λ z. is_front top z ≡ false) (sym d.at) (not_in_parent top long)) in
      subst (λ z. moving now z top ≡ Ok (Some (moves z top))) at
      (moving_free now s top lacks.parts i (subst (λ z. 0 < length z) (sym at) (some_from (resolved rules v.tree from.names) top apart)) long (subst (λ z. Apart z top) (sym at) apart)
      (record { row = e; in_tree = j; at = same ∙ d.at; dir = ap is_dir own ∙ d.dir }) (λ r k. (lacks.back r k).0))

  -- what the plan moves, where something was found at the destination
  move_plan : (there : Stood) → stands rules v to ≡ Ok there → (is_forbidden rules from || is_forbidden rules to) ≡ false → move_acts rules v from to ≡ does (moves (resolved rules v.tree from.names) into) ∷ []
  move_plan there found open_at =
      let rows : List Row = without (resolved rules v.tree to.names) v.tree in
      let lacks = lacks_without rules alone (resolved rules v.tree to.names) v (some_to (resolved rules v.tree from.names) (resolved rules v.tree to.names) apart) (parts_of v.tree p.world.tree) p.regular in
      ap (λ b. unless (when b 403) (moves_in (cleared rules v to) (resolved rules v.tree from.names) (resolved rules (cleared rules v to) to.names))) open_at
      ∙ (ap (λ (x : Result Stood FsError). moves_in (cond (is_found x) rows v.tree) (resolved rules v.tree from.names) (resolved rules (cond (is_found x) rows v.tree) to.names)) found
      ∙ (ap (λ b. moves_by b rows (resolved rules v.tree from.names) (resolved rules rows to.names)) (nothing_over rows lacks)
      ∙ ap act_of (ap (λ z. moving rows z (resolved rules rows to.names)) (sym (source_now rows lacks)) ∙ allowed_in rows lacks)))

  -- no link is met after the removal
  pub clear_now : (u : World) → (l : Lacks rules alone (resolved rules v.tree to.names) v.tree u.tree) → (is_linked u.tree (resolved rules u.tree from.names) ≡ false) × (is_linked u.tree (resolved rules u.tree to.names) ≡ false)
  clear_now u l =
      let still : (q : Names) → is_linked v.tree q ≡ false → is_linked u.tree q ≡ false = λ q clear. unlinked_from v.tree u.tree q (λ r i link. (let (out, o, j, here, kind) = l.back r i in (o, j, here, kind))) clear in (
        ap (is_linked u.tree) (source_now u.tree l) ∙ still (resolved rules v.tree from.names) p.from_clear,
        ap (is_linked u.tree) (into_now u.tree l)
            ∙ link_now rules alone v.tree u.tree to.names (gone_in u.tree l) (still (resolved rules v.tree (parent_of to.names)) (above_free rules v.tree to.names p.to_clear)),
      )

-- ---- the call

module _ {S C F L E : Type 0} (view : View S C F) (lists : Listings S C L E) (writes : Writes F) (c : C) (asked : Asked) where
  abbrev Shut : Carry view lists writes c asked → Bool
  Shut x = is_forbidden x.rules x.ask.path || is_forbidden x.rules asked.to

  abbrev MovesFrom : Result Unit FsError → S → S → Names → Names → World → World → Type 0
  MovesFrom moved m t from into u w = MovesBy view lists writes c from into m moved t u w

  abbrev Call : Carry view lists writes c asked → Result Unit FsError → S → S → World → World → Type 0
  Call x moved m t u w = IfBothFound view lists writes c x.rules u x.ask.path asked.to
      (MovesFrom moved m t (resolved x.rules u.tree x.ask.path.names) (resolved x.rules u.tree asked.to.names) u w)

  abbrev acts_of : Carry view lists writes c asked → World → List Act
  acts_of x v = move_acts x.rules v x.ask.path asked.to

  abbrev Came : Carry view lists writes c asked → Result Unit FsError → List Act → S → World → World → Type 0
  Came x moved all t v w = Comes view x.ask.fields x.s (line_of moved) all t v w

  -- what the last act comes to
  abbrev Moves : Carry view lists writes c asked → Result Unit FsError → S → World → World → World → Type 0
  Moves x moved t v u w = FillsNone (acts_of x v) × Came x moved (acts_of x v) t u w

  -- a name that clients of macOS may not use
  shut_ends : (x : Carry view lists writes c asked) (moved : Result Unit FsError) (t : S) (v u w : World) → Shut x ≡ true → moved ≡ Err fs.Forbidden → SameBesidesOpens u w → Moves x moved t v u w
  shut_ends x moved t v u w shut is same =
      let acts : acts_of x v ≡ halts (line 403) ∷ [] =
      ap (λ b. unless (when b 403) (moves_in (cleared x.rules v asked.to) (resolved x.rules v.tree x.ask.path.names) (resolved x.rules (cleared x.rules v asked.to) asked.to.names))) shut in (
        subst FillsNone (sym acts) tt,
        subst (λ a. Came x moved a t u w) (sym acts)
            (subst (λ z. Came x z (halts (line 403) ∷ []) t u w) (sym is) (halted_comes view x.ask.fields x.s (of_fs fs.Forbidden) (line 403) [] t u w refl refl same)),
      )

  -- ---- nothing was found at the destination: the tree is as it was

  module _ (x : Carry view lists writes c asked) (found : Result Info FsError) (v u : World) (p : Prepares view lists writes c asked x found v)
      (vacant : Vacant x.rules asked.to v u) (open_at : Shut x ≡ false) where
    abbrev from_at : Names
    from_at = resolved x.rules v.tree x.ask.path.names

    abbrev top : Names
    top = resolved x.rules v.tree asked.to.names

    -- a directory is to come to where a file stands
    abbrev over : Bool
    over = is_dir_over (row_at v.tree (resolved x.rules v.tree x.ask.path.names)) (row_at v.tree (resolved x.rules v.tree asked.to.names))

    plain : is_virtual x.rules x.ask.path ≡ false
    plain = not_virtual x.rules x.ask.path asked.to open_at

    beside : Apart from_at top
    beside = apart_places x.rules x.alone v.tree x.ask.path.names asked.to.names p.beside

    parts : Parts v.tree
    parts = parts_of v.tree p.world.tree

    source : Found v (record x.ask.path { names = resolved x.rules v.tree x.ask.path.names }) p.there
    source = source_of x.rules x.alone x.ask.path asked.to (is_dir_there found) v p plain

    plan_is : (b : Bool) → over ≡ b → acts_of x v ≡ moves_by b v.tree from_at top
    plan_is b e =
        ap (λ b. unless (when b 403) (moves_in (cleared x.rules v asked.to) from_at (resolved x.rules (cleared x.rules v asked.to) asked.to.names))) open_at
        ∙ (ap (λ (y : Result Stood FsError). moves_in (cond (is_found y) (without top v.tree) v.tree) from_at (resolved x.rules (cond (is_found y) (without top v.tree) v.tree) asked.to.names)) vacant.missing
        ∙ ap (λ b. moves_by b v.tree from_at top) e)

    -- no directory is to take the place of a file
    not_over : over ≡ false → (moved : Result Unit FsError) (m t : S) (w : World) → (view.state x.s).faults ≤ (view.state m).faults → MovesFrom moved m t from_at top u w → Came x moved (acts_of x v) t v w
    not_over other moved m t w le (inl (calls, held)) =
        subst (λ a. Came x moved a t v w) (sym (plan_is false other))
        (comes_after view x.ask.fields x.s (line_of moved) (act_of (moving v.tree from_at top)) t v u w (moves_none v.tree from_at top) vacant.same
        (allowed_comes view lists writes c x.ask.fields x.s (moving v.tree from_at top) m t moved u w le
        (subst (λ (tree : List Row). Calls view lists writes c (moving tree from_at top) m moved t u w) vacant.same.tree calls)))
    not_over other moved m t w le (inr ((refused, row, looked, dir, edit, taken), y, gone, after)) =
        let room : moving v.tree from_at top ≡ Err NotDir → row_at v.tree top ≡ None =
        subst (λ q. is_dir_over (row_at v.tree q) (row_at v.tree top) ≡ false → moving v.tree q top ≡ Err NotDir → row_at v.tree top ≡ None) source.at
        (placed v.tree source.row top parts source.in_tree (some_to from_at top beside)) other in
        absurd (taken_stands v.tree top edit (subst (λ (tree : List Row). taking_file tree top ≡ Ok edit) vacant.same.tree taken)
        (room (subst (λ (tree : List Row). moving tree from_at top ≡ Err NotDir) vacant.same.tree refused)))

    -- one is
    module _ (e : over ≡ true) where
      some_parts : (row there : Row) × (row_at v.tree from_at ≡ Some row) × (row_at v.tree top ≡ Some there) × (is_dir row.kind ≡ true) × (is_dir there.kind ≡ false)
      some_parts = over_parts (row_at v.tree from_at) (row_at v.tree top) e

      abbrev there : Row
      there = some_parts.1

      is_there : row_at v.tree top ≡ Some there
      is_there = some_parts.3

      refused_now : moving u.tree from_at top ≡ Err NotDir
      refused_now =
          let (i, at) = row_at_in v.tree from_at some_parts.0 some_parts.2 in
          ap (λ (tree : List Row). moving tree from_at top) vacant.same.tree
          ∙ subst (λ q. moving v.tree q top ≡ Err NotDir) at
          (over_refused v.tree some_parts.0 there top parts i (subst (λ z. 0 < length z) (sym at) (some_from from_at top beside)) (some_to from_at top beside) (subst (λ z. Apart z top) (sym at) beside)
          is_there some_parts.4 some_parts.5)

      taken_now : taking_file u.tree top ≡ Ok (Some (takes top))
      taken_now = ap (λ (tree : List Row). taking_file tree top) vacant.same.tree ∙ file_taken v.tree there top parts is_there some_parts.5

      -- what the plan does
      acts : acts_of x v ≡ does (takes top) ∷ does (moves from_at top) ∷ []
      acts =
          plan_is true e
          ∙ ap (λ a. does (takes top) ∷ act_of a)
          (over_moved x.rules x.alone x.ask.path asked.to (is_dir_there found) v p plain there is_there (without top v.tree)
          (lacks_without x.rules x.alone top v (some_to from_at top beside) parts p.regular))

      came : (moved : Result Unit FsError) (t : S) (w : World) → Came x moved (does (takes top) ∷ does (moves from_at top) ∷ []) t u w → Came x moved (acts_of x v) t v w
      came moved t w h =
          subst (λ a. Came x moved a t v w) (sym acts)
          (comes_after view x.ask.fields x.s (line_of moved) (does (takes top) ∷ does (moves from_at top) ∷ []) t v u w tt vacant.same h)

      -- the file went
      gone_on : (moved : Result Unit FsError) (m t : S) (y w : World) → (view.state x.s).faults ≤ (view.state m).faults → Edited (takes top) u y
          → Calls view lists writes c (moving y.tree from_at top) m moved t y w → Came x moved (does (takes top) ∷ does (moves from_at top) ∷ []) t u w
      gone_on moved m t y w le edited after =
          let taken : Edited (takes top) v y = taken_after top v u y vacant.same edited in
          let lacks = lacks_beside x.rules x.alone from_at top v y (beside_taken from_at top top v y beside (front_itself top) taken)
          (parts_taken top v y (some_to from_at top beside) parts taken) (λ folds. takes_apart top v y (p.regular folds) taken) (taken_free top v y taken) in
          comes_behind view x.ask.fields x.s (line_of moved) (takes top) (does (moves from_at top) ∷ []) t u y w edited
          (call_comes view lists writes c x.ask.fields x.s (moving y.tree from_at top) (moves from_at top) m t moved y w
          (over_moved x.rules x.alone x.ask.path asked.to (is_dir_there found) v p plain there is_there y.tree lacks) le after)

      -- the directory meets a file
      meets : MeetsFile u.tree from_at top
      meets =
          let (i, at) = row_at_in v.tree from_at some_parts.0 some_parts.2 in (
            refused_now,
            some_parts.0,
            ap (λ (tree : List Row). look tree from_at) vacant.same.tree ∙ subst (λ q. look v.tree q ≡ Ok some_parts.0) at (look_row v.tree some_parts.0 parts i),
            some_parts.4,
            Some (takes top),
            taken_now,
          )

      when_over : (moved : Result Unit FsError) (m t : S) (w : World) → (view.state x.s).faults ≤ (view.state m).faults → MovesFrom moved m t from_at top u w → Came x moved (acts_of x v) t v w
      when_over (Ok y) m t w le (inl ((edit, is, edited), held)) = let never : Err NotDir ≡ Ok edit = sym refused_now ∙ is in cc
      when_over (Err f) m t w le (inl (calls, held)) =
          came (Err f) t w (spoiled_comes view x.ask.fields x.s f (of_fs f) (does (takes top) ∷ does (moves from_at top) ∷ []) m t u w refl le (held meets) (inl (kept calls)))
        where
          kept : Calls view lists writes c (moving u.tree from_at top) m (Err f) t u w → SameBesidesOpens u w
          kept (inl (called, same)) = same
          kept (inr (spoiled, left)) = subst (λ a. LeftBy true a u w) refused_now left
      when_over moved m t w le (inr (met, y, gone, after)) =
          came moved t w (gone_on moved m t y w le (call_done view lists writes c x.ask.fields x.s (taking_file u.tree top) (takes top) m t tt u y taken_now gone) after)

    vacant_ends : (moved : Result Unit FsError) (m t : S) (w : World) → (view.state x.s).faults ≤ (view.state m).faults → Call x moved m t u w → Came x moved (acts_of x v) t v w
    vacant_ends moved m t w le call = by over refl
      where
        same : u.tree ≡ v.tree
        same = vacant.same.tree

        calls : MovesFrom moved m t from_at top u w
        calls =
            subst (λ q. MovesFrom moved m t q top u w) (ap (λ (tree : List Row). resolved x.rules tree x.ask.path.names) same)
            (subst (λ q. MovesFrom moved m t (resolved x.rules u.tree x.ask.path.names) q u w) (ap (λ (tree : List Row). resolved x.rules tree asked.to.names) same)
            (call (λ folds. ap no_twins same ∙ p.regular folds)
            (ap (λ (tree : List Row). is_linked tree (resolved x.rules tree x.ask.path.names)) same ∙ p.from_clear)
            (ap (λ (tree : List Row). is_linked tree (resolved x.rules tree asked.to.names)) same ∙ p.to_clear)))

        by : (b : Bool) → over ≡ b → Came x moved (acts_of x v) t v w
        by false e = not_over e moved m t w le calls
        by true e = when_over e moved m t w le calls

  -- What was found there went.
  cleared_ends : (x : Carry view lists writes c asked) (found : Result Info FsError) (moved : Result Unit FsError) (m t : S) (v u w : World) → Prepares view lists writes c asked x found v
      → Cleared x.rules x.ask.path asked.to v u → Shut x ≡ false → (view.state x.s).faults ≤ (view.state m).faults → Call x moved m t u w → Moves x moved t v u w
  cleared_ends x found moved m t v u w p gone open_at le call =
      let plain = not_virtual x.rules x.ask.path asked.to open_at in
      let dir = is_dir_there found in
      let lacks = lacks_beside x.rules x.alone (resolved x.rules v.tree x.ask.path.names) (resolved x.rules v.tree asked.to.names) v u gone.beside (parts_of u.tree gone.world.tree) gone.apart gone.free in
      let acts = move_plan x.rules x.alone x.ask.path asked.to dir v p plain gone.there gone.found open_at in
      let allowed = allowed_in x.rules x.alone x.ask.path asked.to dir v p plain u.tree lacks in
      let clear = clear_now x.rules x.alone x.ask.path asked.to dir v p plain u lacks in
      let nothing : row_at u.tree (resolved x.rules u.tree asked.to.names) ≡ None =
      ap (row_at u.tree) (into_now x.rules x.alone x.ask.path asked.to dir v p plain u.tree lacks)
      ∙ none_at u.tree (into x.rules x.alone x.ask.path asked.to dir v p plain)
      (none_of_free (into x.rules x.alone x.ask.path asked.to dir v p plain) u.tree (free_now x.rules x.alone v.tree u.tree asked.to.names (gone_in x.rules x.alone x.ask.path asked.to dir v p plain u.tree lacks))) in (
        subst FillsNone (sym acts) tt,
        subst (λ a. Came x moved a t u w) (sym acts)
            (call_comes view lists writes c x.ask.fields x.s (moving u.tree (resolved x.rules u.tree x.ask.path.names) (resolved x.rules u.tree asked.to.names)) _ m t moved u w allowed le
            (once nothing (call gone.apart clear.0 clear.1))),
      )
    where
      once : row_at u.tree (resolved x.rules u.tree asked.to.names) ≡ None → MovesFrom moved m t (resolved x.rules u.tree x.ask.path.names) (resolved x.rules u.tree asked.to.names) u w
          → Calls view lists writes c (moving u.tree (resolved x.rules u.tree x.ask.path.names) (resolved x.rules u.tree asked.to.names)) m moved t u w
      once nothing (inl (calls, held)) = calls
      once nothing (inr (met, y, gone, after)) = absurd (taken_stands u.tree (resolved x.rules u.tree asked.to.names) gone.0 gone.1 nothing)

  -- in both cases
  move_ends : (x : Carry view lists writes c asked) (found : Result Info FsError) (moved : Result Unit FsError) (m t : S) (v u w : World) → Prepares view lists writes c asked x found v
      → (view.state x.s).faults ≤ (view.state m).faults → UnlessShut view lists writes c (Shut x) moved u w (Call x moved m t u w)
      → Ends view lists writes c asked x (line_of moved) (acts_of x v) t v u w
  move_ends x found moved m t v u w p le calls = by (Shut x) refl
    where
      by : (b : Bool) → Shut x ≡ b → Ends view lists writes c asked x (line_of moved) (acts_of x v) t v u w
      by true shut =
          let (is, same) = calls.refused shut in
          let (none, came) = shut_ends x moved t v u w shut is same in
          record {
            after_gone = λ gone. (none, came);
            after_none = λ vacant. comes_after view x.ask.fields x.s (line_of moved) (acts_of x v) t v u w none vacant.same came;
          }
      by false open_at = record {
        after_gone = λ gone. cleared_ends x found moved m t v u w p gone open_at le (calls.called open_at);
        after_none = λ vacant. vacant_ends x found v u p vacant open_at moved m t w le (calls.called open_at);
      }

  -- The last act of a MOVE comes to what its plan says.
  pub moves_right : (x : Carry view lists writes c asked) → GoesRight view lists writes c asked x true
  moves_right x found outcome m t r reached (moved, call, is) = (
    line_of moved,
    is ∙ answered_line outcome moved,
    both_map (view.state m).told (view.state t).told _ _ (λ u w calls v p. move_ends x found moved m t v u w p (x.given.counts m reached) calls)
        (x.given.renames m t x.ask.path asked.to moved reached call),
  )
