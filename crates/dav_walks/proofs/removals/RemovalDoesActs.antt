-- Over a store that follows rules, what work does to the told world is what the removals that it covers do, in their order.
-- Headlines: `removed` and `removed_whole`.
use Rattle.std.proofs.Common.{◌≡◌, ◌<◌, ◌⊎◌, ◌&&◌, ◌||◌, ◌==◌, ◌+◌, ◌++◌, ℕ, nat_lt, List, [], ◌∷◌, length, map, codes, Bool, true, false, not, Option, None, Some, Result, Ok, Err, refl, sym, ap, subst, ◌∙◌, inl, inr, append_assoc, append-nil, length-append, arith}
use Rattle.std.specs.List.{filter, list_all}
use Rattle.std.proofs.lemmas.Bool.{and_parts, and_right, false_from_ne_true, or_from}
use Rattle.dav_io.specs.Told.{Both}
use Rattle.dav_io.proofs.ToldLemmas.{both_map, both_same, both_then}
use Rattle.dav_core.specs.declared.dav_error.DavError.{DavError}
use Rattle.dav_core.specs.declared.dav_error.DavError.TheVariants as dav
use Rattle.dav_core.specs.declared.error.FsError.{FsError}
use Rattle.dav_core.specs.declared.error.FsError.TheVariants as fs
use Rattle.dav_core.specs.declared.tree.Row.{Row}
use Rattle.dav_core.specs.Allowed.{Allowed, taking_dir, taking_file}
use Rattle.dav_core.specs.DavPath.{WebPath, last_name}
use Rattle.dav_core.specs.Edits.{Edited, EditedBy, takes}
use Rattle.dav_core.specs.Listing.{name_of, stands_in}
use Rattle.dav_core.specs.Path.{Names, is_front, same_names}
use Rattle.dav_core.specs.Statuses.{closes, of_fs, status_of}
use Rattle.dav_core.specs.Tree.{has_dir, is_dir, is_dir_row, is_linked, is_tree, row_at}
use Rattle.dav_core.specs.World.{IsWorld, SameBesidesOpens, World}
use Rattle.dav_core.specs.Writing.{LeftBy}
use Rattle.dav_core.proofs.UnchangedLemmas.{same_besides}
use Rattle.dav_core.proofs.Paths.{front_itself, last_pushed, names_equal, names_same, no_path_ends}
use Rattle.dav_core.proofs.Elements.{In, all_in, in_filter}
use Rattle.dav_store.specs.View.{Listings, View}
use Rattle.dav_model.specs.Conditions.{Fields}
use Rattle.dav_model.specs.Finding.{has_slash, is_clear, is_forbidden, is_localized, is_named, is_virtual, resolved}
use Rattle.dav_model.specs.Plans.{Act, has_link_below, is_too_deep, line, stays_localized}
use Rattle.dav_model.specs.Rules.{Knowledge, Rules}
use Rattle.dav_model.specs.Valid.{TellsApart, no_twins}
use Rattle.dav_model.specs.Walks.{dir_first, in_order}
use Rattle.dav_model.proofs.JoiningLemmas.{part_none}
use Rattle.dav_walks.specs.declared.child.Child.{Child}
use Rattle.dav_walks.specs.declared.work.Work.{Work}
use Rattle.dav_walks.specs.declared.work.Work.TheVariants.{Emptied, Whole}
use Rattle.dav_walks.specs.Follows.{Calls, CallsFor, FailsToList, Follows, IfFound, ListsBy, Reached, Told, UnlessShut, child_of, children_in, removes_dir, removes_file}
use Rattle.dav_walks.specs.Lines.{Line}
use Rattle.dav_walks.specs.Pouring.{Writes}
use Rattle.dav_walks.specs.Reading.{HasMembers, HasNoMembers, child_named}
use Rattle.dav_walks.specs.Removing.{Removes, RemovesOne, goes, is_deep, line_of, short as cut_short, stops, work_of, works_in, done as no_work}
use Rattle.dav_walks.proofs.calls.ActsJoined.{Comes, FillsNone, acts_by, comes_after, comes_behind, halted_comes, removals_none, short_comes, spoiled_comes}
use Rattle.dav_walks.proofs.trees.NoLinkAbove.{parted}
use Rattle.dav_walks.proofs.trees.FoundBeneath.{found_below, taken_apart, taken_found}
use Rattle.dav_walks.proofs.calls.ListingsLead.{listed_on}
use Rattle.dav_walks.proofs.removals.RemovalsAllowed.{Left, StandsAs, dir_allowed, file_allowed, left_same, left_taken, one_file, stands_now, unlinked}
use Rattle.dav_walks.proofs.trees.TreeRows.{Parts, above, at_row, front_of, front_then, not_both, parts_of}
use Rattle.dav_walks.proofs.removals.RemovalOrder.{in_left, in_paths, path_in, paths, paths_in}
use Rattle.dav_walks.proofs.removals.WorkCovers.{AllFit, Covers, emptied_shallow, file_shallow, going, in_walked, opened_covers, opened_fit, walked, walked_ascends, walked_in, whole_deep}

-- a fact of what is told before or after a call
pub both_with : {A : Type 0} (old new : Option A) (P : A → A → Type 0) (Q : A → Type 0) → Both old new P → ((b : A) → new ≡ Some b → Q b) → Both old new (λ a b. P a b × Q b)
both_with None None P Q both h = tt
both_with None (Some b) P Q both h = absurd both
both_with (Some a) None P Q both h = absurd both
both_with (Some a) (Some b) P Q both h = (both, h b refl)

-- the path of a removal as it is asked, where it was found, and the tree that it began with: no link is met
pub record Case : Type 0 where
  pub asked : WebPath
  pub top : Names
  pub old : List Row
  pub some : 0 < length top
  pub long : length asked.names ≡ length top
  pub tree : is_tree old ≡ true
  pub below : has_link_below old top ≡ false
  pub clear : is_linked old top ≡ false

abbrev pub deep_in : Case → Names → Bool
deep_in x path = is_too_deep (going x.top x.old) path

-- a row that stays under the rules for macOS
abbrev pub keeps_row : Rules → Option Row → Bool
keeps_row rules None = false
keeps_row rules (Some row) = stays_localized rules row

-- what ends a removal when it comes to a path
abbrev pub stops_in : Rules → Case → Names → Bool
stops_in rules x path = keeps_row rules (row_at x.old path) || deep_in x path

abbrev pub acts : Rules → Case → List Names → List Act
acts rules x left = acts_by (stops_in rules x) left

-- All at and below a place is to go.
abbrev pub began : (asked : WebPath) (top : Names) (v : World) → IsWorld v → 0 < length top → length asked.names ≡ length top → is_linked v.tree top ≡ false → has_link_below v.tree top ≡ false → Case
began asked top v world some long clear below = record { asked = asked; top = top; old = v.tree; some = some; long = long; tree = world.tree; below = below; clear = clear }

-- ---- what is asked for, and where it stands

-- A path that is asked for below the top, and its place likewise below where the top was found. It is the top itself, or a name of a row is behind that.
pub record Beneath (x : Case) (path place : WebPath) : Type 0 where
  pub rest : Names
  pub asks : path.names ≡ x.asked.names ++ rest
  pub is : place ≡ record path { names = x.top ++ rest }
  pub first : rest ≡ [] → path ≡ x.asked

-- a piece of work, and the same piece at its place
abbrev pub Shadow : Case → Work → Work → Type 0
Shadow x (Whole path true) (Whole place true) = Beneath x path place
Shadow x (Whole path false) (Whole place false) = Beneath x path place
Shadow x (Emptied path) (Emptied place) = Beneath x path place
Shadow x work other = ⊥

abbrev pub Shadows : Case → List Work → List Work → Type 0
Shadows x [] [] = Unit {0}
Shadows x [] (other ∷ others) = ⊥
Shadows x (work ∷ works) [] = ⊥
Shadows x (work ∷ works) (other ∷ others) = Shadow x work other × Shadows x works others

child_beneath : (x : Case) (path place : WebPath) (name : List ℕ) (dir : Bool) → Beneath x path place → Beneath x (child_named path name dir).path (child_named place name dir).path
child_beneath x path place name dir b = record {
  rest = b.rest ++ name ∷ [];
  asks = ap (λ z. z ++ name ∷ []) b.asks ∙ append_assoc x.asked.names b.rest (name ∷ []);
  is =
      ap (λ (z : WebPath). (child_named z name dir).path) b.is
      ∙ ap (λ (z : Names). (let q : WebPath = record path { names = z; slash = dir } in q)) (append_assoc x.top b.rest (name ∷ []));
  first = λ e. absurd (no_path_ends b.rest name e);
}

child_shadow : (x : Case) (path place : WebPath) (name : List ℕ) (dir : Bool) → Beneath x path place → Shadow x (Whole (child_named path name dir).path dir) (Whole (child_named place name dir).path dir)
child_shadow x path place name true b = child_beneath x path place name true b
child_shadow x path place name false b = child_beneath x path place name false b

children_shadow : (x : Case) (path place : WebPath) (rows : List Row) (works others : List Work) → Beneath x path place → Shadows x works others
    → Shadows x (map work_of (map (child_of path) rows) ++ works) (map work_of (map (child_of place) rows) ++ others)
children_shadow x path place [] works others b rest = rest
children_shadow x path place (row ∷ rows) works others b rest =
    (child_shadow x path place (name_of row) (is_dir row.kind) b, children_shadow x path place rows works others b rest)

pub all_left : (top : Names) (v : World) → IsWorld v → Left top v.tree v.tree (walked v.tree top)
all_left top v world = record {
  tree = world.tree;
  from = λ r i. (r, i, refl, refl);
  stands = λ p i. (in_walked v.tree top p i).0;
  all = λ p i front. walked_in v.tree top p i front;
  below = λ p i. (in_walked v.tree top p i).1;
  ascends = walked_ascends v.tree top (parts_of v.tree world.tree).once;
}

-- ---- names that stay under the rules for macOS

last_same : (a b rest : Names) (name : List ℕ) → is_localized (a ++ (rest ++ name ∷ [])) ≡ is_localized (b ++ (rest ++ name ∷ []))
last_same a b rest name =
    ap (is_named (codes ".localized"))
    (ap last_name (sym (append_assoc a rest (name ∷ []))) ∙ (last_pushed (a ++ rest) name ∙ (sym (last_pushed (b ++ rest) name) ∙ ap last_name (append_assoc b rest (name ∷ [])))))

long_other : (a : Names) (one : List ℕ) → 1 < length a → same_names a (one ∷ []) ≡ false
long_other a one long = false_from_ne_true (same_names a (one ∷ [])) (λ e. absurd (let n : length a ≡ 1 = ap length (names_same a (one ∷ []) e) in omega (arith, n, long)))

-- a path of several names is none of the two files of the root
not_virtual : (rules : Rules) (path : WebPath) → 1 < length path.names → is_virtual rules path ≡ false
not_virtual rules path long =
    and_right rules.macos _ (and_right (not path.slash) _
    (or_from (same_names path.names (codes ".metadata_never_index" ∷ [])) (same_names path.names (codes ".ql_disablethumbnails" ∷ []))
    (long_other path.names (codes ".metadata_never_index") long) (long_other path.names (codes ".ql_disablethumbnails") long)))

-- a row that stands there, by its kind
pub keeps_file_row : (rules : Rules) (old : List Row) (parts : Parts old) (p : Names) → StandsAs old p false → keeps_row rules (row_at old p) ≡ (rules.macos && is_localized p)
keeps_file_row rules old parts p s =
    ap (keeps_row rules) (ap (row_at old) (sym s.at) ∙ at_row old s.row parts.once s.in_tree)
    ∙ (ap (λ d. rules.macos && (not d && is_localized s.row.path)) s.kind ∙ ap (λ (z : Names). rules.macos && is_localized z) s.at)

dir_open : (rules : Rules) (old : List Row) (parts : Parts old) (p : Names) → StandsAs old p true → keeps_row rules (row_at old p) ≡ false
dir_open rules old parts p s =
    ap (keeps_row rules) (ap (row_at old) (sym s.at) ∙ at_row old s.row parts.once s.in_tree)
    ∙ (ap (λ d. rules.macos && (not d && is_localized s.row.path)) s.kind ∙ and_right rules.macos false refl)

module _ {S C F L E : Type 0} (view : View S C F) (lists : Listings S C L E) (writes : Writes F) (c : C) (rules : Rules) (fields : Fields) (start : S)
    (k : Knowledge) (follows : Follows view lists writes c rules k start) (alone : rules.alone ≡ None) where
  abbrev Here : S → Type 0
  Here n = Reached view lists writes c start n

  abbrev ToldIn : S → S → (World → World → Type 0) → Type 0
  ToldIn m n P = Told view lists writes c m n P

  abbrev Came : Line → List Act → S → World → World → Type 0
  Came r all t v w = Comes view fields start r all t v w

  -- where all went, what is left of the tree
  abbrev pub Ended : Line → Case → World → Type 0
  Ended (Ok y) x w = Left x.top x.old w.tree []
  Ended (Err e) x w = Unit {0}

  -- What is known of a world in which some of it went: the top is found where it was, where it stands.
  pub record Kept (x : Case) (v : World) : Type 0 where
    pub apart : TellsApart rules v
    pub base : In x.top (paths v.tree) → resolved rules v.tree x.asked.names ≡ x.top

  -- A file at the top is none that stays.
  abbrev pub MayGo : Case → Type 0
  MayGo x = StandsAs x.old x.top false → (is_forbidden rules x.asked ≡ false) × (keeps_row rules (row_at x.old x.top) ≡ false)

  -- what work that is left comes to
  abbrev pub Goes : List Work → Line → S → World → World → Type 0
  Goes works r t v w = (x : Case) → MayGo x → (others : List Work) → Shadows x works others → (left : List Names) → Covers others left → AllFit x.top x.old others → Left x.top x.old v.tree left
      → Kept x v → Came r (acts rules x left) t v w × Ended r x w

  behind : (r : Line) (x : Case) (p : Names) (more : List Names) (t : S) (v u w : World) → stops_in rules x p ≡ false → Edited (takes p) v u → Came r (acts rules x more) t u w
      → Came r (acts rules x (p ∷ more)) t v w
  behind r x p more t v u w goes_on edited h = rw goes_on (comes_behind view fields start r (takes p) (acts rules x more) t v u w edited h)

  none_filled : (x : Case) (left : List Names) → FillsNone (acts rules x left)
  none_filled x left = removals_none (stops_in rules x) left

  -- ---- where it is found

  found_at : (x : Case) (path place : WebPath) (v : World) → Beneath x path place → Kept x v → Parts v.tree → In place.names (paths v.tree) → resolved rules v.tree path.names ≡ place.names
  found_at x path place v b kept parts i =
      let at : place.names ≡ x.top ++ b.rest = ap (λ (z : WebPath). z.names) b.is in
      let (r, j, here) = in_paths place.names v.tree i in
      ap (resolved rules v.tree) b.asks
      ∙ (found_below rules alone v.tree parts x.asked.names x.top b.rest (kept.base (top_stands r j (here ∙ at))) r j (here ∙ at) ∙ sym at)
    where
      top_stands : (r : Row) → In r v.tree → r.path ≡ x.top ++ b.rest → In x.top (paths v.tree)
      top_stands r j on = by (same_names x.top r.path) refl
        where
          by : (same : Bool) → same_names x.top r.path ≡ same → In x.top (paths v.tree)
          by true same = subst (λ z. In z (paths v.tree)) (sym (names_same x.top r.path same)) (paths_in r v.tree j)
          by false other =
              let d = above v.tree r x.top parts j (front_of x.top r.path b.rest on) (λ e. not_both (same_names x.top r.path) (names_equal x.top r.path e) other) in
              path_in x.top d.row v.tree d.in_tree d.at

  -- as deep as it is asked for
  same_length : (x : Case) (path place : WebPath) → Beneath x path place → length path.names ≡ length place.names
  same_length x path place b =
      ap length b.asks ∙ (length-append x.asked.names b.rest ∙ (ap (λ n. n + length b.rest) x.long ∙ (sym (length-append x.top b.rest) ∙ ap (λ (z : WebPath). length z.names) (sym b.is))))

  same_deep : (x : Case) (path place : WebPath) → Beneath x path place → is_deep path ≡ is_deep place
  same_deep x path place b = ap (nat_lt 65536) (same_length x path place b)

  kept_same : (x : Case) (v u : World) → u.tree ≡ v.tree → Kept x v → Kept x u
  kept_same x v u same kept = record {
    apart = λ folds. ap no_twins same ∙ kept.apart folds;
    base = λ i. ap (λ (rows : List Row). resolved rules rows x.asked.names) same ∙ kept.base (subst (λ (rows : List Row). In x.top (paths rows)) same i);
  }

  -- ---- one step

  -- From work that covers what is left a step leads to work that does.
  record Step (x : Case) (works : List Work) (left : List Names) (v u : World) : Type 0 where
    others : List Work
    shadows : Shadows x works others
    more : List Names
    covers : Covers others more
    fit : AllFit x.top x.old others
    now : Left x.top x.old u.tree more
    kept : Kept x u
    back : (r : Line) (t : S) (w : World) → Came r (acts rules x more) t u w → Came r (acts rules x left) t v w

  abbrev Steps : List Work → List Work → World → World → Type 0
  Steps works rest v u = (x : Case) → MayGo x → (others : List Work) → Shadows x works others → (left : List Names) → Covers others left → AllFit x.top x.old others → Left x.top x.old v.tree left
      → Kept x v → Step x rest left v u

  -- what was allowed was done
  done_as : (allowed : Allowed) (p : Names) (m n : S) (gone : Result Unit FsError) (v u : World) → allowed ≡ Ok (Some (takes p)) → Ok tt ≡ line_of gone
      → Calls view lists writes c allowed m gone n v u → Edited (takes p) v u
  done_as allowed p m n (Ok x) v u is ok (edit, e, done) =
      let same : edit ≡ Some (takes p) = (let f : Ok edit ≡ Ok (Some (takes p)) = sym e ∙ is in cc) in subst (λ o. EditedBy o v u) same done
  done_as allowed p m n (Err f) v u is ok h = cc

  -- what is left of the tree is a tree
  taken_left : (x : Case) (p : Names) (more : List Names) (v u : World) → Left x.top x.old v.tree (p ∷ more) → Edited (takes p) v u → is_tree u.tree ≡ true → Left x.top x.old u.tree more
  taken_left x p more v u l (t, new, e) tree = subst (λ rows. Left x.top x.old rows more) (sym e.tree) (left_taken x.top x.old v.tree p t more l (subst (λ rows. is_tree rows ≡ true) e.tree tree))

  taken_step : (x : Case) (p : Names) (more left : List Names) (works others : List Work) (v u : World) → Shadows x works others → left ≡ p ∷ more → stops_in rules x p ≡ false → Edited (takes p) v u
      → is_tree u.tree ≡ true → Covers others more → AllFit x.top x.old others → Left x.top x.old v.tree left → Kept x v → Step x works left v u
  taken_step x p more left works others v u shadows e goes_on edited tree covers fit l kept = record {
    others = others;
    shadows = shadows;
    more = more;
    covers = covers;
    fit = fit;
    now = taken_left x p more v u (subst (Left x.top x.old v.tree) e l) edited tree;
    kept = record { apart = taken_apart rules alone p v u kept.apart edited; base = taken_found rules alone p x.asked.names x.top v u kept.apart edited kept.base };
    back = λ r t w h. subst (λ z. Came r (acts rules x z) t v w) (sym e) (behind r x p more t v u w goes_on edited h);
  }

  clear_at : (x : Case) (left : List Names) (p : Names) (v : World) → Left x.top x.old v.tree left → is_front x.top p ≡ true → is_linked v.tree p ≡ false
  clear_at x left p v l front = unlinked x.top x.old v.tree left p x.below x.clear l front

  clear_here : (x : Case) (left : List Names) (path place : WebPath) (v : World) → resolved rules v.tree path.names ≡ place.names → Left x.top x.old v.tree left → is_front x.top place.names ≡ true
      → is_linked v.tree (resolved rules v.tree path.names) ≡ false
  clear_here x left path place v here l front = ap (is_linked v.tree) here ∙ clear_at x left place.names v l front

  -- ---- a file

  -- It stays by its name under the rules for macOS, as its row does.
  file_shut : (x : Case) (path place : WebPath) → MayGo x → Beneath x path place → StandsAs x.old place.names false → is_forbidden rules path ≡ keeps_row rules (row_at x.old place.names)
  file_shut x path place may b stood = by (parted b.rest)
    where
      at : place.names ≡ x.top ++ b.rest
      at = ap (λ (z : WebPath). z.names) b.is

      by : (b.rest ≡ []) ⊎ ((init : Names) × (last : List ℕ) × (b.rest ≡ init ++ last ∷ [])) → is_forbidden rules path ≡ keeps_row rules (row_at x.old place.names)
      by (inl none) =
          let here : place.names ≡ x.top = at ∙ (ap (λ z. x.top ++ z) none ∙ append-nil x.top) in
          let (free, goes_on) = may (subst (λ z. StandsAs x.old z false) here stood) in
          ap (is_forbidden rules) (b.first none) ∙ (free ∙ (sym goes_on ∙ ap (λ z. keeps_row rules (row_at x.old z)) (sym here)))
      by (inr (init, last, e)) =
          let long : length path.names ≡ length x.asked.names + (length init + 1) =
          ap length (b.asks ∙ ap (λ z. x.asked.names ++ z) e) ∙ (length-append x.asked.names (init ++ last ∷ []) ∙ ap (λ n. length x.asked.names + n) (length-append init (last ∷ []))) in
          let some : 0 < length x.top = x.some in
          let same : length x.asked.names ≡ length x.top = x.long in
          ap (λ v. v || (rules.macos && is_localized path.names)) (not_virtual rules path (omega (arith, long, some, same)))
          ∙ (ap (λ (z : Names). rules.macos && is_localized z) (b.asks ∙ ap (λ z. x.asked.names ++ z) e)
          ∙ (ap (λ l. rules.macos && l) (last_same x.asked.names x.top init last)
          ∙ (ap (λ (z : Names). rules.macos && is_localized z) (sym (at ∙ ap (λ z. x.top ++ z) e)) ∙ sym (keeps_file_row rules x.old (parts_of x.old x.tree) place.names stood))))

  record FileGoes (x : Case) (path : WebPath) (place : WebPath) (works : List Work) (left : List Names) (v : World) : Type 0 where
    more : List Names
    cut : left ≡ place.names ∷ more
    covers : Covers works more
    allowed : taking_file v.tree (resolved rules v.tree path.names) ≡ Ok (Some (takes place.names))
    unlinked : is_linked v.tree (resolved rules v.tree path.names) ≡ false
    shallow : deep_in x place.names ≡ false
    shut : (is_forbidden rules path || has_slash rules.alone path) ≡ keeps_row rules (row_at x.old place.names)

  shut_or : (a b c : Bool) → a ≡ c → b ≡ false → (a || b) ≡ c
  shut_or true b c e f = e
  shut_or false b c e f = f ∙ e

  no_slash : (path : WebPath) → path.slash ≡ false → has_slash rules.alone path ≡ false
  no_slash path flat = ap (λ (o : Option Names). has_slash o path) alone ∙ flat

  file_goes : (x : Case) (path place : WebPath) (works : List Work) (left : List Names) (v : World) → MayGo x → Beneath x path place → Covers (Whole place false ∷ works) left
      → AllFit x.top x.old (Whole place false ∷ works) → Left x.top x.old v.tree left → Kept x v → FileGoes x path place works left v
  file_goes x path place works left v may b (whole, more, e, below, apart, i, covers) ((stood, slash, deep), fit) l kept =
      let parts = parts_of x.old x.tree in
      let joined = subst (Left x.top x.old v.tree) e l in
      let one = one_file x.top x.old v.tree place.names whole more parts joined stood below i in
      let cut : left ≡ place.names ∷ more = e ∙ ap (λ z. z ++ more) one in
      let first = subst (Left x.top x.old v.tree) cut l in
      let front = first.below place.names (inl refl) in
      let here = found_at x path place v b kept (parts_of v.tree l.tree) (first.stands place.names (inl refl)) in
      record {
        more = more;
        cut = cut;
        covers = covers;
        allowed = ap (taking_file v.tree) here ∙ file_allowed x.top x.old v.tree place.names more parts first stood;
        unlinked = clear_here x (place.names ∷ more) path place v here first front;
        shallow = file_shallow x.top x.old place.names parts stood front deep;
        shut = shut_or (is_forbidden rules path) (has_slash rules.alone path) (keeps_row rules (row_at x.old place.names)) (file_shut x path place may b stood)
            (no_slash path (sym (ap (λ (z : WebPath). z.slash) b.is) ∙ slash refl));
      }

  -- the removal of a file is refused by its name, or done
  done_file : (path place : WebPath) (x : Case) (works : List Work) (left : List Names) (m n : S) (gone : Result Unit FsError) (v u : World) → (g : FileGoes x path place works left v) → Ok tt ≡ line_of gone
      → UnlessShut view lists writes c (is_forbidden rules path || has_slash rules.alone path) gone v u (IfFound view lists writes c rules v path
      (Calls view lists writes c (taking_file v.tree (resolved rules v.tree path.names)) m gone n v u))
      → TellsApart rules v → (stops_in rules x place.names ≡ false) × Edited (takes place.names) v u
  done_file path place x works left m n gone v u g ok calls apart = by (keeps_row rules (row_at x.old place.names)) refl
    where
      never : gone ≡ Err fs.Forbidden → ⊥
      never e = let f : Ok tt ≡ line_of (Err fs.Forbidden) = ok ∙ ap line_of e in cc

      by : (b : Bool) → keeps_row rules (row_at x.old place.names) ≡ b → (stops_in rules x place.names ≡ false) × Edited (takes place.names) v u
      by true e = absurd (never (calls.refused (g.shut ∙ e)).0)
      by false e = (ap (λ b. b || deep_in x place.names) e ∙ g.shallow, done_as _ place.names m n gone v u g.allowed ok (calls.called (g.shut ∙ e) apart g.unlinked))

  file_step : (path : WebPath) (works : List Work) (m n : S) (gone : Result Unit FsError) → Here m → view.removes_file m c path gone n → Ok tt ≡ line_of gone
      → ToldIn m n (Steps (Whole path false ∷ works) works)
  file_step path works m n gone reached call ok =
      both_map (view.state m).told (view.state n).told _ _
      (λ v u h x may others shadows left covers fit l kept. by v u h x may others shadows left covers fit l kept)
      (both_with (view.state m).told (view.state n).told _ IsWorld (follows.removes_file m n path gone reached call)
      (λ u e. follows.trees n u (removes_file m n path gone reached call) e))
    where
      by : (v u : World) → UnlessShut view lists writes c (is_forbidden rules path || has_slash rules.alone path) gone v u (IfFound view lists writes c rules v path
          (Calls view lists writes c (taking_file v.tree (resolved rules v.tree path.names)) m gone n v u)) × IsWorld u → Steps (Whole path false ∷ works) works v u
      by v u h x may [] shadows left covers fit l kept = absurd shadows
      by v u h x may (Whole place true ∷ others) shadows left covers fit l kept = absurd shadows.0
      by v u h x may (Emptied place ∷ others) shadows left covers fit l kept = absurd shadows.0
      by v u h x may (Whole place false ∷ others) shadows left covers fit l kept =
          let g = file_goes x path place others left v may shadows.0 covers fit l kept in
          let done = done_file path place x others left m n gone v u g ok h.0 kept.apart in
          taken_step x place.names g.more left works others v u shadows.1 g.cut done.0 done.1 h.1.tree g.covers fit.1 l kept

  -- ---- a directory that has lost its members

  record DirGoes (x : Case) (path place : WebPath) (works : List Work) (left : List Names) (v : World) : Type 0 where
    more : List Names
    cut : left ≡ place.names ∷ more
    covers : Covers works more
    allowed : taking_dir v.tree (resolved rules v.tree path.names) ≡ Ok (Some (takes place.names))
    unlinked : is_linked v.tree (resolved rules v.tree path.names) ≡ false
    goes_on : stops_in rules x place.names ≡ false

  dir_goes : (x : Case) (path place : WebPath) (works : List Work) (left : List Names) (v : World) → Beneath x path place → Covers (Emptied place ∷ works) left → AllFit x.top x.old (Emptied place ∷ works)
      → Left x.top x.old v.tree left → Kept x v → DirGoes x path place works left v
  dir_goes x path place works left v b (more, cut, covers) ((stood, shallow), fit) l kept =
      let first = subst (Left x.top x.old v.tree) cut l in
      let front = first.below place.names (inl refl) in
      let here = found_at x path place v b kept (parts_of v.tree l.tree) (first.stands place.names (inl refl)) in
      record {
        more = more;
        cut = cut;
        covers = covers;
        allowed = ap (taking_dir v.tree) here ∙ dir_allowed x.top x.old v.tree place.names more x.some (parts_of x.old x.tree) first stood;
        unlinked = clear_here x (place.names ∷ more) path place v here first front;
        goes_on = ap (λ b. b || deep_in x place.names) (dir_open rules x.old (parts_of x.old x.tree) place.names stood) ∙ emptied_shallow x.top x.old place shallow;
      }

  dir_step : (path : WebPath) (works : List Work) (m n : S) (gone : Result Unit FsError) → Here m → view.removes_dir m c path gone n → Ok tt ≡ line_of gone
      → ToldIn m n (Steps (Emptied path ∷ works) works)
  dir_step path works m n gone reached call ok =
      both_map (view.state m).told (view.state n).told _ _
      (λ v u h x may others shadows left covers fit l kept. by v u h x may others shadows left covers fit l kept)
      (both_with (view.state m).told (view.state n).told _ IsWorld (follows.removes_dir m n path gone reached call)
      (λ u e. follows.trees n u (removes_dir m n path gone reached call) e))
    where
      by : (v u : World) → IfFound view lists writes c rules v path (Calls view lists writes c (taking_dir v.tree (resolved rules v.tree path.names)) m gone n v u) × IsWorld u
          → Steps (Emptied path ∷ works) works v u
      by v u h x may [] shadows left covers fit l kept = absurd shadows
      by v u h x may (Whole place dir ∷ others) shadows left covers fit l kept = absurd shadows.0
      by v u h x may (Emptied place ∷ others) shadows left covers fit l kept =
          let g = dir_goes x path place others left v shadows.0 covers fit l kept in
          taken_step x place.names g.more left works others v u shadows.1 g.cut g.goes_on (done_as _ place.names m n gone v u g.allowed ok (h.0 kept.apart g.unlinked)) h.1.tree g.covers fit.1 l kept

  or_right : (a b : Bool) → b ≡ true → (a || b) ≡ true
  or_right true b e = refl
  or_right false b e = e

  -- ---- a directory's members are read

  true_and : (a b : Bool) → a ≡ false → b ≡ true → (not a && b) ≡ true
  true_and true b e f = cc
  true_and false b e f = f

  front_of_whole : (x : Case) (path : WebPath) (works : List Work) (left : List Names) (v : World) → Covers (Whole path true ∷ works) left → Left x.top x.old v.tree left
      → In path.names left × (is_front x.top path.names ≡ true)
  front_of_whole x path works left v (whole, more, e, below, apart, i, covers) l =
      let j = subst (In path.names) (sym e) (in_left path.names whole more i) in (j, l.below path.names j)

  clear_dir : (x : Case) (path place : WebPath) (left : List Names) (v : World) → resolved rules v.tree path.names ≡ place.names → is_front x.top place.names ≡ true → Left x.top x.old v.tree left
      → is_clear v.tree (resolved rules v.tree path.names) ≡ true
  clear_dir x path place left v here front l =
      ap (is_clear v.tree) here
      ∙ true_and (is_linked v.tree place.names) (list_all (λ row. not (is_linked v.tree row.path)) (filter (stands_in place.names) v.tree)) (clear_at x left place.names v l front)
      (all_in (λ row. not (is_linked v.tree row.path)) (filter (stands_in place.names) v.tree)
      (λ r i. ap not (clear_at x left r.path v l (front_then x.top place.names r.path front (below r (in_filter (stands_in place.names) v.tree r i).1)))))
    where
      below : (r : Row) → stands_in place.names r ≡ true → is_front place.names r.path ≡ true
      below r e = (and_parts (length r.path == length place.names + 1) (is_front place.names r.path) e).1

  opened_step : (path : WebPath) (members : List Child) (works : List Work) (m n : S) → Here m → is_deep path ≡ false → HasMembers view lists m c path members n
      → ToldIn m n (Steps (Whole path true ∷ works) (works_in path members works))
  opened_step path members works m n reached shallow has =
      both_map (view.state m).told (view.state n).told _ _ (λ v u h x may others shadows left covers fit l kept. by v u h x may others shadows left covers fit l kept)
      (follows.members m n path members reached has)
    where
      by : (v u : World) → ListsBy view lists writes c rules path members v u → Steps (Whole path true ∷ works) (works_in path members works) v u
      by v u h x may [] shadows left covers fit l kept = absurd shadows
      by v u h x may (Whole place false ∷ others) shadows left covers fit l kept = absurd shadows.0
      by v u h x may (Emptied place ∷ others) shadows left covers fit l kept = absurd shadows.0
      by v u h x may (Whole place true ∷ others) (b, shadows) left covers fit l kept =
          let whole = front_of_whole x place others left v covers l in
          let here = found_at x path place v b kept (parts_of v.tree l.tree) (l.stands place.names whole.0) in
          let told = h.1 kept.apart (clear_dir x path place left v here whole.1 l) in
          let are : members ≡ children_in v.tree place.names path = told ∙ ap (λ at. children_in v.tree at path) here in
          let rows : List Row = in_order dir_first (filter (stands_in place.names) v.tree) in
          record {
            others = works_in place (children_in v.tree place.names place) others;
            shadows = subst (λ z. Shadows x (works_in path z works) (works_in place (children_in v.tree place.names place) others)) (sym are)
                (children_shadow x path place rows (Emptied path ∷ works) (Emptied place ∷ others) b (b, shadows));
            more = left;
            covers = opened_covers x.top x.old v.tree place left others l covers;
            fit = opened_fit x.top x.old v.tree left place others l (sym (same_deep x path place b) ∙ shallow) fit;
            now = left_same x.top x.old v.tree u.tree left h.0.tree l;
            kept = kept_same x v u h.0.tree kept;
            back = λ r t w k. comes_after view fields start r (acts rules x left) t v u w (none_filled x left) h.0 k;
          }

  -- ---- where it leads

  pub members_reached : (path : WebPath) (members : List Child) (m n : S) → Here m → HasMembers view lists m c path members n → Here n
  members_reached path members m n reached has = listed_on view lists writes c start m n path has.listed reached has.was

  -- the first of the work was done
  step_told : (work : Work) (works rest : List Work) (m n : S) → Here m → RemovesOne view lists c work works m (Ok tt) n rest → Here n × ToldIn m n (Steps (work ∷ works) rest)
  step_told (Whole path false) works rest m n reached (gone, call, ok, e) =
      (removes_file m n path gone reached call, subst (λ z. ToldIn m n (Steps (Whole path false ∷ works) z)) (sym e) (file_step path works m n gone reached call ok))
  step_told (Emptied path) works rest m n reached (gone, call, ok, e) =
      (removes_dir m n path gone reached call, subst (λ z. ToldIn m n (Steps (Emptied path ∷ works) z)) (sym e) (dir_step path works m n gone reached call ok))
  step_told (Whole path true) works rest m n reached (shallow, members, has, e) = (
    members_reached path members m n reached has,
    subst (λ z. ToldIn m n (Steps (Whole path true ∷ works) z)) (sym e) (opened_step path members works m n reached shallow has),
  )

  -- ---- a refusal

  -- a removal that is allowed fails only by a fault or want of memory, and leaves all as it was
  refused_comes : (allowed : Allowed) (p : Names) (x : Case) (left : List Names) (m t : S) (gone : Result Unit FsError) (e : DavError) (v w : World) → Here m → allowed ≡ Ok (Some (takes p))
      → Err e ≡ line_of gone → Calls view lists writes c allowed m gone t v w → Came (Err e) (acts rules x left) t v w
  refused_comes allowed p x left m t (Ok ok) e v w reached is line h = cc
  refused_comes allowed p x left m t (Err f) e v w reached is line (inl (called, same)) = absurd (subst (λ a. CallsFor a f) is called)
  refused_comes allowed p x left m t (Err f) e v w reached is line (inr (spoiled, part)) =
      let g : e ≡ of_fs f = cc in
      spoiled_comes view fields start f e (acts rules x left) m t v w g (follows.counts m reached) spoiled (part_none (acts rules x left) v w (kept (subst (λ a. LeftBy true a v w) is part)))
    where
      kept : LeftBy true (Ok (Some (takes p))) v w → SameBesidesOpens v w
      kept (inl same) = same
      kept (inr (part, never, edited)) = absurd never

  dir_there : (o : Option Row) (r : Row) → o ≡ Some r → is_dir r.kind ≡ true → is_dir_row o ≡ true
  dir_there o r e dir = ap is_dir_row e ∙ dir

  -- the next of the acts ends it
  stopped_comes : (x : Case) (p : Names) (more left : List Names) (e : DavError) (t : S) (v w : World) → left ≡ p ∷ more → stops_in rules x p ≡ true → status_of e ≡ 403 → closes e ≡ false → SameBesidesOpens v w
      → Came (Err e) (acts rules x left) t v w
  stopped_comes x p more left e t v w cut stops_at status close same =
      subst (λ z. Came (Err e) (acts rules x z) t v w) (sym cut) (rw stops_at (halted_comes view fields start e (line 403) (acts rules x more) t v w status close same))

  unread_comes : (path : WebPath) (works : List Work) (m t : S) (f : FsError) (e : DavError) → Here m → HasNoMembers view lists m c path f t → e ≡ of_fs f
      → ToldIn m t (Goes (Whole path true ∷ works) (Err e) t)
  unread_comes path works m t f e reached has is =
      both_map (view.state m).told (view.state t).told _ _ (λ v w h x may others shadows left covers fit l kept. by v w h x may others shadows left covers fit l kept)
      (follows.no_members m t path f reached has)
    where
      by : (v w : World) → FailsToList view lists writes c rules path m f t v w → Goes (Whole path true ∷ works) (Err e) t v w
      by v w h x may [] shadows left covers fit l kept = absurd shadows
      by v w h x may (Whole place false ∷ others) shadows left covers fit l kept = absurd shadows.0
      by v w h x may (Emptied place ∷ others) shadows left covers fit l kept = absurd shadows.0
      by v w h x may (Whole place true ∷ others) (b, shadows) left covers fit l kept =
          let whole = front_of_whole x place others left v covers l in
          let here = found_at x path place v b kept (parts_of v.tree l.tree) (l.stands place.names whole.0) in
          let now = stands_now x.top x.old v.tree left place.names true (parts_of x.old x.tree) l whole.0 fit.0.0 in
          let stands : has_dir v.tree place.names ≡ true = ap (has_dir v.tree) (sym now.at) ∙ dir_there _ now.row (at_row v.tree now.row (parts_of v.tree l.tree).once now.in_tree) now.kind in (
            spoiled_comes view fields start f e (acts rules x left) m t v w is (follows.counts m reached)
                (h.1 kept.apart (clear_dir x path place left v here whole.1 l) (ap (has_dir v.tree) here ∙ stands)) (part_none (acts rules x left) v w h.0),
            tt,
          )

  deep_comes : (x : Case) (path place : WebPath) (works : List Work) (left : List Names) (t : S) (v : World) → Beneath x path place → is_deep path ≡ true → Covers (Whole place true ∷ works) left
      → AllFit x.top x.old (Whole place true ∷ works) → Left x.top x.old v.tree left → Came (Err (dav.Status 403)) (acts rules x left) t v v
  deep_comes x path place works left t v b deep (whole, more, e, below, apart, i, covers) fit l =
      subst (λ z. Came (Err (dav.Status 403)) (acts rules x z) t v v) (sym e) (by whole below i (l.below place.names (subst (In place.names) (sym e) (in_left place.names whole more i))))
    where
      by : (seg : List Names) → ((p : Names) → In p seg → is_front place.names p ≡ true) → In place.names seg → is_front x.top place.names ≡ true
          → Came (Err (dav.Status 403)) (acts rules x (seg ++ more)) t v v
      by [] under j front = absurd j
      by (p ∷ seg) under j front =
          let is = whole_deep x.top x.old place p fit.0.0 front (sym (same_deep x path place b) ∙ deep) (under p (inl refl)) in
          stopped_comes x p (seg ++ more) (p ∷ seg ++ more) (dav.Status 403) t v v refl (or_right (keeps_row rules (row_at x.old p)) (deep_in x p) is) refl refl (same_besides v)

  file_stops : (path : WebPath) (works rest : List Work) (m t : S) (e : DavError) (gone : Result Unit FsError) → Here m → Err e ≡ line_of gone → (v w : World)
      → UnlessShut view lists writes c (is_forbidden rules path || has_slash rules.alone path) gone v w (IfFound view lists writes c rules v path
      (Calls view lists writes c (taking_file v.tree (resolved rules v.tree path.names)) m gone t v w)) → Goes (Whole path false ∷ works) (Err e) t v w
  file_stops path works rest m t e gone reached line v w h x may [] shadows left covers fit l kept = absurd shadows
  file_stops path works rest m t e gone reached line v w h x may (Whole place true ∷ others) shadows left covers fit l kept = absurd shadows.0
  file_stops path works rest m t e gone reached line v w h x may (Emptied place ∷ others) shadows left covers fit l kept = absurd shadows.0
  file_stops path works rest m t e gone reached line v w h x may (Whole place false ∷ others) shadows left covers fit l kept =
      let g = file_goes x path place others left v may shadows.0 covers fit l kept in (by g (keeps_row rules (row_at x.old place.names)) refl, tt)
    where
      by : FileGoes x path place others left v → (b : Bool) → keeps_row rules (row_at x.old place.names) ≡ b → Came (Err e) (acts rules x left) t v w
      by g true keeps =
          let (is, same) = h.refused (g.shut ∙ keeps) in
          let named : e ≡ of_fs fs.Forbidden = (let f : Err e ≡ line_of (Err fs.Forbidden) = line ∙ ap line_of is in cc) in
          subst (λ z. Came (Err z) (acts rules x left) t v w) (sym named)
          (stopped_comes x place.names g.more left (of_fs fs.Forbidden) t v w g.cut (ap (λ b. b || deep_in x place.names) keeps) refl refl same)
      by g false keeps = refused_comes _ place.names x left m t gone e v w reached g.allowed line (h.called (g.shut ∙ keeps) kept.apart g.unlinked)

  dir_stops : (path : WebPath) (works rest : List Work) (m t : S) (e : DavError) (gone : Result Unit FsError) → Here m → Err e ≡ line_of gone → (v w : World)
      → IfFound view lists writes c rules v path (Calls view lists writes c (taking_dir v.tree (resolved rules v.tree path.names)) m gone t v w) → Goes (Emptied path ∷ works) (Err e) t v w
  dir_stops path works rest m t e gone reached line v w h x may [] shadows left covers fit l kept = absurd shadows
  dir_stops path works rest m t e gone reached line v w h x may (Whole place dir ∷ others) shadows left covers fit l kept = absurd shadows.0
  dir_stops path works rest m t e gone reached line v w h x may (Emptied place ∷ others) shadows left covers fit l kept =
      let g = dir_goes x path place others left v shadows.0 covers fit l kept in
      (refused_comes _ place.names x left m t gone e v w reached g.allowed line (h kept.apart g.unlinked), tt)

  deep_stops : (path : WebPath) (works : List Work) (t : S) (e : DavError) → is_deep path ≡ true → e ≡ dav.Status 403 → (v : World) → Goes (Whole path true ∷ works) (Err e) t v v
  deep_stops path works t e deep is v x may [] shadows left covers fit l kept = absurd shadows
  deep_stops path works t e deep is v x may (Whole place false ∷ others) shadows left covers fit l kept = absurd shadows.0
  deep_stops path works t e deep is v x may (Emptied place ∷ others) shadows left covers fit l kept = absurd shadows.0
  deep_stops path works t e deep is v x may (Whole place true ∷ others) (b, shadows) left covers fit l kept =
      (subst (λ z. Came (Err z) (acts rules x left) t v v) (sym is) (deep_comes x path place others left t v b deep covers fit l), tt)

  stop_told : (work : Work) (works rest : List Work) (m t : S) (e : DavError) → Here m → RemovesOne view lists c work works m (Err e) t rest → ToldIn m t (Goes (work ∷ works) (Err e) t)
  stop_told (Whole path false) works rest m t e reached (gone, call, line, same) =
      both_map (view.state m).told (view.state t).told _ (Goes (Whole path false ∷ works) (Err e) t) (λ v w h. file_stops path works rest m t e gone reached line v w h)
      (follows.removes_file m t path gone reached call)
  stop_told (Emptied path) works rest m t e reached (gone, call, line, same) =
      both_map (view.state m).told (view.state t).told _ (Goes (Emptied path ∷ works) (Err e) t) (λ v w h. dir_stops path works rest m t e gone reached line v w h)
      (follows.removes_dir m t path gone reached call)
  stop_told (Whole path true) works rest m t e reached (inl (deep, is, same)) =
      both_same (view.state m).told (view.state t).told (Goes (Whole path true ∷ works) (Err e) t) (λ v. deep_stops path works t e deep is v) (ap (λ z. (view.state z).told) same)
  stop_told (Whole path true) works rest m t e reached (inr (inl (shallow, f, has, is))) = unread_comes path works m t f e reached has is
  stop_told (Whole path true) works rest m t e reached (inr (inr (shallow, members, has, is))) =
      both_map (view.state m).told (view.state t).told _ (Goes (Whole path true ∷ works) (Err e) t)
      (λ v w h x may others shadows left covers fit l kept. (subst (λ z. Came (Err z) (acts rules x left) t v w) (sym is) (short_comes view fields start (acts rules x left) t v w h.0), tt))
      (follows.members m t path members reached has)

  -- ---- all of the work

  done_comes : (x : Case) (left : List Names) (t : S) (v : World) → left ≡ [] → Left x.top x.old v.tree left → Came (Ok tt) (acts rules x left) t v v × Left x.top x.old v.tree []
  done_comes x left t v e l = (subst (λ z. Came (Ok tt) (acts rules x z) t v v) (sym e) (same_besides v), subst (Left x.top x.old v.tree) e l)

  none_left : (t : S) (v : World) → Goes [] (Ok tt) t v v
  none_left t v x may [] shadows left covers fit l kept = done_comes x left t v covers l
  none_left t v x may (other ∷ others) shadows left covers fit l kept = absurd shadows

  -- What work comes to is what the removals that it covers make of the told world.
  pub removed : (works : List Work) (s t : S) (r : Line) → Removes view lists c works s r t → Here s → ToldIn s t (Goes works r t)
  removed works s t r (no_work a) reached = both_same (view.state a).told (view.state a).told (Goes [] (Ok tt) a) (λ v. none_left a v) refl
  removed works s t r (cut_short others a) reached =
      both_same (view.state a).told (view.state a).told (Goes others (Err dav.NoMemory) a)
      (λ v x may shades shadows left covers fit l kept. (short_comes view fields start (acts rules x left) a v v (same_besides v), tt)) refl
  removed works s t r (goes work others rest a m b line one more) reached =
      let step = step_told work others rest a m reached one in
      both_then (view.state a).told (view.state m).told (view.state b).told _ _ (Goes (work ∷ others) line b)
      (λ v u w h k x may shades shadows left covers fit l kept.
      (let to = h x may shades shadows left covers fit l kept in let came = k x may to.others to.shadows to.more to.covers to.fit to.now to.kept in (to.back line b w came.0, came.1)))
      step.1 (removed rest m b line more step.0)
  removed works s t r (stops work others rest a b e one) reached = stop_told work others rest a b e reached one

  -- The store that is left where all was done was reached.
  pub gone_reached : (works : List Work) (s t : S) (r : Line) → Removes view lists c works s r t → r ≡ Ok tt → Here s → Here t
  gone_reached works s t r (no_work a) ok reached = reached
  gone_reached works s t r (cut_short others a) ok reached = cc
  gone_reached works s t r (goes work others rest a m b line one more) ok reached = gone_reached rest m b line more ok (step_told work others rest a m reached one).0
  gone_reached works s t r (stops work others rest a b e one) ok reached = cc

  -- What stands at a path and below it went, or was to go.
  pub removed_whole : (path : WebPath) (top : Names) (dir : Bool) (all : Line) (t : S) (v u w : World) (world : IsWorld v) (some : 0 < length top) (long : length path.names ≡ length top)
      (clear : is_linked v.tree top ≡ false) (below : has_link_below v.tree top ≡ false) → TellsApart rules v → resolved rules v.tree path.names ≡ top → StandsAs v.tree top dir → (dir ≡ false → path.slash ≡ false)
      → MayGo (began path top v world some long clear below) → SameBesidesOpens v u → Goes (Whole path dir ∷ []) all t u w
      → Came all (acts rules (began path top v world some long clear below) (walked v.tree top)) t v w × Ended all (began path top v world some long clear below) w
  removed_whole path top dir all t v u w world some long clear below apart here stood flat may same work_goes =
      let x = began path top v world some long clear below in
      let to_go = walked v.tree top in
      let own_path : In top to_go = walked_in v.tree top top (path_in top stood.row v.tree stood.in_tree stood.at) (front_itself top) in
      let place : WebPath = record path { names = top } in
      let covers : Covers (Whole place dir ∷ []) to_go = (to_go, [], sym (append-nil to_go), λ p i. (in_walked v.tree top p i).1, λ p i. absurd i, own_path, refl) in
      let fit : AllFit top v.tree (Whole place dir ∷ []) = ((stood, flat, inl refl), tt) in
      let left : Left top v.tree u.tree to_go = subst (λ rows. Left top v.tree rows to_go) (sym same.tree) (all_left top v world) in
      let came = work_goes x may (Whole place dir ∷ []) (own_shadow x dir, tt) to_go covers fit left
      (kept_same x v u same.tree (record { apart = apart; base = λ i. here })) in
      (comes_after view fields start all (acts rules x to_go) t v u w (none_filled x to_go) same came.0, came.1)
    where
      own : (x : Case) → x.asked ≡ path → x.top ≡ top → Beneath x path (record path { names = top })
      own x asks at = record {
        rest = [];
        asks = ap (λ (z : WebPath). z.names) (sym asks) ∙ sym (append-nil x.asked.names);
        is = ap (λ (z : Names). (let q : WebPath = record path { names = z } in q)) (sym at ∙ sym (append-nil x.top));
        first = λ e. sym asks;
      }

      own_shadow : (x : Case) (dir : Bool) → Shadow (began path top v world some long clear below) (Whole path dir) (Whole (record path { names = top }) dir)
      own_shadow x true = own (began path top v world some long clear below) refl refl
      own_shadow x false = own (began path top v world some long clear below) refl refl
