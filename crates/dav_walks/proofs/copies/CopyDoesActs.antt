-- Over a store that follows rules, what the work of a copy does to the told world is what the acts for the paths that it covers do,
-- in their order.
-- Headline: `copied`.
use Rattle.std.proofs.Common.{◌≡◌, ◌≤◌, ◌<◌, ◌⊎◌, ◌&&◌, ◌||◌, ◌==◌, ◌+◌, ◌++◌, ℕ, nat_lt, List, [], ◌∷◌, length, map, Bool, true, false, not, Option, None, Some, Result, Ok, Err, refl, sym, ap, subst, ◌∙◌, arith, inl, inr, length-append}
use Rattle.std.specs.List.{filter, list_all}
use Rattle.std.proofs.lemmas.Bool.{and_from, and_parts, cases_lt, false_from_ne_true}
use Rattle.dav_io.proofs.ToldLemmas.{both_map, both_same, both_then}
use Rattle.dav_core.specs.declared.dav_error.DavError.{DavError}
use Rattle.dav_core.specs.declared.dav_error.DavError.TheVariants as dav
use Rattle.dav_core.specs.declared.error.FsError.{FsError}
use Rattle.dav_core.specs.declared.error.FsError.TheVariants as fs
use Rattle.dav_core.specs.declared.tree.Kind.{Kind}
use Rattle.dav_core.specs.declared.tree.Kind.TheVariants.{Dir, File}
use Rattle.dav_core.specs.declared.tree.Row.{Row}
use Rattle.dav_core.specs.Allowed.{copying, making_dir}
use Rattle.dav_core.specs.DavPath.{WebPath}
use Rattle.dav_core.specs.Edits.{Edited, makes}
use Rattle.dav_core.specs.Listing.{stands_in}
use Rattle.dav_core.specs.Path.{Names, is_front, parent_of}
use Rattle.dav_core.specs.Statuses.{of_fs}
use Rattle.dav_core.specs.Tree.{has_dir, is_dir, is_dir_row, is_link, is_linked, row_at}
use Rattle.dav_core.specs.World.{IsWorld, SameBesidesOpens, World, bytes_of, bytes_or_none}
use Rattle.dav_core.proofs.UnchangedLemmas.{same_besides}
use Rattle.dav_core.proofs.Paths.{front_itself}
use Rattle.dav_core.proofs.Elements.{In, all_in, filter_in, in_filter}
use Rattle.dav_core.proofs.Rows.{dir_kind, other_kind}
use Rattle.dav_store.specs.View.{Listings, View}
use Rattle.dav_model.specs.CarryPlans.{bytes_in, path_below}
use Rattle.dav_model.specs.Conditions.{Fields}
use Rattle.dav_model.specs.Finding.{is_clear, is_forbidden, resolved}
use Rattle.dav_model.specs.Plans.{Act, does, halts, line, making}
use Rattle.dav_model.specs.Rules.{Knowledge, Rules}
use Rattle.dav_model.specs.Walks.{dir_first, in_order}
use Rattle.dav_model.proofs.JoiningLemmas.{part_none}
use Rattle.dav_walks.specs.declared.child.Child.{Child}
use Rattle.dav_walks.specs.declared.transfer.Transfer.{Transfer}
use Rattle.dav_walks.specs.Copying.{AfterMaking, Copies, CopiesBy, CopiesDir, Enters, goes, stops, transfers_in, done as no_work, short as cut_short}
use Rattle.dav_walks.specs.Follows.{Calls, Follows, IfBothFound, IfFound, ListsBy, Reached, Told, UnlessShut, child_of, children_in, copies, makes_dir}
use Rattle.dav_walks.specs.Lines.{Line}
use Rattle.dav_walks.specs.Pouring.{Writes}
use Rattle.dav_walks.specs.Reading.{HasMembers, HasNoMembers}
use Rattle.dav_walks.specs.Removing.{is_deep, line_of}
use Rattle.dav_walks.proofs.calls.ActsJoined.{Comes, comes_after, comes_behind, comes_more, halted_comes, short_comes, spoiled_comes}
use Rattle.dav_walks.proofs.trees.FoundBeneath.{found_below}
use Rattle.dav_walks.proofs.trees.OthersStay.{some_from, some_to}
use Rattle.dav_walks.proofs.calls.CallsDoActs.{call_comes, call_done}
use Rattle.dav_walks.proofs.copies.CopyPlaces.{Base, Kept, found_new, is_like, kept_made, kept_same}
use Rattle.dav_walks.proofs.copies.CopyCovers.{CoversAll, FitsAll, dest, dest_below, members_below, rows_cover, rows_fit, walks_of}
use Rattle.dav_walks.proofs.copies.CopyOrder.{not_above}
use Rattle.dav_walks.proofs.copies.WhileCopied.{Coming, HoldsRest, coming_made, coming_same, first_free, first_up, no_link_now, source_row}
use Rattle.dav_walks.proofs.trees.FreePlaces.{copying_free, making_free}
use Rattle.dav_walks.proofs.calls.ListingsLead.{listed_on}
use Rattle.dav_walks.proofs.removals.RemovalDoesActs.{all_left, both_with}
use Rattle.dav_walks.proofs.removals.RemovalsAllowed.{StandsAs, no_link_below, none_any, unlinked}
use Rattle.dav_walks.proofs.trees.TreeRows.{DirAt, any_none, at_row, front_length, front_parent, front_then, fronts_meet, not_both, parts_of}
use Rattle.dav_walks.proofs.removals.WorkCovers.{all_members, listed_members, members, walked}
use Rattle.dav_walks.proofs.copies.CopyAsked.{Judged, Shadow, Shadows, act_for, acts_at, any_shut, asks_at, below_is, children_shadow, copies_none, dir_bytes, dir_deep, dir_go, file_bytes, file_go, file_rest, file_shut, first_alone, first_any, first_dir, first_file}

module _ {S C F L E : Type 0} (view : View S C F) (lists : Listings S C L E) (writes : Writes F) (c : C) (rules : Rules) (fields : Fields) (start : S)
    (knows : Knowledge) (follows : Follows view lists writes c rules knows start) (alone : rules.alone ≡ None) (source into : WebPath) (bare : Bool) where
  abbrev pub Began : Type 0
  Began = Base rules source into

  abbrev Here : S → Type 0
  Here n = Reached view lists writes c start n

  abbrev ToldIn : S → S → (World → World → Type 0) → Type 0
  ToldIn m n P = Told view lists writes c m n P

  abbrev Came : Line → List Act → S → World → World → Type 0
  Came r all t u w = Comes view fields start r all t u w

  abbrev acts : Began → List Names → List Act
  acts b left = acts_at rules source into b left

  abbrev act : Began → Names → Act
  act b p = act_for rules source into b (row_at b.v.tree p)

  -- Work that is left covers what is to come.
  pub record Now (b : Base rules source into) (works : List Transfer) (u : World) (left : List Names) : Type 0 where
    pub others : List Transfer
    pub shadows : Shadows rules source into b works others
    pub covers : CoversAll bare b.v.tree others left
    pub fit : FitsAll b.from b.to b.v.tree others
    pub coming : Coming b.from b.to b.v u left
    pub kept : Kept rules alone source into b u left

  -- what work that is left comes to
  abbrev pub Goes : List Transfer → Line → S → World → World → Type 0
  Goes works r t u w = (b : Base rules source into) (left : List Names) → Now b works u left → Comes view fields start r (acts_at rules source into b left) t u w

  -- From work that covers what is to come a step leads to work that does.
  record Step (b : Began) (works : List Transfer) (left : List Names) (u k : World) : Type 0 where
    more : List Names
    now : Now b works k more
    back : (r : Line) (t : S) (w : World) → Came r (acts b more) t k w → Came r (acts b left) t u w

  abbrev Steps : List Transfer → List Transfer → World → World → Type 0
  Steps works rest u k = (b : Began) (left : List Names) → Now b works u left → Step b rest left u k

  -- ---- the first of the work, and its row

  record First (b : Began) (x : Transfer) (works : List Transfer) (u : World) (left : List Names) : Type 0 where
    y : Transfer
    others : List Transfer
    shadow : Shadow rules source into b x y
    shadows : Shadows rules source into b works others
    covers : CoversAll bare b.v.tree (y ∷ others) left
    stands : StandsAs b.v.tree y.from.names y.dir
    front : is_front b.from y.from.names ≡ true
    place : y.to.names ≡ dest b.from b.to y.from.names
    fit : FitsAll b.from b.to b.v.tree others
    coming : Coming b.from b.to b.v u left
    kept : Kept rules alone source into b u left

  first_of : (b : Began) (x : Transfer) (works : List Transfer) (u : World) (left : List Names) → Now b (x ∷ works) u left → First b x works u left
  first_of b x works u left n = by n.others n.shadows n.covers n.fit
    where
      by : (others : List Transfer) → Shadows rules source into b (x ∷ works) others → CoversAll bare b.v.tree others left → FitsAll b.from b.to b.v.tree others → First b x works u left
      by [] s covers fit = absurd s
      by (y ∷ others) (shadow, shadows) covers ((stands, front, place), fit) = record {
        y = y;
        others = others;
        shadow = shadow;
        shadows = shadows;
        covers = covers;
        stands = stands;
        front = front;
        place = place;
        fit = fit;
        coming = n.coming;
        kept = n.kept;
      }

  some_source : (b : Began) → 0 < length b.from
  some_source b = some_from b.from b.to b.apart

  some_place : (b : Began) (q : Names) → 0 < length (dest b.from b.to q)
  some_place b q = longer_than (some_to b.from b.to b.apart) (front_length b.to (dest b.from b.to q) (dest_below b.from b.to q))
    where
      longer_than : 0 < length b.to → length b.to ≤ length (dest b.from b.to q) → 0 < length (dest b.from b.to q)
      longer_than lt le = omega (arith, lt, le)

  module _ (b : Began) (x : Transfer) (works : List Transfer) (u : World) (left : List Names) (h : First b x works u left) where
    -- where its source stands, and where it goes
    abbrev at : Names
    at = h.y.from.names

    abbrev goal : Names
    goal = dest b.from b.to h.y.from.names

    names_from : h.y.from.names ≡ b.from ++ h.shadow.rest
    names_from = ap (λ (z : WebPath). z.names) h.shadow.at_from

    row_path : h.stands.row.path ≡ b.from ++ h.shadow.rest
    row_path = h.stands.at ∙ names_from

    row_dir : is_dir h.stands.row.kind ≡ x.dir
    row_dir = h.stands.kind ∙ h.shadow.dir

    asked_from : x.from ≡ path_below source b.from h.stands.row
    asked_from = h.shadow.asks_from ∙ (ap (asks_at source h.shadow.rest) (sym row_dir) ∙ sym (below_is source b.from h.shadow.rest h.stands.row row_path))

    asked_to : x.to ≡ path_below into b.from h.stands.row
    asked_to = h.shadow.asks_to ∙ (ap (asks_at into h.shadow.rest) (sym row_dir) ∙ sym (below_is into b.from h.shadow.rest h.stands.row row_path))

    goal_is : goal ≡ b.to ++ h.shadow.rest
    goal_is = sym h.place ∙ ap (λ (z : WebPath). z.names) h.shadow.at_to

    deep_is : nat_lt 65536 (length h.stands.row.path) ≡ is_deep x.from
    deep_is =
        ap (nat_lt 65536)
        (ap length row_path ∙ (length-append b.from h.shadow.rest ∙ (ap (λ n. n + length h.shadow.rest) (sym b.long)
        ∙ (sym (length-append source.names h.shadow.rest) ∙ ap (λ (z : WebPath). length z.names) (sym h.shadow.asks_from)))))

    judged : act b at ≡ Judged (is_dir h.stands.row.kind) (nat_lt 65536 (length h.stands.row.path)) (is_forbidden rules (path_below into b.from h.stands.row))
        (is_forbidden rules (path_below source b.from h.stands.row)) (halts (line 403)) (does (makes (dest b.from b.to h.stands.row.path) h.stands.row.kind (bytes_in b.v h.stands.row)))
    judged = ap (act_for rules source into b) (ap (row_at b.v.tree) (sym h.stands.at) ∙ at_row b.v.tree h.stands.row (parts_of b.v.tree b.world.tree).once h.stands.in_tree)

    to_is : (shut : Bool) → is_forbidden rules x.to ≡ shut → is_forbidden rules (path_below into b.from h.stands.row) ≡ shut
    to_is shut e = ap (is_forbidden rules) (sym asked_to) ∙ e

    either_is : (shut : Bool) → (is_forbidden rules x.from || is_forbidden rules x.to) ≡ shut → (is_forbidden rules (path_below source b.from h.stands.row) || is_forbidden rules (path_below into b.from h.stands.row)) ≡ shut
    either_is shut e =
        ap (λ (z : WebPath). is_forbidden rules z || is_forbidden rules (path_below into b.from h.stands.row)) (sym asked_from)
        ∙ (ap (λ (z : WebPath). is_forbidden rules x.from || is_forbidden rules z) (sym asked_to) ∙ e)

    -- ---- what is done for it

    dir_act : x.dir ≡ true → is_deep x.from ≡ false → is_forbidden rules x.to ≡ false → act b at ≡ does (makes goal Dir [])
    dir_act dir shallow open_at =
        judged
        ∙ (dir_go _ _ _ _ _ _ (row_dir ∙ dir) (deep_is ∙ shallow) (to_is false open_at)
        ∙ (ap (λ (z : Names). does (makes (dest b.from b.to z) h.stands.row.kind (bytes_in b.v h.stands.row))) h.stands.at
        ∙ (ap (λ kind. does (makes goal kind (bytes_in b.v h.stands.row))) (dir_kind h.stands.row.kind (row_dir ∙ dir))
        ∙ ap (λ bytes. does (makes goal Dir bytes)) (dir_bytes b.v h.stands.row (row_dir ∙ dir)))))

    deep_act : x.dir ≡ true → is_deep x.from ≡ true → act b at ≡ halts (line 403)
    deep_act dir deep = judged ∙ dir_deep _ _ _ _ _ _ (row_dir ∙ dir) (deep_is ∙ deep)

    shut_act : is_forbidden rules x.to ≡ true → act b at ≡ halts (line 403)
    shut_act shut =
        judged
        ∙ any_shut (is_dir h.stands.row.kind) (nat_lt 65536 (length h.stands.row.path)) (is_forbidden rules (path_below into b.from h.stands.row)) (is_forbidden rules (path_below source b.from h.stands.row)) (halts (line 403))
        (does (makes (dest b.from b.to h.stands.row.path) h.stands.row.kind (bytes_in b.v h.stands.row))) (to_is true shut)

    file_act : x.dir ≡ false → is_link h.stands.row.kind ≡ false → (is_forbidden rules x.from || is_forbidden rules x.to) ≡ false → act b at ≡ does (makes goal File (bytes_of b.v h.stands.row.number))
    file_act file link open_at =
        judged
        ∙ (file_go _ _ _ _ _ _ (row_dir ∙ file) (either_is false open_at)
        ∙ (ap (λ (z : Names). does (makes (dest b.from b.to z) h.stands.row.kind (bytes_in b.v h.stands.row))) h.stands.at
        ∙ (ap (λ kind. does (makes goal kind (bytes_in b.v h.stands.row))) (other_kind h.stands.row.kind (row_dir ∙ file) link)
        ∙ ap (λ bytes. does (makes goal File bytes)) (file_bytes b.v h.stands.row (row_dir ∙ file)))))

    shut_file_act : x.dir ≡ false → (is_forbidden rules x.from || is_forbidden rules x.to) ≡ true → act b at ≡ halts (line 403)
    shut_file_act file shut = judged ∙ file_shut _ _ _ _ _ _ (row_dir ∙ file) (either_is true shut)

    -- ---- where it is found

    below_source : is_front b.from h.stands.row.path ≡ true
    below_source = subst (λ z. is_front b.from z ≡ true) (sym h.stands.at) h.front

    -- in this world or in a later one
    source_at : (i : World) (rest_left : List Names) → Coming b.from b.to b.v i rest_left → Kept rules alone source into b i rest_left → resolved rules i.tree x.from.names ≡ at
    source_at i rest_left coming kept =
        ap (λ (z : WebPath). resolved rules i.tree z.names) h.shadow.asks_from
        ∙ (found_below rules alone i.tree (parts_of i.tree coming.world.tree) source.names b.from h.shadow.rest kept.source_found h.stands.row
        (source_row b.from b.to b.v i rest_left coming h.stands.row h.stands.in_tree below_source) row_path
        ∙ sym names_from)

    dest_at : (tail : List Names) → left ≡ at ∷ tail → resolved rules u.tree x.to.names ≡ goal
    dest_at tail cut =
        let coming = subst (Coming b.from b.to b.v u) cut h.coming in
        let kept = subst (Kept rules alone source into b u) cut h.kept in
        ap (λ (z : WebPath). resolved rules u.tree z.names) h.shadow.asks_to
        ∙ (found_new rules alone u.tree (parts_of u.tree h.coming.world.tree) h.kept.apart into.names b.to h.shadow.rest h.kept.into_found
        (subst (λ z. DirAt u.tree (parent_of z)) goal_is (first_up b.from b.to b.v u at tail (some_source b) coming))
        (λ r i. ap (λ z. is_like rules.folds z r.path) (sym goal_is) ∙ kept.lone at (inl refl) r i)
        ∙ sym goal_is)

  -- ---- what is known of the source, and where it goes

  clear_source : (b : Began) (u : World) (left : List Names) (q : Names) → Coming b.from b.to b.v u left → is_front b.from q ≡ true → is_linked u.tree q ≡ false
  clear_source b u left q now front =
      no_link_now b.from b.to b.v u left q now (unlinked b.from b.v.tree b.v.tree (walked b.v.tree b.from) q b.from_below b.from_clear (all_left b.from b.v b.world) front)

  clear_dest : (b : Began) (u : World) (left : List Names) (q : Names) → Coming b.from b.to b.v u left → is_front b.to q ≡ true → is_linked u.tree q ≡ false
  clear_dest b u left q now front =
      any_none (λ row. is_link row.kind && is_front row.path q) u.tree
      (λ r i. false_from_ne_true (is_link r.kind && is_front r.path q) (λ e. never r i (and_parts (is_link r.kind) (is_front r.path q) e) (is_front b.to r.path) refl))
    where
      on_way : (r : Row) → is_front r.path q ≡ true → is_front b.to r.path ≡ false → is_front r.path (parent_of b.to) ≡ true
      on_way r on other = by (cases_lt (length r.path) (length b.to))
        where
          by : (length r.path < length b.to) ⊎ (length b.to ≤ length r.path) → is_front r.path (parent_of b.to) ≡ true
          by (inl lt) =
              front_parent r.path b.to (fronts_meet r.path b.to q on front (omega (arith, lt)))
              (λ e. not_both (is_front b.to r.path) (subst (λ z. is_front b.to z ≡ true) (sym e) (front_itself b.to)) other)
          by (inr le) = not_both (is_front b.to r.path) (fronts_meet b.to r.path q front on le) other

      never : (r : Row) → In r u.tree → (is_link r.kind ≡ true) × (is_front r.path q ≡ true) → (a : Bool) → is_front b.to r.path ≡ a → ⊥
      never r i (link, on) true below = not_both (is_link r.kind) link (now.unlinked r i below)
      never r i (link, on) false other =
          let (o, j, here, kind) = now.beside.back r i other in
          not_both (is_link o.kind && is_front o.path (parent_of b.to))
          (and_from (is_link o.kind) (is_front o.path (parent_of b.to)) (ap is_link kind ∙ link) (subst (λ z. is_front z (parent_of b.to) ≡ true) (sym here) (on_way r on other)))
          (none_any (λ row. is_link row.kind && is_front row.path (parent_of b.to)) b.v.tree o b.up_clear j)

  -- ---- one path was made

  -- the first that is to come
  record Leads (b : Began) (tail left : List Names) (u k : World) : Type 0 where
    now : Coming b.from b.to b.v k tail
    kept : Kept rules alone source into b k tail
    back : (r : Line) (t : S) (w : World) → Came r (acts b tail) t k w → Came r (acts b left) t u w

  leads : (b : Began) (p : Names) (tail left : List Names) (u k : World) (kind : Kind) (bytes : List ℕ) → left ≡ p ∷ tail → act b p ≡ does (makes (dest b.from b.to p) kind bytes)
      → is_link kind ≡ false → HoldsRest p kind tail → Coming b.from b.to b.v u left → Kept rules alone source into b u left → Edited (makes (dest b.from b.to p) kind bytes) u k → IsWorld k
      → Leads b tail left u k
  leads b p tail left u k kind bytes cut is solid holds now kept edited world =
      let here = subst (Coming b.from b.to b.v u) cut now in
      record {
        now = coming_made b.from b.to b.v u k p kind bytes tail b.apart here solid holds edited world;
        kept = kept_made rules alone source into b u k p kind bytes tail now.world
            (source_row b.from b.to b.v u left now b.row b.in_tree (subst (λ z. is_front b.from z ≡ true) (sym b.at) (front_itself b.from))) here.come
            (λ q j e. not_above p q (here.ascends.0 q j) (subst (λ z. is_front z p ≡ true) e (front_itself p))) (some_source b) edited
            (subst (Kept rules alone source into b u) cut kept);
        back = λ r t w came. subst (λ z. Came r (acts b z) t u w) (sym cut)
            (subst (λ a. Came r (a ∷ acts b tail) t u w) (sym is) (comes_behind view fields start r (makes (dest b.from b.to p) kind bytes) (acts b tail) t u k w edited came));
      }

  -- the first act ends the request
  refused_first : (b : Began) (p : Names) (tail left : List Names) (u w : World) (e : DavError) (t : S) → left ≡ p ∷ tail → act b p ≡ halts (line 403) → Came (Err e) (halts (line 403) ∷ acts b tail) t u w
      → Came (Err e) (acts b left) t u w
  refused_first b p tail left u w e t cut is came =
      subst (λ z. Came (Err e) (acts b z) t u w) (sym cut) (subst (λ a. Came (Err e) (a ∷ acts b tail) t u w) (sym is) came)

  -- the call for the first path was refused
  refused_here : (b : Began) (u w : World) (p : Names) (tail left : List Names) (kind : Kind) (bytes : List ℕ) (e : DavError) (t : S) → left ≡ p ∷ tail
      → act b p ≡ does (makes (dest b.from b.to p) kind bytes) → Came (Err e) (does (makes (dest b.from b.to p) kind bytes) ∷ []) t u w → Came (Err e) (acts b left) t u w
  refused_here b u w p tail left kind bytes e t cut is came =
      subst (λ z. Came (Err e) (acts b z) t u w) (sym cut)
      (subst (λ a. Came (Err e) (a ∷ acts b tail) t u w) (sym is)
      (comes_more view fields start e (does (makes (dest b.from b.to p) kind bytes) ∷ []) (acts b tail) t u w came))

  -- ---- a directory

  abbrev Made : Transfer → Result Unit FsError → S → S → World → World → Type 0
  Made x made m k u w = UnlessShut view lists writes c (is_forbidden rules x.to) made u w
      (IfFound view lists writes c rules u x.to (Calls view lists writes c (making rules u x.to) m made k u w))

  record DirGoes (b : Began) (x : Transfer) (works : List Transfer) (u : World) (left : List Names) (h : First b x works u left) : Type 0 where
    allowed : making rules u x.to ≡ Ok (Some (makes (dest b.from b.to h.y.from.names) Dir []))
    clear : is_linked u.tree (resolved rules u.tree x.to.names) ≡ false

  dir_goes : (b : Began) (x : Transfer) (works : List Transfer) (tail left : List Names) (u : World) (h : First b x works u left) → left ≡ h.y.from.names ∷ tail → DirGoes b x works u left h
  dir_goes b x works tail left u h cut =
      let p = h.y.from.names in
      let here = subst (Coming b.from b.to b.v u) cut h.coming in
      let place = dest_at b x works u left h tail cut in
      record {
        allowed =
            ap (λ (z : Names). making_dir u.tree z) place
            ∙ making_free u.tree (dest b.from b.to p) (parts_of u.tree h.coming.world.tree) (some_place b p)
            (first_up b.from b.to b.v u p tail (some_source b) here) (first_free b.from b.to b.v u p tail here);
        clear = ap (is_linked u.tree) place ∙ clear_dest b u left (dest b.from b.to p) h.coming (dest_below b.from b.to p);
      }

  made_told : (m k : S) (x : Transfer) (made : Result Unit FsError) → Here m → view.makes_dir m c x.to made k → ToldIn m k (λ u w. Made x made m k u w × IsWorld w)
  made_told m k x made reached call =
      both_with (view.state m).told (view.state k).told _ IsWorld (follows.makes_dir m k x.to made reached call) (λ w e. follows.trees k w (makes_dir m k x.to made reached call) e)

  -- the directory was made
  dir_led : (b : Began) (x : Transfer) (works : List Transfer) (tail left : List Names) (m k : S) (y : Unit) (u w : World) (h : First b x works u left) → x.dir ≡ true → is_deep x.from ≡ false
      → left ≡ h.y.from.names ∷ tail → Made x (Ok y) m k u w → IsWorld w → Leads b tail left u w
  dir_led b x works tail left m k y u w h dir shallow cut calls world = by (is_forbidden rules x.to) refl
    where
      by : (shut : Bool) → is_forbidden rules x.to ≡ shut → Leads b tail left u w
      by true shut = let never : Ok y ≡ Err fs.Forbidden = (calls.refused shut).0 in cc
      by false open_at =
          let g = dir_goes b x works tail left u h cut in
          leads b h.y.from.names tail left u w Dir [] cut (dir_act b x works u left h dir shallow open_at) refl (inl refl) h.coming h.kept
          (call_done view lists writes c fields start (making rules u x.to) (makes (dest b.from b.to h.y.from.names) Dir []) m k y u w g.allowed (calls.called open_at h.kept.apart g.clear)) world

  -- ---- its members

  true_and : (a b : Bool) → a ≡ false → b ≡ true → (not a && b) ≡ true
  true_and true b e f = cc
  true_and false b e f = f

  clear_dir : (b : Began) (x : Transfer) (works : List Transfer) (u : World) (left : List Names) (h : First b x works u left) (i : World) (tail : List Names) → Coming b.from b.to b.v i tail
      → Kept rules alone source into b i tail → is_clear i.tree (resolved rules i.tree x.from.names) ≡ true
  clear_dir b x works u left h i tail now kept =
      ap (is_clear i.tree) (source_at b x works u left h i tail now kept)
      ∙ true_and (is_linked i.tree p) (list_all (λ row. not (is_linked i.tree row.path)) (filter (stands_in p) i.tree)) (clear_source b i tail p now h.front)
      (all_in (λ row. not (is_linked i.tree row.path)) (filter (stands_in p) i.tree)
      (λ r j. ap not (clear_source b i tail r.path now (front_then b.from p r.path h.front (inside r (in_filter (stands_in p) i.tree r j).1)))))
    where
      p : Names
      p = h.y.from.names

      inside : (r : Row) → stands_in h.y.from.names r ≡ true → is_front h.y.from.names r.path ≡ true
      inside r e = (and_parts (length r.path == length h.y.from.names + 1) (is_front h.y.from.names r.path) e).1

  -- they are those that the source has
  same_members : (b : Began) (x : Transfer) (works : List Transfer) (u : World) (left : List Names) (h : First b x works u left) (i : World) (tail : List Names) → Coming b.from b.to b.v i tail
      → Kept rules alone source into b i tail → children_in i.tree (resolved rules i.tree x.from.names) x.from ≡ map (child_of x.from) (members h.y.from.names b.v.tree)
  same_members b x works u left h i tail now kept =
      let p = h.y.from.names in
      ap (λ place. children_in i.tree place x.from) (source_at b x works u left h i tail now kept)
      ∙ (ap (λ rows. map (child_of x.from) (in_order dir_first rows))
      (sym (members_below b.from p i.tree h.front) ∙ (ap (filter (stands_in p)) now.beside.rows ∙ members_below b.from p b.v.tree h.front))
      ∙ ap (map (child_of x.from)) (listed_members p b.v.tree))

  -- a directory is made without its members
  alone_step : (x : Transfer) (works : List Transfer) (m k : S) (y : Unit) → Here m → x.dir ≡ true → is_deep x.from ≡ false → bare ≡ true → view.makes_dir m c x.to (Ok y) k
      → ToldIn m k (Steps (x ∷ works) works)
  alone_step x works m k y reached dir shallow own call =
      both_map (view.state m).told (view.state k).told _ _
      (λ u w made b left n.
      (let h = first_of b x works u left n in
      let (more, cut, rest) = first_alone b.v h.y h.others left (subst (λ a. CoversAll a b.v.tree (h.y ∷ h.others) left) own h.covers) in
      let led = dir_led b x works more left m k y u w h dir shallow cut made.0 made.1 in
      record {
        more = more;
        now = record { others = h.others; shadows = h.shadows; covers = subst (λ a. CoversAll a b.v.tree h.others more) (sym own) rest; fit = h.fit; coming = led.now; kept = led.kept };
        back = led.back;
      }))
      (made_told m k x (Ok y) reached call)

  -- a directory is made, and its members are read
  opened_step : (x : Transfer) (members_read : List Child) (works : List Transfer) (m k n : S) (y : Unit) → Here m → x.dir ≡ true → is_deep x.from ≡ false → bare ≡ false → view.makes_dir m c x.to (Ok y) k
      → HasMembers view lists k c x.from members_read n → ToldIn m n (Steps (x ∷ works) (transfers_in x.to members_read works))
  opened_step x members_read works m k n y reached dir shallow own call has =
      both_then (view.state m).told (view.state k).told (view.state n).told _ _ _
      (λ u i w made g b left now. entered_now u i w made g b left (first_of b x works u left now))
      (made_told m k x (Ok y) reached call)
      (both_with (view.state k).told (view.state n).told _ IsWorld (follows.members k n x.from members_read (makes_dir m k x.to (Ok y) reached call) has)
      (λ w e. follows.trees n w (listed_on view lists writes c start k n x.from has.listed (makes_dir m k x.to (Ok y) reached call) has.was) e))
    where
      entered_now : (u i w : World) → Made x (Ok y) m k u i × IsWorld i → ListsBy view lists writes c rules x.from members_read i w × IsWorld w → (b : Began) (left : List Names) → First b x works u left
          → Step b (transfers_in x.to members_read works) left u w
      entered_now u i w made g b left h =
          let parts = parts_of b.v.tree b.world.tree in
          let p = h.y.from.names in
          let stood : StandsAs b.v.tree p true = record { row = h.stands.row; in_tree = h.stands.in_tree; at = h.stands.at; kind = row_dir b x works u left h ∙ dir } in
          let (more, cut, rest) = first_dir b.v h.y h.others left parts stood (subst (λ a. CoversAll a b.v.tree (h.y ∷ h.others) left) own h.covers) in
          let tail = walks_of b.v.tree (members p b.v.tree) ++ more in
          let led = dir_led b x works tail left m k y u i h dir shallow cut made.0 made.1 in
          let are : members_read ≡ map (child_of x.from) (members p b.v.tree) =
          g.0.1 led.kept.apart (clear_dir b x works u left h i tail led.now led.kept) ∙ same_members b x works u left h i tail led.now led.kept in
          record {
            more = tail;
            now = record {
              others = transfers_in h.y.to (map (child_of h.y.from) (members p b.v.tree)) h.others;
              shadows = subst (λ z. Shadows rules source into b (transfers_in x.to z works) (transfers_in h.y.to (map (child_of h.y.from) (members p b.v.tree)) h.others)) (sym are)
                  (children_shadow rules source into b x h.y (members p b.v.tree) works h.others h.shadow h.shadows);
              covers = subst (λ a. CoversAll a b.v.tree (transfers_in h.y.to (map (child_of h.y.from) (members p b.v.tree)) h.others) tail) (sym own)
                  (rows_cover h.y.from h.y.to b.v.tree (members p b.v.tree) more h.others (all_members p b.v.tree) rest);
              fit = rows_fit b.from b.to h.y.from h.y.to b.v.tree (members p b.v.tree) h.others (all_members p b.v.tree) h.front h.place h.fit;
              coming = coming_same b.from b.to b.v i w tail g.0.0 g.1 led.now;
              kept = kept_same rules alone source into b i w tail g.0.0.tree led.kept;
            };
            back = λ r t z came. led.back r t z (comes_after view fields start r (acts b tail) t i w z (copies_none rules source into b tail) g.0.0 came);
          }

  -- ---- a file

  abbrev Copied : Transfer → Result Unit FsError → S → S → World → World → Type 0
  Copied x copied m n u w = UnlessShut view lists writes c (is_forbidden rules x.from || is_forbidden rules x.to) copied u w
      (IfBothFound view lists writes c rules u x.from x.to
      (Calls view lists writes c (copying u (resolved rules u.tree x.from.names) (resolved rules u.tree x.to.names)) m copied n u w))

  record FileGoes (b : Began) (x : Transfer) (works : List Transfer) (u : World) (left : List Names) (h : First b x works u left) : Type 0 where
    more : List Names
    bytes : List ℕ
    cut : left ≡ h.y.from.names ∷ more
    covers : CoversAll bare b.v.tree h.others more
    act : (is_forbidden rules x.from || is_forbidden rules x.to) ≡ false → act_for rules source into b (row_at b.v.tree h.y.from.names) ≡ does (makes (dest b.from b.to h.y.from.names) File bytes)
    allowed : copying u (resolved rules u.tree x.from.names) (resolved rules u.tree x.to.names) ≡ Ok (Some (makes (dest b.from b.to h.y.from.names) File bytes))
    clear_from : is_linked u.tree (resolved rules u.tree x.from.names) ≡ false
    clear_to : is_linked u.tree (resolved rules u.tree x.to.names) ≡ false
    rest : (q : Names) → In q more → parent_of q ≡ h.y.from.names → ⊥

  file_goes : (b : Began) (x : Transfer) (works : List Transfer) (left : List Names) (u : World) (h : First b x works u left) → x.dir ≡ false → FileGoes b x works u left h
  file_goes b x works left u h file =
      let parts = parts_of b.v.tree b.world.tree in
      let p = h.y.from.names in
      let row = h.stands.row in
      let stood : StandsAs b.v.tree p false = record { row = h.stands.row; in_tree = h.stands.in_tree; at = h.stands.at; kind = row_dir b x works u left h ∙ file } in
      let (more, cut, rest) = first_file bare b.v h.y h.others left parts stood h.covers in
      let here = subst (Coming b.from b.to b.v u) cut h.coming in
      let below = below_source b x works u left h in
      let link : is_link h.stands.row.kind ≡ false = false_from_ne_true (is_link h.stands.row.kind) (λ e. no_link_below b.v.tree b.from h.stands.row b.from_below h.stands.in_tree e below) in
      let bytes : bytes_of u h.stands.row.number ≡ bytes_of b.v h.stands.row.number =
      ap bytes_or_none (h.coming.beside.files h.stands.row (filter_in (λ row. is_front b.from row.path) b.v.tree h.stands.row below h.stands.in_tree)) in
      let found = source_at b x works u left h u left h.coming h.kept in
      let place = dest_at b x works u left h more cut in
      record {
        more = more;
        bytes = bytes_of b.v h.stands.row.number;
        cut = cut;
        covers = rest;
        act = λ open_at. file_act b x works u left h file link open_at;
        allowed =
            ap (λ q. copying u q (resolved rules u.tree x.to.names)) (found ∙ sym h.stands.at)
            ∙ (ap (copying u h.stands.row.path) place
            ∙ (copying_free u h.stands.row (dest b.from b.to p) (parts_of u.tree h.coming.world.tree) (source_row b.from b.to b.v u left h.coming h.stands.row h.stands.in_tree below) stood.kind (some_place b p)
            (first_up b.from b.to b.v u p more (some_source b) here) (first_free b.from b.to b.v u p more here)
            ∙ ap (λ z. Ok (Some (makes (dest b.from b.to p) File z))) bytes));
        clear_from = ap (is_linked u.tree) found ∙ clear_source b u left p h.coming h.front;
        clear_to = ap (is_linked u.tree) place ∙ clear_dest b u left (dest b.from b.to p) h.coming (dest_below b.from b.to p);
        rest = file_rest b.from b.to b.v u p more (some_source b) parts stood here;
      }

  -- what was copied
  done_copied : (b : Began) (x : Transfer) (works : List Transfer) (left : List Names) (u w : World) (h : First b x works u left) (g : FileGoes b x works u left h) (m n : S) (copied : Result Unit FsError)
      → Ok tt ≡ line_of copied → Copied x copied m n u w
      → ((is_forbidden rules x.from || is_forbidden rules x.to) ≡ false) × Edited (makes (dest b.from b.to h.y.from.names) File g.bytes) u w
  done_copied b x works left u w h g m n (Err f) ok calls = cc
  done_copied b x works left u w h g m n (Ok y) ok calls = by (is_forbidden rules x.from || is_forbidden rules x.to) refl
    where
      by : (shut : Bool) → (is_forbidden rules x.from || is_forbidden rules x.to) ≡ shut
          → ((is_forbidden rules x.from || is_forbidden rules x.to) ≡ false) × Edited (makes (dest b.from b.to h.y.from.names) File g.bytes) u w
      by true shut = let never : Ok y ≡ Err fs.Forbidden = (calls.refused shut).0 in cc
      by false open_at = (
        open_at,
        call_done view lists writes c fields start (copying u (resolved rules u.tree x.from.names) (resolved rules u.tree x.to.names)) (makes (dest b.from b.to h.y.from.names) File g.bytes) m n y u w g.allowed
            (calls.called open_at h.kept.apart g.clear_from g.clear_to),
      )

  file_step : (x : Transfer) (works : List Transfer) (m n : S) (copied : Result Unit FsError) → Here m → x.dir ≡ false → view.copies m c x.from x.to copied n → Ok tt ≡ line_of copied
      → ToldIn m n (Steps (x ∷ works) works)
  file_step x works m n copied reached file call ok =
      both_map (view.state m).told (view.state n).told _ _
      (λ u w made b left now.
      (let h = first_of b x works u left now in
      let g = file_goes b x works left u h file in
      let (open_at, edited) = done_copied b x works left u w h g m n copied ok made.0 in
      let led = leads b h.y.from.names g.more left u w File g.bytes g.cut (g.act open_at) refl (inr g.rest) h.coming h.kept edited made.1 in
      record {
        more = g.more;
        now = record { others = h.others; shadows = h.shadows; covers = g.covers; fit = h.fit; coming = led.now; kept = led.kept };
        back = led.back;
      }))
      (both_with (view.state m).told (view.state n).told _ IsWorld (follows.copies m n x.from x.to copied reached call) (λ w e. follows.trees n w (copies m n x.from x.to copied reached call) e))

  -- ---- one step

  entered : (a : Bool) (x : Transfer) (works rest : List Transfer) (m k n : S) (y : Unit) → Here m → x.dir ≡ true → is_deep x.from ≡ false → bare ≡ a → view.makes_dir m c x.to (Ok y) k
      → Enters view lists c bare a x works k (Ok tt) n rest → Here n × ToldIn m n (Steps (x ∷ works) rest)
  entered true x works rest m k n y reached dir shallow own call (same, ok, is) = (
    subst Here (sym same) (makes_dir m k x.to (Ok y) reached call),
    subst (λ z. ToldIn m z (Steps (x ∷ works) rest)) (sym same) (subst (λ z. ToldIn m k (Steps (x ∷ works) z)) (sym is) (alone_step x works m k y reached dir shallow own call)),
  )
  entered false x works rest m k n y reached dir shallow own call (members_read, has, is) = (
    listed_on view lists writes c start k n x.from has.listed (makes_dir m k x.to (Ok y) reached call) has.was,
    subst (λ z. ToldIn m n (Steps (x ∷ works) z)) (sym is) (opened_step x members_read works m k n y reached dir shallow own call has),
  )

  made_step : (made : Result Unit FsError) (x : Transfer) (works rest : List Transfer) (m k n : S) → Here m → x.dir ≡ true → is_deep x.from ≡ false → view.makes_dir m c x.to made k
      → AfterMaking view lists c bare made x works k (Ok tt) n rest → Here n × ToldIn m n (Steps (x ∷ works) rest)
  made_step (Ok y) x works rest m k n reached dir shallow call after = entered bare x works rest m k n y reached dir shallow refl call after
  made_step (Err f) x works rest m k n reached dir shallow call (same, is) = cc

  dir_step : (deep : Bool) (x : Transfer) (works rest : List Transfer) (m n : S) → Here m → x.dir ≡ true → is_deep x.from ≡ deep → CopiesDir view lists c bare deep x works m (Ok tt) n rest
      → Here n × ToldIn m n (Steps (x ∷ works) rest)
  dir_step true x works rest m n reached dir deep (same, is) = cc
  dir_step false x works rest m n reached dir shallow (made, k, call, after) = made_step made x works rest m k n reached dir shallow call after

  any_step : (d : Bool) (x : Transfer) (works rest : List Transfer) (m n : S) → Here m → x.dir ≡ d → CopiesBy view lists c bare d x works m (Ok tt) n rest → Here n × ToldIn m n (Steps (x ∷ works) rest)
  any_step true x works rest m n reached dir one = dir_step (is_deep x.from) x works rest m n reached dir refl one
  any_step false x works rest m n reached file (copied, call, ok, is) = (
    copies m n x.from x.to copied reached call,
    subst (λ z. ToldIn m n (Steps (x ∷ works) z)) (sym is) (file_step x works m n copied reached file call ok),
  )

  -- ---- a refusal

  -- the path behind which the rest is to come
  tail_of : (b : Began) (x : Transfer) (works : List Transfer) (u : World) (left : List Names) (h : First b x works u left) → (tail : List Names) × (left ≡ h.y.from.names ∷ tail)
  tail_of b x works u left h = first_any bare b.v h.y h.others left h.y.dir (parts_of b.v.tree b.world.tree) h.stands h.covers

  -- a name that clients of macOS may not use
  shut_stop : (b : Began) (p : Names) (tail left : List Names) (u w : World) (f : FsError) (t : S) → left ≡ p ∷ tail → act b p ≡ halts (line 403) → ◌≡◌ {A = Result Unit FsError} (Err f) (Err fs.Forbidden) → SameBesidesOpens u w
      → Came (Err (of_fs f)) (acts b left) t u w
  shut_stop b p tail left u w f t cut is refused same =
      let own : fs.Forbidden ≡ f = cc in
      subst (λ z. Came (Err (of_fs z)) (acts b left) t u w) own
      (refused_first b p tail left u w (of_fs fs.Forbidden) t cut is (halted_comes view fields start (of_fs fs.Forbidden) (line 403) (acts b tail) t u w refl refl same))

  deep_stop : (b : Began) (x : Transfer) (works : List Transfer) (t : S) (u : World) (left : List Names) → x.dir ≡ true → is_deep x.from ≡ true → Now b (x ∷ works) u left
      → Came (Err (dav.Status 403)) (acts b left) t u u
  deep_stop b x works t u left dir deep now =
      let h = first_of b x works u left now in
      let (tail, cut) = tail_of b x works u left h in
      refused_first b h.y.from.names tail left u u (dav.Status 403) t cut (deep_act b x works u left h dir deep)
      (halted_comes view fields start (dav.Status 403) (line 403) (acts b tail) t u u refl refl (same_besides u))

  unmade_stop : (f : FsError) (x : Transfer) (works : List Transfer) (m k : S) → Here m → x.dir ≡ true → is_deep x.from ≡ false → view.makes_dir m c x.to (Err f) k → ToldIn m k (Goes (x ∷ works) (Err (of_fs f)) k)
  unmade_stop f x works m k reached dir shallow call =
      both_map (view.state m).told (view.state k).told _ _ (λ u w made b left now. by u w made.0 b left (first_of b x works u left now) (is_forbidden rules x.to) refl) (made_told m k x (Err f) reached call)
    where
      by : (u w : World) → Made x (Err f) m k u w → (b : Began) (left : List Names) (h : First b x works u left) (shut : Bool) → is_forbidden rules x.to ≡ shut → Came (Err (of_fs f)) (acts b left) k u w
      by u w calls b left h true shut =
          let (tail, cut) = tail_of b x works u left h in
          let (refused, same) = calls.refused shut in
          shut_stop b h.y.from.names tail left u w f k cut (shut_act b x works u left h shut) refused same
      by u w calls b left h false open_at =
          let (tail, cut) = tail_of b x works u left h in
          let g = dir_goes b x works tail left u h cut in
          refused_here b u w h.y.from.names tail left Dir [] (of_fs f) k cut (dir_act b x works u left h dir shallow open_at)
          (call_comes view lists writes c fields start (making rules u x.to) (makes (dest b.from b.to h.y.from.names) Dir []) m k (Err f) u w g.allowed (follows.counts m reached)
          (calls.called open_at h.kept.apart g.clear))

  dir_there : (o : Option Row) (r : Row) → o ≡ Some r → is_dir r.kind ≡ true → is_dir_row o ≡ true
  dir_there o r e dir = ap is_dir_row e ∙ dir

  source_dir : (b : Began) (x : Transfer) (works : List Transfer) (u : World) (left : List Names) (h : First b x works u left) (i : World) (tail : List Names) → Coming b.from b.to b.v i tail
      → Kept rules alone source into b i tail → x.dir ≡ true → has_dir i.tree (resolved rules i.tree x.from.names) ≡ true
  source_dir b x works u left h i tail now kept dir =
      ap (has_dir i.tree) (source_at b x works u left h i tail now kept ∙ sym h.stands.at)
      ∙ dir_there (row_at i.tree h.stands.row.path) h.stands.row
      (at_row i.tree h.stands.row (parts_of i.tree now.world.tree).once (source_row b.from b.to b.v i tail now h.stands.row h.stands.in_tree (below_source b x works u left h))) (row_dir b x works u left h ∙ dir)

  -- its members weren't read
  unread_stop : (f : FsError) (x : Transfer) (works : List Transfer) (m k t : S) (y : Unit) → Here m → x.dir ≡ true → is_deep x.from ≡ false → view.makes_dir m c x.to (Ok y) k
      → HasNoMembers view lists k c x.from f t → ToldIn m t (Goes (x ∷ works) (Err (of_fs f)) t)
  unread_stop f x works m k t y reached dir shallow call has =
      both_then (view.state m).told (view.state k).told (view.state t).told _ _ _
      (λ u i w made g b left now.
      (let h = first_of b x works u left now in
      let (tail, cut) = tail_of b x works u left h in
      let led = dir_led b x works tail left m k y u i h dir shallow cut made.0 made.1 in
      led.back (Err (of_fs f)) t w
      (spoiled_comes view fields start f (of_fs f) (acts b tail) k t i w refl (follows.counts k (makes_dir m k x.to (Ok y) reached call))
      (g.1 led.kept.apart (clear_dir b x works u left h i tail led.now led.kept) (source_dir b x works u left h i tail led.now led.kept dir)) (part_none (acts b tail) i w g.0))))
      (made_told m k x (Ok y) reached call) (follows.no_members k t x.from f (makes_dir m k x.to (Ok y) reached call) has)

  -- no memory was left for them
  short_stop : (x : Transfer) (members_read : List Child) (works : List Transfer) (m k t : S) (y : Unit) → Here m → x.dir ≡ true → is_deep x.from ≡ false → view.makes_dir m c x.to (Ok y) k
      → HasMembers view lists k c x.from members_read t → ToldIn m t (Goes (x ∷ works) (Err dav.NoMemory) t)
  short_stop x members_read works m k t y reached dir shallow call has =
      both_then (view.state m).told (view.state k).told (view.state t).told _ _ _
      (λ u i w made g b left now.
      (let h = first_of b x works u left now in
      let (tail, cut) = tail_of b x works u left h in
      let led = dir_led b x works tail left m k y u i h dir shallow cut made.0 made.1 in
      led.back (Err dav.NoMemory) t w (short_comes view fields start (acts b tail) t i w g.0)))
      (made_told m k x (Ok y) reached call) (follows.members k t x.from members_read (makes_dir m k x.to (Ok y) reached call) has)

  entered_stop : (a : Bool) (x : Transfer) (works rest : List Transfer) (m k t : S) (y : Unit) (e : DavError) → Here m → x.dir ≡ true → is_deep x.from ≡ false → view.makes_dir m c x.to (Ok y) k
      → Enters view lists c bare a x works k (Err e) t rest → ToldIn m t (Goes (x ∷ works) (Err e) t)
  entered_stop true x works rest m k t y e reached dir shallow call (same, never, is) = cc
  entered_stop false x works rest m k t y e reached dir shallow call (inl (f, has, is)) =
      subst (λ z. ToldIn m t (Goes (x ∷ works) (Err z) t)) (sym is) (unread_stop f x works m k t y reached dir shallow call has)
  entered_stop false x works rest m k t y e reached dir shallow call (inr (members_read, has, is)) =
      subst (λ z. ToldIn m t (Goes (x ∷ works) (Err z) t)) (sym is) (short_stop x members_read works m k t y reached dir shallow call has)

  made_stop : (made : Result Unit FsError) (x : Transfer) (works rest : List Transfer) (m k t : S) (e : DavError) → Here m → x.dir ≡ true → is_deep x.from ≡ false → view.makes_dir m c x.to made k
      → AfterMaking view lists c bare made x works k (Err e) t rest → ToldIn m t (Goes (x ∷ works) (Err e) t)
  made_stop (Ok y) x works rest m k t e reached dir shallow call after = entered_stop bare x works rest m k t y e reached dir shallow call after
  made_stop (Err f) x works rest m k t e reached dir shallow call (same, is) =
      let own : e ≡ of_fs f = cc in
      subst (λ z. ToldIn m z (Goes (x ∷ works) (Err e) z)) (sym same) (subst (λ z. ToldIn m k (Goes (x ∷ works) (Err z) k)) (sym own) (unmade_stop f x works m k reached dir shallow call))

  dir_stop : (deep : Bool) (x : Transfer) (works rest : List Transfer) (m t : S) (e : DavError) → Here m → x.dir ≡ true → is_deep x.from ≡ deep → CopiesDir view lists c bare deep x works m (Err e) t rest
      → ToldIn m t (Goes (x ∷ works) (Err e) t)
  dir_stop true x works rest m t e reached dir deep (same, is) =
      let own : e ≡ dav.Status 403 = cc in
      both_same (view.state m).told (view.state t).told _
      (λ u b left now. subst (λ z. Came (Err z) (acts b left) t u u) (sym own) (deep_stop b x works t u left dir deep now))
      (ap (λ z. (view.state z).told) same)
  dir_stop false x works rest m t e reached dir shallow (made, k, call, after) = made_stop made x works rest m k t e reached dir shallow call after

  -- a file wasn't copied
  file_stop : (x : Transfer) (works : List Transfer) (m t : S) (copied : Result Unit FsError) (e : DavError) → Here m → x.dir ≡ false → view.copies m c x.from x.to copied t → Err e ≡ line_of copied
      → ToldIn m t (Goes (x ∷ works) (Err e) t)
  file_stop x works m t (Ok y) e reached file call said = cc
  file_stop x works m t (Err f) e reached file call said =
      let own : e ≡ of_fs f = cc in
      subst (λ z. ToldIn m t (Goes (x ∷ works) (Err z) t)) (sym own)
      (both_map (view.state m).told (view.state t).told _ _
      (λ u w calls b left now. by u w calls b left (first_of b x works u left now) (is_forbidden rules x.from || is_forbidden rules x.to) refl) (follows.copies m t x.from x.to (Err f) reached call))
    where
      by : (u w : World) → Copied x (Err f) m t u w → (b : Began) (left : List Names) (h : First b x works u left) (shut : Bool) → (is_forbidden rules x.from || is_forbidden rules x.to) ≡ shut
          → Came (Err (of_fs f)) (acts b left) t u w
      by u w calls b left h true shut =
          let (tail, cut) = tail_of b x works u left h in
          let (refused, same) = calls.refused shut in
          shut_stop b h.y.from.names tail left u w f t cut (shut_file_act b x works u left h file shut) refused same
      by u w calls b left h false open_at =
          let g = file_goes b x works left u h file in
          refused_here b u w h.y.from.names g.more left File g.bytes (of_fs f) t g.cut (g.act open_at)
          (call_comes view lists writes c fields start (copying u (resolved rules u.tree x.from.names) (resolved rules u.tree x.to.names)) (makes (dest b.from b.to h.y.from.names) File g.bytes) m t (Err f) u w g.allowed
          (follows.counts m reached) (calls.called open_at h.kept.apart g.clear_from g.clear_to))

  any_stop : (d : Bool) (x : Transfer) (works rest : List Transfer) (m t : S) (e : DavError) → Here m → x.dir ≡ d → CopiesBy view lists c bare d x works m (Err e) t rest → ToldIn m t (Goes (x ∷ works) (Err e) t)
  any_stop true x works rest m t e reached dir one = dir_stop (is_deep x.from) x works rest m t e reached dir refl one
  any_stop false x works rest m t e reached file (copied, call, said, is) = file_stop x works m t copied e reached file call said

  -- ---- all of the work

  -- what is left covers nothing
  done_comes : (t : S) (b : Began) (u : World) (left : List Names) → Now b [] u left → Came (Ok tt) (acts b left) t u u
  done_comes t b u left now = by now.others now.shadows now.covers
    where
      by : (others : List Transfer) → Shadows rules source into b [] others → CoversAll bare b.v.tree others left → Came (Ok tt) (acts b left) t u u
      by [] s e = subst (λ z. Came (Ok tt) (acts b z) t u u) (sym e) (same_besides u)
      by (y ∷ others) s e = absurd s

  -- What work comes to is what the acts for the paths that it covers make of the told world.
  pub copied : (works : List Transfer) (s t : S) (r : Line) → Copies view lists c bare works s r t → Reached view lists writes c start s → Told view lists writes c s t (Goes works r t)
  copied works s t r (no_work a) reached = both_same (view.state a).told (view.state a).told _ (λ u b left now. done_comes a b u left now) refl
  copied works s t r (cut_short others a) reached =
      both_same (view.state a).told (view.state a).told _ (λ u b left now. short_comes view fields start (acts b left) a u u (same_besides u)) refl
  copied works s t r (goes x others rest a m z line one more) reached =
      let step = any_step x.dir x others rest a m reached refl one in
      both_then (view.state a).told (view.state m).told (view.state z).told _ _ _
      (λ u i w h k b left now. (let to_next = h b left now in to_next.back line z w (k b to_next.more to_next.now)))
      step.1 (copied rest m z line more step.0)
  copied works s t r (stops x others rest a z e one) reached = any_stop x.dir x others rest a z e reached refl one
