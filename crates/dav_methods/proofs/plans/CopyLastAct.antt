-- The last act of a COPY: what stands at the source is made again where nothing stands, row by row.
-- Headline: `copies_right`.
use Rattle.std.proofs.Common.{◌≡◌, ◌<◌, ◌⊎◌, ◌&&◌, ◌||◌, ℕ, nat_lt, is_some, arith, Option, Some, List, [], ◌∷◌, length, map, Bool, true, false, not, cond, None, Result, Ok, Err, refl, sym, ap, subst, ◌∙◌, inl, inr, append-nil}
use Rattle.std.proofs.lemmas.Bool.{false_from_ne_true as false_or}
use Rattle.std.specs.List.{filter}
use Rattle.dav_io.proofs.ToldLemmas.{both_map, both_same}
use Rattle.dav_core.specs.declared.dav_error.DavError.TheVariants as dav
use Rattle.dav_core.specs.declared.error.FsError.{FsError}
use Rattle.dav_core.specs.declared.error.FsError.TheVariants as fs
use Rattle.dav_core.specs.declared.tree.Row.{Row}
use Rattle.dav_core.specs.declared.handle.DiskError.TheVariants.{Exists}
use Rattle.dav_core.specs.Allowed.{copying, making_dir, place}
use Rattle.dav_core.specs.Changes.{without}
use Rattle.dav_core.specs.DavPath.{WebPath}
use Rattle.dav_core.specs.Edits.{makes}
use Rattle.dav_core.specs.Info.{Info}
use Rattle.dav_core.specs.Path.{Names, is_front, parent_of, same_names}
use Rattle.dav_core.specs.Statuses.{of_fs}
use Rattle.dav_core.specs.Tree.{is_dir, is_linked, row_at}
use Rattle.dav_core.specs.World.{Holds, IsWorld, SameBesidesOpens, World, bytes_of, bytes_or_none, is_numbered}
use Rattle.dav_core.proofs.UnchangedLemmas.{same_besides}
use Rattle.dav_core.proofs.Paths.{front_itself, names_equal as same_of, names_same as same_yes, parent_length}
use Rattle.dav_core.proofs.Elements.{In, filter_in, in_filter}
use Rattle.dav_core.proofs.Rows.{numbered_in, row_at_in}
use Rattle.dav_store.specs.View.{Listings, View}
use Rattle.dav_model.specs.declared.asked.Asked.{Asked}
use Rattle.dav_model.specs.CarryPlans.{act_of, bytes_in, carrying, cleared, copied_rows, copy_act, copy_acts, denies_copy, fill_acts, hides, made_by, path_below}
use Rattle.dav_model.specs.Finding.{is_forbidden, is_localized, is_virtual, resolved}
use Rattle.dav_model.specs.Head.{Stood}
use Rattle.dav_model.specs.Plans.{Act, does, halts, is_deep_dir, is_dir_found, is_found, line, stands, unless, when}
use Rattle.dav_model.specs.Rules.{Rules}
use Rattle.dav_model.specs.Valid.{TellsApart, no_twins}
use Rattle.dav_model.specs.Walks.{dir_first, in_order}
use Rattle.dav_walks.specs.declared.transfer.Transfer.{Transfer}
use Rattle.dav_methods.specs.Carrying.{transfer}
use Rattle.dav_walks.specs.Copying.{Copies, CopiesBy, goes, stops, done as no_work, short as cut_short}
use Rattle.dav_walks.specs.Follows.{Reached, Told}
use Rattle.dav_walks.specs.Lines.{Line}
use Rattle.dav_methods.specs.Lines.{is_dir_there}
use Rattle.dav_walks.specs.Pouring.{Writes}
use Rattle.dav_walks.specs.Removing.{is_deep, line_of}
use Rattle.dav_walks.proofs.calls.ActsJoined.{Comes, FillsNone, comes_after, halted_comes, short_comes}
use Rattle.dav_walks.proofs.trees.OthersStay.{Beside, beside_same, front_up, rows_below, some_from, some_to}
use Rattle.dav_methods.proofs.plans.CarryClears.{and_no, Carry, Cleared, Ends, GoesRight, Prepares, Vacant}
use Rattle.dav_walks.proofs.copies.CopyCovers.{dest, dest_below, dest_from, walk_of, whole_of}
use Rattle.dav_walks.proofs.copies.CopyIntoHidden.{Fills, Over, Stands, copy_over, filled, make_over, over_comes}
use Rattle.dav_walks.proofs.copies.CopyOrder.{dir_order}
use Rattle.dav_walks.proofs.copies.CopyPlaces.{Base, kept_first}
use Rattle.dav_methods.proofs.plans.CopyBegins.{begun, free_where}
use Rattle.dav_walks.proofs.copies.CopyAsked.{act_for, acts_at, copies_none}
use Rattle.dav_walks.proofs.copies.CopyDoesActs.{Goes, Now, copied}
use Rattle.dav_walks.proofs.copies.WhileCopied.{Coming, shorter}
use Rattle.dav_methods.proofs.plans.DeleteFollows.{Found, virtual_file}
use Rattle.dav_walks.proofs.trees.FreePlaces.{Free, row_place}
use Rattle.dav_methods.proofs.plans.MoveLastAct.{into_now, source_of}
use Rattle.dav_walks.proofs.trees.PlaceCleared.{Lacks, apart_places, lacks_beside, lacks_without, place_length}
use Rattle.dav_walks.proofs.trees.TreeRows.{DirAt, Parts, above, at_row, filter_once, front_parent, front_then, not_both, parts_of}
use Rattle.dav_walks.proofs.removals.RemovalOrder.{Ascends, Once, from_order, in_paths, path_in, paths}
use Rattle.dav_walks.proofs.removals.WorkCovers.{in_walked_by, walked_by_ascends, walked_in_by}

-- ---- the rows that are copied

-- a list of one path
one_path : (p : Names) (rows : List Row) → Once (paths rows) → ((r : Row) → In r rows → r.path ≡ p) → In p (paths rows) → paths rows ≡ p ∷ []
one_path p [] once all i = absurd i
one_path p (r ∷ []) once all i = ap (λ q. q ∷ []) (all r (inl refl))
one_path p (r ∷ s ∷ rows) once all i = absurd (once.0 (inl (all r (inl refl) ∙ sym (all s (inr (inl refl))))))

copied_paths : (alone : Bool) (at : Names) (v : World) (row : Row) → Parts v.tree → In row v.tree → row.path ≡ at → paths (copied_rows alone at v.tree) ≡ whole_of alone v.tree at
copied_paths true at v row parts i is =
    one_path at (filter (λ r. same_names at r.path) v.tree) (filter_once (λ r. same_names at r.path) v.tree parts.once)
    (λ r j. sym (same_yes at r.path (in_filter (λ r. same_names at r.path) v.tree r j).1))
    (path_in at row (filter (λ r. same_names at r.path) v.tree) (filter_in (λ r. same_names at r.path) v.tree row (same_of at row.path (sym is)) i) is)
copied_paths false at v row parts i is = refl

-- each stands at the place or below it
copied_stand : (alone : Bool) (at : Names) (v : World) (r : Row) → In r (copied_rows alone at v.tree) → In r v.tree × (is_front at r.path ≡ true)
copied_stand true at v r i =
    let (j, same) = in_filter (λ r. same_names at r.path) v.tree r i in
    (j, subst (λ z. is_front at z ≡ true) (same_yes at r.path same) (front_itself at))
copied_stand false at v r i = in_filter (λ row. is_front at row.path) v.tree r (from_order dir_first r (filter (λ row. is_front at row.path) v.tree) i)

only_below : (at : Names) (rows : List Row) → filter (λ r. same_names at r.path) (rows_below at rows) ≡ filter (λ r. same_names at r.path) rows
only_below at [] = refl
only_below at (r ∷ rows) = by (is_front at r.path) refl (only_below at rows)
  where
    by : (b : Bool) → is_front at r.path ≡ b → filter (λ r. same_names at r.path) (rows_below at rows) ≡ filter (λ r. same_names at r.path) rows
        → filter (λ r. same_names at r.path) (rows_below at (r ∷ rows)) ≡ filter (λ r. same_names at r.path) (r ∷ rows)
    by true e rest = rw e (ap (λ z. cond (same_names at r.path) (r ∷ z) z) rest)
    by false e rest =
        let other : same_names at r.path ≡ false = false_or (same_names at r.path) (λ f. not_both (is_front at r.path) (subst (λ z. is_front at z ≡ true) (same_yes at r.path f) (front_itself at)) e) in
        rw e (rest ∙ sym (ap (λ b. cond b (r ∷ filter (λ r. same_names at r.path) rows) (filter (λ r. same_names at r.path) rows)) other))

-- They are the same where the rows there are.
same_rows : (alone : Bool) (at : Names) (v u : World) → rows_below at u.tree ≡ rows_below at v.tree → copied_rows alone at v.tree ≡ copied_rows alone at u.tree
same_rows true at v u same = sym (only_below at v.tree) ∙ (ap (filter (λ (r : Row). same_names at r.path)) (sym same) ∙ only_below at u.tree)
same_rows false at v u same = ap (in_order dir_first) (sym same)

-- ---- what is to come at first

whole_below : (alone : Bool) (v : World) (at p : Names) (row : Row) → In row v.tree → row.path ≡ at → In p (whole_of alone v.tree at) → In p (paths v.tree) × (is_front at p ≡ true)
whole_below true v at p row i is (inl e) = (path_in p row v.tree i (is ∙ sym e), subst (λ z. is_front at z ≡ true) (sym e) (front_itself at))
whole_below true v at p row i is (inr never) = absurd never
whole_below false v at p row i is j = in_walked_by dir_first v.tree at p j

whole_ascends : (alone : Bool) (v : World) (at : Names) → Parts v.tree → Ascends dir_first (whole_of alone v.tree at)
whole_ascends true v at parts = (λ q i. absurd i, tt)
whole_ascends false v at parts = walked_by_ascends dir_first dir_order v.tree at parts.once

-- the directory of a path that is copied
whole_up : (alone : Bool) (v : World) (at p : Names) → 0 < length at → Parts v.tree → In p (whole_of alone v.tree at) → (at ≡ p) ⊎ In (parent_of p) (whole_of alone v.tree at)
whole_up true v at p some parts (inl e) = inl (sym e)
whole_up true v at p some parts (inr never) = absurd never
whole_up false v at p some parts i = by (same_names at p) refl (in_walked_by dir_first v.tree at p i)
  where
    by : (b : Bool) → same_names at p ≡ b → In p (paths v.tree) × (is_front at p ≡ true) → (at ≡ p) ⊎ In (parent_of p) (walk_of v.tree at)
    by true same (j, front) = inl (same_yes at p same)
    by false other (j, front) =
        let (r, k, here) = in_paths p v.tree j in
        let up : is_front at (parent_of p) ≡ true = front_parent at p front (λ e. not_both (same_names at p) (same_of at p e) other) in
        let d = above v.tree r (parent_of p) parts k (subst (λ z. is_front (parent_of p) z ≡ true) (sym here) (front_up p)) (λ e. shorter at p some front (e ∙ here)) in
        inr (walked_in_by dir_first v.tree at (parent_of p) (path_in (parent_of p) d.row v.tree d.in_tree d.at) up)

coming_first : (rules : Rules) (path to : WebPath) (bare : Bool) (b : Base rules path to) → Coming b.from b.to b.v b.v (whole_of bare b.v.tree b.from)
coming_first rules path to bare b = record {
  world = b.world;
  beside = beside_same b.from b.to b.v b.v (same_besides b.v);
  come = λ q i. whole_below bare b.v b.from q b.row b.in_tree b.at i;
  ascends = whole_ascends bare b.v b.from (parts_of b.v.tree b.world.tree);
  free = λ r i q j.
      false_or (is_front (dest b.from b.to q) r.path)
      (λ e. not_both (is_front b.to r.path) (front_then b.to (dest b.from b.to q) r.path (dest_below b.from b.to q) e) (b.free r i));
  up = λ q j. by q (whole_up bare b.v b.from q (some_from b.from b.to b.apart) (parts_of b.v.tree b.world.tree) j);
  unlinked = λ r i front. not_both (is_front b.to r.path) front (b.free r i);
}
  where
    by : (q : Names) → (b.from ≡ q) ⊎ In (parent_of q) (whole_of bare b.v.tree b.from) → DirAt b.v.tree (parent_of (dest b.from b.to q)) ⊎ In (parent_of q) (whole_of bare b.v.tree b.from)
    by q (inr k) = inr k
    by q (inl e) = inl (subst (λ z. DirAt b.v.tree (parent_of (dest b.from b.to z))) e (subst (λ z. DirAt b.v.tree (parent_of z)) (sym (dest_from b.from b.to)) b.up))

-- ---- the acts of the plan

-- what is made where nothing stands
abbrev made_acts : Rules → World → WebPath → WebPath → Bool → List Act
made_acts rules v path to bare = map (copy_act rules v path to (resolved rules v.tree path.names) (resolved rules (cleared rules v to) to.names)) (copied_rows bare (resolved rules v.tree path.names) v.tree)

pub judged_plan : (rules : Rules) (v : World) (path to : WebPath) (bare shut : Bool) → (is_forbidden rules path && not (is_dir_found (stands rules v path))) ≡ shut
    → copy_acts rules v path to bare
    ≡ unless (when shut 403) (cond (hides rules v to) (fill_acts rules v path to (row_at v.tree (resolved rules v.tree path.names))) (made_by rules.alone rules v path to bare))
judged_plan rules v path to bare shut e =
    ap (λ z. unless (when z 403) (cond (hides rules v to) (fill_acts rules v path to (row_at v.tree (resolved rules v.tree path.names))) (made_by rules.alone rules v path to bare))) e

open_plan : (rules : Rules) → rules.alone ≡ None → (v : World) (path to : WebPath) (bare : Bool) → (is_forbidden rules path && not (is_dir_found (stands rules v path))) ≡ false
    → copy_acts rules v path to bare ≡ cond (hides rules v to) (fill_acts rules v path to (row_at v.tree (resolved rules v.tree path.names))) (made_acts rules v path to bare)
open_plan rules alone v path to bare e =
    judged_plan rules v path to bare false e
    ∙ ap (λ o. cond (hides rules v to) (fill_acts rules v path to (row_at v.tree (resolved rules v.tree path.names))) (made_by o rules v path to bare)) alone

unless_stop : (b : Bool) (acts : List Act) → unless (when b 403) acts ≡ cond b (halts (line 403) ∷ []) acts
unless_stop true acts = refl
unless_stop false acts = refl

module _ (rules : Rules) (alone : rules.alone ≡ None) (path to : WebPath) (b : Base rules path to) (v : World) (files : (r : Row) → In r b.v.tree → is_front b.from r.path ≡ true → b.v.files r.number ≡ v.files r.number) where
  same_bytes : (dir : Bool) (r : Row) → is_dir r.kind ≡ dir → In r b.v.tree → is_front b.from r.path ≡ true → bytes_in v r ≡ bytes_in b.v r
  same_bytes true r e i front = ap (λ d. cond d [] (bytes_of v r.number)) e ∙ ap (λ d. cond d [] (bytes_of b.v r.number)) (sym e)
  same_bytes false r e i front = ap (λ d. cond d [] (bytes_of v r.number)) e ∙ (ap bytes_or_none (sym (files r i front)) ∙ ap (λ d. cond d [] (bytes_of b.v r.number)) (sym e))

  rows_act : (rows : List Row) → ((r : Row) → In r rows → In r b.v.tree × (is_front b.from r.path ≡ true)) → map (copy_act rules v path to b.from b.to) rows ≡ acts_at rules path to b (paths rows)
  rows_act [] stand = refl
  rows_act (row ∷ rows) stand =
      let (i, front) = stand row (inl refl) in
      let first : copy_act rules v path to b.from b.to row ≡ act_for rules path to b (row_at b.v.tree row.path) =
      ap (λ bytes. cond (is_deep_dir row || denies_copy rules (path_below path b.from row) (path_below to b.from row) row) (halts (line 403)) (does (makes (dest b.from b.to row.path) row.kind bytes)))
      (same_bytes (is_dir row.kind) row refl i front)
      ∙ ap (act_for rules path to b) (sym (at_row b.v.tree row (parts_of b.v.tree b.world.tree).once i)) in
      ap (λ a. a ∷ map (copy_act rules v path to b.from b.to) rows) first
      ∙ ap (λ z. act_for rules path to b (row_at b.v.tree row.path) ∷ z) (rows_act rows (λ r j. stand r (inr j)))

  -- the acts of the plan are those for the paths that are copied
  copy_plan : (bare : Bool) → rows_below b.from b.v.tree ≡ rows_below b.from v.tree → resolved rules v.tree path.names ≡ b.from → resolved rules (cleared rules v to) to.names ≡ b.to
      → (is_forbidden rules path && not (is_dir_found (stands rules v path))) ≡ false → hides rules v to ≡ false → copy_acts rules v path to bare ≡ acts_at rules path to b (whole_of bare b.v.tree b.from)
  copy_plan bare rows at new open_at shown =
      open_plan rules alone v path to bare open_at
      ∙ (ap (λ z. cond z (fill_acts rules v path to (row_at v.tree (resolved rules v.tree path.names))) (made_acts rules v path to bare)) shown
      ∙ (ap (λ z. map (copy_act rules v path to z (resolved rules (cleared rules v to) to.names)) (copied_rows bare z v.tree)) at
      ∙ (ap (λ z. map (copy_act rules v path to b.from z) (copied_rows bare b.from v.tree)) new
      ∙ (ap (map (copy_act rules v path to b.from b.to)) (same_rows bare b.from v b.v rows)
      ∙ (rows_act (copied_rows bare b.from b.v.tree) (λ r i. copied_stand bare b.from b.v r i)
      ∙ ap (acts_at rules path to b) (copied_paths bare b.from b.v b.row (parts_of b.v.tree b.world.tree) b.in_tree b.at))))))

-- ---- the calls

module _ {S C F L E : Type 0} (view : View S C F) (lists : Listings S C L E) (writes : Writes F) (c : C) (asked : Asked) where
  abbrev Told_in : S → S → (World → World → Type 0) → Type 0
  Told_in m n P = Told view lists writes c m n P

  -- ---- a source of a name that clients of macOS may not use

  abbrev Stays : Line → World → World → Type 0
  Stays all u w = SameBesidesOpens u w × ((all ≡ Err dav.NoMemory) ⊎ (all ≡ Err (of_fs fs.Forbidden)))

  none_more : (works : List Transfer) (n t : S) (line : Line) → works ≡ [] → Copies view lists c asked.alone works n line t → t ≡ n
  none_more works n t line e (no_work a) = refl
  none_more works n t line e (cut_short others a) = refl
  none_more works n t line e (goes x others rest a m z l one more) = cc
  none_more works n t line e (stops x others rest a z d one) = cc

  -- a file isn't copied from it
  shut_told : (x : Carry view lists writes c asked) (work : Transfer) (works : List Transfer) (m t : S) (all : Line) → works ≡ work ∷ [] → work.dir ≡ false → (is_forbidden x.rules work.from || is_forbidden x.rules work.to) ≡ true
      → Reached view lists writes c x.s m → Copies view lists c asked.alone works m all t → Told_in m t (Stays all)
  shut_told x work works m t all e file shut reached (no_work a) = cc
  shut_told x work works m t all e file shut reached (cut_short others a) = both_same (view.state a).told (view.state a).told (Stays (Err dav.NoMemory)) (λ w. (same_besides w, inl refl)) refl
  shut_told x work works m t all e file shut reached (goes z others rest a n q line one more) =
      let is : z ≡ work = cc in
      let none : others ≡ [] = cc in
      on none (subst (λ d. CopiesBy view lists c asked.alone d work others a (Ok tt) n rest) file (subst (λ (y : Transfer). CopiesBy view lists c asked.alone y.dir y others a (Ok tt) n rest) is one)) more
    where
      on : others ≡ [] → CopiesBy view lists c asked.alone false work others a (Ok tt) n rest → Copies view lists c asked.alone rest n line q → Told_in a q (Stays line)
      on none (copied, call, ok, is) more =
          subst (λ y. Told_in a y (Stays line)) (sym (none_more rest n q line (is ∙ none) more))
          (both_map (view.state a).told (view.state n).told _ (Stays line)
          (λ u w calls. absurd (let f : Ok tt ≡ line_of (Err fs.Forbidden) = ok ∙ ap line_of (calls.refused shut).0 in cc)) (x.given.copies a n work.from work.to copied reached call))
  shut_told x work works m t all e file shut reached (stops z others rest a q d one) =
      let is : z ≡ work = cc in
      on (subst (λ y. CopiesBy view lists c asked.alone y work others a (Err d) q rest) file (subst (λ (y : Transfer). CopiesBy view lists c asked.alone y.dir y others a (Err d) q rest) is one))
    where
      on : CopiesBy view lists c asked.alone false work others a (Err d) q rest → Told_in a q (Stays (Err d))
      on (copied, call, said, is) =
          both_map (view.state a).told (view.state q).told _ (Stays (Err d)) (λ u w calls. (let (refused, same) = calls.refused shut in (same, inr (said ∙ ap line_of refused))))
          (x.given.copies a q work.from work.to copied reached call)

  -- what the last act comes to
  abbrev Whole : Carry view lists writes c asked → Line → S → World → World → World → Type 0
  Whole x all t v u w = FillsNone (carrying false x.rules v x.ask.path asked) × Comes view x.ask.fields x.s all (carrying false x.rules v x.ask.path asked) t u w

  shut_right : (x : Carry view lists writes c asked) (found : Result Info FsError) (all : Line) (t : S) (v u w : World) → Prepares view lists writes c asked x found v
      → (is_forbidden x.rules x.ask.path && not (is_dir_there found)) ≡ true → Stays all u w → Whole x all t v u w
  shut_right x found all t v u w p shut (same, ends) =
      let judged : is_dir_found (stands x.rules v x.ask.path) ≡ is_dir_there found = ap is_dir_found p.stood ∙ p.kind in
      let is : carrying false x.rules v x.ask.path asked ≡ halts (line 403) ∷ [] =
      judged_plan x.rules v x.ask.path asked.to asked.alone true (ap (λ d. is_forbidden x.rules x.ask.path && not d) judged ∙ shut) in
      (subst FillsNone (sym is) tt, subst (λ a. Comes view x.ask.fields x.s all a t u w) (sym is) (by ends))
    where
      by : (all ≡ Err dav.NoMemory) ⊎ (all ≡ Err (of_fs fs.Forbidden)) → Comes view x.ask.fields x.s all (halts (line 403) ∷ []) t u w
      by (inl e) = subst (λ z. Comes view x.ask.fields x.s z (halts (line 403) ∷ []) t u w) (sym e) (short_comes view x.ask.fields x.s (halts (line 403) ∷ []) t u w same)
      by (inr e) =
          subst (λ z. Comes view x.ask.fields x.s z (halts (line 403) ∷ []) t u w) (sym e) (halted_comes view x.ask.fields x.s (of_fs fs.Forbidden) (line 403) [] t u w refl refl same)

  -- ---- what is copied

  abbrev Copying : Carry view lists writes c asked → Result Info FsError → Line → S → World → World → Type 0
  Copying x found all t u w = Goes view lists writes c x.rules x.ask.fields x.s x.knows x.given x.alone x.ask.path asked.to asked.alone (transfer x.ask.path asked found ∷ []) all t u w

  -- a source that isn't shut stands in the tree
  no_virtual : (x : Carry view lists writes c asked) (found : Result Info FsError) (v : World) → Prepares view lists writes c asked x found v
      → (is_forbidden x.rules x.ask.path && not (is_dir_there found)) ≡ false → is_virtual x.rules x.ask.path ≡ false
  no_virtual x found v p open_at = false_or (is_virtual x.rules x.ask.path) (λ e. by e (virtual_file x.rules v x.ask.path p.there e p.stood))
    where
      by : is_virtual x.rules x.ask.path ≡ true → is_dir p.there.kind ≡ false → ⊥
      by e file =
          let shut : (is_forbidden x.rules x.ask.path && not (is_dir_there found)) ≡ true =
          ap (λ z. (z || (x.rules.macos && is_localized x.ask.path.names)) && not (is_dir_there found)) e ∙ ap not (sym p.kind ∙ file) in
          not_both (is_forbidden x.rules x.ask.path && not (is_dir_there found)) shut open_at

  -- what is known of the first of the work
  now_first : (x : Carry view lists writes c asked) (found : Result Info FsError) (b : Base x.rules x.ask.path asked.to) → is_dir b.row.kind ≡ is_dir_there found
      → Now view lists writes c x.rules x.ask.fields x.s x.knows x.given x.alone x.ask.path asked.to asked.alone b (transfer x.ask.path asked found ∷ []) b.v (whole_of asked.alone b.v.tree b.from)
  now_first x found b kind =
      let first = coming_first x.rules x.ask.path asked.to asked.alone b in
      record {
        others = record { from = record x.ask.path { names = b.from }; to = record asked.to { names = b.to }; dir = is_dir_there found } ∷ [];
        shadows = (
          record {
            rest = [];
            asks_from = ap (λ (z : Names). (let q : WebPath = record x.ask.path { names = z } in q)) (sym (append-nil x.ask.path.names));
            asks_to = ap (λ (z : Names). (let q : WebPath = record asked.to { names = z } in q)) (sym (append-nil asked.to.names));
            at_from = ap (λ (z : Names). (let q : WebPath = record x.ask.path { names = z } in q)) (sym (append-nil b.from));
            at_to = ap (λ (z : Names). (let q : WebPath = record asked.to { names = z } in q)) (sym (append-nil b.to));
            dir = refl;
          },
          tt,
        );
        covers = ([], sym (append-nil (whole_of asked.alone b.v.tree b.from)), refl);
        fit = ((record { row = b.row; in_tree = b.in_tree; at = b.at; kind = kind }, front_itself b.from, sym (dest_from b.from b.to)), tt);
        coming = first;
        kept = kept_first x.rules x.alone x.ask.path asked.to b (whole_of asked.alone b.v.tree b.from) first.come (some_from b.from b.to b.apart);
      }

  -- It comes to the plan, in a world where nothing stands at the destination.
  begun_right : (x : Carry view lists writes c asked) (found : Result Info FsError) (all : Line) (t : S) (v w : World) (b : Base x.rules x.ask.path asked.to) → Prepares view lists writes c asked x found v
      → (is_forbidden x.rules x.ask.path && not (is_dir_there found)) ≡ false → is_dir b.row.kind ≡ is_dir_there found
      → rows_below b.from b.v.tree ≡ rows_below b.from v.tree → ((r : Row) → In r (rows_below b.from v.tree) → b.v.files r.number ≡ v.files r.number) → resolved x.rules v.tree x.ask.path.names ≡ b.from
      → resolved x.rules (cleared x.rules v asked.to) asked.to.names ≡ b.to → hides x.rules v asked.to ≡ false → Copying x found all t b.v w → Whole x all t v b.v w
  begun_right x found all t v w b p open_at kind rows files at new shown work_goes =
      let judged : is_dir_found (stands x.rules v x.ask.path) ≡ is_dir_there found = ap is_dir_found p.stood ∙ p.kind in
      let is : carrying false x.rules v x.ask.path asked ≡ acts_at x.rules x.ask.path asked.to b (whole_of asked.alone b.v.tree b.from) =
      copy_plan x.rules x.alone x.ask.path asked.to b v (λ r i front. files r (subst (In r) rows (filter_in (λ row. is_front b.from row.path) b.v.tree r front i))) asked.alone rows at new
      (ap (λ d. is_forbidden x.rules x.ask.path && not d) judged ∙ open_at) shown in (
        subst FillsNone (sym is) (copies_none x.rules x.ask.path asked.to b (whole_of asked.alone b.v.tree b.from)),
        subst (λ a. Comes view x.ask.fields x.s all a t b.v w) (sym is) (work_goes b (whole_of asked.alone b.v.tree b.from) (now_first x found b kind)),
      )

  -- What was found at the destination went, or nothing stood there: in both cases the world lacks it.
  lacking_right : (x : Carry view lists writes c asked) (found : Result Info FsError) (all : Line) (t : S) (v u w : World) (p : Prepares view lists writes c asked x found v)
      → (is_forbidden x.rules x.ask.path && not (is_dir_there found)) ≡ false → IsWorld u → TellsApart x.rules u
      → Beside (resolved x.rules v.tree x.ask.path.names) (resolved x.rules v.tree asked.to.names) v u → Free (resolved x.rules v.tree asked.to.names) u.tree
      → Lacks x.rules x.alone (resolved x.rules v.tree asked.to.names) v.tree (cleared x.rules v asked.to) → hides x.rules v asked.to ≡ false → Copying x found all t u w → Whole x all t v u w
  lacking_right x found all t v u w p open_at world apart beside free lacks shown work_goes =
      let dir = is_dir_there found in
      let plain = no_virtual x found v p open_at in
      let g = begun x.rules x.alone x.ask.path asked.to dir v u p plain world apart beside free in
      let at = resolved x.rules v.tree x.ask.path.names in
      subst (λ z. Whole x all t v z w) g.world_is
      (begun_right x found all t v w g.base p open_at g.kind
      (ap (λ z. rows_below z g.base.v.tree) g.from_is ∙ (ap (λ (z : World). rows_below at z.tree) g.world_is ∙ (beside.rows ∙ ap (λ z. rows_below z v.tree) (sym g.from_is))))
      (λ r i. ap (λ (z : World). z.files r.number) g.world_is ∙ beside.files r (subst (λ z. In r (rows_below z v.tree)) g.from_is i))
      (sym g.from_is) (into_now x.rules x.alone x.ask.path asked.to dir v p plain (cleared x.rules v asked.to) lacks ∙ sym g.to_is) shown
      (subst (λ z. Copying x found all t z w) (sym g.world_is) work_goes))

  -- What was found there went.
  cleared_right : (x : Carry view lists writes c asked) (found : Result Info FsError) (all : Line) (t : S) (v u w : World) → Prepares view lists writes c asked x found v
      → (is_forbidden x.rules x.ask.path && not (is_dir_there found)) ≡ false → Cleared x.rules x.ask.path asked.to v u → Copying x found all t u w → Whole x all t v u w
  cleared_right x found all t v u w p open_at gone work_goes =
      let top = resolved x.rules v.tree asked.to.names in
      let rows : cleared x.rules v asked.to ≡ without top v.tree = ap (λ (y : Result Stood FsError). cond (is_found y) (without top v.tree) v.tree) gone.found in
      let some_top = some_to (resolved x.rules v.tree x.ask.path.names) top (apart_places x.rules x.alone v.tree x.ask.path.names asked.to.names p.beside) in
      lacking_right x found all t v u w p open_at gone.world gone.apart gone.beside gone.free
      (subst (Lacks x.rules x.alone top v.tree) (sym rows) (lacks_without x.rules x.alone top v some_top (parts_of v.tree p.world.tree) p.regular))
      (ap (λ (y : Result Stood FsError). not (is_found y) && is_some (row_at v.tree top)) gone.found) work_goes

  -- Nothing stands there.
  vacant_right : (x : Carry view lists writes c asked) (found : Result Info FsError) (all : Line) (t : S) (v u w : World) → Prepares view lists writes c asked x found v
      → (is_forbidden x.rules x.ask.path && not (is_dir_there found)) ≡ false → Vacant x.rules asked.to v u → row_at v.tree (resolved x.rules v.tree asked.to.names) ≡ None → Copying x found all t u w
      → Whole x all t v u w
  vacant_right x found all t v u w p open_at vacant none work_goes =
      let top = resolved x.rules v.tree asked.to.names in
      let from = resolved x.rules v.tree x.ask.path.names in
      let rows : cleared x.rules v asked.to ≡ v.tree = ap (λ (y : Result Stood FsError). cond (is_found y) (without top v.tree) v.tree) vacant.missing in
      let free : Free top v.tree = free_where v.tree top (parts_of v.tree p.world.tree) none in
      lacking_right x found all t v u w p open_at vacant.world (λ folds. ap no_twins vacant.same.tree ∙ p.regular folds) (beside_same from top v u vacant.same)
      (λ r i. free r (subst (In r) vacant.same.tree i))
      (subst (Lacks x.rules x.alone top v.tree) (sym rows) (lacks_beside x.rules x.alone from top v v (beside_same from top v v (same_besides v)) (parts_of v.tree p.world.tree) p.regular free))
      (ap (λ o. not (is_found (stands x.rules v asked.to)) && is_some o) none ∙ and_no (not (is_found (stands x.rules v asked.to)))) work_goes

  -- ---- something stands there that wasn't found

  abbrev work : Carry view lists writes c asked → Result Info FsError → Transfer
  work x found = transfer x.ask.path asked found

  abbrev Filling : Carry view lists writes c asked → Result Info FsError → Line → S → World → World → Type 0
  Filling x found all t u w = Fills view lists writes c x.rules x.ask.fields x.s x.knows x.given asked.alone (transfer x.ask.path asked found) all t u w

  -- a list of acts that fill a file at most, behind what changes nothing
  over_by : (x : Carry view lists writes c asked) (stop dir same_place : Bool) (n : ℕ) (bytes : List ℕ) (all : Line) (t : S) (v u w : World) → Holds u n → SameBesidesOpens v u
      → Comes view x.ask.fields x.s all (cond stop (halts (line 403) ∷ []) (act_of (Over dir same_place n bytes))) t u w
      → Comes view x.ask.fields x.s all (cond stop (halts (line 403) ∷ []) (act_of (Over dir same_place n bytes))) t v w
  over_by x true dir same_place n bytes all t v u w held same came = comes_after view x.ask.fields x.s all (halts (line 403) ∷ []) t v u w tt same came
  over_by x false dir same_place n bytes all t v u w held same came = over_comes view x.ask.fields x.s dir same_place n bytes all t v u w held same came

  make_by : (x : Carry view lists writes c asked) (stop : Bool) (all : Line) (t : S) (v u w : World) → SameBesidesOpens v u
      → Comes view x.ask.fields x.s all (cond stop (halts (line 403) ∷ []) (act_of (Err Exists))) t u w → Comes view x.ask.fields x.s all (cond stop (halts (line 403) ∷ []) (act_of (Err Exists))) t v w
  make_by x true all t v u w same came = comes_after view x.ask.fields x.s all (halts (line 403) ∷ []) t v u w tt same came
  make_by x false all t v u w same came = comes_after view x.ask.fields x.s all (act_of (Err Exists)) t v u w tt same came

  module _ (x : Carry view lists writes c asked) (found : Result Info FsError) (all : Line) (t : S) (v u w : World) (p : Prepares view lists writes c asked x found v)
      (open_at : (is_forbidden x.rules x.ask.path && not (is_dir_there found)) ≡ false) (vacant : Vacant x.rules asked.to v u) (there : Row)
      (is_there : row_at v.tree (resolved x.rules v.tree asked.to.names) ≡ Some there) where
    abbrev from_at : Names
    from_at = resolved x.rules v.tree x.ask.path.names

    abbrev top : Names
    top = resolved x.rules v.tree asked.to.names

    parts : Parts v.tree
    parts = parts_of v.tree p.world.tree

    source : Found v (record x.ask.path { names = resolved x.rules v.tree x.ask.path.names }) p.there
    source = source_of x.rules x.alone x.ask.path asked.to (is_dir_there found) v p (no_virtual x found v p open_at)

    some_top : 0 < length top
    some_top = some_to from_at top (apart_places x.rules x.alone v.tree x.ask.path.names asked.to.names p.beside)

    placed : place v.tree top ≡ Ok (Some there)
    placed =
        let (j, at) = row_at_in v.tree top there is_there in
        let d = above v.tree there (parent_of top) parts j (subst (λ z. is_front (parent_of top) z ≡ true) (sym at) (front_up top)) (λ e. longer_than (e ∙ at)) in
        row_place v.tree top parts some_top d ∙ ap Ok is_there
      where
        longer_than : parent_of top ≡ top → ⊥
        longer_than e = omega (arith, some_top, ap length e, parent_length top)

    placed_now : place u.tree (resolved x.rules u.tree asked.to.names) ≡ Ok (Some there)
    placed_now = ap (λ (tree : List Row). place tree (resolved x.rules tree asked.to.names)) vacant.same.tree ∙ placed

    stood : Stands view lists writes c x.rules x.ask.fields x.s x.knows x.given asked.alone (transfer x.ask.path asked found) u
    stood = record {
      apart = λ folds. ap no_twins vacant.same.tree ∙ p.regular folds;
      there = there;
      at = placed_now;
      from_clear = ap (λ (tree : List Row). is_linked tree (resolved x.rules tree x.ask.path.names)) vacant.same.tree ∙ p.from_clear;
      to_clear = ap (λ (tree : List Row). is_linked tree (resolved x.rules tree asked.to.names)) vacant.same.tree ∙ p.to_clear;
    }

    kind_is : is_dir_there found ≡ is_dir source.row.kind
    kind_is = sym p.kind ∙ source.kind

    deep_is : is_deep x.ask.path ≡ nat_lt 65536 (length source.row.path)
    deep_is = ap (nat_lt 65536) (sym (place_length x.rules x.alone v.tree x.ask.path.names) ∙ ap length (sym source.at))

    -- what keeps the row from the disk
    abbrev stop : Bool → Bool → Bool
    stop dir deep = (dir && deep) || (is_forbidden x.rules asked.to || (not dir && is_forbidden x.rules x.ask.path))

    abbrev stop_row : Bool
    stop_row = stop (is_dir source.row.kind) (nat_lt 65536 (length source.row.path))

    stop_is : stop (is_dir_there found) (is_deep x.ask.path) ≡ stop_row
    stop_is = ap (λ d. stop d (is_deep x.ask.path)) kind_is ∙ ap (λ b. stop (is_dir source.row.kind) b) deep_is

    plan_is : carrying false x.rules v x.ask.path asked
        ≡ cond stop_row (halts (line 403) ∷ []) (act_of (cond (is_dir source.row.kind) (making_dir v.tree top) (copying v from_at top)))
    plan_is =
        let judged : is_dir_found (stands x.rules v x.ask.path) ≡ is_dir_there found = ap is_dir_found p.stood ∙ p.kind in
        let hidden : hides x.rules v asked.to ≡ true =
        ap (λ (y : Result Stood FsError). not (is_found y) && is_some (row_at v.tree top)) vacant.missing ∙ ap is_some is_there in
        let row : row_at v.tree from_at ≡ Some source.row = ap (row_at v.tree) (sym source.at) ∙ at_row v.tree source.row parts.once source.in_tree in
        open_plan x.rules x.alone v x.ask.path asked.to asked.alone (ap (λ d. is_forbidden x.rules x.ask.path && not d) judged ∙ open_at)
        ∙ (ap (λ z. cond z (fill_acts x.rules v x.ask.path asked.to (row_at v.tree from_at)) (made_acts x.rules v x.ask.path asked.to asked.alone)) hidden
        ∙ (ap (fill_acts x.rules v x.ask.path asked.to) row
        ∙ unless_stop stop_row (act_of (cond (is_dir source.row.kind) (making_dir v.tree top) (copying v from_at top)))))

    same_from : resolved x.rules u.tree x.ask.path.names ≡ source.row.path
    same_from = ap (λ (tree : List Row). resolved x.rules tree x.ask.path.names) vacant.same.tree ∙ sym source.at

    same_to : resolved x.rules u.tree asked.to.names ≡ top
    same_to = ap (λ (tree : List Row). resolved x.rules tree asked.to.names) vacant.same.tree

    same_bytes_of : bytes_of u source.row.number ≡ bytes_of v source.row.number
    same_bytes_of =
        ap bytes_or_none
        ((beside_same from_at top v u vacant.same).files source.row
        (filter_in (λ row. is_front from_at row.path) v.tree source.row (subst (λ z. is_front from_at z ≡ true) (sym source.at) (front_itself from_at)) source.in_tree))

    hidden_right : Filling x found all t u w → Comes view x.ask.fields x.s all (carrying false x.rules v x.ask.path asked) t v w
    hidden_right filling = subst (λ a. Comes view x.ask.fields x.s all a t v w) (sym plan_is) (by (is_dir_there found) refl)
      where
        came : Comes view x.ask.fields x.s all (cond (stop (is_dir_there found) (is_deep x.ask.path)) (halts (line 403) ∷ [])
            (act_of (cond (is_dir_there found) (making_dir u.tree (resolved x.rules u.tree asked.to.names)) (copying u (resolved x.rules u.tree x.ask.path.names) (resolved x.rules u.tree asked.to.names))))) t u w
        came = filling stood

        by : (dir : Bool) → is_dir_there found ≡ dir
            → Comes view x.ask.fields x.s all (cond stop_row (halts (line 403) ∷ []) (act_of (cond (is_dir source.row.kind) (making_dir v.tree top) (copying v from_at top)))) t v w
        by true e =
            let own : is_dir source.row.kind ≡ true = sym kind_is ∙ e in
            let is : making_dir v.tree top ≡ Err Exists = make_over v.tree top there placed in
            let now : making_dir u.tree (resolved x.rules u.tree asked.to.names) ≡ Err Exists = make_over u.tree (resolved x.rules u.tree asked.to.names) there placed_now in
            subst (λ a. Comes view x.ask.fields x.s all (cond stop_row (halts (line 403) ∷ []) (act_of a)) t v w) (sym (ap (λ d. cond d (making_dir v.tree top) (copying v from_at top)) own ∙ is))
            (make_by x stop_row all t v u w vacant.same
            (subst (λ b. Comes view x.ask.fields x.s all (cond b (halts (line 403) ∷ []) (act_of (Err Exists))) t u w) stop_is
            (subst (λ a. Comes view x.ask.fields x.s all (cond (stop (is_dir_there found) (is_deep x.ask.path)) (halts (line 403) ∷ []) (act_of a)) t u w)
            (ap (λ d. cond d (making_dir u.tree (resolved x.rules u.tree asked.to.names)) (copying u (resolved x.rules u.tree x.ask.path.names) (resolved x.rules u.tree asked.to.names))) e ∙ now) came)))
        by false e =
            let own : is_dir source.row.kind ≡ false = sym kind_is ∙ e in
            let (j, at) = row_at_in v.tree top there is_there in
            let held : Holds u there.number = inl (ap (λ rows. is_numbered rows there.number) vacant.same.tree ∙ numbered_in v.tree there j) in
            let is : copying v from_at top ≡ Over (is_dir there.kind) (same_names source.row.path top) there.number (bytes_of v source.row.number) =
            ap (λ z. copying v z top) (sym source.at) ∙ copy_over v source.row top there parts source.in_tree own placed in
            let now : copying u (resolved x.rules u.tree x.ask.path.names) (resolved x.rules u.tree asked.to.names)
            ≡ Over (is_dir there.kind) (same_names source.row.path top) there.number (bytes_of v source.row.number) =
            ap (λ z. copying u z (resolved x.rules u.tree asked.to.names)) same_from
            ∙ (ap (copying u source.row.path) same_to
            ∙ (copy_over u source.row top there (subst Parts (sym vacant.same.tree) parts) (subst (In source.row) (sym vacant.same.tree) source.in_tree) own (ap (λ (tree : List Row). place tree top) vacant.same.tree ∙ placed)
            ∙ ap (Over (is_dir there.kind) (same_names source.row.path top) there.number) same_bytes_of)) in
            subst (λ a. Comes view x.ask.fields x.s all (cond stop_row (halts (line 403) ∷ []) (act_of a)) t v w) (sym (ap (λ d. cond d (making_dir v.tree top) (copying v from_at top)) own ∙ is))
            (over_by x stop_row (is_dir there.kind) (same_names source.row.path top) there.number (bytes_of v source.row.number) all t v u w held vacant.same
            (subst (λ b. Comes view x.ask.fields x.s all (cond b (halts (line 403) ∷ []) (act_of (Over (is_dir there.kind) (same_names source.row.path top) there.number (bytes_of v source.row.number)))) t u w) stop_is
            (subst (λ a. Comes view x.ask.fields x.s all (cond (stop (is_dir_there found) (is_deep x.ask.path)) (halts (line 403) ∷ []) (act_of a)) t u w)
            (ap (λ d. cond d (making_dir u.tree (resolved x.rules u.tree asked.to.names)) (copying u (resolved x.rules u.tree x.ask.path.names) (resolved x.rules u.tree asked.to.names))) e ∙ now) came)))

  -- ---- the last act

  -- what acts come to that fill no file
  whole_ends : (x : Carry view lists writes c asked) (all : Line) (t : S) (v u w : World) → (Cleared x.rules x.ask.path asked.to v u → Whole x all t v u w) → (Vacant x.rules asked.to v u → Whole x all t v u w)
      → Ends view lists writes c asked x all (carrying false x.rules v x.ask.path asked) t v u w
  whole_ends x all t v u w gone misses = record {
    after_gone = gone;
    after_none = λ m. (let (none, came) = misses m in comes_after view x.ask.fields x.s all (carrying false x.rules v x.ask.path asked) t v u w none m.same came);
  }

  open_ends : (x : Carry view lists writes c asked) (found : Result Info FsError) (all : Line) (t : S) (v u w : World) → Prepares view lists writes c asked x found v
      → (is_forbidden x.rules x.ask.path && not (is_dir_there found)) ≡ false → Copying x found all t u w → Filling x found all t u w
      → Ends view lists writes c asked x all (carrying false x.rules v x.ask.path asked) t v u w
  open_ends x found all t v u w p open_at work_goes filling = record {
    after_gone = λ gone. cleared_right x found all t v u w p open_at gone work_goes;
    after_none = λ m. by m (row_at v.tree (resolved x.rules v.tree asked.to.names)) refl;
  }
    where
      by : Vacant x.rules asked.to v u → (o : Option Row) → row_at v.tree (resolved x.rules v.tree asked.to.names) ≡ o → Comes view x.ask.fields x.s all (carrying false x.rules v x.ask.path asked) t v w
      by vacant None none =
          let (fills_none, came) = vacant_right x found all t v u w p open_at vacant none work_goes in
          comes_after view x.ask.fields x.s all (carrying false x.rules v x.ask.path asked) t v u w fills_none vacant.same came
      by vacant (Some there) is = hidden_right x found all t v u w p open_at vacant there is filling

  -- The last act of a COPY comes to what its plan says.
  pub copies_right : (x : Carry view lists writes c asked) → GoesRight view lists writes c asked x false
  copies_right x found outcome m t r reached (all, run, is) = (all, is, by (is_forbidden x.rules x.ask.path) (is_dir_there found) refl refl)
    where
      other : (is_forbidden x.rules x.ask.path && not (is_dir_there found)) ≡ false
          → Told_in m t (λ u w. (v : World) → Prepares view lists writes c asked x found v → Ends view lists writes c asked x all (carrying false x.rules v x.ask.path asked) t v u w)
      other open_at =
          both_map (view.state m).told (view.state t).told _ _ (λ u w made v p. open_ends x found all t v u w p open_at made.0 made.1)
          (filled view lists writes c x.rules x.ask.fields x.s x.knows x.given asked.alone (transfer x.ask.path asked found) (Copying x found all t) (transfer x.ask.path asked found ∷ []) m t all refl
          (copied view lists writes c x.rules x.ask.fields x.s x.knows x.given x.alone x.ask.path asked.to asked.alone (transfer x.ask.path asked found ∷ []) m t all run reached) run reached)

      by : (shut dir : Bool) → is_forbidden x.rules x.ask.path ≡ shut → is_dir_there found ≡ dir
          → Told_in m t (λ u w. (v : World) → Prepares view lists writes c asked x found v → Ends view lists writes c asked x all (carrying false x.rules v x.ask.path asked) t v u w)
      by false dir e f = other (ap (λ z. z && not (is_dir_there found)) e)
      by true true e f = other (ap (λ z. z && not (is_dir_there found)) e ∙ ap not f)
      by true false e f =
          let closed : (is_forbidden x.rules x.ask.path && not (is_dir_there found)) ≡ true = ap (λ z. z && not (is_dir_there found)) e ∙ ap not f in
          both_map (view.state m).told (view.state t).told _ _
          (λ u w stays v p. whole_ends x all t v u w (λ gone. shut_right x found all t v u w p closed stays) (λ m. shut_right x found all t v u w p closed stays))
          (shut_told x (transfer x.ask.path asked found) (transfer x.ask.path asked found ∷ []) m t all refl f (ap (λ z. z || is_forbidden x.rules asked.to) e) reached run)
