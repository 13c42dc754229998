-- DELETE over a store that follows rules is answered by its plan, and makes of the told world what the plan says.
-- Headline: `deletes_right`.
use Rattle.std.proofs.Common.{◌≡◌, ◌<◌, ◌⊎◌, ◌&&◌, ◌||◌, ℕ, List, [], ◌∷◌, length, map, Bool, true, false, cond, not, Option, None, Some, Result, Ok, Err, refl, sym, ap, subst, ◌∙◌, arith, inl, inr}
use Rattle.std.specs.List.{filter}
use Rattle.std.proofs.lemmas.Bool.{or_parts}
use Rattle.dav_io.specs.Told.{Both}
use Rattle.dav_io.proofs.ToldLemmas.{both_map, both_same, both_then}
use Rattle.dav_core.specs.declared.dav_error.DavError.TheVariants as dav
use Rattle.dav_core.specs.declared.error.FsError.{FsError}
use Rattle.dav_core.specs.declared.error.FsError.TheVariants as fs
use Rattle.dav_core.specs.declared.handle.DiskError.{DiskError}
use Rattle.dav_core.specs.declared.method.DavMethod.TheVariants.{Delete}
use Rattle.dav_core.specs.declared.tree.Kind.{Kind}
use Rattle.dav_core.specs.declared.tree.Kind.TheVariants.{Dir, File, Link}
use Rattle.dav_core.specs.declared.tree.Row.{Row}
use Rattle.dav_core.specs.Allowed.{is_root, taking_file}
use Rattle.dav_core.specs.DavPath.{WebPath}
use Rattle.dav_core.specs.Edits.{takes}
use Rattle.dav_core.specs.Info.{Info}
use Rattle.dav_core.specs.Path.{Names, is_front}
use Rattle.dav_core.specs.Statuses.{of_fs}
use Rattle.dav_core.specs.Tree.{below, has_dir, is_dir, is_dir_row, is_file, is_link, is_linked, is_tree, look, row_at}
use Rattle.dav_core.specs.World.{IsWorld, SameBesidesOpens, World}
use Rattle.dav_core.proofs.UnchangedLemmas.{same_besides, same_besides_then}
use Rattle.dav_core.proofs.Elements.{In, in_filter}
use Rattle.dav_core.proofs.Rows.{row_at_in}
use Rattle.dav_core.proofs.LookLemmas.{look_there}
use Rattle.dav_core.proofs.Paths.{not_root}
use Rattle.dav_store.specs.View.{Listings, View}
use Rattle.dav_model.specs.Conditions.{Fields}
use Rattle.dav_model.specs.Finding.{empty_file, has_slash, is_forbidden, is_localized, is_virtual, or_walk, resolved, resolved_from, stood_at}
use Rattle.dav_model.specs.Head.{Stood, stood_in}
use Rattle.dav_model.specs.Plans.{Act, Ask, Halt, delete_plan, does, first, halts, has_link_below, is_dir_found, is_too_deep, keeps_file, line, refused, removal, removals, removing, removing_by, stands, stays_localized, unless, unmet, when}
use Rattle.dav_model.specs.Rules.{Knowledge, Rules}
use Rattle.dav_model.specs.Valid.{IsRegular, TellsApart, no_twins}
use Rattle.dav_model.specs.Walks.{members_first, walk}
use Rattle.dav_model.proofs.PlainWalks.{unlinked_row}
use Rattle.dav_walks.specs.declared.work.Work.{Work}
use Rattle.dav_walks.specs.declared.work.Work.TheVariants.{Whole}
use Rattle.dav_walks.specs.Follows.{Calls, Finds, Follows, IfFound, Reached, Told, UnlessShut, here, looks_at_link}
use Rattle.dav_methods.specs.ByPlan.{RightIn}
use Rattle.dav_walks.specs.Lines.{Line, fails_when}
use Rattle.dav_methods.specs.Lines.{Given, is_dir_there, may_delete}
use Rattle.dav_methods.specs.Lines as the
use Rattle.dav_walks.specs.Pouring.{Writes}
use Rattle.dav_walks.specs.Removing.{Removes, RemovesOne, goes, line_of, short as cut_short, stops, done as no_work}
use Rattle.dav_methods.specs.Deleting.{Deletes, LooksAtLink, RemovesAll}
use Rattle.dav_methods.specs.Deleting as own
use Rattle.dav_methods.specs.Table.{Unless}
use Rattle.dav_walks.proofs.calls.ActsJoined.{Comes, act_by, acts_by, comes_after, halted_comes, short_comes}
use Rattle.dav_walks.proofs.trees.FoundStill.{found_length}
use Rattle.dav_walks.proofs.removals.OneFileRemoved.{Taken, none_more, one_acts, one_none, one_removed}
use Rattle.dav_walks.proofs.removals.RemovalDoesActs.{Case, Ended, Goes, acts, began, deep_in, keeps_file_row, keeps_row, removed, removed_whole, stops_in}
use Rattle.dav_walks.proofs.removals.RemovalsAllowed.{StandsAs}
use Rattle.dav_walks.proofs.trees.TreeRows.{at_row, not_both, only_row, parts_of}
use Rattle.dav_walks.proofs.removals.RemovalOrder.{from_order, paths}
use Rattle.dav_walks.proofs.removals.WorkCovers.{going, walked}
use Rattle.dav_methods.proofs.plans.LinesMatch.{delete_match, first_more, first_two, found_ok, none_two, when_match, dir_found as found_dir}
use Rattle.dav_methods.proofs.plans.EndsByPlan as by_plan
use Rattle.dav_methods.proofs.plans.EndsByPlan.{Acts, At, Clear, at_first, comes_ends, passed_stage, right_in, seen_stage, linked as links_for, planned as plan_for}

-- ---- what a path is found as

-- what was found stands there, and a file was asked for without a slash
pub record Found (w : World) (path : WebPath) (there : Stood) : Type 0 where
  pub row : Row
  pub in_tree : In row w.tree
  pub at : row.path ≡ path.names
  pub kind : is_dir there.kind ≡ is_dir row.kind
  pub slash : is_dir there.kind ≡ false → is_linked w.tree path.names ≡ false → path.slash ≡ false

-- a kind that is none of the three is none
file_or : (kind : Kind) → is_dir kind ≡ false → is_link kind ≡ false → is_file kind ≡ true
file_or Dir e f = cc
file_or File e f = refl
file_or Link e f = cc

pub found_at : (w : World) (path : WebPath) (there : Stood) (r : Result Row DiskError) → look w.tree path.names ≡ r → stood_at path.slash w r ≡ Ok there → Found w path there
found_at w path there (Err e) at is = cc
found_at w path there (Ok row) at is = by (path.slash && is_file row.kind) refl is
  where
    no_slash : (a b : Bool) → (a && b) ≡ false → b ≡ true → a ≡ false
    no_slash true b e f = not_both b f e
    no_slash false b e f = refl

    by : (b : Bool) → (path.slash && is_file row.kind) ≡ b → cond b (Err fs.Forbidden) (Ok (stood_in w row)) ≡ Ok there → Found w path there
    by true e f = cc
    by false e f =
        let same : stood_in w row ≡ there = cc in
        let (i, place) = row_at_in w.tree path.names row (look_there w.tree [] path.names row at) in
        let kind : is_dir there.kind ≡ is_dir row.kind = ap (λ (s : Stood). is_dir s.kind) (sym same) in
        record {
          row = row;
          in_tree = i;
          at = place;
          kind = kind;
          slash = λ dir clear. no_slash path.slash (is_file row.kind) e (file_or row.kind (sym kind ∙ dir) (unlinked_row w.tree path.names row at clear));
        }

-- a directory stands there, or none
pub dir_found : (w : World) (at : Names) (there : Stood) (r : Result Row DiskError) → look w.tree at ≡ r → stood_at false w r ≡ Ok there → has_dir w.tree at ≡ is_dir there.kind
dir_found w at there (Err e) seen is = cc
dir_found w at there (Ok row) seen is =
    let same : stood_in w row ≡ there = cc in ap is_dir_row (look_there w.tree [] at row seen) ∙ ap (λ (s : Stood). is_dir s.kind) same

-- ---- the plan

abbrev ask_for : WebPath → Fields → List ℕ → Ask
ask_for path fields body = record { method = Delete; path = path; fields = fields; body = body }

-- the root has no names
some_names : (names : Names) → when (is_root names) 403 ≡ None → 0 < length names
some_names [] e = cc
some_names (name ∷ names) e = omega arith

roots_are : (names : Names) → own.is_root names ≡ is_root names
roots_are [] = refl
roots_are (name ∷ names) = sym (not_root (name ∷ names) (omega arith))

-- the acts of a removal, path by path
removals_are : (rules : Rules) (ends_at : Names → Bool) (rows all : List Row) → ((r : Row) → In r rows → ends_at r.path ≡ (stays_localized rules r || is_too_deep all r.path))
    → map (removal rules all) rows ≡ acts_by ends_at (paths rows)
removals_are rules ends_at [] all same = refl
removals_are rules ends_at (row ∷ rows) all same =
    ap (λ b. cond b (halts (line 403)) (does (takes row.path)) ∷ map (removal rules all) rows) (sym (same row (inl refl)))
    ∙ ap (λ acts. act_by (ends_at row.path) row.path ∷ acts) (removals_are rules ends_at rows all (λ r i. same r (inr i)))

-- The acts of the plan are those of the removal, by what ends it.
pub planned : (rules : Rules) (w : World) (path : WebPath) (x : Case) → rules.alone ≡ None → x.top ≡ resolved rules w.tree path.names → x.old ≡ w.tree
    → removing rules w path ≡ acts rules x (walked w.tree x.top)
planned rules w path x alone top old =
    ap (λ o. removing_by o rules w path) alone
    ∙ ap (λ z. removals rules (walk members_first z w.tree)) (sym top)
    ∙ removals_are rules (stops_in rules x) (going x.top w.tree) (going x.top w.tree)
    (λ r i. ap (λ b. b || deep_in x r.path) (ap (keeps_row rules) (row_there r (from_order members_first r (filter (λ row. is_front x.top row.path) w.tree) i)))
    ∙ ap (λ (rows : List Row). stays_localized rules r || is_too_deep (going x.top rows) r.path) old)
  where
    row_there : (r : Row) → In r (filter (λ row. is_front x.top row.path) w.tree) → row_at x.old r.path ≡ Some r
    row_there r i =
        ap (λ (rows : List Row). row_at rows r.path) old
        ∙ at_row w.tree r (parts_of w.tree (subst (λ (rows : List Row). is_tree rows ≡ true) old x.tree)).once (in_filter (λ row. is_front x.top row.path) w.tree r i).0

both_from : {A : Type 0} (old new : Option A) (P : A → A → Type 0) (Q : A → Type 0) → Both old new P → ((a : A) → old ≡ Some a → Q a) → Both old new (λ a b. Q a × P a b)
both_from None None P Q both h = tt
both_from None (Some b) P Q both h = absurd both
both_from (Some a) None P Q both h = absurd both
both_from (Some a) (Some b) P Q both h = (h a refl, both)

-- ---- what was found stands in the tree

or_no : (a : Bool) → (a || false) ≡ a
or_no true = refl
or_no false = refl

hidden_by : (b : Bool) (x : Result Stood FsError) (there : Stood) → cond b (Err fs.NotFound) x ≡ Ok there → (b ≡ false) × (x ≡ Ok there)
hidden_by true x there e = cc
hidden_by false x there e = (refl, e)

-- a look that found something in the tree, and no file that stands for none
pub seen_row : (rules : Rules) (w : World) (path : WebPath) (there : Stood) → is_virtual rules path ≡ false → stands rules w path ≡ Ok there
    → ((rules.macos && is_localized (resolved rules w.tree path.names)) ≡ false) × (stood_at (has_slash rules.alone path) w (look w.tree (resolved rules w.tree path.names)) ≡ Ok there)
seen_row rules w path there plain is =
    let at : Names = resolved rules w.tree path.names in
    let shown : cond ((rules.macos && is_localized at) || false) (Err fs.NotFound) (stood_at (has_slash rules.alone path) w (look w.tree at)) ≡ Ok there =
    sym (ap (λ b. cond b (Ok empty_file) (cond ((rules.macos && is_localized at) || false) (Err fs.NotFound) (stood_at (has_slash rules.alone path) w (look w.tree at)))) plain) ∙ is in
    let (unhidden, stood) = hidden_by ((rules.macos && is_localized at) || false) (stood_at (has_slash rules.alone path) w (look w.tree at)) there shown in
    (sym (or_no (rules.macos && is_localized at)) ∙ unhidden, stood)

pub seen_stood : (rules : Rules) (w : World) (path : WebPath) (there : Stood) → rules.alone ≡ None → is_virtual rules path ≡ false → stands rules w path ≡ Ok there
    → ((rules.macos && is_localized (resolved rules w.tree path.names)) ≡ false) × (stood_at path.slash w (look w.tree (resolved rules w.tree path.names)) ≡ Ok there)
seen_stood rules w path there alone plain is =
    let seen = seen_row rules w path there plain is in
    (seen.0, sym (ap (λ (o : Option Names). stood_at (has_slash o path) w (look w.tree (resolved rules w.tree path.names))) alone) ∙ seen.1)

-- the empty file is no directory, and its name is one that stays
pub virtual_file : (rules : Rules) (w : World) (path : WebPath) (there : Stood) → is_virtual rules path ≡ true → stands rules w path ≡ Ok there → is_dir there.kind ≡ false
virtual_file rules w path there virtual is =
    let at : Names = resolved rules w.tree path.names in
    let shown : Ok empty_file ≡ Ok there =
    sym (ap (λ b. cond b (Ok empty_file) (cond ((rules.macos && is_localized at) || false) (Err fs.NotFound) (stood_at (has_slash rules.alone path) w (look w.tree at)))) virtual) ∙ is in
    let same : empty_file ≡ there = cc in ap (λ (x : Stood). is_dir x.kind) (sym same)

module _ {S C F L E : Type 0} (view : View S C F) (lists : Listings S C L E) (writes : Writes F) (c : C) (rules : Rules) (path : WebPath) (fields : Fields) (body : List ℕ) (start : S)
    (k : Knowledge) (follows : Follows view lists writes c rules k start) where
  abbrev ask : Ask
  ask = ask_for path fields body

  -- where the path is found
  abbrev top_in : World → Names
  top_in v = resolved rules v.tree path.names

  abbrev ToldIn : S → S → (World → World → Type 0) → Type 0
  ToldIn m n P = Told view lists writes c m n P

  abbrev Came : Line → List Act → S → World → World → Type 0
  Came l all t v w = Comes view fields start l all t v w

  -- ---- a file that stays by its name

  -- what the removal of such a file comes to: it is refused
  abbrev pub Stays : Line → World → World → Type 0
  Stays all u w = SameBesidesOpens u w × ((all ≡ Err dav.NoMemory) ⊎ (all ≡ Err (of_fs fs.Forbidden)))

  shut_or : (b : Bool) → is_forbidden rules path ≡ true → (is_forbidden rules path || b) ≡ true
  shut_or b e = ap (λ a. a || b) e

  -- what the removal of the path does
  abbrev Removal : S → Result Unit FsError → S → World → World → Type 0
  Removal m gone n v w = UnlessShut view lists writes c (is_forbidden rules path || has_slash rules.alone path) gone v w
      (IfFound view lists writes c rules v path (Calls view lists writes c (taking_file v.tree (top_in v)) m gone n v w))

  pub stays_told : (works : List Work) (m t : S) (all : Line) → works ≡ Whole path false ∷ [] → is_forbidden rules path ≡ true → Reached view lists writes c start m → Removes view lists c works m all t → ToldIn m t (Stays all)
  stays_told works m t all e shut reached (no_work x) = cc
  stays_told works m t all e shut reached (cut_short others x) = both_same (view.state x).told (view.state x).told (Stays (Err dav.NoMemory)) (λ w. (same_besides w, inl refl)) refl
  stays_told works m t all e shut reached (goes work others rest x n y l one more) = by work others one more (let f : work ≡ Whole path false = cc in f) (let f : others ≡ [] = cc in f)
    where
      by : (work : Work) (others : List Work) → RemovesOne view lists c work others x (Ok tt) n rest → Removes view lists c rest n l y → work ≡ Whole path false → others ≡ [] → ToldIn x y (Stays l)
      by work others one more is none = on (subst (λ z. RemovesOne view lists c z others x (Ok tt) n rest) is one)
        where
          on : RemovesOne view lists c (Whole path false) others x (Ok tt) n rest → ToldIn x y (Stays l)
          on (gone, call, ok, e) =
              let (same, ended) = none_more view lists c rest n y l (e ∙ none) more in
              both_map (view.state x).told (view.state y).told (Removal x gone n) (Stays l)
              (λ v w calls. absurd (let refused = (calls.refused (shut_or (has_slash rules.alone path) shut)).0 in let f : Ok tt ≡ line_of (Err fs.Forbidden) = ok ∙ ap line_of refused in cc))
              (subst (λ (z : S). Both (view.state x).told (view.state z).told (Removal x gone n)) (sym same) (follows.removes_file x n path gone reached call))
  stays_told works m t all e shut reached (stops work others rest x y d one) = by work one (let f : work ≡ Whole path false = cc in f)
    where
      by : (work : Work) → RemovesOne view lists c work others x (Err d) y rest → work ≡ Whole path false → ToldIn x y (Stays (Err d))
      by work one is = on (subst (λ z. RemovesOne view lists c z others x (Err d) y rest) is one)
        where
          on : RemovesOne view lists c (Whole path false) others x (Err d) y rest → ToldIn x y (Stays (Err d))
          on (gone, call, said, e) =
              both_map (view.state x).told (view.state y).told (Removal x gone y) (Stays (Err d))
              (λ v w calls. (let (refused, same) = calls.refused (shut_or (has_slash rules.alone path) shut) in (same, inr (said ∙ ap line_of refused))))
              (follows.removes_file x y path gone reached call)

  stays_comes : (all : Line) (t : S) (v w : World) → SameBesidesOpens v w → (all ≡ Err dav.NoMemory) ⊎ (all ≡ Err (of_fs fs.Forbidden)) → Came all (halts (line 403) ∷ []) t v w
  stays_comes all t v w same (inl e) = subst (λ z. Came z (halts (line 403) ∷ []) t v w) (sym e) (short_comes view fields start (halts (line 403) ∷ []) t v w same)
  stays_comes all t v w same (inr e) = subst (λ z. Came z (halts (line 403) ∷ []) t v w) (sym e) (halted_comes view fields start (of_fs fs.Forbidden) (line 403) [] t v w refl refl same)

  -- ---- what stands there goes

  -- the empty file is none of what goes
  no_virtual : (v : World) (there : Stood) (b : Bool) → stands rules v path ≡ Ok there → (is_forbidden rules path && not (is_dir there.kind)) ≡ false → is_virtual rules path ≡ b
      → is_virtual rules path ≡ false
  no_virtual v there false was open_at e = e
  no_virtual v there true was open_at e =
      let file = virtual_file rules v path there e was in
      let shut : (is_forbidden rules path && not (is_dir there.kind)) ≡ true =
      ap (λ b. (b || (rules.macos && is_localized path.names)) && not (is_dir there.kind)) e ∙ ap not file in
      not_both (is_forbidden rules path && not (is_dir there.kind)) shut open_at

  -- What stands there goes, where no file of its name stays.
  pub goes_whole : (alone : rules.alone ≡ None) (all : Line) (t : S) (there : Stood) (v u w : World) → IsWorld v → 0 < length path.names → TellsApart rules v → is_linked v.tree (top_in v) ≡ false
      → has_link_below v.tree (top_in v) ≡ false → SameBesidesOpens v u → stands rules v path ≡ Ok there
      → (is_forbidden rules path && not (is_dir there.kind)) ≡ false → Goes view lists writes c rules fields start k follows alone (Whole path (is_dir there.kind) ∷ []) all t u w
      → (x : Case) × (x.top ≡ top_in v) × (x.old ≡ v.tree) × Came all (acts rules x (walked v.tree (top_in v))) t v w × Ended view lists writes c rules fields start k follows alone all x w
  goes_whole alone all t there v u w world some apart clear below same was open_at work_goes =
      let top : Names = top_in v in
      let plain = no_virtual v there (is_virtual rules path) was open_at refl in
      let seen = seen_stood rules v path there alone plain was in
      let stood = found_at v (record path { names = top }) there (look v.tree top) refl seen.1 in
      let long : length path.names ≡ length top = sym (ap length (ap (λ o. or_walk o (resolved_from rules.folds v.tree [] path.names)) alone) ∙ found_length rules.folds v.tree path.names) in
      let some_top : 0 < length top = subst (λ n. 0 < n) long some in
      let both = removed_whole view lists writes c rules fields start k follows alone path top (is_dir there.kind) all t v u w world some_top long clear below apart refl
      (record { row = stood.row; in_tree = stood.in_tree; at = stood.at; kind = sym stood.kind }) (λ e. stood.slash e clear)
      (λ file. (no_name (is_dir there.kind) refl file stood, keeps_file_row rules v.tree (parts_of v.tree world.tree) top file ∙ seen.0)) same work_goes in
      (began path top v world some_top long clear below, refl, refl, both.0, both.1)
    where
      no_name : (d : Bool) → is_dir there.kind ≡ d → StandsAs v.tree (top_in v) false → (f : Found v (record path { names = top_in v }) there) → is_forbidden rules path ≡ false
      no_name false e file f = and_open (is_forbidden rules path) (ap (λ b. is_forbidden rules path && not b) (sym e) ∙ open_at)
        where
          and_open : (a : Bool) → (a && true) ≡ false → a ≡ false
          and_open true e = e
          and_open false e = refl
      no_name true e file f =
          let one : file.row ≡ f.row = only_row v.tree file.row f.row (parts_of v.tree world.tree) file.in_tree f.in_tree (file.at ∙ sym f.at) in
          not_both (is_dir file.row.kind) (ap (λ (r : Row). is_dir r.kind) one ∙ (sym f.kind ∙ e)) file.kind

  -- ---- what the removal makes of the world before the look

  -- What its acts come to, where no link is met and no file of its name stays.
  abbrev pub Clears : Bool → Line → S → World → World → Type 0
  Clears dir all t u w = (v : World) (there : Stood) → IsWorld v → 0 < length path.names → TellsApart rules v → (is_linked v.tree (top_in v) ≡ false) × (has_link_below v.tree (top_in v) ≡ false)
      → SameBesidesOpens v u → stands rules v path ≡ Ok there → is_dir there.kind ≡ dir → (is_forbidden rules path && not (is_dir there.kind)) ≡ false
      → Came all (removing rules v path) t v w

  -- rows at the path and below it
  all_clears : (alone : rules.alone ≡ None) (dir : Bool) (all : Line) (t : S) (u w : World) → Goes view lists writes c rules fields start k follows alone (Whole path dir ∷ []) all t u w
      → Clears dir all t u w
  all_clears alone dir all t u w work_goes v there world some apart clear same was is open_at =
      let (x, top, old, came, ended) = goes_whole alone all t there v u w world some apart clear.0 clear.1 same was open_at
      (subst (λ d. Goes view lists writes c rules fields start k follows alone (Whole path d ∷ []) all t u w) (sym is) work_goes) in
      subst (λ z. Came all z t v w) (sym (planned rules v path x alone top old ∙ ap (λ z. acts rules x (walked v.tree z)) top)) came

  -- the one file that each path names
  one_clears : (file : Names) (alone : rules.alone ≡ Some file) (dir : Bool) (all : Line) (t : S) (u w : World) → IsWorld u × Taken view lists writes c rules fields start k follows file alone path dir all t u w
      → Clears dir all t u w
  one_clears file alone dir all t u w (now, taken) v there world some apart clear same was is open_at =
      let at : top_in v ≡ file = ap (λ o. or_walk o (resolved_from rules.folds v.tree [] path.names)) alone in
      let seen = seen_row rules v path there (no_virtual v there (is_virtual rules path) was open_at refl) was in
      let looked : stood_at false v (look v.tree file) ≡ Ok there =
      ap (λ (o : Option Names). stood_at (has_slash o path) v (look v.tree file)) (sym alone) ∙ (ap (λ z. stood_at (has_slash rules.alone path) v (look v.tree z)) (sym at) ∙ seen.1) in
      let stood = dir_found v file there (look v.tree file) refl looked in
      subst (λ z. Came all z t v w) (sym (ap (λ o. removing_by o rules v path) alone))
      (comes_after view fields start all (one_acts v.tree file path) t v u w (one_none v.tree file path) same
      (subst (λ (rows : List Row). Came all (one_acts rows file path) t u w) same.tree
      (taken (record {
        world = now;
        apart = λ folds. ap no_twins same.tree ∙ apart folds;
        free = ap (λ (rows : List Row). is_linked rows file) same.tree ∙ (ap (is_linked v.tree) (sym at) ∙ clear.0);
        below = ap (λ (rows : List Row). has_link_below rows file) same.tree ∙ (ap (has_link_below v.tree) (sym at) ∙ clear.1);
      }) (ap (λ (rows : List Row). has_dir rows file) same.tree ∙ (stood ∙ is)))))

  -- What stands there goes as the plan says, under all rules.
  pub clears : (o : Option Names) → rules.alone ≡ o → (dir : Bool) (m t : S) (all : Line) → Reached view lists writes c start m → (is_forbidden rules path && not dir) ≡ false
      → Removes view lists c (Whole path dir ∷ []) m all t → ToldIn m t (Clears dir all t)
  clears None alone dir m t all reached open_at removes =
      both_map (view.state m).told (view.state t).told (Goes view lists writes c rules fields start k follows alone (Whole path dir ∷ []) all t) (Clears dir all t)
      (λ u w work_goes. all_clears alone dir all t u w work_goes) (removed view lists writes c rules fields start k follows alone (Whole path dir ∷ []) m t all removes reached)
  clears (Some file) alone dir m t all reached open_at removes =
      both_map (view.state m).told (view.state t).told _ (Clears dir all t) (λ u w taken. one_clears file alone dir all t u w taken)
      (both_from (view.state m).told (view.state t).told (Taken view lists writes c rules fields start k follows file alone path dir all t) IsWorld
      (one_removed view lists writes c rules fields start k follows file alone path dir m t all open_at reached removes) (λ u told. follows.trees m u reached told))

  -- ---- the request, line by line

  abbrev request : by_plan.Case view lists writes c plan_for links_for
  request = record { rules = rules; knows = k; ask = ask; s = start; follows = follows }

  abbrev Answered : Given → S → Type 0
  Answered r t = by_plan.Right view lists writes c plan_for links_for request r t

  abbrev Known : S → (World → Type 0) → Type 0
  Known n P = At view lists writes c plan_for links_for request n P

  abbrev Plans : (World → List (Option Halt)) → World → Type 0
  Plans lines v = Acts view lists writes c plan_for links_for request lines (λ v. removing rules v path) v

  links : (v : World) → Clear view lists writes c plan_for links_for request v → (is_linked v.tree (top_in v) ≡ false) × (has_link_below v.tree (top_in v) ≡ false)
  links v clear = or_parts (is_linked v.tree (top_in v)) (has_link_below v.tree (top_in v)) clear.links

  abbrev root_line : World → Option Halt
  root_line v = when (is_root path.names) 403

  abbrev look_line : World → Option Halt
  look_line v = first (refused (stands rules v path) ∷ unmet Delete fields (stands rules v path) ∷ [])

  abbrev keep_line : World → Option Halt
  keep_line v = when (keeps_file rules path (stands rules v path)) 403

  -- what is known behind the look and its lines
  abbrev Seen : Result Info FsError → World → Type 0
  Seen found v = ((Unit {0} × (root_line v ≡ None)) × Finds (stands rules v path) found) × (look_line v ≡ None)

  -- The acts of the plan, by whether a file of that name stays.
  acts_by_name : (found : Result Info FsError) (v : World) (b : Bool) → Plans (λ v. keep_line v ∷ []) v → Finds (stands rules v path) found → (is_forbidden rules path && not (is_dir_there found)) ≡ b
      → (delete_plan rules v ask).acts ≡ unless (first (when b 403 ∷ [])) (removing rules v path)
  acts_by_name found v b plans finds e =
      plans
      ∙ ap (λ z. unless (first (when z 403 ∷ [])) (removing rules v path)) (ap (λ d. is_forbidden rules path && not d) (sym (found_dir (stands rules v path) found finds)) ∙ e)

  -- What stands there goes, unless it is a file that stays by its name.
  behind_look : (found : Result Info FsError) (n : S) (r : Given) (t : S) → Reached view lists writes c start n → Known n (λ v. Plans (λ v. keep_line v ∷ []) v × Seen found v)
      → RemovesAll view lists c path (is_dir_there found) n r t → Answered r t
  behind_look found n r t reached at (all, gone, is) = subst (λ z. Answered z t) (sym is) (by (is_forbidden rules path && not (is_dir_there found)) refl)
    where
      both_parts : (a b : Bool) → (a && not b) ≡ true → (a ≡ true) × (b ≡ false)
      both_parts true true f = cc
      both_parts true false f = (refl, refl)
      both_parts false b f = cc

      by : (b : Bool) → (is_forbidden rules path && not (is_dir_there found)) ≡ b → Answered (the.unless all the.silent) t
      by true shut =
          let parts = both_parts (is_forbidden rules path) (is_dir_there found) shut in
          both_then (view.state start).told (view.state n).told (view.state t).told _ (Stays all) _
          (λ v u w p kept clear. comes_ends view lists writes c plan_for links_for request all the.silent (halts (line 403) ∷ []) t v w
          (acts_by_name found v true (p.1 clear).0 (p.1 clear).1.0.1 shut) refl (stays_comes all t v w (same_besides_then v u w p.0 kept.0) kept.1))
          at
          (stays_told (Whole path (is_dir_there found) ∷ []) n t all (ap (λ d. Whole path d ∷ []) parts.1) parts.0 reached gone)
      by false open_at =
          both_then (view.state start).told (view.state n).told (view.state t).told _ (Clears (is_dir_there found) all t) _
          (λ v u w p cleared clear. (let known = p.1 clear in
          let (there, was) = found_ok (stands rules v path) (none_two (refused (stands rules v path)) (unmet Delete fields (stands rules v path)) known.1.1).0 in
          let dir : is_dir there.kind ≡ is_dir_there found = sym (found_dir (stands rules v path) found known.1.0.1 ∙ ap is_dir_found was) in
          comes_ends view lists writes c plan_for links_for request all the.silent (removing rules v path) t v w (acts_by_name found v false known.0 known.1.0.1 open_at) refl
          (cleared v there clear.world (some_names path.names known.1.0.0.1) clear.regular.apart (links v clear) p.0 was dir (ap (λ d. is_forbidden rules path && not d) dir ∙ open_at))))
          at
          (clears rules.alone refl (is_dir_there found) n t all reached open_at gone)

  behind_root : (r : Given) (t : S) → Known start (λ v. Plans (λ v. look_line v ∷ keep_line v ∷ []) v × (Unit {0} × (root_line v ≡ None)))
      → LooksAtLink view lists c path (λ found. Unless (may_delete fields found) (RemovesAll view lists c path (is_dir_there found))) start r t → Answered r t
  behind_root r t at (found, m, call, next) =
      seen_stage view lists writes c plan_for links_for request Answered (λ d t right. right) path (may_delete fields) (record { failed = refl; short = refl }) look_line (λ v. keep_line v ∷ [])
      (λ v. removing rules v path) (λ v. Unit {0} × (root_line v ≡ None)) (λ v found finds. delete_match fields (stands rules v path) found finds) (λ v clear. (links v clear).0)
      (RemovesAll view lists c path (is_dir_there found)) found start m r t here (follows.looks_at_link start m path found here call) at
      (λ at goes. behind_look found m r t (looks_at_link start m path found here call) at goes) next

  ends_right : (r : Given) (t : S) → Deletes view lists c path fields start r t → Answered r t
  ends_right r t run =
      passed_stage view lists writes c plan_for links_for request Answered (λ d t right. right) (fails_when (own.is_root path.names) 403) root_line (λ v. look_line v ∷ keep_line v ∷ [])
      (λ v. removing rules v path) (λ v. Unit {0}) start (LooksAtLink view lists c path (λ found. Unless (may_delete fields found) (RemovesAll view lists c path (is_dir_there found)))) r t
      (at_first view lists writes c plan_for links_for request _ (λ v. (lines_are v, inl (when_match (own.is_root path.names) (is_root path.names) 403 (roots_are path.names), tt))))
      (λ at goes. behind_root r t at goes) run
    where
      lines_are : (v : World) → Plans (λ v. root_line v ∷ look_line v ∷ keep_line v ∷ []) v
      lines_are v =
          ap (λ l. unless l (removing rules v path))
          (first_more (root_line v) (refused (stands rules v path) ∷ unmet Delete fields (stands rules v path) ∷ keep_line v ∷ []) (look_line v ∷ keep_line v ∷ [])
          (first_two (refused (stands rules v path)) (unmet Delete fields (stands rules v path)) (keep_line v ∷ [])))

  pub deletes_right : (r : Given) (t : S) → Deletes view lists c path fields start r t → ToldIn start t (λ v w. IsRegular rules k v → RightIn view lists writes c rules ask start r t v w)
  deletes_right r t run = right_in view lists writes c rules k start follows ask r t (ends_right r t run)
