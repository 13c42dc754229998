-- COPY over one file that is served alone, where a directory without members came in the file's place and went: it is made again, and
-- has no members to be copied.
-- Headline: `one_copies`.
use Rattle.std.proofs.Common.{◌≡◌, ◌⊎◌, ◌&&◌, ◌||◌, List, [], ◌∷◌, map, is_some, Bool, true, false, not, cond, Option, None, Some, Result, Ok, Err, refl, sym, ap, subst, ◌∙◌, inl, inr}
use Rattle.std.specs.List.{filter, list_all}
use Rattle.dav_io.specs.Told.{Both}
use Rattle.dav_io.proofs.ToldLemmas.{both_map, both_same, both_then}
use Rattle.dav_core.specs.declared.dav_error.DavError.{DavError}
use Rattle.dav_core.specs.declared.dav_error.DavError.TheVariants as dav
use Rattle.dav_core.specs.declared.error.FsError.{FsError}
use Rattle.dav_core.specs.declared.error.FsError.TheVariants as fs
use Rattle.dav_core.specs.declared.tree.Kind.TheVariants.{Dir}
use Rattle.dav_core.specs.declared.tree.Row.{Row}
use Rattle.dav_core.specs.Allowed.{making_dir}
use Rattle.dav_core.specs.Changes.{is_leaf}
use Rattle.dav_core.specs.Edits.{Edited, makes}
use Rattle.dav_core.specs.Info.{Info}
use Rattle.dav_core.specs.Listing.{stands_in}
use Rattle.dav_core.specs.Path.{Names, is_front, same_names}
use Rattle.dav_core.specs.Statuses.{of_fs}
use Rattle.dav_core.specs.Tree.{has_dir, is_dir, is_dir_row, is_link, is_linked, row_at}
use Rattle.dav_core.specs.World.{IsWorld, SameBesidesOpens, World}
use Rattle.dav_core.proofs.UnchangedLemmas.{same_besides, same_besides_then}
use Rattle.dav_core.proofs.Paths.{names_equal}
use Rattle.dav_core.proofs.Elements.{In, all_in}
use Rattle.dav_store.specs.View.{Listings, View}
use Rattle.dav_model.specs.declared.asked.Asked.{Asked}
use Rattle.dav_model.specs.CarryPlans.{carrying, fill_acts, hides, made_again, made_by}
use Rattle.dav_model.specs.Finding.{is_clear, is_forbidden, resolved}
use Rattle.dav_model.specs.Head.{Stood}
use Rattle.dav_model.specs.Plans.{Act, does, halts, is_dir_found, is_found, line, making, stands, unless, when}
use Rattle.dav_model.specs.Rules.{Rules}
use Rattle.dav_model.specs.Valid.{TellsApart}
use Rattle.dav_model.specs.Walks.{dir_first, in_order}
use Rattle.dav_walks.specs.declared.child.Child.{Child}
use Rattle.dav_walks.specs.declared.transfer.Transfer.{Transfer}
use Rattle.dav_methods.specs.Carrying.{transfer}
use Rattle.dav_walks.specs.Copying.{AfterMaking, Copies, CopiesBy, CopiesDir, Enters, ReadsInto, goes, stops, transfers_in, done as no_work, short as cut_short}
use Rattle.dav_walks.specs.Follows.{Calls, FailsToList, IfFound, ListsBy, Reached, Told, UnlessShut, child_of, children_in, copies as copies_on, makes_dir as makes_on}
use Rattle.dav_walks.specs.Lines.{Line}
use Rattle.dav_methods.specs.Lines.{is_dir_there}
use Rattle.dav_walks.specs.Pouring.{Writes}
use Rattle.dav_walks.specs.Removing.{is_deep, line_of}
use Rattle.dav_walks.proofs.calls.ActsJoined.{Comes, FillsNone, comes_behind, halted_comes, short_comes, spoiled_comes}
use Rattle.dav_walks.proofs.trees.OthersStay.{unlinked_from}
use Rattle.dav_walks.proofs.calls.CallsDoActs.{call_comes, call_done}
use Rattle.dav_methods.proofs.plans.CarryLooks.{Request}
use Rattle.dav_methods.proofs.plans.CarryOverOneFile.{Does, GoesOne, Looked, found_any, one_place}
use Rattle.dav_methods.proofs.plans.CopyLastAct.{judged_plan}
use Rattle.dav_walks.proofs.copies.CopyPlaces.{made_apart}
use Rattle.dav_walks.proofs.copies.WhileCopied.{dir_made, older}
use Rattle.dav_walks.proofs.calls.ListingsLead.{listed_on, unread_on}
use Rattle.dav_walks.proofs.trees.OneFileGone.{Gone, dir_makes}
use Rattle.dav_walks.proofs.removals.OneFileRemoved.{has_none}
use Rattle.dav_walks.proofs.trees.TreeRows.{at_row, parts_of}

-- ---- the directory that was made

-- It stands there, without members, and no link is met on the way.
pub record Made (rules : Rules) (file : Names) (w : World) : Type 0 where
  pub apart : TellsApart rules w
  pub dir : has_dir w.tree file ≡ true
  pub leaf : is_leaf file w.tree ≡ true
  pub clear : is_linked w.tree file ≡ false

made_there : (rules : Rules) (file : Names) (u w : World) → IsWorld w → Gone rules file u → Edited (makes file Dir []) u w → Made rules file w
made_there rules file u w world gone edited =
    let d = dir_made file [] u w edited in
    record {
      apart = made_apart (record rules { alone = None }) refl file Dir [] u w gone.apart gone.lone edited;
      dir = ap is_dir_row (ap (row_at w.tree) (sym d.at) ∙ at_row w.tree d.row (parts_of w.tree world.tree).once d.in_tree) ∙ d.dir;
      leaf = all_in (λ row. not (is_front file row.path) || same_names file row.path) w.tree (λ r i. alone_there r (older file Dir [] u w edited r i));
      clear = unlinked_from u.tree w.tree file (λ r i link. no_link r link (older file Dir [] u w edited r i)) gone.clear;
    }
  where
    alone_there : (r : Row) → ((x : Row) × In x u.tree × (x.path ≡ r.path) × (x.kind ≡ r.kind)) ⊎ ((file ≡ r.path) × (Dir ≡ r.kind)) → (not (is_front file r.path) || same_names file r.path) ≡ true
    alone_there r (inl (x, i, at, own)) = ap (λ b. not b || same_names file r.path) (ap (is_front file) (sym at) ∙ gone.vacant.free x i)
    alone_there r (inr (at, own)) = or_true (not (is_front file r.path)) (names_equal file r.path at)
      where
        or_true : (a : Bool) {b : Bool} → b ≡ true → (a || b) ≡ true
        or_true true e = refl
        or_true false e = e

    no_link : (r : Row) → is_link r.kind ≡ true → ((x : Row) × In x u.tree × (x.path ≡ r.path) × (x.kind ≡ r.kind)) ⊎ ((file ≡ r.path) × (Dir ≡ r.kind))
        → (x : Row) × In x u.tree × (x.path ≡ r.path) × (x.kind ≡ r.kind)
    no_link r link (inl old) = old
    no_link r link (inr (at, own)) = let never : false ≡ true = ap is_link own ∙ link in cc

-- Nothing stands in it.
made_clear : (rules : Rules) (file : Names) (w : World) → Made rules file w → is_clear w.tree file ≡ true
made_clear rules file w m =
    ap (λ b. not b && list_all (λ row. not (is_linked w.tree row.path)) (filter (stands_in file) w.tree)) m.clear
    ∙ ap (list_all (λ (row : Row). not (is_linked w.tree row.path))) (has_none w.tree file m.leaf)

module _ {S C F L E : Type 0} (view : View S C F) (lists : Listings S C L E) (writes : Writes F) (c : C) (asked : Asked) (x : Request view lists writes c asked) (file : Names)
    (alone : x.rules.alone ≡ Some file) where
  abbrev Here : S → Type 0
  Here n = Reached view lists writes c x.s n

  abbrev ToldIn : S → S → (World → World → Type 0) → Type 0
  ToldIn m n P = Told view lists writes c m n P

  abbrev Came : Line → List Act → S → World → World → Type 0
  Came all acts t v w = Comes view x.ask.fields x.s all acts t v w

  abbrev Seen : Result Info FsError → World → Type 0
  Seen found v = Looked view lists writes c asked x file alone found v

  at_file : (tree : List Row) (names : Names) → resolved x.rules tree names ≡ file
  at_file tree names = one_place x.rules file alone tree names

  -- what goes from the source
  abbrev work : Result Info FsError → Transfer
  work found = transfer x.ask.path asked found

  -- ---- the plan

  abbrev shut_from : Bool → Bool
  shut_from dir = is_forbidden x.rules x.ask.path && not dir

  plan_is : (found : Result Info FsError) (v : World) (b : Bool) → Seen found v → shut_from (is_dir_there found) ≡ b
      → carrying false x.rules v x.ask.path asked ≡ unless (when b 403) (made_again x.rules x.ask.path asked.to file)
  plan_is found v b p e =
      let judged : is_dir_found (stands x.rules v x.ask.path) ≡ is_dir_there found = ap is_dir_found p.stood ∙ p.kind in
      let (there, stood, more) = found_any x.rules file alone v p.instead asked.to in
      let shown : hides x.rules v asked.to ≡ false = ap (λ (y : Result Stood FsError). not (is_found y) && is_some (row_at v.tree (resolved x.rules v.tree asked.to.names))) stood in
      judged_plan x.rules v x.ask.path asked.to asked.alone b (ap (λ d. is_forbidden x.rules x.ask.path && not d) judged ∙ e)
      ∙ (ap (λ z. unless (when b 403) (cond z (fill_acts x.rules v x.ask.path asked.to (row_at v.tree (resolved x.rules v.tree x.ask.path.names))) (made_by x.rules.alone x.rules v x.ask.path asked.to asked.alone))) shown
      ∙ ap (λ o. unless (when b 403) (made_by o x.rules v x.ask.path asked.to asked.alone)) alone)

  again_none : (b : Bool) → FillsNone (unless (when b 403) (does (makes file Dir []) ∷ []))
  again_none true = tt
  again_none false = tt

  plan_none : (b : Bool) → FillsNone (unless (when b 403) (made_again x.rules x.ask.path asked.to file))
  plan_none true = tt
  plan_none false = again_none (is_deep x.ask.path || is_forbidden x.rules asked.to)

  -- ---- the rest of the work, of which there is none where no member was read

  abbrev NoMore : List Transfer → Line → World → World → Type 0
  NoMore rest all v w = rest ≡ [] → SameBesidesOpens v w × ((all ≡ Ok tt) ⊎ (all ≡ Err dav.NoMemory))

  abbrev Stayed : World → World → Type 0
  Stayed v w = Unit {0}

  some_told : (P : World → World → Type 0) (m n : S) → ToldIn m n P → ToldIn m n Stayed
  some_told P m n told = both_map (view.state m).told (view.state n).told P Stayed (λ v w p. tt) told

  same_told : (m n : S) → n ≡ m → ToldIn m n Stayed
  same_told m n e = rw e (both_same (view.state m).told (view.state m).told Stayed (λ v. tt) refl)

  -- where a step leads, something is told
  abbrev Leads : S → S → Type 0
  Leads m n = Here n × ToldIn m n Stayed

  then_leads : (m k n : S) → ToldIn m k Stayed → Leads k n → Leads m n
  then_leads m k n first (reached, more) = (reached, both_then (view.state m).told (view.state k).told (view.state n).told Stayed Stayed Stayed (λ v u w p q. tt) first more)

  read_leads : (y : Transfer) (others rest : List Transfer) (m n : S) (r : Line) → Here m → ReadsInto view lists c y others m r n rest → Leads m n
  read_leads y others rest m n (Ok z) reached (members, has, is) = (listed_on view lists writes c x.s m n y.from has.listed reached has.was, some_told _ m n (x.given.members m n y.from members reached has))
  read_leads y others rest m n (Err e) reached (inl (refusal, has, is)) = (unread_on view lists writes c x.s m n y.from refusal reached has.why, some_told _ m n (x.given.no_members m n y.from refusal reached has))
  read_leads y others rest m n (Err e) reached (inr (members, has, is)) =
      (listed_on view lists writes c x.s m n y.from has.listed reached has.was, some_told _ m n (x.given.members m n y.from members reached has))

  enters_leads : (bare : Bool) (y : Transfer) (others rest : List Transfer) (m n : S) (r : Line) → Here m → Enters view lists c asked.alone bare y others m r n rest → Leads m n
  enters_leads true y others rest m n r reached (same, ok, is) = (subst Here (sym same) reached, same_told m n same)
  enters_leads false y others rest m n r reached reads = read_leads y others rest m n r reached reads

  making_leads : (made : Result Unit FsError) (y : Transfer) (others rest : List Transfer) (m n : S) (r : Line) → Here m → AfterMaking view lists c asked.alone made y others m r n rest → Leads m n
  making_leads (Ok z) y others rest m n r reached after = enters_leads asked.alone y others rest m n r reached after
  making_leads (Err e) y others rest m n r reached (same, is) = (subst Here (sym same) reached, same_told m n same)

  dir_leads : (deep : Bool) (y : Transfer) (others rest : List Transfer) (m n : S) (r : Line) → Here m → CopiesDir view lists c asked.alone deep y others m r n rest → Leads m n
  dir_leads true y others rest m n r reached (same, is) = (subst Here (sym same) reached, same_told m n same)
  dir_leads false y others rest m n r reached (made, k, call, after) =
      then_leads m k n (some_told _ m k (x.given.makes_dir m k y.to made reached call)) (making_leads made y others rest k n r (makes_on m k y.to made reached call) after)

  one_leads : (dir : Bool) (y : Transfer) (others rest : List Transfer) (m n : S) (r : Line) → Here m → CopiesBy view lists c asked.alone dir y others m r n rest → Leads m n
  one_leads true y others rest m n r reached one = dir_leads (is_deep y.from) y others rest m n r reached one
  one_leads false y others rest m n r reached (copied, call, ok, is) = (copies_on m n y.from y.to copied reached call, some_told _ m n (x.given.copies m n y.from y.to copied reached call))

  all_told : (works : List Transfer) (m t : S) (all : Line) → Copies view lists c asked.alone works m all t → Here m → ToldIn m t Stayed
  all_told works m t all (no_work s) reached = same_told s s refl
  all_told works m t all (cut_short others s) reached = same_told s s refl
  all_told works m t all (goes y others rest s k n r one more) reached =
      let (on, told) = one_leads y.dir y others rest s k (Ok tt) reached one in
      both_then (view.state s).told (view.state k).told (view.state n).told Stayed Stayed Stayed (λ v u w p q. tt) told (all_told rest k n r more on)
  all_told works m t all (stops y others rest s n e one) reached = (one_leads y.dir y others rest s n (Err e) reached one).1

  rest_told : (works : List Transfer) (m t : S) (all : Line) → Copies view lists c asked.alone works m all t → Here m → ToldIn m t (NoMore works all)
  rest_told works m t all (no_work s) reached = both_same (view.state s).told (view.state s).told (NoMore [] (Ok tt)) (λ v e. (same_besides v, inl refl)) refl
  rest_told works m t all (cut_short others s) reached = both_same (view.state s).told (view.state s).told (NoMore others (Err dav.NoMemory)) (λ v e. (same_besides v, inr refl)) refl
  rest_told works m t all (goes y others rest s k n r one more) reached =
      both_map (view.state s).told (view.state n).told Stayed (NoMore (y ∷ others) r) (λ v w p e. cc) (all_told (y ∷ others) s n r (goes y others rest s k n r one more) reached)
  rest_told works m t all (stops y others rest s n e one) reached =
      both_map (view.state s).told (view.state n).told Stayed (NoMore (y ∷ others) (Err e)) (λ v w p e. cc) (all_told (y ∷ others) s n (Err e) (stops y others rest s n e one) reached)

  -- ---- the making

  -- what the making does, and what it comes to
  abbrev Makes : Result Unit FsError → S → S → World → World → Type 0
  Makes made m k u w = UnlessShut view lists writes c (is_forbidden x.rules asked.to) made u w (IfFound view lists writes c x.rules u asked.to (Calls view lists writes c (making x.rules u asked.to) m made k u w))

  abbrev again : List Act
  again = unless (when (is_deep x.ask.path || is_forbidden x.rules asked.to) 403) (does (makes file Dir []) ∷ [])

  makes_there : (u : World) → Gone x.rules file u → making x.rules u asked.to ≡ Ok (Some (makes file Dir []))
  makes_there u gone = ap (making_dir u.tree) (at_file u.tree asked.to.names) ∙ dir_makes u.tree file gone.vacant

  called : (made : Result Unit FsError) (m k : S) (u w : World) → Gone x.rules file u → is_forbidden x.rules asked.to ≡ false → Makes made m k u w → Calls view lists writes c (making x.rules u asked.to) m made k u w
  called made m k u w gone open_at did = did.called open_at gone.apart (ap (is_linked u.tree) (at_file u.tree asked.to.names) ∙ gone.clear)

  again_is : (b : Bool) → is_deep x.ask.path ≡ false → is_forbidden x.rules asked.to ≡ b → again ≡ unless (when b 403) (does (makes file Dir []) ∷ [])
  again_is b shallow e = ap (λ z. unless (when (z || is_forbidden x.rules asked.to) 403) (does (makes file Dir []) ∷ [])) shallow ∙ ap (λ z. unless (when z 403) (does (makes file Dir []) ∷ [])) e

  -- it was refused
  not_made : (f : FsError) (m k : S) (u w : World) → Here m → is_deep x.ask.path ≡ false → Gone x.rules file u → Makes (Err f) m k u w → Came (Err (of_fs f)) again k u w
  not_made f m k u w reached shallow gone did = by (is_forbidden x.rules asked.to) refl
    where
      by : (b : Bool) → is_forbidden x.rules asked.to ≡ b → Came (Err (of_fs f)) again k u w
      by true e =
          let (is, same) = did.refused e in
          subst (λ a. Came (Err (of_fs f)) a k u w) (sym (again_is true shallow e))
          (subst (λ z. Came (line_of z) (halts (line 403) ∷ []) k u w) (sym is) (halted_comes view x.ask.fields x.s (of_fs fs.Forbidden) (line 403) [] k u w refl refl same))
      by false e =
          subst (λ a. Came (Err (of_fs f)) a k u w) (sym (again_is false shallow e))
          (call_comes view lists writes c x.ask.fields x.s (making x.rules u asked.to) (makes file Dir []) m k (Err f) u w (makes_there u gone) (x.given.counts m reached) (called (Err f) m k u w gone e did))

  -- It was done: what follows is all that is left.
  made_so : (m k : S) (u w : World) → is_deep x.ask.path ≡ false → Gone x.rules file u → Makes (Ok tt) m k u w → Edited (makes file Dir []) u w × (again ≡ does (makes file Dir []) ∷ [])
  made_so m k u w shallow gone did = by (is_forbidden x.rules asked.to) refl
    where
      by : (b : Bool) → is_forbidden x.rules asked.to ≡ b → Edited (makes file Dir []) u w × (again ≡ does (makes file Dir []) ∷ [])
      by true e = let never : ◌≡◌ {A = Result Unit FsError} (Ok tt) (Err fs.Forbidden) = (did.refused e).0 in cc
      by false e = (
        call_done view lists writes c x.ask.fields x.s (making x.rules u asked.to) (makes file Dir []) m k tt u w (makes_there u gone) (called (Ok tt) m k u w gone e did),
        again_is false shallow e,
      )

  -- What comes after the making comes to nothing.
  abbrev Nothing : Line → S → World → World → Type 0
  Nothing all t w z = IsWorld w → Made x.rules file w → Came all [] t w z

  no_more : (all : Line) (t : S) (w z : World) → SameBesidesOpens w z → (all ≡ Ok tt) ⊎ (all ≡ Err dav.NoMemory) → Came all [] t w z
  no_more all t w z same (inl e) = subst (λ r. Came r [] t w z) (sym e) same
  no_more all t w z same (inr e) = subst (λ r. Came r [] t w z) (sym e) (short_comes view x.ask.fields x.s [] t w z same)

  -- no member is listed
  none_listed : (members : List Child) (w z : World) → ListsBy view lists writes c x.rules x.ask.path members w z → Made x.rules file w → members ≡ []
  none_listed members w z lists made =
      lists.1 made.apart (ap (is_clear w.tree) (at_file w.tree x.ask.path.names) ∙ made_clear x.rules file w made)
      ∙ (ap (λ at. children_in w.tree at x.ask.path) (at_file w.tree x.ask.path.names)
      ∙ ap (λ rows. map (child_of x.ask.path) (in_order dir_first rows)) (has_none w.tree file made.leaf))

  read_on : (y : Transfer) (rest : List Transfer) (k n t : S) (all : Line) → y.from ≡ x.ask.path → Here k → ReadsInto view lists c y [] k (Ok tt) n rest → Copies view lists c asked.alone rest n all t
      → ToldIn k t (Nothing all t)
  read_on y rest k n t all own reached (members, has, is) more =
      both_then (view.state k).told (view.state n).told (view.state t).told (ListsBy view lists writes c x.rules y.from members) (NoMore rest all) (Nothing all t)
      (λ w z end listed none world made.
      let empty = none_listed members w z (subst (λ p. ListsBy view lists writes c x.rules p members w z) own listed) made in
      let (same, ends) = none (is ∙ ap (λ ms. transfers_in y.to ms []) empty) in
      no_more all t w end (same_besides_then w z end listed.0 same) ends)
      (x.given.members k n y.from members reached has)
      (rest_told rest n t all more (listed_on view lists writes c x.s k n y.from has.listed reached has.was))

  read_not : (y : Transfer) (rest : List Transfer) (k t : S) (e : DavError) → y.from ≡ x.ask.path → Here k → ReadsInto view lists c y [] k (Err e) t rest → ToldIn k t (Nothing (Err e) t)
  read_not y rest k t e own reached (inl (refusal, has, is)) =
      both_map (view.state k).told (view.state t).told (FailsToList view lists writes c x.rules y.from k refusal t) (Nothing (Err e) t)
      (λ w z fails world made. (let f = subst (λ p. FailsToList view lists writes c x.rules p k refusal t w z) own fails in
      spoiled_comes view x.ask.fields x.s refusal e [] k t w z is (x.given.counts k reached)
      (f.1 made.apart (ap (is_clear w.tree) (at_file w.tree x.ask.path.names) ∙ made_clear x.rules file w made) (ap (has_dir w.tree) (at_file w.tree x.ask.path.names) ∙ made.dir)) f.0))
      (x.given.no_members k t y.from refusal reached has)
  read_not y rest k t e own reached (inr (members, has, is)) =
      both_map (view.state k).told (view.state t).told (ListsBy view lists writes c x.rules y.from members) (Nothing (Err e) t)
      (λ w z listed world made. subst (λ d. Came (Err d) [] t w z) (sym is) (short_comes view x.ask.fields x.s [] t w z listed.0)) (x.given.members k t y.from members reached has)

  -- ---- the copy

  -- what it comes to
  abbrev Copied : Result Info FsError → Line → S → World → World → Type 0
  Copied found all t u w = (v : World) → Seen found v → Gone x.rules file u → Does view lists writes c asked x file alone false all t v u w

  -- by what is said where the path isn't shut
  copied_so : (found : Result Info FsError) (all : Line) (t : S) (u w : World) → is_dir_there found ≡ true → (Gone x.rules file u → Came all again t u w) → Copied found all t u w
  copied_so found all t u w dir came v p gone =
      let is = plan_is found v false p (ap (λ d. is_forbidden x.rules x.ask.path && not d) dir ∙ and_no (is_forbidden x.rules x.ask.path)) in
      (subst FillsNone (sym is) (plan_none false), subst (λ a. Came all a t u w) (sym is) (came gone))
    where
      and_no : (b : Bool) → (b && false) ≡ false
      and_no true = refl
      and_no false = refl

  -- what the making and what follows come to
  joined : (all : Line) (m k t : S) → is_deep x.ask.path ≡ false → Here k → ToldIn m k (Makes (Ok tt) m k) → ToldIn k t (Nothing all t) → ToldIn m t (λ u w. Gone x.rules file u → Came all again t u w)
  joined all m k t shallow reached did after =
      both_then (view.state m).told (view.state k).told (view.state t).told (Makes (Ok tt) m k) (λ w z. IsWorld w × Nothing all t w z) _
      (λ u w z made (world, on) gone. (let (edited, is) = made_so m k u w shallow gone made in
      subst (λ a. Came all a t u z) (sym is) (comes_behind view x.ask.fields x.s all (makes file Dir []) [] t u w z edited (on world (made_there x.rules file u w world gone edited)))))
      did (from_told (view.state k).told (view.state t).told (Nothing all t) (λ w told. x.given.trees k w reached told) after)
    where
      from_told : (a b : Option World) (P : World → World → Type 0) → ((w : World) → a ≡ Some w → IsWorld w) → Both a b P → Both a b (λ v w. IsWorld v × P v w)
      from_told None None P h both = tt
      from_told None (Some w) P h both = absurd both
      from_told (Some v) None P h both = absurd both
      from_told (Some v) (Some w) P h both = (h v refl, both)

  makes_told : (made : Result Unit FsError) (y : Transfer) (m k : S) → y.to ≡ asked.to → Here m → view.makes_dir m c y.to made k → ToldIn m k (Makes made m k)
  makes_told made y m k dest reached call = x.given.makes_dir m k asked.to made reached (subst (λ p. view.makes_dir m c p made k) dest call)

  -- a directory
  dir_goes : (deep : Bool) (y : Transfer) (rest : List Transfer) (m n t : S) (all : Line) → is_deep x.ask.path ≡ deep → y.from ≡ x.ask.path → y.to ≡ asked.to → Here m
      → CopiesDir view lists c asked.alone deep y [] m (Ok tt) n rest → Copies view lists c asked.alone rest n all t → ToldIn m t (λ u w. Gone x.rules file u → Came all again t u w)
  dir_goes true y rest m n t all deep own dest reached (same, is) more = cc
  dir_goes false y rest m n t all shallow own dest reached (Err f, k, call, (same, is)) more = cc
  dir_goes false y rest m n t all shallow own dest reached (Ok z, k, call, after) more =
      joined all m k t shallow on (makes_told (Ok z) y m k dest reached call) (by asked.alone after)
    where
      on : Here k
      on = makes_on m k y.to (Ok z) reached call

      by : (bare : Bool) → Enters view lists c asked.alone bare y [] k (Ok tt) n rest → ToldIn k t (Nothing all t)
      by true (same, ok, is) =
          both_map (view.state k).told (view.state t).told (NoMore rest all) (Nothing all t) (λ w z none world made. (let (kept, ends) = none is in no_more all t w z kept ends))
          (rest_told rest k t all (subst (λ q. Copies view lists c asked.alone rest q all t) same more) on)
      by false reads = read_on y rest k n t all own on reads more

  dir_stops : (deep : Bool) (y : Transfer) (rest : List Transfer) (m t : S) (e : DavError) → is_deep x.ask.path ≡ deep → y.from ≡ x.ask.path → y.to ≡ asked.to → Here m
      → CopiesDir view lists c asked.alone deep y [] m (Err e) t rest → ToldIn m t (λ u w. Gone x.rules file u → Came (Err e) again t u w)
  dir_stops true y rest m t e deep own dest reached (same, is) =
      let acts : again ≡ halts (line 403) ∷ [] = ap (λ z. unless (when (z || is_forbidden x.rules asked.to) 403) (does (makes file Dir []) ∷ [])) deep in
      let here : e ≡ dav.Status 403 = cc in
      rw same (both_same (view.state m).told (view.state m).told (λ u w. Gone x.rules file u → Came (Err e) again m u w)
      (λ u gone. subst (λ a. Came (Err e) a m u u) (sym acts) (subst (λ d. Came (Err d) (halts (line 403) ∷ []) m u u) (sym here)
      (halted_comes view x.ask.fields x.s (dav.Status 403) (line 403) [] m u u refl refl (same_besides u)))) refl)
  dir_stops false y rest m t e shallow own dest reached (Err f, k, call, (same, is)) =
      let here : e ≡ of_fs f = cc in
      rw same (both_map (view.state m).told (view.state k).told _ (λ u w. Gone x.rules file u → Came (Err e) again k u w)
      (λ u w did gone. subst (λ d. Came (Err d) again k u w) (sym here) (not_made f m k u w reached shallow gone did))
      (makes_told (Err f) y m k dest reached call))
  dir_stops false y rest m t e shallow own dest reached (Ok z, k, call, after) =
      joined (Err e) m k t shallow on (makes_told (Ok z) y m k dest reached call) (by asked.alone after)
    where
      on : Here k
      on = makes_on m k y.to (Ok z) reached call

      by : (bare : Bool) → Enters view lists c asked.alone bare y [] k (Err e) t rest → ToldIn k t (Nothing (Err e) t)
      by true (same, ok, is) = cc
      by false reads = read_not y rest k t e own on reads

  module _ (found : Result Info FsError) where
    -- Where no directory was found the source is a file that clients of macOS may not use.
    file_shut : (v : World) → Seen found v → is_dir_there found ≡ false → is_forbidden x.rules x.ask.path ≡ true
    file_shut v p none =
        let (there, stood, shut) = found_any x.rules file alone v p.instead x.ask.path in
        let same : there ≡ p.there = (let f : Ok there ≡ Ok p.there = sym stood ∙ p.stood in cc) in
        shut (ap (λ (s : Stood). is_dir s.kind) same ∙ (p.kind ∙ none))

    shut_is : (v : World) → Seen found v → is_dir_there found ≡ false → carrying false x.rules v x.ask.path asked ≡ halts (line 403) ∷ []
    shut_is v p none = plan_is found v true p (ap (λ d. is_forbidden x.rules x.ask.path && not d) none ∙ ap (λ b. b && true) (file_shut v p none))

    or_shut : (v : World) → Seen found v → is_dir_there found ≡ false → (is_forbidden x.rules x.ask.path || is_forbidden x.rules asked.to) ≡ true
    or_shut v p none = ap (λ b. b || is_forbidden x.rules asked.to) (file_shut v p none)

    short_so : (m : S) (u : World) → Copied found (Err dav.NoMemory) m u u
    short_so m u v p gone = (
      subst FillsNone (sym (plan_is found v (shut_from (is_dir_there found)) p refl)) (plan_none (shut_from (is_dir_there found))),
      short_comes view x.ask.fields x.s (carrying false x.rules v x.ask.path asked) m u u (same_besides u),
    )

    one_goes : (dir : Bool) (rest : List Transfer) (m n t : S) (all : Line) → is_dir_there found ≡ dir → Here m → CopiesBy view lists c asked.alone dir (work found) [] m (Ok tt) n rest
        → Copies view lists c asked.alone rest n all t → ToldIn m t (Copied found all t)
    one_goes true rest m n t all dir reached one more =
        both_map (view.state m).told (view.state t).told (λ u w. Gone x.rules file u → Came all again t u w) (Copied found all t) (λ u w came. copied_so found all t u w dir came)
        (dir_goes (is_deep x.ask.path) (work found) rest m n t all refl refl refl reached one more)
    one_goes false rest m n t all none reached (copied, call, ok, is) more =
        both_then (view.state m).told (view.state n).told (view.state t).told _ (NoMore rest all) (Copied found all t)
        (λ u w z calls later v p gone. absurd (let f : Ok tt ≡ line_of (Err fs.Forbidden) = ok ∙ ap line_of (calls.refused (or_shut v p none)).0 in cc))
        (x.given.copies m n x.ask.path asked.to copied reached call)
        (rest_told rest n t all more (copies_on m n x.ask.path asked.to copied reached call))

    one_stops : (dir : Bool) (rest : List Transfer) (m t : S) (e : DavError) → is_dir_there found ≡ dir → Here m → CopiesBy view lists c asked.alone dir (work found) [] m (Err e) t rest
        → ToldIn m t (Copied found (Err e) t)
    one_stops true rest m t e dir reached one =
        both_map (view.state m).told (view.state t).told (λ u w. Gone x.rules file u → Came (Err e) again t u w) (Copied found (Err e) t) (λ u w came. copied_so found (Err e) t u w dir came)
        (dir_stops (is_deep x.ask.path) (work found) rest m t e refl refl refl reached one)
    one_stops false rest m t e none reached (copied, call, said, is) =
        both_map (view.state m).told (view.state t).told _ (Copied found (Err e) t)
        (λ u w calls v p gone. (let (refused, same) = calls.refused (or_shut v p none) in
        let acts = shut_is v p none in (
          subst FillsNone (sym acts) tt,
          subst (λ a. Came (Err e) a t u w) (sym acts)
              (subst (λ z. Came z (halts (line 403) ∷ []) t u w) (sym (said ∙ ap line_of refused)) (halted_comes view x.ask.fields x.s (of_fs fs.Forbidden) (line 403) [] t u w refl refl same)),
        )))
        (x.given.copies m t x.ask.path asked.to copied reached call)

    lone : (works : List Transfer) (m t : S) (all : Line) → works ≡ work found ∷ [] → Copies view lists c asked.alone works m all t → Here m → ToldIn m t (Copied found all t)
    lone works m t all e (no_work s) reached = cc
    lone works m t all e (cut_short others s) reached = both_same (view.state s).told (view.state s).told (Copied found (Err dav.NoMemory) s) (λ u. short_so s u) refl
    lone works m t all e (goes y others rest s k n r one more) reached =
        let is : y ≡ work found = cc in
        let none : others ≡ [] = cc in
        one_goes (is_dir_there found) rest s k n r refl reached
        (subst (λ z. CopiesBy view lists c asked.alone z.dir z [] s (Ok tt) k rest) is (subst (λ z. CopiesBy view lists c asked.alone y.dir y z s (Ok tt) k rest) none one)) more
    lone works m t all e (stops y others rest s n d one) reached =
        let is : y ≡ work found = cc in
        let none : others ≡ [] = cc in
        one_stops (is_dir_there found) rest s n d refl reached
        (subst (λ z. CopiesBy view lists c asked.alone z.dir z [] s (Err d) n rest) is (subst (λ z. CopiesBy view lists c asked.alone y.dir y z s (Err d) n rest) none one))

  -- The last act of a COPY comes to what its plan says.
  pub one_copies : GoesOne view lists writes c asked x file alone false
  one_copies found outcome m t r reached (all, run, is) = (all, is, lone found (work found ∷ []) m t all refl run reached)
