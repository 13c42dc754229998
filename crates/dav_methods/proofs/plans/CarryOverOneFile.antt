-- COPY and MOVE over one file that is served alone, behind their looks: a directory came in the file's place, and it is what was found
-- at both paths. What its removal comes to is what the plan says, and a MOVE finds nothing then.
-- Headline: `one_after`.
use Rattle.std.proofs.Common.{◌≡◌, ◌<◌, ◌⊎◌, ◌&&◌, ◌||◌, List, [], ◌∷◌, length, Bool, true, false, not, cond, Option, Some, Result, Ok, Err, refl, sym, ap, subst, ◌∙◌, inl, inr, arith}
use Rattle.dav_io.proofs.ToldLemmas.{both_map, both_then}
use Rattle.dav_core.specs.declared.dav_error.DavError.TheVariants as dav
use Rattle.dav_core.specs.declared.error.FsError.{FsError}
use Rattle.dav_core.specs.declared.error.FsError.TheVariants as fs
use Rattle.dav_core.specs.declared.handle.DiskError.TheVariants.{NotDir, NotFound}
use Rattle.dav_core.specs.declared.tree.Row.{Row}
use Rattle.dav_core.specs.Allowed.{Allowed, moving}
use Rattle.dav_core.specs.Changes.{without}
use Rattle.dav_core.specs.DavPath.{WebPath}
use Rattle.dav_core.specs.Info.{Info}
use Rattle.dav_core.specs.Path.{Names}
use Rattle.dav_core.specs.Statuses.{of_fs}
use Rattle.dav_core.specs.Tree.{is_dir, is_linked, look, row_at}
use Rattle.dav_core.specs.World.{IsWorld, SameBesidesOpens, World}
use Rattle.dav_core.proofs.UnchangedLemmas.{same_besides_then}
use Rattle.dav_store.specs.View.{Listings, View}
use Rattle.dav_model.specs.declared.asked.Asked.{Asked}
use Rattle.dav_model.specs.declared.outcome.Outcome.{Outcome}
use Rattle.dav_model.specs.CarryPlans.{act_of, carrying, cleared, clearing, is_dir_over, move_acts, moves_by, moves_in}
use Rattle.dav_model.specs.Finding.{empty_file, has_slash, is_forbidden, is_localized, is_virtual, or_walk, resolved, resolved_from, stood_at}
use Rattle.dav_model.specs.Head.{Stood, stood_in}
use Rattle.dav_model.specs.Overlap.{overlap}
use Rattle.dav_model.specs.Plans.{above, halts, has_link_below, has_parent, is_dir_found, is_found, line, refused, removing, removing_by, stands, unless, when}
use Rattle.dav_model.specs.Rules.{Rules}
use Rattle.dav_model.specs.Valid.{TellsApart}
use Rattle.dav_walks.specs.declared.work.Work.{Work}
use Rattle.dav_walks.specs.declared.work.Work.TheVariants.{Whole}
use Rattle.dav_methods.specs.Carrying.{Goes, transfer}
use Rattle.dav_walks.specs.Follows.{Finds, IfBothFound, MovesBy, Reached, Told, UnlessShut}
use Rattle.dav_walks.specs.Lines.{Line}
use Rattle.dav_methods.specs.Lines.{Given, is_dir_there, made, silent}
use Rattle.dav_methods.specs.Lines as the
use Rattle.dav_walks.specs.Pouring.{Writes}
use Rattle.dav_walks.specs.Removing.{Removes, goes, line_of, short as cut_short, stops, done as no_work}
use Rattle.dav_methods.specs.Table.{Unless}
use Rattle.dav_walks.proofs.calls.ActsJoined.{AllDone, Comes, FillsNone, comes_more, comes_then, halted_comes, short_comes}
use Rattle.dav_walks.proofs.calls.CallsDoActs.{allowed_comes}
use Rattle.dav_methods.proofs.plans.CarryLooks.{Came, Done, EndsSo, Here, Known, Plans, Request, RightAfter, Sees, SeesBoth, SeesParent, Stands, all_acts, carry_by, comes_ends, dir_ok, from_links, last_acts, not_not, over_done, seen_there}
use Rattle.dav_methods.proofs.plans.CarryClears.{and_no, clearing_is}
use Rattle.dav_methods.proofs.plans.DeleteFollows as removal
use Rattle.dav_methods.proofs.plans.LinesMatch.{dir_found, found_ok, none_two, none_when}
use Rattle.dav_methods.proofs.plans.MoveLastAct.{answered_line}
use Rattle.dav_walks.proofs.trees.OneFileGone.{Gone, gone_by, nothing_moved, taken_so, vacant_row, vacant_without}
use Rattle.dav_walks.proofs.removals.OneFileRemoved.{step_reached}
use Rattle.dav_methods.proofs.texts.Overlaps.{none_ahead, none_behind}
use Rattle.dav_walks.proofs.removals.RemovalDoesActs.{both_with}
use Rattle.dav_walks.proofs.trees.TreeRows.{DirAt, dir_at, not_both, parts_of}

-- ---- what is found

-- A destination beside the source has a name.
some_name : (folds : Bool) (from to : Names) → overlap folds from to ≡ false → 0 < length to
some_name folds [] [] e = not_both (overlap folds [] []) (none_ahead folds []) e
some_name folds (name ∷ from) [] e = not_both (overlap folds (name ∷ from) []) (none_behind folds name from) e
some_name folds from (name ∷ to) e = omega arith

-- A directory stands in the place of the file.
pub record Instead (rules : Rules) (file : Names) (v : World) : Type 0 where
  pub world : IsWorld v
  pub apart : TellsApart rules v
  pub dir : DirAt v.tree file
  pub row : Row
  pub looked : look v.tree file ≡ Ok row
  pub kind : is_dir row.kind ≡ true
  pub seen : (rules.macos && is_localized file) ≡ false
  pub clear : is_linked v.tree file ≡ false
  pub below : has_link_below v.tree file ≡ false

pub one_place : (rules : Rules) (file : Names) → rules.alone ≡ Some file → (tree : List Row) (names : Names) → resolved rules tree names ≡ file
one_place rules file alone tree names = ap (λ o. or_walk o (resolved_from rules.folds tree [] names)) alone

-- what a look finds there, by whether the path is one of the two that no file stands for
pub found_one : (rules : Rules) (file : Names) → rules.alone ≡ Some file → (v : World) (x : Instead rules file v) (path : WebPath) (b : Bool) → is_virtual rules path ≡ b
    → stands rules v path ≡ cond b (Ok empty_file) (Ok (stood_in v x.row))
found_one rules file alone v x path b e =
    ap (λ z. cond z (Ok empty_file) (shown (resolved rules v.tree path.names))) e
    ∙ (ap (λ q. cond b (Ok empty_file) (shown q)) (one_place rules file alone v.tree path.names)
    ∙ (ap (λ h. cond b (Ok empty_file) (cond (h || false) (Err fs.NotFound) (stood_at (has_slash rules.alone path) v (look v.tree file)))) x.seen
    ∙ (ap (λ (o : Option Names). cond b (Ok empty_file) (stood_at (has_slash o path) v (look v.tree file))) alone
    ∙ ap (λ r. cond b (Ok empty_file) (stood_at false v r)) x.looked)))
  where
    shown : Names → Result Stood FsError
    shown q = cond ((rules.macos && is_localized q) || false) (Err fs.NotFound) (stood_at (has_slash rules.alone path) v (look v.tree q))

-- Something is found at each path; and where it is no directory, the path is one that clients of macOS may not use.
pub found_any : (rules : Rules) (file : Names) → rules.alone ≡ Some file → (v : World) (x : Instead rules file v) (path : WebPath)
    → (there : Stood) × (stands rules v path ≡ Ok there) × (is_dir there.kind ≡ false → is_forbidden rules path ≡ true)
found_any rules file alone v x path = by (is_virtual rules path) refl
  where
    by : (b : Bool) → is_virtual rules path ≡ b → (there : Stood) × (stands rules v path ≡ Ok there) × (is_dir there.kind ≡ false → is_forbidden rules path ≡ true)
    by true e = (empty_file, found_one rules file alone v x path true e, λ f. ap (λ b. b || (rules.macos && is_localized path.names)) e)
    by false e = (stood_in v x.row, found_one rules file alone v x path false e, λ f. not_both (is_dir x.row.kind) x.kind f)

module _ {S C F L E : Type 0} (view : View S C F) (lists : Listings S C L E) (writes : Writes F) (c : C) (asked : Asked) (x : Request view lists writes c asked) (file : Names)
    (alone : x.rules.alone ≡ Some file) where
  -- What is known behind the looks.
  pub record Looked (found : Result Info FsError) (v : World) : Type 0 where
    pub instead : Instead x.rules file v
    pub there : Stood
    pub stood : stands x.rules v x.ask.path ≡ Ok there
    pub kind : is_dir there.kind ≡ is_dir_there found
    pub some : 0 < length asked.to.names

  -- what the last act comes to
  abbrev pub Does : Bool → Line → S → World → World → World → Type 0
  Does moving all t v u w = FillsNone (carrying moving x.rules v x.ask.path asked) × Comes view x.ask.fields x.s all (carrying moving x.rules v x.ask.path asked) t u w

  -- What it comes to where the directory went.
  abbrev pub GoesOne : Bool → Type 0
  GoesOne moving = (found : Result Info FsError) (outcome : Outcome) (m t : S) (r : Given) → Reached view lists writes c x.s m
      → Goes view lists c moving asked (transfer x.ask.path asked found) outcome m r t
      → (line : Line) × (r ≡ the.unless line outcome)
      × Told view lists writes c m t (λ u w. (v : World) → Looked found v → Gone x.rules file u → Does moving line t v u w)

  looked_at_both : (found : Result Info FsError) (v : World) → Sees view lists writes c asked x v → SeesParent view lists writes c asked x found v → Looked found v
  looked_at_both found v clear ((finds, source), parent) =
      let links = from_links view lists writes c asked x v clear in
      let (fits, over) = none_two (refused (stands x.rules v x.ask.path)) (when (overlap x.rules.folds x.ask.path.names asked.to.names) 403) source in
      let (stood, is) = found_ok (stands x.rules v x.ask.path) fits in
      let (up, at, dir) = dir_ok (stands x.rules v (above asked.to)) (not_not (has_parent x.rules v asked.to) (none_when (not (has_parent x.rules v asked.to)) 409 parent)) in
      let place : resolved x.rules v.tree (above asked.to).names ≡ file = one_place x.rules file alone v.tree (above asked.to).names in
      let seen = removal.seen_row x.rules v (above asked.to) up (and_no x.rules.macos) at in
      let here : stood_at false v (look v.tree file) ≡ Ok up =
      ap (λ (o : Option Names). stood_at (has_slash o (above asked.to)) v (look v.tree file)) (sym alone)
      ∙ (ap (λ q. stood_at (has_slash x.rules.alone (above asked.to)) v (look v.tree q)) (sym place) ∙ seen.1) in
      let (row, looked, kind) = row_found v up (look v.tree file) refl here in
      record {
        instead = record {
          world = clear.world;
          apart = clear.regular.apart;
          dir = dir_at v.tree file (removal.dir_found v file up (look v.tree file) refl here ∙ dir);
          row = row;
          looked = looked;
          kind = kind ∙ dir;
          seen = ap (λ q. x.rules.macos && is_localized q) (sym place) ∙ seen.0;
          clear = ap (is_linked v.tree) (sym (one_place x.rules file alone v.tree x.ask.path.names)) ∙ links.0;
          below = ap (has_link_below v.tree) (sym (one_place x.rules file alone v.tree x.ask.path.names)) ∙ links.1;
        };
        there = stood;
        stood = is;
        kind = sym (dir_found (stands x.rules v x.ask.path) found finds ∙ ap is_dir_found is);
        some = some_name x.rules.folds x.ask.path.names asked.to.names (none_when (overlap x.rules.folds x.ask.path.names asked.to.names) 403 over);
      }
    where
      row_found : (v : World) (up : Stood) (r : Result Row _) → look v.tree file ≡ r → stood_at false v r ≡ Ok up → (row : Row) × (look v.tree file ≡ Ok row) × (is_dir row.kind ≡ is_dir up.kind)
      row_found v up (Err e) at is = cc
      row_found v up (Ok row) at is = (row, at, (let same : stood_in v row ≡ up = cc in ap (λ (s : Stood). is_dir s.kind) same))

  -- ---- what was found at the destination goes

  abbrev stays : Bool → Bool
  stays dir = is_forbidden x.rules asked.to && not dir

  abbrev Emptying : Bool → Line → S → World → World → Type 0
  Emptying dir gone m u w = (stays dir ≡ true → SameBesidesOpens u w × ((gone ≡ Err dav.NoMemory) ⊎ (gone ≡ Err (of_fs fs.Forbidden))))
      × (stays dir ≡ false → removal.Clears view lists writes c x.rules asked.to x.ask.fields x.ask.body x.s x.knows x.given dir gone m u w)

  emptied : (dir : Bool) (n m : S) (gone : Line) → Here view lists writes c asked x n → Removes view lists c (Whole asked.to dir ∷ []) n gone m → Told view lists writes c n m (Emptying dir gone m)
  emptied dir n m gone reached removes = by (stays dir) refl (is_forbidden x.rules asked.to) dir refl refl
    where
      by : (s : Bool) → stays dir ≡ s → (a b : Bool) → is_forbidden x.rules asked.to ≡ a → dir ≡ b → Told view lists writes c n m (Emptying dir gone m)
      by false e a b f g =
          both_map (view.state n).told (view.state m).told _ (Emptying dir gone m) (λ u w clears. (λ h. not_both (stays dir) h e, λ h. clears))
          (removal.clears view lists writes c x.rules asked.to x.ask.fields x.ask.body x.s x.knows x.given x.rules.alone refl dir n m gone reached e removes)
      by true e true false f g =
          both_map (view.state n).told (view.state m).told _ (Emptying dir gone m) (λ u w kept. (λ h. kept, λ h. not_both (stays dir) e h))
          (removal.stays_told view lists writes c x.rules asked.to x.ask.fields x.ask.body x.s x.knows x.given (Whole asked.to dir ∷ []) n m gone (ap (λ d. Whole asked.to d ∷ []) g) f reached removes)
      by true e false b f g = not_both (stays dir) e (ap (λ a. a && not dir) f)
      by true e true true f g = not_both (stays dir) e (ap (λ d. is_forbidden x.rules asked.to && not d) g ∙ and_no (is_forbidden x.rules asked.to))

  abbrev AfterGone : Line → World → World → Type 0
  AfterGone (Ok y) v w = IsWorld w → Gone x.rules file w
  AfterGone (Err e) v w = Unit {0}

  kept_comes : (gone : Line) (m : S) (v w : World) → SameBesidesOpens v w → (gone ≡ Err dav.NoMemory) ⊎ (gone ≡ Err (of_fs fs.Forbidden))
      → Came view lists writes c asked x gone (halts (line 403) ∷ []) m v w × AfterGone gone v w
  kept_comes (Ok y) m v w same (inl e) = cc
  kept_comes (Ok y) m v w same (inr e) = cc
  kept_comes (Err d) m v w same (inl e) =
      let here : dav.NoMemory ≡ d = cc in
      (subst (λ z. Came view lists writes c asked x (Err z) (halts (line 403) ∷ []) m v w) here (short_comes view x.ask.fields x.s (halts (line 403) ∷ []) m v w same), tt)
  kept_comes (Err d) m v w same (inr e) =
      let here : of_fs fs.Forbidden ≡ d = cc in
      (subst (λ z. Came view lists writes c asked x (Err z) (halts (line 403) ∷ []) m v w) here (halted_comes view x.ask.fields x.s (of_fs fs.Forbidden) (line 403) [] m v w refl refl same), tt)

  went : (gone : Line) (m : S) (v w : World) → Instead x.rules file v → Came view lists writes c asked x gone (removing x.rules v asked.to) m v w → AfterGone gone v w
  went (Err e) m v w there came = tt
  went (Ok y) m v w there done = λ now.
      (let (some, u, edited, same) = taken_so v.tree file asked.to v w (parts_of v.tree there.world.tree) there.dir (subst (λ o. AllDone (removing_by o x.rules v asked.to) v w) alone done) in
      gone_by x.rules file v u w there.world now there.apart some there.dir there.clear edited same)

  clears_so : (found : Result Info FsError) (dir : Bool) (stood : Stood) (gone : Line) (m : S) (v u w : World) → Looked found v → Stands view lists writes c asked x v asked.to ≡ Ok stood → is_dir stood.kind ≡ dir
      → SameBesidesOpens v u → Emptying dir gone m u w → Came view lists writes c asked x gone (clearing x.rules v asked.to) m v w × AfterGone gone v w
  clears_so found dir stood gone m v u w p is kind same did = by (stays dir) refl
    where
      judged : (b : Bool) → stays dir ≡ b → clearing x.rules v asked.to ≡ unless (when b 403) (removing x.rules v asked.to)
      judged b e = clearing_is x.rules v asked.to (Ok stood) is ∙ ap (λ z. unless (when z 403) (removing x.rules v asked.to)) (ap (λ z. is_forbidden x.rules asked.to && not z) kind ∙ e)

      by : (b : Bool) → stays dir ≡ b → Came view lists writes c asked x gone (clearing x.rules v asked.to) m v w × AfterGone gone v w
      by true e =
          let (kept, ends) = did.0 e in
          let came = kept_comes gone m v w (same_besides_then v u w same kept) ends in
          (subst (λ a. Came view lists writes c asked x gone a m v w) (sym (judged true e)) came.0, came.1)
      by false e =
          let at = one_place x.rules file alone v.tree asked.to.names in
          let came = did.1 e v stood p.instead.world p.some p.instead.apart (ap (is_linked v.tree) at ∙ p.instead.clear, ap (has_link_below v.tree) at ∙ p.instead.below) same is kind
          (ap (λ z. is_forbidden x.rules asked.to && not z) kind ∙ e) in
          (subst (λ a. Came view lists writes c asked x gone a m v w) (sym (judged false e)) came, went gone m v w p.instead came)

  gone_on : (works : List Work) (a b : S) (r : Line) → Removes view lists c works a r b → Here view lists writes c asked x a → r ≡ Ok tt → Here view lists writes c asked x b
  gone_on works a b r (no_work s) reached ok = reached
  gone_on works a b r (cut_short others s) reached ok = cc
  gone_on works a b r (goes work others rest s m t line one more) reached ok =
      gone_on rest m t line more (step_reached view lists writes c x.rules x.ask.fields x.s x.knows x.given file alone work others rest s m reached one) ok
  gone_on works a b r (stops work others rest s t e one) reached ok = cc

  -- ---- after all looks

  -- what was known of the world before, and what stands after the removal
  record Moved (found : Result Info FsError) (v w : World) : Type 0 where
    acts : (carry_by asked x.rules x.ask v).acts ≡ all_acts view lists writes c asked x v
    stood : Stood
    is : Stands view lists writes c asked x v asked.to ≡ Ok stood
    looked : Looked found v
    gone : AllDone (clearing x.rules v asked.to) v w
    ready : Gone x.rules file w

  replaced : GoesOne asked.moving → (found : Result Info FsError) (info : Info) (gone : Line) (n m : S) (r : Given) (t : S) → Here view lists writes c asked x n
      → Known view lists writes c asked x n (λ v. Plans view lists writes c asked x (λ v. []) v × SeesBoth view lists writes c asked x found (Ok info) v)
      → Removes view lists c (Whole asked.to (is_dir info.kind) ∷ []) n gone m
      → Unless gone (Goes view lists c asked.moving asked (transfer x.ask.path asked found) silent) m r t → Done view lists writes c asked x r t
  replaced right found info (Ok y) n m r t reached at removes run =
      let after = gone_on (Whole asked.to (is_dir info.kind) ∷ []) n m (Ok y) removes reached refl in
      let (line, is, told) = right found silent m t r after run in
      both_then (view.state x.s).told (view.state m).told (view.state t).told (λ v w. Sees view lists writes c asked x v → Moved found v w) _ _
      (λ v k w before last clear. (let b = before clear in
      let l = last v b.looked b.ready in
      subst (λ z. EndsSo view lists writes c asked x z t v w) (sym is)
      (comes_ends view lists writes c asked x line silent (all_acts view lists writes c asked x v) t v w b.acts (over_done view lists writes c asked x v b.stood b.is)
      (comes_then view x.ask.fields x.s line (clearing x.rules v asked.to) (last_acts view lists writes c asked x v) t v k w l.0 b.gone l.1))))
      (both_then (view.state x.s).told (view.state n).told (view.state m).told _ (λ u k. Emptying (is_dir info.kind) (Ok y) m u k × IsWorld k) (λ v w. Sees view lists writes c asked x v → Moved found v w)
      (λ v u k p q clear. (let known = p.1 clear in
      let (stood, there, kind) = seen_there (Stands view lists writes c asked x v asked.to) info known.1.0.1 in
      let looked = looked_at_both found v clear known.1.0.0 in
      let came = clears_so found (is_dir info.kind) stood (Ok y) m v u k looked there kind p.0 q.0 in
      record { acts = known.0; stood = stood; is = there; looked = looked; gone = came.0; ready = came.1 q.1 }))
      at
      (both_with (view.state n).told (view.state m).told _ IsWorld (emptied (is_dir info.kind) n m (Ok y) reached removes)
      (λ k e. x.given.trees m k after e)))
      told
  replaced right found info (Err e) n m r t reached at removes (same, is) =
      rw (same, is) (both_then (view.state x.s).told (view.state n).told (view.state m).told _ _ _
      (λ v u w p q clear. (let known = p.1 clear in
      let (stood, there, kind) = seen_there (Stands view lists writes c asked x v asked.to) info known.1.0.1 in
      let came = clears_so found (is_dir info.kind) stood (Err e) m v u w (looked_at_both found v clear known.1.0.0) there kind p.0 q in
      comes_ends view lists writes c asked x (Err e) silent (all_acts view lists writes c asked x v) m v w known.0 (over_done view lists writes c asked x v stood there)
      (comes_more view x.ask.fields x.s e (clearing x.rules v asked.to) (last_acts view lists writes c asked x v) m v w came.0)))
      at
      (emptied (is_dir info.kind) n m (Err e) reached removes))

  -- It is right behind the looks where the last act is.
  pub one_after : GoesOne asked.moving → RightAfter view lists writes c asked x
  one_after right found (Ok info) n r t reached at (gone, m, removes, run) = replaced right found info gone n m r t reached at removes run
  one_after right found (Err e) n r t reached at run =
      let (line, is, told) = right found made n t r reached run in
      both_then (view.state x.s).told (view.state n).told (view.state t).told _ _ _
      (λ v u w p last clear. (let known = p.1 clear in
      let looked = looked_at_both found v clear known.1.0.0 in
      let (there, stood, more) = found_any x.rules file alone v looked.instead asked.to in
      absurd (subst (λ y. Finds y (Err e)) stood known.1.0.1)))
      at told

  -- ---- MOVE

  -- the place of each path
  at_file : (tree : List Row) (names : Names) → resolved x.rules tree names ≡ file
  at_file tree names = one_place x.rules file alone tree names

  -- the plan finds nothing to move
  move_is : (found : Result Info FsError) (v : World) → Looked found v → 0 < length file → (is_forbidden x.rules x.ask.path || is_forbidden x.rules asked.to) ≡ false
      → move_acts x.rules v x.ask.path asked.to ≡ act_of (Err NotFound)
  move_is found v p some open_at =
      let rows : List Row = without file v.tree in
      let gone = vacant_without v file p.instead.world some p.instead.dir in
      let (there, stood, more) = found_any x.rules file alone v p.instead asked.to in
      ap (λ b. unless (when b 403) (moves_in (cleared x.rules v asked.to) (resolved x.rules v.tree x.ask.path.names) (resolved x.rules (cleared x.rules v asked.to) asked.to.names))) open_at
      ∙ (ap (λ (y : Result Stood FsError). moves_in (cond (is_found y) (without (resolved x.rules v.tree asked.to.names) v.tree) v.tree) (resolved x.rules v.tree x.ask.path.names)
      (resolved x.rules (cond (is_found y) (without (resolved x.rules v.tree asked.to.names) v.tree) v.tree) asked.to.names)) stood
      ∙ (ap (λ q. moves_in (without q v.tree) (resolved x.rules v.tree x.ask.path.names) (resolved x.rules (without q v.tree) asked.to.names)) (at_file v.tree asked.to.names)
      ∙ (ap (λ q. moves_in rows q (resolved x.rules rows asked.to.names)) (at_file v.tree x.ask.path.names)
      ∙ (ap (λ q. moves_in rows file q) (at_file rows asked.to.names)
      ∙ (ap (λ o. moves_by (is_dir_over o (row_at rows file)) rows file file) (vacant_row rows file gone) ∙ ap act_of (nothing_moved rows file file gone))))))

  abbrev Call : Result Unit FsError → S → S → World → World → Type 0
  Call moved m t u w = IfBothFound view lists writes c x.rules u x.ask.path asked.to
      (MovesBy view lists writes c (resolved x.rules u.tree x.ask.path.names) (resolved x.rules u.tree asked.to.names) m moved t u w)

  move_ends : (found : Result Info FsError) (moved : Result Unit FsError) (m t : S) (v u w : World) → Reached view lists writes c x.s m → Looked found v → Gone x.rules file u
      → UnlessShut view lists writes c (is_forbidden x.rules x.ask.path || is_forbidden x.rules asked.to) moved u w (Call moved m t u w) → Does true (line_of moved) t v u w
  move_ends found moved m t v u w reached p gone calls = by (is_forbidden x.rules x.ask.path || is_forbidden x.rules asked.to) refl
    where
      nothing : moving u.tree file file ≡ Err NotFound
      nothing = nothing_moved u.tree file file gone.vacant

      so : MovesBy view lists writes c file file m moved t u w → Comes view x.ask.fields x.s (line_of moved) (act_of (Err NotFound)) t u w
      so (inl (one, held)) = subst (λ a. Comes view x.ask.fields x.s (line_of moved) (act_of a) t u w) nothing (allowed_comes view lists writes c x.ask.fields x.s (moving u.tree file file) m t moved u w (x.given.counts m reached) one)
      so (inr (meets, y, gone_on, after)) = let never : ◌≡◌ {A = Allowed} (Err NotFound) (Err NotDir) = sym nothing ∙ meets.0 in cc

      by : (b : Bool) → (is_forbidden x.rules x.ask.path || is_forbidden x.rules asked.to) ≡ b → Does true (line_of moved) t v u w
      by true shut =
          let (is, same) = calls.refused shut in
          let acts : move_acts x.rules v x.ask.path asked.to ≡ halts (line 403) ∷ [] =
          ap (λ b. unless (when b 403) (moves_in (cleared x.rules v asked.to) (resolved x.rules v.tree x.ask.path.names) (resolved x.rules (cleared x.rules v asked.to) asked.to.names))) shut in (
            subst FillsNone (sym acts) tt,
            subst (λ a. Comes view x.ask.fields x.s (line_of moved) a t u w) (sym acts)
                (subst (λ z. Comes view x.ask.fields x.s (line_of z) (halts (line 403) ∷ []) t u w) (sym is) (halted_comes view x.ask.fields x.s (of_fs fs.Forbidden) (line 403) [] t u w refl refl same)),
          )
      by false open_at =
          let acts = move_is found v p gone.vacant.some open_at in
          let one = calls.called open_at gone.apart (ap (is_linked u.tree) (at_file u.tree x.ask.path.names) ∙ gone.clear) (ap (is_linked u.tree) (at_file u.tree asked.to.names) ∙ gone.clear) in (
            subst FillsNone (sym acts) tt,
            subst (λ a. Comes view x.ask.fields x.s (line_of moved) a t u w) (sym acts)
                (so (subst (λ q. MovesBy view lists writes c q file m moved t u w) (at_file u.tree x.ask.path.names)
                (subst (λ q. MovesBy view lists writes c (resolved x.rules u.tree x.ask.path.names) q m moved t u w) (at_file u.tree asked.to.names) one))),
          )

  -- The last act of a MOVE comes to what its plan says.
  pub one_moves : GoesOne true
  one_moves found outcome m t r reached (moved, call, is) = (
    line_of moved,
    is ∙ answered_line outcome moved,
    both_map (view.state m).told (view.state t).told _ _ (λ u w calls v p gone. move_ends found moved m t v u w reached p gone calls) (x.given.renames m t x.ask.path asked.to moved reached call),
  )
