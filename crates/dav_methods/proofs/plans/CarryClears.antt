-- COPY and MOVE over a store that follows rules, and that of more than one file: what stands at the destination goes, and the last act
-- comes to what the plan says.
-- Headline: `after_looks`.
use Rattle.std.proofs.Common.{◌≡◌, ◌<◌, ◌⊎◌, ◌&&◌, ◌++◌, List, [], ◌∷◌, Bool, true, false, not, cond, Option, None, Result, Ok, Err, refl, sym, ap, subst, ◌∙◌, inl, inr}
use Rattle.std.proofs.lemmas.Bool.{false_from_ne_true as false_or}
use Rattle.dav_io.proofs.ToldLemmas.{both_map, both_then}
use Rattle.dav_core.specs.declared.dav_error.DavError.TheVariants as dav
use Rattle.dav_core.specs.declared.error.FsError.{FsError}
use Rattle.dav_core.specs.declared.error.FsError.TheVariants as fs
use Rattle.dav_core.specs.DavPath.{WebPath}
use Rattle.dav_core.specs.Info.{Info}
use Rattle.dav_core.specs.Path.{Names, is_front, parent_of}
use Rattle.dav_core.specs.Statuses.{of_fs}
use Rattle.dav_core.specs.Tree.{is_dir, is_linked, look}
use Rattle.dav_core.specs.World.{IsWorld, SameBesidesOpens, World}
use Rattle.dav_core.proofs.UnchangedLemmas.{same_besides_then}
use Rattle.dav_store.specs.View.{Listings, View}
use Rattle.dav_model.specs.declared.asked.Asked.{Asked}
use Rattle.dav_model.specs.declared.outcome.Outcome.{Outcome}
use Rattle.dav_model.specs.CarryPlans.{carrying, clearing}
use Rattle.dav_model.specs.Finding.{is_forbidden, resolved}
use Rattle.dav_model.specs.Head.{Stood}
use Rattle.dav_model.specs.Overlap.{overlap}
use Rattle.dav_model.specs.Plans.{Act, Ask, Halt, above, halts, has_link_below, has_parent, is_dir_found, is_found, keeps_file, line, refused, refused_there, removing, stands, unless, when}
use Rattle.dav_model.specs.Rules.{Knowledge, Rules}
use Rattle.dav_model.specs.Valid.{TellsApart}
use Rattle.dav_model.specs.Written.{done_reply}
use Rattle.dav_walks.specs.declared.work.Work.{Work}
use Rattle.dav_walks.specs.declared.work.Work.TheVariants.{Whole}
use Rattle.dav_methods.specs.Carrying.{Goes, transfer}
use Rattle.dav_walks.specs.Follows.{Follows, Reached, Told}
use Rattle.dav_walks.specs.Lines.{Line}
use Rattle.dav_methods.specs.Lines.{Given, is_dir_there, made, silent}
use Rattle.dav_methods.specs.Lines as the
use Rattle.dav_walks.specs.Pouring.{Writes}
use Rattle.dav_walks.specs.Removing.{Removes}
use Rattle.dav_methods.specs.Table.{Unless}
use Rattle.dav_walks.proofs.calls.ActsJoined.{AllDone, Comes, FillsNone, comes_more, comes_then, halted_comes, short_comes}
use Rattle.dav_walks.proofs.trees.OthersStay.{Apart, Beside, beside_removed, some_to}
use Rattle.dav_methods.proofs.plans.CarryLooks.{Request, RightAfter, carry_by, comes_ends, dir_ok, from_links, new_done, not_not, over_done, seen_missing, seen_there, to_links}
use Rattle.dav_methods.proofs.plans.CarryLooks as looks
use Rattle.dav_methods.proofs.plans.DeleteFollows.{found_at, planned as removal_planned}
use Rattle.dav_methods.proofs.plans.DeleteFollows as own
use Rattle.dav_walks.proofs.trees.FreePlaces.{Free}
use Rattle.dav_methods.proofs.plans.LinesMatch.{dir_found, found_ok, none_two, none_when}
use Rattle.dav_walks.proofs.trees.PlaceCleared.{apart_places, place_length, removed_apart}
use Rattle.dav_walks.proofs.removals.RemovalDoesActs.{Ended, acts, both_with, gone_reached, removed, stops_in}
use Rattle.dav_walks.proofs.removals.RemovalDoesActs as run
use Rattle.dav_walks.proofs.trees.TreeRows.{DirAt, not_both}
use Rattle.dav_walks.proofs.removals.RemovalOrder.{paths_in}
use Rattle.dav_walks.proofs.removals.WorkCovers.{in_walked, walked}

-- ---- what is known

-- Something was found at the source, of this kind; the destination lies beside it, below a directory; and no link is met.
pub record Seen (rules : Rules) (from to : WebPath) (dir : Bool) (v : World) : Type 0 where
  pub world : IsWorld v
  pub regular : TellsApart rules v
  pub there : Stood
  pub stood : stands rules v from ≡ Ok there
  pub kind : is_dir there.kind ≡ dir
  pub beside : overlap rules.folds from.names to.names ≡ false
  pub up : DirAt v.tree (resolved rules v.tree (parent_of to.names))
  pub from_clear : is_linked v.tree (resolved rules v.tree from.names) ≡ false
  pub from_below : has_link_below v.tree (resolved rules v.tree from.names) ≡ false
  pub to_clear : is_linked v.tree (resolved rules v.tree to.names) ≡ false
  pub to_below : has_link_below v.tree (resolved rules v.tree to.names) ≡ false

-- What was found at the destination went.
pub record Cleared (rules : Rules) (from to : WebPath) (v u : World) : Type 0 where
  pub world : IsWorld u
  pub apart : TellsApart rules u
  pub there : Stood
  pub found : stands rules v to ≡ Ok there
  pub beside : Beside (resolved rules v.tree from.names) (resolved rules v.tree to.names) v u
  pub free : Free (resolved rules v.tree to.names) u.tree

-- Or nothing was found there, and nothing changed.
pub record Vacant (rules : Rules) (to : WebPath) (v u : World) : Type 0 where
  pub world : IsWorld u
  pub same : SameBesidesOpens v u
  pub missing : stands rules v to ≡ Err fs.NotFound

pub and_no : (b : Bool) → (b && false) ≡ false
and_no true = refl
and_no false = refl

pub clearing_is : (rules : Rules) (v : World) (to : WebPath) (found : Result Stood FsError) → stands rules v to ≡ found
    → clearing rules v to ≡ cond (is_found found) (unless (when (keeps_file rules to found) 403) (removing rules v to)) []
clearing_is rules v to found e = ap (λ (x : Result Stood FsError). cond (is_found x) (unless (when (keeps_file rules to x) 403) (removing rules v to)) []) e

module _ {S C F L E : Type 0} (view : View S C F) (lists : Listings S C L E) (writes : Writes F) (c : C) (asked : Asked) where
  -- a request to a store that follows rules, of which none is that each path names one file
  pub record Carry : Type 0 where
    pub rules : Rules
    pub alone : rules.alone ≡ None
    pub knows : Knowledge
    pub ask : Ask
    pub s : S
    pub given : Follows view lists writes c rules knows s

  abbrev request : Carry → Request view lists writes c asked
  request x = record { rules = x.rules; knows = x.knows; ask = x.ask; s = x.s; given = x.given }

  abbrev Sees : Carry → World → Type 0
  Sees x v = looks.Sees view lists writes c asked (request x) v

  abbrev EndsSo : Carry → Given → S → World → World → Type 0
  EndsSo x r t v w = looks.EndsSo view lists writes c asked (request x) r t v w

  abbrev Done : Carry → Given → S → Type 0
  Done x r t = looks.Done view lists writes c asked (request x) r t

  abbrev Known : Carry → S → (World → Type 0) → Type 0
  Known x n P = looks.Known view lists writes c asked (request x) n P

  abbrev Plans : Carry → (World → List (Option Halt)) → World → Type 0
  Plans x lines v = looks.Plans view lists writes c asked (request x) lines v

  abbrev SeesParent : Carry → Result Info FsError → World → Type 0
  SeesParent x found v = looks.SeesParent view lists writes c asked (request x) found v

  abbrev SeesBoth : Carry → Result Info FsError → Result Info FsError → World → Type 0
  SeesBoth x found there v = looks.SeesBoth view lists writes c asked (request x) found there v

  abbrev Here : Carry → S → Type 0
  Here x n = Reached view lists writes c x.s n

  abbrev Came : Carry → Line → List Act → S → World → World → Type 0
  Came x line all t v w = Comes view x.ask.fields x.s line all t v w

  abbrev Stands : Carry → World → WebPath → Result Stood FsError
  Stands x v path = stands x.rules v path

  -- the last act, and all acts
  abbrev last_acts : Carry → World → List Act
  last_acts x v = carrying asked.moving x.rules v x.ask.path asked

  abbrev all_acts : Carry → World → List Act
  all_acts x v = clearing x.rules v asked.to ++ last_acts x v

  abbrev pub Prepares : Carry → Result Info FsError → World → Type 0
  Prepares x found v = Seen x.rules x.ask.path asked.to (is_dir_there found) v

  -- What acts come to where what was found at the destination went, and where nothing was found.
  pub record Ends (x : Carry) (line : Line) (all : List Act) (t : S) (v u w : World) : Type 0 where
    pub after_gone : Cleared x.rules x.ask.path asked.to v u → FillsNone all × Comes view x.ask.fields x.s line all t u w
    pub after_none : Vacant x.rules asked.to v u → Comes view x.ask.fields x.s line all t v w

  -- What the last act comes to, by whether it is a MOVE.
  abbrev pub GoesRight : Carry → Bool → Type 0
  GoesRight x moving = (found : Result Info FsError) (outcome : Outcome) (m t : S) (r : Given) → Here x m
      → Goes view lists c moving asked (transfer x.ask.path asked found) outcome m r t
      → (line : Line) × (r ≡ the.unless line outcome)
      × Told view lists writes c m t (λ u w. (v : World) → Prepares x found v → Ends x line (carrying moving x.rules v x.ask.path asked) t v u w)

  -- ---- what is known after all looks

  prepare : (x : Carry) (found : Result Info FsError) (v : World) → Sees x v → SeesParent x found v → Prepares x found v
  prepare x found v clear ((finds, source), parent) =
      let links = from_links view lists writes c asked (request x) v clear in
      let others = to_links view lists writes c asked (request x) v clear in
      let (fits, over) = none_two (refused (Stands x v x.ask.path)) (when (overlap x.rules.folds x.ask.path.names asked.to.names) 403) source in
      let (stood, is) = found_ok (Stands x v x.ask.path) fits in
      let kind : is_dir_there found ≡ is_dir stood.kind = dir_found (Stands x v x.ask.path) found finds ∙ ap is_dir_found is in
      let (up, at, dir) = dir_ok (Stands x v (above asked.to)) (not_not (has_parent x.rules v asked.to) (none_when (not (has_parent x.rules v asked.to)) 409 parent)) in
      let place : Names = resolved x.rules v.tree (parent_of asked.to.names) in
      let seen = own.seen_stood x.rules v (above asked.to) up x.alone (and_no x.rules.macos) at in
      let g = found_at v (record (above asked.to) { names = place }) up (look v.tree place) refl seen.1 in
      record {
        world = clear.world;
        regular = clear.regular.apart;
        there = stood;
        stood = is;
        kind = sym kind;
        beside = none_when (overlap x.rules.folds x.ask.path.names asked.to.names) 403 over;
        up = record { row = g.row; in_tree = g.in_tree; at = g.at; dir = sym g.kind ∙ dir };
        from_clear = links.0;
        from_below = links.1;
        to_clear = others.0;
        to_below = others.1;
      }

  -- ---- what stands at the destination goes

  abbrev Removal : Carry → List Work → Line → S → World → World → Type 0
  Removal x works gone m u w = run.Goes view lists writes c x.rules x.ask.fields x.s x.knows x.given x.alone works gone m u w

  -- whether a file of this name stays
  abbrev stays : Carry → Bool → Bool
  stays x dir = is_forbidden x.rules asked.to && not dir

  -- what the removal of what stands there does: a file that stays isn't removed
  abbrev Emptying : Carry → Bool → Line → S → World → World → Type 0
  Emptying x dir gone m u w = (stays x dir ≡ true → SameBesidesOpens u w × ((gone ≡ Err dav.NoMemory) ⊎ (gone ≡ Err (of_fs fs.Forbidden))))
      × (stays x dir ≡ false → Removal x (Whole asked.to dir ∷ []) gone m u w)

  emptied : (x : Carry) (dir : Bool) (n m : S) (gone : Line) → Here x n → Removes view lists c (Whole asked.to dir ∷ []) n gone m → Told view lists writes c n m (Emptying x dir gone m)
  emptied x dir n m gone reached removes = by (is_forbidden x.rules asked.to) dir refl refl
    where
      other : (stays x dir ≡ false) → Told view lists writes c n m (Emptying x dir gone m)
      other open_at =
          both_map (view.state n).told (view.state m).told _ (Emptying x dir gone m) (λ u w goes. (λ f. not_both (stays x dir) f open_at, λ f. goes))
          (removed view lists writes c x.rules x.ask.fields x.s x.knows x.given x.alone (Whole asked.to dir ∷ []) n m gone removes reached)

      by : (a b : Bool) → is_forbidden x.rules asked.to ≡ a → dir ≡ b → Told view lists writes c n m (Emptying x dir gone m)
      by false b e f = other (ap (λ z. z && not dir) e)
      by true true e f = other (ap (λ z. is_forbidden x.rules asked.to && not z) f ∙ and_no (is_forbidden x.rules asked.to))
      by true false e f =
          let shut : stays x dir ≡ true = ap (λ z. z && not dir) e ∙ ap not f in
          both_map (view.state n).told (view.state m).told _ (Emptying x dir gone m) (λ u w kept. (λ g. kept, λ g. not_both (stays x dir) shut g))
          (own.stays_told view lists writes c x.rules asked.to x.ask.fields x.ask.body x.s x.knows x.given (Whole asked.to dir ∷ []) n m gone (ap (λ d. Whole asked.to d ∷ []) f) e reached removes)

  abbrev AfterGone : Carry → Line → World → World → Type 0
  AfterGone x (Ok y) v w = IsWorld w → Cleared x.rules x.ask.path asked.to v w
  AfterGone x (Err e) v w = Unit {0}

  -- the plan says that a file stays
  kept_comes : (x : Carry) (gone : Line) (m : S) (v w : World) → SameBesidesOpens v w → (gone ≡ Err dav.NoMemory) ⊎ (gone ≡ Err (of_fs fs.Forbidden))
      → Came x gone (halts (line 403) ∷ []) m v w × AfterGone x gone v w
  kept_comes x (Ok y) m v w same (inl e) = cc
  kept_comes x (Ok y) m v w same (inr e) = cc
  kept_comes x (Err d) m v w same (inl e) =
      let here : dav.NoMemory ≡ d = cc in
      (subst (λ z. Came x (Err z) (halts (line 403) ∷ []) m v w) here (short_comes view x.ask.fields x.s (halts (line 403) ∷ []) m v w same), tt)
  kept_comes x (Err d) m v w same (inr e) =
      let here : of_fs fs.Forbidden ≡ d = cc in
      (subst (λ z. Came x (Err z) (halts (line 403) ∷ []) m v w) here (halted_comes view x.ask.fields x.s (of_fs fs.Forbidden) (line 403) [] m v w refl refl same), tt)

  cleared : (x : Carry) (found : Result Info FsError) (dir : Bool) (stood : Stood) (gone : Line) (m : S) (v u w : World) → Prepares x found v → Stands x v asked.to ≡ Ok stood → is_dir stood.kind ≡ dir
      → SameBesidesOpens v u → Emptying x dir gone m u w → Came x gone (clearing x.rules v asked.to) m v w × AfterGone x gone v w
  cleared x found dir stood gone m v u w p is kind same goes = by (stays x dir) refl
    where
      top : Names
      top = resolved x.rules v.tree asked.to.names

      apart : Apart (resolved x.rules v.tree x.ask.path.names) (resolved x.rules v.tree asked.to.names)
      apart = apart_places x.rules x.alone v.tree x.ask.path.names asked.to.names p.beside

      judged : (b : Bool) → stays x dir ≡ b → clearing x.rules v asked.to ≡ unless (when b 403) (removing x.rules v asked.to)
      judged b e = clearing_is x.rules v asked.to (Ok stood) is ∙ ap (λ z. unless (when z 403) (removing x.rules v asked.to)) (ap (λ z. is_forbidden x.rules asked.to && not z) kind ∙ e)

      finish : (line : Line) (y : run.Case) → y.top ≡ resolved x.rules v.tree asked.to.names → y.old ≡ v.tree → Came x line (acts x.rules y (walked v.tree (resolved x.rules v.tree asked.to.names))) m v w
          → Ended view lists writes c x.rules x.ask.fields x.s x.knows x.given x.alone line y w → AfterGone x line v w
      finish (Err e) y at old came left = tt
      finish (Ok z) y at old done left = λ world. record {
        world = world;
        apart = removed_apart x.rules x.alone (stops_in x.rules y) (walked v.tree (resolved x.rules v.tree asked.to.names)) v w p.regular done;
        there = stood;
        found = is;
        beside = beside_removed (resolved x.rules v.tree x.ask.path.names) (resolved x.rules v.tree asked.to.names) (stops_in x.rules y) (walked v.tree (resolved x.rules v.tree asked.to.names)) v w apart
            (λ q i. (in_walked v.tree (resolved x.rules v.tree asked.to.names) q i).1) done;
        free = λ r i. false_or (is_front (resolved x.rules v.tree asked.to.names) r.path) (λ e. left.all r.path (paths_in r w.tree i) (subst (λ q. is_front q r.path ≡ true) (sym at) e));
      }

      by : (b : Bool) → stays x dir ≡ b → Came x gone (clearing x.rules v asked.to) m v w × AfterGone x gone v w
      by true e =
          let (kept, ends) = goes.0 e in
          let came = kept_comes x gone m v w (same_besides_then v u w same kept) ends in
          (subst (λ a. Came x gone a m v w) (sym (judged true e)) came.0, came.1)
      by false e =
          let (y, at, old, came, left) = own.goes_whole view lists writes c x.rules asked.to x.ask.fields x.ask.body x.s x.knows x.given x.alone gone m stood v u w p.world
          (subst (λ n. 0 < n) (place_length x.rules x.alone v.tree asked.to.names) (some_to (resolved x.rules v.tree x.ask.path.names) (resolved x.rules v.tree asked.to.names) apart))
          p.regular p.to_clear p.to_below same is (ap (λ z. is_forbidden x.rules asked.to && not z) kind ∙ e)
          (subst (λ d. Removal x (Whole asked.to d ∷ []) gone m u w) (sym kind) (goes.1 e)) in
          let planned : clearing x.rules v asked.to ≡ acts x.rules y (walked v.tree (resolved x.rules v.tree asked.to.names)) =
          judged false e ∙ (removal_planned x.rules v asked.to y x.alone at old ∙ ap (λ z. acts x.rules y (walked v.tree z)) at) in
          (subst (λ a. Came x gone a m v w) (sym planned) came, finish gone y at old came left)

  -- ---- after all looks

  -- what was known of the world before, and what stands after the removal
  record Moved (x : Carry) (found : Result Info FsError) (v w : World) : Type 0 where
    acts : (carry_by asked x.rules x.ask v).acts ≡ all_acts x v
    done : done_reply (carry_by asked x.rules x.ask v).done ≡ record { status = silent.status; fields = silent.fields; parts = [] }
    prepared : Prepares x found v
    gone : AllDone (clearing x.rules v asked.to) v w
    ready : Cleared x.rules x.ask.path asked.to v w

  replaced : (x : Carry) → GoesRight x asked.moving → (found : Result Info FsError) (info : Info) (gone : Line) (n m : S) (r : Given) (t : S) → Here x n
      → Known x n (λ v. Plans x (λ v. []) v × SeesBoth x found (Ok info) v) → Removes view lists c (Whole asked.to (is_dir info.kind) ∷ []) n gone m
      → Unless gone (Goes view lists c asked.moving asked (transfer x.ask.path asked found) silent) m r t → Done x r t
  replaced x right found info (Ok y) n m r t reached at removes goes =
      let after = gone_reached view lists writes c x.rules x.ask.fields x.s x.knows x.given x.alone (Whole asked.to (is_dir info.kind) ∷ []) n m (Ok y) removes refl reached in
      let (line, is, told) = right found silent m t r after goes in
      both_then (view.state x.s).told (view.state m).told (view.state t).told (λ v w. Sees x v → Moved x found v w) _ _
      (λ v k w before last clear. (let b = before clear in
      let l = (last v b.prepared).after_gone b.ready in
      subst (λ z. EndsSo x z t v w) (sym is)
      (comes_ends view lists writes c asked (request x) line silent (all_acts x v) t v w b.acts b.done
      (comes_then view x.ask.fields x.s line (clearing x.rules v asked.to) (last_acts x v) t v k w l.0 b.gone l.1))))
      (both_then (view.state x.s).told (view.state n).told (view.state m).told _ (λ u k. Emptying x (is_dir info.kind) (Ok y) m u k × IsWorld k) (λ v w. Sees x v → Moved x found v w)
      (λ v u k p q clear. (let known = p.1 clear in
      let (stood, there, kind) = seen_there (Stands x v asked.to) info known.1.0.1 in
      let prepared = prepare x found v clear known.1.0.0 in
      let came = cleared x found (is_dir info.kind) stood (Ok y) m v u k prepared there kind p.0 q.0 in
      record { acts = known.0; done = over_done view lists writes c asked (request x) v stood there; prepared = prepared; gone = came.0; ready = came.1 q.1 }))
      at
      (both_with (view.state n).told (view.state m).told _ IsWorld (emptied x (is_dir info.kind) n m (Ok y) reached removes)
      (λ k e. x.given.trees m k after e)))
      told
  replaced x right found info (Err e) n m r t reached at removes (same, is) =
      rw (same, is) (both_then (view.state x.s).told (view.state n).told (view.state m).told _ _ _
      (λ v u w p q clear. (let known = p.1 clear in
      let (stood, there, kind) = seen_there (Stands x v asked.to) info known.1.0.1 in
      let came = cleared x found (is_dir info.kind) stood (Err e) m v u w (prepare x found v clear known.1.0.0) there kind p.0 q in
      comes_ends view lists writes c asked (request x) (Err e) silent (all_acts x v) m v w known.0 (over_done view lists writes c asked (request x) v stood there)
      (comes_more view x.ask.fields x.s e (clearing x.rules v asked.to) (last_acts x v) m v w came.0)))
      at
      (emptied x (is_dir info.kind) n m (Err e) reached removes))

  pub after_looks : (x : Carry) → GoesRight x asked.moving → RightAfter view lists writes c asked (request x)
  after_looks x right found (Ok info) n r t reached at (gone, m, removes, goes) = replaced x right found info gone n m r t reached at removes goes
  after_looks x right found (Err e) n r t reached at goes =
      let (line, is, told) = right found made n t r reached goes in
      both_then (view.state x.s).told (view.state n).told (view.state t).told _ _ _
      (λ v u w p last clear. (let known = p.0.1 clear in
      let (placed, more) = none_two (refused_there (Stands x v asked.to)) (when (is_found (Stands x v asked.to) && not asked.replaces) 412) known.1.1 in
      let missing = seen_missing (Stands x v asked.to) e known.1.0.1 placed in
      let prepared = prepare x found v clear known.1.0.0 in
      let vacant : Vacant x.rules asked.to v u = record { world = p.1; same = p.0.0; missing = missing } in
      subst (λ z. EndsSo x z t v w) (sym is)
      (comes_ends view lists writes c asked (request x) line made (last_acts x v) t v w
      (known.0 ∙ ap (λ a. a ++ last_acts x v) (clearing_is x.rules v asked.to (Err fs.NotFound) missing)) (new_done view lists writes c asked (request x) v missing)
      ((last v prepared).after_none vacant))))
      (both_with (view.state x.s).told (view.state n).told _ IsWorld at (λ u e. x.given.trees n u reached e))
      told
