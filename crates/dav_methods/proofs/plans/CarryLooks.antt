-- COPY and MOVE over a store that follows rules: each look and each line of the table is the plan's, up to where what stands at the
-- destination goes; and what the acts behind them come to is what is answered.
-- Headline: `looks_right`.
use Rattle.std.proofs.Common.{◌≡◌, ◌&&◌, ◌++◌, ℕ, List, [], ◌∷◌, Bool, true, false, not, Option, None, Some, Result, Ok, Err, refl, sym, ap, subst, ◌∙◌, inl, inr}
use Rattle.std.proofs.lemmas.Bool.{or_parts as clear_of}
use Rattle.dav_io.specs.Counts.{Rose}
use Rattle.dav_io.specs.Told.{Both}
use Rattle.dav_io.specs.declared.failure.NoMemory.{NoMemory as Wanting}
use Rattle.dav_io.proofs.ToldLemmas.{both_same, both_known}
use Rattle.dav_core.specs.declared.dav_error.DavError.{DavError}
use Rattle.dav_core.specs.declared.dav_error.DavError.TheVariants as dav
use Rattle.dav_core.specs.declared.error.FsError.{FsError}
use Rattle.dav_core.specs.declared.error.FsError.TheVariants as fs
use Rattle.dav_core.specs.DavPath.{WebPath}
use Rattle.dav_core.specs.Info.{Info}
use Rattle.dav_core.specs.Tree.{is_dir, is_linked}
use Rattle.dav_core.specs.World.{IsWorld, World}
use Rattle.dav_core.proofs.UnchangedLemmas.{same_besides}
use Rattle.dav_store.specs.View.{Listings, View}
use Rattle.dav_model.specs.declared.asked.Asked.{Asked}
use Rattle.dav_model.specs.declared.outcome.Outcome.{Outcome}
use Rattle.dav_model.specs.CarryPlans.{carries_link, carry_plan, carrying, clearing, has_link_about, method_of}
use Rattle.dav_model.specs.Conditions.{Fields}
use Rattle.dav_model.specs.Destination.{Asks, asked_by}
use Rattle.dav_model.specs.Finding.{resolved}
use Rattle.dav_model.specs.Head.{Reply, Stood}
use Rattle.dav_model.specs.Overlap.{overlap}
use Rattle.dav_model.specs.Plans.{Act, Ask, Halt, Plan, above, first, has_link_below, has_parent, is_dir_found, is_found, refused, refused_there, stands, status_over, unless, unmet, when}
use Rattle.dav_model.specs.Rules.{Knowledge, Rules}
use Rattle.dav_model.specs.Valid.{IsRegular}
use Rattle.dav_model.specs.Written.{CarriesIn, done_reply}
use Rattle.dav_methods.specs.Carrying.{Arrives, Carries, CopyMoves, Leaves, TakesPlace, may_leave, may_take_place, transfer}
use Rattle.dav_walks.specs.Follows.{Finds, Follows, Reached, Told, here, looks, looks_at_link}
use Rattle.dav_methods.specs.ByPlan.{CarriedIn, answer_or}
use Rattle.dav_walks.specs.Lines.{Line, fails_when}
use Rattle.dav_methods.specs.Lines.{Given, is_there, made, no_parent, refused_but_missing, silent}
use Rattle.dav_walks.specs.Lines.{above as the_above}
use Rattle.dav_methods.specs.Lines as the
use Rattle.dav_walks.specs.Pouring.{Writes}
use Rattle.dav_methods.specs.Deleting.{LooksAtLink}
use Rattle.dav_methods.specs.Table.{Looks, Next, Unless}
use Rattle.dav_walks.proofs.trees.NoLinkAbove.{above_free}
use Rattle.dav_walks.proofs.calls.ActsJoined.{Comes}
use Rattle.dav_methods.proofs.plans.LinesMatch.{first_more, first_two, match_two, missing_match, parent_match, refused_match, there_found, unmet_match, when_match}
use Rattle.dav_walks.proofs.trees.StandsAsBefore.{stands_plainly}
use Rattle.dav_methods.proofs.plans.EndsByPlan as by_plan
use Rattle.dav_methods.proofs.plans.EndsByPlan.{Acts, At, Case, Clear, Embeds, EndsFor, at_first, at_map, ends_done, passed_stage, seen_stage}

-- ---- lines

pub not_not : (b : Bool) → not b ≡ false → b ≡ true
not_not true e = refl
not_not false e = cc

-- the lines that are judged together
four_lines : (a b c d e f : Option Halt) → first (a ∷ b ∷ c ∷ d ∷ e ∷ f ∷ []) ≡ first (first (a ∷ b ∷ []) ∷ c ∷ d ∷ first (e ∷ f ∷ []) ∷ [])
four_lines a b c d e f =
    first_two a b (c ∷ d ∷ e ∷ f ∷ [])
    ∙ first_more (first (a ∷ b ∷ [])) (c ∷ d ∷ e ∷ f ∷ []) (c ∷ d ∷ first (e ∷ f ∷ []) ∷ [])
    (first_more c (d ∷ e ∷ f ∷ []) (d ∷ first (e ∷ f ∷ []) ∷ []) (first_more d (e ∷ f ∷ []) (first (e ∷ f ∷ []) ∷ []) (first_two e f [])))

-- ---- what was found

pub dir_ok : (x : Result Stood FsError) → is_dir_found x ≡ true → (there : Stood) × (x ≡ Ok there) × (is_dir there.kind ≡ true)
dir_ok (Ok there) e = (there, refl, e)
dir_ok (Err f) e = cc

pub missing_only : (f : FsError) → refused_there (Err f) ≡ None → f ≡ fs.NotFound
missing_only fs.NotFound e = refl
missing_only other e = cc

pub seen_there : (x : Result Stood FsError) (info : Info) → Finds x (Ok info) → (stood : Stood) × (x ≡ Ok stood) × (is_dir stood.kind ≡ is_dir info.kind)
seen_there (Ok stood) info finds = (stood, refl, ap is_dir (sym finds.kind))
seen_there (Err f) info finds = absurd finds

pub seen_missing : (x : Result Stood FsError) (e : FsError) → Finds x (Err e) → refused_there x ≡ None → x ≡ Err fs.NotFound
seen_missing (Ok stood) e finds none = absurd finds
seen_missing (Err f) e finds none = ap Err (missing_only f none)

-- ---- the plan of what is asked for

abbrev pub carry_by : Asked → Rules → Ask → World → Plan
carry_by asked rules ask v = carry_plan rules v ask (Ok asked)

abbrev pub links_by : Asked → Rules → Ask → World → Bool
links_by asked rules ask v = carries_link rules v.tree ask.path (Ok asked)

module _ {S C F L E : Type 0} (view : View S C F) (lists : Listings S C L E) (writes : Writes F) (c : C) (asked : Asked) where
  -- a request to a store that follows rules
  pub record Request : Type 0 where
    pub rules : Rules
    pub knows : Knowledge
    pub ask : Ask
    pub s : S
    pub given : Follows view lists writes c rules knows s

  abbrev pub case_of : Request → Case view lists writes c (carry_by asked) (links_by asked)
  case_of x = record { rules = x.rules; knows = x.knows; ask = x.ask; s = x.s; follows = x.given }

  abbrev pub Sees : Request → World → Type 0
  Sees x v = Clear view lists writes c (carry_by asked) (links_by asked) (case_of x) v

  -- It ended as its plan says.
  abbrev pub EndsSo : Request → Given → S → World → World → Type 0
  EndsSo x r t v w = EndsFor view lists writes c (carry_by asked) (links_by asked) (case_of x) r t v w

  abbrev pub Done : Request → Given → S → Type 0
  Done x r t = Both (view.state x.s).told (view.state t).told (λ v w. Sees x v → EndsSo x r t v w)

  abbrev pub Known : Request → S → (World → Type 0) → Type 0
  Known x n P = At view lists writes c (carry_by asked) (links_by asked) (case_of x) n P

  abbrev pub Here : Request → S → Type 0
  Here x n = Reached view lists writes c x.s n

  abbrev pub Came : Request → Line → List Act → S → World → World → Type 0
  Came x line all t v w = Comes view x.ask.fields x.s line all t v w

  abbrev pub Stands : Request → World → WebPath → Result Stood FsError
  Stands x v path = stands x.rules v path

  -- the last act
  abbrev pub last_acts : Request → World → List Act
  last_acts x v = carrying asked.moving x.rules v x.ask.path asked

  -- ---- endings

  embeds : (x : Request) → Embeds view lists writes c (carry_by asked) (links_by asked) (case_of x) (Done x)
  embeds x d t right = right

  -- What acts come to is what is answered.
  pub comes_ends : (x : Request) (line : Line) (outcome : Outcome) (acts : List Act) (t : S) (v w : World) → (carry_by asked x.rules x.ask v).acts ≡ acts
      → done_reply (carry_by asked x.rules x.ask v).done ≡ record { status = outcome.status; fields = outcome.fields; parts = [] }
      → Came x line acts t v w → EndsSo x (the.unless line outcome) t v w
  comes_ends x line outcome acts t v w is done h = by_plan.comes_ends view lists writes c (carry_by asked) (links_by asked) (case_of x) line outcome acts t v w is done h

  pub over_done : (x : Request) (v : World) (stood : Stood) → Stands x v asked.to ≡ Ok stood
      → done_reply (carry_by asked x.rules x.ask v).done ≡ record { status = silent.status; fields = silent.fields; parts = [] }
  over_done x v stood is = ap (λ (y : Result Stood FsError). done_reply (status_over y)) is

  pub new_done : (x : Request) (v : World) → Stands x v asked.to ≡ Err fs.NotFound
      → done_reply (carry_by asked x.rules x.ask v).done ≡ record { status = made.status; fields = made.fields; parts = [] }
  new_done x v is = ap (λ (y : Result Stood FsError). done_reply (status_over y)) is

  -- ---- what is known after all looks

  abbrev pub source_line : Request → World → Option Halt
  source_line x v = first (refused (Stands x v x.ask.path) ∷ when (overlap x.rules.folds x.ask.path.names asked.to.names) 403 ∷ [])

  abbrev pub parent_line : Request → World → Option Halt
  parent_line x v = when (not (has_parent x.rules v asked.to)) 409

  abbrev pub unmet_line : Request → World → Option Halt
  unmet_line x v = unmet (method_of asked.moving) x.ask.fields (Stands x v x.ask.path)

  abbrev pub place_line : Request → World → Option Halt
  place_line x v = first (refused_there (Stands x v asked.to) ∷ when (is_found (Stands x v asked.to) && not asked.replaces) 412 ∷ [])

  abbrev pub all_acts : Request → World → List Act
  all_acts x v = clearing x.rules v asked.to ++ last_acts x v

  abbrev pub SeesSource : Request → Result Info FsError → World → Type 0
  SeesSource x found v = Finds (Stands x v x.ask.path) found × (source_line x v ≡ None)

  abbrev pub SeesParent : Request → Result Info FsError → World → Type 0
  SeesParent x found v = SeesSource x found v × (parent_line x v ≡ None)

  abbrev pub SeesBoth : Request → Result Info FsError → Result Info FsError → World → Type 0
  SeesBoth x found there v = (SeesParent x found v × Finds (Stands x v asked.to) there) × (place_line x v ≡ None)

  abbrev pub Plans : Request → (World → List (Option Halt)) → World → Type 0
  Plans x lines v = Acts view lists writes c (carry_by asked) (links_by asked) (case_of x) lines (all_acts x) v

  both_links : (x : Request) (v : World) → Sees x v → (has_link_about v.tree (resolved x.rules v.tree x.ask.path.names) ≡ false) × (has_link_about v.tree (resolved x.rules v.tree asked.to.names) ≡ false)
  both_links x v clear = clear_of (has_link_about v.tree (resolved x.rules v.tree x.ask.path.names)) (has_link_about v.tree (resolved x.rules v.tree asked.to.names)) clear.links

  pub from_links : (x : Request) (v : World) → Sees x v → (is_linked v.tree (resolved x.rules v.tree x.ask.path.names) ≡ false) × (has_link_below v.tree (resolved x.rules v.tree x.ask.path.names) ≡ false)
  from_links x v clear = clear_of (is_linked v.tree (resolved x.rules v.tree x.ask.path.names)) (has_link_below v.tree (resolved x.rules v.tree x.ask.path.names)) (both_links x v clear).0

  pub to_links : (x : Request) (v : World) → Sees x v → (is_linked v.tree (resolved x.rules v.tree asked.to.names) ≡ false) × (has_link_below v.tree (resolved x.rules v.tree asked.to.names) ≡ false)
  to_links x v clear = clear_of (is_linked v.tree (resolved x.rules v.tree asked.to.names)) (has_link_below v.tree (resolved x.rules v.tree asked.to.names)) (both_links x v clear).1

  -- ---- the looks

  -- What is right behind all looks.
  abbrev pub RightAfter : Request → Type 0
  RightAfter x = (found there : Result Info FsError) (n : S) (r : Given) (t : S) → Here x n
      → Known x n (λ v. Plans x (λ v. []) v × SeesBoth x found there v) → TakesPlace view lists c asked (transfer x.ask.path asked found) there n r t → Done x r t

  from_place : (x : Request) → RightAfter x → (found : Result Info FsError) (k : S) (r : Given) (t : S) → Here x k
      → Known x k (λ v. Plans x (λ v. place_line x v ∷ []) v × SeesParent x found v) → LooksAtLink view lists c asked.to (Arrives view lists c asked (transfer x.ask.path asked found)) k r t → Done x r t
  from_place x right found k r t reached at (there, n, look, next) =
      seen_stage view lists writes c (carry_by asked) (links_by asked) (case_of x) (Done x) (embeds x) asked.to (may_take_place asked.replaces) (record { failed = refl; short = refl })
      (place_line x) (λ v. []) (all_acts x) (SeesParent x found)
      (λ v there finds. match_two (refused_but_missing there) (fails_when (is_there there && not asked.replaces) 412) (refused_there (Stands x v asked.to)) (when (is_found (Stands x v asked.to) && not asked.replaces) 412)
      (missing_match (Stands x v asked.to) there finds)
      (when_match (is_there there && not asked.replaces) (is_found (Stands x v asked.to) && not asked.replaces) 412 (ap (λ b. b && not asked.replaces) (there_found (Stands x v asked.to) there finds))))
      (λ v clear. (to_links x v clear).0)
      (TakesPlace view lists c asked (transfer x.ask.path asked found) there) there k n r t reached (x.given.looks_at_link k n asked.to there reached look) at
      (λ at goes. right found there n r t (looks_at_link k n asked.to there reached look) at goes) next

  from_met : (x : Request) → RightAfter x → (found : Result Info FsError) (k : S) (r : Given) (t : S) → Here x k
      → Known x k (λ v. Plans x (λ v. unmet_line x v ∷ place_line x v ∷ []) v × SeesParent x found v)
      → Unless (the.unmet (method_of asked.moving) x.ask.fields found) (LooksAtLink view lists c asked.to (Arrives view lists c asked (transfer x.ask.path asked found))) k r t → Done x r t
  from_met x right found k r t reached at goes =
      passed_stage view lists writes c (carry_by asked) (links_by asked) (case_of x) (Done x) (embeds x) (the.unmet (method_of asked.moving) x.ask.fields found)
      (unmet_line x) (λ v. place_line x v ∷ []) (all_acts x) (SeesParent x found) k
      (LooksAtLink view lists c asked.to (Arrives view lists c asked (transfer x.ask.path asked found))) r t
      (at_map view lists writes c (carry_by asked) (links_by asked) (case_of x) k _ _
      (λ v clear p. (p.0, inl (unmet_match (method_of asked.moving) x.ask.fields (Stands x v x.ask.path) found p.1.0.0, p.1))) at)
      (λ at goes. from_place x right found k r t reached (at_map view lists writes c (carry_by asked) (links_by asked) (case_of x) k _ _ (λ v clear p. (p.0, p.1.0)) at) goes) goes

  from_parent : (x : Request) → RightAfter x → (found : Result Info FsError) (m : S) (r : Given) (t : S) → Here x m
      → Known x m (λ v. Plans x (λ v. parent_line x v ∷ unmet_line x v ∷ place_line x v ∷ []) v × SeesSource x found v) → Leaves view lists c x.ask.path x.ask.fields asked found m r t → Done x r t
  from_parent x right found m r t reached at (up, k, look, next) =
      seen_stage view lists writes c (carry_by asked) (links_by asked) (case_of x) (Done x) (embeds x) (the_above asked.to) no_parent (record { failed = refl; short = refl })
      (parent_line x) (λ v. unmet_line x v ∷ place_line x v ∷ []) (all_acts x) (SeesSource x found)
      (λ v up finds. parent_match (Stands x v (above asked.to)) up (stands_plainly x.rules v (above asked.to)) finds)
      (λ v clear. above_free x.rules v.tree asked.to.names (to_links x v clear).0)
      (Unless (the.unmet (method_of asked.moving) x.ask.fields found) (LooksAtLink view lists c asked.to (Arrives view lists c asked (transfer x.ask.path asked found))))
      up m k r t reached (x.given.looks m k (the_above asked.to) up reached look) at
      (λ at goes. from_met x right found k r t (looks m k (the_above asked.to) up reached look)
      (at_map view lists writes c (carry_by asked) (links_by asked) (case_of x) k _ _ (λ v clear p. (p.0, (p.1.0.0, p.1.1))) at) goes) next

  from_source : (x : Request) → RightAfter x → (r : Given) (t : S)
      → Looks view c x.ask.path (λ found. Unless (may_leave x.rules.folds x.ask.path asked.to found) (Leaves view lists c x.ask.path x.ask.fields asked found)) x.s r t → Done x r t
  from_source x right r t (found, m, look, next) =
      seen_stage view lists writes c (carry_by asked) (links_by asked) (case_of x) (Done x) (embeds x) x.ask.path (may_leave x.rules.folds x.ask.path asked.to) (record { failed = refl; short = refl })
      (source_line x) (λ v. parent_line x v ∷ unmet_line x v ∷ place_line x v ∷ []) (all_acts x) (λ v. Unit {0})
      (λ v found finds. match_two (the.refused found) (fails_when (overlap x.rules.folds x.ask.path.names asked.to.names) 403) (refused (Stands x v x.ask.path)) (when (overlap x.rules.folds x.ask.path.names asked.to.names) 403)
      (refused_match (Stands x v x.ask.path) found finds) (when_match (overlap x.rules.folds x.ask.path.names asked.to.names) (overlap x.rules.folds x.ask.path.names asked.to.names) 403 refl))
      (λ v clear. (from_links x v clear).0)
      (Leaves view lists c x.ask.path x.ask.fields asked found) found x.s m r t here (x.given.looks x.s m x.ask.path found here look)
      (at_first view lists writes c (carry_by asked) (links_by asked) (case_of x) _ (λ v. (
        ap (λ l. unless l (all_acts x v))
            (four_lines (refused (Stands x v x.ask.path)) (when (overlap x.rules.folds x.ask.path.names asked.to.names) 403) (parent_line x v) (unmet_line x v) (refused_there (Stands x v asked.to))
            (when (is_found (Stands x v asked.to) && not asked.replaces) 412)),
        tt,
      )))
      (λ at goes. from_parent x right found m r t (looks x.s m x.ask.path found here look)
      (at_map view lists writes c (carry_by asked) (links_by asked) (case_of x) m _ _ (λ v clear p. (p.0, (p.1.0.1, p.1.1))) at) goes) next

  -- Where it is right behind the looks, it is right.
  pub looks_right : (x : Request) → RightAfter x → (r : Given) (t : S) → Carries view lists c x.ask.path x.ask.fields (Ok asked) x.s r t → Done x r t
  looks_right x right r t goes =
      from_source x right r t
      (subst (λ b. Looks view c x.ask.path (λ found. Unless (may_leave b x.ask.path asked.to found) (Leaves view lists c x.ask.path x.ask.fields asked found)) x.s r t) (x.given.folds x.s here) goes)

-- ---- what the fields ask for

asks_moving : (moving : Bool) (to : Result WebPath DavError) (replaces alone : Option Bool) (asked : Asked) → asked_by moving to replaces alone ≡ Ok asked → asked.moving ≡ moving
asks_moving moving (Err e) replaces alone asked is = cc
asks_moving moving (Ok to) None alone asked is = cc
asks_moving moving (Ok to) (Some replaces) None asked is = cc
asks_moving moving (Ok to) (Some replaces) (Some alone) asked is =
    let same : record { moving = moving; to = to; replaces = replaces; alone = alone } ≡ asked = cc in ap (λ (a : Asked). a.moving) (sym same)

asked_moving : (moving : Bool) (prefix : List ℕ) (fields : Fields) (asked : Asked) → Asks moving prefix fields (Ok asked) → asked.moving ≡ moving
asked_moving moving prefix fields asked (to, destination, is) = asks_moving moving to _ _ asked (sym is)

module _ {S C F L E : Type 0} (view : View S C F) (lists : Listings S C L E) (writes : Writes F) (c : C) where
  -- The request was answered by its plan, over a store of which nothing was changed.
  unchanged_right : (moving : Bool) (rules : Rules) (s : S) (ask : Ask) (v : World) (e : DavError) → Asks moving rules.settings.prefix ask.fields (Err e)
      → CarriedIn view lists writes c rules moving ask s (Err e) s v v
  unchanged_right moving rules s ask v e asks (Ok reply) (lacks, is) = (Err e, asks, λ clear. inl (is, same_besides v))
  unchanged_right moving rules s ask v e asks (Err x) lacks = inl (same_besides v)

  short_right : (moving : Bool) (rules : Rules) (s : S) (ask : Ask) (v : World) → CarriedIn view lists writes c rules moving ask s (Err dav.NoMemory) s v v
  short_right moving rules s ask v (Ok reply) (lacks, is) = cc
  short_right moving rules s ask v (Err x) lacks = inl (same_besides v)

  right_ends : (asked : Asked) (moving : Bool) (ask : Ask) (x : Request view lists writes c asked) → x.ask ≡ ask → (r : Given) (t : S) (v w : World)
      → Asks moving x.rules.settings.prefix ask.fields (Ok asked) → IsWorld v → IsRegular x.rules x.knows v
      → (Sees view lists writes c asked x v → EndsSo view lists writes c asked x r t v w) → CarriedIn view lists writes c x.rules moving x.ask x.s r t v w
  right_ends asked moving ask x same r t v w asks world regular ends result answers = by_result result answers
    where
      sees : carries_link x.rules v.tree x.ask.path (Ok asked) ≡ false → Sees view lists writes c asked x v
      sees links = record { world = world; regular = regular; links = links }

      own : Asks moving x.rules.settings.prefix x.ask.fields (Ok asked)
      own = subst (λ (z : Ask). Asks moving x.rules.settings.prefix z.fields (Ok asked)) (sym same) asks

      by_result : (result : Result Reply Wanting) → answer_or x.ask.fields r result → CarriesIn x.rules moving x.ask result (Rose (view.state x.s).faults (view.state t).faults) v w
      by_result (Ok reply) answers = (Ok asked, own, λ links. ends (sees links) (Ok reply) answers)
      by_result (Err e) answers = inr (Ok asked, own, λ links. ends (sees links) (Err e) answers)

  -- A COPY or a MOVE is right where it is so behind its looks.
  pub carried_right : (moving : Bool) (rules : Rules) → ((asked : Asked) (x : Request view lists writes c asked) → x.rules ≡ rules → asked.moving ≡ moving → RightAfter view lists writes c asked x) → (k : Knowledge) (s : S)
      → Follows view lists writes c rules k s → (ask : Ask) (r : Given) (t : S)
      → Next (CopyMoves view lists c moving rules.settings.prefix ask.path ask.fields) s r t
      → Told view lists writes c s t (λ v w. IsRegular rules k v → CarriedIn view lists writes c rules moving ask s r t v w)
  carried_right moving rules last k s follows ask r t (inl (same, is)) =
      rw (same, is) (both_same (view.state s).told (view.state s).told _ (λ v regular. short_right moving rules s ask v) refl)
  carried_right moving rules last k s follows ask r t (inr (Err e, asks, (same, is))) =
      rw (same, is) (both_same (view.state s).told (view.state s).told _ (λ v regular. unchanged_right moving rules s ask v e asks) refl)
  carried_right moving rules last k s follows ask r t (inr (Ok asked, asks, goes)) =
      let x : Request view lists writes c asked = record { rules = rules; knows = k; ask = ask; s = s; given = follows } in
      let own : asked.moving ≡ moving = asked_moving moving rules.settings.prefix ask.fields asked asks in
      let right = looks_right view lists writes c asked x (last asked x refl own) r t goes in
      both_known (view.state s).told (view.state t).told _ _ (λ v w told ends regular. right_ends asked moving ask x refl r t v w asks (follows.trees s v here told) regular ends) right
