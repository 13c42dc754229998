-- PUT over a store that follows its rules is as its plan says.
-- Headline: `put_follows`.
use Rattle.std.proofs.Common.{◌≡◌, ◌≤◌, inl, inr, ◌||◌, Bool, true, false, not, take, length, List, [], ◌∷◌, Option, None, Some, Result, Ok, Err, OnErr, refl, sym, ap, subst, ◌∙◌, arith}
use Rattle.std.specs.Option.{option_map}
use Rattle.dav_io.proofs.AppendingLemmas.{rose_before}
use Rattle.dav_io.proofs.ToldLemmas.{both_then}
use Rattle.dav_core.specs.declared.error.FsError.{FsError}
use Rattle.dav_core.specs.declared.error.FsError.TheVariants as fs
use Rattle.dav_core.specs.declared.method.DavMethod.TheVariants.{Put}
use Rattle.dav_core.specs.declared.tree.Row.{Row}
use Rattle.dav_core.specs.Allowed.{Allowed, opening, place}
use Rattle.dav_core.specs.DavPath.{WebPath}
use Rattle.dav_core.specs.Disk.{Live, at_start, kind_at}
use Rattle.dav_core.specs.Edits.{Edit}
use Rattle.dav_core.specs.Errors.{fs_error_of}
use Rattle.dav_core.specs.Info.{Info}
use Rattle.dav_core.specs.Path.{Names}
use Rattle.dav_core.specs.Statuses.{fs_status, of_fs}
use Rattle.dav_core.specs.Tree.{is_linked, look, row_at}
use Rattle.dav_core.specs.World.{OpenFile, SameBesidesOpens, World, bytes_of}
use Rattle.dav_core.specs.Writing.{can_write}
use Rattle.dav_core.proofs.UnchangedLemmas.{same_besides_then}
use Rattle.dav_store.specs.Files.{Spoiled}
use Rattle.dav_store.specs.Frames.{OpensOne}
use Rattle.dav_store.specs.View.{Listings, View}
use Rattle.dav_model.specs.declared.outcome.Outcome.{Outcome}
use Rattle.dav_model.specs.Finding.{has_slash, is_forbidden, resolved}
use Rattle.dav_model.specs.Head.{Reply, Stood}
use Rattle.dav_model.specs.Plans.{Act, Ask, Halt, first, has_parent, is_dir_found, line, not_allowed, plan_as, put_acts, put_options, putting, refused_there, stands, status_over, unless, unmet, when}
use Rattle.dav_model.specs.Rules.{Knowledge, Rules}
use Rattle.dav_model.specs.Valid.{IsRegular}
use Rattle.dav_model.specs.Written.{ByActs, PartOf, done_reply}
use Rattle.dav_model.proofs.JoiningLemmas.{part_none}
use Rattle.dav_walks.specs.Follows.{CallsFor, Finds, Follows, IfFound, OpensBy, Reached, Told, UnlessShut, WritesBy, here, opens as opened_from}
use Rattle.dav_methods.specs.ByPlan.{RightIn}
use Rattle.dav_walks.specs.Lines.{Line, fails_when}
use Rattle.dav_methods.specs.Lines.{Given, done_over, may_put, unless as answer_unless}
use Rattle.dav_walks.specs.Pouring.{Writes}
use Rattle.dav_methods.specs.Putting.{AfterChecksWhole, AfterOpeningWhole, MayPut, MayReplace, PutsWhole}
use Rattle.dav_walks.specs.Removing.{line_of}
use Rattle.dav_methods.specs.Table.{Below, Ends, Next, Run, Unless}
use Rattle.dav_methods.proofs.plans.LinesMatch.{first_more, first_three, put_match, when_match}
use Rattle.dav_methods.proofs.plans.MakingFollows.{below_stage, free_here}
use Rattle.dav_methods.proofs.plans.OpenedFile.{Into, fill_of, live_can, never_appends, put_into}
use Rattle.dav_walks.proofs.trees.StandsAsBefore.{fs_line, regular_same}
use Rattle.dav_methods.proofs.plans.EndsByPlan.{Acts, At, Case, Clear, EndsFor, Right, at_first, at_map, ends_done, ends_halted, ends_spoiled, line_stage, linked, look_stage, plan_of, planned, right_in, short_stage, spoiled_from}

-- ---- the checks

ends_unless : {S : Type 0} (line : Line) (outcome : Outcome) (s : S) (r : Given) (t : S) → Ends (answer_unless line outcome) s r t → Unless line (Ends (Ok outcome)) s r t
ends_unless (Ok x) outcome s r t ends = ends
ends_unless (Err d) outcome s r t ends = ends

-- A PUT whose path has a final slash is refused.
pub unslashed : {S : Type 0} (b : Bool) (run : Run S) (outcome : Outcome) (s m : S) → Unless (fails_when b 405) run s (Ok outcome) m → b ≡ false
unslashed true run outcome s m (e, f) = cc
unslashed false run outcome s m goes = refl

abbrev reply_as : Outcome → Reply
reply_as outcome = record { status = outcome.status; fields = outcome.fields; parts = [] }

done_found : (y : Result Stood FsError) (found : Result Info FsError) → Finds y found → done_reply (status_over y) ≡ reply_as (done_over found)
done_found (Ok there) (Ok info) finds = refl
done_found (Ok there) (Err f) finds = absurd finds
done_found (Err e) (Ok info) finds = absurd finds
done_found (Err e) (Err f) finds = refl

module _ {S C F L E : Type 0} (view : View S C F) (lists : Listings S C L E) (writes : Writes F) (c : C) where
  -- the lines and the acts that are left where a file is to be opened
  abbrev put_lines : Case view lists writes c planned linked → World → List (Option Halt)
  put_lines x v = when (is_forbidden x.rules x.ask.path) 403 ∷ not_allowed (putting x.rules v x.ask.path) ∷ []

  abbrev put_edits : Case view lists writes c planned linked → World → List Act
  put_edits x v = put_acts x.ask.body (putting x.rules v x.ask.path)

  -- what the path itself is judged by
  abbrev put_line : Case view lists writes c planned linked → World → Option Halt
  put_line x v = first (refused_there (stands x.rules v x.ask.path) ∷ when (is_dir_found (stands x.rules v x.ask.path)) 405
      ∷ unmet Put x.ask.fields (stands x.rules v x.ask.path) ∷ [])

  -- what is known after the checks, by what they gave
  pub record Known (x : Case view lists writes c planned linked) (outcome : Outcome) (v : World) : Type 0 where
    pub acts : Acts view lists writes c planned linked x (put_lines x) (put_edits x) v
    pub done : done_reply (plan_of view lists writes c planned linked x v).done ≡ reply_as outcome

  abbrev pub Checked : Case view lists writes c planned linked → Given → S → Type 0
  Checked x (Err d) m = Right view lists writes c planned linked x (Err d) m
  Checked x (Ok outcome) m = Reached view lists writes c x.s m × At view lists writes c planned linked x m (Known x outcome)

  replaced : (x : Case view lists writes c planned linked) → x.ask.method ≡ Put → (m : S) (may : Given) (n : S) → Reached view lists writes c x.s m
      → At view lists writes c planned linked x m (Acts view lists writes c planned linked x (λ v. put_line x v ∷ put_lines x v) (put_edits x)) → MayReplace view c x.ask.path x.ask.fields m may n → Checked x may n
  replaced x is m may n reached at (found, k, look, goes) =
      look_stage view lists writes c planned linked x (Checked x) (λ d t right. right) x.ask.path (may_put x.ask.fields) (record { failed = refl; short = refl }) (put_line x) (put_lines x) (put_edits x)
      (λ v found finds. put_match x.ask.fields (stands x.rules v x.ask.path) found finds) (free_here view lists writes c x) (λ found. Ends (Ok (done_over found))) m may n reached at
      (λ found n reached at ends. rw (ends.0, ends.1) (
        reached,
        at_map view lists writes c planned linked x n _ _ (λ v clear p. record {
          acts = p.0;
          done = ap (λ m. done_reply (plan_as m x.rules v x.ask).done) is ∙ done_found (stands x.rules v x.ask.path) found p.1;
        }) at,
      ))
      (found, k, look, by goes)
    where
      by : Next (Ends (answer_unless (may_put x.ask.fields found) (done_over found))) k may n → Next (Unless (may_put x.ask.fields found) (Ends (Ok (done_over found)))) k may n
      by (inl short) = inl short
      by (inr ends) = inr (ends_unless (may_put x.ask.fields found) (done_over found) k may n ends)

  below_checked : (x : Case view lists writes c planned linked) → x.ask.method ≡ Put → (may : Given) (m : S)
      → At view lists writes c planned linked x x.s (Acts view lists writes c planned linked x (λ v. when (not (has_parent x.rules v x.ask.path)) 409 ∷ put_line x v ∷ put_lines x v) (put_edits x))
      → Next (Below view c x.ask.path (MayReplace view c x.ask.path x.ask.fields)) x.s may m → Checked x may m
  below_checked x is may m at (inl short) = short_stage view lists writes c planned linked x (Checked x) (λ d t right. right) _ x.s may m at short
  below_checked x is may m at (inr goes) =
      below_stage view lists writes c x (Checked x) (λ d t right. right) (λ v. put_line x v ∷ put_lines x v) (put_edits x) (MayReplace view c x.ask.path x.ask.fields) x.s may m here at
      (λ n reached at goes. replaced x is n may m reached at goes) goes

  pub checked : (x : Case view lists writes c planned linked) → x.ask.method ≡ Put → (may : Given) (m : S) → MayPut view c x.ask.path x.ask.fields x.s may m → Checked x may m
  checked x is may m run =
      let rules : Rules = x.rules in
      line_stage view lists writes c planned linked x (Checked x) (λ d t right. right) (fails_when x.ask.path.slash 405) (λ v. when x.ask.path.slash 405)
      (λ v. when (not (has_parent rules v x.ask.path)) 409 ∷ put_line x v ∷ put_lines x v) (put_edits x) (λ v. Unit {0}) x.s (Next (Below view c x.ask.path (MayReplace view c x.ask.path x.ask.fields)))
      may m
      (at_first view lists writes c planned linked x _ (λ v. (
        ap (λ m. (plan_as m rules v x.ask).acts) is
            ∙ ap (λ l. unless l (put_edits x v)) (first_more (when x.ask.path.slash 405) _ _ (first_more (when (not (has_parent rules v x.ask.path)) 409) _ _
            (first_three (refused_there (stands rules v x.ask.path)) (when (is_dir_found (stands rules v x.ask.path)) 405) (unmet Put x.ask.fields (stands rules v x.ask.path)) (put_lines x v)))),
        inl (when_match x.ask.path.slash x.ask.path.slash 405 refl, tt),
      )))
      (λ at goes. below_checked x is may m (at_map view lists writes c planned linked x x.s _ _ (λ v clear p. p.0) at) goes) run

  -- ---- the opening

  -- the line that is left where the name is not forbidden
  allowed_line : (x : Case view lists writes c planned linked) (v : World) (outcome : Outcome) → Known x outcome v → (shut : Bool) → is_forbidden x.rules x.ask.path ≡ shut
      → (plan_of view lists writes c planned linked x v).acts ≡ unless (first (when shut 403 ∷ not_allowed (putting x.rules v x.ask.path) ∷ [])) (put_edits x v)
  allowed_line x v outcome known shut e = known.acts ∙ ap (λ b. unless (first (when b 403 ∷ not_allowed (putting x.rules v x.ask.path) ∷ [])) (put_edits x v)) e

  pub passed : (x : Case view lists writes c planned linked) (v : World) (outcome : Outcome) (edit : Option Edit) → Known x outcome v → is_forbidden x.rules x.ask.path ≡ false → putting x.rules v x.ask.path ≡ Ok edit
      → (plan_of view lists writes c planned linked x v).acts ≡ put_edits x v
  passed x v outcome edit known open_at allows = allowed_line x v outcome known false open_at ∙ ap (λ a. unless (first (not_allowed a ∷ [])) (put_edits x v)) allows

  -- what an opening does to the told world
  abbrev Opening : Case view lists writes c planned linked → S → Result F FsError → S → World → World → Type 0
  Opening x m opened n u a = UnlessShut view lists writes c (is_forbidden x.rules x.ask.path || has_slash x.rules.alone x.ask.path) opened u a
      (IfFound view lists writes c x.rules u x.ask.path (OpensBy view lists writes c x.rules x.ask.path m opened n u a))

  flat_slash : (alone : Option Names) (path : WebPath) → path.slash ≡ false → has_slash alone path ≡ false
  flat_slash None path flat = flat
  flat_slash (Some file) path flat = refl

  shut_by : (x : Case view lists writes c planned linked) → x.ask.path.slash ≡ false → (shut : Bool) → is_forbidden x.rules x.ask.path ≡ shut → (is_forbidden x.rules x.ask.path || has_slash x.rules.alone x.ask.path) ≡ shut
  shut_by x flat true e = ap (λ b. b || has_slash x.rules.alone x.ask.path) e
  shut_by x flat false e = ap (λ b. b || has_slash x.rules.alone x.ask.path) e ∙ flat_slash x.rules.alone x.ask.path flat

  refused_as : (x : Case view lists writes c planned linked) (allowed : Allowed) (e : FsError) (more : List Act) (t : S) (v w : World) → CallsFor allowed e
      → (plan_of view lists writes c planned linked x v).acts ≡ unless (first (not_allowed allowed ∷ [])) more → SameBesidesOpens v w → EndsFor view lists writes c planned linked x (Err (of_fs e)) t v w
  refused_as x (Ok edit) e more t v w calls acts same = absurd calls
  refused_as x (Err d) e more t v w calls acts same =
      subst (λ z. EndsFor view lists writes c planned linked x (Err (of_fs z)) t v w) (sym calls)
      (ends_halted view lists writes c planned linked x (line (fs_status (fs_error_of d))) [] (of_fs (fs_error_of d)) t v w acts (fs_line (fs_error_of d)).0 (fs_line (fs_error_of d)).1 same)

  -- what is allowed after looks is what was allowed before
  putting_same : (x : Case view lists writes c planned linked) (v u : World) → SameBesidesOpens v u → putting x.rules u x.ask.path ≡ putting x.rules v x.ask.path
  putting_same x v u same = ap (λ (tree : List Row). opening tree (resolved x.rules tree x.ask.path.names) put_options) same.tree

  free_after : (x : Case view lists writes c planned linked) (v u : World) → SameBesidesOpens v u → Clear view lists writes c planned linked x v → is_linked u.tree (resolved x.rules u.tree x.ask.path.names) ≡ false
  free_after x v u same clear =
      subst (λ (tree : List Row). is_linked tree (resolved x.rules tree x.ask.path.names) ≡ false) (sym same.tree) (free_here view lists writes c x v clear)

  unopened : (x : Case view lists writes c planned linked) (outcome : Outcome) (m n : S) (e : FsError) (v u a : World) → (view.state x.s).faults ≤ (view.state m).faults → Clear view lists writes c planned linked x v
      → SameBesidesOpens v u → Known x outcome v → x.ask.path.slash ≡ false → Opening x m (Err e) n u a → EndsFor view lists writes c planned linked x (Err (of_fs e)) n v a
  unopened x outcome m n e v u a le clear same known flat opens = by_shut (is_forbidden x.rules x.ask.path) refl
    where
      acts_by : is_forbidden x.rules x.ask.path ≡ false → (plan_of view lists writes c planned linked x v).acts ≡ unless (first (not_allowed (putting x.rules v x.ask.path) ∷ [])) (put_edits x v)
      acts_by e = allowed_line x v outcome known false e

      by : is_forbidden x.rules x.ask.path ≡ false → OpensBy view lists writes c x.rules x.ask.path m (Err e) n u a → EndsFor view lists writes c planned linked x (Err (of_fs e)) n v a
      by open_at (kept, inl calls) =
          refused_as x (putting x.rules v x.ask.path) e (put_edits x v) n v a (subst (λ z. CallsFor z e) (putting_same x v u same) calls) (acts_by open_at)
          (same_besides_then v u a same kept)
      by open_at (kept, inr spoiled) =
          ends_spoiled view lists writes c planned linked {T = F} x e n v a (spoiled_from view lists writes c planned linked {T = F} x.s m n (Err e) le spoiled)
          (part_none (plan_of view lists writes c planned linked x v).acts v a (same_besides_then v u a same kept))

      by_shut : (shut : Bool) → is_forbidden x.rules x.ask.path ≡ shut → EndsFor view lists writes c planned linked x (Err (of_fs e)) n v a
      by_shut true shut =
          let (is, kept) = opens.refused (shut_by x flat true shut) in
          let same_error : e ≡ fs.Forbidden = cc in
          subst (λ z. EndsFor view lists writes c planned linked x (Err (of_fs z)) n v a) (sym same_error)
          (ends_halted view lists writes c planned linked x (line 403) [] (of_fs fs.Forbidden) n v a (allowed_line x v outcome known true shut) (fs_line fs.Forbidden).0 (fs_line fs.Forbidden).1
          (same_besides_then v u a same kept))
      by_shut false shut = by shut (opens.called (shut_by x flat false shut) (regular_same x.rules x.knows v u same.tree clear.regular).apart (free_after x v u same clear))

  -- A file is open that the body goes into as the plan says.
  pub record Opened (x : Case view lists writes c planned linked) (outcome : Outcome) (n : S) (f : F) (v a : World) : Type 0 where
    pub known : Known x outcome v
    pub open_at : is_forbidden x.rules x.ask.path ≡ false
    pub row : Row
    pub into : Into x.ask.fields (putting x.rules v x.ask.path) x.ask.body v a row
    pub place : a.opens (view.file.handle f) ≡ Some (at_start row.number)
    pub kind : kind_at (view.state n) (view.file.handle f) ≡ Some row.kind

  opened_as : (x : Case view lists writes c planned linked) (outcome : Outcome) (m n : S) (f : F) (v u a : World) → Clear view lists writes c planned linked x v → SameBesidesOpens v u → Known x outcome v
      → x.ask.path.slash ≡ false → Opening x m (Ok f) n u a → Opened x outcome n f v a
  opened_as x outcome m n f v u a clear same known flat opens = by_shut (is_forbidden x.rules x.ask.path) refl
    where
      at : Names
      at = resolved x.rules v.tree x.ask.path.names

      by : is_forbidden x.rules x.ask.path ≡ false → OpensBy view lists writes c x.rules x.ask.path m (Ok f) n u a → Opened x outcome n f v a
      by shut (edit, row, allows, did, found, place, kind) = record {
        known = known;
        open_at = shut;
        row = row;
        into = put_into x.ask.fields x.ask.body at v u a row edit clear.world same (free_here view lists writes c x v clear) (sym (putting_same x v u same) ∙ allows) did
            (subst (λ (tree : List Row). row_at a.tree (resolved x.rules tree x.ask.path.names) ≡ Some row) same.tree found)
            (inr (view.file.handle f, ap (option_map (λ (o : OpenFile). o.number)) place));
        place = place;
        kind = kind;
      }

      by_shut : (shut : Bool) → is_forbidden x.rules x.ask.path ≡ shut → Opened x outcome n f v a
      by_shut true shut = let (is, kept) = opens.refused (shut_by x flat true shut) in cc
      by_shut false shut = by shut (opens.called (shut_by x flat false shut) (regular_same x.rules x.knows v u same.tree clear.regular).apart (free_after x v u same clear))

  -- ---- the write

  record Filled (x : Case view lists writes c planned linked) (outcome : Outcome) (n : S) (f : F) (ended : Result Unit FsError) (v b : World) : Type 0 where
    known : Known x outcome v
    open_at : is_forbidden x.rules x.ask.path ≡ false
    row : Row
    a : World
    into : Into x.ask.fields (putting x.rules v x.ask.path) x.ask.body v a row
    kind : kind_at (view.state n) (view.file.handle f) ≡ Some row.kind
    did : WritesBy view lists writes c (view.file.handle f) x.ask.body ended (at_start row.number) a b

  filled_as : (x : Case view lists writes c planned linked) (outcome : Outcome) (n : S) (f : F) (ended : Result Unit FsError) (v a b : World) → Opened x outcome n f v a
      → ((o : OpenFile) → a.opens (view.file.handle f) ≡ Some o → o.place ≤ length (bytes_of a o.number) → WritesBy view lists writes c (view.file.handle f) x.ask.body ended o a b)
      → Filled x outcome n f ended v b
  filled_as x outcome n f ended v a b opened goes =
      record { known = opened.known; open_at = opened.open_at; row = opened.row; a = a; into = opened.into; kind = opened.kind; did = goes (at_start opened.row.number) opened.place (omega arith) }

  written_right : (x : Case view lists writes c planned linked) (outcome : Outcome) (n t : S) (f : F) (ended : Result Unit FsError) (v b w : World)
      → (can_write ((view.state n).live (view.file.handle f)) ≡ true → OnErr ended (Spoiled (view.state x.s) ended (view.state t)))
      → ((l : Live) → (view.state n).live (view.file.handle f) ≡ Some l → l.how ≡ put_options) → Filled x outcome n f ended v b → SameBesidesOpens b w
      → EndsFor view lists writes c planned linked x (answer_unless (line_of ended) outcome) t v w
  written_right x outcome n t f (Ok y) v b w refused how filled same =
      let acts = passed x v outcome filled.into.edit filled.known filled.open_at filled.into.allows in
      ends_done view lists writes c planned linked x outcome t v w filled.known.done
      (λ reply is. subst (λ acts. ByActs x.ask.fields acts (plan_of view lists writes c planned linked x v).done reply v w) (sym acts)
      (filled.into.whole w (fill_of filled.row.number x.ask.body filled.a b w filled.into.empty filled.did.0 same) (plan_of view lists writes c planned linked x v).done reply is))
  written_right x outcome n t f (Err e) v b w refused how filled same =
      let acts = passed x v outcome filled.into.edit filled.known filled.open_at filled.into.allows in
      let can = live_can ((view.state n).live (view.file.handle f)) filled.row.kind filled.kind filled.into.kind how in
      let (count, edited) = filled.did in
      ends_spoiled view lists writes c planned linked {T = Unit} x e t v w (refused can)
      (subst (λ acts. PartOf acts v w) (sym acts)
      (filled.into.part count w (fill_of filled.row.number (take count x.ask.body) filled.a b w filled.into.empty edited same)))

  pub still_spoiled : (ended : Result Unit FsError) (s n k t : S) → (view.state s).faults ≤ (view.state n).faults → (view.state t).faults ≡ (view.state k).faults
      → OnErr ended (Spoiled (view.state n) ended (view.state k)) → OnErr ended (Spoiled (view.state s) ended (view.state t))
  still_spoiled (Ok y) s n k t le same spoiled = tt
  still_spoiled (Err e) s n k t le same (inl (f, rose)) = inl (f, rw same (rose_before (view.state s).faults (view.state n).faults (view.state k).faults le rose))
  still_spoiled (Err e) s n k t le same (inr f) = inr f

  -- what is known of the world in which the file was opened
  pub opened_world : (x : Case view lists writes c planned linked) (outcome : Outcome) (m n : S) (f : F) → x.ask.path.slash ≡ false → Reached view lists writes c x.s m
      → At view lists writes c planned linked x m (Known x outcome) → view.opens m c x.ask.path put_options (Ok f) n
      → Told view lists writes c x.s n (λ v a. Clear view lists writes c planned linked x v → Opened x outcome n f v a)
  opened_world x outcome m n f slash reached at call =
      both_then (view.state x.s).told (view.state m).told (view.state n).told _ _ (λ v a. Clear view lists writes c planned linked x v → Opened x outcome n f v a)
      (λ v u a p q clear. opened_as x outcome m n f v u a clear p.0 (p.1 clear) slash q) at (x.follows.opens m n x.ask.path (Ok f) reached call)

  pub opened_stage : (x : Case view lists writes c planned linked) (outcome : Outcome) (opened : Result F FsError) (m n : S) (r : Given) (t : S) → x.ask.path.slash ≡ false → Reached view lists writes c x.s m
      → At view lists writes c planned linked x m (Known x outcome) → view.opens m c x.ask.path put_options opened n → OpensOne view.file put_options (view.state m) opened (view.state n)
      → AfterOpeningWhole view writes c opened outcome x.ask.body n r t → Right view lists writes c planned linked x r t
  opened_stage x outcome (Err e) m n r t slash reached at call one ends =
      rw (ends.0, ends.1) (both_then (view.state x.s).told (view.state m).told (view.state n).told _ _ _
      (λ v u a p q clear. unopened x outcome m n e v u a (x.follows.counts m reached) clear p.0 (p.1 clear) slash q) at (x.follows.opens m n x.ask.path (Err e) reached call))
  opened_stage x outcome (Ok f) m n r t slash reached at call one into =
      let next = opened_from m n x.ask.path put_options (Ok f) reached call in
      let first_world = opened_world x outcome m n f slash reached at call in
      let second_world = both_then (view.state x.s).told (view.state n).told (view.state into.full).told _ _ (λ v b. Clear view lists writes c planned linked x v → Filled x outcome n f into.ended v b)
      (λ v a b p q clear. filled_as x outcome n f into.ended v a b (p clear) q) first_world
      (x.follows.writes_file n into.full f into.file x.ask.body into.ended next into.written (never_appends ((view.state n).live (view.file.handle f)) one.options)) in
      rw into.answer (both_then (view.state x.s).told (view.state into.full).told (view.state t).told _ _ _
      (λ v b w p same clear. written_right x outcome n t f into.ended v b w
      (λ can. still_spoiled into.ended x.s n into.full t (x.follows.counts n next) into.closes.done.counts (into.written.told.refused can)) one.options (p clear) same)
      second_world into.closes.done.keeps.world)

  -- ---- the method

  after_checks : (x : Case view lists writes c planned linked) (may : Given) (m : S) (r : Given) (t : S) → Checked x may m → ((outcome : Outcome) → may ≡ Ok outcome → x.ask.path.slash ≡ false)
      → AfterChecksWhole view writes c may x.ask.path x.ask.body m r t → Right view lists writes c planned linked x r t
  after_checks x (Err d) m r t right slash (e, f) = rw (e, f) right
  after_checks x (Ok outcome) m r t (reached, at) slash (opened, n, call, one, on) = opened_stage x outcome opened m n r t (slash outcome refl) reached at call one on

  put_right : (x : Case view lists writes c planned linked) → x.ask.method ≡ Put → (r : Given) (t : S) → PutsWhole view writes c x.ask.path x.ask.fields x.ask.body x.s r t → Right view lists writes c planned linked x r t
  put_right x is r t (may, m, checks, on) =
      after_checks x may m r t (checked x is may m checks)
      (λ outcome e. unslashed x.ask.path.slash (Next (Below view c x.ask.path (MayReplace view c x.ask.path x.ask.fields))) outcome x.s m
      (subst (λ g. MayPut view c x.ask.path x.ask.fields x.s g m) e checks)) on

  pub put_follows : (rules : Rules) (k : Knowledge) (s : S) → Follows view lists writes c rules k s → (ask : Ask) → ask.method ≡ Put → (r : Given) (t : S)
      → PutsWhole view writes c ask.path ask.fields ask.body s r t → Told view lists writes c s t (λ v w. IsRegular rules k v → RightIn view lists writes c rules ask s r t v w)
  put_follows rules k s follows ask is r t run =
      right_in view lists writes c rules k s follows ask r t (put_right (record { rules = rules; knows = k; ask = ask; s = s; follows = follows }) is r t run)
