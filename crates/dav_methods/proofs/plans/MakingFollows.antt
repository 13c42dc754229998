-- MKCOL, MKCALENDAR and MKADDRESSBOOK over a store that follows its rules are as their plans say.
-- Headlines: `mkcol_follows` and `mkcalendar_follows`.
use Rattle.std.proofs.Common.{◌≡◌, ◌≤◌, ◌⊎◌, inl, inr, Bool, true, false, not, List, [], ◌∷◌, take, Option, None, Some, Result, Ok, Err, refl, sym, ap, subst, ◌∙◌}
use Rattle.dav_io.proofs.ToldLemmas.{both_then}
use Rattle.dav_core.specs.declared.error.FsError.{FsError}
use Rattle.dav_core.specs.declared.handle.DiskError.{DiskError}
use Rattle.dav_core.specs.declared.handle.DiskError.TheVariants.{Exists}
use Rattle.dav_core.specs.declared.method.DavMethod.TheVariants.{MkAddressbook, MkCalendar, MkCol}
use Rattle.dav_core.specs.declared.tree.Kind.TheVariants.{Dir}
use Rattle.dav_core.specs.declared.tree.Row.{Row}
use Rattle.dav_core.specs.Allowed.{Allowed, making_at, making_dir, place}
use Rattle.dav_core.specs.Edits.{Edited, EditedBy, makes}
use Rattle.dav_core.specs.Errors.{fs_error_of}
use Rattle.dav_core.specs.Path.{Names}
use Rattle.dav_core.specs.Statuses.{fs_status, of_fs}
use Rattle.dav_core.specs.Tree.{is_linked}
use Rattle.dav_core.specs.World.{SameBesidesOpens, World}
use Rattle.dav_core.specs.Writing.{LeftBy}
use Rattle.dav_core.proofs.UnchangedLemmas.{same_besides, same_besides_then}
use Rattle.dav_store.specs.View.{Listings, View}
use Rattle.dav_model.specs.Finding.{is_forbidden, resolved}
use Rattle.dav_model.specs.Plans.{Act, Ask, Halt, above, closing_when, does, edits_of, first, has_parent, is_found, line, making, mkcalendar_plan, not_allowed, plan, plan_as, refused_there, stands, unless, unmet, when}
use Rattle.dav_model.specs.Rules.{Knowledge, Rules}
use Rattle.dav_model.specs.Written.{PartOf}
use Rattle.dav_model.specs.Valid.{IsRegular}
use Rattle.dav_model.proofs.JoiningLemmas.{part_none}
use Rattle.dav_core.specs.declared.error.FsError.TheVariants as fs
use Rattle.dav_walks.specs.Follows.{Calls, Follows, IfFound, Reached, Told, UnlessShut, here}
use Rattle.dav_methods.specs.ByPlan.{RightIn}
use Rattle.dav_methods.specs.Lines.{Given, found_or_failed, made, may_make, no_parent}
use Rattle.dav_walks.specs.Pouring.{Writes}
use Rattle.dav_methods.specs.Table.{Below, EndsMade, MkCalendars, MkCols, Run, answered}
use Rattle.dav_walks.proofs.trees.EditsJoined.{made_after}
use Rattle.dav_walks.proofs.trees.NoLinkAbove.{above_free}
use Rattle.dav_methods.proofs.plans.LinesMatch.{calendar_match, first_three, make_match, parent_match}
use Rattle.dav_walks.proofs.trees.StandsAsBefore.{fs_line, regular_same, stands_plainly}
use Rattle.dav_methods.proofs.plans.EndsByPlan.{Acts, At, Case, Clear, Embeds, EndsFor, Right, at_first, at_map, ends_done, ends_halted, ends_spoiled, linked, look_stage, plan_of, planned, right_in, spoiled_from, unlinked}

-- what is allowed is the making of a directory
made_only : (at : Names) (found : Result (Option Row) DiskError) → (making_at found at ≡ Ok (Some (makes at Dir []))) ⊎ ((d : DiskError) × (making_at found at ≡ Err d))
made_only at (Ok None) = inl refl
made_only at (Ok (Some row)) = inr (Exists, refl)
made_only at (Err e) = inr (e, refl)

part_made : (at : Names) (v u w : World) → SameBesidesOpens v u → LeftBy true (Ok (Some (makes at Dir []))) u w → PartOf (does (makes at Dir []) ∷ []) v w
part_made at v u w same (inl left) = inl (same_besides_then v u w same left)
part_made at v u w same (inr (part, (n, e), edited)) =
    inr (inl (makes at Dir (take n []), (n, refl), made_after at Dir (take n []) v u w same (subst (λ x. Edited x u w) e edited)))

-- Its plan is that of a calendar.
abbrev pub HasCalendarPlan : Rules → Ask → Type 0
HasCalendarPlan rules ask = (v : World) → plan rules v ask ≡ mkcalendar_plan rules v ask

pub calendar_plan : (rules : Rules) (ask : Ask) → (ask.method ≡ MkCalendar) ⊎ (ask.method ≡ MkAddressbook) → HasCalendarPlan rules ask
calendar_plan rules ask (inl is) v = ap (λ m. plan_as m rules v ask) is
calendar_plan rules ask (inr is) v = ap (λ m. plan_as m rules v ask) is

module _ {S C F L E : Type 0} (view : View S C F) (lists : Listings S C L E) (writes : Writes F) (c : C) where
  -- No link stands on the way to the path, or to the directory above.
  pub free_here : (x : Case view lists writes c planned linked) (v : World) → Clear view lists writes c planned linked x v → is_linked v.tree (resolved x.rules v.tree x.ask.path.names) ≡ false
  free_here x v clear = unlinked x.ask.method v.tree (resolved x.rules v.tree x.ask.path.names) clear.links

  pub free_above : (x : Case view lists writes c planned linked) (v : World) → Clear view lists writes c planned linked x v → is_linked v.tree (resolved x.rules v.tree (above x.ask.path).names) ≡ false
  free_above x v clear = above_free x.rules v.tree x.ask.path.names (free_here x v clear)

  -- A look for the directory above, and what follows.
  pub below_stage : (x : Case view lists writes c planned linked) (G : Given → S → Type 0) → Embeds view lists writes c planned linked x G → (rest : World → List (Option Halt)) (more : World → List Act) (run : Run S)
      → (m : S) (r : Given) (t : S) → Reached view lists writes c x.s m
      → At view lists writes c planned linked x m (Acts view lists writes c planned linked x (λ v. when (not (has_parent x.rules v x.ask.path)) 409 ∷ rest v) more)
      → ((n : S) → Reached view lists writes c x.s n → At view lists writes c planned linked x n (Acts view lists writes c planned linked x rest more) → run n r t → G r t) → Below view c x.ask.path run m r t → G r t
  below_stage x G embeds rest more run m r t reached at on goes =
      look_stage view lists writes c planned linked x G embeds (above x.ask.path) no_parent (record { failed = refl; short = refl })
      (λ v. when (not (has_parent x.rules v x.ask.path)) 409) rest more
      (λ v up finds. parent_match (stands x.rules v (above x.ask.path)) up (stands_plainly x.rules v (above x.ask.path)) finds) (free_above x) (λ up. run) m r t reached at
      (λ up n reached at goes. on n reached (at_map view lists writes c planned linked x n _ _ (λ v clear p. p.0) at) goes) goes

  -- ---- a directory is made

  makes_right : (x : Case view lists writes c planned linked) (at : Names) (n t : S) (answer : Result Unit FsError) (v u w : World) → (plan_of view lists writes c planned linked x v).acts ≡ does (makes at Dir []) ∷ []
      → (plan_of view lists writes c planned linked x v).done ≡ 201 → SameBesidesOpens v u → (view.state x.s).faults ≤ (view.state n).faults
      → Calls view lists writes c (Ok (Some (makes at Dir []))) n answer t u w → EndsFor view lists writes c planned linked x (answered made answer) t v w
  makes_right x at n t (Ok y) v u w acts done same le (edit, e, does_so) =
      let is : Some (makes at Dir []) ≡ edit = cc in
      let edited : Edited (makes at Dir []) u w = subst (λ o. EditedBy o u w) (sym is) does_so in
      ends_done view lists writes c planned linked x made t v w (rw done refl) (λ reply replied. rw acts (w, made_after at Dir [] v u w same edited, (replied, same_besides w)))
  makes_right x at n t (Err e) v u w acts done same le (inl (called, kept)) = absurd called
  makes_right x at n t (Err e) v u w acts done same le (inr (spoiled, left)) =
      ends_spoiled view lists writes c planned linked {T = Unit} x e t v w (spoiled_from view lists writes c planned linked {T = Unit} x.s n t (Err e) le spoiled) (rw acts (part_made at v u w same left))

  refused_right : (x : Case view lists writes c planned linked) (k : DiskError) (n t : S) (answer : Result Unit FsError) (v u w : World)
      → (plan_of view lists writes c planned linked x v).acts ≡ unless (first (not_allowed (Err k) ∷ [])) [] → SameBesidesOpens v u → (view.state x.s).faults ≤ (view.state n).faults
      → Calls view lists writes c (Err k) n answer t u w → EndsFor view lists writes c planned linked x (answered made answer) t v w
  refused_right x k n t (Ok y) v u w acts same le (edit, e, does_so) = cc
  refused_right x k n t (Err e) v u w acts same le (inl (called, kept)) =
      subst (λ z. EndsFor view lists writes c planned linked x (Err (of_fs z)) t v w) (sym called)
      (ends_halted view lists writes c planned linked x (line (fs_status (fs_error_of k))) [] (of_fs (fs_error_of k)) t v w acts (fs_line (fs_error_of k)).0 (fs_line (fs_error_of k)).1
      (same_besides_then v u w same kept))
  refused_right x k n t (Err e) v u w acts same le (inr (spoiled, left)) =
      ends_spoiled view lists writes c planned linked {T = Unit} x e t v w (spoiled_from view lists writes c planned linked {T = Unit} x.s n t (Err e) le spoiled)
      (part_none (plan_of view lists writes c planned linked x v).acts v w (same_besides_then v u w same left))

  call_right : (x : Case view lists writes c planned linked) (at : Names) (allowed : Allowed) (n t : S) (answer : Result Unit FsError) (v u w : World)
      → (allowed ≡ Ok (Some (makes at Dir []))) ⊎ ((d : DiskError) × (allowed ≡ Err d)) → (plan_of view lists writes c planned linked x v).acts ≡ unless (first (not_allowed allowed ∷ [])) (edits_of allowed)
      → (plan_of view lists writes c planned linked x v).done ≡ 201 → SameBesidesOpens v u → (view.state x.s).faults ≤ (view.state n).faults
      → Calls view lists writes c allowed n answer t u w → EndsFor view lists writes c planned linked x (answered made answer) t v w
  call_right x at allowed n t answer v u w (inl is) acts done same le calls =
      makes_right x at n t answer v u w (acts ∙ ap (λ a. unless (first (not_allowed a ∷ [])) (edits_of a)) is) done same le (subst (λ a. Calls view lists writes c a n answer t u w) is calls)
  call_right x at allowed n t answer v u w (inr (d, is)) acts done same le calls =
      refused_right x d n t answer v u w (acts ∙ ap (λ a. unless (first (not_allowed a ∷ [])) (edits_of a)) is) same le (subst (λ a. Calls view lists writes c a n answer t u w) is calls)

  -- the lines that are left where a directory is to be made
  abbrev pub making_lines : Case view lists writes c planned linked → World → List (Option Halt)
  making_lines x v = when (is_forbidden x.rules x.ask.path) 403 ∷ not_allowed (making x.rules v x.ask.path) ∷ []

  abbrev pub making_edits : Case view lists writes c planned linked → World → List Act
  making_edits x v = edits_of (making x.rules v x.ask.path)

  making_stage : (x : Case view lists writes c planned linked) → ((v : World) → (plan_of view lists writes c planned linked x v).done ≡ 201) → (n : S) (r : Given) (t : S) → Reached view lists writes c x.s n
      → At view lists writes c planned linked x n (Acts view lists writes c planned linked x (making_lines x) (making_edits x))
      → EndsMade view c x.ask.path n r t → Right view lists writes c planned linked x r t
  making_stage x done n r t reached at (answer, k, call, (e, f)) =
      rw (e, f) (both_then (view.state x.s).told (view.state n).told (view.state k).told _ _ _ (λ v u w p q clear. on v u w p.0 clear (is_forbidden x.rules x.ask.path) refl (p.1 clear) q) at
      (x.follows.makes_dir n k x.ask.path answer reached call))
    where
      on : (v u w : World) → SameBesidesOpens v u → Clear view lists writes c planned linked x v → (shut : Bool) → is_forbidden x.rules x.ask.path ≡ shut
          → Acts view lists writes c planned linked x (making_lines x) (making_edits x) v
          → UnlessShut view lists writes c (is_forbidden x.rules x.ask.path) answer u w (IfFound view lists writes c x.rules u x.ask.path (Calls view lists writes c (making x.rules u x.ask.path) n answer k u w))
          → EndsFor view lists writes c planned linked x (answered made answer) k v w
      on v u w same clear true shut acts calls =
          let (is, kept) = calls.refused shut in
          let stops : (plan_of view lists writes c planned linked x v).acts ≡ unless (first (when true 403 ∷ not_allowed (making x.rules v x.ask.path) ∷ [])) (making_edits x v) =
          acts ∙ ap (λ b. unless (first (when b 403 ∷ not_allowed (making x.rules v x.ask.path) ∷ [])) (making_edits x v)) shut in
          subst (λ a. EndsFor view lists writes c planned linked x (answered made a) k v w) (sym is)
          (ends_halted view lists writes c planned linked x (line 403) [] (of_fs fs.Forbidden) k v w stops (fs_line fs.Forbidden).0 (fs_line fs.Forbidden).1 (same_besides_then v u w same kept))
      on v u w same clear false shut acts calls =
          let at : Names = resolved x.rules v.tree x.ask.path.names in
          let free = subst (λ (tree : List Row). is_linked tree (resolved x.rules tree x.ask.path.names) ≡ false) (sym same.tree) (free_here x v clear) in
          let one : making x.rules u x.ask.path ≡ making x.rules v x.ask.path =
          ap (λ (tree : List Row). making_dir tree (resolved x.rules tree x.ask.path.names)) same.tree in
          let goes : (plan_of view lists writes c planned linked x v).acts ≡ unless (first (not_allowed (making x.rules v x.ask.path) ∷ [])) (edits_of (making x.rules v x.ask.path)) =
          acts ∙ ap (λ b. unless (first (when b 403 ∷ not_allowed (making x.rules v x.ask.path) ∷ [])) (making_edits x v)) shut in
          call_right x at (making x.rules v x.ask.path) n k answer v u w (made_only at (place v.tree at)) goes (done v) same (x.follows.counts n reached)
          (subst (λ a. Calls view lists writes c a n answer k u w) one (calls.called shut (regular_same x.rules x.knows v u same.tree clear.regular).apart free))

  -- ---- the methods

  pub mkcol_right : (x : Case view lists writes c planned linked) → x.ask.method ≡ MkCol → (r : Given) (t : S) → MkCols view c x.ask.path x.ask.fields x.s r t → Right view lists writes c planned linked x r t
  mkcol_right x is r t run =
      let rules : Rules = x.rules in
      look_stage view lists writes c planned linked x (Right view lists writes c planned linked x) (λ d t right. right) x.ask.path (may_make x.ask.fields) (record { failed = refl; short = refl })
      (λ v. first (when (is_found (stands rules v x.ask.path)) 405 ∷ refused_there (stands rules v x.ask.path) ∷ unmet MkCol x.ask.fields (stands rules v x.ask.path) ∷ []))
      (λ v. when (not (has_parent rules v x.ask.path)) 409 ∷ making_lines x v) (making_edits x)
      (λ v found finds. make_match x.ask.fields (stands rules v x.ask.path) found finds) (free_here x) (λ found. Below view c x.ask.path (EndsMade view c x.ask.path)) x.s r t here
      (at_first view lists writes c planned linked x _ (λ v. ap (λ m. (plan_as m rules v x.ask).acts) is
      ∙ ap (λ l. unless l (edits_of (making rules v x.ask.path)))
      (first_three (when (is_found (stands rules v x.ask.path)) 405) (refused_there (stands rules v x.ask.path)) (unmet MkCol x.ask.fields (stands rules v x.ask.path))
      (when (not (has_parent rules v x.ask.path)) 409 ∷ making_lines x v))))
      (λ found n reached at goes.
      below_stage x (Right view lists writes c planned linked x) (λ d t right. right) (making_lines x) (making_edits x) (EndsMade view c x.ask.path) n r t
      reached (at_map view lists writes c planned linked x n _ _ (λ v clear p. p.0) at)
      (λ n reached at goes. making_stage x (λ v. ap (λ m. (plan_as m rules v x.ask).done) is) n r t reached at goes) goes)
      run

  pub mkcalendar_right : (x : Case view lists writes c planned linked) → HasCalendarPlan x.rules x.ask → (r : Given) (t : S) → MkCalendars view c x.ask.path x.s r t
      → Right view lists writes c planned linked x r t
  mkcalendar_right x is r t run =
      let rules : Rules = x.rules in
      look_stage view lists writes c planned linked x (Right view lists writes c planned linked x) (λ d t right. right) x.ask.path found_or_failed (record { failed = refl; short = refl })
      (λ v. closing_when (is_found (stands rules v x.ask.path)) 405) (making_lines x) (making_edits x)
      (λ v found finds. calendar_match (stands rules v x.ask.path) found (stands_plainly x.rules v x.ask.path) finds) (free_here x) (λ found. EndsMade view c x.ask.path) x.s r t here
      (at_first view lists writes c planned linked x _ (λ v. ap (λ p. p.acts) (is v)))
      (λ found n reached at goes. making_stage x (λ v. ap (λ p. p.done) (is v)) n r t reached (at_map view lists writes c planned linked x n _ _ (λ v clear p. p.0) at) goes)
      run

  -- ---- all worlds

  pub mkcol_follows : (rules : Rules) (k : Knowledge) (s : S) → Follows view lists writes c rules k s → (ask : Ask) → ask.method ≡ MkCol → (r : Given) (t : S) → MkCols view c ask.path ask.fields s r t
      → Told view lists writes c s t (λ v w. IsRegular rules k v → RightIn view lists writes c rules ask s r t v w)
  mkcol_follows rules k s follows ask is r t run =
      right_in view lists writes c rules k s follows ask r t (mkcol_right (record { rules = rules; knows = k; ask = ask; s = s; follows = follows }) is r t run)

  pub mkcalendar_follows : (rules : Rules) (k : Knowledge) (s : S) → Follows view lists writes c rules k s → (ask : Ask) → HasCalendarPlan rules ask → (r : Given) (t : S) → MkCalendars view c ask.path s r t
      → Told view lists writes c s t (λ v w. IsRegular rules k v → RightIn view lists writes c rules ask s r t v w)
  mkcalendar_follows rules k s follows ask is r t run =
      right_in view lists writes c rules k s follows ask r t (mkcalendar_right (record { rules = rules; knows = k; ask = ask; s = s; follows = follows }) is r t run)
