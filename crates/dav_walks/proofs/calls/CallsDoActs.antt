-- A call that does what is allowed comes to its act, or to a part of it.
-- Headline: `allowed_comes`.
use Rattle.std.proofs.Common.{◌≡◌, ◌≤◌, [], ◌∷◌, true, None, Some, Result, Ok, Err, refl, sym, ap, subst, ◌∙◌, inl, inr}
use Rattle.dav_core.specs.declared.error.FsError.{FsError}
use Rattle.dav_core.specs.Allowed.{Allowed}
use Rattle.dav_core.specs.Edits.{Edit, Edited, EditedBy}
use Rattle.dav_core.specs.Errors.{fs_error_of}
use Rattle.dav_core.specs.Statuses.{fs_status, of_fs}
use Rattle.dav_core.specs.World.{World}
use Rattle.dav_core.specs.Writing.{LeftBy}
use Rattle.dav_core.proofs.UnchangedLemmas.{same_besides}
use Rattle.dav_store.specs.View.{Listings, View}
use Rattle.dav_model.specs.Conditions.{Fields}
use Rattle.dav_model.specs.CarryPlans.{act_of}
use Rattle.dav_model.specs.Plans.{does, halts, line}
use Rattle.dav_model.specs.Written.{PartOf}
use Rattle.dav_walks.specs.Follows.{Calls, CallsFor}
use Rattle.dav_walks.specs.Pouring.{Writes}
use Rattle.dav_walks.specs.Removing.{line_of}
use Rattle.dav_walks.proofs.calls.ActsJoined.{Comes, halted_comes, spoiled_comes}
use Rattle.dav_walks.proofs.trees.StandsAsBefore.{fs_line}

part_left : (edit : Edit) (u w : World) → LeftBy true (Ok (Some edit)) u w → PartOf (does edit ∷ []) u w
part_left edit u w (inl same) = inl same
part_left edit u w (inr (part, is, edited)) = inr (inl (part, is, edited))

module _ {S C F L E : Type 0} (view : View S C F) (lists : Listings S C L E) (writes : Writes F) (c : C) (fields : Fields) (start : S) where
  -- what was allowed was done
  pub call_done : (allowed : Allowed) (edit : Edit) (m t : S) (x : Unit) (u w : World) → allowed ≡ Ok (Some edit) → Calls view lists writes c allowed m (Ok x) t u w → Edited edit u w
  call_done allowed edit m t x u w is (some, e, done) =
      let same : some ≡ Some edit = (let f : Ok some ≡ Ok (Some edit) = sym e ∙ is in cc) in subst (λ o. EditedBy o u w) same done

  pub call_comes : (allowed : Allowed) (edit : Edit) (m t : S) (answer : Result Unit FsError) (u w : World) → allowed ≡ Ok (Some edit) → (view.state start).faults ≤ (view.state m).faults
      → Calls view lists writes c allowed m answer t u w → Comes view fields start (line_of answer) (does edit ∷ []) t u w
  call_comes allowed edit m t (Ok x) u w is le calls = (w, call_done allowed edit m t x u w is calls, same_besides w)
  call_comes allowed edit m t (Err f) u w is le (inl (called, same)) = absurd (subst (λ a. CallsFor a f) is called)
  call_comes allowed edit m t (Err f) u w is le (inr (spoiled, left)) =
      spoiled_comes view fields start f (of_fs f) (does edit ∷ []) m t u w refl le spoiled (part_left edit u w (subst (λ a. LeftBy true a u w) is left))

  -- A call comes to the act that is allowed, or to the line that the tree calls for.
  pub allowed_comes : (allowed : Allowed) (m t : S) (answer : Result Unit FsError) (u w : World) → (view.state start).faults ≤ (view.state m).faults → Calls view lists writes c allowed m answer t u w
      → Comes view fields start (line_of answer) (act_of allowed) t u w
  allowed_comes (Ok (Some edit)) m t answer u w le calls = call_comes (Ok (Some edit)) edit m t answer u w refl le calls
  allowed_comes (Ok None) m t (Ok x) u w le (some, e, done) =
      let same : some ≡ None = (let f : Ok None ≡ Ok some = e in cc) in subst (λ o. EditedBy o u w) same done
  allowed_comes (Ok None) m t (Err f) u w le (inl (called, same)) = absurd called
  allowed_comes (Ok None) m t (Err f) u w le (inr (spoiled, left)) = spoiled_comes view fields start f (of_fs f) [] m t u w refl le spoiled left
  allowed_comes (Err d) m t (Ok x) u w le (some, e, done) = cc
  allowed_comes (Err d) m t (Err f) u w le (inl (called, same)) =
      halted_comes view fields start (of_fs f) (line (fs_status (fs_error_of d))) [] t u w ((fs_line f).0 ∙ ap fs_status called) (fs_line f).1 same
  allowed_comes (Err d) m t (Err f) u w le (inr (spoiled, left)) = spoiled_comes view fields start f (of_fs f) (halts (line (fs_status (fs_error_of d))) ∷ []) m t u w refl le spoiled left
