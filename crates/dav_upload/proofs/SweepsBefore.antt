-- A sweep of what was left before a time leaves what is shown, and to others what they have at all paths but those chosen.
use Rattle.std.proofs.Common.{◌≡◌, ◌≢◌, ◌+◌, ◌&&◌, ◌++◌, inl, inr, ℕ, List, [], ◌∷◌, Bool, true, false, None, Some, Result, Ok, Err, refl, sym, ap, subst, ◌∙◌}
use Rattle.std.proofs.lemmas.Bool.{and_parts}
use Rattle.std.specs.List.{AllByRecursion}
use Rattle.dav_core.specs.declared.error.FsError.{FsError}
use Rattle.dav_core.specs.declared.error.FsError.TheVariants.{NotFound}
use Rattle.dav_core.specs.declared.member.Member.{Member}
use Rattle.dav_core.specs.declared.time.FileTime.{FileTime}
use Rattle.dav_core.specs.DavPath.{WebPath}
use Rattle.dav_core.specs.Listing.{or_empty}
use Rattle.dav_core.specs.Path.{Names, parent_of}
use Rattle.dav_core.specs.Tree.{is_file}
use Rattle.dav_core.specs.World.{SameBesidesOpens, World}
use Rattle.dav_store.specs.Frames.{KeepsOpen}
use Rattle.dav_store.specs.Members.{WasListed}
use Rattle.dav_store.specs.View.{Listings, View}
use Rattle.dav_walks.proofs.calls.KeptOpen.{open_after, open_kept, open_same, open_then}
use Rattle.dav_walks.specs.Pouring.{Writes}
use Rattle.dav_model.proofs.LooseWalks.{parent_pushed}
use Rattle.dav_upload.specs.declared.error.UploadError.{UploadError}
use Rattle.dav_upload.specs.Names.{is_hidden, is_hidden_path}
use Rattle.dav_upload.specs.Others.{IsNotHiddenIn, LeavesOthers}
use Rattle.dav_upload.specs.Shown.{SameShown}
use Rattle.dav_upload.specs.Steps.{HasClearNames}
use Rattle.dav_upload.specs.Sweeping.{SweepsBefore, TakesEach, is_left_before, left_before, was_before}
use Rattle.dav_upload.specs.Sweeping.TakesEach.{done, goes, gone, stops}
use Rattle.dav_upload.specs.Takes.{LeadsPlainly, TakesUploads}
use Rattle.dav_upload.proofs.Chains.{one_told, shown_same, shown_then}
use Rattle.dav_upload.proofs.Leaves.{Leaves, leaves_same, leaves_taken, leaves_then}
use Rattle.dav_upload.proofs.Links.{links_kept}
use Rattle.dav_upload.proofs.Making.{kept_unseen}
use Rattle.dav_upload.proofs.Others.{IsOfAny, all_left, frame_open}
use Rattle.dav_upload.proofs.StepsLeave.{equal_worlds}
use Rattle.dav_upload.proofs.Sweeps.{AreClear, Took, removed_one, still_clear, took_one}
use Rattle.dav_io.proofs.ToldLemmas.{told_after}
use Rattle.dav_core.proofs.Paths.{last_pushed}

-- ---- the paths that are chosen

pub left_hides : (limit : FileTime) (m : Member) → is_left_before limit m ≡ true → is_hidden m.name ≡ true
left_hides limit m e = (and_parts (is_hidden m.name) (was_before limit m.modified) (and_parts (is_file m.kind) (is_hidden m.name && was_before limit m.modified) e).1).0

pub left_clear : (w : World) (dir : WebPath) (limit : FileTime) (members : List Member) → HasClearNames w dir.names → AreClear w (left_before limit dir members)
left_clear w dir limit [] clear = tt
left_clear w dir limit (m ∷ members) clear = by (is_left_before limit m) refl (left_clear w dir limit members clear)
  where
    by : (b : Bool) → is_left_before limit m ≡ b → AreClear w (left_before limit dir members) → AreClear w (left_before limit dir (m ∷ members))
    by false e rest = rw e rest
    by true e rest =
        let hides = left_hides limit m e in
        rw e ((ap (λ o. is_hidden (or_empty o)) (last_pushed dir.names m.name) ∙ hides, clear m.name hides), rest)

-- None of these paths is among others.
abbrev pub AreOff : (Names → Type 0) → List WebPath → Type 0
AreOff other paths = AllByRecursion (λ (path : WebPath). (p : Names) → other p → p ≢ path.names) paths

left_off : (dir : WebPath) (limit : FileTime) (members : List Member) → AreOff (IsNotHiddenIn dir.names) (left_before limit dir members)
left_off dir limit [] = tt
left_off dir limit (m ∷ members) = by (is_left_before limit m) refl (left_off dir limit members)
  where
    off : is_left_before limit m ≡ true → (p : Names) → IsNotHiddenIn dir.names p → p ≢ dir.names ++ m.name ∷ []
    off e p is at = is (ap is_hidden_path at ∙ (ap (λ o. is_hidden (or_empty o)) (last_pushed dir.names m.name) ∙ left_hides limit m e)) (ap parent_of at ∙ parent_pushed dir.names m.name)

    by : (b : Bool) → is_left_before limit m ≡ b → AreOff (IsNotHiddenIn dir.names) (left_before limit dir members) → AreOff (IsNotHiddenIn dir.names) (left_before limit dir (m ∷ members))
    by false e rest = rw e rest
    by true e rest = rw e (off e, rest)

-- ---- the removals

took_off : (other : Names → Type 0) (hidden : Names) (v w : World) → ((p : Names) → other p → p ≢ hidden) → Took hidden v w → Leaves IsOfAny other v w
took_off other hidden v w off (inl (there, edited)) = leaves_taken IsOfAny other v w hidden there.alone off edited
took_off other hidden v w off (inr same) = leaves_same IsOfAny other v w same

module _ {S C F : Type 0} (view : View S C F) (writes : Writes F) (c : C) (test : S → Bool) (takes_all : TakesUploads view writes c test) where
  -- a removal that was made, or of a name that was gone, and the rest
  then_unseen : (path : WebPath) (rest : List WebPath) (s m : S) (a : Result Unit FsError) (v w : World) → (view.state s).told ≡ Some v → test s ≡ true → view.removes_file s c path a m
      → AreClear v (path ∷ rest) → ((x : World) → (view.state m).told ≡ Some x → test m ≡ true → AreClear x rest → SameShown x w) → SameShown v w
  then_unseen path rest s m a v w was plain removes ((hides, free), clear) on =
      let taken = takes_all.removes s m path a plain removes in
      let (x, here, ends) = told_after (view.state s).told (view.state m).told _ v taken.1 was in
      let unseen = removed_one view writes c test takes_all path s m v x a was here plain hides free removes in
      shown_then v x w unseen.shown (on x here taken.0 (still_clear v x rest unseen clear))

  each_unseen : (paths : List WebPath) (n : ℕ) (s t : S) (r : Result ℕ UploadError) (v w : World) → (view.state s).told ≡ Some v → (view.state t).told ≡ Some w → test s ≡ true → TakesEach view c paths n s r t
      → AreClear v paths → SameShown v w
  each_unseen paths n s t r v w was now plain (done i a) clear = shown_same v w (one_told (view.state s).told v w was now)
  each_unseen paths n s t r v w was now plain (stops path rest i a b e other removes keeps) ((hides, free), clear) =
      (removed_one view writes c test takes_all path s t v w (Err e) was now plain hides free removes).shown
  each_unseen paths n s t r v w was now plain (goes path rest i a m b q removes keeps on) clear =
      then_unseen path rest s m (Ok tt) v w was plain removes clear (λ x here so still. each_unseen rest (i + 1) m t r x w here now so on still)
  each_unseen paths n s t r v w was now plain (gone path rest i a m b q removes keeps on) clear =
      then_unseen path rest s m (Err NotFound) v w was plain removes clear (λ x here so still. each_unseen rest i m t r x w here now so on still)

  module _ (other : Names → Type 0) where
    abbrev Left : World → World → S → S → Type 0
    Left v w s t = Leaves IsOfAny other v w × KeepsOpen (view.state s) (view.state t)

    then_leave : (path : WebPath) (rest : List WebPath) (s m t : S) (a : Result Unit FsError) (v w : World) → (view.state s).told ≡ Some v → test s ≡ true → view.removes_file s c path a m
        → KeepsOpen (view.state s) (view.state m) → AreClear v (path ∷ rest) → AreOff other (path ∷ rest)
        → ((x : World) → (view.state m).told ≡ Some x → test m ≡ true → AreClear x rest → AreOff other rest → Left x w m t) → Left v w s t
    then_leave path rest s m t a v w was plain removes keeps ((hides, free), clear) (off, more) on =
        let taken = takes_all.removes s m path a plain removes in
        let (x, here, ends) = told_after (view.state s).told (view.state m).told _ v taken.1 was in
        let took = took_one view writes c test takes_all path s m v x a was here plain hides free removes in
        let unseen = removed_one view writes c test takes_all path s m v x a was here plain hides free removes in
        let (then, open_then_on) = on x here taken.0 (still_clear v x rest unseen clear) more in
        (leaves_then IsOfAny other v x w (took_off other path.names v x off took) then, open_then (view.state s) (view.state m) (view.state t) keeps open_then_on)

    each_leave : (paths : List WebPath) (n : ℕ) (s t : S) (r : Result ℕ UploadError) (v w : World) → (view.state s).told ≡ Some v → (view.state t).told ≡ Some w → test s ≡ true
        → TakesEach view c paths n s r t → AreClear v paths → AreOff other paths → Left v w s t
    each_leave paths n s t r v w was now plain (done i a) clear off =
        (leaves_same IsOfAny other v w (equal_worlds v w (one_told (view.state s).told v w was now)), open_same (view.state s))
    each_leave paths n s t r v w was now plain (stops path rest i a b e unlike removes keeps) ((hides, free), clear) (off, more) =
        (took_off other path.names v w off (took_one view writes c test takes_all path s t v w (Err e) was now plain hides free removes), keeps)
    each_leave paths n s t r v w was now plain (goes path rest i a m b q removes keeps on) clear off =
        then_leave path rest s m t (Ok tt) v w was plain removes keeps clear off (λ x here so still more. each_leave rest (i + 1) m t r x w here now so on still more)
    each_leave paths n s t r v w was now plain (gone path rest i a m b q removes keeps on) clear off =
        then_leave path rest s m t (Err NotFound) v w was plain removes keeps clear off (λ x here so still more. each_leave rest i m t r x w here now so on still more)

  -- ---- the sweep

  module _ {L E : Type 0} (lists : Listings S C L E) (leads : LeadsPlainly view lists c test) where
    pub before_unseen : (dir : WebPath) (limit : FileTime) (s t : S) (v w : World) (r : Result ℕ UploadError) → (view.state s).told ≡ Some v → (view.state t).told ≡ Some w → test s ≡ true → HasClearNames v dir.names
        → SweepsBefore view lists c dir limit s r t → SameShown v w
    before_unseen dir limit s t v w r was now plain clear (Err error, m, chooses, (same, is)) =
        let (x, here, kept) = told_after (view.state s).told (view.state m).told SameBesidesOpens v chooses.keeps.world was in
        let end : (view.state t).told ≡ Some x = ap (λ (z : S). (view.state z).told) same ∙ here in
        shown_then v x w (kept_unseen v x kept) (shown_same x w (one_told (view.state t).told x w end now))
    before_unseen dir limit s t v w r was now plain clear (Ok paths, m, chooses, takes) =
        let (x, here, kept) = told_after (view.state s).told (view.state m).told SameBesidesOpens v chooses.keeps.world was in
        let still : HasClearNames x dir.names = λ name hides. links_kept v x kept (dir.names ++ name ∷ []) ∙ clear name hides in
        let (members, listed, is) = chooses.chosen_as in
        shown_then v x w (kept_unseen v x kept) (each_unseen paths 0 m t r x w here now (leads s m plain chooses.leads) takes (rw is (left_clear x dir limit members still)))

    before_leaves : (dir : WebPath) (limit : FileTime) (other : Names → Type 0) (s t : S) (v w : World) (r : Result ℕ UploadError) → (view.state s).told ≡ Some v → (view.state t).told ≡ Some w → test s ≡ true
        → HasClearNames v dir.names → ((members : List Member) (m : S) → WasListed view lists s c dir members m → AreOff other (left_before limit dir members)) → SweepsBefore view lists c dir limit s r t
        → Leaves IsOfAny other v w × KeepsOpen (view.state s) (view.state t)
    before_leaves dir limit other s t v w r was now plain clear off (Err error, m, chooses, (same, is)) =
        let (x, here, kept) = told_after (view.state s).told (view.state m).told SameBesidesOpens v chooses.keeps.world was in
        let end : (view.state t).told ≡ Some x = ap (λ (z : S). (view.state z).told) same ∙ here in (
          leaves_then IsOfAny other v x w (leaves_same IsOfAny other v x kept) (leaves_same IsOfAny other x w (equal_worlds x w (one_told (view.state t).told x w end now))),
          subst (λ z. KeepsOpen (view.state s) (view.state z)) (sym same) (open_kept (view.state s) (view.state m) chooses.keeps),
        )
    before_leaves dir limit other s t v w r was now plain clear off (Ok paths, m, chooses, takes) =
        let (x, here, kept) = told_after (view.state s).told (view.state m).told SameBesidesOpens v chooses.keeps.world was in
        let still : HasClearNames x dir.names = λ name hides. links_kept v x kept (dir.names ++ name ∷ []) ∙ clear name hides in
        let (members, listed, is) = chooses.chosen_as in
        let (leaves, open_on) = each_leave other paths 0 m t r x w here now (leads s m plain chooses.leads) takes (rw is (left_clear x dir limit members still)) (rw is (off members m listed)) in
        (leaves_then IsOfAny other v x w (leaves_same IsOfAny other v x kept) leaves, open_after (view.state s) (view.state m) (view.state t) chooses.keeps open_on)

    pub before_left : (shown : ℕ → Bool) (dir : WebPath) (limit : FileTime) (other : Names → Type 0) (s t : S) (v w : World) (r : Result ℕ UploadError) → (view.state s).told ≡ Some v → (view.state t).told ≡ Some w → test s ≡ true
        → HasClearNames v dir.names → ((members : List Member) (m : S) → WasListed view lists s c dir members m → AreOff other (left_before limit dir members)) → SweepsBefore view lists c dir limit s r t
        → LeavesOthers shown None other (view.state s).live (view.state t).live v w
    before_left shown dir limit other s t v w r was now plain clear off sweeps =
        let (leaves, keeps) = before_leaves dir limit other s t v w r was now plain clear off sweeps in
        all_left shown (view.state s).live (view.state t).live v w (takes_all.worlds s v was) IsOfAny other leaves (λ path row is_other at. tt) (frame_open (view.state s) (view.state t) v w was now keeps)
        (before_unseen dir limit s t v w r was now plain clear sweeps) (λ k l o alive opens. tt)

    pub before_left_hidden : (shown : ℕ → Bool) (dir : WebPath) (limit : FileTime) (s t : S) (v w : World) (r : Result ℕ UploadError) → (view.state s).told ≡ Some v → (view.state t).told ≡ Some w → test s ≡ true → HasClearNames v dir.names
        → SweepsBefore view lists c dir limit s r t → LeavesOthers shown None (IsNotHiddenIn dir.names) (view.state s).live (view.state t).live v w
    before_left_hidden shown dir limit s t v w r was now plain clear sweeps = before_left shown dir limit (IsNotHiddenIn dir.names) s t v w r was now plain clear (λ members m listed. left_off dir limit members) sweeps
