-- What a sweep leaves to others.
use Rattle.std.proofs.Common.{◌≡◌, ◌+◌, ◌++◌, inl, inr, ℕ, List, [], ◌∷◌, Bool, true, false, None, Some, Result, Ok, Err, refl, ap, ◌∙◌}
use Rattle.std.specs.List.{AllByRecursion}
use Rattle.dav_core.specs.DavPath.{WebPath}
use Rattle.dav_core.specs.Path.{Names, parent_of}
use Rattle.dav_core.specs.World.{SameBesidesOpens, World}
use Rattle.dav_store.specs.Frames.{KeepsOpen}
use Rattle.dav_store.specs.View.{Listings, View}
use Rattle.dav_walks.proofs.calls.KeptOpen.{open_after, open_kept, open_same, open_then}
use Rattle.dav_walks.specs.declared.child.Child.{Child}
use Rattle.dav_walks.specs.Pouring.{Writes}
use Rattle.dav_model.proofs.LooseWalks.{parent_pushed}
use Rattle.dav_upload.specs.declared.error.UploadError.{UploadError}
use Rattle.dav_upload.specs.Names.{is_hidden_path}
use Rattle.dav_upload.specs.Others.{IsNotHiddenIn, LeavesOthers}
use Rattle.dav_upload.specs.Steps.{HasClearNames}
use Rattle.dav_upload.specs.Takes.{ReadsPlainly, TakesUploads}
use Rattle.dav_upload.specs.Uploading.{Sweeps, TakesAll, hidden_files, is_hidden_file}
use Rattle.dav_upload.specs.Uploading.TakesAll.{done, goes, short, stops}
use Rattle.dav_upload.proofs.Chains.{one_told, told_pair}
use Rattle.dav_upload.proofs.Leaves.{Leaves, leaves_same, leaves_taken, leaves_then}
use Rattle.dav_upload.proofs.Links.{links_kept}
use Rattle.dav_upload.proofs.Others.{IsOfAny, all_left, frame_open}
use Rattle.dav_upload.proofs.StepsLeave.{equal_worlds}
use Rattle.dav_upload.proofs.Sweeps.{AreClear, Took, files_clear, removed_one, still_clear, swept, took_one}
use Rattle.dav_io.proofs.ToldLemmas.{told_after}

-- each path is of a name in the directory
abbrev AreIn : Names → List WebPath → Type 0
AreIn dir paths = AllByRecursion (λ (p : WebPath). parent_of p.names ≡ dir) paths

files_in : (dir : WebPath) (members : List Child) → AreIn dir.names (hidden_files dir members)
files_in dir [] = tt
files_in dir (m ∷ members) = by (is_hidden_file m) refl (files_in dir members)
  where
    by : (b : Bool) → is_hidden_file m ≡ b → AreIn dir.names (hidden_files dir members) → AreIn dir.names (hidden_files dir (m ∷ members))
    by false e rest = rw e rest
    by true e rest = rw e (parent_pushed dir.names m.name, rest)

took_leaves : (dir hidden : Names) (v w : World) → is_hidden_path hidden ≡ true → parent_of hidden ≡ dir → Took hidden v w → Leaves IsOfAny (IsNotHiddenIn dir) v w
took_leaves dir hidden v w hides within (inl (there, edited)) =
    leaves_taken IsOfAny (IsNotHiddenIn dir) v w hidden there.alone (λ p off e. off (ap is_hidden_path e ∙ hides) (ap parent_of e ∙ within)) edited
took_leaves dir hidden v w hides within (inr same) = leaves_same IsOfAny (IsNotHiddenIn dir) v w same

module _ {S C F : Type 0} (view : View S C F) (writes : Writes F) (c : C) (test : S → Bool) (takes_all : TakesUploads view writes c test) where
  module _ {L E : Type 0} (lists : Listings S C L E) (reads : ReadsPlainly view lists c test) where
    paths_leave : (dir : Names) (paths : List WebPath) (n : ℕ) (s t : S) (r : Result ℕ UploadError) (v w : World) → (view.state s).told ≡ Some v → (view.state t).told ≡ Some w → test s ≡ true
        → TakesAll view lists c paths n s r t → AreClear v paths → AreIn dir paths → Leaves IsOfAny (IsNotHiddenIn dir) v w × KeepsOpen (view.state s) (view.state t)
    paths_leave dir paths n s t r v w was now plain (done i a) clear within =
        (leaves_same IsOfAny (IsNotHiddenIn dir) v w (equal_worlds v w (one_told (view.state s).told v w was now)), open_same (view.state s))
    paths_leave dir paths n s t r v w was now plain (short all i a) clear within =
        (leaves_same IsOfAny (IsNotHiddenIn dir) v w (equal_worlds v w (one_told (view.state s).told v w was now)), open_same (view.state s))
    paths_leave dir paths n s t r v w was now plain (stops path rest i a b e removes keeps) ((hides, free), clear) (within, more) =
        (took_leaves dir path.names v w hides within (took_one view writes c test takes_all path s t v w (Err e) was now plain hides free removes), keeps)
    paths_leave dir paths n s t r v w was now plain (goes path rest i a m b q removes keeps on) ((hides, free), clear) (within, more) =
        let taken = takes_all.removes s m path (Ok tt) plain removes in
        let (x, here, ends) = told_after (view.state s).told (view.state m).told _ v taken.1 was in
        let took = took_one view writes c test takes_all path s m v x (Ok tt) was here plain hides free removes in
        let unseen = removed_one view writes c test takes_all path s m v x (Ok tt) was here plain hides free removes in
        let (then, open_then_on) = paths_leave dir rest (i + 1) m t r x w here now taken.0 on (still_clear v x rest unseen clear) more in
        (leaves_then IsOfAny (IsNotHiddenIn dir) v x w (took_leaves dir path.names v x hides within took) then, open_then (view.state s) (view.state m) (view.state t) keeps open_then_on)

    sweep_leaves : (dir : WebPath) (s t : S) (v w : World) (r : Result ℕ UploadError) → (view.state s).told ≡ Some v → (view.state t).told ≡ Some w → test s ≡ true → HasClearNames v dir.names
        → Sweeps view lists c dir s r t → Leaves IsOfAny (IsNotHiddenIn dir.names) v w × KeepsOpen (view.state s) (view.state t)
    sweep_leaves dir s t v w r was now plain clear (inl (e, hasnt, is)) =
        (leaves_same IsOfAny (IsNotHiddenIn dir.names) v w (told_pair (view.state s).told (view.state t).told SameBesidesOpens v w hasnt.keeps.world was now), open_kept (view.state s) (view.state t) hasnt.keeps)
    sweep_leaves dir s t v w r was now plain clear (inr (members, m, has, keeps, removals)) =
        let (x, here, same) = told_after (view.state s).told (view.state m).told SameBesidesOpens v keeps.world was in
        let still : HasClearNames x dir.names = λ name hides. links_kept v x same (dir.names ++ name ∷ []) ∙ clear name hides in
        let (leaves, open_on) = paths_leave dir.names (hidden_files dir members) 0 m t r x w here now (reads s m dir members plain has) removals (files_clear x dir members still) (files_in dir members) in
        (leaves_then IsOfAny (IsNotHiddenIn dir.names) v x w (leaves_same IsOfAny (IsNotHiddenIn dir.names) v x same) leaves, open_after (view.state s) (view.state m) (view.state t) keeps open_on)

    pub sweep_left : (shown : ℕ → Bool) (dir : WebPath) (s t : S) (v w : World) (r : Result ℕ UploadError) → (view.state s).told ≡ Some v → (view.state t).told ≡ Some w → test s ≡ true → HasClearNames v dir.names
        → Sweeps view lists c dir s r t → LeavesOthers shown None (IsNotHiddenIn dir.names) (view.state s).live (view.state t).live v w
    sweep_left shown dir s t v w r was now plain clear sweeps =
        let (leaves, keeps) = sweep_leaves dir s t v w r was now plain clear sweeps in
        all_left shown (view.state s).live (view.state t).live v w (takes_all.worlds s v was) IsOfAny (IsNotHiddenIn dir.names) leaves (λ path row off at. tt) (frame_open (view.state s) (view.state t) v w was now keeps)
        (swept view writes c test takes_all lists reads dir s t v w r was now plain clear sweeps) (λ k l o alive opens. tt)
