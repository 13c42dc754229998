-- A sweep leaves what is shown: each file that it removes has a hidden name.
use Rattle.std.proofs.Common.{◌≡◌, ◌⊎◌, ◌+◌, ◌++◌, inl, inr, ℕ, List, [], ◌∷◌, Bool, true, false, not, cond, Option, None, Some, Result, Ok, Err, refl, sym, ap, subst, ◌∙◌}
use Rattle.std.proofs.lemmas.Bool.{and_parts}
use Rattle.std.specs.List.{AllByRecursion}
use Rattle.dav_core.specs.declared.error.FsError.{FsError}
use Rattle.dav_core.specs.declared.handle.DiskError.TheVariants.{IsDir}
use Rattle.dav_core.specs.declared.tree.Kind.{Kind}
use Rattle.dav_core.specs.declared.tree.Kind.TheVariants.{Dir, File, Link}
use Rattle.dav_core.specs.declared.tree.Row.{Row}
use Rattle.dav_core.specs.Allowed.{found_then, taking_file, taking_file_row}
use Rattle.dav_core.specs.DavPath.{WebPath}
use Rattle.dav_core.specs.Edits.{Edited, takes}
use Rattle.dav_core.specs.Listing.{or_empty}
use Rattle.dav_core.specs.Path.{Names}
use Rattle.dav_core.specs.Tree.{is_dir, is_link, is_linked, row_at}
use Rattle.dav_core.specs.World.{IsWorld, SameBesidesOpens, World}
use Rattle.dav_core.specs.Writing.{LeftBy}
use Rattle.dav_store.specs.View.{Listings, View}
use Rattle.dav_walks.specs.declared.child.Child.{Child}
use Rattle.dav_walks.specs.Pouring.{Writes}
use Rattle.dav_model.proofs.PlainWalks.{unlinked_row}
use Rattle.dav_upload.specs.declared.error.UploadError.{UploadError}
use Rattle.dav_upload.specs.Ends.{EndsAs, is_spoiled}
use Rattle.dav_upload.specs.Names.{is_hidden, is_hidden_path}
use Rattle.dav_upload.specs.Shown.{IsHiddenIn, SameShown}
use Rattle.dav_upload.specs.Steps.{HasClearNames}
use Rattle.dav_upload.specs.Takes.{ReadsPlainly, TakesUploads}
use Rattle.dav_upload.specs.Uploading.{Sweeps, TakesAll, hidden_files, is_hidden_file}
use Rattle.dav_upload.specs.Uploading.TakesAll.{done, goes, short, stops}
use Rattle.dav_upload.proofs.Beside.{file_hidden, looked_at}
use Rattle.dav_upload.proofs.Chains.{one_told, shown_same, shown_then, told_pair}
use Rattle.dav_upload.proofs.Ends.{none_taken, taken_or_left}
use Rattle.dav_upload.proofs.Hiding.{taken_unseen}
use Rattle.dav_upload.proofs.Links.{links_kept, taken_unlinked}
use Rattle.dav_upload.proofs.Making.{kept_unseen}
use Rattle.dav_upload.proofs.Moving.{never}
use Rattle.dav_io.proofs.ToldLemmas.{told_after}
use Rattle.dav_core.proofs.LeftLemmas.{left_refused}
use Rattle.dav_core.proofs.Paths.{last_pushed}

-- ---- one removal

-- What is shown stays, and no link stands where none stood.
pub record Unseen (v w : World) : Type 0 where
  pub shown : SameShown v w
  pub clear : (p : Names) → is_linked v.tree p ≡ false → is_linked w.tree p ≡ false

unseen_kept : (v w : World) → SameBesidesOpens v w → Unseen v w
unseen_kept v w same = record { shown = kept_unseen v w same; clear = λ p free. links_kept v w same p ∙ free }

dir_refused : (v w : World) (row : Row) (hidden : Names) (r : Result Unit FsError) → IsWorld v → row_at v.tree hidden ≡ Some row → row.kind ≡ Dir → EndsAs (taking_file v.tree hidden) r v w → SameBesidesOpens v w
dir_refused v w row hidden r is at kind ends = by r ends
  where
    refused : taking_file v.tree hidden ≡ Err IsDir
    refused = ap (found_then taking_file_row) (looked_at v hidden row is at) ∙ ap (λ k. cond (is_dir k) (Err IsDir) (Ok (Some (takes row.path)))) kind

    by : (r : Result Unit FsError) → EndsAs (taking_file v.tree hidden) r v w → SameBesidesOpens v w
    by (Ok x) (edit, allowed, edited) = let f : Err IsDir ≡ Ok edit = sym refused ∙ allowed in cc
    by (Err e) left = left_refused (is_spoiled e) IsDir v w (subst (λ a. LeftBy (is_spoiled e) a v w) refused left)

-- The file with a hidden name is taken, or all stays.
abbrev pub Took : Names → World → World → Type 0
Took hidden v w = (IsHiddenIn v hidden × Edited (takes hidden) v w) ⊎ SameBesidesOpens v w

pub hidden_took : (v w : World) (hidden : Names) (r : Result Unit FsError) → IsWorld v → is_hidden_path hidden ≡ true → is_linked v.tree hidden ≡ false → EndsAs (taking_file v.tree hidden) r v w → Took hidden v w
hidden_took v w hidden r is hides clear ends = by (row_at v.tree hidden) refl
  where
    by_kind : (row : Row) → row_at v.tree hidden ≡ Some row → (k : Kind) → row.kind ≡ k → Took hidden v w
    by_kind row at Dir kind = inr (dir_refused v w row hidden r is at kind ends)
    by_kind row at Link kind = never (is_link row.kind) (ap is_link kind) (unlinked_row v.tree hidden row (looked_at v hidden row is at) clear)
    by_kind row at File kind = elim (taken_or_left v w hidden row r is at kind ends) [
      | inl edited ↦ inl (file_hidden v hidden row is hides at kind, edited)
      | inr same ↦ inr same
    ]

    by : (o : Option Row) → row_at v.tree hidden ≡ o → Took hidden v w
    by None none = inr (none_taken v w hidden r none ends)
    by (Some row) at = by_kind row at row.kind refl

took_unseen : (v w : World) (hidden : Names) → Took hidden v w → Unseen v w
took_unseen v w hidden (inl (stands, edited)) = record { shown = taken_unseen v w hidden stands edited; clear = λ p free. taken_unlinked v w hidden p edited free }
took_unseen v w hidden (inr same) = unseen_kept v w same

-- ---- the paths of a sweep

-- Each path has a hidden name, and no link stands on the way to it.
abbrev pub AreClear : World → List WebPath → Type 0
AreClear w paths = AllByRecursion (λ (p : WebPath). (is_hidden_path p.names ≡ true) × (is_linked w.tree p.names ≡ false)) paths

pub still_clear : (v w : World) (paths : List WebPath) → Unseen v w → AreClear v paths → AreClear w paths
still_clear v w [] unseen all = tt
still_clear v w (path ∷ paths) unseen ((hides, free), all) = ((hides, unseen.clear path.names free), still_clear v w paths unseen all)

pub files_clear : (w : World) (dir : WebPath) (members : List Child) → HasClearNames w dir.names → AreClear w (hidden_files dir members)
files_clear w dir [] clear = tt
files_clear w dir (m ∷ members) clear = by (is_hidden_file m) refl (files_clear w dir members clear)
  where
    by : (b : Bool) → is_hidden_file m ≡ b → AreClear w (hidden_files dir members) → AreClear w (hidden_files dir (m ∷ members))
    by false e rest = rw e rest
    by true e rest =
        let hides = (and_parts (not m.dir) (is_hidden m.name) e).1 in
        rw e ((ap (λ o. is_hidden (or_empty o)) (last_pushed dir.names m.name) ∙ hides, clear m.name hides), rest)

module _ {S C F : Type 0} (view : View S C F) (writes : Writes F) (c : C) (test : S → Bool) (takes_all : TakesUploads view writes c test) where
  pub took_one : (path : WebPath) (s m : S) (v x : World) (r : Result Unit FsError) → (view.state s).told ≡ Some v → (view.state m).told ≡ Some x → test s ≡ true
      → is_hidden_path path.names ≡ true → is_linked v.tree path.names ≡ false → view.removes_file s c path r m → Took path.names v x
  took_one path s m v x r was now plain hides free removes =
      hidden_took v x path.names r (takes_all.worlds s v was) hides free (told_pair (view.state s).told (view.state m).told _ v x (takes_all.removes s m path r plain removes).1 was now free)

  pub removed_one : (path : WebPath) (s m : S) (v x : World) (r : Result Unit FsError) → (view.state s).told ≡ Some v → (view.state m).told ≡ Some x → test s ≡ true
      → is_hidden_path path.names ≡ true → is_linked v.tree path.names ≡ false → view.removes_file s c path r m → Unseen v x
  removed_one path s m v x r was now plain hides free removes = took_unseen v x path.names (took_one path s m v x r was now plain hides free removes)

  module _ {L E : Type 0} (lists : Listings S C L E) (reads : ReadsPlainly view lists c test) where
    taken_all : (paths : List WebPath) (n : ℕ) (s t : S) (r : Result ℕ UploadError) (v w : World) → (view.state s).told ≡ Some v → (view.state t).told ≡ Some w → test s ≡ true → TakesAll view lists c paths n s r t
        → AreClear v paths → SameShown v w
    taken_all paths n s t r v w was now plain (done i a) clear = shown_same v w (one_told (view.state s).told v w was now)
    taken_all paths n s t r v w was now plain (short all i a) clear = shown_same v w (one_told (view.state s).told v w was now)
    taken_all paths n s t r v w was now plain (stops path rest i a b e removes keeps) ((hides, free), clear) = (removed_one path s t v w (Err e) was now plain hides free removes).shown
    taken_all paths n s t r v w was now plain (goes path rest i a m b q removes keeps on) ((hides, free), clear) =
        let taken = takes_all.removes s m path (Ok tt) plain removes in
        let (x, here, ends) = told_after (view.state s).told (view.state m).told _ v taken.1 was in
        let unseen = removed_one path s m v x (Ok tt) was here plain hides free removes in
        shown_then v x w unseen.shown (taken_all rest (i + 1) m t r x w here now taken.0 on (still_clear v x rest unseen clear))

    pub swept : (dir : WebPath) (s t : S) (v w : World) (r : Result ℕ UploadError) → (view.state s).told ≡ Some v → (view.state t).told ≡ Some w → test s ≡ true → HasClearNames v dir.names
        → Sweeps view lists c dir s r t → SameShown v w
    swept dir s t v w r was now plain clear (inl (e, hasnt, is)) = kept_unseen v w (told_pair (view.state s).told (view.state t).told SameBesidesOpens v w hasnt.keeps.world was now)
    swept dir s t v w r was now plain clear (inr (members, m, has, keeps, removals)) =
        let (x, here, same) = told_after (view.state s).told (view.state m).told SameBesidesOpens v keeps.world was in
        let still : HasClearNames x dir.names = λ name hides. links_kept v x same (dir.names ++ name ∷ []) ∙ clear name hides in
        shown_then v x w (kept_unseen v x same) (taken_all (hidden_files dir members) 0 m t r x w here now (reads s m dir members plain has) removals (files_clear x dir members still))
