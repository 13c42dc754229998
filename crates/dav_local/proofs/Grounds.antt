-- What a search didn't find, of a disk that nothing was written to.
use Rattle.std.proofs.Common.{◌≡◌, Bool, true, false, IsTrue, Option, None, Some, Result, Ok, Err, IfSome, refl, sym, ap, ◌∙◌, subst}
use Rattle.dav_io.specs.Told.{Both}
use Rattle.dav_io.proofs.ToldLemmas.{told_before}
use Rattle.dav_core.specs.declared.error.FsError.{FsError}
use Rattle.dav_core.specs.declared.handle.DiskError.{DiskError}
use Rattle.dav_core.specs.declared.handle.Lister.{Lister}
use Rattle.dav_core.specs.Disk.{DiskState}
use Rattle.dav_core.specs.Listing.{EndedIn, ListedIn, NextIn}
use Rattle.std.specs.Str.{bytes_eq}
use Rattle.dav_core.specs.Path.{Names, same_names}
use Rattle.dav_core.proofs.Paths.{names_same}
use Rattle.dav_local.proofs.Seeking.{texts_same}
use Rattle.dav_core.specs.World.{World, IsWorld}
use Rattle.dav_core.proofs.UnchangedLemmas.{keeps_same}
use Rattle.dav_model.specs.Folds.{Name}
use Rattle.dav_local.specs.Ground.{IsClearAt, Lacks, SoughtIn}
use Rattle.dav_local.specs.Walking.{SearchesIn}

-- the same world is told
pub lacks_told : (s t : DiskState) (at : Names) (folding : Name) → t.told ≡ s.told → Lacks s at folding → Lacks t at folding
lacks_told s t at folding same lacks = record { none = λ w told is here. lacks.none w (sym same ∙ told) is here }

-- a world with the same tree is told
lacks_tree : (s t : DiskState) (at : Names) (folding : Name) (P : World → World → Type 0) → ((v w : World) → P v w → w.tree ≡ v.tree) → ((w : World) → s.told ≡ Some w → IsWorld w)
    → Both s.told t.told P → Lacks s at folding → Lacks t at folding
lacks_tree s t at folding P same worlds both lacks = record {
  none = λ w told is here.
      (let (v, was, p) = told_before s.told t.told P w both told in
      subst (λ tree. SoughtIn tree at folding None) (sym (same v w p)) (lacks.none v was (worlds v was) (subst (λ tree. IsClearAt tree at) (same v w p) here)));
}

listed_tree : (path : Names) (r : Result Lister DiskError) (v w : World) → ListedIn path r v w → w.tree ≡ v.tree
listed_tree path (Ok l) v w listed = ap (λ (x : World). x.tree) listed.1
listed_tree path (Err e) v w listed = ap (λ (x : World). x.tree) listed.0

next_tree : (l : _) (r : Result (Option Name) DiskError) (v w : World) → NextIn l r v w → w.tree ≡ v.tree
next_tree l (Ok (Some name)) v w next = ap (λ (x : World). x.tree) next.2
next_tree l (Ok None) v w next = ap (λ (x : World). x.tree) next.1
next_tree l (Err e) v w next = ap (λ (x : World). x.tree) next

pub lacks_list : (s t : DiskState) (at path : Names) (folding : Name) (r : Result Lister DiskError) → ((w : World) → s.told ≡ Some w → IsWorld w) → Both s.told t.told (ListedIn path r)
    → Lacks s at folding → Lacks t at folding
lacks_list s t at path folding r worlds both lacks = lacks_tree s t at folding (ListedIn path r) (listed_tree path r) worlds both lacks

pub lacks_next : (s t : DiskState) (at : Names) (folding : Name) (l : _) (r : Result (Option Name) DiskError) → ((w : World) → s.told ≡ Some w → IsWorld w) → Both s.told t.told (NextIn l r)
    → Lacks s at folding → Lacks t at folding
lacks_next s t at folding l r worlds both lacks = lacks_tree s t at folding (NextIn l r) (next_tree l r) worlds both lacks

pub lacks_end : (s t : DiskState) (at : Names) (folding : Name) (l : _) → ((w : World) → s.told ≡ Some w → IsWorld w) → Both s.told t.told (EndedIn l)
    → Lacks s at folding → Lacks t at folding
lacks_end s t at folding l worlds both lacks = lacks_tree s t at folding (EndedIn l) (λ v w e. ap (λ (x : World). x.tree) e) worlds both lacks

-- a search that isn't made answers what one found
pub search_lacks : (s : DiskState) (at : Names) (folding : Name) → Lacks s at folding → SearchesIn s at folding (Ok None) s
search_lacks s at folding lacks = record {
  keeps = keeps_same s;
  refused = tt;
  plain = tt;
  alike = tt;
  told = λ w told is here. lacks.none w told is here;
}

-- what a search found stands behind it
pub lacks_searched : (s t : DiskState) (at : Names) (folding : Name) (found : Option Name) → ((w : World) → s.told ≡ Some w → IsWorld w) → found ≡ None → SearchesIn s at folding (Ok found) t
    → Lacks t at folding
lacks_searched s t at folding found worlds is searched =
    let here : SearchesIn s at folding (Ok None) t = subst (λ f. SearchesIn s at folding (Ok f) t) is searched in
    lacks_tree s t at folding _ (λ v w same. same.tree) worlds here.keeps.world (record { none = λ w told is clear. here.told w told is clear })

-- what holds of each holds of what is missing, if anything is
pub if_missing : {A : Type 0} (missing : Option A) (P Q : A → Type 0) → ((a : A) → P a → Q a) → IfSome missing P → IfSome missing Q
if_missing None P Q go p = tt
if_missing (Some a) P Q go p = go a p

-- a directory and a folding that are those that were missing
pub is_missing : (s : DiskState) (at here : Names) (folding sought : Name) (first second : Bool) → first ≡ same_names at here → first ≡ true → second ≡ bytes_eq folding sought → Lacks s at folding
    → second ≡ true → Lacks s here sought
is_missing s at here folding sought first second one same other lacks both =
    subst (λ p. Lacks s p sought) (names_same at here (sym one ∙ same)) (subst (λ f. Lacks s at f) (texts_same folding sought (sym other ∙ both)) lacks)
