-- Calls of a reader, one after the other.
use Rattle.std.proofs.Common.{◌≡◌, List, Result, Ok, Err, refl, subst}
use Rattle.dav_io.proofs.ToldLemmas.{both_same, both_then}
use Rattle.dav_core.specs.declared.error.FsError.{FsError}
use Rattle.dav_core.specs.declared.handle.OpenOptions.{OpenOptions}
use Rattle.dav_core.specs.DavPath.{WebPath}
use Rattle.dav_core.specs.Writing.{reading}
use Rattle.dav_core.specs.Unchanged.{SameBesidesOpens}
use Rattle.dav_core.proofs.UnchangedLemmas.{same_besides, same_besides_then}
use Rattle.dav_store.specs.Frames.{OpensOne}
use Rattle.dav_store.specs.Leads.{LeadsOn, LeavesWorld, ListedOn, none, looks, opens, unlisted, listed, lends, begun as just_begun, goes_on as goes_further, says as says_on}
use Rattle.dav_store.specs.Members.{Answered, Walked, begun, goes}
use Rattle.dav_store.specs.View.{Listings, View}

module _ {S C F L E : Type 0} (view : View S C F) (lists : Listings S C L E) where
  -- calls of a listing after others
  pub on_then : (s m : S) (l j : L) → ListedOn view lists s l m j → (t : S) (k : L) → ListedOn view lists m j t k → ListedOn view lists s l t k
  on_then s m l j first t k just_begun = first
  on_then s m l j first t k (goes_further a b i h r before call) = goes_further a b i h r (on_then s m l j first a i before) call
  on_then s m l j first t k (says_on a b c i h e r before gives said lent keeps) = says_on a b c i h e r (on_then s m l j first a i before) gives said lent keeps

  -- a walk is calls of a listing
  pub walked_on : (s : S) (l : L) (answers : List Answered) (t : S) (k : L) → Walked view lists s l answers t k → ListedOn view lists s l t k
  walked_on s l answers t k begun = just_begun
  walked_on s l answers t k (goes front m n o i j e r before gives said lent keeps) =
      says_on m n o i j e r (walked_on s l front m i before) gives said lent keeps

module _ {S C F L E : Type 0} (view : View S C F) (lists : Listings S C L E) (c : C) where
  pub leads_then : (s m t : S) → LeadsOn view lists c s m → LeadsOn view lists c m t → LeadsOn view lists c s t
  leads_then s m t first none = first
  leads_then s m t first (looks a b path r before call same) = looks a b path r (leads_then s m a first before) call same
  leads_then s m t first (opens a b path r before call same) = opens a b path r (leads_then s m a first before) call same
  leads_then s m t first (unlisted a b path e before call same) = unlisted a b path e (leads_then s m a first before) call same
  leads_then s m t first (listed a b path before through same) = listed a b path (leads_then s m a first before) through same
  leads_then s m t first (lends a b before call same) = lends a b (leads_then s m a first before) call same

  -- an opening leaves the told world
  opened_world : (m n : S) (r : Result F FsError) → OpensOne view.file reading (view.state m) r (view.state n) → LeavesWorld view lists c m n
  opened_world m n (Ok file) one = (one.kept refl).world
  opened_world m n (Err e) one = (one.kept refl).world

  pub opens_by : (s m n : S) (path : WebPath) (how : OpenOptions) (r : Result F FsError) → how ≡ reading → LeadsOn view lists c s m → view.opens m c path how r n
      → OpensOne view.file how (view.state m) r (view.state n) → LeadsOn view lists c s n
  opens_by s m n path how r is before call one =
      opens m n path r before (subst (λ how. view.opens m c path how r n) is call)
      (opened_world m n r (subst (λ how. OpensOne view.file how (view.state m) r (view.state n)) is one))

  -- A reader's calls leave the told world.
  pub leads_world : (s t : S) → LeadsOn view lists c s t → LeavesWorld view lists c s t
  leads_world s t none = both_same (view.state s).told (view.state s).told SameBesidesOpens same_besides refl
  leads_world s t (looks a b path r before call same) = both_then _ _ _ _ _ _ same_besides_then (leads_world s a before) same
  leads_world s t (opens a b path r before call same) = both_then _ _ _ _ _ _ same_besides_then (leads_world s a before) same
  leads_world s t (unlisted a b path e before call same) = both_then _ _ _ _ _ _ same_besides_then (leads_world s a before) same
  leads_world s t (listed a b path before through same) = both_then _ _ _ _ _ _ same_besides_then (leads_world s a before) same
  leads_world s t (lends a b before call same) = both_then _ _ _ _ _ _ same_besides_then (leads_world s a before) same
