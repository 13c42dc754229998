-- The tokens that are tried, one after the other.
use Rattle.std.proofs.Common.{◌≡◌, ◌+◌, ℕ, true, false, List, Result, Err, refl, sym, ap, subst, ◌∙◌}
use Rattle.dav_store.specs.View.{View}
use Rattle.dav_walks.specs.Pouring.{Writes}
use Rattle.dav_upload.specs.declared.error.UploadError.{UploadError}
use Rattle.dav_upload.specs.declared.error.UploadError.TheVariants.{Busy, Dav, Hidden, NoMemory}
use Rattle.dav_upload.specs.Uploading.{Begins}
use Rattle.dav_put.specs.Storing.{Aim, Tried, is_busy, token_after}
use Rattle.dav_put.specs.Storing.Tried.{more}

busy_name : (e : UploadError) → is_busy e ≡ true → (name : List ℕ) × (e ≡ Busy name)
busy_name (Dav d) f = cc
busy_name (Busy name) f = (name, refl)
busy_name Hidden f = cc
busy_name NoMemory f = cc

pub never_busy : (T : Type 0) (tries : ℕ) (e : UploadError) → is_busy e ≡ false → (name : List ℕ) → ◌≡◌ {A = Result T UploadError} (Err e) (Err (Busy name)) → tries ≡ 16
never_busy T tries e off name f = (let same : e ≡ Busy name = cc in let no : false ≡ true = sym off ∙ ap is_busy same in cc)

module _ {S C F : Type 0} (view : View S C F) (writes : Writes F) where
  pub one_more_busy : (c : C) (aim : Aim) (tries token : ℕ) (s m n : S) (e : UploadError) → Tried view writes c aim s tries m → token ≡ token_after aim.token tries → is_busy e ≡ true
      → Begins view c aim.target aim.fields token m (Err e) n → Tried view writes c aim s (tries + 1) n
  one_more_busy c aim tries token s m n e tried at busy begins =
      let (name, is) = busy_name e busy in
      more tries name m n tried (subst (λ x. Begins view c aim.target aim.fields (token_after aim.token tries) m (Err x) n) is (subst (λ k. Begins view c aim.target aim.fields k m (Err e) n) at begins))
