-- What was left before a time is chosen among members, and removed path by path.
use Rattle.std.proofs.Common.{◌≡◌, ◌≤◌, ◌<◌, ◌+◌, ◌++◌, inl, inr, ℕ, suc, List, [], ◌∷◌, length, drop, get_or, drop-cons, add-one, Bool, true, false, Result, Ok, Err, refl, sym, ap, subst, ◌∙◌, arith}
use Rattle.std.proofs.Math.ListN.{drop_of_length-le}
use Rattle.dav_core.specs.declared.member.Member.{Member}
use Rattle.dav_core.specs.declared.time.FileTime.{FileTime}
use Rattle.dav_core.specs.DavPath.{WebPath}
use Rattle.dav_store.specs.View.{View}
use Rattle.dav_upload.specs.declared.error.UploadError.{UploadError}
use Rattle.dav_upload.specs.Sweeping.{TakesEach, TakesPath, is_left_before, left_before}
use Rattle.dav_upload.specs.Sweeping.TakesEach.{done, goes, gone, stops}

-- ---- the choice

pub left_then : (limit : FileTime) (dir : WebPath) (m : Member) (rest : List Member) → left_before limit dir (m ∷ []) ++ left_before limit dir rest ≡ left_before limit dir (m ∷ rest)
left_then limit dir m rest = by (is_left_before limit m) refl
  where
    by : (b : Bool) → is_left_before limit m ≡ b → left_before limit dir (m ∷ []) ++ left_before limit dir rest ≡ left_before limit dir (m ∷ rest)
    by true e = rw e refl
    by false e = rw e refl

-- ---- the removals

module _ {S C F : Type 0} (view : View S C F) (c : C) (all : List WebPath) (begin : S) where
  -- so many were removed before these paths, and the rest of the sweep ends it
  abbrev pub FarOn : List WebPath → ℕ → S → Type 0
  FarOn paths n s = (r : Result ℕ UploadError) (t : S) → TakesEach view c paths n s r t → TakesEach view c all 0 begin r t

  plus_none : (n : ℕ) → n + 0 ≡ n
  plus_none n = omega arith

  pub path_taken : (path : WebPath) (rest : List WebPath) (n k : ℕ) (s t : S) → TakesPath view c path s (Ok k) t → FarOn (path ∷ rest) n s → FarOn rest (n + k) t
  path_taken path rest n k s t (keeps, inl (one, removes)) far r u on = far r u (goes path rest n s t u r removes keeps (subst (λ i. TakesEach view c rest (n + i) t r u) one on))
  path_taken path rest n k s t (keeps, inr (none, removes)) far r u on =
      far r u (gone path rest n s t u r removes keeps (subst (λ i. TakesEach view c rest i t r u) (ap (λ i. n + i) none ∙ plus_none n) on))

  pub one_at_most : (path : WebPath) (k : ℕ) (s t : S) → TakesPath view c path s (Ok k) t → k ≤ 1
  one_at_most path k s t (keeps, inl (one, removes)) = omega (arith, one)
  one_at_most path k s t (keeps, inr (none, removes)) = omega (arith, none)

  pub path_refused : (path : WebPath) (rest : List WebPath) (n : ℕ) (error : UploadError) (s t : S) → TakesPath view c path s (Err error) t → FarOn (path ∷ rest) n s → TakesEach view c all 0 begin (Err error) t
  path_refused path rest n error s t (keeps, (e, other, removes, is)) far =
      far (Err error) t (subst (λ x. TakesEach view c (path ∷ rest) n s (Err x) t) (sym is) (stops path rest n s t e other removes keeps))

  -- no path is left
  pub paths_over : (xs : List WebPath) (i n : ℕ) (t : S) → length xs ≤ i → FarOn (drop i xs) n t → TakesEach view c all 0 begin (Ok n) t
  paths_over xs i n t le far = far (Ok n) t (subst (λ ps. TakesEach view c ps n t (Ok n) t) (sym (drop_of_length-le xs le)) (done n t))

pub next_in : {A : Type 0} (xs : List A) (i : ℕ) (x : A) → i < length xs → x ≡ get_or xs i x → drop i xs ≡ x ∷ drop (i + 1) xs
next_in xs i x lt is = rw add-one (drop-cons xs i x lt ∙ ap (λ y. y ∷ drop (suc i) xs) (sym is))
