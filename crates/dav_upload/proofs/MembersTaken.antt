-- A sweep goes over the members of a directory, one after the other.
use Rattle.std.proofs.Common.{◌≡◌, ◌≤◌, ◌<◌, ◌+◌, inl, inr, ℕ, suc, List, ◌∷◌, map, cond, length, drop, get_or, drop-cons, add-one, Bool, true, false, Result, Ok, Err, refl, sym, ap, subst, ◌∙◌, arith}
use Rattle.std.proofs.Math.ListN.{drop_of_length-le}
use Rattle.std.specs.List.{filter}
use Rattle.dav_core.specs.DavPath.{WebPath}
use Rattle.dav_store.specs.View.{Listings, View}
use Rattle.dav_walks.specs.declared.child.Child.{Child}
use Rattle.dav_walks.specs.declared.member.Member.{Member}
use Rattle.dav_walks.specs.Walking.{member_at, members_at}
use Rattle.dav_upload.specs.declared.error.UploadError.{UploadError}
use Rattle.dav_upload.specs.declared.error.UploadError.TheVariants.{NoMemory}
use Rattle.dav_upload.specs.Uploading.{TakesAll, TakesMember, TakesMemberAs, hidden_files, in_dir, is_hidden_file}
use Rattle.dav_upload.specs.Uploading.TakesAll.{done, goes, short, stops}

files_more : (dir : WebPath) (b : Bool) (m : Child) (rest : List Child) → is_hidden_file m ≡ b → hidden_files dir (m ∷ rest) ≡ cond b (in_dir dir m.name ∷ hidden_files dir rest) (hidden_files dir rest)
files_more dir true m rest e = ap (λ b. map (λ (m : Child). in_dir dir m.name) (cond b (m ∷ filter is_hidden_file rest) (filter is_hidden_file rest))) e
files_more dir false m rest e = ap (λ b. map (λ (m : Child). in_dir dir m.name) (cond b (m ∷ filter is_hidden_file rest) (filter is_hidden_file rest))) e

plus_none : (n : ℕ) → n + 0 ≡ n
plus_none n = omega arith

module _ {S C F L E : Type 0} (view : View S C F) (lists : Listings S C L E) (c : C) (dir : WebPath) (all : List WebPath) (begin : S) where
  -- so many were removed before these members, and the rest of the sweep ends it
  abbrev pub Far : List Member → ℕ → S → Type 0
  Far members n s = (r : Result ℕ UploadError) (t : S) → TakesAll view lists c (hidden_files dir (members_at dir members)) n s r t → TakesAll view lists c all 0 begin r t

  taken_by : (b : Bool) (m : Member) (rest : List Member) (n k : ℕ) (s t : S) → is_hidden_file (member_at dir m) ≡ b → TakesMemberAs view lists c b dir (member_at dir m) s (Ok k) t → Far (m ∷ rest) n s → Far rest (n + k) t
  taken_by false m rest n k s t e (same, is) far r u on =
      let none : k ≡ 0 = cc in
      far r u (subst (λ paths. TakesAll view lists c paths n s r u) (sym (files_more dir false (member_at dir m) (members_at dir rest) e))
      (subst (λ x. TakesAll view lists c (hidden_files dir (members_at dir rest)) n x r u) same
      (subst (λ i. TakesAll view lists c (hidden_files dir (members_at dir rest)) i t r u) (ap (λ i. n + i) none ∙ plus_none n) on)))
  taken_by true m rest n k s t e (one, removes, keeps) far r u on =
      far r u (subst (λ paths. TakesAll view lists c paths n s r u) (sym (files_more dir true (member_at dir m) (members_at dir rest) e))
      (goes (in_dir dir m.name) (hidden_files dir (members_at dir rest)) n s t u r removes keeps
      (subst (λ i. TakesAll view lists c (hidden_files dir (members_at dir rest)) (n + i) t r u) one on)))

  pub taken_one : (m : Member) (rest : List Member) (n k : ℕ) (s t : S) → TakesMember view lists c dir (member_at dir m) s (Ok k) t → Far (m ∷ rest) n s → Far rest (n + k) t
  taken_one m rest n k s t takes far = taken_by (is_hidden_file (member_at dir m)) m rest n k s t refl takes far

  one_by : (b : Bool) (m : Child) (k : ℕ) (s t : S) → TakesMemberAs view lists c b dir m s (Ok k) t → k ≤ 1
  one_by false m k s t (same, is) = let none : k ≡ 0 = cc in omega (arith, none)
  one_by true m k s t (one, removes, keeps) = omega (arith, one)

  pub at_most_one : (m : Child) (k : ℕ) (s t : S) → TakesMember view lists c dir m s (Ok k) t → k ≤ 1
  at_most_one m k s t takes = one_by (is_hidden_file m) m k s t takes

  ended_by : (b : Bool) (m : Member) (rest : List Member) (n : ℕ) (error : UploadError) (s t : S) → is_hidden_file (member_at dir m) ≡ b → TakesMemberAs view lists c b dir (member_at dir m) s (Err error) t → Far (m ∷ rest) n s
      → TakesAll view lists c all 0 begin (Err error) t
  ended_by false m rest n error s t e (same, is) far = cc
  ended_by true m rest n error s t e (inl (same, is)) far =
      far (Err error) t (subst (λ x. TakesAll view lists c (hidden_files dir (members_at dir (m ∷ rest))) n s (Err x) t) (sym is)
      (subst (λ x. TakesAll view lists c (hidden_files dir (members_at dir (m ∷ rest))) n s (Err NoMemory) x) (sym same) (short (hidden_files dir (members_at dir (m ∷ rest))) n s)))
  ended_by true m rest n error s t e (inr (f, removes, keeps, is)) far =
      far (Err error) t (subst (λ paths. TakesAll view lists c paths n s (Err error) t) (sym (files_more dir true (member_at dir m) (members_at dir rest) e))
      (subst (λ x. TakesAll view lists c ((in_dir dir m.name) ∷ hidden_files dir (members_at dir rest)) n s (Err x) t) (sym is)
      (stops (in_dir dir m.name) (hidden_files dir (members_at dir rest)) n s t f removes keeps)))

  pub ended_there : (m : Member) (rest : List Member) (n : ℕ) (error : UploadError) (s t : S) → TakesMember view lists c dir (member_at dir m) s (Err error) t → Far (m ∷ rest) n s
      → TakesAll view lists c all 0 begin (Err error) t
  ended_there m rest n error s t takes far = ended_by (is_hidden_file (member_at dir m)) m rest n error s t refl takes far

  -- no member is left
  pub ended_all : (xs : List Member) (i n : ℕ) (t : S) → length xs ≤ i → Far (drop i xs) n t → TakesAll view lists c all 0 begin (Ok n) t
  ended_all xs i n t le far =
      far (Ok n) t (subst (λ ms. TakesAll view lists c (hidden_files dir (members_at dir ms)) n t (Ok n) t) (sym (drop_of_length-le xs le)) (done n t))

pub next_member : (xs : List Member) (i : ℕ) (x : Member) → i < length xs → x ≡ get_or xs i x → drop i xs ≡ x ∷ drop (i + 1) xs
next_member xs i x lt is = rw add-one (drop-cons xs i x lt ∙ ap (λ y. y ∷ drop (suc i) xs) (sym is))
