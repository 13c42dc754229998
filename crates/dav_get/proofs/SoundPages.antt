-- The page that is asked for by itself: its rows are those of members with plain names.
use Rattle.std.proofs.Common.{◌≡◌, ◌⊎◌, inl, inr, ℕ, Bool, true, false, List, Result, Ok, Err, refl}
use Rattle.std.specs.Prelude.{OnOk, cond, not}
use Rattle.dav_core.specs.declared.dav_error.DavError.TheVariants.{NoMemory}
use Rattle.dav_core.specs.declared.error.FsError.{FsError}
use Rattle.dav_core.specs.declared.member.Member.{Member}
use Rattle.dav_page.specs.Listed.{AreRows, AreSound}
use Rattle.dav_store.specs.View.{View, Listings}
use Rattle.dav_model.specs.Due.{Query, may_list, page_course, listing, refusing}
use Rattle.dav_model.specs.Head.{is_get}
use Rattle.dav_model.specs.Indexes.{IsIndexReply}
use Rattle.dav_get.specs.Right.{reply_at}
use Rattle.dav_get.specs.Table.{AfterListing, ByCourse, Given, IsListing, method_for}
use Rattle.dav_get.proofs.Pages.{index_rows, page_given}

pub method_is : (head : Bool) → is_get (method_for head) ≡ not head
method_is true = refl
method_is false = refl

abbrev pub SoundPage : {F : Type 0} → Query → ℕ → Given F → Type 0
SoundPage q n result = OnOk result (IsIndexReply (is_get q.method) q.path (AreSound q.path) (reply_at q.fields n result))

module _ {S C F L E : Type 0} (view : View S C F) (lists : Listings S C L E) (q : Query) (c : C) (n : ℕ) where
  of_answer : (answer : Result (List Member) FsError) (result : Given F) (s t : S) → IsListing view lists (is_get q.method) c q.path s answer t
      → AfterListing answer q result → SoundPage q n result
  of_answer (Err e) (Err f) s t is row = tt
  of_answer (Err e) (Ok r) s t is row = cc
  of_answer (Ok members) (Err f) s t is row = tt
  of_answer (Ok members) (Ok r) s t (reads, plain) row =
      index_rows q.fields n (is_get q.method) q.path (AreRows q.path members) (AreSound q.path) (Ok r) (λ rows are. (members, plain, are)) (page_given q members n (Ok r) row)

  by_course : (may : Bool) (result : Given F) (s t : S) → ByCourse view lists (cond may listing (refusing 405 true)) q c s result t → SoundPage q n result
  by_course may (Err e) s t row = tt
  by_course true (Ok r) s t (answer, is, keeps, row) = of_answer answer (Ok r) s t is row
  by_course false (Ok r) s t (same, is) = cc

  -- Whatever the store says, a page that is given is one of this directory, with rows of members with plain names.
  pub page_sound : (result : Given F) (s t : S) → ByCourse view lists (page_course q.settings) q c s result t ⊎ (result ≡ Err NoMemory) → SoundPage q n result
  page_sound result s t (inl row) = by_course (may_list q.settings.autoindex q.settings.allow) result s t row
  page_sound (Err e) s t (inr is) = tt
  page_sound (Ok r) s t (inr is) = cc
