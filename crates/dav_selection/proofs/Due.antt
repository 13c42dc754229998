-- What came of a resource is what is due of it, where the store shows what stands there.
use Rattle.std.proofs.Common.{◌≡◌, ◌≤◌, ◌⊎◌, inl, inr, ℕ, List, [], take, Bool, true, false, Option, None, Some, Result, Ok, Err, IfSome, OnErr, refl, sym, ap, subst, ◌∙◌, if◌then◌else◌, arith}
use Rattle.std.specs.Option.{option_map}
use Rattle.dav_io.specs.Counts.{Rose}
use Rattle.dav_core.specs.declared.error.FsError.{FsError}
use Rattle.dav_core.specs.declared.error.FsError.TheVariants as fs
use Rattle.dav_core.specs.declared.tree.Kind.{Kind}
use Rattle.dav_core.specs.DavPath.{WebPath}
use Rattle.dav_core.specs.Disk.{Live, can_read}
use Rattle.dav_core.specs.Info.{Info}
use Rattle.dav_core.specs.Writing.{reading}
use Rattle.dav_core.specs.Tree.{is_file}
use Rattle.dav_core.proofs.UnchangedLemmas.{keeps_but}
use Rattle.dav_store.specs.Files.{IsFault, Spoiled, rest_of}
use Rattle.dav_store.specs.Frames.{OpensOne}
use Rattle.dav_store.specs.Reached.{Reached, ShowsOn, by_file, by_opening}
use Rattle.dav_store.specs.Shows.{IsThere, OpensThere, seen_of}
use Rattle.dav_store.specs.Standing.{Agrees, AgreesOpen, Seen, Standing}
use Rattle.dav_store.specs.View.{View, Listings, seen_in}
use Rattle.dav_store.proofs.Reached.{opening_stays}
use Rattle.dav_store.proofs.Reading.{rose_from, rose_on}
use Rattle.dav_report.specs.declared.answer.Record.{Record}
use Rattle.dav_selection.specs.declared.resource.Resource.{Resource}
use Rattle.dav_selection.specs.declared.resource.Unread.{Unread}
use Rattle.dav_selection.specs.declared.resource.Unread.TheVariants.{Unsaid, Refused}
use Rattle.dav_selection.specs.Answered.{given}
use Rattle.dav_selection.specs.Reports.{HadMemory}
use Rattle.dav_selection.specs.Resources.{AfterKind, AfterMeta, AfterOpen, Fetches, content_of, resource, unread}
use Rattle.dav_selection.specs.Shown.{IsDueOr, due}

-- nothing but metadata that is refused leaves a file unsaid
no_said : (x e : FsError) → unread x ≡ Unsaid e → ⊥
no_said fs.NotImplemented e is = cc
no_said fs.GeneralFailure e is = cc
no_said fs.Exists e is = cc
no_said fs.NotFound e is = cc
no_said fs.Forbidden e is = cc
no_said fs.InsufficientStorage e is = cc
no_said fs.LoopDetected e is = cc
no_said fs.PathTooLong e is = cc
no_said fs.TooLarge e is = cc
no_said fs.IsRemote e is = cc
no_said fs.NoMemory e is = cc

-- a regular file that was opened for reading can be read
can : (live : Option Live) (kind : Kind) → option_map (λ (l : Live). l.kind) live ≡ Some kind → is_file kind ≡ true
    → ((l : Live) → live ≡ Some l → l.how ≡ reading) → can_read live ≡ true
can None kind is file how = cc
can (Some l) kind is file how =
    let same : l.kind ≡ kind = cc in
    rw (same, how l refl, file) refl

no_record : (taken : List ℕ → Option (List ℕ)) (path : WebPath) (fault : Type 0) (stands : Result Standing FsError) (got : Result Resource Unread) (u : Unread) → got ≡ Err u → fault
    → IsDueOr fault (due taken path stands) (given taken path got)
no_record taken path fault stands got u is met = inr (ap (given taken path) is, met)

module _ {S C F L E : Type 0} (view : View S C F) (lists : Listings S C L E) (s : S) (c : C) where
  after_kind : (b : Bool) (info : Info) (n t : S) (g : F) (got : Result Resource Unread) → Reached view lists s c n → AfterKind view b info g n got t
      → Reached view lists s c t
  after_kind false info n t g got reached (closes, is) = by_file n t (view.file.handle g) reached closes.done.keeps closes.lent.store
  after_kind true info n t g got reached (read, h, k, reads, closes, is) =
      by_file k t (view.file.handle h) (by_file n k (view.file.handle g) reached reads.keeps reads.lent.store) closes.done.keeps closes.lent.store

  after_meta : (said : Result Info FsError) (n t : S) (g : F) (got : Result Resource Unread) → Reached view lists s c n
      → AfterMeta view said g n got t → Reached view lists s c t
  after_meta (Err e) n t g got reached (closes, is) = by_file n t (view.file.handle g) reached closes.done.keeps closes.lent.store
  after_meta (Ok info) n t g got reached after = after_kind (is_file info.kind) info n t g got reached after

  after_open : (opened : Result F FsError) (m t : S) (got : Result Resource Unread) → Reached view lists s c m → AfterOpen view opened m got t
      → HadMemory got → Reached view lists s c t
  after_open (Err e) m t got reached (same, is) memory = subst (Reached view lists s c) (sym same) reached
  after_open (Ok file) m t got reached (inl (said, g, n, says, after)) memory =
      after_meta said n t g got (by_file m n (view.file.handle file) reached (keeps_but (view.file.handle file) (view.state m) (view.state n) says.done.keeps) says.lent.store) after
  after_open (Ok file) m t got reached (inr is) memory = absurd (subst HadMemory is memory)

  -- the calls that fetch a resource are a reader's
  pub fetch_reached : (m t : S) (path : WebPath) (got : Result Resource Unread) → Reached view lists s c m → Fetches view c path m got t
      → HadMemory got → Reached view lists s c t
  fetch_reached m t path got reached (opened, k, opens, one, after) memory =
      after_open opened k t got (by_opening m k path opened reached opens one) after memory

module _ {S C F : Type 0} (view : View S C F) (taken : List ℕ → Option (List ℕ)) (path : WebPath) where
  -- a regular file was read
  read_due : (there : Standing) (f : Seen) (info : Info) (bytes : List ℕ) (fault : Type 0) (got : Result Resource Unread) → IsThere there f
      → AgreesOpen info f.stands → is_file there.kind ≡ true
      → bytes ≡ take info.len (rest_of f) → got ≡ content_of info (Ok bytes) → IsDueOr fault (due taken path (Ok there)) (given taken path got)
  read_due there f info bytes fault got is agrees file read so =
      let same : f ≡ seen_of there = is.file file in
      let told : Agrees info f.stands = agrees.file (ap is_file is.kind ∙ file) in
      let len : info.len ≡ there.len = told.len ∙ ap (λ (g : Seen). g.stands.len) same in
      let tag : info.tag ≡ there.tag = told.tag ∙ ap (λ (g : Seen). g.stands.tag) same in
      let whole : bytes ≡ take there.len there.bytes = read ∙ (ap (λ n. take n (rest_of f)) len ∙ ap (λ (g : Seen). take there.len (rest_of g)) same) in
      let content : got ≡ Ok (resource there.tag (take there.len there.bytes)) = so ∙ (ap (λ t. Ok (resource t bytes)) tag ∙ ap (λ b. Ok (resource there.tag b)) whole) in
      inl (ap (given taken path) content ∙ sym (ap (λ b. if b then given taken path (Ok (resource there.tag (take there.len there.bytes))) else []) file))

  kind_due : (b : Bool) (there : Standing) (f : Seen) (info : Info) (n t : S) (g : F) (got : Result Resource Unread) → is_file info.kind ≡ b
      → IsThere there f → AgreesOpen info f.stands
      → seen_in view n g ≡ Some f → (is_file info.kind ≡ true → can_read ((view.state n).live (view.file.handle g)) ≡ true)
      → AfterKind view b info g n got t → HadMemory got
      → IsDueOr (Rose (view.state n).faults (view.state t).faults) (due taken path (Ok there)) (given taken path got)
  kind_due false there f info n t g got kind is agrees seen reads (closes, so) memory =
      let none : is_file there.kind ≡ false = ap is_file (sym (agrees.kind ∙ is.kind)) ∙ kind in
      inl (ap (given taken path) so ∙ sym (ap (λ b. if b then given taken path (Ok (resource there.tag (take there.len there.bytes))) else []) none))
  kind_due true there f info n t g got kind is agrees seen reads (Ok bytes, h, k, read, closes, so) memory =
      let file : is_file there.kind ≡ true = ap is_file (sym (agrees.kind ∙ is.kind)) ∙ kind in
      read_due there f info bytes (Rose (view.state n).faults (view.state t).faults) got is agrees file (read.told f seen) so
  kind_due true there f info n t g got kind is agrees seen reads (Err e, h, k, read, closes, so) memory = by (read.refused (reads kind))
    where
      by : Spoiled {T = List ℕ} (view.state n) (Err e) (view.state k)
          → IsDueOr (Rose (view.state n).faults (view.state t).faults) (due taken path (Ok there)) (given taken path got)
      by (inl fault) = no_record taken path (Rose (view.state n).faults (view.state t).faults) (Ok there) got (unread e) so
          (rose_on (view.state n).faults (view.state k).faults (view.state t).faults fault.1 (omega (arith, closes.done.counts)))
      by (inr none) =
          let same : e ≡ fs.NoMemory = cc in
          absurd (subst HadMemory (so ∙ ap (λ x. Err (unread x)) same) memory)

  -- the file that was opened is what stands there
  opened_due : (there : Standing) (f : Seen) (file : F) (m k t : S) (got : Result Resource Unread)
      → OpensOne view.file reading (view.state m) (Ok file) (view.state k)
      → view.file.seen file (view.state k) ≡ Some f → IsThere there f → AfterOpen view (Ok file) k got t → HadMemory got
      → IsDueOr (Rose (view.state m).faults (view.state t).faults) (due taken path (Ok there)) (given taken path got)
  opened_due there f file m k t got one seen is (inr none) memory = absurd (subst HadMemory none memory)
  opened_due there f file m k t got one seen is (inl (Err e, g, n, says, (closes, so))) memory =
      let before : (view.state m).faults ≤ (view.state k).faults = (opening_stays view.file (view.state m) (view.state k) (Ok file) one).counts in
      let rose = says.done.refused.1 in
      no_record taken path (Rose (view.state m).faults (view.state t).faults) (Ok there) got (Unsaid e) so
      (rose_from (view.state m).faults (view.state k).faults (view.state t).faults before
      (rose_on (view.state k).faults (view.state n).faults (view.state t).faults rose (omega (arith, closes.done.counts))))
  opened_due there f file m k t got one seen is (inl (Ok info, g, n, says, after)) memory =
      let before : (view.state m).faults ≤ (view.state k).faults = (opening_stays view.file (view.state m) (view.state k) (Ok file) one).counts in
      let on : (view.state k).faults ≤ (view.state n).faults = says.done.keeps.counts in
      let agrees : AgreesOpen info f.stands = subst (λ x. IfSome x (λ f. AgreesOpen info f.stands)) seen says.done.told in
      let live : (view.state n).live (view.file.handle g) ≡ (view.state k).live (view.file.handle file) = ap (view.state n).live says.handle ∙ says.done.keeps.live (view.file.handle file) in
      let reads = λ (kind : is_file info.kind ≡ true). ap can_read live ∙ can ((view.state k).live (view.file.handle file)) info.kind says.done.kind kind one.options in
      later (kind_due (is_file info.kind) there f info n t g got refl is agrees (says.done.same ∙ seen) reads after memory)
      (λ rose. rose_from (view.state m).faults (view.state n).faults (view.state t).faults (omega (arith, before, on)) rose)
    where
      later : {A B : Type 0} {xs ys : List Record} → IsDueOr A xs ys → (A → B) → IsDueOr B xs ys
      later (inl same) up = inl same
      later (inr (none, fault)) up = inr (none, up fault)

  there_due : (stands : Result Standing FsError) (opened : Result F FsError) (m k t : S) (got : Result Resource Unread)
      → OpensOne view.file reading (view.state m) opened (view.state k)
      → OpensThere view.file.seen stands opened (view.state k) → AfterOpen view opened k got t → HadMemory got
      → IsDueOr (Rose (view.state m).faults (view.state t).faults) (due taken path stands) (given taken path got)
  there_due (Ok there) (Ok file) m k t got one (f, seen, is) after memory = opened_due there f file m k t got one seen is after memory
  there_due (Ok there) (Err e) m k t got one shown after memory = absurd shown
  there_due (Err e) (Ok file) m k t got one shown after memory = absurd shown
  there_due (Err e) (Err x) m k t got one shown after memory = inl (ap (given taken path) after.1)

  pub answer_due : (stands : Result Standing FsError) (opened : Result F FsError) (m k t : S) (got : Result Resource Unread)
      → OpensOne view.file reading (view.state m) opened (view.state k)
      → OpensThere view.file.seen stands opened (view.state k) ⊎ Spoiled (view.state m) opened (view.state k) → AfterOpen view opened k got t
      → HadMemory got
      → IsDueOr (Rose (view.state m).faults (view.state t).faults) (due taken path stands) (given taken path got)
  answer_due stands opened m k t got one (inl shown) after memory = there_due stands opened m k t got one shown after memory
  answer_due stands opened m k t got one (inr (inl fault)) after memory =
      let (same, so) = subst (λ (o : Result F FsError). AfterOpen view o k got t) fault.0 after in
      no_record taken path (Rose (view.state m).faults (view.state t).faults) stands got Refused so (subst (λ x. Rose (view.state m).faults (view.state x).faults) (sym same) fault.1)
  answer_due stands opened m k t got one (inr (inr none)) after memory =
      let (same, so) = subst (λ (o : Result F FsError). AfterOpen view o k got t) none after in
      absurd (subst HadMemory so memory)

  -- metadata is refused by a fault
  said_refused : (said : Result Info FsError) (g : F) (k n t : S) (e : FsError) (got : Result Resource Unread) → got ≡ Err (Unsaid e)
      → AfterMeta view said g n got t
      → OnErr said (IsFault (view.state k) said (view.state n)) → (e ≡ fs.GeneralFailure) × Rose (view.state k).faults (view.state t).faults
  said_refused (Err x) g k n t e got is (closes, so) fault =
      let same : x ≡ e = cc in
      let general : x ≡ fs.GeneralFailure = cc in
      (sym same ∙ general, rose_on (view.state k).faults (view.state n).faults (view.state t).faults fault.1 (omega (arith, closes.done.counts)))
  said_refused (Ok info) g k n t e got is after fault = absurd (by (is_file info.kind) after)
    where
      by : (b : Bool) → AfterKind view b info g n got t → ⊥
      by false (closes, so) = cc
      by true (Ok bytes, h, j, reads, closes, so) = cc
      by true (Err x, h, j, reads, closes, so) = no_said x e (cc)

  pub fetch_refused : (c : C) (m t : S) (e : FsError) (got : Result Resource Unread) → got ≡ Err (Unsaid e) → Fetches view c path m got t
      → (e ≡ fs.GeneralFailure) × Rose (view.state m).faults (view.state t).faults
  fetch_refused c m t e got is (Err x, k, opens, one, (same, so)) = absurd (no_said x e (cc))
  fetch_refused c m t e got is (Ok file, k, opens, one, inr none) = cc
  fetch_refused c m t e got is (Ok file, k, opens, one, inl (said, g, n, says, after)) =
      let before : (view.state m).faults ≤ (view.state k).faults = (opening_stays view.file (view.state m) (view.state k) (Ok file) one).counts in
      let refused = said_refused said g k n t e got is after says.done.refused in
      (refused.0, rose_from (view.state m).faults (view.state k).faults (view.state t).faults before refused.1)

-- what came of a resource, where the store shows what stands there
pub fetch_due : {S C F L E : Type 0} (view : View S C F) (lists : Listings S C L E) (s : S) (c : C) (taken : List ℕ → Option (List ℕ)) (path : WebPath) (stands : Result Standing FsError) (m t : S)
    (got : Result Resource Unread) → ShowsOn view lists s c path stands → Reached view lists s c m → Fetches view c path m got t → HadMemory got
    → IsDueOr (Rose (view.state m).faults (view.state t).faults) (due taken path stands) (given taken path got)
fetch_due view lists s c taken path stands m t got shows reached (opened, k, opens, one, after) memory =
    answer_due view taken path stands opened m k t got one (shows m k opened reached opens) after memory
