-- A store that keeps contents, by the store inside.
use Rattle.std.specs.Prelude.{◌≡◌, refl}
use Rattle.std.specs.Borrow.{GName}
use Rattle.std.proofs.Common.{ap, ◌∙◌}
use Rattle.dav_core.specs.declared.error.FsError.{FsError}
use Rattle.dav_core.specs.Disk.{DiskState}
use Rattle.dav_core.specs.Info.{Info}
use Rattle.dav_store.specs.FileView.{FileView}
use Rattle.dav_store.specs.View.{Fits, Listings, View}
use Rattle.std.specs.Prelude.{List, Option, Result, ℕ}
use Rattle.dav_readcache.specs.declared.cached.CachedFile.{CachedFile}
use Rattle.dav_readcache.specs.declared.store.ReadCache.{ReadCache}
use Rattle.dav_readcache.specs.Cached.{cached_file}
use Rattle.dav_readcache.specs.CachedStays.{cached_files}
use Rattle.dav_readcache.specs.Opening.{OpensCached}

abbrev pub with_store : {S C : Type 0} → ReadCache S C → S → ReadCache S C
with_store s store = record s { store = store }

-- All but the store inside is as it was.
abbrev pub SameBeside : {S C : Type 0} → ReadCache S C → ReadCache S C → Type 0
SameBeside s t = t ≡ with_store s t.store

pub puts_store : {S C : Type 0} {a b : S} (s : ReadCache S C) → a ≡ b → with_store s a ≡ with_store s b
puts_store s e = ap (with_store s) e

-- Its calls but `open` are those of the store inside, and leave the entries.
abbrev pub cache_view : {S C F : Type 0} → View S C F → View (ReadCache S C) C (CachedFile F)
cache_view view = record {
  state = λ s. view.state s.store;
  loan = λ s. view.loan s.store;
  lends = λ s t. view.lends s.store t.store × SameBeside s t;
  looks = λ s c path result t. view.looks s.store c path result t.store × SameBeside s t;
  looks_at_link = λ s c path result t. view.looks_at_link s.store c path result t.store × SameBeside s t;
  opens = OpensCached view;
  makes_dir = λ s c path result t. view.makes_dir s.store c path result t.store × SameBeside s t;
  removes_dir = λ s c path result t. view.removes_dir s.store c path result t.store × SameBeside s t;
  removes_file = λ s c path result t. view.removes_file s.store c path result t.store × SameBeside s t;
  renames = λ s c from to result t. view.renames s.store c from to result t.store × SameBeside s t;
  copies = λ s c from to result t. view.copies s.store c from to result t.store × SameBeside s t;
  folding = λ s. view.folding s.store;
  file = cached_file view.file;
}

-- Its listings are those of the store inside.
abbrev pub cache_listings : {S C L E : Type 0} → Listings S C L E → Listings (ReadCache S C) C L E
cache_listings lists = record {
  lister = lists.lister;
  to_come = lists.to_come;
  lists = λ s c path wanted result t. lists.lists s.store c path wanted result t.store × SameBeside s t;
  lists_on = λ s dir result t after. lists.lists_on s.store dir result t.store after × SameBeside s t;
  ends_list = λ s dir t. lists.ends_list s.store dir t.store × SameBeside s t;
  called = lists.called;
  says = lists.says;
}

-- They speak of the disk inside the store inside.
pub cache_fits : {S C D F L E : Type 0} {view : View S C F} {lists : Listings S C L E} {inside : S → D}
    {with_disk : S → D → S} {state_of : D → DiskState} {loan_of : D → Option GName} {file_of : FileView F}
    {name_of : E → List ℕ} {says_of : E → DiskState → Result Info FsError → DiskState → Type 0}
    → Fits view lists inside with_disk state_of loan_of file_of name_of says_of
    → Fits (cache_view view) (cache_listings lists) (λ s. inside s.store) (λ s d. with_store s (with_disk s.store d))
    state_of loan_of (cached_file file_of) name_of says_of
cache_fits fits = record {
  state = λ s. fits.state s.store;
  loan = λ s. fits.loan s.store;
  lends = λ s d. (fits.lends s.store d, refl);
  lent = λ s t lent. lent.1 ∙ puts_store s (fits.lent s.store t.store lent.0);
  file = cached_files fits.file;
  called = λ e. fits.called e;
  says = λ e s r t says. fits.says e s r t says;
}
