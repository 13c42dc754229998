-- What is denied and learned by a memory that keeps to a page.
use Rattle.std.proofs.Common.{◌≡◌, ◌&&◌, Bool, true, false, List, Option, Some, None, IsTrue, Result, Ok, Err, refl, sym, ap, ◌∙◌, inl, inr, ◌⊎◌}
use Rattle.std.specs.List.{list_any, list_all}
use Rattle.std.proofs.lemmas.Bool.{and_parts}
use Rattle.dav_io.specs.declared.clock.Moment.{Moment}
use Rattle.dav_core.specs.declared.handle.Meta.{Meta}
use Rattle.dav_core.specs.declared.handle.DiskError.{DiskError}
use Rattle.dav_core.specs.Disk.{DiskState, Metas}
use Rattle.dav_core.specs.Tree.{is_dir}
use Rattle.dav_memory.specs.declared.key.DuKey.{DuKey}
use Rattle.dav_memory.specs.declared.sealed.Sealed.TheVariants.{Done}
use Rattle.dav_memory.specs.Trees.{Name, Names, FileTime, is_dot, same_name, same_path, same_time}
use Rattle.dav_memory.specs.Entries.{are_sealable, is_time}
use Rattle.dav_memory.specs.Calls.{has_time}
use Rattle.dav_memory.specs.Memory.{LearnsNothing, MayDeny, Negates, Denied, SealsIn, WasKnown}
use Rattle.dav_memory.proofs.Keys.{path_decides, time_decides}
use Rattle.dav_shared.specs.Books.{Page, Listing, IsUntold, has_in, is_of, kept_by, known_in}
use Rattle.std.specs.Option.{is_some}
use Rattle.dav_shared.specs.declared.waiting.Waiting.{Waiting}
use Rattle.dav_shared.specs.Waits.{WaitsThen, listing_of, lists, waiting}
use Rattle.dav_shared.proofs.Keeping.{has_sealable}

learns_none : (page : Page) (waits : Option Listing) → LearnsNothing (kept_by page waits) (kept_by page waits)
learns_none page waits = record { known = λ dir time has is. (has, is, λ x. refl); same_open = λ dir time. refl }

-- the time of a directory that was found
time_of_found : (time : FileTime) (o : Option FileTime) → is_time time o ≡ true → o ≡ Some time
time_of_found time None is = cc
time_of_found time (Some other) is = ap (λ t. Some t) (sym ((time_decides time other).0 is))

may_deny : (page : Page) (dir : Names) (time : FileTime) (name : Name) (o : Option (List Name)) → page dir time ≡ o → IsUntold page dir time name
    → MayDeny (kept_by page None) dir time name
may_deny page dir time name None is untold = inr (rw is refl)
may_deny page dir time name (Some told) is untold = inl (has_in told, rw is refl, untold told is)

denied_by : (page : Page) (dir : Names) (name : Name) (time : FileTime) (s t : DiskState) (answer : Result Meta DiskError) → Metas s dir answer t
    → has_time time answer ≡ true → IsUntold page dir time name → Denied (kept_by page None) dir name s t
denied_by page dir name time s t (Err e) metas has untold = cc
denied_by page dir name time s t (Ok meta) metas has untold =
    let parts = and_parts (is_dir meta.kind) (is_time time meta.modified) has in
    (meta, time, metas, parts.0, time_of_found time meta.modified parts.1, may_deny page dir time name (page dir time) refl untold)

-- the directory was looked at
pub negates_by : (page : Page) (dir : Names) (name : Name) (time : FileTime) (s t : DiskState) (answer : Result Meta DiskError) (absent : Bool)
    → Metas s dir answer t → (IsTrue absent → (has_time time answer ≡ true) × IsUntold page dir time name)
    → Negates (kept_by page None) dir name s absent (kept_by page None) t
negates_by page dir name time s t answer absent metas sound = record {
  asks = inr (dir, answer, metas);
  denied = λ is. let (has, untold) = sound is in denied_by page dir name time s t answer metas has untold;
  dots = tt;
  paths = refl;
  learns = learns_none page None;
}

-- ---- while a listing waits

deny_waiting : (page : Page) (waits : Option Listing) (dir : Names) (time : FileTime) (name : Name) → lists waits dir name ≡ false
    → MayDeny (kept_by page None) dir time name → MayDeny (kept_by page waits) dir time name
deny_waiting page None dir time name other may = may
deny_waiting page (Some l) dir time name other (inr open_) = inr open_
deny_waiting page (Some l) dir time name other (inl (has, knows, absent)) =
    (elim (is_of l dir time) as (λ b. is_of l dir time ≡ b → MayDeny (kept_by page (Some l)) dir time name) [
      | true ↦ λ is.
          let at = (and_parts (same_path l.dir dir) (same_time l.time time) is).0 in
          let none : list_any (same_name name) l.names ≡ false = rw at at other in
          inl (has_in l.names, rw is refl, rw none (and_none (is_dot name)))
      | false ↦ λ is. inl (has, rw is knows, absent)
    ]) refl
  where
    and_none : (b : Bool) → (b && false) ≡ false
    and_none true = refl
    and_none false = refl

pub negates_waiting : (page : Page) (waits : Option Listing) (dir : Names) (name : Name) (s t : DiskState) (absent : Bool) → lists waits dir name ≡ false
    → Negates (kept_by page None) dir name s absent (kept_by page None) t → Negates (kept_by page waits) dir name s absent (kept_by page waits) t
negates_waiting page waits dir name s t absent other n = record {
  asks = n.asks;
  denied = λ is. let (meta, time, metas, kind, found, may) = n.denied is in (meta, time, metas, kind, found, deny_waiting page waits dir time name other may);
  dots = tt;
  paths = refl;
  learns = learns_none page waits;
}

seals_known : (page : Page) (l : Listing) (d : Names) (t : FileTime) (has : Name → Bool) → list_all is_dot l.names ≡ true
    → known_in page (Some l) d t ≡ Some has
    → WasKnown (kept_by page None) d t has ⊎ ((d ≡ l.dir) × (t ≡ l.time) × ((x : Name) → has x ≡ list_any (same_name x) l.names))
seals_known page l d t has all knows =
    (elim (is_of l d t) as (λ b. is_of l d t ≡ b → WasKnown (kept_by page None) d t has ⊎ ((d ≡ l.dir) × (t ≡ l.time) × ((x : Name) → has x ≡ list_any (same_name x) l.names))) [
      | true ↦ λ is.
          let parts = and_parts (same_path l.dir d) (same_time l.time t) is in
          let k : Some (has_in l.names) ≡ Some has = rw is at knows in
          let same : has_in l.names ≡ has = cc in
          inr (sym ((path_decides l.dir d).0 parts.0), sym ((time_decides l.time t).0 parts.1), λ x. ap (λ (f : Name → Bool). f x) (sym same) ∙ has_sealable l.names x all)
      | false ↦ λ is. inl (has, rw is at knows, λ x. refl)
    ]) refl

-- a listing waits that may be sealed
pub seals_waiting : (page : Page) (waits : Option Listing) (l : Listing) (dir : DuKey) (time : FileTime) (names : List Name) (now : Moment) → waits ≡ None
    → l ≡ record { dir = dir.dir; time = time; names = names } → are_sealable names ≡ true
    → SealsIn (kept_by page waits) dir time names now Done (kept_by page (Some l))
seals_waiting page waits l dir time names now none is can =
    let own : Listing = record { dir = dir.dir; time = time; names = names } in
    let all = (and_parts (list_all is_dot names) _ can).0 in
    rw (none, is) (record { dots = tt; paths = refl; known = λ d t has knows. seals_known page own d t has all knows; same_open = λ d t. refl })

-- it had one, or memory was refused: nothing is learned
pub seals_nothing : (page : Page) (waits : Option Listing) (dir : DuKey) (time : FileTime) (names : List Name) (now : Moment) (result : _)
    → SealsIn (kept_by page waits) dir time names now result (kept_by page waits)
seals_nothing page waits dir time names now result = record { dots = tt; paths = refl; known = λ d t has knows. inl (has, knows, λ x. refl); same_open = λ d t. refl }

pub none_waits : (o : Option Waiting) → is_some o ≡ false → waiting o ≡ None
none_waits None e = refl
none_waits (Some w) e = cc

-- none waited, so this listing waits now
pub none_waited : (o : Option Waiting) (l : Listing) (now : Moment) (w : Waiting) → is_some o ≡ false → listing_of w ≡ l → w.now ≡ now → WaitsThen o l now Done (Some w)
none_waited None l now w e is at = (w, refl, is, at)
none_waited (Some other) l now w e is at = cc
