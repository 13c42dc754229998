-- The live listers of a disk of the machine, and what each call does to a listing.
use Rattle.std.specs.Prelude.{◌≡◌, ◌⊎◌, ℕ, suc, false, List, Option, None, Some, Result, Ok, Err}
use Rattle.std.specs.Option.{option_map}
use Rattle.std.specs.BTreeMap.{BTreeMap, IsUnchanged}
use Rattle.std.specs.declared.alloc.Global.{Global}
use Rattle.std.specs.declared.fs.dir.ReadDir.{ReadDir}
use Rattle.dav_core.specs.declared.handle.DiskError.{DiskError}
use Rattle.dav_core.specs.declared.handle.DiskError.TheVariants.{Failed}
use Rattle.dav_core.specs.declared.handle.Lister.{Lister}
use Rattle.dav_core.specs.World.{at_key, put}
use Rattle.dav_host.specs.Entries.{Answer, Entry, TellsName}
use Rattle.dav_host.specs.declared.listings.HostListing.{HostListing}

abbrev pub left_of : {R F D : Type 0} → HostListing R F D → ℕ
left_of x = x.left

-- the most names that each live lister still gives
abbrev pub listers_at : {R F D : Type 0} → BTreeMap ℕ (HostListing R F D) → ℕ → Option ℕ
listers_at listings l = option_map left_of (at_key listings l)

-- With a name one fewer is to come.
abbrev pub IsFewer : ℕ → Result (Option (List ℕ)) DiskError → ℕ → Type 0
IsFewer old (Ok (Some name)) new = old ≡ suc new
IsFewer old (Ok None) new = new ≡ old
IsFewer old (Err e) new = new ≡ old

-- A call for the next name of a listing. One that gave its most names is refused, and stays as it is.
abbrev pub Goes : {R F D : Type 0} → (ReadDir R Global F D → Option (Entry R Global F D) → ReadDir R Global F D → Type 0)
    → HostListing R F D → Answer → HostListing R F D → Type 0
Goes gives old result new = ((old.left ≡ 0) × (result ≡ Err Failed) × (new ≡ old))
    ⊎ TellsName gives old.names old.missed result new.names new.missed

-- the same of a lister among all; no other listing changes
abbrev pub GoesAt : {R F D : Type 0} → (ReadDir R Global F D → Option (Entry R Global F D) → ReadDir R Global F D → Type 0)
    → ℕ → BTreeMap ℕ (HostListing R F D) → Answer → BTreeMap ℕ (HostListing R F D) → Type 0
GoesAt {R} {F} {D} gives l old result new = (x y : HostListing R F D) × (at_key old l ≡ Some x) × Goes gives x result y
    × ((λ n. at_key new n) ≡ put l (Some y) (λ n. at_key old n))

-- A listing that is begun has missed no name; no other listing changes.
abbrev pub BeginsAt : {R F D : Type 0} → BTreeMap ℕ (HostListing R F D) → Result Lister DiskError → BTreeMap ℕ (HostListing R F D) → Type 0
BeginsAt {R} {F} {D} old (Ok l) new = (x : HostListing R F D) × (x.missed ≡ false) × ((λ n. at_key new n) ≡ put l.0 (Some x) (λ n. at_key old n))
BeginsAt old (Err e) new = IsUnchanged old new
