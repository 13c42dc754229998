-- What a disk in memory tells is a world.
use Rattle.std.specs.Prelude.{◌≡◌, ℕ, length, Bool, Option, None, Some, true, refl}
use Rattle.std.specs.Option.{option_map, is_some}
use Rattle.dav_core.specs.Tree.{is_tree}
use Rattle.dav_core.specs.World.{World, IsWorld, AreGiven, ArePlain, at_key}
use Rattle.dav_core.specs.Disk.{TellsLive}
use Rattle.dav_disk.specs.Files.{AreStored, open_of, live_of}
use Rattle.dav_disk.specs.Listings.{listing_at}
use Rattle.dav_disk.specs.Calls.{state_of}
use Rattle.dav_disk.specs.Memory.{known_of}
use Rattle.dav_disk.specs.declared.memory.Memory.{Memory}
use Rattle.dav_disk.specs.declared.tables.Opened.{Opened}

is_world : (v : World) → is_tree v.tree ≡ true → ArePlain v.tree → AreStored v.tree v.files
    → AreGiven v.tree v.files v.opens v.greatest v.latest
    → IsWorld v
is_world v tree plain stored given = record { tree = tree; plain = plain; stored = stored; given = given }

-- of a told world: its rows are a tree with plain names, its files are stored, and its numbers and times are given ones
pub told_world : (v w : World) → is_tree v.tree ≡ true → ArePlain v.tree → AreStored v.tree v.files
    → AreGiven v.tree v.files v.opens v.greatest v.latest → Some v ≡ Some w → IsWorld w
told_world v w tree plain stored given e = let same : v ≡ w = cc in rw (← same) (is_world v tree plain stored given)

both_some : (o : Option Opened) → is_some (option_map open_of o) ≡ is_some (option_map live_of o)
both_some None = refl
both_some (Some o) = refl

same_there : {X Y : Type 0} (f : X → Y) (o : Option X) → is_some o ≡ is_some (option_map f o)
same_there f None = refl
same_there f (Some x) = refl

-- What is open in a told world is what is live.
pub told_live : (m : Memory) (faults asked : ℕ) (whole : Bool) → TellsLive (state_of (known_of m) faults asked whole)
told_live m faults asked whole = record {
  opens = λ w e h. let same : (known_of m).world ≡ w = cc in rw (← same) (both_some (at_key m.opens h));
  listings =
      λ w e l. let same : (known_of m).world ≡ w = cc in rw (← same) (same_there length (listing_at m.listings l));
}
