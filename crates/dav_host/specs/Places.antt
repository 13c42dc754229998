-- Where an open file of the machine is read next. The machine has a place of each; of a file that is only read the place
-- that was set is kept beside it, so that a read there is one call of the machine.
use Rattle.std.specs.Prelude.{◌≡◌, ◌&&◌, ◌||◌, ◌+◌, ℕ, Bool, true, not, min, nat_le, if◌then◌else◌, Option, Some, IfSome, option_and_then}
use Rattle.dav_io.specs.Counts.{greatest}
use Rattle.dav_core.specs.Tree.{is_file}
use Rattle.dav_core.specs.World.{at_key, put}
use Rattle.dav_core.specs.Disk.{Live}
use Rattle.dav_host.specs.declared.opens.HostFile.{HostFile}
use Rattle.dav_host.specs.declared.opens.Opens.{Opens}
use Rattle.dav_host.specs.Host.{beside, live_at}

-- a regular file that was opened to be read and for nothing else
abbrev pub is_only_read : Live → Bool
is_only_read l = is_file l.kind && (l.how.read && not (l.how.write || l.how.append))

-- the last place that a call of the machine can name, 2^63 - 1
abbrev pub last_place : ℕ
last_place = 9223372036854775807

abbrev pub place_of : {F : Type 0} → HostFile F → Option ℕ
place_of f = f.place

-- the place that is kept of a handle's file; none where the machine alone has it
unfoldable pub place_at : {F : Type 0} → Opens F → ℕ → Option ℕ
place_at opens = beside (option_and_then place_of opens.first) (λ h. option_and_then place_of (at_key opens.others h))

-- what is kept after a place was set, or was refused
abbrev pub sought : Option Live → ℕ → Bool → Option ℕ → Option ℕ
sought (Some l) place true kept = if is_only_read l then Some place else kept
sought l place done kept = kept

-- what is kept after a read gave so many bytes, or was refused
abbrev pub behind : Option ℕ → Option ℕ → Option ℕ
behind (Some place) (Some count) = Some (min (place + count) greatest)
behind kept count = kept

-- The place of a handle's file is set, and that of no other. Of a file that is only read a place is refused exactly where
-- no call of the machine can name it.
pub record SeeksAt {F : Type 0} (h place : ℕ) (done : Bool) (old new : Opens F) : Type 0 where
  pub places : place_at new ≡ put h (sought (live_at old h) place done (place_at old h)) (place_at old)
  pub named : IfSome (live_at old h) (λ l. is_only_read l ≡ true → done ≡ nat_le place last_place)

-- A handle's file is read on from its place, and no other.
abbrev pub ReadsAt : {F : Type 0} → ℕ → Option ℕ → Opens F → Opens F → Type 0
ReadsAt h count old new = place_at new ≡ put h (behind (place_at old h) count) (place_at old)
