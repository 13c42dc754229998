-- What a peer leaves of the disk that it asks: it reads alone, and the outside makes its changes.
use Rattle.std.specs.Prelude.{◌≡◌, ℕ, min, Option, None, Some}
use Rattle.dav_io.specs.Counts.{greatest}
use Rattle.dav_io.specs.Told.{Both}
use Rattle.dav_core.specs.Disk.{DiskState}
use Rattle.dav_fetch.specs.Turning.{TurnedTimes}
use Rattle.dav_model.specs.Play.{Playing, Takes}

-- The disk came of that one so: only the outside made so many batches of its changes. Nothing is open that wasn't, but a
-- file that is read under this handle, if there is one; and nothing is closed that was.
pub record CameOf (s : DiskState) (turns : ℕ) (file : Option ℕ) (t : DiskState) : Type 0 where
  pub live : Takes file s.live t.live
  pub listers : t.listers ≡ s.listers
  pub told : Both s.told t.told (TurnedTimes turns)

-- The same by as many batches as were counted, up to the greatest u64.
pub record CameBy (s : DiskState) (count : ℕ) (file : Option ℕ) (t : DiskState) : Type 0 where
  pub turns : ℕ
  pub counted : count ≡ min turns greatest
  pub came : CameOf s turns file t

-- the handle of the file that the body of the last reply holds, where there is one
abbrev pub file_of : Option ℕ → Playing → Option ℕ
file_of None p = None
file_of (Some body) p = p.held body
