-- A local store as its clauses see it, before and after a call.
use Rattle.std.specs.Prelude.{◌≡◌}
use Rattle.dav_io.specs.declared.clock.Moment.{Moment}
use Rattle.dav_core.specs.Disk.{DiskState}
use Rattle.dav_memory.specs.Memory.{MemoryState}
use Rattle.dav_local.specs.declared.fs.LocalFs.{LocalFs}
use Rattle.dav_local.specs.Ways.{Ways}

-- how it finds paths, its memory and its disk, and the moment at which it remembers
pub record Place : Type 0 where
  pub ways : Ways
  pub memory : MemoryState
  pub disk : DiskState
  pub moment : Moment

abbrev pub place_of : {D R : Type 0} → (D → DiskState) → (R → MemoryState) → LocalFs D R → Place
place_of disk memory fs = record { ways = fs.ways; memory = memory fs.memory; disk = disk fs.disk; moment = fs.moment }

-- All but its memory and its disk stays.
abbrev pub Stays : {D R : Type 0} → LocalFs D R → LocalFs D R → Type 0
Stays s t = (t.ways ≡ s.ways) × (t.public ≡ s.public) × (t.moment ≡ s.moment)
