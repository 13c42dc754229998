-- Which calls of a source or a sink in memory fail, and how many bytes the others move.
use Rattle.std.specs.Prelude.{◌-◌, ℕ, List, Some, drop, min, vec_len, Contains}
use Rattle.dav_io.specs.Counts.{one_more}
use Rattle.dav_io.specs.Outside.{Stream}
use Rattle.dav_io.specs.declared.memory.MemSource.{MemSource}
use Rattle.dav_io.specs.declared.memory.MemSink.{MemSink}

-- The numbers, from 1, of the calls that fail; how many calls there were; and the most bytes that a call moves.
pub record Schedule : Type 0 where
  pub fail : List ℕ
  pub calls : ℕ
  pub most : ℕ

-- The next call is one of those that fail.
abbrev pub FailsNext : Schedule → Type 0
FailsNext s = Contains s.fail (one_more s.calls)

-- the same schedule, one call later
abbrev pub one_later : Schedule → Schedule
one_later s = record { fail = s.fail; calls = one_more s.calls; most = s.most }

-- how many of so many bytes a call moves that doesn't fail, where there is so much room
abbrev pub moved : Schedule → ℕ → ℕ → ℕ
moved s count room = min (min count room) s.most

-- what a source in memory has left
abbrev pub left_in : MemSource → List ℕ
left_in s = drop s.at s.bytes

abbrev pub source_stream : MemSource → Stream
source_stream s = record { bytes = Some (left_in s); faults = s.faults.met; asked = s.faults.asked }

abbrev pub source_schedule : MemSource → Schedule
source_schedule s = record { fail = s.faults.fail.items; calls = s.faults.asked; most = s.most }

abbrev pub sink_stream : MemSink → Stream
sink_stream s = record { bytes = Some s.bytes.items; faults = s.faults.met; asked = s.faults.asked }

abbrev pub sink_schedule : MemSink → Schedule
sink_schedule s = record { fail = s.faults.fail.items; calls = s.faults.asked; most = s.most }

-- how many bytes a sink in memory was made for
abbrev pub room_of : MemSink → ℕ
room_of s = s.room

-- how many more it has room for
abbrev pub room_left : MemSink → ℕ
room_left s = s.room - vec_len s.bytes
