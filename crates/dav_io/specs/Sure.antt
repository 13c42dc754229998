-- The source and the sink in memory that fail in no call but where they must.
use Rattle.std.specs.Prelude.{◌≡◌, ◌≤◌, ◌-◌, ℕ, List, length, drop, min, Some, Result, Ok, Err}
use Rattle.dav_io.specs.Outside.{Stream}
use Rattle.dav_io.specs.declared.failure.Failed.{Failed}
use Rattle.dav_io.specs.declared.sure.SureSource.{SureSource}
use Rattle.dav_io.specs.declared.sure.SureSink.{SureSink}

abbrev pub source_stream : SureSource → Stream
source_stream s = record { bytes = Some (drop s.at s.bytes); faults = 0; asked = s.asked }

abbrev pub sink_stream : SureSink → Stream
sink_stream s = record { bytes = Some s.bytes.items; faults = s.faults; asked = s.asked }

-- The bytes that fit are taken. It is refused exactly where none fits.
abbrev pub TakesWhatFits : ℕ → List ℕ → List ℕ → Result ℕ Failed → Type 0
TakesWhatFits room written from (Ok n) = n ≡ min (length from) (room - length written)
TakesWhatFits room written from (Err e) = room ≤ length written
