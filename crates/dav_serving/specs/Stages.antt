-- What a run, and an exchange of it, stand on at a moment.
use Rattle.std.specs.Prelude.{ℕ, List, [], ◌++◌, Result, Err}
use Rattle.dav_io.specs.Outside.{Stream}
use Rattle.dav_io.specs.declared.failure.Failed.{Failed}
use Rattle.dav_io.specs.declared.failure.NoMemory.{NoMemory}
use Rattle.dav_model.specs.declared.step.Step.{Step}
use Rattle.dav_model.specs.declared.answer.Answer.{Answer}
use Rattle.dav_model.specs.Trail.{Point, Move}
use Rattle.dav_model.specs.Play.{EachByTree, Playing, Stage, Played, points_from}
use Rattle.dav_model.specs.Valid.{Valid}
use Rattle.dav_wire.specs.Writing.{Pushes, Sent, SentFront}

abbrev pub stage_at : Point → Playing → Stage
stage_at s p = record { at = s; playing = p }

-- Steps were played along a trail from one stage to another, with these answers. In a valid run each reply is that of
-- the tree before its step.
pub record PlayedOn (a : Stage) (steps : List Step) (answers : List Answer) (result : Result Unit NoMemory)
    (b : Stage) : Type 0 where
  pub trail : List Move
  pub played : Played trail a steps [] answers result b
  pub headline : Valid a.playing.rules a.playing.knows (points_from a trail)
      → EachByTree a.playing a.at trail played.player played.answered

-- Memory was refused at one of these steps.
abbrev pub RefusedAt : Stage → List Step → Stage → Type 0
RefusedAt a steps b = (answers : List Answer) × PlayedOn a steps answers (Err (record {})) b

-- what a sink was given, and what waits for it
pub record Outlet : Type 0 where
  pub sink : Stream
  pub waiting : List ℕ

abbrev pub outlet_of : Stream → List ℕ → Outlet
outlet_of sink waiting = record { sink = sink; waiting = waiting }

-- These bytes were pushed behind what waited.
abbrev pub PushesOn : Outlet → List ℕ → Result Unit Failed → Outlet → Type 0
PushesOn a bytes result b = Pushes a.sink a.waiting bytes result b.waiting b.sink

-- What waited, and then these bytes, were given to the sink or wait now.
abbrev pub Sends : Outlet → List ℕ → Outlet → Type 0
Sends a bytes b = Sent a.sink b.sink (a.waiting ++ bytes) b.waiting

-- A front of what waited and of these bytes was given to the sink.
abbrev pub SendsFront : Outlet → List ℕ → Outlet → Type 0
SendsFront a bytes b = SentFront a.sink b.sink (a.waiting ++ bytes)

-- what an exchange stands on
pub record Work : Type 0 where
  pub outlet : Outlet
  pub stage : Stage

abbrev pub work_of : Stream → List ℕ → Stage → Work
work_of sink waiting stage = record { outlet = outlet_of sink waiting; stage = stage }

-- What a run stands on: what its source has left, what its sink was given, and its disk.
pub record Outside : Type 0 where
  pub source : Stream
  pub sink : Stream
  pub disk : Point

abbrev pub outside_of : Stream → Stream → Point → Outside
outside_of source sink disk = record { source = source; sink = sink; disk = disk }
