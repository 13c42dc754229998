-- What a run by a player comes to, said of the disk that is lent to it.
use Rattle.std.proofs.Common.{◌≡◌, Option, subst}
use Rattle.dav_io.specs.Outside.{Stream}
use Rattle.dav_io.specs.declared.clock.Moment.{Moment}
use Rattle.dav_model.specs.Play.{Stage}
use Rattle.dav_model.specs.Trail.{Point}
use Rattle.dav_serving.specs.Serving.{HoldsSoFar, Setup, setup_by}
use Rattle.dav_serving.specs.Stages.{Outside, outside_of}

-- What a run by a player comes to is what one over its disk does that begins so.
pub over_the_disk : (P : Setup → Outside → Outside → Type 0) (shown : Option Moment) (a start : Stage) (source sink left written : Stream) (t u : Point) → a ≡ start → t ≡ u
    → P (setup_by shown a) (outside_of source sink a.at) (outside_of left written t) → P (setup_by shown start) (outside_of source sink start.at) (outside_of left written u)
over_the_disk P shown a start source sink left written t u first last holds =
    subst (λ z. P (setup_by shown start) (outside_of source sink start.at) (outside_of left written z)) last
    (subst (λ z. P (setup_by shown z) (outside_of source sink z.at) (outside_of left written t)) first holds)

-- It is asked for where one over its disk is that begins so.
pub asks_over : (may : Stream → Stream → Type 0) (shown : Option Moment) (start a : Stage) (source sink : Stream) → start ≡ a → HoldsSoFar (setup_by shown start) (outside_of source sink start.at) may
    → HoldsSoFar (setup_by shown a) (outside_of source sink a.at) may
asks_over may shown start a source sink first holds = subst (λ z. HoldsSoFar (setup_by shown z) (outside_of source sink z.at) may) first holds
