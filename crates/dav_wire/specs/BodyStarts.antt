-- Where a reader of a body begins and how it stops, as its functions say it among themselves.
use Rattle.std.specs.Prelude.{ℕ, List, [], Result, Ok, Err}
use Rattle.dav_wire.specs.Bodies.{IsBody, BodyRefusal}
use Rattle.dav_wire.specs.BodySteps.{Stands}
use Rattle.dav_wire.specs.declared.announcing.Announced.{Announced}
use Rattle.dav_wire.specs.declared.body.End.{End}
use Rattle.dav_wire.specs.declared.body.End.TheVariants.{Whole as EndWhole, Refused as EndRefused, Over}
use Rattle.dav_wire.specs.declared.body.Start.{Start}
use Rattle.dav_wire.specs.declared.body.Start.TheVariants.{At, Nothing as NoBody, Refused as StartRefused}
use Rattle.dav_wire.specs.declared.next.BodyRead.{BodyRead}
use Rattle.dav_wire.specs.declared.next.BodyRead.TheVariants.{Whole, Refused, Ended}
use Rattle.dav_wire.specs.declared.next.ReadError.{ReadError}

-- where a reader begins: at a place, or with a body already, or with a refusal of whatever stands there
abbrev pub StartsAt : Announced → Start → Type 0
StartsAt announced (At place) = Stands announced [] place []
StartsAt announced NoBody = IsBody announced [] [] []
StartsAt announced (StartRefused flaw) = (text : List ℕ) → BodyRefusal announced text flaw

-- how a reader stopped, with the bytes of the body
abbrev pub read_as : Result End ReadError → List ℕ → Result BodyRead ReadError
read_as (Ok EndWhole) body = Ok (Whole body)
read_as (Ok (EndRefused flaw)) body = Ok (Refused flaw)
read_as (Ok Over) body = Ok Ended
read_as (Err error) body = Err error
