use Rattle.std.proofs.Common.{ap, Err}
use Rattle.dav_wire.proofs.Refusals.{refusal_of}
use Rattle.dav_wire.proofs.head.read_head.Goals as goal

pub returns-in-Err : goal.returns-in-Err
returns-in-Err c =
    refusal_of c.args.buf.now _ _ c.requires.room c.in-Err.ensures.invalid (λ e. c.in-Err.ensures.too_many (ap Err e)) c.in-Err.ensures.no_room

pub returns-in-Err-Refused : goal.returns-in-Err-Refused
returns-in-Err-Refused c = c.in-Err-Refused.ensures.refused (ap Err c.in-Err-Refused.field-0-is)
