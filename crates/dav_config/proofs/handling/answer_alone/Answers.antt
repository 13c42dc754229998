use Rattle.dav_config.specs.Finding.{brought, request_of}
use Rattle.dav_config.proofs.Unstored.{gated_alone}
use Rattle.dav_config.proofs.handling.answer_alone.Goals as goal

pub say_alone-requires : goal.say_alone-requires
say_alone-requires g c at =
    gated_alone (request_of c.args.asked.now) (brought g.B.BodyReader.state c.args.content.now) (brought g.B.BodyReader.state c.gate.new.content) c.in-Ok.target c.in-Ok.ensures.done at
