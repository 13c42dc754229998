use Rattle.std.proofs.Common.{ap, length, drop, refl, ◌∙◌, arith}
use Rattle.dav_get.specs.Bodies.{text_of}
use Rattle.dav_get.specs.declared.part.BodyPart.TheVariants.{Text}
use Rattle.dav_get.proofs.Touching.{first_is}
use Rattle.dav_get.proofs.BodyPolls.{text_polls}
use Rattle.dav_get.proofs.body.GetBody.step.Goals as goal

pub returns-in-Text-clause-done : goal.returns-in-Text-clause-done
returns-in-Text-clause-done g c =
    let is = first_is c.args.self.now.parts.items c.args.self.now.next c.index.result.now (Text c.in-Text.field-0) (omega arith) c.index.ensures c.in-Text.is in
    text_polls g.F.DavFile.view _ _ c.args.self.now c.pass.new.self c.in-Text.field-0 _ is c.requires
    (rw (c.pass.ensures.next, c.pass.ensures.parts) refl) c.pass.ensures.done c.pass.ensures.most (ap (λ v. length v.items) c.pass.ensures.buffer)
    _ (ap (λ v. text_of (drop c.args.self.now.next v.items)) c.pass.ensures.parts ∙ ap text_of is)
