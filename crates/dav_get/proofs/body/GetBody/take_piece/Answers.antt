use Rattle.std.proofs.Common.{ap, arith, drop-set-lt, length, refl, sym, take, ◌∙◌}
use Rattle.dav_get.proofs.Touching.{text_here}
use Rattle.dav_get.proofs.BodyPolls.{polls_over}
use Rattle.dav_get.proofs.BodyRight.{polls_right, same_piece}
use Rattle.dav_get.proofs.body.GetBody.take_piece.Goals as goal

pub returns-in-Text-clause-done : goal.returns-in-Text-clause-done
returns-in-Text-clause-done g c =
    let inside = c.in-Text.ensures.inside in
    let text = text_here c.step.new.self.parts.items c.in-Text.at c.index_mut.result.now c.take_text.result inside.0 c.index_mut.ensures.value c.take_text.ensures in
    same_piece g.F.DavFile.view _ _ c.args.self.now _ _ _ (sym text)
    (polls_right g.F.DavFile.view _ _ _ _ _ c.requires.held
    (polls_over g.F.DavFile.view _ _ c.args.self.now c.step.new.self _ _
    (drop-set-lt c.step.new.self.next c.step.new.self.parts.items c.in-Text.at c.take_text.new.part inside.1) refl refl refl c.in-Text.ensures.done))

pub returns-in-Read-clause-done : goal.returns-in-Read-clause-done
returns-in-Read-clause-done g c =
    rw c.front_of.ensures
    (same_piece g.F.DavFile.view _ _ c.args.self.now _ _ _ (ap (λ v. take c.in-Read.count v.items) c.replace-bytes.ensures.value)
    (polls_right g.F.DavFile.view _ _ _ _ _ c.requires.held
    (polls_over g.F.DavFile.view _ _ c.args.self.now c.step.new.self _ _ refl refl refl
    (omega (arith, c.requires.room.long, c.args.self.now.buffer.ok.0, c.args.room.ok.0, c.in-Read.ensures.done.room, ap (λ v. length v.items) c.replace-bytes.ensures.after))
    c.in-Read.ensures.done)))

pub returns-in-End-clause-done : goal.returns-in-End-clause-done
returns-in-End-clause-done g c = polls_right g.F.DavFile.view _ _ _ _ _ c.requires.held c.in-End.ensures.done

pub returns-in-Broken-clause-done : goal.returns-in-Broken-clause-done
returns-in-Broken-clause-done g c = polls_right g.F.DavFile.view _ _ _ _ _ c.requires.held c.in-Broken.ensures.done
