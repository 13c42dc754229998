use Rattle.std.proofs.Common.{Some, ap, length, take, refl, sym, ◌∙◌}
use Rattle.std.specs.Vec.{with_items}
use Rattle.std.proofs.lemmas.List.{with_items_is}
use Rattle.dav_get.proofs.BodyPolls.{broken_polls, first_has_room, slice_polls}
use Rattle.dav_get.proofs.body.GetBody.step_slice.Goals as goal

pub fill-requires-clause-at : goal.fill-requires-clause-at
fill-requires-clause-at g c = c.requires.held.file c.in-Some.open c.in-Some.is

pub fill-requires-clause-room : goal.fill-requires-clause-room
fill-requires-clause-room g c = rw c.deref_mut.ensures.value (first_has_room _ _ _ c.args.slice _ c.requires.slice c.requires.held.room)

pub returns-in-Some-fill-clause-done : goal.returns-in-Some-fill-clause-done
returns-in-Some-fill-clause-done g c =
    let long = c.fill.auto.into ∙ ap length c.deref_mut.ensures.value in
    let items = with_items_is c.args.self.now.buffer c.fill.new.into (long ∙ sym c.args.self.now.buffer.ok.0) in
    slice_polls g.F.DavFile.view _ _ _ c.args.self.now
    (record c.args.self.now { file = Some c.fill.new.self; buffer = with_items c.args.self.now.buffer c.fill.new.into })
    c.advance.new.self c.args.slice _ _ c.fill.new.into c.in-Some-fill.count c.in-Some.open c.fill.new.self
    c.requires.slice c.requires.held refl c.in-Some-fill.ensures.done c.in-Some.is refl refl refl (ap length items ∙ long) long
    c.advance.ensures.left c.advance.ensures.done c.advance.ensures.most (ap (λ v. length v.items) c.advance.ensures.buffer)
    _ (ap (λ v. take c.in-Some-fill.count v.items) c.advance.ensures.buffer ∙ ap (take c.in-Some-fill.count) items)

pub returns-in-None-clause-done : goal.returns-in-None-clause-done
returns-in-None-clause-done g c =
    let long = c.fill.auto.into ∙ ap length c.deref_mut.ensures.value in
    let items = with_items_is c.args.self.now.buffer c.fill.new.into (long ∙ sym c.args.self.now.buffer.ok.0) in
    broken_polls g.F.DavFile.view _ _ _ c.args.self.now c.give_up.new.self c.args.slice _ _ c.fill.new.into c.in-Some.open c.fill.new.self
    c.requires.slice c.in-None.ensures.done c.in-Some.is c.give_up.ensures.done c.give_up.ensures.left c.give_up.ensures.file c.give_up.ensures.most
    (ap (λ v. length v.items) c.give_up.ensures.buffer ∙ (ap length items ∙ long))
