use Rattle.std.proofs.Common.{◌≡◌, ◌<◌, ◌+◌, ◌^◌, List, ℕ, length, take, ap, ◌∙◌, arith}
use Rattle.std.specs.List.{slice_range}
use Rattle.std.proofs.lemmas.List.{with_items_is}
use Rattle.dav_wire.specs.Reading.{Pending}
use Rattle.dav_wire.proofs.Holding.{fills_ok}
use Rattle.dav_wire.proofs.input.Input.fill_after.Goals as goal

pub returns-in-Ok-clause-fills : goal.returns-in-Ok-clause-fills
returns-in-Ok-clause-fills g c =
    let held = ap (λ (p : Pending). p.bytes) c.self.view_is in
    let taken = ap (λ (p : Pending). p.taken) c.self.view_is in
    let room = c.make_room-self-inside in
    let v = room.new.buffer in
    let same = c.deref_mut.ensures.value in
    let f = c.ask_at.new.buffer in
    let size = ap (length {A = ℕ}) same in
    let whole : length f ≡ v.len = omega (arith, c.in-Ok.ensures.takes.len, v.ok.0) in
    let few : c.args.self.now.taken < 2 ^ 60 = omega arith in
    fills_ok _ _ _ _ c.deref_mut.result.now f room.result c.in-Ok.count c.min-most.result (ap (take room.result) same ∙ room.ensures.front ∙ held)
    c.in-Ok.ensures.takes (ap (λ (x : List ℕ). slice_range x 0 (room.result + c.in-Ok.count)) (with_items_is v f whole))
    (ap (λ (t : ℕ). t + c.in-Ok.count) taken) few (omega arith)
