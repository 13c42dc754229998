use Rattle.std.proofs.Common.{ap, ◌∙◌, drop, arith}
use Rattle.dav_wire.specs.Reading.{Pending}
use Rattle.dav_wire.proofs.Holding.{held_behind, held_len}
use Rattle.dav_wire.proofs.input.Input.pass.Goals as goal

pub returns-clause-bytes : goal.returns-clause-bytes
returns-clause-bytes c =
    let held = ap (λ (p : Pending). p.bytes) c.self.view_is in
    let size = held_len c.self.inside.buffer.items c.args.self.now.bytes c.self.inside.start c.self.inside.end held (omega arith) (omega arith) in
    held_behind c.self.inside.buffer.items c.self.inside.start c.self.inside.end c.args.count (omega arith) ∙ ap (drop c.args.count) held
