use Rattle.std.proofs.Common.{◌≡◌, length, min, arith}
use Rattle.std.proofs.lemmas.Grind.{common_steps}
use Rattle.dav_get.proofs.FrontsRead.{read_fills, zeros_fill}
use Rattle.dav_get.proofs.open_at.OpenAt.read_here.Goals as goal

pub returns-in-Ok-clause-done : goal.returns-in-Ok-clause-done
returns-in-Ok-clause-done g c =
    let size : length c.read_into.new.into ≡ min c.args.slice.count c.args.most = grind (arith, common_steps) in
    read_fills g.F.DavFile.view _ _ c.args.self.now c.read_into.new.self c.args.slice c.args.most c.in-Ok.count c.read_into.new.into _
    c.requires.at c.requires.here (omega arith) size c.in-Ok.ensures.done c.read_into.ensures.handle c.read_into.ensures.asks c.read_into.ensures.reads_from c.read_into.ensures.becomes

pub returns-in-Ok-eq0-clause-done : goal.returns-in-Ok-eq0-clause-done
returns-in-Ok-eq0-clause-done g c =
    zeros_fill g.F.DavFile.view _ _ c.args.self.now c.read_into.new.self c.args.slice c.args.most _ c.in-Ok-eq0.field-0 c.read_into.new.into c.put_zeros.new.into
    c.requires.at c.requires.here c.requires.slice (omega arith) c.in-Ok-eq0.ensures.done c.read_into.ensures.handle c.read_into.ensures.asks c.read_into.ensures.reads_from c.read_into.ensures.becomes c.min-zeros.ensures (omega arith) c.put_zeros.ensures.front
