use Rattle.std.proofs.Common.{◌+◌, arith}
use Rattle.dav_get.proofs.Touching.{goes_on, some_left}
use Rattle.dav_get.proofs.body.GetBody.pass.Goals as goal

pub returns-else-self-len-clause-done : goal.returns-else-self-len-clause-done
returns-else-self-len-clause-done g c = goes_on g.F.DavFile.view _ c.args.self.now _ (some_left c.args.self.now.parts.items (c.args.self.now.next + 1) (omega arith))
