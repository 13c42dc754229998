use Rattle.std.proofs.Common.{rules}
use Rattle.dav_io.proofs.Taken.{front}
use Rattle.dav_fetch.proofs.giving.give_from.Goals as goal

pub returns-clause-given : goal.returns-clause-given
returns-clause-given c = front c.args.bytes.now c.copy_front.new.into c.args.at c.copy_front.result (search rules)
