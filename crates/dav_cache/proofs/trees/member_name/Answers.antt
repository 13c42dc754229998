use Rattle.std.proofs.Common.{arith, sym}
use Rattle.dav_cache.proofs.Members.{member_short, member_long}
use Rattle.dav_cache.proofs.trees.member_name.Goals as goal

pub returns-then-i-path : goal.returns-then-i-path
returns-then-i-path c = sym (member_short c.args.dir.now c.args.path.now (omega arith))

pub returns-then-path-dir-gt1 : goal.returns-then-path-dir-gt1
returns-then-path-dir-gt1 c = sym (member_long c.args.dir.now c.args.path.now (omega arith))
