use Rattle.std.proofs.Common.{arith}
use Rattle.dav_page.proofs.Hundredths.{divided_first}
use Rattle.dav_page.proofs.sizes.quotient.Goals as goal

pub returns : goal.returns
returns c = divided_first c.args.size c.args.unit (omega arith)
