use Rattle.dav_page.proofs.Strips.{strips_none, strips_some}
use Rattle.dav_page.proofs.cutting.expect.Goals as goal

pub returns : goal.returns
returns c = record {
  some = strips_some c.args.literal.now c.args.whole.now c.strip_prefix.result c.strip_prefix.ensures.cases;
  none = strips_none c.args.literal.now c.args.whole.now c.strip_prefix.result c.strip_prefix.ensures.cases;
}
