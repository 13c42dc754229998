use Rattle.dav_report.proofs.Found.{cuts_at}
use Rattle.dav_report.proofs.content.cut_at.Goals as goal

pub returns : goal.returns
returns c = cuts_at c.args.at c.args.text.now c.split_once.result (c.split_once.ensures.byte c.requires (λ w o h. h))
