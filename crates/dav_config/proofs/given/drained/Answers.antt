use Rattle.std.proofs.Common.{◌∙◌}
use Rattle.dav_config.proofs.Draining.{collected_leaves}
use Rattle.dav_config.proofs.given.drained.Goals as goal

pub returns-clause-loan : goal.returns-clause-loan
returns-clause-loan g c =
    c.end.ensures.loan
    ∙ (collected_leaves g.F.DavFile.view g.D.Disk.state g.D.Disk.loan c.args.body.inner c.args.disk.now c.collect-all.result c.collect-all.new.body.inner
    c.collect-all.new.with c.collect-all.ensures.joins).still
