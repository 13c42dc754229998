use Rattle.dav_readcache.proofs.laws.calls_leave_contents.Goals as goal

pub returns : goal.returns
returns g c = λ after content becomes is. becomes.1 content is
