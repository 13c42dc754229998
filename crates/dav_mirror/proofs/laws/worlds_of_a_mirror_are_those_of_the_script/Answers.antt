use Rattle.std.proofs.Common.{[]}
use Rattle.dav_fetch.proofs.Turned.{fetched_gone_on}
use Rattle.dav_mirror.specs.Mirrors.{most_requests, peer_at}
use Rattle.dav_mirror.proofs.laws.worlds_of_a_mirror_are_those_of_the_script.Goals as goal

pub returns : goal.returns
returns c = λ before after old new result report m v told. fetched_gone_on (peer_at before) m.last (record { dirs = []; files = [] }) m.copy most_requests m.answer m.fetched v told
