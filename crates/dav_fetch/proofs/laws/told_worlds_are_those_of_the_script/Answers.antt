use Rattle.dav_fetch.proofs.Turned.{fetched_gone_on}
use Rattle.dav_fetch.proofs.laws.told_worlds_are_those_of_the_script.Goals as goal

pub returns : goal.returns
returns c = fetched_gone_on
