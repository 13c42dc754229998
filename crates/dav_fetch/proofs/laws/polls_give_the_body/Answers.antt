use Rattle.dav_fetch.proofs.PollBytes.{poll_bytes}
use Rattle.dav_fetch.proofs.laws.polls_give_the_body.Goals as goal

pub returns : goal.returns
returns c = poll_bytes
