use Rattle.dav_get.proofs.Rooms.{ready}
use Rattle.dav_get.proofs.prepared.room_for.Goals as goal

pub returns : goal.returns
returns c = ready c.args.size c.longest.result c.args.parts.now c.new.result c.longest.ensures c.requires.sound c.new.ensures
