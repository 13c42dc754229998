use Rattle.std.proofs.Common.{sym}
use Rattle.dav_disk.specs.Members.{members_of}
use Rattle.dav_disk.proofs.Placed.{keys_named, none_named}
use Rattle.dav_disk.proofs.places.Places.copied_names.Goals as goal

pub returns-in_ok-names_of-in-Some : goal.returns-in_ok-names_of-in-Some
returns-in_ok-names_of-in-Some c =
    keys_named c.in-Some.members.now (members_of c.args.self.now.dirs c.args.dir.now) _ c.names_of.ensures.ordered c.in-Some.ensures.value c.in_ok-names_of-in-Some.ensures.names

pub returns-in-None : goal.returns-in-None
returns-in-None c = none_named (members_of c.args.self.now.dirs c.args.dir.now) _ (sym c.in-None.ensures.value) c.new.ensures.items
