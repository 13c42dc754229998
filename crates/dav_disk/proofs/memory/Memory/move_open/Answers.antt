use Rattle.dav_disk.specs.Memory.{known_of}
use Rattle.dav_disk.proofs.Opened.{place_set}
use Rattle.dav_disk.proofs.DirsStay.{kept_placed}
use Rattle.dav_disk.proofs.GivenStay.{place_given}
use Rattle.dav_disk.proofs.memory.Memory.move_open.Goals as goal

pub returns : goal.returns
returns c = place_set (known_of c.args.self.now).world _ _ _ _ _ c.requires c.set_place.ensures

pub invariant_of-self : goal.invariant_of-self
invariant_of-self c = record {
  tree = c.args.self.now.tree;
  plain = c.args.self.now.plain;
  stored = c.args.self.now.stored;
  bare = c.args.self.now.bare;
  kept = kept_placed (known_of c.args.self.now).world.files _ _ c.args.file.0 c.args.opened _ c.requires c.set_place.ensures c.args.self.now.kept;
  given = place_given (known_of c.args.self.now).world _ _ c.args.file.0 c.args.opened _ c.args.self.now.given c.requires c.set_place.ensures;
}
