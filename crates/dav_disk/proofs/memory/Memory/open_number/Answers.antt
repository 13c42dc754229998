use Rattle.std.proofs.Common.{ap, refl}
use Rattle.std.specs.Option.{option_map}
use Rattle.dav_core.proofs.TablesLemmas.{updates_put}
use Rattle.dav_disk.specs.Files.{live_of}
use Rattle.dav_disk.specs.Memory.{known_of}
use Rattle.dav_disk.proofs.Opened.{opened_put}
use Rattle.dav_disk.proofs.DirsStay.{kept_insert}
use Rattle.dav_disk.proofs.GivenStay.{insert_given}
use Rattle.dav_disk.proofs.memory.Memory.open_number.Goals as goal

pub returns-in-Ok : goal.returns-in-Ok
returns-in-Ok c = (
  (known_of c.args.self.now).world,
  refl,
  ap (option_map live_of) c.in-Some.ensures.free,
  opened_put (known_of c.args.self.now).world _ _ c.in-Some.handle _ (updates_put c.in-Some.handle c.args.self.now.opens c.insert.new.self _ c.in-Ok.ensures.updates),
)

pub invariant_of-self : goal.invariant_of-self
invariant_of-self c = record {
  tree = c.args.self.now.tree;
  plain = c.args.self.now.plain;
  stored = c.args.self.now.stored;
  given = insert_given (known_of c.args.self.now).world c.args.self.now.opens c.insert.new.self c.in-Some.handle _ c.insert.result
      c.args.self.now.given c.requires.given c.insert.ensures.updates c.insert.ensures.err;
  bare = c.args.self.now.bare;
  kept = kept_insert (known_of c.args.self.now).world.files c.args.self.now.opens c.insert.new.self c.in-Some.handle _ c.insert.result c.insert.ensures.updates c.insert.ensures.err c.requires.kept
      c.args.self.now.kept;
}
