use Rattle.std.proofs.Common.{refl}
use Rattle.dav_disk.specs.Memory.{known_of}
use Rattle.dav_disk.proofs.Added.{addable, dir_set, row_of}
use Rattle.dav_core.specs.World.{at_key}
use Rattle.dav_disk.proofs.DirsStay.{dir_bared}
use Rattle.dav_disk.proofs.GivenStay.{dir_given}
use Rattle.dav_core.specs.declared.tree.Kind.TheVariants.{Dir}
use Rattle.dav_disk.proofs.PlainRows.{plain_more}
use Rattle.dav_disk.proofs.memory.Memory.add_dir.Goals as goal

pub invariant_of-self-2 : goal.invariant_of-self-2
invariant_of-self-2 c =
    let t = dir_set (known_of c.args.self.now).world c.args.path.now c.in_ok-try_clone.field-0 c.args.number c.args.time c.push.new.self c.requires
    c.args.self.now.tree c.args.self.now.stored c.in_ok-try_clone.ensures.copy c.in_ok-push.ensures.ok in
    let bared = dir_bared (known_of c.args.self.now).world (row_of c.in_ok-try_clone.field-0 Dir c.args.number c.args.time) c.push.new.self (at_key c.args.self.now.opens)
    (addable (known_of c.args.self.now).world c.args.path.now c.args.number c.args.time c.requires).unstored c.in_ok-push.ensures.ok (record { bare = c.args.self.now.bare; kept = c.args.self.now.kept }) in
    record {
      bare = bared.bare;
      kept = bared.kept;
      tree = t.0;
      plain = plain_more c.args.self.now.rows c.push.new.self _ c.args.self.now.plain c.in_ok-push.ensures.ok (rw c.in_ok-try_clone.ensures.copy c.in_ok-try_clone.ensures.plain);
      stored = t.1;
      given = dir_given (known_of c.args.self.now).world (row_of c.in_ok-try_clone.field-0 Dir c.args.number c.args.time) (known_of c.args.self.now).world.tree c.push.new.self
          c.max-self.result c.later_of-latest.result c.second_past.result (addable (known_of c.args.self.now).world c.args.path.now c.args.number c.args.time c.requires).settable
          c.args.self.now.given refl c.in_ok-push.ensures.ok c.max-self.ensures c.later_of-latest.ensures c.second_past.ensures;
    }
