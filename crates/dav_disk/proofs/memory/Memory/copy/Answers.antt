use Rattle.std.proofs.Common.{Ok, Err, subst, sym}
use Rattle.dav_core.specs.World.{World}
use Rattle.dav_core.specs.Allowed.{Allowed, copying}
use Rattle.dav_disk.specs.Making.{MakesAt}
use Rattle.dav_disk.specs.declared.judge.Copying.TheVariants.{Makes, Fills}
use Rattle.dav_disk.specs.Memory.{known_of}
use Rattle.dav_disk.proofs.CopyAt.{copy_is, copy_free, copy_given, copy_no_dir}
use Rattle.dav_disk.proofs.Judges.{copying_judged, refused_at}
use Rattle.dav_disk.proofs.memory.Memory.copy.Goals as goal

pub returns-in-Err : goal.returns-in-Err
returns-in-Err c =
    let w : World = (known_of c.args.self.now).world in
    let e = copy_is w c.args.from.now c.args.to.now (Err c.in-Err.e) c.in-Err.ensures in
    refused_at (copying w c.args.from.now c.args.to.now) (known_of c.args.self.now) c.in-Err.e (copying_judged w c.args.from.now c.args.to.now c.in-Err.e e) e

pub copy_new-requires : goal.copy_new-requires
copy_new-requires c =
    let found = rw c.in-Ok-Makes.field-0-is at c.in-Ok-Makes.ensures in
    copy_free (known_of c.args.self.now).world c.args.from.now c.args.to.now c.in-Ok-Makes.number c.args.self.now.tree found

pub returns-in-Ok-Makes : goal.returns-in-Ok-Makes
returns-in-Ok-Makes c =
    let found = rw c.in-Ok-Makes.field-0-is at c.in-Ok-Makes.ensures in
    subst (λ (a : Allowed). MakesAt a (known_of c.args.self.now) c.copy_new.result (known_of c.copy_new.new.self))
    (sym (copy_is (known_of c.args.self.now).world c.args.from.now c.args.to.now (Ok (Makes c.in-Ok-Makes.number)) found)) c.copy_new.ensures

pub copy_over-requires-clause-file : goal.copy_over-requires-clause-file
copy_over-requires-clause-file c =
    let found = rw c.in-Ok-Fills.field-0-is at c.in-Ok-Fills.ensures in
    copy_no_dir (known_of c.args.self.now).world c.args.from.now c.args.to.now c.in-Ok-Fills.number c.in-Ok-Fills.there c.args.self.now.tree found

pub copy_over-requires-clause-given : goal.copy_over-requires-clause-given
copy_over-requires-clause-given c =
    let found = rw c.in-Ok-Fills.field-0-is at c.in-Ok-Fills.ensures in
    copy_given (known_of c.args.self.now).world c.args.from.now c.args.to.now c.in-Ok-Fills.number c.in-Ok-Fills.there c.args.self.now.given found

pub returns-in-Ok-Fills : goal.returns-in-Ok-Fills
returns-in-Ok-Fills c =
    let found = rw c.in-Ok-Fills.field-0-is at c.in-Ok-Fills.ensures in
    subst (λ (a : Allowed). MakesAt a (known_of c.args.self.now) c.copy_over.result (known_of c.copy_over.new.self))
    (sym (copy_is (known_of c.args.self.now).world c.args.from.now c.args.to.now (Ok (Fills c.in-Ok-Fills.number c.in-Ok-Fills.there)) found)) c.copy_over.ensures
