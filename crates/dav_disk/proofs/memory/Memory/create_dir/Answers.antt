use Rattle.std.proofs.Common.{refl, sym, ◌∙◌, Ok, Err, Some, [], ◌≡◌}
use Rattle.dav_core.specs.declared.tree.Kind.TheVariants.{Dir}
use Rattle.dav_core.specs.Changes.{dir_added}
use Rattle.dav_core.specs.Edits.{makes}
use Rattle.dav_disk.proofs.Standing.{free_place, dir_is_left, dir_is_none, dir_made, made_place, make_at, spent_at}
use Rattle.dav_core.specs.World.{World}
use Rattle.dav_core.specs.Allowed.{making_dir, place}
use Rattle.dav_disk.specs.Memory.{known_of}
use Rattle.dav_disk.proofs.Judges.{making_judged, refused_at}
use Rattle.dav_disk.proofs.memory.Memory.create_dir.Goals as goal

pub returns-in-Err : goal.returns-in-Err
returns-in-Err c =
    let w : World = (known_of c.args.self.now).world in
    let e : making_dir w.tree c.args.path.now ≡ Err c.in-Err.e = rw (← c.as_slice.ensures.value) c.in-Err.ensures in
    refused_at (making_dir w.tree c.args.path.now) (known_of c.args.self.now) c.in-Err.e (making_judged w.tree c.args.path.now c.in-Err.e e) e

pub returns-then-not-has_row_left : goal.returns-then-not-has_row_left
returns-then-not-has_row_left c =
    let w : World = (known_of c.args.self.now).world in
    let e : making_dir w.tree c.args.path.now ≡ Ok (Some (makes c.args.path.now Dir [])) = rw (← c.as_slice.ensures.value) c.in_default.ensures in
    spent_at (making_dir w.tree c.args.path.now) (makes c.args.path.now Dir []) (known_of c.args.self.now) e (dir_is_none w c.args.path.now (sym c.has_row_left.ensures ∙ c.if-not-has_row_left.true))

pub returns : goal.returns
returns c =
    let w : World = (known_of c.args.self.now).world in
    let e : making_dir w.tree c.args.path.now ≡ Ok (Some (makes c.args.path.now Dir [])) = rw (← c.as_slice.ensures.value) c.in_default.ensures in
    let left = dir_is_left w c.args.path.now (sym c.has_row_left.ensures ∙ c.if-not-has_row_left.false) in
    make_at (making_dir w.tree c.args.path.now) (makes c.args.path.now Dir []) (known_of c.args.self.now) (known_of c.make.new.self) (dir_added w c.args.path.now) c.make.result e left
    (dir_made w (dir_added w c.args.path.now) c.args.path.now (free_place w.tree c.args.path.now c.args.self.now.tree (made_place (place w.tree c.args.path.now) c.args.path.now _ e)) left refl)
    (rw (← c.in-Ok.ensures.copy) c.make.ensures.ok) c.make.ensures.err
