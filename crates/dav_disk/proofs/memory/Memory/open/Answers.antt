use Rattle.std.proofs.Common.{◌≡◌, [], cond, None, Some, Ok, Err, sym, ap, ◌∙◌}
use Rattle.dav_core.specs.World.{World}
use Rattle.dav_core.specs.Allowed.{opening, place}
use Rattle.dav_core.specs.Edits.{makes, fills}
use Rattle.dav_core.specs.declared.tree.Kind.TheVariants.{File}
use Rattle.dav_disk.specs.Making.{opened_edit}
use Rattle.dav_disk.specs.Memory.{known_of}
use Rattle.dav_disk.proofs.DirsStay.{emptied_file}
use Rattle.dav_disk.proofs.OpenAt.{placed_given, placed_kept, opened_as, made_as, refused_as}
use Rattle.dav_disk.proofs.Judges.{opening_judged}
use Rattle.dav_disk.proofs.memory.Memory.open.Goals as goal

pub returns-in-Ok-None : goal.returns-in-Ok-None
returns-in-Ok-None c =
    let w : World = (known_of c.args.self.now).world in
    let free = rw c.in-Ok-None.field-0-is at c.in-Ok-None.ensures.place in
    let judged = rw c.in-Ok-None.field-0-is at c.in-Ok-None.ensures.judged in
    let at : place w.tree c.args.path.now ≡ Ok None = rw (← c.as_slice.ensures.value) free in
    let by : opening w.tree c.args.path.now c.args.how ≡ Ok (Some (makes c.args.path.now File [])) = rw (← c.as_slice.ensures.value) judged in
    made_as (known_of c.args.self.now) (known_of c.open_new.new.self) c.args.path.now c.args.how c.open_new.result at by c.open_new.ensures

pub returns-in-Err : goal.returns-in-Err
returns-in-Err c =
    let w : World = (known_of c.args.self.now).world in
    let by : opening w.tree c.args.path.now c.args.how ≡ Err c.in-Err.e = rw (← c.as_slice.ensures.value) c.in-Err.ensures.judged in
    refused_as (known_of c.args.self.now) c.args.path.now c.args.how c.in-Err.e (opening_judged w.tree c.args.path.now c.args.how c.in-Err.e by) by

pub open_emptied-requires-clause-kept : goal.open_emptied-requires-clause-kept
open_emptied-requires-clause-kept c =
    let w : World = (known_of c.args.self.now).world in
    let there = rw c.in-Ok-Some.field-0-is at c.in-Ok-Some.ensures.place in
    let at : place w.tree c.args.path.now ≡ Ok (Some c.in-Ok-Some.row.now) = rw (← c.as_slice.ensures.value) there in
    placed_kept w c.args.path.now c.in-Ok-Some.row.now c.args.self.now.stored at (emptied_file c.in-Ok-Some.row.now.kind c.args.how (sym c.empties.ensures ∙ c.if-empties.true))

pub open_emptied-requires-clause-given : goal.open_emptied-requires-clause-given
open_emptied-requires-clause-given c =
    let w : World = (known_of c.args.self.now).world in
    let there = rw c.in-Ok-Some.field-0-is at c.in-Ok-Some.ensures.place in
    let at : place w.tree c.args.path.now ≡ Ok (Some c.in-Ok-Some.row.now) = rw (← c.as_slice.ensures.value) there in
    placed_given w c.args.path.now c.in-Ok-Some.row.now c.args.self.now.given at

pub open_number-requires-clause-kept : goal.open_number-requires-clause-kept
open_number-requires-clause-kept c =
    let w : World = (known_of c.args.self.now).world in
    let there = rw c.in-Ok-Some.field-0-is at c.in-Ok-Some.ensures.place in
    let at : place w.tree c.args.path.now ≡ Ok (Some c.in-Ok-Some.row.now) = rw (← c.as_slice.ensures.value) there in
    λ file. placed_kept w c.args.path.now c.in-Ok-Some.row.now c.args.self.now.stored at file

pub open_number-requires-clause-given : goal.open_number-requires-clause-given
open_number-requires-clause-given c =
    let w : World = (known_of c.args.self.now).world in
    let there = rw c.in-Ok-Some.field-0-is at c.in-Ok-Some.ensures.place in
    let at : place w.tree c.args.path.now ≡ Ok (Some c.in-Ok-Some.row.now) = rw (← c.as_slice.ensures.value) there in
    placed_given w c.args.path.now c.in-Ok-Some.row.now c.args.self.now.given at

pub returns-then-empties : goal.returns-then-empties
returns-then-empties c =
    let w : World = (known_of c.args.self.now).world in
    let there = rw c.in-Ok-Some.field-0-is at c.in-Ok-Some.ensures.place in
    let judged = rw c.in-Ok-Some.field-0-is at c.in-Ok-Some.ensures.judged in
    let at : place w.tree c.args.path.now ≡ Ok (Some c.in-Ok-Some.row.now) = rw (← c.as_slice.ensures.value) there in
    let by : opening w.tree c.args.path.now c.args.how ≡ Ok (opened_edit c.args.how c.args.path.now (Some c.in-Ok-Some.row.now)) = rw (← c.as_slice.ensures.value) judged in
    opened_as (known_of c.args.self.now) (known_of c.open_emptied.new.self) c.args.path.now c.args.how c.open_emptied.result c.in-Ok-Some.row.now (Some (fills c.in-Ok-Some.row.now.number [])) at
    (by ∙ ap (λ b. Ok (cond b (Some (fills c.in-Ok-Some.row.now.number [])) None)) (sym c.empties.ensures ∙ c.if-empties.true)) c.open_emptied.ensures

pub returns : goal.returns
returns c =
    let w : World = (known_of c.args.self.now).world in
    let there = rw c.in-Ok-Some.field-0-is at c.in-Ok-Some.ensures.place in
    let judged = rw c.in-Ok-Some.field-0-is at c.in-Ok-Some.ensures.judged in
    let at : place w.tree c.args.path.now ≡ Ok (Some c.in-Ok-Some.row.now) = rw (← c.as_slice.ensures.value) there in
    let by : opening w.tree c.args.path.now c.args.how ≡ Ok (opened_edit c.args.how c.args.path.now (Some c.in-Ok-Some.row.now)) = rw (← c.as_slice.ensures.value) judged in
    opened_as (known_of c.args.self.now) (known_of c.open_number.new.self) c.args.path.now c.args.how c.open_number.result c.in-Ok-Some.row.now None at
    (by ∙ ap (λ b. Ok (cond b (Some (fills c.in-Ok-Some.row.now.number [])) None)) (sym c.empties.ensures ∙ c.if-empties.false)) c.open_number.ensures
