use Rattle.std.proofs.Common.{◌++◌, sym}
use Rattle.dav_wire.specs.Chunks.{line_end}
use Rattle.dav_wire.proofs.Pushing.{pushes_then, pushes_fails}
use Rattle.dav_wire.proofs.Sizes.{line_is}
use Rattle.dav_wire.proofs.output.Output.push_chunk.Goals as goal

pub returns-in-Err : goal.returns-in-Err
returns-in-Err g c =
    let line = line_is _ _ _ c.write_size-start.array_long c.write_size-start.ensures.text in
    pushes_fails _ _ _ _ (c.args.piece.now ++ line_end) _ _ (rw (sym line) c.in-Err.ensures)

pub returns-in-Err-push : goal.returns-in-Err-push
returns-in-Err-push g c =
    let line = line_is _ _ _ c.write_size-start.array_long c.write_size-start.ensures.text in
    pushes_then _ _ _ _ _ _ _ _ _ (rw (sym line) c.in-Ok.ensures) (pushes_fails _ _ _ _ line_end _ _ c.in-Err-push.ensures)

pub returns : goal.returns
returns g c =
    let line = line_is _ _ _ c.write_size-start.array_long c.write_size-start.ensures.text in
    pushes_then _ _ _ _ _ _ _ _ _ (rw (sym line) c.in-Ok.ensures) (pushes_then _ _ _ _ _ _ _ _ _ c.in-Ok-push.ensures c.push-3.ensures)
