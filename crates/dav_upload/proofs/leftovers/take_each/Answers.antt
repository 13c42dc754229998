use Rattle.std.proofs.Common.{◌≡◌, ◌≤◌, ◌∷◌, ◌+◌, drop, subst, arith}
use Rattle.dav_upload.proofs.Closing.{stays_then}
use Rattle.dav_upload.proofs.PathsTaken.{FarOn, next_in, one_at_most, path_refused, path_taken, paths_over}
use Rattle.dav_upload.proofs.leftovers.take_each.Goals as goal

pub paths-preserved : goal.paths-preserved
paths-preserved g c =
    let view = g.S.GuardedFileSystem.view in
    let x = c.path-item.result in
    let rest = drop (c.paths.path-index + 1) c.args.paths.now in
    let here : drop c.paths.path-index c.args.paths.now ≡ x ∷ rest = next_in c.args.paths.now c.paths.path-index x c.paths-test.true c.path-item.is in
    let few : c.in-Ok.taken ≤ 1 = one_at_most view c.args.credentials.now c.args.paths.now c.args.fs.now x c.in-Ok.taken c.paths.fs c.take_path.new.fs c.in-Ok.ensures.table in
    record {
      far = path_taken view c.args.credentials.now c.args.paths.now c.args.fs.now x rest c.paths.count c.in-Ok.taken c.paths.fs c.take_path.new.fs c.in-Ok.ensures.table
          (subst (λ xs. FarOn view c.args.credentials.now c.args.paths.now c.args.fs.now xs c.paths.count c.paths.fs) here c.paths.invariant.far);
      few = omega (arith, few, c.paths.invariant.few);
      stays = stays_then view _ _ _ c.paths.invariant.stays c.in-Ok.ensures.stays;
    }

pub returns-in-Err-clause-table : goal.returns-in-Err-clause-table
returns-in-Err-clause-table g c =
    let view = g.S.GuardedFileSystem.view in
    let x = c.path-item.result in
    let rest = drop (c.paths.path-index + 1) c.args.paths.now in
    let here : drop c.paths.path-index c.args.paths.now ≡ x ∷ rest = next_in c.args.paths.now c.paths.path-index x c.paths-test.true c.path-item.is in
    path_refused view c.args.credentials.now c.args.paths.now c.args.fs.now x rest c.paths.count c.in-Err.error c.paths.fs c.take_path.new.fs c.in-Err.ensures.table
    (subst (λ xs. FarOn view c.args.credentials.now c.args.paths.now c.args.fs.now xs c.paths.count c.paths.fs) here c.paths.invariant.far)

pub returns-in-Err-clause-stays : goal.returns-in-Err-clause-stays
returns-in-Err-clause-stays g c = stays_then g.S.GuardedFileSystem.view _ _ _ c.paths.invariant.stays c.in-Err.ensures.stays

pub returns-clause-table : goal.returns-clause-table
returns-clause-table g c =
    paths_over g.S.GuardedFileSystem.view c.args.credentials.now c.args.paths.now c.args.fs.now c.args.paths.now c.paths.path-index c.paths.count c.paths.fs c.paths-test.false c.paths.invariant.far
