use Rattle.std.proofs.Common.{◌≡◌, ◌≤◌, ◌+◌, length, take, drop, Decides, arith}
use Rattle.std.proofs.lemmas.Bool.Decides.{Decides-eqb}
use Rattle.std.proofs.lemmas.Slice.Eq.{slice_eq-Decides}
use Rattle.dav_disk.proofs.Written.{there_is}
use Rattle.dav_disk.proofs.writing.stands.Goals as goal

pub returns-clause-same : goal.returns-clause-same
returns-clause-same c =
    let fits : c.args.place + length c.args.from.now ≤ length c.args.bytes.now = omega (arith, c.split_at.ensures.back_len) in
    let d : Decides c.eq.result (c.args.from.now ≡ take (length c.args.from.now) (drop c.args.place c.args.bytes.now)) =
    rw (← c.split_at.ensures.back) (slice_eq-Decides Decides-eqb c.args.from.now (take (length c.args.from.now) c.split_at.result.1.now) c.eq.result c.eq.ensures) in
    there_is c.args.place c.args.from.now c.args.bytes.now c.eq.result fits d
