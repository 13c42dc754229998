use Rattle.std.proofs.Common.{◌+◌}
use Rattle.dav_bench.proofs.Reported.{benched_none}
use Rattle.dav_serve.proofs.run.bench_remembering.Goals as goal

pub returns-in-Err : goal.returns-in-Err
returns-in-Err g c = benched_none (c.args.seed + 1) c.in-Err.refused (g.K.Sink.stream c.args.sink.now)
