use Rattle.std.proofs.Common.{rules, arith}
use Rattle.dav_wire.proofs.SizeReading.{partly_none, partly_one}
use Rattle.dav_wire.proofs.size_line.line_end_at.Goals as goal

pub returns-then-is_empty : goal.returns-then-is_empty
returns-then-is_empty c = partly_none c.args.text.now (search rules)

pub returns-then-text-lt2 : goal.returns-then-text-lt2
returns-then-text-lt2 c = partly_one c.args.text.now (search rules) (omega arith) (search rules)
