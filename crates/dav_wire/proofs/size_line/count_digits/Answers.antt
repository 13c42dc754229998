use Rattle.std.proofs.Common.{arith, add-one}
use Rattle.dav_wire.proofs.SizeReading.{digits_more}
use Rattle.dav_wire.proofs.size_line.count_digits.Goals as goal

pub loop-at-preserved : goal.loop-at-preserved
loop-at-preserved c = record {
  within = omega arith;
  all = rw add-one (digits_more c.args.text.now c.loop-at.at (omega arith) c.loop-at.invariant.all (omega arith));
}
