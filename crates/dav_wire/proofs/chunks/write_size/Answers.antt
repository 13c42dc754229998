use Rattle.std.proofs.Common.{arith, rules}
use Rattle.dav_wire.proofs.Sizes.{fewer_at, first_digit, next_digit, line_before, some_left}
use Rattle.dav_wire.proofs.chunks.write_size.Goals as goal

pub digits-init : goal.digits-init
digits-init c = record {
  long = search rules;
  some = omega arith;
  within = omega arith;
  fits = omega (arith, c.ranges.size.fits);
  so_far = line_before c.args.size c.args.line.now c.told-line;
}

pub returns-then-rest-eq0-clause-text : goal.returns-then-rest-eq0-clause-text
returns-then-rest-eq0-clause-text c =
    first_digit c.digits.line c.digits.at c.digits.rest c.digit.result _ c.digits.invariant.some (omega arith) c.if-rest-eq0.true c.digit.ensures c.digits.invariant.so_far

pub digits-preserved : goal.digits-preserved
digits-preserved c =
    let left = fewer_at c.digits.rest c.digits.at c.digits.invariant.some c.digits.invariant.fits in
    record {
      long = search rules;
      some = some_left _ _ left c.if-rest-eq0.false;
      within = omega arith;
      fits = left;
      so_far = next_digit c.digits.line c.digits.at c.digits.rest c.digit.result _ c.digits.invariant.some (omega arith) c.if-rest-eq0.false c.digit.ensures c.digits.invariant.so_far;
    }
