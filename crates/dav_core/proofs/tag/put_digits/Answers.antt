use Rattle.std.proofs.Common.{◌+◌, ◌-◌, ◌++◌, drop, sym, ap, ◌∙◌, arith, rules}
use Rattle.dav_core.proofs.Hex.{few_at_first, first_written, front_short, next_written, one_fewer, some_left}
use Rattle.dav_core.proofs.tag.put_digits.Goals as goal

pub loop-rest-init : goal.loop-rest-init
loop-rest-init c = record {
  whole = search rules;
  some = omega arith;
  fits = omega arith;
  room = omega arith;
  few = few_at_first c.args.end c.args.number (omega arith) (omega arith);
  digits = first_written c.args.end c.args.number c.args.into.now c.digit.result (omega arith) (search rules) (omega arith) c.digit.ensures;
}

pub overflow_sub-at-in-loop-rest : goal.overflow_sub-at-in-loop-rest
overflow_sub-at-in-loop-rest c = omega (arith, some_left (c.loop-rest.at + 16 - c.args.end) c.loop-rest.rest c.loop-rest.invariant.few c.loop-rest-test.true)

pub loop-rest-preserved : goal.loop-rest-preserved
loop-rest-preserved c =
    let left = some_left (c.loop-rest.at + 16 - c.args.end) c.loop-rest.rest c.loop-rest.invariant.few c.loop-rest-test.true in
    record {
      whole = search rules;
      some = omega (arith, c.loop-rest.invariant.some);
      fits = omega (arith, c.loop-rest.invariant.fits);
      room = omega (arith, left);
      few = one_fewer (c.loop-rest.at + 16 - c.args.end) _ c.loop-rest.rest c.loop-rest.invariant.few (omega (arith, left));
      digits = next_written c.loop-rest.at c.loop-rest.rest _ c.loop-rest.into c.digit-in-loop-rest.result (omega (arith, left))
          (omega (arith, c.loop-rest.invariant.whole, c.loop-rest.invariant.some)) c.loop-rest-test.true
          c.loop-rest.invariant.fits c.loop-rest.invariant.digits c.digit-in-loop-rest.ensures;
    }

pub returns-clause-digits : goal.returns-clause-digits
returns-clause-digits c = sym (c.loop-rest.invariant.digits ∙ ap (λ x. x ++ drop c.loop-rest.at c.loop-rest.into) (front_short c.loop-rest.rest c.loop-rest-test.false))
