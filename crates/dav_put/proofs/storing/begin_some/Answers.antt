use Rattle.std.proofs.Common.{◌∙◌, arith, sym}
use Rattle.dav_put.specs.Storing.Tried.{none}
use Rattle.dav_put.proofs.TokensTried.{never_busy, one_more_busy}
use Rattle.dav_put.proofs.storing.begin_some.Goals as goal

pub tokens-init : goal.tokens-init
tokens-init g c = record { tried = none; token = omega (arith, c.ranges.first) }

pub tokens-preserved : goal.tokens-preserved
tokens-preserved g c = record {
  tried = one_more_busy g.S.GuardedFileSystem.view g.S.File.DavFile.view.writes _ _ _ _ _ _ _ _ c.tokens.invariant.tried c.tokens.invariant.token (sym c.is_busy.ensures ∙ c.if-not-is_busy.false) c.in-Err.ensures.table;
  token = omega (arith, c.tokens.invariant.token);
}

pub returns-in-Ok-clause-begins : goal.returns-in-Ok-clause-begins
returns-in-Ok-clause-begins g c = record {
  tries = c.tokens._tries;
  few = omega arith;
  middle = c.tokens.fs;
  tried = c.tokens.invariant.tried;
  begins = rw c.tokens.invariant.token at c.in-Ok.ensures.table;
  last = λ name e. cc;
}

pub returns-then-not-is_busy-clause-begins : goal.returns-then-not-is_busy-clause-begins
returns-then-not-is_busy-clause-begins g c = record {
  tries = c.tokens._tries;
  few = omega arith;
  middle = c.tokens.fs;
  tried = c.tokens.invariant.tried;
  begins = rw c.tokens.invariant.token at c.in-Err.ensures.table;
  last = λ name e. never_busy _ c.tokens._tries _ (sym c.is_busy.ensures ∙ c.if-not-is_busy.true) name e;
}

pub returns-clause-begins : goal.returns-clause-begins
returns-clause-begins g c = record {
  tries = c.tokens._tries;
  few = omega arith;
  middle = c.tokens.fs;
  tried = c.tokens.invariant.tried;
  begins = rw c.tokens.invariant.token at c.begin-last.ensures.table;
  last = λ name e. omega arith;
}
