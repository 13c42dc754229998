use Rattle.std.proofs.Common.{◌==◌, length, sym, eq-eqb, arith}
use Rattle.std.proofs.lemmas.List.Sums.{position_or_len_is}
use Rattle.dav_methods.proofs.destination.query_at.Goals as goal

pub returns-then-b-eq63-clause-first : goal.returns-then-b-eq63-clause-first
returns-then-b-eq63-clause-first c =
    sym (position_or_len_is (λ b. b == 63) c.args.text.now c.loop-at.at 0 (omega arith) c.loop-at.invariant (λ l. eq-eqb _ 63 c.if-b-eq63.true))

pub returns-clause-first : goal.returns-clause-first
returns-clause-first c =
    sym (position_or_len_is (λ b. b == 63) c.args.text.now (length c.args.text.now) 0 (omega arith) (λ k l. c.loop-at.invariant k (omega arith)) (λ l. absurd (omega arith)))
