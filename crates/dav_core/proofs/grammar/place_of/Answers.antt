use Rattle.std.proofs.Common.{◌==◌, length, sym, eq-eqb, arith}
use Rattle.std.proofs.lemmas.List.Sums.{position_or_len_is}
use Rattle.dav_core.proofs.grammar.place_of.Goals as goal

pub returns-then-b-byte-clause-first : goal.returns-then-b-byte-clause-first
returns-then-b-byte-clause-first c =
    sym (position_or_len_is (λ b. b == c.args.byte) c.args.text.now c.loop-at.at 0 (omega arith) c.loop-at.invariant (λ l. eq-eqb _ c.args.byte c.if-b-byte.true))

pub returns-clause-first : goal.returns-clause-first
returns-clause-first c =
    sym (position_or_len_is (λ b. b == c.args.byte) c.args.text.now (length c.args.text.now) 0 (omega arith) (λ k l. c.loop-at.invariant k (omega arith)) (λ l. absurd (omega arith)))
