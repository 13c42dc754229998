use Rattle.std.proofs.Common.{◌≡◌, drop}
use Rattle.dav_bench.specs.Counting.{all_counted}
use Rattle.dav_bench.proofs.counting.Counts.count_all.Given as goal

abbrev pub invariant-loop-answer : goal.invariant-loop-answer
invariant-loop-answer l = all_counted l.self (drop l.answer-index l.answers) ≡ all_counted l.initial.self l.answers
