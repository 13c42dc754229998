use Rattle.dav_bench.proofs.Formula.{bytes_formula}
use Rattle.dav_bench.proofs.laws.bytes_in_one_formula.Goals as goal

pub returns : goal.returns
returns c = bytes_formula
