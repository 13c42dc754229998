use Rattle.std.proofs.Common.{◌≡◌, ap, ◌∙◌, arith, rules}
use Rattle.dav_core.specs.Path.{all_plain}
use Rattle.dav_bench.specs.Names.{file_path}
use Rattle.dav_bench.proofs.Targets.{plain_file_path}
use Rattle.dav_bench.proofs.names.file_path.Goals as goal

pub new-requires : goal.new-requires
new-requires c =
    let e : c.in_ok-names.names.items ≡ file_path c.args.i c.args.j = search rules in
    ap all_plain e ∙ plain_file_path c.args.i c.args.j (omega arith) (omega arith)
