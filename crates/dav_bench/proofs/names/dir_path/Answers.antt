use Rattle.std.proofs.Common.{◌≡◌, ap, ◌∙◌, arith, rules}
use Rattle.dav_core.specs.Path.{all_plain}
use Rattle.dav_bench.specs.Names.{dir_path}
use Rattle.dav_bench.proofs.Targets.{plain_dir_path}
use Rattle.dav_bench.proofs.names.dir_path.Goals as goal

pub new-requires : goal.new-requires
new-requires c =
    let e : c.in_ok-names.names.items ≡ dir_path c.args.i = search rules in
    ap all_plain e ∙ plain_dir_path c.args.i (omega arith)
