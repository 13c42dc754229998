use Rattle.std.proofs.Common.{◌≡◌, ◌∙◌, rules}
use Rattle.dav_bench.specs.Tree.{length_of, letters}
use Rattle.dav_bench.proofs.Made.{file_fits, file_made, made_then}
use Rattle.dav_bench.proofs.making.add_file.Goals as goal

pub add_file-requires : goal.add_file-requires
add_file-requires c =
    file_fits c.args.m c.args.i c.args.j c.args.disk.now c.in_ok-path.path c.beginning.result c.in_ok-path.ensures c.beginning.ensures c.requires.m c.requires.i c.requires.j c.requires.before

pub returns-clause-made : goal.returns-clause-made
returns-clause-made c =
    let letters_are : c.in_ok-bytes.bytes.items ≡ letters (length_of c.args.i c.args.j) = search rules in
    made_then c.add_file.result (λ told.
    file_made c.args.m c.args.i c.args.j c.args.disk.now c.add_file.new.self c.in_ok-path.path c.beginning.result c.deref.result.now c.in_ok-path.ensures c.beginning.ensures
    (c.deref.ensures.value ∙ letters_are) c.requires.i c.requires.j c.requires.before told) c.add_file.ensures.ok
