use Rattle.std.proofs.Common.{rules, ap, drop, take, length, min, List, ℕ, ◌∙◌}
use Rattle.dav_disk.specs.Files.{open_of}
use Rattle.dav_disk.proofs.Opened.{at_map}
use Rattle.dav_disk.proofs.memory.Memory.read.Goals as goal

pub returns : goal.returns
returns c =
    let rest = ap (drop c.open_file-opened.result.place) c.bytes_at.ensures in (
      open_of c.open_file-opened.result,
      at_map open_of _ _ c.open_file-opened.ensures,
      search rules,
      c.copy_from-count.ensures.count ∙ ap (λ (r : List ℕ). min c.args.most (min (length c.copy_from-count.new.into) (length r))) rest,
      c.copy_from-count.ensures.copied ∙ ap (take c.copy_from-count.result) rest,
      c.move_open.ensures,
    )
