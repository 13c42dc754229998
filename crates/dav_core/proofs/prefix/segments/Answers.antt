use Rattle.std.proofs.Common.{Ok, lit<}
use Rattle.std.specs.declared.alloc.AllocError.{AllocError}
use Rattle.std.proofs.lemmas.Iterator.Consumers.{map_from_collect}
use Rattle.std.proofs.lemmas.Iterator.Splits.{YieldsList-from_str_split}
use Rattle.dav_core.proofs.prefix.segments.Goals as goal

pub returns : goal.returns
returns c =
    map_from_collect {E = AllocError} (Ok c.in_ok-all.all) c.in_ok-all.ensures.ran
    (YieldsList-from_str_split 47 c.args.prefix.now (lit< tt) c.split.ensures.text c.split.ensures.has_more c.split.ensures.pattern)
