use Rattle.std.proofs.Common.{◌≡◌, ◌≤◌, ◌+◌, ◌++◌, drop, length, reverse, vec_len, vec_capacity}
use Rattle.dav_fetch.specs.Fetching.{kept_of}
use Rattle.dav_fetch.specs.Keeping.{AreInOrder}
use Rattle.dav_fetch.proofs.keeping.keep_rest.Given as goal

abbrev pub invariant-loop-path : goal.invariant-loop-path
invariant-loop-path l = (l.files.items ++ kept_of (drop l.path-index l.paths) (reverse l.rest.items) ≡ l.fn.files.items ++ kept_of l.paths (reverse l.fn.rest.items))
    × AreInOrder (reverse l.rest.items) × (vec_len l.files + length (drop l.path-index l.paths) ≤ vec_capacity l.files)
