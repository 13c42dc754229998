-- Local stores that find each path as it is written.
use Rattle.std.specs.Prelude.{◌&&◌, Bool, not}
use Rattle.std.specs.Option.{is_some}
use Rattle.dav_local.specs.declared.ways.Ways.{Ways}

-- Names don't fold, and the disk's root is served. The rules for macOS may hold.
abbrev pub finds_as_written : Ways → Bool
finds_as_written ways = not (is_some ways.alone) && not ways.folds
