-- A refusal that the tree calls for.
use Rattle.std.specs.Prelude.{◌≡◌, ◌≤◌, ◌+◌, ◌&&◌, ℕ, List, [], length, take, drop, min, Bool, true, false, IsTrue, Option, None, Some, IsSome, Result, Ok, Err, IfOk, IfErr, OnErr, IsOk}
use Rattle.std.specs.Result.{IsErrOf}
use Rattle.std.specs.Option.{option_map}
use Rattle.dav_io.specs.Counts.{Rose, one_more}
use Rattle.dav_io.specs.Told.{Both}
use Rattle.dav_core.specs.declared.tree.Row.{Row}
use Rattle.dav_core.specs.declared.tree.Kind.{Kind}
use Rattle.dav_core.specs.declared.handle.Meta.{Meta}
use Rattle.dav_core.specs.declared.handle.Handle.{Handle}
use Rattle.dav_core.specs.declared.handle.OpenOptions.{OpenOptions}
use Rattle.dav_core.specs.declared.handle.DiskError.{DiskError}
use Rattle.dav_core.specs.declared.handle.DiskError.TheVariants.{NotFound, Exists, NotDir, IsDir, NotEmpty, Failed, NoMemory}
use Rattle.dav_core.specs.Path.{Names}
use Rattle.dav_core.specs.Tree.{look, is_linked, is_file}
use Rattle.dav_core.specs.World.{World, OpenFile, put, bytes_of, time_of}
use Rattle.dav_core.specs.Changes.{turned}
use Rattle.dav_core.specs.Disk.{Live, DiskState, Asks, Refused, IsMetaOf, MetaIn, MayRefuseMeta, Metas, at_start, with_opens, OpenedIn, kind_at, kind_opened, LiveAfterOpen, MayRefuseOpen, Opens, FileMetaIn, FileMetas, placed, SoughtIn, Seeks, rest_of, ReadIn, can_read, MayRefuseRead, Reads, ClosedIn, Closes, TurnedIn, Turns}

-- a refusal that the tree calls for
pub refused_of : {T : Type 0} (e : DiskError) (found : Result T DiskError) → found ≡ Err e → Refused e found
refused_of NotFound found h = h
refused_of Exists found h = h
refused_of NotDir found h = h
refused_of IsDir found h = h
refused_of NotEmpty found h = h
refused_of Failed found h = tt
refused_of NoMemory found h = tt
