-- What a local store shows of a world, by where a path is found in its tree and whether the memory calls it absent.
use Rattle.std.specs.Prelude.{◌≡◌, ◌⊎◌, ◌&&◌, ◌||◌, ℕ, List, [], length, Option, Some, option_map, Bool, true, false, cond, None, Result, Ok, Err}
use Rattle.std.specs.Map.{lookup}
use Rattle.dav_core.specs.declared.error.FsError.{FsError}
use Rattle.dav_core.specs.declared.error.FsError.TheVariants as fs
use Rattle.dav_core.specs.declared.error.FsError.TheVariants.{Forbidden, NotFound}
use Rattle.dav_core.specs.declared.member.Member.{Member}
use Rattle.dav_io.specs.Counts.{Rose}
use Rattle.dav_core.specs.declared.tree.Kind.TheVariants.{File}
use Rattle.dav_core.specs.DavPath.{WebPath}
use Rattle.dav_core.specs.Disk.{DiskState}
use Rattle.dav_core.specs.Info.{Info}
use Rattle.dav_core.specs.Path.{Names, same_names}
use Rattle.dav_core.specs.Tree.{is_linked, look}
use Rattle.dav_core.specs.World.{World}
use Rattle.dav_store.specs.Files.{Spoiled}
use Rattle.dav_store.specs.Members.{Answered, BeginsThere}
use Rattle.dav_store.specs.Shows.{LooksThere, OpensThere}
use Rattle.dav_store.specs.Standing.{Standing}
use Rattle.dav_store.specs.Void.{empty_info}
use Rattle.dav_memory.specs.declared.entry.PathEntry.{PathEntry}
use Rattle.dav_memory.specs.Entries.{PathCache}
use Rattle.dav_memory.specs.Memory.{MemoryState}
use Rattle.dav_memory.specs.Trees.{same_path}
use Rattle.dav_model.specs.Finding.{Denies, EndsLoosely, Finding, has_slash, is_clear, is_localized, is_virtual, listed_in, looked_at, opened_at, resolved}
use Rattle.dav_model.specs.Folds.{fold_path}
use Rattle.dav_model.specs.Head.{Stood}
use Rattle.dav_model.specs.Rules.{Knowledge, Rules}
use Rattle.dav_model.specs.Shown.{Shown}
use Rattle.dav_local.specs.declared.entry.LocalFsDirEntry.{LocalFsDirEntry}
use Rattle.dav_local.specs.declared.file.LocalFsFile.{LocalFsFile}
use Rattle.dav_local.specs.Calls.{is_shut}
use Rattle.dav_local.specs.Files.{seen_by}
use Rattle.dav_local.specs.Gathering.{LocalFsReadDir}
use Rattle.dav_local.specs.Standing.{found}
use Rattle.dav_local.specs.Ways.{Ways, rules_of}

-- the place that the cache has for a path
abbrev pub place_in : PathCache → Names → Option Names
place_in cache names = option_map (λ (e : PathEntry). e.path) (lookup (same_path (fold_path names)) cache.entries)

-- what the memory knows, as the rules see it
abbrev pub knowledge_of : MemoryState → Knowledge
knowledge_of memory = record {
  names = memory.knows;
  is_open = memory.is_open;
  places = option_map (λ c. place_in c) memory.paths;
}

-- the empty file that clients of macOS look for
abbrev pub empty_standing : Standing
empty_standing = record {
  number = 0;
  kind = File;
  len = 0;
  modified = empty_info.modified;
  tag = None;
  bytes = [];
  redirect = None;
}

-- what a look finds for a path that is found at `end`
abbrev pub looked_by : Ways → World → Names → Bool → WebPath → Result Standing FsError
looked_by ways w end denies path = cond (is_virtual (rules_of ways) path) (Ok empty_standing)
    (cond ((ways.macos && is_localized end) || denies) (Err NotFound)
    (found w (has_slash ways.alone path) (look w.tree end)))

-- what is opened for reading
abbrev pub opened_by : Ways → World → Names → WebPath → Result Standing FsError
opened_by ways w end path = cond (is_shut ways path) (Err Forbidden) (found w false (look w.tree end))

-- A look over a told world: a loose walk of the path ends at a place, and where no link stands on the way it answers
-- what stands there by the rules, or was spoiled by a fault or want of memory.
pub record LooksByRules (ways : Ways) (k : Knowledge) (w : World) (path : WebPath) (s : DiskState)
    (result : Result Info FsError) (t : DiskState) : Type 0 where
  pub end : Names
  pub loosely : EndsLoosely ways.alone ways.folds w.tree path.names end
  pub denies : Bool
  pub denied : denies ≡ true → (ways.macos ≡ true) × Denies k w.tree end
  pub shows : is_linked w.tree end ≡ false → LooksThere (looked_by ways w end denies path) result ⊎ Spoiled s result t

-- an opening for reading likewise
pub record OpensByRules (ways : Ways) (w : World) (path : WebPath) (s : DiskState)
    (result : Result LocalFsFile FsError) (t : DiskState) : Type 0 where
  pub end : Names
  pub loosely : EndsLoosely ways.alone ways.folds w.tree path.names end
  pub shows : is_linked w.tree end ≡ false → OpensThere seen_by (opened_by ways w end path) result t
      ⊎ Spoiled s result t

-- ---- the same by the definitions of the rules

-- paths that are found at one place
abbrev pub found_at : Names → Bool → Finding
found_at end denies = record {
  looks = λ names. end;
  opens = λ names. end;
  lists = λ names. end;
  denies = λ path. denies;
}

abbrev pub stood_of : Standing → Stood
stood_of there = record {
  kind = there.kind;
  number = there.number;
  len = there.len;
  modified = there.modified;
  tag = there.tag;
  address = there.redirect;
}

abbrev pub as_stood : Result Standing FsError → Result Stood FsError
as_stood (Ok there) = Ok (stood_of there)
as_stood (Err e) = Err e

-- one path is found at a place, and the others where the rules find them
abbrev pub one_found : Rules → World → Names × Names → Names → Names
one_found rules w at path = cond (same_names path at.0) at.1 (resolved rules w.tree path)

-- A path was looked at, one was opened and one was listed, and each was found at a place.
abbrev pub finding_of : Rules → World → Names × Names → Names × Names → Names × Names → Bool → Finding
finding_of rules w looked opened listed denies = record {
  looks = one_found rules w looked;
  opens = one_found rules w opened;
  lists = one_found rules w listed;
  denies = λ path. denies && same_names path looked.1;
}

-- A listing that is begun likewise: of a directory that stands where the path is found.
pub record ListsByRules (ways : Ways) (w : World) (path : WebPath) (s : DiskState)
    (result : Result LocalFsReadDir FsError) (t : DiskState) : Type 0 where
  pub end : Names
  pub loosely : EndsLoosely ways.alone ways.folds w.tree path.names end
  pub shows : is_linked w.tree end ≡ false → BeginsThere (listed_in w end) result ⊎ Spoiled s result t
  pub at_end : (d : LocalFsReadDir) → result ≡ Ok d → is_linked w.tree end ≡ false → d.reading.path ≡ end

-- ---- walks over listings

-- why a listing answers an error: want of memory, or a fault that was met since it was begun
abbrev pub WhyRefused : ℕ → ℕ → FsError → Type 0
WhyRefused from now e = (e ≡ fs.NoMemory) ⊎ ((e ≡ fs.GeneralFailure) × Rose from now)

-- what stands behind the last entry
abbrev pub EndsBy : ℕ → List Member → List Answered → Result (Option LocalFsDirEntry) FsError → ℕ → Type 0
EndsBy from all answers (Ok None) now = length answers ≡ length all
EndsBy from all answers (Ok (Some entry)) now = Unit {0}
EndsBy from all answers (Err e) now = WhyRefused from now e

-- ---- one store that shows all of it

-- By a finding what the rules show, and where a link is met what was heard.
abbrev pub shown_where : Rules → World → Finding → Result Stood FsError → Result Stood FsError
    → Result (List Member) FsError → Shown
shown_where rules w f looked opened listed = record {
  looked = λ path. cond (is_linked w.tree (f.looks path.names)) looked (looked_at rules w f path);
  opened = λ path. cond (is_linked w.tree (f.opens path.names)) opened (opened_at rules w f path);
  listed = λ path. cond (is_clear w.tree (f.lists path.names)) (listed_in w (f.lists path.names)) listed;
}
