-- What a local store answers, by what its disk and its memory answer: one call of the disk at the place where a path is
-- found.
use Rattle.std.specs.Prelude.{◌≡◌, ◌&&◌, ◌||◌, Bool, true, false, Result, Ok, Err, IfOk, OnErr, ◌⊎◌, ◌∷◌, [], codes}
use Rattle.dav_io.specs.declared.failure.NoMemory.{NoMemory}
use Rattle.dav_core.specs.declared.error.FsError.{FsError}
use Rattle.dav_core.specs.declared.error.FsError.TheVariants as fs
use Rattle.dav_core.specs.declared.error.FsError.TheVariants.{Forbidden, NotFound}
use Rattle.dav_core.specs.declared.handle.DiskError.{DiskError}
use Rattle.dav_core.specs.declared.handle.DiskError.TheVariants as disk
use Rattle.dav_core.specs.declared.handle.DiskError.TheVariants.{Failed, NotDir}
use Rattle.dav_core.specs.declared.handle.Meta.{Meta}
use Rattle.dav_core.specs.declared.handle.OpenOptions.{OpenOptions}
use Rattle.dav_core.specs.DavPath.{WebPath, last_name}
use Rattle.dav_core.specs.Disk.{DiskState, Metas, MetasBy, Opens}
use Rattle.dav_core.specs.Errors.{fs_error_of}
use Rattle.dav_core.specs.Info.{Info}
use Rattle.dav_core.specs.Listing.{or_empty}
use Rattle.dav_core.specs.Path.{Names, parent_of}
use Rattle.dav_core.specs.Tree.{is_dir}
use Rattle.dav_core.specs.Writing.{Copies, CreatesDir, RemovesDir, RemovesFile, Renames}
use Rattle.dav_store.specs.declared.entry.ReadDirMeta.{ReadDirMeta}
use Rattle.dav_store.specs.Void.{empty_info}
use Rattle.dav_memory.specs.Memory.{Negates}
use Rattle.dav_model.specs.Finding.{has_slash, is_forbidden, is_localized, is_virtual}
use Rattle.dav_model.specs.Folds.{Name, is_dot}
use Rattle.dav_local.specs.declared.file.LocalFsFile.{LocalFsFile}
use Rattle.dav_local.specs.Files.{done_by, filed, looked_as}
use Rattle.dav_local.specs.Gathering.{BeginsDir, LocalFsReadDir, gathers}
pub use Rattle.dav_local.specs.Places.{Place, Stays, place_of}
use Rattle.dav_local.specs.Resolving.{Resolves}
use Rattle.dav_local.specs.Ways.{Ways, rules_of}

-- refused, with nothing asked
abbrev pub Refuses : {T : Type 0} → FsError → Place → Result T FsError → Place → Type 0
Refuses e p result q = (result ≡ Err e) × (q ≡ p)

-- A call that is forbidden is refused, with nothing asked.
pub record Unless {T : Type 0} (shut : Bool) (p : Place) (call : Place → Result T FsError → Place → Type 0)
    (result : Result T FsError) (q : Place) : Type 0 where
  pub forbidden : shut ≡ true → Refuses Forbidden p result q
  pub asked : shut ≡ false → call p result q

-- What follows where a path was found. Where it was not, that is the answer.
abbrev pub AfterFound : {T : Type 0} → Result Names FsError → Place
    → (Names → Place → Result T FsError → Place → Type 0) → Result T FsError → Place → Type 0
AfterFound (Err e) m call result q = (result ≡ Err e) × (q ≡ m)
AfterFound (Ok at) m call result q = call at m result q

-- A path is found, and a call follows at the place found.
abbrev pub Finds : {T : Type 0} → Place → Names → (Names → Place → Result T FsError → Place → Type 0)
    → Result T FsError → Place → Type 0
Finds p names call result q = (found : Result Names FsError) × (m : Place) × Resolves p names found m
    × AfterFound found m call result q

-- one call of the disk, and what is answered by what it answers
abbrev pub Asks : {A T : Type 0} → (DiskState → Result A DiskError → DiskState → Type 0)
    → (Result A DiskError → Result T FsError) → Place → Result T FsError → Place → Type 0
Asks call says p result q = (answer : Result _ DiskError) × (t : DiskState) × call p.disk answer t
    × (result ≡ says answer) × (q ≡ record p { disk = t })

-- ---- whether a path is called absent

-- with the rules for macOS the memory is asked of a last name that begins with `._`
abbrev pub asks_memory : Ways → Names → Bool
asks_memory ways at = ways.macos && is_dot (or_empty (last_name at))

-- With these rules a last name `.localized` is absent, and one that begins with `._` where the memory says so.
pub record TellsAbsent (p : Place) (at : Names) (result : Result Bool NoMemory) (q : Place) : Type 0 where
  pub ways : q.ways ≡ p.ways
  pub plain : asks_memory p.ways at ≡ false → (q ≡ p) × (result ≡ Ok (p.ways.macos && is_localized at))
  pub dots : asks_memory p.ways at ≡ true
      → IfOk result (λ absent. Negates p.memory (parent_of at) (or_empty (last_name at)) p.disk absent q.memory q.disk)
  pub starved : OnErr result (q ≡ p)

-- ---- looks

abbrev pub AfterAbsent : Result Bool NoMemory → Bool → Bool → Names → Place → Result Info FsError → Place → Type 0
AfterAbsent (Err e) follows slash at p result q = Refuses fs.NoMemory p result q
AfterAbsent (Ok true) follows slash at p result q = Refuses NotFound p result q
AfterAbsent (Ok false) follows slash at p result q = Asks (λ s answer t. MetasBy follows s at answer t)
    (looked_as slash) p result q

-- a look at the place found, where `follows` says so with a link followed
abbrev pub LooksAt : Bool → Bool → Names → Place → Result Info FsError → Place → Type 0
LooksAt follows slash at p result q = (absent : Result Bool NoMemory) × (m : Place) × TellsAbsent p at absent m
    × AfterAbsent absent follows slash at m result q

-- The two files that clients of macOS look for are empty, and nothing is asked.
pub record Looks (follows : Bool) (p : Place) (path : WebPath) (result : Result Info FsError) (q : Place) : Type 0 where
  pub empty : is_virtual (rules_of p.ways) path ≡ true → (result ≡ Ok empty_info) × (q ≡ p)
  pub asked : is_virtual (rules_of p.ways) path ≡ false
      → Finds p path.names (LooksAt follows (has_slash p.ways.alone path)) result q

-- ---- the other calls

-- what is opened or removed at the path is forbidden
abbrev pub is_shut : Ways → WebPath → Bool
is_shut ways path = is_forbidden (rules_of ways) path || has_slash ways.alone path

abbrev pub IsOpening : Place → WebPath → OpenOptions → Result LocalFsFile FsError → Place → Type 0
IsOpening p path how result q = Unless (is_shut p.ways path) p
    (λ p. Finds p path.names (λ at. Asks (λ s answer t. Opens s at how answer t) filed)) result q

abbrev pub BeginsAt : ReadDirMeta → Names → Place → Result LocalFsReadDir FsError → Place → Type 0
BeginsAt wanted at p result q = (t : DiskState) × BeginsDir (gathers p.ways.macos wanted) at wanted p.disk result t
    × (q ≡ record p { disk = t })

abbrev pub AsksToMake : Place → WebPath → Result Unit FsError → Place → Type 0
AsksToMake p path result q = Unless (is_forbidden (rules_of p.ways) path) p
    (λ p. Finds p path.names (λ at. Asks (λ s answer t. CreatesDir s at answer t) done_by)) result q

abbrev pub AsksToTakeDir : Place → WebPath → Result Unit FsError → Place → Type 0
AsksToTakeDir p path result q = Finds p path.names
    (λ at. Asks (λ s answer t. RemovesDir s at answer t) done_by) result q

abbrev pub AsksToTakeFile : Place → WebPath → Result Unit FsError → Place → Type 0
AsksToTakeFile p path result q = Unless (is_shut p.ways path) p
    (λ p. Finds p path.names (λ at. Asks (λ s answer t. RemovesFile s at answer t) done_by)) result q

-- two paths are found, one after the other, and a call follows at both places
abbrev pub FindsBoth : Place → WebPath → WebPath → (Names → Names → Place → Result Unit FsError → Place → Type 0)
    → Result Unit FsError → Place → Type 0
FindsBoth p from to call result q = Unless (is_forbidden (rules_of p.ways) from || is_forbidden (rules_of p.ways) to) p
    (λ p. Finds p from.names (λ at m. Finds m to.names (call at))) result q

abbrev pub AsksToCopy : Place → WebPath → WebPath → Result Unit FsError → Place → Type 0
AsksToCopy p from to result q = FindsBoth p from to
    (λ at into. Asks (λ s answer t. Copies s at into answer t) done_by) result q

-- A move that was refused since something is no directory is forbidden, unless the call behind it, that was to help, met
-- a fault or want of memory.
abbrev pub blocked_by : DiskError → FsError
blocked_by Failed = fs.GeneralFailure
blocked_by disk.NoMemory = fs.NoMemory
blocked_by e = Forbidden

-- A second move is answered as the disk does; where it was refused as the first since the file still stands, its removal
-- says why.
abbrev pub again_by : Result Unit DiskError → Result Unit DiskError → Result Unit FsError
again_by (Err e) (Err NotDir) = Err (blocked_by e)
again_by removal again = done_by again

-- Where a directory was to take a file's place, the file is removed, and the move is made again whatever the removal
-- answered.
abbrev pub MovesAgain : Bool → Names → Names → DiskState → Result Unit FsError → DiskState → Type 0
MovesAgain false at into s result t = (result ≡ Err Forbidden) × (t ≡ s)
MovesAgain true at into s result t = (removal : Result Unit DiskError) × (m : DiskState) × RemovesFile s into removal m
    × (again : Result Unit DiskError) × Renames m at into again t × (result ≡ again_by removal again)

-- by what a look at its source found
abbrev pub AfterNotDir : Result Meta DiskError → Names → Names → DiskState → Result Unit FsError → DiskState → Type 0
AfterNotDir (Ok m) at into s result t = MovesAgain (is_dir m.kind) at into s result t
AfterNotDir (Err e) at into s result t = (result ≡ Err (blocked_by e)) × (t ≡ s)

abbrev pub AfterMove : Result Unit DiskError → Names → Names → DiskState → Result Unit FsError → DiskState → Type 0
AfterMove (Err NotDir) at into s result t = (look : Result Meta DiskError) × (m : DiskState) × Metas s at look m
    × AfterNotDir look at into m result t
AfterMove answer at into s result t = (result ≡ done_by answer) × (t ≡ s)

abbrev pub MovesAt : Names → Names → Place → Result Unit FsError → Place → Type 0
MovesAt at into p result q = (answer : Result Unit DiskError) × (m : DiskState) × Renames p.disk at into answer m
    × (t : DiskState) × AfterMove answer at into m result t × (q ≡ record p { disk = t })

abbrev pub AsksToMove : Place → WebPath → WebPath → Result Unit FsError → Place → Type 0
AsksToMove p from to result q = FindsBoth p from to MovesAt result q

-- ---- the directories that a store has from its start

-- A directory is made where nothing stands.
abbrev pub AfterMissing : Result Meta DiskError → Names → DiskState → Result Unit FsError → DiskState → Type 0
AfterMissing (Ok m) at s result t = (result ≡ Ok tt) × (t ≡ s)
AfterMissing (Err disk.NotFound) at s result t = (answer : Result Unit DiskError) × CreatesDir s at answer t
    × (result ≡ done_by answer)
AfterMissing (Err e) at s result t = (result ≡ Err (fs_error_of e)) × (t ≡ s)

abbrev pub MakesMissing : Names → DiskState → Result Unit FsError → DiskState → Type 0
MakesMissing at s result t = (answer : Result Meta DiskError) × (m : DiskState) × Metas s at answer m
    × AfterMissing answer at m result t

abbrev pub MakesMissingAt : Names → Place → Result Unit FsError → Place → Type 0
MakesMissingAt at p result q = (t : DiskState) × MakesMissing at p.disk result t × (q ≡ record p { disk = t })

-- a directory of this name in the root, where memory for its path was had
abbrev pub MakesOne : Name → Place → Result Unit FsError → Place → Type 0
MakesOne name p result q = Refuses fs.NoMemory p result q ⊎ Finds p (name ∷ []) MakesMissingAt result q

abbrev pub AfterFirst : Result Unit FsError → Place → Result Unit FsError → Place → Type 0
AfterFirst (Err e) p result q = (result ≡ Err e) × (q ≡ p)
AfterFirst (Ok x) p result q = MakesOne (codes "addressbooks") p result q

abbrev pub MakesDefaults : Place → Result Unit FsError → Place → Type 0
MakesDefaults p result q = (first : Result Unit FsError) × (m : Place) × MakesOne (codes "calendars") p first m
    × AfterFirst first m result q
