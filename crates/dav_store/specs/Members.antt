-- What a walk over a listing was answered, and what a store's listing shows of a directory.
use Rattle.std.specs.Prelude.{◌≡◌, ◌≢◌, ◌≤◌, ◌⊎◌, ℕ, List, [], ◌∷◌, ◌++◌, length, true, Option, None, Some, Result, Ok, Err}
use Rattle.std.specs.List.{AllZip, flat_map}
use Rattle.std.specs.List.Sorted.{IsPermutation}
use Rattle.dav_io.specs.Counts.{Rose}
use Rattle.dav_core.specs.declared.error.FsError.{FsError}
use Rattle.dav_core.specs.declared.error.FsError.TheVariants.{NoMemory}
use Rattle.dav_core.specs.declared.member.Member.{Member}
use Rattle.dav_core.specs.DavPath.{WebPath}
use Rattle.dav_core.specs.Disk.{DiskState}
use Rattle.dav_core.specs.Info.{Info}
use Rattle.dav_core.specs.Path.{is_plain}
use Rattle.dav_core.specs.Unchanged.{Keeps}
use Rattle.dav_store.specs.declared.entry.ReadDirMeta.TheVariants.{Data}
use Rattle.dav_store.specs.Files.{Spoiled}
use Rattle.dav_store.specs.Leads.{ListedOn}
use Rattle.dav_store.specs.Shows.{Looked}
use Rattle.dav_store.specs.View.{View, Listings}

-- an entry of a listing: its name, and what was answered for its metadata
pub record Answered : Type 0 where
  pub name : List ℕ
  pub meta : Result Info FsError

-- the member that metadata tells of
abbrev pub member_said : List ℕ → Info → Member
member_said name info = record { name = name; kind = info.kind; len = info.len; modified = info.modified }

-- An entry whose metadata was refused tells of no member.
abbrev pub told_of : List ℕ → Result Info FsError → List Member
told_of name (Ok info) = member_said name info ∷ []
told_of name (Err e) = []

abbrev pub members_told : List Answered → List Member
members_told answers = flat_map (λ a. told_of a.name a.meta) answers

abbrev pub IsNamedPlain : Member → Type 0
IsNamedPlain m = is_plain m.name ≡ true

-- The metadata is that of a member, or a fault was met since the count was `from`.
abbrev pub SaysOrRose : ℕ → ℕ → Member → Result Info FsError → Type 0
SaysOrRose from now m (Ok info) = (info.kind ≡ m.kind) × (info.len ≡ m.len) × (info.modified ≡ m.modified)
SaysOrRose from now m (Err e) = Rose from now

-- What was answered of an entry is right for a member.
pub record IsAnswerOf (from now : ℕ) (a : Answered) (m : Member) : Type 0 where
  pub name : a.name ≡ m.name
  pub says : SaysOrRose from now m a.meta

-- The entries are of some of the members, each once.
pub record AreOf (all : List Member) (from now : ℕ) (answers : List Answered) : Type 0 where
  pub given : List Member
  pub rest : List Member
  pub once : IsPermutation all (given ++ rest)
  pub each : AllZip (IsAnswerOf from now) answers given

-- what a listing is begun with, or its refusal
abbrev pub BeginsThere : {L : Type 0} → Result (List Member) FsError → Result L FsError → Type 0
BeginsThere (Ok all) (Ok l) = Unit {0}
BeginsThere (Ok all) (Err e) = ⊥
BeginsThere (Err e) (Ok l) = ⊥
BeginsThere (Err e) (Err f) = f ≡ e

-- a walk stops at the listing's end, or at a fault
abbrev pub Stops : {E : Type 0} → Result (Option E) FsError → Type 0
Stops (Ok None) = Unit {0}
Stops (Ok (Some entry)) = ⊥
Stops (Err e) = e ≢ NoMemory

-- Members that were read where a store shows these, or a refusal. Members are missing only where the count rose.
abbrev pub ReadsThere : Result (List Member) FsError → ℕ → List Member → ℕ → Type 0
ReadsThere (Ok all) from members now = (missing : List Member) × IsPermutation all (members ++ missing)
    × ((missing ≡ []) ⊎ Rose from now)
ReadsThere (Err e) from members now = ⊥

abbrev pub RefusesThere : Result (List Member) FsError → DiskState → FsError → DiskState → Type 0
RefusesThere (Ok all) s e t = Spoiled {T = List Member} s (Err e) t
RefusesThere (Err f) s e t = (e ≡ f) ⊎ Spoiled {T = List Member} s (Err e) t

module _ {S C F L E : Type 0} (view : View S C F) (lists : Listings S C L E) where
  -- From a listing that was begun a walk leads here. Each entry was asked for its metadata, on the disk inside.
  pub data Walked (s : S) (l : L) : List Answered → S → L → Type 0 where
    begun : Walked s l [] s l
    goes : (answers : List Answered) (m n o : S) (k j : L) (e : E) (r : Result Info FsError) → Walked s l answers m k
        → lists.lists_on m k (Ok (Some e)) n j → lists.says e (view.state n) r (view.state o) → view.lends n o
        → Keeps (view.state n) (view.state o)
        → Walked s l (answers ++ record { name = lists.called e; meta = r } ∷ []) o j

  -- A listing was asked on to its end, whatever it gave on the way.
  abbrev pub ReadOut : S → L → S → L → Type 0
  ReadOut s l t over = (m : S) × (k : L) × ListedOn view lists s l m k × lists.lists_on m k (Ok None) t over

  -- Behind a fault a listing is asked on to its end, as a store ends there what it gathers.
  abbrev pub RunsOut : Result (Option E) FsError → S → L → S → L → Type 0
  RunsOut (Ok None) s l t over = (t ≡ s) × (over ≡ l)
  RunsOut (Ok (Some entry)) s l t over = ⊥
  RunsOut (Err e) s l t over = ReadOut s l t over

  -- A walk went as far as it goes, and was told of these members.
  pub record WalksOut (s : S) (l : L) (members : List Member) (t : S) (over : L) : Type 0 where
    pub answers : List Answered
    pub place : S
    pub left : L
    pub walk : Walked s l answers place left
    pub last : Result (Option E) FsError
    pub stops : Stops last
    pub behind : S
    pub rest : L
    pub ends : lists.lists_on place left last behind rest
    pub runs_out : RunsOut last behind rest t over
    pub told : members ≡ members_told answers
    -- no count of faults fell
    pub from : (view.state s).faults ≤ (view.state place).faults
    pub on : (view.state place).faults ≤ (view.state behind).faults
    pub out : (view.state behind).faults ≤ (view.state t).faults

  -- The directory at a path was listed, the walk told of these members, and the listing was ended.
  pub record WasListed (s : S) (c : C) (path : WebPath) (members : List Member) (t : S) : Type 0 where
    pub begin : S
    pub listing : L
    pub begins : lists.lists s c path Data (Ok listing) begin
    pub after : S
    pub over : L
    pub walks : WalksOut begin listing members after over
    pub ended : lists.ends_list after over t

  -- None comes where all were given, and an error of want of memory, or of a fault that was met since the count of the
  -- first store: a store may read ahead, and tell a fault later.
  abbrev pub EndsThere : List Member → List Answered → Result (Option E) FsError → S → S → Type 0
  EndsThere all answers (Ok None) s t = length answers ≡ length all
  EndsThere all answers (Ok (Some entry)) s t = Unit {0}
  EndsThere all answers (Err e) s t = Spoiled {T = Option E} (view.state s) (Err e) (view.state t)

  -- The store shows these members of the directory at a path, now and after looks.
  pub record ShowsMembers (s : S) (c : C) (path : WebPath) (found : Result (List Member) FsError) : Type 0 where
    pub begins : (m n : S) (r : Result L FsError) → Looked view s c m → lists.lists m c path Data r n
        → BeginsThere found r ⊎ Spoiled (view.state m) r (view.state n)
    pub walks : (all : List Member) → found ≡ Ok all → (m n o : S) (l k : L) (answers : List Answered)
        → Looked view s c m → lists.lists m c path Data (Ok l) n
        → Walked n l answers o k → AreOf all (view.state m).faults (view.state o).faults answers
    pub ends : (all : List Member) → found ≡ Ok all → (m n o p : S) (l k j : L) (answers : List Answered)
        (r : Result (Option E) FsError) → Looked view s c m
        → lists.lists m c path Data (Ok l) n → Walked n l answers o k → lists.lists_on o k r p j
        → EndsThere all answers r m p
