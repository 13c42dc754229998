-- What a listing of the machine gives, entry by entry: names that a disk tells, and names that can't be told.
use Rattle.std.specs.Prelude.{◌≡◌, ◌⊎◌, ◌-◌, ◌^◌, ℕ, zero, suc, List, Bool, true, false, cond, Option, None, Some, Result, Ok, Err}
use Rattle.std.specs.Fs.{dir_entry_name}
use Rattle.std.specs.IoError.{error_kind}
use Rattle.std.specs.declared.fs.dir.DirEntry.{DirEntry}
use Rattle.std.specs.declared.io.Error.{Error}
use Rattle.std.specs.declared.io.ErrorKind.{ErrorKind}
use Rattle.std.specs.declared.io.ErrorKind.TheVariants as kind
use Rattle.dav_core.specs.declared.handle.DiskError.{DiskError}
use Rattle.dav_core.specs.declared.handle.DiskError.TheVariants.{NoMemory, Failed}
use Rattle.dav_core.specs.Path.{is_plain}

-- an entry as the machine gives it
abbrev pub Entry : (R A F D : Type 0) → Type 0
Entry R A F D = Result (DirEntry R A F D) Error

-- what a listing answers for its next name
abbrev pub Answer : Type 0
Answer = Result (Option (List ℕ)) DiskError

-- what a name comes to, by whether it is plain
abbrev pub NameSays : Bool → List ℕ → Answer → Type 0
NameSays true name result = (result ≡ Ok (Some name)) ⊎ (result ≡ Err NoMemory)
NameSays false name result = result ≡ Ok None

-- what an error in place of an entry comes to
abbrev pub error_said : ErrorKind → Answer
error_said kind.InvalidFilename = Ok None
error_said kind.OutOfMemory = Err NoMemory
error_said _ = Err Failed

-- What an entry comes to: its name, none where that can't be told, since it isn't UTF-8 or not plain, or a refusal.
abbrev pub Says : {R A F D : Type 0} → Entry R A F D → Answer → Type 0
Says (Ok entry) result = NameSays (is_plain (dir_entry_name entry)) (dir_entry_name entry) result
Says (Err error) result = result ≡ error_said (error_kind error)

-- n entries came whose names can't be told.
abbrev pub Passes : {R A F D S : Type 0} → (S → Option (Entry R A F D) → S → Type 0) → ℕ → S → S → Type 0
Passes gives zero s t = s ≡ t
Passes {R} {A} {F} {D} {S} gives (suc n) s t = (u : S) × (entry : Entry R A F D) × Passes gives n s u × gives u (Some entry) t × Says entry (Ok None)

-- whether names were missed, where n more are
abbrev pub has_missed : Bool → ℕ → Bool
has_missed missed zero = missed
has_missed missed (suc n) = true

-- no clean end
abbrev pub IsAnswer : Answer → Type 0
IsAnswer (Ok None) = ⊥
IsAnswer _ = Unit {0}

-- The end is a fault where names were missed, and it is told once. An entry that is told or refused leaves the end as it
-- is to be.
abbrev pub Answers : {R A F D : Type 0} → Bool → Option (Entry R A F D) → Answer → Bool → Type 0
Answers missed None result after = (result ≡ cond missed (Err Failed) (Ok None)) × (after ≡ false)
Answers missed (Some entry) result after = Says entry result × IsAnswer result × (after ≡ missed)

-- A call for the next name, by what came, whether names were missed before, the answer, and whether names are missed
-- then. Entries whose names can't be told are passed over, 2^32 - 1 at most; behind them stands the answer.
abbrev pub TellsName : {R A F D S : Type 0} → (S → Option (Entry R A F D) → S → Type 0) → S → Bool → Answer → S → Bool → Type 0
TellsName {R} {A} {F} {D} {S} gives s missed result t after = (n : ℕ) × (u : S) × Passes gives n s u
    × (((came : Option (Entry R A F D)) × gives u came t × Answers (has_missed missed n) came result after)
    ⊎ ((n ≡ 2 ^ 32 - 1) × (t ≡ u) × (result ≡ Err Failed) × (after ≡ has_missed missed n)))
