-- What the words behind the program's name ask for.
use Rattle.std.specs.Prelude.{◌≡◌, ◌==◌, ◌&&◌, ℕ, nat_lt, List, [], ◌∷◌, length, Bool, Option, None, Some, Result, Ok, Err, codes, String, string_bytes, cond, if◌then◌else◌}
use Rattle.std.specs.List.{list_any}
use Rattle.std.specs.Str.{all_ascii_digits, bytes_eq}
use Rattle.std.specs.Str.Parse.{digits_value, without_leading_plus}
use Rattle.dav_core.specs.declared.parse_error.ParseError.{ParseError}
use Rattle.dav_core.specs.declared.parse_error.ParseError.TheVariants.{InvalidPath}
use Rattle.dav_core.specs.DavPath.{WebPath}
use Rattle.dav_core.specs.Grammar.{is_empty, parsed}
use Rattle.dav_put.specs.declared.ending.Ending.{Ending}
use Rattle.dav_put.specs.declared.ending.Ending.TheVariants as ends
use Rattle.dav_put.specs.declared.words.Task.{Task}
use Rattle.dav_put.specs.declared.words.Task.TheVariants.{Store, Sweep}

-- with which a query begins
abbrev pub is_question : ℕ → Bool
is_question b = b == 63

-- The path that a text says as a request's target does. A text with a query says none, and nor does one with a fragment,
-- or with an authority before its path.
abbrev pub path_alone : List ℕ → Result WebPath ParseError
path_alone text = if list_any is_question text then Err InvalidPath else parsed text []

-- what is asked of the path that a text gives, where it gives one
abbrev pub asked_of : (WebPath → Task) → Result WebPath ParseError → Option Task
asked_of task (Ok path) = Some (task path)
asked_of task (Err fault) = None

abbrev pub sweep_of : ℕ → WebPath → Task
sweep_of older dir = Sweep dir older

-- a number of 32 bits as std reads it: decimal digits, before which a plus may stand
abbrev pub seconds_said : List ℕ → Option ℕ
seconds_said text =
    let digits = without_leading_plus text in
    cond (nat_lt 0 (length digits) && all_ascii_digits digits && nat_lt (digits_value 10 digits) 4294967296)
    (Some (digits_value 10 digits)) None

-- a sweep of what is older than a number of seconds, where one is said
abbrev pub sweep_asked : List ℕ → Option ℕ → Option Task
sweep_asked dir None = None
sweep_asked dir (Some older) = asked_of (sweep_of older) (path_alone dir)

abbrev pub older_asked : List ℕ → List ℕ → List ℕ → Option Task
older_asked dir option seconds =
    if bytes_eq option (codes "--older") then sweep_asked dir (seconds_said seconds) else None

-- what words behind a root ask for: `PATH`, `--sweep DIR`, an hour back, or `--sweep DIR --older SECONDS`
abbrev pub task_behind : {A : Type 0} → List (String A) → Option Task
task_behind (path ∷ []) = asked_of Store (path_alone (string_bytes path))
task_behind (verb ∷ dir ∷ []) =
    if bytes_eq (string_bytes verb) (codes "--sweep") then sweep_asked (string_bytes dir) (Some 3600) else None
task_behind (verb ∷ dir ∷ option ∷ seconds ∷ []) =
    if bytes_eq (string_bytes verb) (codes "--sweep")
    then older_asked (string_bytes dir) (string_bytes option) (string_bytes seconds) else None
task_behind words = None

-- What the words ask for: a root that isn't empty, and words behind it. None where they aren't understood.
abbrev pub task_said : {A : Type 0} → List (String A) → Option Task
task_said [] = None
task_said (root ∷ words) = if is_empty (string_bytes root) then None else task_behind words

-- What was read is what is asked for; the words aren't understood, or memory was refused.
abbrev pub IsSaid : Option Task → Result Task Ending → Type 0
IsSaid asked (Ok task) = asked ≡ Some task
IsSaid asked (Err ends.Words) = asked ≡ None
IsSaid asked (Err ending) = ending ≡ ends.NoMemory

-- the same of a path
abbrev pub IsPathSaid : Result WebPath ParseError → Result WebPath Ending → Type 0
IsPathSaid given (Ok path) = given ≡ Ok path
IsPathSaid given (Err ends.Words) = (fault : ParseError) × (given ≡ Err fault)
IsPathSaid given (Err ending) = ending ≡ ends.NoMemory
