-- The words that the program understands, and what they set.
use Rattle.std.specs.Prelude.{◌≡◌, ◌==◌, ◌&&◌, ◌||◌, ℕ, nat_le, List, [], ◌∷◌, Bool, true, false, Option, None, Some, not, codes, decimal, String, string_bytes, length, map, if◌then◌else◌}
use Rattle.std.specs.List.{list_all, list_any}
use Rattle.std.specs.Option.{option_and_then, option_copied}
use Rattle.std.specs.Str.{bytes_eq}
use Rattle.std.specs.Str.Parse.{digits_value}
use Rattle.std.specs.String.{}
use Rattle.dav_core.specs.Grammar.{fits_prefix, is_empty, is_path_byte, segments}
use Rattle.dav_core.specs.Path.{is_plain}
use Rattle.dav_model.specs.Rules.{Rules, plain_rules}
use Rattle.dav_model.specs.Unset.{nothing_set}
use Rattle.dav_model.specs.declared.settings.Settings.{Settings}
use Rattle.dav_serve.specs.declared.words.Options.{Options}

-- A number up to the most, written in decimal digits without sign and leading zeros.
abbrev pub number_said : ℕ → List ℕ → Option ℕ
number_said most word =
    if nat_le (digits_value 10 word) most && bytes_eq word (decimal (digits_value 10 word))
    then Some (digits_value 10 word) else None

-- a number of bytes, from 0 to 1,048,576
abbrev pub size_said : List ℕ → Option ℕ
size_said word = number_said 1048576 word

-- a plain name
abbrev pub name_said : List ℕ → Option (List ℕ)
name_said word = if is_plain word then Some word else None

-- a byte of a prefix: printable ASCII other than `%`, `?` and `#`
abbrev pub is_prefix_byte : ℕ → Bool
is_prefix_byte b = is_path_byte b && not (b == 37 || b == 63)

-- whether a segment of a prefix is a name; an empty one isn't
abbrev pub is_name : List ℕ → Bool
is_name segment = not (is_empty segment)

abbrev pub has_names : List ℕ → Bool
has_names word = list_any is_name (segments word)

-- A prefix begins with a slash and has plain names, one at least. Empty segments between them don't count.
unfoldable pub is_prefix : List ℕ → Bool
is_prefix word = list_all is_prefix_byte word && (fits_prefix word && has_names word)

abbrev pub prefix_said : List ℕ → Option (List ℕ)
prefix_said word = if is_prefix word then Some word else None

-- What is set at most once stays, where it was set already.
abbrev pub once : {A B : Type 0} → Option A → B → Option B
once None set = Some set
once (Some a) set = None

-- what is on once it was switched on, where it was off
abbrev pub once_on : {B : Type 0} → Bool → B → Option B
once_on false set = Some set
once_on true set = None

-- what is set once index pages are permitted
abbrev pub with_pages : Rules → Option Rules
with_pages r = once r.settings.autoindex (record r { settings = record r.settings { autoindex = Some true } })

-- what is set once names fold
abbrev pub with_fold : Rules → Option Rules
with_fold r = once_on r.folds (record r { folds = true })

-- what is set once the rules for clients of macOS hold
abbrev pub with_macos : Rules → Option Rules
with_macos r = once_on r.macos (record r { macos = true })

abbrev pub with_index : Rules → List ℕ → Option Rules
with_index r name = once r.settings.indexfile (record r { settings = record r.settings { indexfile = Some name } })

abbrev pub with_buffer : Rules → ℕ → Option Rules
with_buffer r size = once r.settings.read_buf_size
    (record r { settings = record r.settings { read_buf_size = Some size } })

-- no prefix was set where it is empty
abbrev pub once_more : {B : Type 0} → List ℕ → B → Option B
once_more [] set = Some set
once_more (b ∷ bytes) set = None

abbrev pub with_prefix : Rules → List ℕ → Option Rules
with_prefix r prefix = once_more r.settings.prefix (record r { settings = record r.settings { prefix = prefix } })

-- What an option with a value sets besides, whatever the value begins with.
abbrev pub with_value : Rules → List ℕ → List ℕ → Option Rules
with_value r option value =
    if bytes_eq option (codes "--indexfile") then option_and_then (with_index r) (name_said value) else
    if bytes_eq option (codes "--bufsize") then option_and_then (with_buffer r) (size_said value) else
    if bytes_eq option (codes "--prefix") then option_and_then (with_prefix r) (prefix_said value) else None

-- Whether a word is an option by itself.
abbrev pub is_switch : List ℕ → Bool
is_switch word = bytes_eq word (codes "--autoindex")
    || (bytes_eq word (codes "--fold") || bytes_eq word (codes "--macos"))

-- What such an option sets besides.
abbrev pub with_switch : Rules → List ℕ → Option Rules
with_switch r word =
    if bytes_eq word (codes "--autoindex") then with_pages r else
    if bytes_eq word (codes "--fold") then with_fold r else with_macos r

-- What the options set besides, in any order and each at most once; the first word may be the value of the option in
-- front of it.
abbrev pub options_set : Rules → Option (List ℕ) → List (List ℕ) → Option Rules
options_set r None [] = Some r
options_set r (Some option) [] = None
options_set r None (word ∷ words) =
    if is_switch word then option_and_then (λ t. options_set t None words) (with_switch r word)
    else options_set r (Some word) words
options_set r (Some option) (word ∷ words) = option_and_then (λ t. options_set t None words) (with_value r option word)

abbrev pub pages_where : Bool → Option Bool
pages_where false = None
pages_where true = Some true

-- what options set that were read
abbrev pub settings_by : Options → Settings
settings_by o = record nothing_set {
  prefix = o.prefix.now;
  autoindex = pages_where o.autoindex;
  indexfile = option_copied o.indexfile;
  read_buf_size = o.bufsize;
}

-- the rules of the run that they make, over the root of the disk
abbrev pub set_by : Options → Rules
set_by o = record { settings = settings_by o; folds = o.fold; macos = o.macos; alone = None }

-- What the words set: `ROOT serve` and the options, with a root that isn't empty. None where they aren't understood.
abbrev pub rules_said : {A : Type 0} → List (String A) → Option Rules
rules_said (root ∷ verb ∷ options) =
    if not (length (string_bytes root) == 0) && bytes_eq (string_bytes verb) (codes "serve")
    then options_set (plain_rules nothing_set) None (map string_bytes options) else None
rules_said words = None

-- The number that the words say of a large input: `ROOT bench SEED`, with a root that isn't empty and a number from 0
-- to 399. None where they say something else.
abbrev pub seed_said : {A : Type 0} → List (String A) → Option ℕ
seed_said (root ∷ verb ∷ seed ∷ []) =
    if not (length (string_bytes root) == 0) && bytes_eq (string_bytes verb) (codes "bench")
    then number_said 399 (string_bytes seed) else None
seed_said words = None

-- Whether the words say that the tree is fetched: `ROOT mirror`, with a root that isn't empty.
abbrev pub mirror_said : {A : Type 0} → List (String A) → Bool
mirror_said (root ∷ verb ∷ []) = not (length (string_bytes root) == 0) && bytes_eq (string_bytes verb) (codes "mirror")
mirror_said words = false

-- the words aren't understood
abbrev pub NothingSaid : {A : Type 0} → List (String A) → Type 0
NothingSaid words = (rules_said words ≡ None) × (seed_said words ≡ None) × (mirror_said words ≡ false)
