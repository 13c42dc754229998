-- The grammar of a request's path, step by step. The first fault decides, and within a step segments are taken from the
-- left.
use Rattle.std.specs.Prelude.{◌==◌, ◌||◌, ◌&&◌, ◌++◌, ℕ, zero, suc, nat_le, Bool, false, not, List, [], ◌∷◌, length, drop, codes, Option, None, Some, Result, Ok, Err, if◌then◌else◌, ◌≢◌}
use Rattle.std.specs.List.{before_first, filter, list_all, slice_split}
use Rattle.std.specs.Str.{bytes_eq, is_utf8}
use Rattle.percent_encoding.specs.Percent.{percent_decode}
use Rattle.dav_core.specs.declared.parse_error.ParseError.{ParseError}
use Rattle.dav_core.specs.declared.parse_error.ParseError.TheVariants.{InvalidPath, PrefixMismatch, ForbiddenPath, NotText}
use Rattle.dav_core.specs.DavPath.{WebPath, last_name}
use Rattle.dav_core.specs.Path.{Names, is_dots, is_plain, all_plain, is_front, parent_of}

-- one step after another, as far as no fault is met
abbrev pub and_then : {A B : Type 0} → Result A ParseError → (A → Result B ParseError) → Result B ParseError
and_then (Ok a) go = go a
and_then (Err fault) go = Err fault

-- Step 1. The text is cut at its first `?`.
abbrev pub before_query : List ℕ → List ℕ
before_query text = before_first (λ b. b == 63) text

-- printable ASCII other than `#`
abbrev pub is_path_byte : ℕ → Bool
is_path_byte b = nat_le 33 b && nat_le b 126 && not (b == 35)

abbrev pub begins_with_slash : List ℕ → Bool
begins_with_slash [] = false
begins_with_slash (b ∷ bytes) = b == 47

abbrev pub readable : List ℕ → Result (List ℕ) ParseError
readable text = if list_all is_path_byte text && begins_with_slash text then Ok text else Err InvalidPath

-- Step 2. The segments of a text; the one before its first slash is empty.
abbrev pub segments : List ℕ → Names
segments text = slice_split (λ b. b == 47) text

abbrev pub is_empty : List ℕ → Bool
is_empty segment = length segment == 0

-- an empty segment, or `.`
abbrev pub is_skipped : List ℕ → Bool
is_skipped segment = is_empty segment || bytes_eq segment (codes ".")

abbrev pub is_up : List ℕ → Bool
is_up segment = bytes_eq segment (codes "..")

-- What segments leave: how many `..` find no segment to drop among them, and the segments kept.
pub record Left : Type 0 where
  pub ups : ℕ
  pub kept : Names

-- A segment is dropped by the first `..` behind it that finds none nearer.
abbrev pub with_name : List ℕ → ℕ → Names → Left
with_name segment zero kept = record { ups = 0; kept = segment ∷ kept }
with_name segment (suc ups) kept = record { ups = ups; kept = kept }

abbrev pub with_segment : List ℕ → Left → Left
with_segment segment behind =
    if is_skipped segment then behind
    else (if is_up segment then record behind { ups = suc behind.ups } else with_name segment behind.ups behind.kept)

abbrev pub left_of : Names → Left
left_of [] = record { ups = 0; kept = [] }
left_of (segment ∷ more) = with_segment segment (left_of more)

abbrev pub kept_if : ℕ → Names → Result Names ParseError
kept_if zero kept = Ok kept
kept_if (suc ups) kept = Err ForbiddenPath

-- the segments that are kept, unless a `..` finds none to drop
abbrev pub kept_of : Names → Result Names ParseError
kept_of segments = kept_if (left_of segments).ups (left_of segments).kept

-- The same, told from the left: an empty segment and `.` are dropped; `..` drops the last segment kept, and where none
-- is left it is ForbiddenPath (the law `segments_are_kept`).
abbrev pub without_last : Names → Result Names ParseError
without_last [] = Err ForbiddenPath
without_last (segment ∷ kept) = Ok (parent_of (segment ∷ kept))

abbrev pub keep : List ℕ → Names → Result Names ParseError
keep segment kept =
    if is_skipped segment then Ok kept
    else (if is_up segment then without_last kept else Ok (kept ++ segment ∷ []))

-- Step 3. What a kept segment says. A `%` without two hexadecimal digits stands for itself.
abbrev pub name_of : List ℕ → Result (List ℕ) ParseError
name_of bytes = if is_plain bytes then (if is_utf8 bytes then Ok bytes else Err NotText) else Err InvalidPath

abbrev pub decoded : List ℕ → Result (List ℕ) ParseError
decoded segment = name_of (percent_decode segment)

abbrev pub all_decoded : Names → Result Names ParseError
all_decoded [] = Ok []
all_decoded (segment ∷ more) = and_then (decoded segment)
    (λ name. and_then (all_decoded more) (λ names. Ok (name ∷ names)))

-- the names that segments say, without regard to the prefix
abbrev pub names_in : Names → Result Names ParseError
names_in segments = and_then (kept_of segments) all_decoded

-- Step 4. The names of the prefix, and those below it.
abbrev pub prefix_names : List ℕ → Names
prefix_names prefix = filter (λ segment. not (is_empty segment)) (segments prefix)

abbrev pub below : Names → Names → Result Names ParseError
below prefix names = if is_front prefix names then Ok (drop (length prefix) names) else Err PrefixMismatch

-- Step 5. A text ends with a slash where its last segment is empty.
abbrev pub ends : Option (List ℕ) → Bool
ends None = false
ends (Some segment) = is_empty segment || is_dots segment

abbrev pub has_slash : Names → Names → Bool
has_slash segments names = ends (last_name segments) || length names == 0

abbrev pub placed : Names → Names → Names → Result WebPath ParseError
placed segments prefix all =
    and_then (below prefix all) (λ names. Ok (record {
      prefix = prefix;
      names = names;
      slash = has_slash segments names;
    }))

-- the path that a text gives under a prefix
abbrev pub parsed : List ℕ → List ℕ → Result WebPath ParseError
parsed text prefix =
    and_then (readable (before_query text)) (λ cut. and_then (names_in (segments cut))
    (placed (segments cut) (prefix_names prefix)))

-- a prefix as a server has it: nothing, or a text that begins with a slash and has plain names
abbrev pub fits_prefix : List ℕ → Bool
fits_prefix prefix = is_empty prefix || (begins_with_slash prefix && all_plain (prefix_names prefix))

-- ---- the ends of texts

-- the first text doesn't end with the second
abbrev pub EndsOtherwise : List ℕ → List ℕ → Type 0
EndsOtherwise text end = (front : List ℕ) → text ≢ front ++ end
