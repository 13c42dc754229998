-- What a text says of its object, line by line (RFC 5545 section 3.1, RFC 6350 section 3.3).
use Rattle.std.specs.Prelude.{◌&&◌, ◌||◌, ◌==◌, ◌+◌, ◌-◌, ℕ, Bool, cond, List, [], ◌∷◌, length, take, drop, Option, Some, None, option_map, unwrap_or, codes, nat_eq, ◌≡◌}
use Rattle.std.specs.Option.{option_or, option_and_then}
use Rattle.std.specs.List.{position, starts_with, ends_with, suffix_len}
use Rattle.std.specs.Char.{is_ascii_whitespace}
use Rattle.std.specs.Str.{trim, str_eq_ignore_ascii_case}
use Rattle.std.specs.Str.Lines.{lines}
use Rattle.std.specs.Borrow.{Bor}

-- a text before and after its first b
abbrev pub cut : ℕ → List ℕ → Option (List ℕ × List ℕ)
cut b t = option_map (λ i. (take i t, drop (i + 1) t)) (position (λ c. c == b) t)

abbrev pub colon : ℕ
colon = 58

abbrev pub semicolon : ℕ
semicolon = 59

abbrev pub dot : ℕ
dot = 46

-- what the first that has it gives
abbrev pub first_some : {A B : Type 0} → (A → Option B) → List A → Option B
first_some f [] = None
first_some f (x ∷ xs) = option_or (f x) (first_some f xs)

-- what follows the first colon
abbrev pub value_of : List ℕ → Option (List ℕ)
value_of line = option_map (λ p. p.1) (cut colon line)

-- a line that begins with `UID:` or `UID;` gives what follows its first colon, where it has one
abbrev pub calendar_uid_in : List ℕ → Option (List ℕ)
calendar_uid_in line =
    cond (starts_with nat_eq line (codes "UID:") || starts_with nat_eq line (codes "UID;")) (value_of line) None

abbrev pub calendar_uid : List ℕ → Option (List ℕ)
calendar_uid content = first_some (λ line. calendar_uid_in (trim line)) (lines content)

-- a property's name: without its parameters, and without its group
abbrev pub before_parameters : List ℕ → List ℕ
before_parameters part = unwrap_or (option_map (λ p. p.0) (cut semicolon part)) part

abbrev pub after_group : List ℕ → List ℕ
after_group name = unwrap_or (option_map (λ p. p.1) (cut dot name)) name

-- a line whose property has this name, in any ASCII case, gives what follows its first colon
abbrev pub vcard_value_in : List ℕ → List ℕ → Option (List ℕ)
vcard_value_in name line =
    option_and_then (λ p. cond (str_eq_ignore_ascii_case (after_group (before_parameters p.0)) name) (Some p.1) None)
    (cut colon line)

abbrev pub vcard_value : List ℕ → List ℕ → Option (List ℕ)
vcard_value name content = first_some (λ line. vcard_value_in name (trim line)) (lines content)

-- without the ASCII white space at its end
abbrev pub trimmed_end : List ℕ → List ℕ
trimmed_end content = take (length content - suffix_len is_ascii_whitespace content) content

-- begins and ends as this kind of object does
abbrev pub is_object : List ℕ → List ℕ → List ℕ → Bool
is_object begins ends content = starts_with nat_eq content begins && ends_with nat_eq (trimmed_end content) ends

-- ---- what a cut of a text answers

abbrev pub CutsAt : ℕ → List ℕ → Option (Bor (List ℕ) × Bor (List ℕ)) → Type 0
CutsAt b t None = cut b t ≡ None
CutsAt b t (Some p) = cut b t ≡ Some (p.0.now, p.1.now)
