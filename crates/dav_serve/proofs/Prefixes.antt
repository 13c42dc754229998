-- The words that are prefixes.
use Rattle.std.proofs.Common.{◌≡◌, ◌&&◌, ℕ, Bool, List, [], ◌∷◌, map, true, false, codes, refl, ap, ap₂, sym}
use Rattle.std.specs.List.{list_all}
use Rattle.dav_core.specs.Grammar.{fits_prefix}
use Rattle.dav_serve.specs.Words.{has_names, is_prefix, is_prefix_byte}

-- A prefix is told part by part; the first that fails decides.
pub bytes_refuse : (word : List ℕ) → list_all is_prefix_byte word ≡ false → false ≡ is_prefix word
unfolding is_prefix
bytes_refuse word e = sym (ap (λ b. b && (fits_prefix word && has_names word)) e)

pub names_refuse : (word : List ℕ) → list_all is_prefix_byte word ≡ true → fits_prefix word ≡ false → false ≡ is_prefix word
unfolding is_prefix
names_refuse word e f = sym (ap₂ (λ b c. b && (c && has_names word)) e f)

pub names_decide : (word : List ℕ) → list_all is_prefix_byte word ≡ true → fits_prefix word ≡ true → has_names word ≡ is_prefix word
unfolding is_prefix
names_decide word e f = sym (ap₂ (λ b c. b && (c && has_names word)) e f)

-- Worked words, and which of them are prefixes. Empty segments are dropped; no prefix is a segment of dots, a slash alone, a
-- name without a slash, and what has a percent sign or a blank.
abbrev worked : List (List ℕ × Bool)
worked = (codes "/dav", true) ∷ (codes "//dav/x/", true) ∷ (codes "/a/./b", false) ∷ (codes "/", false) ∷ (codes "dav", false) ∷ (codes "/a%20b", false)
    ∷ (codes "/a b", false) ∷ []

pub worked_are_told : map (λ (row : List ℕ × Bool). is_prefix row.0) worked ≡ map (λ (row : List ℕ × Bool). row.1) worked
unfolding is_prefix
worked_are_told = refl
