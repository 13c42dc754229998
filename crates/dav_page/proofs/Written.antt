-- What the escapes write, a reader reads.
use Rattle.std.proofs.Common.{◌≡◌, ℕ, ◌<◌, ◌/◌, ◌%◌, ◌==◌, ◌&&◌, ◌||◌, Bool, true, false, not, List, [], ◌∷◌, ◌++◌, All, codes, cond, refl, ap₂, arith}
use Rattle.std.specs.Char.{is_digit}
use Rattle.std.specs.Fmt.{digit_glyph}
use Rattle.std.specs.List.{list_all, list_any}
use Rattle.std.specs.Str.{chars, is_utf8}
use Rattle.std.proofs.lemmas.Bool.{agree_below, agree_below_at, and_parts}
use Rattle.std.proofs.lemmas.Bool.Decides.{nat_tests}
use Rattle.std.proofs.lemmas.Str.{chars-encodes, scalars-chars, IsUtf8-from_is_utf8}
use Rattle.std.proofs.lemmas.List.Elements.{All-head, All-tail}
use Rattle.percent_encoding.specs.Percent.{percent_encode_byte}
use Rattle.htmlescape.specs.declared.alphabet.Alphabet.TheVariants.{Minimal}
use Rattle.htmlescape.specs.Escapes.{encoded, is_markup}
use Rattle.htmlescape.proofs.Escaping.{encoded_characters}
use Rattle.htmlescape.proofs.Undone.{undone, minimal_bytes}
use Rattle.dav_core.specs.DavPath.{stays, link_of}
use Rattle.dav_core.proofs.Back.{text_bytes}
use Rattle.dav_core.proofs.Links.{link_decodes}
use Rattle.dav_page.specs.Index.{name_text}
use Rattle.dav_page.specs.Pages.{IsName, IsTitle, Leads, is_link, is_link_byte, has_two_digits}

mark_free : (c : ℕ) → not (is_markup c) ≡ true → list_any (λ m. c == m) (codes "<>\"") ≡ false
mark_free c e = grind (arith, nat_tests)

marks_free : (text : List ℕ) → list_all (λ c. not (is_markup c)) text ≡ true → list_any (λ c. list_any (λ m. c == m) (codes "<>\"")) text ≡ false
marks_free [] e = refl
marks_free (c ∷ text) e = let p = and_parts (not (is_markup c)) (list_all (λ d. not (is_markup d)) text) e in
    ap₂ (λ x y. x || y) (mark_free c p.0) (marks_free text p.1)

tag_free : (c : ℕ) → not (is_markup c) ≡ true → list_any (λ m. c == m) (codes "<") ≡ false
tag_free c e = grind (arith, nat_tests)

tags_free : (text : List ℕ) → list_all (λ c. not (is_markup c)) text ≡ true → list_any (λ c. list_any (λ m. c == m) (codes "<")) text ≡ false
tags_free [] e = refl
tags_free (c ∷ text) e = let p = and_parts (not (is_markup c)) (list_all (λ d. not (is_markup d)) text) e in
    ap₂ (λ x y. x || y) (tag_free c p.0) (tags_free text p.1)

-- The text of a name is what `encode_minimal` writes of it.
pub name_written : (name : List ℕ) → is_utf8 name ≡ true → IsName (name_text name) name
name_written name utf8 =
    let scalar = scalars-chars name (IsUtf8-from_is_utf8 name utf8) in
    let back = chars-encodes (encoded Minimal (chars name)) (encoded_characters Minimal (chars name) scalar) in
    record {
      unmarked = marks_free (name_text name) (minimal_bytes (chars name));
      means = rw back (undone Minimal (chars name) scalar);
      utf8 = utf8;
    }

-- And so is a title's.
pub title_written : (title : List ℕ) → is_utf8 title ≡ true → IsTitle (name_text title) title
title_written title utf8 = let name = name_written title utf8 in
    record { unmarked = tags_free (name_text title) (minimal_bytes (chars title)); means = name.means; utf8 = utf8 }

abbrev good : ℕ → Bool
good n = is_digit (digit_glyph true n) 16 && is_link_byte (digit_glyph true n)

good_table : agree_below good (λ n. true) 16 ≡ true
good_table = refl

glyph : (n : ℕ) → n < 16 → (is_digit (digit_glyph true n) 16 ≡ true) × (is_link_byte (digit_glyph true n) ≡ true)
glyph n h =
    and_parts (is_digit (digit_glyph true n) 16) (is_link_byte (digit_glyph true n)) (agree_below_at good (λ m. true) 16 n good_table h)

stays_link : (b : ℕ) → stays b ≡ true → is_link_byte b ≡ true
stays_link b e = grind (arith, nat_tests)

byte_written : (b : ℕ) (rest : List ℕ) → b < 256 → is_link rest ≡ true → (t : Bool) → stays b ≡ t
    → is_link (cond t (b ∷ []) (percent_encode_byte b) ++ rest) ≡ true
unfolding percent_encode_byte
byte_written b rest small e true s = ap₂ (λ x y. (x || ((b == 37) && has_two_digits rest)) && y) (stays_link b s) e
byte_written b rest small e false s =
    let high = glyph (b / 16 % 16) (omega arith) in
    let low = glyph (b % 16) (omega arith) in
    rw (high.0, low.0, high.1, low.1, e) refl

links_written : (bytes : List ℕ) → All (λ b. b < 256) bytes → is_link (link_of bytes) ≡ true
links_written [] small = refl
links_written (b ∷ bytes) small =
    byte_written b (link_of bytes) (All-head (λ c. c < 256) b bytes small) (links_written bytes (All-tail (λ c. c < 256) b bytes small)) (stays b) refl

-- A link leads to what it was made of.
pub link_written : (bytes : List ℕ) → is_utf8 bytes ≡ true → Leads (link_of bytes) bytes
link_written bytes utf8 = let small = text_bytes bytes utf8 in
    record { bytes = links_written bytes small; decoded = link_decodes bytes small; utf8 = utf8 }
