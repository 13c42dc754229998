-- The text of a tag has only bytes that may stand inside an entity tag: a law that the types of metadata cite.
use Rattle.std.proofs.Common.{◌≡◌, ◌∙◌, sym, ap, refl, ℕ, zero, suc, ◌==◌, ◌/◌, ◌%◌, ◌<◌, ◌&&◌, ◌++◌, ◌∷◌, [], List, Bool, true, false, cond, codes, Option, None, Some, arith}
use Rattle.std.specs.List.{list_all}
use Rattle.std.specs.Fmt.{digits, digits_onto, digit_glyph}
use Rattle.std.proofs.lemmas.Bool.Decides.{nat_tests}
use Rattle.std.proofs.lemmas.List.Folds.{list_all-append}
use Rattle.dav_core.specs.declared.handle.Meta.{Meta}
use Rattle.dav_core.specs.declared.time.FileTime.{FileTime}
use Rattle.dav_core.specs.declared.tree.Kind.{Kind}
use Rattle.dav_core.specs.declared.tree.Kind.TheVariants.{Dir, File, Link}
use Rattle.dav_core.specs.Info.{Info, hex, micros, tag_at, tag_of, info_of, known}
use Rattle.dav_core.specs.Tags.{is_tag_byte, HasTagBytes}

-- the bytes of a text may stand in a tag
abbrev fits : List ℕ → Type 0
fits text = list_all is_tag_byte text ≡ true

glyph_fits : (d : ℕ) → d < 16 → is_tag_byte (digit_glyph false d) ≡ true
glyph_fits d small = grind (arith, nat_tests)

both_fit : (a b : Bool) → a ≡ true → b ≡ true → (a && b) ≡ true
both_fit a b e f = rw (e, f) refl

either_fits : (t : Bool) (x y : List ℕ) → fits x → fits y → fits (cond t x y)
either_fits true x y p q = p
either_fits false x y p q = q

more_fits : (b : ℕ) (text : List ℕ) → is_tag_byte b ≡ true → fits text → fits (b ∷ text)
more_fits b text p q = both_fit (is_tag_byte b) (list_all is_tag_byte text) p q

onto_fits : (k n : ℕ) (text : List ℕ) → fits text → fits (digits_onto k 16 false n text)
onto_fits zero n text p = p
onto_fits (suc k) n text p =
    let more : fits (digit_glyph false (n % 16) ∷ text) = more_fits (digit_glyph false (n % 16)) text
    (glyph_fits (n % 16) (omega arith)) p in
    either_fits (n / 16 == 0) (digit_glyph false (n % 16) ∷ text)
    (digits_onto k 16 false (n / 16) (digit_glyph false (n % 16) ∷ text)) more
    (onto_fits k (n / 16) (digit_glyph false (n % 16) ∷ text) more)

hex_fits : (n : ℕ) → fits (hex n)
unfolding digits
hex_fits n = onto_fits 64 n [] refl

joined_fits : (a b : List ℕ) → fits a → fits b → fits (a ++ b)
joined_fits a b p q = list_all-append is_tag_byte a b ∙ both_fit (list_all is_tag_byte a) (list_all is_tag_byte b) p q

-- digits behind a dash
dashed_fits : (b : List ℕ) → fits b → fits (codes "-" ++ b)
dashed_fits b q = joined_fits (codes "-") b refl q

two_fit : (n m : ℕ) → fits (hex n ++ (codes "-" ++ hex m))
two_fit n m = joined_fits (hex n) (codes "-" ++ hex m) (hex_fits n) (dashed_fits (hex m) (hex_fits m))

tag_fits : (kind : Kind) (number len : ℕ) (time : FileTime) → fits (tag_at kind number len time)
tag_fits Dir number len time = two_fit number (micros time)
tag_fits File number len time =
    joined_fits (hex number) (codes "-" ++ (hex len ++ (codes "-" ++ hex (micros time)))) (hex_fits number)
    (dashed_fits (hex len ++ (codes "-" ++ hex (micros time))) (two_fit len (micros time)))
tag_fits Link number len time = two_fit number (micros time)

known_fits : (kind : Kind) (number len : ℕ) (time : Option FileTime) → HasTagBytes (tag_of kind number len time)
known_fits kind number len None = tt
known_fits kind number len (Some time) = tag_fits kind number len time

-- the tag of a disk's metadata
pub info_has_tag_bytes : (m : Meta) → HasTagBytes (info_of m).tag
info_has_tag_bytes m = known_fits m.kind m.number m.len (known m.modified)
