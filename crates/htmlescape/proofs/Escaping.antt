-- Facts about what stands for a character.
use Rattle.std.proofs.Common.{◌≡◌, ℕ, ◌==◌, Bool, true, false, cond, List, [], ◌∷◌, Option, Some, None, refl, sym, ◌∙◌, ap}
use Rattle.std.proofs.Common.{◌<◌, ◌/◌, ◌%◌, ◌++◌, ◌&&◌, not, ltb, arith, IsUtf8, chars, subst}
use lib.Utf8.{encodes, encode, scalar, scalars, low_scalar}
use Rattle.std.specs.Fmt.{digit_glyph}
use Rattle.std.specs.Char.{is_ascii_alphanumeric}
use Rattle.std.proofs.lemmas.Bool.{and_parts}
use Rattle.std.proofs.lemmas.Bool.Decides.{nat_tests}
use Rattle.std.proofs.lemmas.Str.{scalars-chars}
use Rattle.htmlescape.specs.declared.alphabet.Alphabet.{Alphabet}
use Rattle.htmlescape.specs.declared.alphabet.Alphabet.TheVariants.{Minimal, Attribute}
use Rattle.htmlescape.specs.Escapes.{minimal_entity, escaped, other, or_else, encoded, hex_escape, is_numbered}

-- an entity of the minimal table is its own UTF-8

abbrev Own : Option (List ℕ) → Type 0
Own None = Unit {0}
Own (Some text) = encodes text ≡ text

chosen : (b : Bool) (x y : Option (List ℕ)) → Own x → Own y → Own (cond b x y)
chosen true x y p q = p
chosen false x y p q = q

minimal_own : (c : ℕ) → Own (minimal_entity c)
unfolding minimal_entity encode
minimal_own c =
    chosen (c == 34) _ _ refl (chosen (c == 38) _ _ refl (chosen (c == 39) _ _ refl (chosen (c == 60) _ _ refl (chosen (c == 62) _ _ refl tt))))

own_at : (o : Option (List ℕ)) (text : List ℕ) → Own o → Some text ≡ o → encodes text ≡ text
own_at None text h e = cc
own_at (Some t) text h e = let s : text ≡ t = cc in ap encodes s ∙ h ∙ sym s

pub entity_is : (o : Option (List ℕ)) (c : ℕ) (text : List ℕ) (rest : List ℕ) → Some text ≡ minimal_entity c
    → text ≡ encodes (or_else (minimal_entity c) rest)
entity_is o c text rest e = sym (ap (λ p. encodes (or_else p rest)) (sym e) ∙ own_at (minimal_entity c) text (minimal_own c) e)

-- What stands for a character is characters.
pub scalars_append : (xs ys : List ℕ) → scalars xs ≡ true → scalars ys ≡ true → scalars (xs ++ ys) ≡ true
scalars_append [] ys p q = q
scalars_append (x ∷ xs) ys p q = let h = and_parts _ _ p in ap (λ b. b && scalars (xs ++ ys)) h.0 ∙ scalars_append xs ys h.1 q

abbrev Characters : Option (List ℕ) → Type 0
Characters None = Unit {0}
Characters (Some text) = scalars text ≡ true

chosen_characters : (b : Bool) (x y : Option (List ℕ)) → Characters x → Characters y → Characters (cond b x y)
chosen_characters true x y p q = p
chosen_characters false x y p q = q

minimal_characters : (c : ℕ) → Characters (minimal_entity c)
unfolding minimal_entity
minimal_characters c =
    chosen_characters (c == 34) _ _ refl (chosen_characters (c == 38) _ _ refl (chosen_characters (c == 39) _ _ refl (chosen_characters (c == 60) _ _ refl (chosen_characters (c == 62) _ _ refl tt))))

or_characters : (o : Option (List ℕ)) (text : List ℕ) → Characters o → scalars text ≡ true → scalars (or_else o text) ≡ true
or_characters None text p q = q
or_characters (Some t) text p q = p

one : (c : ℕ) → scalar c ≡ true → scalars (c ∷ []) ≡ true
one c s = ap (λ b. b && true) s

digit_scalar : (d : ℕ) → d < 16 → scalar (digit_glyph true d) ≡ true
digit_scalar d h = low_scalar (digit_glyph true d) (grind (arith, nat_tests))

hex_characters : (c : ℕ) → c < 256 → scalars (hex_escape c) ≡ true
hex_characters c h =
    ap (λ b. b && (scalar (digit_glyph true (c % 16)) && true)) (digit_scalar (c / 16) (omega arith)) ∙ ap (λ b. b && true) (digit_scalar (c % 16) (omega arith))

pub numbered_below : (c : ℕ) → is_numbered c ≡ true → c < 256
numbered_below c h = let p : ltb c 256 ≡ true = (and_parts (ltb c 256) (not (is_ascii_alphanumeric c)) h).0 in grind (arith, nat_tests)

other_characters : (a : Alphabet) (c : ℕ) → scalar c ≡ true → scalars (other a c) ≡ true
other_characters Minimal c s = one c s
other_characters Attribute c s = elim (is_numbered c) as (λ b. is_numbered c ≡ b → scalars (cond b (hex_escape c) (c ∷ [])) ≡ true) [
  | true ↦ λ e. hex_characters c (numbered_below c e)
  | false ↦ λ e. one c s
] refl

pub escaped_characters : (a : Alphabet) (c : ℕ) → scalar c ≡ true → scalars (escaped a c) ≡ true
unfolding escaped
escaped_characters a c s = or_characters (minimal_entity c) (other a c) (minimal_characters c) (other_characters a c s)

pub encoded_characters : (a : Alphabet) (text : List ℕ) → scalars text ≡ true → scalars (encoded a text) ≡ true
encoded_characters a [] s = refl
encoded_characters a (c ∷ cs) s = let h = and_parts _ _ s in scalars_append (escaped a c) (encoded a cs) (escaped_characters a c h.0) (encoded_characters a cs h.1)

pub encoded_utf8 : (a : Alphabet) (bytes : List ℕ) → IsUtf8 bytes → IsUtf8 (encodes (encoded a (chars bytes)))
encoded_utf8 a bytes u = (encoded a (chars bytes), (encoded_characters a (chars bytes) (scalars-chars bytes u), refl))

pub written_utf8 : (a : Alphabet) (bytes front written : List ℕ) → IsUtf8 bytes → front ≡ [] → written ≡ front ++ encodes (encoded a (chars bytes))
    → IsUtf8 written
written_utf8 a bytes front written u none e =
    let P : List ℕ → Type 0 = IsUtf8 in subst P (sym (e ∙ ap (λ t. t ++ encodes (encoded a (chars bytes))) none)) (encoded_utf8 a bytes u)
