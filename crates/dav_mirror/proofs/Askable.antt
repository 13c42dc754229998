-- The fields that a fetch asks are fields of a request, and none of them is `if`.
use Rattle.std.proofs.Common.{◌≡◌, inl, inr, ℕ, zero, suc, ◌+◌, ◌<◌, ◌/◌, ◌%◌, ◌==◌, true, false, cond, IsTrue, All, List, [], ◌∷◌, ◌++◌, length, codes, decimal, Option, None, Some, refl, sym, subst, arith, nat_lt}
use Rattle.std.proofs.lemmas.Bool.{and_parts, cond_both}
use Rattle.std.proofs.lemmas.Bool.Decides.{nat_tests}
use Rattle.std.proofs.lemmas.List.Elements.{All-nil, All-cons, All-append, All-from_recursion}
use Rattle.std.specs.Fmt.{digit_glyph, digits, digits_onto}
use Rattle.std.specs.List.{list_all}
use Rattle.std.specs.Option.{ForSome}
use Rattle.http_header.specs.FieldName.{IsHeaderName}
use Rattle.http_header.specs.FieldValue.{IsFieldValue}
use Rattle.http_header.specs.Token.{is_value_byte}
use Rattle.http_header.proofs.TokenLemmas.{IsHeaderName-from_test}
use Rattle.dav_io.specs.declared.fields.Field.{Field}
use Rattle.dav_core.specs.DavPath.{WebPath}
use Rattle.dav_core.specs.Tags.{IsTagText, is_tag_byte}
use Rattle.dav_model.specs.Head.{quoted}
use Rattle.dav_fetch.specs.declared.copied.Kept.{Kept}
use Rattle.dav_fetch.specs.Asking.{asked_for, awaits, range_from, rest, same, whole}
use Rattle.dav_fetch.specs.Copy.{IsKept, IsTagValue}
use Rattle.dav_fetch.specs.Peer.{IsAskable, said_under}
use Rattle.dav_mirror.specs.Asking.{AreSaid, IsSaid}

abbrev Value : ℕ → Type 0
Value b = IsTrue (is_value_byte b)

-- ---- a number

digit_fits : (d : ℕ) → d < 10 → Value (digit_glyph false d)
digit_fits d small = cond_both (nat_lt d 10) (48 + d) (87 + d) Value (λ _. grind (arith, nat_tests)) (λ e. absurd (grind (arith, nat_tests)))

onto_fits : (k n : ℕ) (acc : List ℕ) → All Value acc → All Value (digits_onto k 10 false n acc)
onto_fits zero n acc all = all
onto_fits (suc k) n acc all =
    let more = All-cons Value (digit_glyph false (n % 10)) acc (digit_fits (n % 10) (omega arith)) all in
    cond_both (n / 10 == 0) (digit_glyph false (n % 10) ∷ acc) (digits_onto k 10 false (n / 10) (digit_glyph false (n % 10) ∷ acc)) (All Value) (λ _. more) (λ _. onto_fits k (n / 10) (digit_glyph false (n % 10) ∷ acc) more)

decimal_fits : (n : ℕ) → All Value (decimal n)
unfolding digits
decimal_fits n = onto_fits 64 n [] (All-nil Value)

range_fits : (n : ℕ) → IsFieldValue (range_from n)
range_fits n =
    All-append Value (codes "bytes=") (decimal n ++ codes "-") (All-from_recursion Value (codes "bytes=") (refl, (refl, (refl, (refl, (refl, (refl, tt)))))))
    (All-append Value (decimal n) (codes "-") (decimal_fits n) (All-from_recursion Value (codes "-") (refl, tt)))

-- ---- a tag

tag_byte_fits : (b : ℕ) → is_tag_byte b ≡ true → Value b
tag_byte_fits b e = grind (arith, nat_tests)

tag_bytes_fit : (tag : List ℕ) → list_all is_tag_byte tag ≡ true → All Value tag
tag_bytes_fit [] e = All-nil Value
tag_bytes_fit (b ∷ tag) e = let p = and_parts _ _ e in All-cons Value b tag (tag_byte_fits b p.0) (tag_bytes_fit tag p.1)

quoted_fits : (tag : List ℕ) → IsTagText tag → IsFieldValue (quoted tag)
quoted_fits tag is = All-cons Value 34 (tag ++ 34 ∷ []) refl (All-append Value tag (34 ∷ []) (tag_bytes_fit tag is) (All-from_recursion Value (34 ∷ []) (refl, tt)))

tag_fits : (value : List ℕ) → IsTagValue value → IsFieldValue value
tag_fits value (inl none) = subst IsFieldValue (sym none) (All-nil Value)
tag_fits value (inr (tag, text, is)) = subst IsFieldValue (sym is) (quoted_fits tag text)

-- ---- the fields

-- such fields, and none of them is `if`
record AreFit (asked : List Field) : Type 0 where
  pub said : AreSaid asked
  pub none : said_under asked (codes "if") ≡ []

named : (name value : List ℕ) → IsHeaderName name → IsFieldValue value → IsSaid (record { name = name; value = value })
named name value n v = record { name = n; value = v }

none_fit : AreFit []
none_fit = record { said = record { each = tt; few = omega arith }; none = refl }

rest_fit : (f : Kept) → IsKept f → AreFit (asked_for (rest f))
rest_fit f kept = record {
  said = record {
    each = (
      named (codes "range") (range_from (length f.bytes)) (IsHeaderName-from_test (codes "range") refl) (range_fits (length f.bytes)),
      (named (codes "if-range") f.tag (IsHeaderName-from_test (codes "if-range") refl) (tag_fits f.tag kept.tag), tt),
    );
    few = omega arith;
  };
  none = refl;
}

same_fit : (f : Kept) → IsKept f → AreFit (asked_for (same f))
same_fit f kept = record {
  said = record { each = (named (codes "if-none-match") f.tag (IsHeaderName-from_test (codes "if-none-match") refl) (tag_fits f.tag kept.tag), tt); few = omega arith };
  none = refl;
}

awaits_fit : (old : Option Kept) → ForSome old IsKept → AreFit (asked_for (awaits old))
awaits_fit None kept = none_fit
awaits_fit (Some f) kept =
    let is : IsKept f = kept f refl in
    cond_both (length f.tag == 0) whole (cond (length f.bytes == f.len) (same f) (cond (length f.bytes == 0) whole (rest f))) (λ a. AreFit (asked_for a)) (λ _. none_fit)
    (λ _. cond_both (length f.bytes == f.len) (same f) (cond (length f.bytes == 0) whole (rest f)) (λ a. AreFit (asked_for a)) (λ _. same_fit f is)
    (λ _. cond_both (length f.bytes == 0) whole (rest f) (λ a. AreFit (asked_for a)) (λ _. none_fit) (λ _. rest_fit f is)))

askable_fit : (path : WebPath) (asked : List Field) → IsAskable path asked → AreFit asked
askable_fit path asked is = subst AreFit (sym is.fields) (awaits_fit is.old is.kept)

pub askable_said : (path : WebPath) (asked : List Field) → IsAskable path asked → AreSaid asked
askable_said path asked is = (askable_fit path asked is).said

pub askable_none : (path : WebPath) (asked : List Field) → IsAskable path asked → said_under asked (codes "if") ≡ []
askable_none path asked is = (askable_fit path asked is).none
