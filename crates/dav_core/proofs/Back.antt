-- A link is parsed back to its path.
use Rattle.std.proofs.Common.{◌≡◌, ◌==◌, ℕ, suc, ◌+◌, ◌-◌, ◌/◌, ◌%◌, ◌<◌, ltb, Bool, true, false, not, cond, ◌&&◌, ◌||◌, List, [], ◌∷◌, ◌++◌, length, take, drop, map, slice_get, codes, Ok, Err, All, refl, sym, ap, ap₂, ◌∙◌, subst, true≢false, append_assoc, append-nil, drop_at, length-append, ◌⊎◌, flat_map, bytes_eq, inl, inr, arith}
use Rattle.std.proofs.lemmas.Bool.{and_parts, and_from, or_parts, or_from, cond_both, false_from_ne_true, ltb-true, not-true}
use Rattle.std.proofs.lemmas.Bool.Decides.{nat_tests}
use Rattle.std.proofs.lemmas.List.Elements.{All-nil, All-cons, All-head, All-tail, All-append, All-weaker}
use Rattle.std.proofs.lemmas.List.Sums.{list_all-from_AllPass}
use Rattle.std.proofs.lemmas.List.Splits.{slice_split_none, slice_split_at}
use Rattle.std.proofs.lemmas.Grind.{flat_map-append}
use Rattle.std.proofs.lemmas.List.{map-append}
use Rattle.std.proofs.lemmas.Slice.Eq.{bytes_eq-Decides}
use Rattle.std.proofs.lemmas.Str.{IsUtf8-from_is_utf8}
use Rattle.std.specs.List.{list_all, list_any, position_or_len}
use Rattle.std.specs.Str.{is_utf8}
use Rattle.percent_encoding.specs.AsciiSet.{should_percent_encode}
use Rattle.percent_encoding.specs.Percent.{percent_decode, percent_encode_byte}
use Rattle.percent_encoding.proofs.PercentLemmas.{IsEscapeByte, All-percent_encode, All-percent_encode_byte}
use lib.Utf8.{scalar, scalars, scalar_cases, encode, encodes}
use Rattle.dav_core.specs.declared.url.TheConstants.{LINK}
use Rattle.dav_core.specs.declared.parse_error.ParseError.TheVariants.{InvalidPath, NotText, PrefixMismatch}
use Rattle.dav_core.specs.DavPath.{WebPath, IsPath, are_texts, ends_well, last_name, stays, link_byte, link_of, slashed, final_slash, shown}
use Rattle.dav_core.specs.Path.{Names, is_plain, parts_names}
use Rattle.dav_core.specs.Grammar.{and_then, readable, begins_with_slash, Left, kept_if, names_in, prefix_names, below, placed, parsed, is_path_byte, segments, is_skipped, is_up, is_empty, with_segment, left_of, before_query, name_of, decoded, all_decoded, ends, has_slash}
use Rattle.dav_core.proofs.Links.{escapes, link_is, link_decodes}
use Rattle.dav_core.proofs.Paths.{front_join, last_pushed}

-- ---- a text has bytes

abbrev IsByte : ℕ → Type 0
IsByte b = b < 256

bytes_1 : (a : ℕ) → a < 256 → All IsByte (a ∷ [])
bytes_1 a h = All-cons IsByte a [] h (All-nil IsByte)

bytes_2 : (a b : ℕ) → a < 256 → b < 256 → All IsByte (a ∷ b ∷ [])
bytes_2 a b h k = All-cons IsByte a (b ∷ []) h (bytes_1 b k)

bytes_3 : (a b c : ℕ) → a < 256 → b < 256 → c < 256 → All IsByte (a ∷ b ∷ c ∷ [])
bytes_3 a b c h k l = All-cons IsByte a (b ∷ c ∷ []) h (bytes_2 b c k l)

bytes_4 : (a b c d : ℕ) → a < 256 → b < 256 → c < 256 → d < 256 → All IsByte (a ∷ b ∷ c ∷ d ∷ [])
bytes_4 a b c d h k l m = All-cons IsByte a (b ∷ c ∷ d ∷ []) h (bytes_3 b c d k l m)

small_scalar : (c : ℕ) → scalar c ≡ true → c < 1114112
small_scalar c s = elim (scalar_cases c s) [ inl low ↦ omega (arith, low) | inr high ↦ high.1 ]

char_bytes : (c : ℕ) → scalar c ≡ true → All IsByte (encode c)
unfolding encode
char_bytes c s =
    let small = small_scalar c s in
    cond_both (ltb c 128) (c ∷ []) _ (All IsByte) (λ e. bytes_1 c (omega (arith, ltb-true c 128 e)))
    (λ _. cond_both (ltb c 2048) ((192 + c / 64) ∷ (128 + c % 64) ∷ []) _ (All IsByte)
    (λ e. bytes_2 _ _ (omega (arith, ltb-true c 2048 e)) (omega arith))
    (λ _. cond_both (ltb c 65536) ((224 + c / 4096) ∷ (128 + c / 64 % 64) ∷ (128 + c % 64) ∷ []) _ (All IsByte)
    (λ e. bytes_3 _ _ _ (omega (arith, ltb-true c 65536 e)) (omega arith) (omega arith))
    (λ _. bytes_4 _ _ _ _ (omega (arith, small)) (omega arith) (omega arith) (omega arith))))

chars_bytes : (cs : List ℕ) → scalars cs ≡ true → All IsByte (encodes cs)
chars_bytes [] s = All-nil IsByte
chars_bytes (c ∷ cs) s =
    let p = and_parts _ _ s in
    All-append IsByte (encode c) (encodes cs) (char_bytes c p.0) (chars_bytes cs p.1)

pub text_bytes : (bs : List ℕ) → is_utf8 bs ≡ true → All IsByte bs
text_bytes bs u =
    let found = IsUtf8-from_is_utf8 bs u in
    subst (All IsByte) found.1.1 (chars_bytes found.0 found.1.0)

-- ---- the bytes of a link

abbrev is_link_byte : ℕ → Bool
is_link_byte b = is_path_byte b && not (b == 63)

escape_byte : (b : ℕ) → IsEscapeByte b → is_link_byte b ≡ true
escape_byte b h = grind (arith, nat_tests)

kept_byte : (b : ℕ) → should_percent_encode LINK b ≡ false → is_link_byte b ≡ true
kept_byte b e = let stay : not (stays b) ≡ false = sym (escapes b) ∙ e in grind (arith, nat_tests)

link_bytes : (bs : List ℕ) → All (λ b. is_link_byte b ≡ true) (link_of bs)
link_bytes bs = subst (All (λ b. is_link_byte b ≡ true)) (link_is bs) (All-percent_encode (λ b. is_link_byte b ≡ true) LINK bs kept_byte escape_byte)

-- ---- the segment of a name

abbrev IsOther : ℕ → Type 0
IsOther b = (b == 47) ≡ false

escape_other : (b : ℕ) → IsEscapeByte b → IsOther b
escape_other b h = grind (arith, nat_tests)

other_byte : (b : ℕ) → parts_names b ≡ false → All IsOther (link_byte b)
other_byte b h =
    cond_both (stays b) (b ∷ []) (percent_encode_byte b) (All IsOther)
    (λ _. All-cons IsOther b [] (or_parts _ _ h).0 (All-nil IsOther))
    (λ _. All-weaker IsEscapeByte IsOther escape_other (percent_encode_byte b) (All-percent_encode_byte b))

pub other_bytes : (bs : List ℕ) → list_any parts_names bs ≡ false → All IsOther (link_of bs)
other_bytes [] h = All-nil IsOther
other_bytes (b ∷ bs) h =
    let p = or_parts _ _ h in
    All-append IsOther (link_byte b) (link_of bs) (other_byte b p.0) (other_bytes bs p.1)

-- ---- what a name's segment is not

codes_of : (name : List ℕ) → is_utf8 name ≡ true → percent_decode (link_of name) ≡ name
codes_of name u = link_decodes name (text_bytes name u)

-- a name whose link is this text is this text decoded
named : (name text : List ℕ) → is_utf8 name ≡ true → link_of name ≡ text → name ≡ percent_decode text
named name text u e = sym (codes_of name u) ∙ ap percent_decode e

abbrev IsText : List ℕ → Type 0
IsText name = (is_plain name ≡ true) × (is_utf8 name ≡ true)

dot_decodes : percent_decode (codes ".") ≡ codes "."
unfolding percent_decode
dot_decodes = refl

dots_decode : percent_decode (codes "..") ≡ codes ".."
unfolding percent_decode
dots_decode = refl

none_decodes : percent_decode [] ≡ []
unfolding percent_decode
none_decodes = refl

not_none : (name : List ℕ) → IsText name → is_empty (link_of name) ≡ false
not_none name (plain, u) = false_from_ne_true _ (λ e. true≢false (sym plain ∙ ap is_plain (named name [] u (empty (link_of name) e) ∙ none_decodes)))
  where
    empty : (bs : List ℕ) → is_empty bs ≡ true → bs ≡ []
    empty [] e = refl
    empty (b ∷ bs) e = let none : suc (length bs) ≡ 0 = grind (arith, nat_tests, e) in absurd (omega (arith, none))

not_dot : (name : List ℕ) → IsText name → bytes_eq (link_of name) (codes ".") ≡ false
not_dot name (plain, u) = false_from_ne_true _ (λ e. true≢false (sym plain ∙ ap is_plain (named name (codes ".") u ((bytes_eq-Decides _ _).0 e) ∙ dot_decodes)))

not_dots : (name : List ℕ) → IsText name → bytes_eq (link_of name) (codes "..") ≡ false
not_dots name (plain, u) = false_from_ne_true _ (λ e. true≢false (sym plain ∙ ap is_plain (named name (codes "..") u ((bytes_eq-Decides _ _).0 e) ∙ dots_decode)))

not_skipped : (name : List ℕ) → IsText name → is_skipped (link_of name) ≡ false
not_skipped name t = or_from _ _ (not_none name t) (not_dot name t)

-- a name's segment says the name
says : (name : List ℕ) → IsText name → decoded (link_of name) ≡ Ok name
says name (plain, u) = ap name_of (codes_of name u) ∙ ap (λ b. cond b (cond (is_utf8 name) (Ok name) (Err NotText)) (Err InvalidPath)) plain ∙ ap (λ b. cond b (Ok name) (Err NotText)) u

-- ---- the segments of a link

-- the links of names
abbrev links : Names → Names
links names = map link_of names

first_text : (name : List ℕ) (names : Names) → are_texts (name ∷ names) ≡ true → IsText name × (are_texts names ≡ true)
first_text name names h =
    let p = and_parts _ _ h in
    let plain = and_parts _ _ p.0 in
    let utf8 = and_parts _ _ p.1 in
    ((plain.0, utf8.0), and_from _ _ plain.1 utf8.1)

-- the segment behind a final slash
abbrev tail_of : Bool → Names
tail_of slash = cond slash ([] ∷ []) []

slashless : (name : List ℕ) → IsText name → list_any parts_names name ≡ false
slashless name (plain, u) = not-true _ (and_parts _ _ (and_parts _ _ plain).1).0

-- names behind a segment, each after a slash
behind : (segment : List ℕ) (names : Names) (slash : Bool) → All IsOther segment → are_texts names ≡ true
    → segments (segment ++ (flat_map slashed (links names) ++ final_slash slash)) ≡ segment ∷ (links names ++ tail_of slash)
behind segment [] false other t = ap segments (append-nil segment) ∙ slice_split_none (λ b. b == 47) segment other
behind segment [] true other t = slice_split_at (λ b. b == 47) segment 47 [] other refl
behind segment (name ∷ names) slash other t =
    let p = first_text name names t in
    let regroup = append_assoc (link_of name) (flat_map slashed (links names)) (final_slash slash) in
    ap (λ rest. segments (segment ++ 47 ∷ rest)) regroup
    ∙ slice_split_at (λ b. b == 47) segment 47 (link_of name ++ (flat_map slashed (links names) ++ final_slash slash)) other refl
    ∙ ap (λ rest. segment ∷ rest) (behind (link_of name) names slash (other_bytes name (slashless name p.0)) p.1)

-- ---- all are kept, and say the names

kept_all : (names : Names) (slash : Bool) → are_texts names ≡ true → left_of (links names ++ tail_of slash) ≡ record { ups = 0; kept = links names }
kept_all [] true t = refl
kept_all [] false t = refl
kept_all (name ∷ names) slash t =
    let p = first_text name names t in
    ap (with_segment (link_of name)) (kept_all names slash p.1)
    ∙ ap (λ b. cond b (record { ups = 0; kept = links names }) (cond (is_up (link_of name)) (record { ups = 1; kept = links names }) (record { ups = 0; kept = links (name ∷ names) }))) (not_skipped name p.0)
    ∙ ap (λ b. cond b (record { ups = 1; kept = links names }) (record { ups = 0; kept = links (name ∷ names) })) (not_dots name p.0)

say_all : (names : Names) → are_texts names ≡ true → all_decoded (links names) ≡ Ok names
say_all [] t = refl
say_all (name ∷ names) t =
    let p = first_text name names t in
    ap (λ r. and_then r (λ first. and_then (all_decoded (links names)) (λ rest. Ok (first ∷ rest)))) (says name p.0)
    ∙ ap (λ r. and_then r (λ rest. Ok (name ∷ rest))) (say_all names p.1)

-- ---- the final slash

-- the last of names is the last name's
ends_never : (name : List ℕ) (names : Names) → are_texts (name ∷ names) ≡ true → ends (last_name (links (name ∷ names))) ≡ false
ends_never name [] t =
    let text = (first_text name [] t).0 in
    or_from _ _ (not_none name text) (or_from _ _ (not_dot name text) (not_dots name text))
ends_never name (next ∷ names) t =
    let more : length (links (name ∷ next ∷ names)) - 1 ≡ suc (length (links (next ∷ names)) - 1) = omega arith in
    ap (λ n. ends (slice_get (links (name ∷ next ∷ names)) n)) more ∙ ends_never next names (first_text name (next ∷ names) t).1

last_behind : (segment first : List ℕ) (names : Names) → last_name (segment ∷ first ∷ names) ≡ last_name (first ∷ names)
last_behind segment first names =
    let more : length (segment ∷ first ∷ names) - 1 ≡ suc (length (first ∷ names) - 1) = omega arith in
    ap (slice_get (segment ∷ first ∷ names)) more

-- all names of a path, the prefix's first
abbrev all_of : WebPath → Names
all_of path = path.prefix ++ path.names

slash_by : (all names : Names) (slash : Bool) → are_texts all ≡ true → (0 < length names → 0 < length all) → (not (length names == 0) || slash) ≡ true
    → has_slash ([] ∷ (links all ++ tail_of slash)) names ≡ slash
slash_by all names true t some e = ap (λ o. ends o || length names == 0) (last_pushed ([] ∷ links all) [])
slash_by [] [] false t some e = absurd (true≢false (sym e))
slash_by [] (name ∷ names) false t some e = let none : 0 < 0 = some (omega arith) in absurd (omega (arith, none))
slash_by (first ∷ all) [] false t some e = absurd (true≢false (sym e))
slash_by (first ∷ all) (name ∷ names) false t some e =
    or_from _ _
    (ap (λ l. ends (last_name ([] ∷ l))) (append-nil (links (first ∷ all))) ∙ ap ends (last_behind [] (link_of first) (links all)) ∙ ends_never first all t)
    (named_some name names)
  where
    named_some : (name : List ℕ) (names : Names) → (length (name ∷ names) == 0) ≡ false
    named_some name names = grind (arith, nat_tests)

-- ---- the whole link

-- the link of a path's text: its names' links, each behind a slash
shown_links : (names : Names) → link_of (flat_map slashed names) ≡ flat_map slashed (links names)
shown_links [] = refl
shown_links (name ∷ names) =
    flat_map-append link_byte (slashed name) (flat_map slashed names) ∙ ap (λ rest. slashed (link_of name) ++ rest) (shown_links names)

link_slash : (slash : Bool) → link_of (final_slash slash) ≡ final_slash slash
link_slash true = refl
link_slash false = refl

slashed_all : (front names : Names) → flat_map slashed (links front) ++ flat_map slashed (links names) ≡ flat_map slashed (links (front ++ names))
slashed_all front names = sym (flat_map-append slashed (links front) (links names)) ∙ ap (flat_map slashed) (sym (map-append link_of front names))

link_is_slashed : (path : WebPath) → link_of (shown path) ≡ flat_map slashed (links (all_of path)) ++ final_slash path.slash
link_is_slashed path =
    flat_map-append link_byte (flat_map slashed path.prefix) (flat_map slashed path.names ++ final_slash path.slash)
    ∙ ap₂ ◌++◌ (shown_links path.prefix) (flat_map-append link_byte (flat_map slashed path.names) (final_slash path.slash) ∙ ap₂ ◌++◌ (shown_links path.names) (link_slash path.slash))
    ∙ sym (append_assoc (flat_map slashed (links path.prefix)) (flat_map slashed (links path.names)) (final_slash path.slash))
    ∙ ap (λ text. text ++ final_slash path.slash) (slashed_all path.prefix path.names)

-- ---- the text can be read

small_bytes : (b : ℕ) → is_link_byte b ≡ true → is_path_byte b ≡ true
small_bytes b h = (and_parts _ _ h).0

no_query : (b : ℕ) → is_link_byte b ≡ true → (b == 63) ≡ false
no_query b h = not-true _ (and_parts _ _ h).1

uncut : (text : List ℕ) → All (λ b. (b == 63) ≡ false) text → before_query text ≡ text
uncut [] h = refl
uncut (b ∷ text) h =
    let first = All-head (λ b. (b == 63) ≡ false) b text h in
    ap (λ t. take (cond (not t) (1 + position_or_len (λ b. b == 63) text) 0) (b ∷ text)) first ∙ more b text ∙ ap (λ rest. b ∷ rest) (uncut text (All-tail (λ b. (b == 63) ≡ false) b text h))
  where
    more : (b : ℕ) (text : List ℕ) → take (1 + position_or_len (λ b. b == 63) text) (b ∷ text) ≡ b ∷ before_query text
    more b text = let e : 1 + position_or_len (λ b. b == 63) text ≡ suc (position_or_len (λ b. b == 63) text) = omega arith in ap (λ n. take n (b ∷ text)) e

begins : (names : Names) (slash : Bool) → (0 < length names) ⊎ (slash ≡ true) → begins_with_slash (flat_map slashed (links names) ++ final_slash slash) ≡ true
begins (name ∷ names) slash h = refl
begins [] true h = refl
begins [] false (inl some) = absurd (omega (arith, some))
begins [] false (inr e) = absurd (true≢false (sym e))

-- what is read of a text of link bytes that begins with a slash
can_be_read : (text : List ℕ) → All (λ b. is_link_byte b ≡ true) text → begins_with_slash text ≡ true → readable (before_query text) ≡ Ok text
can_be_read text bytes first =
    let whole = uncut text (All-weaker (λ b. is_link_byte b ≡ true) (λ b. (b == 63) ≡ false) no_query text bytes) in
    let all : list_all is_path_byte text ≡ true = list_all-from_AllPass is_path_byte text (All-weaker (λ b. is_link_byte b ≡ true) (λ b. is_path_byte b ≡ true) small_bytes text bytes) in
    ap readable whole ∙ ap (λ b. cond b (Ok text) (Err InvalidPath)) (and_from _ _ all first)

-- ---- the path again

-- names below a prefix
below_itself : (path : WebPath) → below path.prefix (all_of path) ≡ Ok path.names
below_itself path =
    ap (λ b. cond b (Ok (drop (length path.prefix) (all_of path))) (Err PrefixMismatch)) (front_join path.prefix path.names)
    ∙ ap (λ names. Ok names) (drop_at path.prefix path.names (length path.prefix) refl)

some_slash : (path : WebPath) → ends_well path ≡ true → (0 < length (all_of path)) ⊎ (path.slash ≡ true)
some_slash path well = by path.names refl
  where
    by : (names : Names) → path.names ≡ names → (0 < length (all_of path)) ⊎ (path.slash ≡ true)
    by [] e = inr (sym (ap (λ (n : Names). not (length n == 0) || path.slash) e) ∙ well)
    by (name ∷ names) e = inl (omega (arith, length-append path.prefix path.names, ap length e))

placed_again : (path : WebPath) → are_texts (all_of path) ≡ true → ends_well path ≡ true
    → placed ([] ∷ (links (all_of path) ++ tail_of path.slash)) path.prefix (all_of path) ≡ Ok path
placed_again path t well =
    ap (λ r. and_then r (λ names. Ok (record { prefix = path.prefix; names = names; slash = has_slash ([] ∷ (links (all_of path) ++ tail_of path.slash)) names }))) (below_itself path)
    ∙ ap (λ slash. Ok (record { prefix = path.prefix; names = path.names; slash = slash }))
    (slash_by (all_of path) path.names path.slash t (λ some. omega (arith, length-append path.prefix path.names, some)) well)

read_again : (path : WebPath) → are_texts (all_of path) ≡ true
    → and_then (names_in ([] ∷ (links (all_of path) ++ tail_of path.slash))) (placed ([] ∷ (links (all_of path) ++ tail_of path.slash)) path.prefix)
    ≡ placed ([] ∷ (links (all_of path) ++ tail_of path.slash)) path.prefix (all_of path)
read_again path t =
    let segs = [] ∷ (links (all_of path) ++ tail_of path.slash) in
    ap (λ (l : Left). and_then (and_then (kept_if l.ups l.kept) all_decoded) (placed segs path.prefix)) (kept_all (all_of path) path.slash t)
    ∙ ap (λ r. and_then r (placed segs path.prefix)) (say_all (all_of path) t)

pub parsed_back : (path : WebPath) (prefix : List ℕ) → IsPath path → prefix_names prefix ≡ path.prefix → parsed (link_of (shown path)) prefix ≡ Ok path
parsed_back path prefix is below =
    let t = is.texts in
    let text = link_of (shown path) in
    let same = link_is_slashed path in
    let first : begins_with_slash text ≡ true = ap begins_with_slash same ∙ begins (all_of path) path.slash (some_slash path is.ends) in
    let cut : segments text ≡ [] ∷ (links (all_of path) ++ tail_of path.slash) = ap segments same ∙ behind [] (all_of path) path.slash (All-nil IsOther) t in
    ap (λ r. and_then r (λ cut. and_then (names_in (segments cut)) (placed (segments cut) (prefix_names prefix)))) (can_be_read text (link_bytes (shown path)) first)
    ∙ ap (λ names. and_then (names_in (segments text)) (placed (segments text) names)) below
    ∙ ap (λ segs. and_then (names_in segs) (placed segs path.prefix)) cut
    ∙ read_again path t ∙ placed_again path t is.ends
