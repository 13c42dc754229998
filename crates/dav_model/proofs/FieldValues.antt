-- The values of the fields of replies are field values: lengths in decimal, dates, tags, types and addresses.
use Rattle.std.proofs.Common.{◌≡◌, ◌≤◌, ◌<◌, ◌+◌, ◌-◌, ◌/◌, ◌%◌, ◌==◌, ◌++◌, ℕ, zero, suc, List, [], ◌∷◌, Bool, true, false, cond, codes, decimal, find, if◌then◌else◌, slice_index_or, Option, None, Some, refl, sym, subst, ◌∙◌, append_assoc, arith}
use Rattle.std.specs.Fmt.{digits, digits_onto, digit_glyph}
use Rattle.std.specs.List.{list_all}
use Rattle.std.specs.Str.{str_eq_ignore_ascii_case}
use Rattle.std.proofs.lemmas.Bool.{and_parts, and_from}
use Rattle.std.proofs.lemmas.Bool.Decides.{nat_tests}
use Rattle.std.proofs.lemmas.List.Folds.{list_all-append}
use Rattle.http_header.specs.Token.{is_value_byte}
use Rattle.httpdate.specs.Calendar.{days_in_month}
use Rattle.httpdate.specs.Date.{date_text}
use Rattle.httpdate.specs.Text.{day_name, four_digits, imf_fixdate, month_name, time_of_day, two_digits}
use Rattle.httpdate.specs.declared.date.HttpDate.{HttpDate}
use Rattle.httpdate.specs.declared.parts.Parts.{Parts}
use Rattle.percent_encoding.specs.Percent.{percent_encode_byte}
use Rattle.dav_core.specs.declared.time.FileTime.{FileTime}
use Rattle.dav_core.specs.ContentTypes.{Row, after_dot, type_in, type_of_part, types}
use Rattle.dav_core.specs.DavPath.{link_byte, link_of, stays, type_of_last, is_printable}
use Rattle.dav_core.specs.Tags.{HasTagBytes, is_tag_byte}
use Rattle.dav_model.specs.declared.ranges.Slice.{Slice}
use Rattle.dav_model.specs.declared.sent.Sent.{Sent}
use Rattle.dav_model.specs.declared.sent.Sent.TheVariants.{All, Alone, Unsatisfied, One, Several}
use Rattle.dav_model.specs.Head.{quoted_where, sent_length, sent_range, sent_type, span_text, IsDate}
use Rattle.std.specs.Option.{option_map}

-- each byte of a text is one of a field value
pub record Fits (text : List ℕ) : Type 0 where
  pub all : list_all is_value_byte text ≡ true

-- the text, where there is one
abbrev pub FitsWhere : Option (List ℕ) → Type 0
FitsWhere None = Unit {0}
FitsWhere (Some text) = Fits text

more : (b : ℕ) (text : List ℕ) → is_value_byte b ≡ true → Fits text → Fits (b ∷ text)
more b text p q = record { all = and_from (is_value_byte b) (list_all is_value_byte text) p q.all }

pub fits_both : (a b : List ℕ) → Fits a → Fits b → Fits (a ++ b)
fits_both a b p q = record { all = list_all-append is_value_byte a b ∙ and_from (list_all is_value_byte a) (list_all is_value_byte b) p.all q.all }

-- Bytes of another kind are bytes of a field value.
of_kind : (test : ℕ → Bool) → ((b : ℕ) → test b ≡ true → is_value_byte b ≡ true) → (text : List ℕ) → list_all test text ≡ true → Fits text
of_kind test each [] e = record { all = refl }
of_kind test each (b ∷ text) e = let p = and_parts (test b) (list_all test text) e in more b text (each b p.0) (of_kind test each text p.1)

-- ---- numbers

glyph : (d : ℕ) → d < 10 → is_value_byte (digit_glyph false d) ≡ true
glyph d small = grind (arith, nat_tests)

if_fits : (t : Bool) (x y : List ℕ) → Fits x → Fits y → Fits (cond t x y)
if_fits true x y p q = p
if_fits false x y p q = q

onto : (k n : ℕ) (text : List ℕ) → Fits text → Fits (digits_onto k 10 false n text)
onto zero n text p = p
onto (suc k) n text p =
    let front : Fits (digit_glyph false (n % 10) ∷ text) = more (digit_glyph false (n % 10)) text (glyph (n % 10) (omega arith)) p in
    if_fits (n / 10 == 0) (digit_glyph false (n % 10) ∷ text) (digits_onto k 10 false (n / 10) (digit_glyph false (n % 10) ∷ text)) front (onto k (n / 10) (digit_glyph false (n % 10) ∷ text) front)

-- of every number, however great
pub decimal_fits : (n : ℕ) → Fits (decimal n)
unfolding digits
decimal_fits n = onto 64 n [] (record { all = refl })

span_fits : (len : ℕ) (part : Slice) → Fits (span_text len part)
span_fits len part =
    fits_both (decimal part.start) _ (decimal_fits part.start)
    (fits_both (codes "-") _ (record { all = refl })
    (fits_both (decimal _) _ (decimal_fits _) (fits_both (codes "/") (decimal len) (record { all = refl }) (decimal_fits len))))

pub length_fits : (gives : Bool) (len : ℕ) (sent : Sent) → FitsWhere (option_map decimal (sent_length gives len sent))
length_fits gives len All = decimal_fits len
length_fits gives len (Alone status) = decimal_fits _
length_fits gives len Unsatisfied = decimal_fits _
length_fits gives len (One part) = decimal_fits part.count
length_fits gives len (Several parts) = tt

pub range_fits : (len : ℕ) (sent : Sent) → FitsWhere (sent_range len sent)
range_fits len All = tt
range_fits len (Alone status) = tt
range_fits len Unsatisfied = fits_both (codes "bytes */") (decimal len) (record { all = refl }) (decimal_fits len)
range_fits len (One part) = fits_both (codes "bytes ") (span_text len part) (record { all = refl }) (span_fits len part)
range_fits len (Several parts) = tt

-- ---- types

either_row : (b : Bool) (row : Row) (other : Option Row) → Fits row.type → Fits (type_in other) → Fits (type_in (cond b (Some row) other))
either_row true row other p q = p
either_row false row other p q = q

in_rows : (test : Row → Bool) (rows : List Row) → list_all (λ row. list_all is_value_byte row.type) rows ≡ true → Fits (type_in (find test rows))
in_rows test [] e = record { all = refl }
in_rows test (row ∷ rows) e =
    let p = and_parts (list_all is_value_byte row.type) (list_all (λ row. list_all is_value_byte row.type) rows) e in
    either_row (test row) row (find test rows) (record { all = p.0 }) (in_rows test rows p.1)

part_fits : (part : Option (List ℕ)) → Fits (type_of_part part)
part_fits None = record { all = refl }
part_fits (Some part) = in_rows (λ row. str_eq_ignore_ascii_case row.part part) types refl

pub type_fits : (name : Option (List ℕ)) → Fits (type_of_last name)
type_fits None = record { all = refl }
type_fits (Some name) = part_fits (after_dot name)

pub sent_type_fits : (type : List ℕ) (sent : Sent) → Fits type → Fits (sent_type type sent)
sent_type_fits type All fits = fits
sent_type_fits type (Alone status) fits = fits
sent_type_fits type Unsatisfied fits = fits
sent_type_fits type (One part) fits = fits
sent_type_fits type (Several parts) fits = record { all = refl }

-- ---- tags and addresses

tag_byte : (b : ℕ) → is_tag_byte b ≡ true → is_value_byte b ≡ true
tag_byte b e = grind (arith, nat_tests)

pub tag_fits : (tag : Option (List ℕ)) → HasTagBytes tag → FitsWhere (quoted_where tag)
tag_fits None has = tt
tag_fits (Some tag) has = more 34 (tag ++ 34 ∷ []) refl (fits_both tag (34 ∷ []) (of_kind is_tag_byte tag_byte tag has) (record { all = refl }))

printable_byte : (b : ℕ) → is_printable b ≡ true → is_value_byte b ≡ true
printable_byte b e = grind (arith, nat_tests)

pub address_fits : (address : List ℕ) → list_all is_printable address ≡ true → Fits address
address_fits address all = of_kind is_printable printable_byte address all

-- ---- links

escaped_fits : (b : ℕ) → Fits (percent_encode_byte b)
unfolding percent_encode_byte
escaped_fits b = more 37 _ refl (more (digit_glyph true (b / 16 % 16)) _ (capital (b / 16 % 16) (omega arith)) (more (digit_glyph true (b % 16)) [] (capital (b % 16) (omega arith)) (record { all = refl })))
  where
    capital : (d : ℕ) → d < 16 → is_value_byte (digit_glyph true d) ≡ true
    capital d small = grind (arith, nat_tests)

link_byte_fits : (b : ℕ) → Fits (link_byte b)
link_byte_fits b = by_stay (stays b) refl
  where
    kept : stays b ≡ true → is_value_byte b ≡ true
    kept is = grind (arith, nat_tests)

    by_stay : (t : Bool) → stays b ≡ t → Fits (if t then (b ∷ []) else percent_encode_byte b)
    by_stay true is = more b [] (kept is) (record { all = refl })
    by_stay false is = escaped_fits b

-- a link of any bytes
pub link_fits : (bytes : List ℕ) → Fits (link_of bytes)
link_fits [] = record { all = refl }
link_fits (b ∷ bytes) = fits_both (link_byte b) (link_of bytes) (link_byte_fits b) (link_fits bytes)

-- ---- dates

tens : (n : ℕ) → n < 100 → is_value_byte (48 + n / 10) ≡ true
tens n small = grind (arith, nat_tests)

ones : (n : ℕ) → is_value_byte (48 + n % 10) ≡ true
ones n = grind (arith, nat_tests)

two_fit : (n : ℕ) → n < 100 → Fits (two_digits n)
two_fit n small = more (48 + n / 10) ((48 + n % 10) ∷ []) (tens n small) (more (48 + n % 10) [] (ones n) (record { all = refl }))

indexed : (texts : List (List ℕ)) (i : ℕ) → list_all (list_all is_value_byte) texts ≡ true → Fits (slice_index_or texts i [])
indexed [] i e = record { all = refl }
indexed (text ∷ texts) zero e = record { all = (and_parts (list_all is_value_byte text) (list_all (list_all is_value_byte) texts) e).0 }
indexed (text ∷ texts) (suc i) e = indexed texts i (and_parts (list_all is_value_byte text) (list_all (list_all is_value_byte) texts) e).1

time_fits : (p : Parts) → p.hour < 100 → p.min < 100 → p.sec < 100 → Fits (time_of_day p)
time_fits p hour min sec =
    fits_both (two_digits p.hour) _ (two_fit p.hour hour) (fits_both (codes ":") _ (record { all = refl }) (fits_both (two_digits p.min) _ (two_fit p.min min)
    (fits_both (codes ":") _ (record { all = refl }) (two_fit p.sec sec))))

month_days : (y m : ℕ) → days_in_month y m < 100
month_days y m = grind (arith, nat_tests)

day_fits : (n : ℕ) → Fits (day_name n)
day_fits n =
    indexed (codes "Mon" ∷ codes "Tue" ∷ codes "Wed" ∷ codes "Thu" ∷ codes "Fri" ∷ codes "Sat" ∷ codes "Sun" ∷ []) (n - 1) refl

month_fits : (n : ℕ) → Fits (month_name n)
month_fits n =
    indexed (codes "Jan" ∷ codes "Feb" ∷ codes "Mar" ∷ codes "Apr" ∷ codes "May" ∷ codes "Jun" ∷ codes "Jul" ∷ codes "Aug" ∷ codes "Sep" ∷ codes "Oct" ∷ codes "Nov" ∷ codes "Dec" ∷ []) (n - 1) refl

abbrev behind_day : Parts → List ℕ
behind_day p =
    codes ", " ++ (two_digits p.day ++ (codes " " ++ (month_name p.mon ++ (codes " " ++ (four_digits p.year ++ (codes " " ++ (time_of_day p ++ codes " GMT")))))))

grouped : (p : Parts) → imf_fixdate p ≡ day_name p.wday ++ behind_day p
grouped p = simp append_assoc

behind_fits : (p : Parts) → p.day < 100 → p.year / 100 < 100 → p.hour < 100 → p.min < 100 → p.sec < 100 → Fits (behind_day p)
behind_fits p day year hour min sec =
    fits_both (codes ", ") _ (record { all = refl }) (fits_both (two_digits p.day) _ (two_fit p.day day)
    (fits_both (codes " ") _ (record { all = refl }) (fits_both (month_name p.mon) _ (month_fits p.mon) (fits_both (codes " ") _ (record { all = refl })
    (fits_both (four_digits p.year) _ (fits_both (two_digits (p.year / 100)) (two_digits (p.year % 100)) (two_fit (p.year / 100) year) (two_fit (p.year % 100) (omega arith)))
    (fits_both (codes " ") _ (record { all = refl }) (fits_both (time_of_day p) (codes " GMT") (time_fits p hour min sec) (record { all = refl }))))))))

pub text_fits : (date : HttpDate) → Fits (date_text date)
text_fits date =
    let p : Parts = date.parts in
    let (years, months, days) = date.civil in
    let (hour, min, sec) = date.time in
    let limit : days_in_month p.year p.mon < 100 = month_days p.year p.mon in
    let last : p.day ≤ days_in_month p.year p.mon = days.1 in
    let year : p.year ≤ 9999 = years.1 in
    subst Fits (sym (grouped p)) (fits_both (day_name p.wday) (behind_day p) (day_fits p.wday)
    (behind_fits p (omega (arith, limit, last)) (omega (arith, year)) (omega (arith, hour)) (omega (arith, min)) (omega (arith, sec))))

pub date_fits : (modified : Option FileTime) (date : Option (List ℕ)) → IsDate modified date → FitsWhere date
date_fits None date is = rw is tt
date_fits (Some time) date (shown, secs, is) = rw is (text_fits shown)
