-- The fields of each reply stand in order, and each is a field.
use Rattle.std.proofs.Common.{◌≡◌, ◌&&◌, ◌⊎◌, inl, inr, ◌++◌, ℕ, List, [], ◌∷◌, map, Bool, true, false, cond, All, Contains, codes, bytes_eq, not, decimal, option_map, Option, None, Some, refl, sym, ap, subst, ◌∙◌, arith, true≢false}
use Rattle.std.specs.Ordering.{nat_cmp, is_lt}
use Rattle.std.specs.declared.cmp.Ordering.TheVariants.{Less}
use Rattle.std.specs.Cmp.Lexicographic.{slice_cmp}
use Rattle.std.specs.List.{list_all, AllByRecursion, filter, flat_map, join_by}
use Rattle.std.specs.List.Sorted.{IsStrictlySortedBy}
use Rattle.std.proofs.lemmas.Bool.{and_parts, not-true}
use Rattle.std.proofs.lemmas.Slice.Eq.{bytes_eq-Decides}
use Rattle.std.proofs.lemmas.List.Elements.{All-cons, All-nil}
use Rattle.std.proofs.lemmas.List.Sums.{AllPass-from_list_all}
use Rattle.http_header.specs.Token.{IsToken, is_token_byte, is_value_byte}
use Rattle.dav_io.specs.declared.fields.Field.{Field}
use Rattle.dav_io.proofs.Cases.{less_is}
use Rattle.dav_core.specs.declared.method.DavMethod.{DavMethod}
use Rattle.dav_core.specs.declared.method.DavMethodSet.{DavMethodSet}
use Rattle.dav_model.specs.declared.sent.Sent.{Sent}
use Rattle.dav_model.specs.Allowing.{allowing, answered, is_told, word_of, words_told}
use Rattle.dav_model.specs.Conditions.{Fields}
use Rattle.dav_model.specs.Head.{closing, field, field_where, is_uncached, quoted_where, redirected_fields, refusal, refused_fields, sent_fields, sent_length, sent_range, sent_type, uncached_last, well_known}
use Rattle.dav_model.specs.Indexes.{page_fields}
use Rattle.dav_model.specs.WellFormed.{Ascend, IsReplyField, reply_names}
use Rattle.dav_model.proofs.FieldValues.{Fits, FitsWhere, fits_both, length_fits, range_fits, sent_type_fits}

-- A value of a field of this name: of a connection it is that it closes.
abbrev IsValue : List ℕ → List ℕ → Type 0
IsValue name value = Fits value × (bytes_eq name (codes "connection") ≡ true → value ≡ codes "close")

-- The fields have some of these names, in their order.
abbrev pub HasSome : List (List ℕ) → List Field → Type 0
HasSome names [] = Unit {0}
HasSome [] (f ∷ fields) = ⊥
HasSome (name ∷ names) (f ∷ fields) = ((f.name ≡ name) × IsValue name f.value × HasSome names fields) ⊎ HasSome names (f ∷ fields)

-- ---- from names to fields

abbrev in_order : List (List ℕ) → Bool
in_order [] = true
in_order (x ∷ xs) = list_all (λ y. is_lt (slice_cmp nat_cmp x y)) xs && in_order xs

below : (x : List ℕ) (names : List (List ℕ)) (fields : List Field) → list_all (λ y. is_lt (slice_cmp nat_cmp x y)) names ≡ true → HasSome names fields
    → AllByRecursion (λ y. slice_cmp nat_cmp x y ≡ Less) (map (λ (f : Field). f.name) fields)
below x names [] e has = tt
below x [] (f ∷ fields) e has = absurd has
below x (name ∷ names) (f ∷ fields) e (inl (same, is, has)) =
    let p = and_parts (is_lt (slice_cmp nat_cmp x name)) (list_all (λ y. is_lt (slice_cmp nat_cmp x y)) names) e in
    (subst (λ y. slice_cmp nat_cmp x y ≡ Less) (sym same) (less_is (slice_cmp nat_cmp x name) p.0), below x names fields p.1 has)
below x (name ∷ names) (f ∷ fields) e (inr has) =
    below x names (f ∷ fields) (and_parts (is_lt (slice_cmp nat_cmp x name)) (list_all (λ y. is_lt (slice_cmp nat_cmp x y)) names) e).1 has

sorted : (names : List (List ℕ)) (fields : List Field) → in_order names ≡ true → HasSome names fields
    → IsStrictlySortedBy (slice_cmp nat_cmp) (map (λ (f : Field). f.name) fields)
unfolding IsStrictlySortedBy
sorted names [] e has = tt
sorted [] (f ∷ fields) e has = absurd has
sorted (name ∷ names) (f ∷ fields) e (inl (same, is, has)) =
    let p = and_parts (list_all (λ y. is_lt (slice_cmp nat_cmp name y)) names) (in_order names) e in
    (below f.name names fields (subst (λ x. list_all (λ y. is_lt (slice_cmp nat_cmp x y)) names ≡ true) (sym same) p.0) has, sorted names fields p.1 has)
sorted (name ∷ names) (f ∷ fields) e (inr has) =
    sorted names (f ∷ fields) (and_parts (list_all (λ y. is_lt (slice_cmp nat_cmp name y)) names) (in_order names) e).1 has

-- a name of the table
record IsKnown (name : List ℕ) : Type 0 where
  token : IsToken name
  among : Contains reply_names name

known : (name : List ℕ) → IsToken name → Contains reply_names name → IsKnown name
known name token among = record { token = token; among = among }

known_names : AllByRecursion IsKnown reply_names
unfolding is_token_byte
known_names = (
  known (codes "accept-ranges") (omega arith, AllPass-from_list_all is_token_byte (codes "accept-ranges") refl) (0, omega arith, refl),
  (
    known (codes "allow") (omega arith, AllPass-from_list_all is_token_byte (codes "allow") refl) (1, omega arith, refl),
    (
      known (codes "cache-control") (omega arith, AllPass-from_list_all is_token_byte (codes "cache-control") refl) (2, omega arith, refl),
      (
        known (codes "connection") (omega arith, AllPass-from_list_all is_token_byte (codes "connection") refl) (3, omega arith, refl),
        (
          known (codes "content-length") (omega arith, AllPass-from_list_all is_token_byte (codes "content-length") refl) (4, omega arith, refl),
          (
            known (codes "content-range") (omega arith, AllPass-from_list_all is_token_byte (codes "content-range") refl) (5, omega arith, refl),
            (
              known (codes "content-type") (omega arith, AllPass-from_list_all is_token_byte (codes "content-type") refl) (6, omega arith, refl),
              (
                known (codes "dav") (omega arith, AllPass-from_list_all is_token_byte (codes "dav") refl) (7, omega arith, refl),
                (
                  known (codes "etag") (omega arith, AllPass-from_list_all is_token_byte (codes "etag") refl) (8, omega arith, refl),
                  (
                    known (codes "expires") (omega arith, AllPass-from_list_all is_token_byte (codes "expires") refl) (9, omega arith, refl),
                    (
                      known (codes "last-modified") (omega arith, AllPass-from_list_all is_token_byte (codes "last-modified") refl) (10, omega arith, refl),
                      (
                        known (codes "location") (omega arith, AllPass-from_list_all is_token_byte (codes "location") refl) (11, omega arith, refl),
                        (
                          known (codes "ms-author-via") (omega arith, AllPass-from_list_all is_token_byte (codes "ms-author-via") refl) (12, omega arith, refl),
                          (
                            known (codes "pragma") (omega arith, AllPass-from_list_all is_token_byte (codes "pragma") refl) (13, omega arith, refl),
                            (
                              known (codes "vary") (omega arith, AllPass-from_list_all is_token_byte (codes "vary") refl) (14, omega arith, refl),
                              tt,
                            ),
                          ),
                        ),
                      ),
                    ),
                  ),
                ),
              ),
            ),
          ),
        ),
      ),
    ),
  ),
)

reply_field : (name : List ℕ) (f : Field) → f.name ≡ name → IsKnown name → IsValue name f.value → IsReplyField f
reply_field name f same known is = record {
  known = subst (Contains reply_names) (sym same) known.among;
  name = subst IsToken (sym same) known.token;
  value = AllPass-from_list_all is_value_byte f.value is.0.all;
  closes = λ e. is.1 (ap (λ x. bytes_eq x (codes "connection")) (sym same ∙ e));
}

each : (names : List (List ℕ)) (fields : List Field) → AllByRecursion IsKnown names → HasSome names fields → All IsReplyField fields
each names [] known has = All-nil IsReplyField
each [] (f ∷ fields) known has = absurd has
each (name ∷ names) (f ∷ fields) (known, more) (inl (same, is, has)) =
    All-cons IsReplyField f fields (reply_field name f same known is) (each names fields more has)
each (name ∷ names) (f ∷ fields) (known, more) (inr has) = each names (f ∷ fields) more has

pub ascend_some : (fields : List Field) → HasSome reply_names fields → Ascend fields
ascend_some fields has = sorted reply_names fields refl has

pub each_some : (fields : List Field) → HasSome reply_names fields → All IsReplyField fields
each_some fields has = each reply_names fields known_names has

skip : (name : List ℕ) (names : List (List ℕ)) (fields : List Field) → HasSome names fields → HasSome (name ∷ names) fields
skip name names [] has = tt
skip name names (f ∷ fields) has = inr has

value_of_other : (name value : List ℕ) → bytes_eq name (codes "connection") ≡ false → Fits value → IsValue name value
value_of_other name value other fits = (fits, λ e. absurd (true≢false (sym e ∙ other)))

-- ---- replies as templates: fields in the order of their names, some of which may be absent

data Entry : Type 0 where
  must : List ℕ → List ℕ → Entry
  may : List ℕ → Option (List ℕ) → Entry
  -- the connection closes
  closes : Entry

abbrev entry_name : Entry → List ℕ
entry_name (must name value) = name
entry_name (may name value) = name
entry_name closes = codes "connection"

abbrev fields_in : List Entry → List Field
fields_in [] = []
fields_in (must name value ∷ entries) = field name value ∷ fields_in entries
fields_in (may name value ∷ entries) = field_where name value ++ fields_in entries
fields_in (closes ∷ entries) = field (codes "connection") (codes "close") ∷ fields_in entries

abbrev EntryFits : Entry → Type 0
EntryFits (must name value) = Fits value
EntryFits (may name value) = FitsWhere value
EntryFits closes = Unit {0}

abbrev is_other : Entry → Bool
is_other (must name value) = not (bytes_eq name (codes "connection"))
is_other (may name value) = not (bytes_eq name (codes "connection"))
is_other closes = true

abbrev are_among : List Entry → List (List ℕ) → Bool
are_among [] names = true
are_among (entry ∷ entries) [] = false
are_among (entry ∷ entries) (name ∷ names) =
    cond (bytes_eq (entry_name entry) name) (is_other entry && are_among entries names) (are_among (entry ∷ entries) names)

valued : (n name value : List ℕ) → n ≡ name → not (bytes_eq n (codes "connection")) ≡ true → Fits value → IsValue name value
valued n name value same other fit = subst (λ m. IsValue m value) same (value_of_other n value (not-true _ other) fit)

front : (name : List ℕ) (names : List (List ℕ)) (entry : Entry) (entries : List Entry) → entry_name entry ≡ name → is_other entry ≡ true
    → EntryFits entry → HasSome names (fields_in entries) → HasSome (name ∷ names) (fields_in (entry ∷ entries))
front name names (must n v) entries same other fit has = inl (same, valued n name v same other fit, has)
front name names (may n None) entries same other fit has = skip name names (fields_in entries) has
front name names (may n (Some v)) entries same other fit has = inl (same, valued n name v same other fit, has)
front name names closes entries same other fit has = inl (same, (record { all = refl }, λ e. refl), has)

covers : (names : List (List ℕ)) (entries : List Entry) → are_among entries names ≡ true → AllByRecursion EntryFits entries
    → HasSome names (fields_in entries)
covers names [] among fit = tt
covers [] (entry ∷ entries) among fit = absurd (true≢false (sym among))
covers (name ∷ names) (entry ∷ entries) among (fit, fits) =
    by_name (bytes_eq (entry_name entry) name) refl among (λ more. covers names entries more fits)
    (λ more. covers names (entry ∷ entries) more (fit, fits))
  where
    by_name : (b : Bool) → bytes_eq (entry_name entry) name ≡ b
        → cond b (is_other entry && are_among entries names) (are_among (entry ∷ entries) names) ≡ true
        → (are_among entries names ≡ true → HasSome names (fields_in entries))
        → (are_among (entry ∷ entries) names ≡ true → HasSome names (fields_in (entry ∷ entries)))
        → HasSome (name ∷ names) (fields_in (entry ∷ entries))
    by_name true same more here later =
        let p = and_parts (is_other entry) (are_among entries names) more in
        front name names entry entries ((bytes_eq-Decides _ _).0 same) p.0 fit (here p.1)
    by_name false other more here later = skip name names (fields_in (entry ∷ entries)) (later more)

-- ---- the fields of each reply

abbrev zero : Entry
zero = must (codes "content-length") (codes "0")

abbrev last_uncached : List Entry
last_uncached = must (codes "expires") (codes "0") ∷ must (codes "pragma") (codes "no-cache") ∷ must (codes "vary") (codes "*") ∷ []

abbrev uncached : Entry
uncached = must (codes "cache-control") (codes "no-store, no-cache, must-revalidate")

refused_some : (uncached close : Bool) → HasSome reply_names (refused_fields uncached close)
refused_some true true = covers reply_names (uncached ∷ closes ∷ zero ∷ last_uncached) refl
    (record { all = refl }, (tt, (record { all = refl }, (record { all = refl }, (record { all = refl }, (record { all = refl }, tt))))))
refused_some true false = covers reply_names (uncached ∷ zero ∷ last_uncached) refl
    (record { all = refl }, (record { all = refl }, (record { all = refl }, (record { all = refl }, (record { all = refl }, tt)))))
refused_some false true = covers reply_names (closes ∷ zero ∷ []) refl (tt, (record { all = refl }, tt))
refused_some false false = covers reply_names (zero ∷ []) refl (record { all = refl }, tt)

pub refusal_some : (fields : Fields) (status : ℕ) (close : Bool) → HasSome reply_names (refusal fields status close).fields
refusal_some fields status close = refused_some (is_uncached fields status) close

pub known_some : HasSome reply_names well_known.fields
known_some = covers reply_names (must (codes "accept-ranges") (codes "bytes") ∷ zero ∷ []) refl
    (record { all = refl }, (record { all = refl }, tt))

pub redirect_some : (address : List ℕ) (tag date : Option (List ℕ)) → Fits address → FitsWhere (quoted_where tag) → FitsWhere date → HasSome reply_names (redirected_fields address tag date)
redirect_some address tag date fits tagged dated = covers reply_names
    (zero ∷ may (codes "etag") (quoted_where tag) ∷ may (codes "last-modified") date ∷ must (codes "location") address ∷ []) refl
    (record { all = refl }, (tagged, (dated, (fits, tt))))

pub sent_some : (gives : Bool) (type : List ℕ) (len : ℕ) (tag date : Option (List ℕ)) (sent : Sent) → Fits type → FitsWhere (quoted_where tag) → FitsWhere date
    → HasSome reply_names (sent_fields gives type len tag date sent)
sent_some gives type len tag None sent fits tagged dated = covers reply_names
    (must (codes "accept-ranges") (codes "bytes") ∷ may (codes "content-length") (option_map decimal (sent_length gives len sent))
    ∷ may (codes "content-range") (sent_range len sent) ∷ must (codes "content-type") (sent_type type sent)
    ∷ may (codes "etag") (quoted_where tag) ∷ []) refl
    (record { all = refl }, (length_fits gives len sent, (range_fits len sent, (sent_type_fits type sent fits, (tagged, tt)))))
sent_some gives type len tag (Some date) sent fits tagged dated = covers reply_names
    (must (codes "accept-ranges") (codes "bytes") ∷ may (codes "content-length") (option_map decimal (sent_length gives len sent))
    ∷ may (codes "content-range") (sent_range len sent) ∷ must (codes "content-type") (sent_type type sent)
    ∷ may (codes "etag") (quoted_where tag) ∷ must (codes "last-modified") date ∷ []) refl
    (record { all = refl }, (length_fits gives len sent, (range_fits len sent, (sent_type_fits type sent fits, (tagged, (dated, tt))))))

pub page_some : HasSome reply_names page_fields
page_some = covers reply_names (must (codes "content-type") (codes "text/html; charset=utf-8") ∷ []) refl (record { all = refl }, tt)

-- words behind their separators
behind_fits : (separator : List ℕ) (words : List (List ℕ)) → Fits separator → AllByRecursion Fits words → Fits (flat_map (λ word. separator ++ word) words)
behind_fits separator [] fits all = record { all = refl }
behind_fits separator (word ∷ words) fits (p, all) =
    fits_both (separator ++ word) _ (fits_both separator word fits p) (behind_fits separator words fits all)

joined_fits : (separator : List ℕ) (words : List (List ℕ)) → Fits separator → AllByRecursion Fits words → Fits (join_by (λ word. word) separator words)
joined_fits separator [] fits all = record { all = refl }
joined_fits separator (word ∷ words) fits (p, all) = fits_both word _ p (behind_fits separator words fits all)

-- the words of methods that pass a test
some_fit : (test : DavMethod → Bool) (methods : List DavMethod) → AllByRecursion (λ method. Fits (word_of method)) methods → AllByRecursion Fits (map word_of (filter test methods))
some_fit test [] all = tt
some_fit test (method ∷ methods) (p, all) = by_test (test method) (some_fit test methods all)
  where
    by_test : (b : Bool) → AllByRecursion Fits (map word_of (filter test methods)) → AllByRecursion Fits (map word_of (cond b (method ∷ filter test methods) (filter test methods)))
    by_test true rest = (p, rest)
    by_test false rest = rest

pub allowing_some : (allow : Option DavMethodSet) (void : Bool) → HasSome reply_names (allowing allow void).fields
allowing_some allow void =
    let words : Fits (join_by (λ word. word) (codes ",") (words_told allow void)) =
    joined_fits (codes ",") (words_told allow void) (record { all = refl })
    (some_fit (is_told allow void) answered
    (record { all = refl }, (record { all = refl }, (record { all = refl }, (record { all = refl }, (record { all = refl }, (record { all = refl }, (record { all = refl }, (record { all = refl }, (record { all = refl }, (record { all = refl }, tt))))))))))) in
    covers reply_names
    (must (codes "allow") (join_by (λ word. word) (codes ",") (words_told allow void)) ∷ zero
    ∷ must (codes "dav") (codes "1,3,calendar-access,addressbook") ∷ must (codes "ms-author-via") (codes "DAV") ∷ []) refl
    (words, (record { all = refl }, (record { all = refl }, (record { all = refl }, tt))))

-- the answer of what was made
pub made_some : HasSome reply_names (field (codes "content-length") (codes "0") ∷ [])
made_some = covers reply_names (zero ∷ []) refl (record { all = refl }, tt)
