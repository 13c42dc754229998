-- What a field does to plain fields, by the first letter of its name.
use Rattle.std.proofs.Common.{◌≡◌, ◌≢◌, ℕ, true, List, [], ◌∷◌, map, codes, slice_index, ap, ◌∙◌, arith}
use Rattle.std.proofs.lemmas.Bool.Decides.{nat_tests}
use Rattle.std.specs.Char.{to_ascii_lowercase}
use Rattle.http_header.specs.FieldValue.{FieldValue}
use Rattle.http_header.specs.HeaderMap.{Entries, append}
use Rattle.http_header.specs.Token.{lowercase}
use Rattle.http_header.proofs.HeaderMapLemmas.{get_all-append_other}
use Rattle.dav_wire.specs.Fields.{ArePlain, is_apart}

apart_c : (b : ℕ) → is_apart b ≡ true → to_ascii_lowercase b ≡ 99 → ⊥
apart_c b apart same = grind (arith, nat_tests)

apart_t : (b : ℕ) → is_apart b ≡ true → to_ascii_lowercase b ≡ 116 → ⊥
apart_t b apart same = grind (arith, nat_tests)

begins_else : (name : List ℕ) (c : ℕ) (other : List ℕ) → (to_ascii_lowercase (slice_index name 0) ≡ c → ⊥) → lowercase name ≢ c ∷ other
begins_else [] c other apart same = cc
begins_else (b ∷ bytes) c other apart same = apart (ap (λ l. slice_index l 0) same)

-- a field whose name begins apart changes none of the three
pub stays_plain : (m : Entries FieldValue) (name : List ℕ) (value : FieldValue) → is_apart (slice_index name 0) ≡ true → ArePlain m → ArePlain (append m (lowercase name) value)
stays_plain m name value apart plain = record {
  lengths = ap (map (λ (v : FieldValue). v.bytes)) (get_all-append_other m (lowercase name) (codes "content-length") value (begins_else name _ _ (apart_c (slice_index name 0) apart))) ∙ plain.lengths;
  codings = ap (map (λ (v : FieldValue). v.bytes)) (get_all-append_other m (lowercase name) (codes "transfer-encoding") value (begins_else name _ _ (apart_t (slice_index name 0) apart))) ∙ plain.codings;
  connection = ap (map (λ (v : FieldValue). v.bytes)) (get_all-append_other m (lowercase name) (codes "connection") value (begins_else name _ _ (apart_c (slice_index name 0) apart))) ∙ plain.connection;
}
