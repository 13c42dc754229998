-- A map of fields that are added one after the other.
use Rattle.std.proofs.Common.{◌≡◌, ◌≢◌, inl, inr, ℕ, zero, suc, ◌+◌, ◌<◌, ◌≤◌, List, [], ◌∷◌, ◌++◌, length, map, Bool, true, false, is_some, refl, sym, ap, subst, ◌∙◌, append-nil, true≢false, bytes_eq, slice_get, slice_index_or, arith}
use Rattle.std.specs.List.{AllByRecursion}
use Rattle.std.proofs.lemmas.Bool.{cond_both}
use Rattle.std.proofs.lemmas.List.{length-append}
use Rattle.std.proofs.lemmas.List.Sums.{sum_by-cons}
use Rattle.std.proofs.lemmas.Slice.Eq.{bytes_eq-Decides}
use Rattle.http_header.specs.FieldValue.{FieldValue, plain_value}
use Rattle.http_header.specs.HeaderMap.{Entries, Entry, RefusesAppend, append, get_all, value_count}
use Rattle.http_header.specs.declared.value.HeaderValue.{HeaderValue}
use Rattle.http_header.proofs.HeaderMapLemmas.{get_all-append_other, get_all-append_same}
use Rattle.dav_io.specs.declared.fields.Field.{Field}
use Rattle.dav_model.specs.Conditions.{Fields, values_of}
use Rattle.dav_model.specs.Gates.{has_field}
use Rattle.dav_fetch.specs.Peer.{Carries, said_under}
use Rattle.dav_mirror.specs.Asking.{IsSaid, IsSmall}

abbrev bytes : FieldValue → List ℕ
bytes v = v.bytes

said_more : (fields : List Field) (f : Field) (name : List ℕ) → said_under (fields ++ f ∷ []) name ≡ said_under fields name ++ said_under (f ∷ []) name
said_more [] f name = refl
said_more (g ∷ fields) f name = by (bytes_eq g.name name) refl (said_more fields f name)
  where
    by : (b : Bool) → bytes_eq g.name name ≡ b → said_under (fields ++ f ∷ []) name ≡ said_under fields name ++ said_under (f ∷ []) name → said_under ((g ∷ fields) ++ f ∷ []) name ≡ said_under (g ∷ fields) name ++ said_under (f ∷ []) name
    by true e more = rw e (ap (λ z. g.value ∷ z) more)
    by false e more = rw e more

map_push : (values : List FieldValue) (v : FieldValue) → map bytes (values ++ v ∷ []) ≡ map bytes values ++ v.bytes ∷ []
map_push [] v = refl
map_push (w ∷ values) v = ap (λ z. w.bytes ∷ z) (map_push values v)

said_one : (f : Field) (name : List ℕ) → bytes_eq f.name name ≡ true → said_under (f ∷ []) name ≡ f.value ∷ []
said_one f name e = rw e refl

said_none : (f : Field) (name : List ℕ) → bytes_eq f.name name ≡ false → said_under (f ∷ []) name ≡ []
said_none f name e = rw e refl

-- a field is added
pub carries_more : (fields : List Field) (m : Fields) (f : Field) → Carries fields m → Carries (fields ++ f ∷ []) (append m f.name (plain_value f.value))
carries_more fields m f carries name = by (bytes_eq f.name name) refl
  where
    by : (b : Bool) → bytes_eq f.name name ≡ b → values_of (append m f.name (plain_value f.value)) name ≡ said_under (fields ++ f ∷ []) name
    by true e =
        ap (λ n. values_of (append m n (plain_value f.value)) name) ((bytes_eq-Decides f.name name).0 e)
        ∙ ap (map bytes) (get_all-append_same m name (plain_value f.value)) ∙ map_push (get_all m name) (plain_value f.value)
        ∙ ap (λ z. z ++ f.value ∷ []) (carries name) ∙ sym (said_more fields f name ∙ ap (λ z. said_under fields name ++ z) (said_one f name e))
    by false e =
        let other : f.name ≢ name = λ same. true≢false (sym ((bytes_eq-Decides f.name name).1 same) ∙ e) in
        ap (map bytes) (get_all-append_other m f.name name (plain_value f.value) other) ∙ carries name
        ∙ sym (said_more fields f name ∙ ap (λ z. said_under fields name ++ z) (said_none f name e) ∙ append-nil (said_under fields name))

-- ---- room

module _ {X : Type 0} where
  count_cons : (e : Entry X) (m : Entries X) → value_count (e ∷ m) ≡ length e.1 + value_count m
  count_cons e m = sum_by-cons (λ (x : Entry X). length x.1) e m

  more_names : (m : Entries X) (name : List ℕ) (v : X) → length (append m name v) ≤ length m + 1
  more_names [] name v = omega arith
  more_names (e ∷ m) name v =
      let more = more_names m name v in
      cond_both (bytes_eq e.0 name) ((e.0, e.1 ++ v ∷ []) ∷ m) (e ∷ append m name v) (λ (z : Entries X). length z ≤ length (e ∷ m) + 1) (λ _. omega arith) (λ _. omega (arith, more))

  more_values : (m : Entries X) (name : List ℕ) (v : X) → value_count (append m name v) ≤ value_count m + 1
  more_values [] name v = let one = count_cons (name, [] ++ v ∷ []) [] in let none : value_count {X = X} [] ≡ 0 = refl in omega (arith, one, none)
  more_values (e ∷ m) name v =
      let more = more_values m name v in
      let here = count_cons e m in
      let longer = length-append e.1 (v ∷ []) in
      let met = count_cons (e.0, e.1 ++ v ∷ []) m in
      let passed = count_cons e (append m name v) in
      cond_both (bytes_eq e.0 name) ((e.0, e.1 ++ v ∷ []) ∷ m) (e ∷ append m name v) (λ (z : Entries X). value_count z ≤ value_count (e ∷ m) + 1) (λ _. omega (arith, here, longer, met)) (λ _. omega (arith, more, here, passed))

pub small_none : (m : Fields) → m ≡ [] → IsSmall 0 m
small_none m e = subst (IsSmall 0) (sym e) (record { names = omega arith; values = let none : value_count {X = HeaderValue} [] ≡ 0 = refl in omega (arith, none) })

pub small_more : (n : ℕ) (m : Fields) (name : List ℕ) (v : FieldValue) → IsSmall n m → IsSmall (n + 1) (append m name v)
small_more n m name v small =
    let a = more_names m name v in
    let b = more_values m name v in
    let c = small.names in
    let d = small.values in
    record { names = omega (arith, a, c); values = omega (arith, b, d) }

pub small_less : (n k : ℕ) (m : Fields) → n ≤ k → IsSmall n m → IsSmall k m
small_less n k m less small = let a = small.names in let b = small.values in record { names = omega (arith, less, a); values = omega (arith, less, b) }

-- there is room for one more
pub never_full : (m : Fields) (name : List ℕ) → IsSmall 1000 m → RefusesAppend m name → ⊥
never_full m name small (inl full) = let b = small.values in omega (arith, b, full)
never_full m name small (inr (new, inl full)) = let a = small.names in omega (arith, a, full)
never_full m name small (inr (new, inr full)) = let b = small.values in omega (arith, b, full)

-- each of these fields can be said
pub said_at : (fields : List Field) (i : ℕ) (d : Field) → AllByRecursion IsSaid fields → i < length fields → IsSaid (slice_index_or fields i d)
said_at [] i d all lt = absurd (omega (arith, lt))
said_at (f ∷ fs) zero d all lt = all.0
said_at (f ∷ fs) (suc i) d all lt = said_at fs i d all.1 (omega (arith, lt))

-- no field of this name was carried
pub none_carried : (asked : List Field) (m : Fields) (name : List ℕ) → Carries asked m → said_under asked name ≡ [] → has_field m name ≡ false
none_carried asked m name carries none = by (get_all m name) refl (carries name ∙ none)
  where
    by : (values : List FieldValue) → get_all m name ≡ values → map bytes (get_all m name) ≡ [] → has_field m name ≡ false
    by [] e h = ap (λ z. is_some (slice_get z 0)) e
    by (v ∷ vs) e h = let clash : v.bytes ∷ map bytes vs ≡ [] = ap (map bytes) (sym e) ∙ h in cc
