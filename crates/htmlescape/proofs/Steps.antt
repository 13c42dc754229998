-- What the next character makes of an unfinished entity.
use Rattle.std.proofs.Common.{◌≡◌, ◌<◌, ◌≤◌, ◌≢◌, ◌⊎◌, ◌+◌, ◌*◌, ℕ, min, Bool, true, false, cond, ◌&&◌, ◌==◌, nat_lt, List, [], ◌∷◌, ◌++◌, length, Option, Some, None, refl, sym, ◌∙◌, ap, inl, inr, arith, append_assoc, length-append}
use lib.Utf8.{scalar, scalar_fits}
use Rattle.std.specs.List.{list_all}
use Rattle.std.specs.Char.{is_digit, digit_value, IsScalar}
use Rattle.std.specs.Str.Parse.{digits_value, digits_value_after}
use Rattle.std.proofs.lemmas.Bool.{and_parts, cases_lt, ne_eqb}
use Rattle.std.proofs.lemmas.Bool.Decides.{nat_tests, Decides-eqb}
use Rattle.std.proofs.lemmas.List.Folds.{list_all-append}
use Rattle.std.proofs.Math.Bool.{and-false}
use Rattle.htmlescape.specs.Names.{named}
use Rattle.htmlescape.specs.Grammar.{Item, Plain, Name, Decimal, Hexadecimal, meaning, numbered, are_digits, number_end, digits_fault, number_fault, entity_fault, fault_at}
use Rattle.htmlescape.specs.Running.{Faulty, Judged, KeepsNumber, Stepped, begins_name}
use Rattle.htmlescape.specs.declared.faults.DecodeErrKind.{DecodeErrKind}
use Rattle.htmlescape.specs.declared.faults.DecodeErrKind.TheVariants.{UnknownEntity, MalformedNumEscape, InvalidCharacter, PrematureEnd}
use Rattle.htmlescape.specs.declared.state.Step.{Step}
use Rattle.htmlescape.specs.declared.state.Step.TheVariants.{More, Whole, Fault}
use Rattle.htmlescape.proofs.Known.{named_scalar, lost_long, lost_wide}
use Rattle.htmlescape.proofs.Items.{item_at, none_begins, numbered_item, number_item, digits_item, digits_item_is, digits_fault_is, decimal_item, decimal_fault, name_item_is, entity_item, checked, has_end, no_end, entity_of_name, fault_of_name}

pub text_item : (c : ℕ) → c ≢ 38 → IsScalar c → Stepped (c ∷ []) (Whole c)
text_item c n s = (s, Plain c, refl, ap (λ b. cond b None (Some c)) (ne_eqb c 38 n))

pub ampersand_end : Faulty UnknownEntity (38 ∷ 59 ∷ [])
unfolding item_at fault_at
ampersand_end = record {
  none = λ more. none_begins (38 ∷ 59 ∷ more) refl;
  kind = λ more. refl;
  met = λ e. cc;
}

pub name_whole : (name : List ℕ) (v : ℕ) → named name ≡ Some v → Stepped (38 ∷ (name ++ 59 ∷ [])) (Whole v)
name_whole name v e = (named_scalar name v e, Name name, refl, e)

pub name_none : (name : List ℕ) → begins_name name ≡ true → named name ≡ None → Faulty UnknownEntity (38 ∷ (name ++ 59 ∷ []))
unfolding item_at fault_at
name_none name b e = record {
  none = λ more. none_begins (38 ∷ ((name ++ 59 ∷ []) ++ more))
      (ap entity_item (append_assoc name (59 ∷ []) more) ∙ entity_of_name name (59 ∷ more) b ∙ name_item_is name more (no_end name b) ∙ ap (checked (Name name) more) e);
  kind = λ more. sym (ap entity_fault (append_assoc name (59 ∷ []) more) ∙ fault_of_name name (59 ∷ more) b ∙ ap (λ t. cond t UnknownEntity PrematureEnd) (has_end name more));
  met = λ e. cc;
}

no_digit : (c base : ℕ) → (digit_value c < base → ⊥) → is_digit c base ≡ false
no_digit c base n =
    elim (is_digit c base) as (λ t. is_digit c base ≡ t → t ≡ false) [ true ↦ λ e. absurd (n (grind (arith, nat_tests))) | false ↦ λ e. refl ] refl

-- No digits, and no number.
nothing : (base : ℕ) (make : List ℕ → Item) (c : ℕ) (more : List ℕ) → meaning (make []) ≡ None → number_item base make [] (c ∷ more) ≡ None
nothing base make c more e =
    elim (c == 59) as (λ t. cond t (checked (make []) more (meaning (make []))) None ≡ None) [ true ↦ ap (checked (make []) more) e | false ↦ refl ]

malformed : (base c : ℕ) (more : List ℕ) → number_end base [] (c ∷ more) ≡ MalformedNumEscape
malformed base c more = elim (c == 59) as (λ t. cond ((t && false) && nat_lt (digits_value base []) 4294967296) InvalidCharacter MalformedNumEscape ≡ MalformedNumEscape) [ true ↦ refl | false ↦ refl ]

pub hash_none : (c : ℕ) → c ≢ 120 → (digit_value c < 10 → ⊥) → Faulty MalformedNumEscape (38 ∷ 35 ∷ c ∷ [])
unfolding item_at fault_at
hash_none c n d =
    let x = ne_eqb c 120 n in
    let stop = no_digit c 10 d in
    record {
      none = λ more. none_begins (38 ∷ 35 ∷ c ∷ more) (
          ap (λ b. cond b (digits_item 16 Hexadecimal more) (digits_item 10 Decimal (c ∷ more))) x
          ∙ digits_item_is 10 Decimal [] c more refl stop ∙ nothing 10 Decimal c more refl);
      kind = λ more. sym (ap (λ b. cond b (digits_fault 16 more) (digits_fault 10 (c ∷ more))) x ∙ digits_fault_is 10 [] c more refl stop ∙ malformed 10 c more);
      met = λ e. cc;
    }

pub mark_none : (c : ℕ) → (digit_value c < 16 → ⊥) → Faulty MalformedNumEscape (38 ∷ 35 ∷ 120 ∷ c ∷ [])
unfolding item_at fault_at
mark_none c d =
    let stop = no_digit c 16 d in
    record {
      none = λ more. none_begins (38 ∷ 35 ∷ 120 ∷ c ∷ more) (digits_item_is 16 Hexadecimal [] c more refl stop ∙ nothing 16 Hexadecimal c more refl);
      kind = λ more. sym (digits_fault_is 16 [] c more refl stop ∙ malformed 16 c more);
      met = λ e. cc;
    }

-- One digit more.
value_more : (base n : ℕ) (ds : List ℕ) (c : ℕ) → digits_value_after base n (ds ++ c ∷ []) ≡ digits_value_after base n ds * base + digit_value c
value_more base n [] c = refl
value_more base n (d ∷ ds) c = value_more base (n * base + digit_value d) ds c

digits_more : (base : ℕ) (ds : List ℕ) (c : ℕ) → are_digits base ds ≡ true → digit_value c < base → are_digits base (ds ++ c ∷ []) ≡ true
digits_more base ds c a h =
    let p = and_parts (nat_lt 0 (length ds)) (list_all (λ d. is_digit d base) ds) a in
    let one : is_digit c base ≡ true = grind (arith, nat_tests) in
    let some : nat_lt 0 (length (ds ++ c ∷ [])) ≡ true = (let l = length-append ds (c ∷ []) in grind (arith, nat_tests)) in
    ap (λ b. b && list_all (λ d. is_digit d base) (ds ++ c ∷ [])) some ∙ list_all-append (λ d. is_digit d base) ds (c ∷ [])
    ∙ ap (λ b. b && (is_digit c base && true)) p.1 ∙ ap (λ b. b && true) one

capped_10 : (v d : ℕ) → min (min (min v 4294967296) 4294967296 * 10 + d) 4294967296 ≡ min (v * 10 + d) 4294967296
capped_10 v d = omega arith

capped_16 : (v d : ℕ) → min (min (min v 4294967296) 4294967296 * 16 + d) 4294967296 ≡ min (v * 16 + d) 4294967296
capped_16 v d = omega arith

pub longer_10 : (ds : List ℕ) (c value digit longer : ℕ) → KeepsNumber 10 value ds → digit_value c < 10 → digit ≡ digit_value c
    → longer ≡ min (min value 4294967296 * 10 + digit) 4294967296 → KeepsNumber 10 longer (ds ++ c ∷ [])
longer_10 ds c value digit longer k h e l = (
  digits_more 10 ds c k.0 h,
  l ∙ ap (λ d. min (min value 4294967296 * 10 + d) 4294967296) e ∙ ap (λ v. min (min v 4294967296 * 10 + digit_value c) 4294967296) k.1 ∙ capped_10 (digits_value 10 ds) (digit_value c)
      ∙ ap (λ v. min v 4294967296) (sym (value_more 10 0 ds c)),
)

pub longer_16 : (ds : List ℕ) (c value digit longer : ℕ) → KeepsNumber 16 value ds → digit_value c < 16 → digit ≡ digit_value c
    → longer ≡ min (min value 4294967296 * 16 + digit) 4294967296 → KeepsNumber 16 longer (ds ++ c ∷ [])
longer_16 ds c value digit longer k h e l = (
  digits_more 16 ds c k.0 h,
  l ∙ ap (λ d. min (min value 4294967296 * 16 + d) 4294967296) e ∙ ap (λ v. min (min v 4294967296 * 16 + digit_value c) 4294967296) k.1 ∙ capped_16 (digits_value 16 ds) (digit_value c)
      ∙ ap (λ v. min v 4294967296) (sym (value_more 16 0 ds c)),
)

-- A number at the character behind its digits.
not_scalar : (v : ℕ) → 4294967296 ≤ v → scalar v ≡ false
not_scalar v h =
    elim (scalar v) as (λ t. scalar v ≡ t → t ≡ false) [ true ↦ λ e. let f = scalar_fits v e in absurd (omega arith) | false ↦ λ e. refl ] refl

unscalar : (v : ℕ) → (IsScalar v → ⊥) → scalar v ≡ false
unscalar v n = elim (scalar v) as (λ t. scalar v ≡ t → t ≡ false) [ true ↦ λ e. absurd (n e) | false ↦ λ e. refl ] refl

no_number : (base : ℕ) (ds : List ℕ) → scalar (digits_value base ds) ≡ false → numbered base ds ≡ None
no_number base ds s =
    ap (λ t. cond (are_digits base ds && (t && true)) (Some (digits_value base ds)) None) s
    ∙ (elim (are_digits base ds) as (λ t. cond (t && false) (Some (digits_value base ds)) None ≡ None) [ true ↦ refl | false ↦ refl ])

either : (b : Bool) (item : Item) (more : List ℕ) (o : Option ℕ) → o ≡ None → cond b (checked item more o) None ≡ None
either true item more o e = ap (checked item more) e
either false item more o e = refl

pub record Judges (base : ℕ) (make : List ℕ → Item) (ds : List ℕ) (c : ℕ) (fault : DecodeErrKind) : Type 0 where
  pub none : (more : List ℕ) → number_item base make ds (c ∷ more) ≡ None
  pub kind : (more : List ℕ) → number_end base ds (c ∷ more) ≡ fault
  pub met : fault ≢ PrematureEnd

not_end : (base : ℕ) (make : List ℕ → Item) (ds : List ℕ) (c : ℕ) → c ≢ 59 → Judges base make ds c MalformedNumEscape
not_end base make ds c n =
    let e = ne_eqb c 59 n in
    record {
      none = λ more. ap (λ t. cond t (checked (make ds) more (meaning (make ds))) None) e;
      kind = λ more. ap (λ t. cond ((t && nat_lt 0 (length ds)) && nat_lt (digits_value base ds) 4294967296) InvalidCharacter MalformedNumEscape) e;
      met = λ m. cc;
    }

too_great : (base : ℕ) (make : List ℕ → Item) (ds : List ℕ) (c value : ℕ) → meaning (make ds) ≡ numbered base ds → KeepsNumber base value ds
    → 4294967296 ≤ value
    → Judges base make ds c MalformedNumEscape
too_great base make ds c value same k h =
    let kept = k.1 in
    let great : 4294967296 ≤ digits_value base ds = omega arith in
    let over : nat_lt (digits_value base ds) 4294967296 ≡ false = grind (arith, nat_tests) in
    record {
      none = λ more. either (c == 59) (make ds) more (meaning (make ds)) (same ∙ no_number base ds (not_scalar (digits_value base ds) great));
      kind = λ more. ap (λ t. cond ((c == 59 && nat_lt 0 (length ds)) && t) InvalidCharacter MalformedNumEscape) over
          ∙ ap (λ t. cond t InvalidCharacter MalformedNumEscape) (and-false (c == 59 && nat_lt 0 (length ds)));
      met = λ m. cc;
    }

no_character : (base : ℕ) (make : List ℕ → Item) (ds : List ℕ) (c value : ℕ) → meaning (make ds) ≡ numbered base ds → KeepsNumber base value ds
    → c ≡ 59 → value < 4294967296
    → (IsScalar value → ⊥) → Judges base make ds c InvalidCharacter
no_character base make ds c value same k end low n =
    let kept = k.1 in
    let is : digits_value base ds ≡ value = omega arith in
    let s : scalar (digits_value base ds) ≡ false = ap scalar is ∙ unscalar value n in
    let some = (and_parts (nat_lt 0 (length ds)) (list_all (λ d. is_digit d base) ds) k.0).0 in
    let e : (c == 59) ≡ true = (Decides-eqb c 59).1 end in
    let under : nat_lt (digits_value base ds) 4294967296 ≡ true = grind (arith, nat_tests) in
    record {
      none = λ more. either (c == 59) (make ds) more (meaning (make ds)) (same ∙ no_number base ds s);
      kind = λ more. ap (λ t. cond ((t && nat_lt 0 (length ds)) && nat_lt (digits_value base ds) 4294967296) InvalidCharacter MalformedNumEscape) e
          ∙ ap (λ t. cond (t && nat_lt (digits_value base ds) 4294967296) InvalidCharacter MalformedNumEscape) some
          ∙ ap (λ t. cond t InvalidCharacter MalformedNumEscape) under;
      met = λ m. cc;
    }

judge : (base : ℕ) (make : List ℕ → Item) (ds : List ℕ) (c value : ℕ) (fault : DecodeErrKind) → meaning (make ds) ≡ numbered base ds
    → KeepsNumber base value ds
    → Judged value c (Fault fault) → Judges base make ds c fault
judge base make ds c value MalformedNumEscape same k j = elim j [ inl n ↦ not_end base make ds c n | inr h ↦ too_great base make ds c value same k h ]
judge base make ds c value InvalidCharacter same k j = no_character base make ds c value same k j.0 j.1 j.2
judge base make ds c value fault same k j = absurd j

whole_number : (base : ℕ) (ds : List ℕ) (value found : ℕ) → KeepsNumber base value ds → value < 4294967296 → found ≡ value → IsScalar found
    → numbered base ds ≡ Some found
whole_number base ds value found k low e s =
    let kept = k.1 in
    let is : digits_value base ds ≡ found = omega arith in
    ap (λ t. cond (t && (scalar (digits_value base ds) && true)) (Some (digits_value base ds)) None) k.0
    ∙ ap (λ v. cond (scalar v && true) (Some v) None) is ∙ ap (λ t. cond (t && true) (Some found) None) s

spelled_end : (ds : List ℕ) (c : ℕ) → c ≡ 59 → ds ++ 59 ∷ [] ≡ ds ++ c ∷ []
spelled_end ds c e = ap (λ d. ds ++ d ∷ []) (sym e)

pub decimal_end : (ds : List ℕ) (value c : ℕ) (step : Step) → KeepsNumber 10 value ds → (digit_value c < 10 → ⊥) → Judged value c step
    → Stepped (38 ∷ 35 ∷ (ds ++ c ∷ [])) step
unfolding item_at fault_at
decimal_end ds value c (More state) k d j = absurd j
decimal_end ds value c (Whole found) k d j =
    (j.3, Decimal ds, ap (λ t. 38 ∷ 35 ∷ t) (spelled_end ds c j.0), whole_number 10 ds value found k j.1 j.2 j.3)
decimal_end ds value c (Fault fault) k d j =
    let stop = no_digit c 10 d in
    let all = (and_parts (nat_lt 0 (length ds)) (list_all (λ e. is_digit e 10) ds) k.0).1 in
    let judged = judge 10 Decimal ds c value fault refl k j in
    record {
      none = λ more. none_begins (38 ∷ 35 ∷ ((ds ++ c ∷ []) ++ more))
          (ap numbered_item (append_assoc ds (c ∷ []) more) ∙ decimal_item ds (c ∷ more) k.0 ∙ digits_item_is 10 Decimal ds c more all stop ∙ judged.none more);
      kind = λ more. sym (ap number_fault (append_assoc ds (c ∷ []) more) ∙ decimal_fault ds (c ∷ more) k.0 ∙ digits_fault_is 10 ds c more all stop ∙ judged.kind more);
      met = judged.met;
    }

pub hexadecimal_end : (ds : List ℕ) (value c : ℕ) (step : Step) → KeepsNumber 16 value ds → (digit_value c < 16 → ⊥) → Judged value c step
    → Stepped (38 ∷ 35 ∷ 120 ∷ (ds ++ c ∷ [])) step
unfolding item_at fault_at
hexadecimal_end ds value c (More state) k d j = absurd j
hexadecimal_end ds value c (Whole found) k d j =
    (j.3, Hexadecimal ds, ap (λ t. 38 ∷ 35 ∷ 120 ∷ t) (spelled_end ds c j.0), whole_number 16 ds value found k j.1 j.2 j.3)
hexadecimal_end ds value c (Fault fault) k d j =
    let stop = no_digit c 16 d in
    let all = (and_parts (nat_lt 0 (length ds)) (list_all (λ e. is_digit e 16) ds) k.0).1 in
    let judged = judge 16 Hexadecimal ds c value fault refl k j in
    record {
      none = λ more. none_begins (38 ∷ 35 ∷ 120 ∷ ((ds ++ c ∷ []) ++ more))
          (ap (digits_item 16 Hexadecimal) (append_assoc ds (c ∷ []) more) ∙ digits_item_is 16 Hexadecimal ds c more all stop ∙ judged.none more);
      kind = λ more. sym (ap (digits_fault 16) (append_assoc ds (c ∷ []) more) ∙ digits_fault_is 16 ds c more all stop ∙ judged.kind more);
      met = judged.met;
    }

-- A name of up to eight bytes, with one character more.
pub name_lost : (count : ℕ) (name : List ℕ) (c : ℕ) → (count ≤ 8 → length name ≡ count) → (8 < count → (more : List ℕ) → named (name ++ more) ≡ None)
    → ((8 ≤ count) ⊎ (128 ≤ c)) → (more : List ℕ) → named ((name ++ c ∷ []) ++ more) ≡ None
name_lost count name c size lost why more =
    ap named (append_assoc name (c ∷ []) more) ∙ elim why [
      | inl full ↦ elim (cases_lt 8 count) [
        | inl gone ↦ lost gone (c ∷ more)
        | inr at ↦ lost_long (name ++ c ∷ more) (let l = size at in omega (arith, length-append name (c ∷ more)))
      ]
      | inr wide ↦ lost_wide name more c wide
    ]
