-- The item at the front of a text.
use Rattle.std.proofs.Common.{◌≡◌, ◌+◌, ℕ, Bool, true, false, cond, not, ◌&&◌, ◌||◌, ◌==◌, nat_lt, List, [], ◌∷◌, ◌++◌, length, take, drop, Option, Some, None, refl, ◌∙◌, ap, arith, append_assoc}
use Rattle.std.specs.List.{list_any, list_all, prefix_len}
use Rattle.std.specs.Char.{is_digit}
use Rattle.std.proofs.lemmas.Bool.{and_parts, false≢true, not-true}
use Rattle.std.proofs.lemmas.Bool.Decides.{nat_tests}
use Rattle.std.proofs.Math.Seq.{take-append_seam, drop-append_seam, drop-length}
use lib.Utf8.{scalar}
use Rattle.std.specs.Str.Parse.{digits_value}
use Rattle.htmlescape.specs.Running.{NoItem, begins_name}
use Rattle.htmlescape.specs.declared.faults.DecodeErrKind.TheVariants.{UnknownEntity, PrematureEnd}
use Rattle.htmlescape.proofs.Known.{named_begins}
use Rattle.htmlescape.specs.Names.{named}
use Rattle.htmlescape.specs.Grammar.{Item, Plain, Name, Decimal, Hexadecimal, spelled, meaning, numbered, are_digits, number_end, digits_fault, number_fault, name_fault, entity_fault}

-- an item of the grammar, and what is behind it
abbrev pub checked : Item → List ℕ → Option ℕ → Option (Item × List ℕ)
checked item more None = None
checked item more (Some c) = Some (item, more)

abbrev pub number_item : ℕ → (List ℕ → Item) → List ℕ → List ℕ → Option (Item × List ℕ)
number_item base make digits [] = None
number_item base make digits (c ∷ more) = cond (c == 59) (checked (make digits) more (meaning (make digits))) None

abbrev pub digits_item : ℕ → (List ℕ → Item) → List ℕ → Option (Item × List ℕ)
digits_item base make text = let n = prefix_len (λ c. is_digit c base) text in number_item base make (take n text) (drop n text)

abbrev pub numbered_item : List ℕ → Option (Item × List ℕ)
numbered_item [] = None
numbered_item (c ∷ more) = cond (c == 120) (digits_item 16 Hexadecimal more) (digits_item 10 Decimal (c ∷ more))

abbrev pub name_end : List ℕ → List ℕ → Option (Item × List ℕ)
name_end name [] = None
name_end name (c ∷ more) = checked (Name name) more (named name)

abbrev pub name_item : List ℕ → Option (Item × List ℕ)
name_item text = let n = prefix_len (λ c. not (c == 59)) text in name_end (take n text) (drop n text)

abbrev pub entity_item : List ℕ → Option (Item × List ℕ)
entity_item [] = None
entity_item (c ∷ more) = cond (c == 59) None (cond (c == 35) (numbered_item more) (name_item (c ∷ more)))

unfoldable pub item_at : List ℕ → Option (Item × List ℕ)
item_at [] = None
item_at (c ∷ more) = cond (c == 38) (entity_item more) (Some (Plain c, more))

-- A run and what stops it.
pub run_is : (p : ℕ → Bool) (xs : List ℕ) (c : ℕ) (more : List ℕ) → list_all p xs ≡ true → p c ≡ false → prefix_len p (xs ++ c ∷ more) ≡ length xs
run_is p [] c more a s = ap (λ b. cond b (1 + prefix_len p more) 0) s
run_is p (x ∷ xs) c more a s =
    let h = and_parts (p x) (list_all p xs) a in
    ap (λ b. cond b (1 + prefix_len p (xs ++ c ∷ more)) 0) h.0 ∙ (let r = run_is p xs c more h.1 s in omega arith)

pub run_all : (p : ℕ → Bool) (xs : List ℕ) → list_all p xs ≡ true → prefix_len p xs ≡ length xs
run_all p [] a = refl
run_all p (x ∷ xs) a =
    let h = and_parts (p x) (list_all p xs) a in
    ap (λ b. cond b (1 + prefix_len p xs) 0) h.0 ∙ (let r = run_all p xs h.1 in omega arith)

-- Digits, and what is behind them.
pub digits_item_is : (base : ℕ) (make : List ℕ → Item) (ds : List ℕ) (c : ℕ) (more : List ℕ) → list_all (λ d. is_digit d base) ds ≡ true
    → is_digit c base ≡ false
    → digits_item base make (ds ++ c ∷ more) ≡ number_item base make ds (c ∷ more)
digits_item_is base make ds c more a s =
    let text = ds ++ c ∷ more in
    ap (λ n. number_item base make (take n text) (drop n text)) (run_is (λ d. is_digit d base) ds c more a s)
    ∙ ap (λ u. number_item base make u (drop (length ds) text)) (take-append_seam ds (c ∷ more))
    ∙ ap (number_item base make ds) (drop-append_seam ds (c ∷ more))

pub digits_fault_is : (base : ℕ) (ds : List ℕ) (c : ℕ) (more : List ℕ) → list_all (λ d. is_digit d base) ds ≡ true → is_digit c base ≡ false
    → digits_fault base (ds ++ c ∷ more) ≡ number_end base ds (c ∷ more)
digits_fault_is base ds c more a s =
    let text = ds ++ c ∷ more in
    ap (λ n. number_end base (take n text) (drop n text)) (run_is (λ d. is_digit d base) ds c more a s)
    ∙ ap (λ u. number_end base u (drop (length ds) text)) (take-append_seam ds (c ∷ more)) ∙ ap (number_end base ds) (drop-append_seam ds (c ∷ more))

pub digits_item_all : (base : ℕ) (make : List ℕ → Item) (ds : List ℕ) → list_all (λ d. is_digit d base) ds ≡ true → digits_item base make ds ≡ None
digits_item_all base make ds a =
    ap (λ n. number_item base make (take n ds) (drop n ds)) (run_all (λ d. is_digit d base) ds a) ∙ ap (number_item base make (take (length ds) ds)) (drop-length ds)

pub digits_fault_all : (base : ℕ) (ds : List ℕ) → list_all (λ d. is_digit d base) ds ≡ true → digits_fault base ds ≡ PrematureEnd
digits_fault_all base ds a =
    ap (λ n. number_end base (take n ds) (drop n ds)) (run_all (λ d. is_digit d base) ds a) ∙ ap (number_end base (take (length ds) ds)) (drop-length ds)

-- decimal digits don't begin with `x`
not_x : (d : ℕ) → is_digit d 10 ≡ true → (d == 120) ≡ false
not_x d h = grind (arith, nat_tests)

pub decimal_item : (ds rest : List ℕ) → are_digits 10 ds ≡ true → numbered_item (ds ++ rest) ≡ digits_item 10 Decimal (ds ++ rest)
decimal_item [] rest a = absurd (false≢true a)
decimal_item (d ∷ ds) rest a =
    let all = (and_parts (nat_lt 0 (length (d ∷ ds))) (list_all (λ e. is_digit e 10) (d ∷ ds)) a).1 in
    let x = not_x d (and_parts (is_digit d 10) (list_all (λ e. is_digit e 10) ds) all).0 in
    ap (λ b. cond b (digits_item 16 Hexadecimal (ds ++ rest)) (digits_item 10 Decimal (d ∷ (ds ++ rest)))) x

pub decimal_fault : (ds rest : List ℕ) → are_digits 10 ds ≡ true → number_fault (ds ++ rest) ≡ digits_fault 10 (ds ++ rest)
decimal_fault [] rest a = absurd (false≢true a)
decimal_fault (d ∷ ds) rest a =
    let all = (and_parts (nat_lt 0 (length (d ∷ ds))) (list_all (λ e. is_digit e 10) (d ∷ ds)) a).1 in
    let x = not_x d (and_parts (is_digit d 10) (list_all (λ e. is_digit e 10) ds) all).0 in
    ap (λ b. cond b (digits_fault 16 (ds ++ rest)) (digits_fault 10 (d ∷ (ds ++ rest)))) x

-- Names.
pub name_item_is : (name more : List ℕ) → list_all (λ d. not (d == 59)) name ≡ true
    → name_item (name ++ 59 ∷ more) ≡ checked (Name name) more (named name)
name_item_is name more a =
    let text = name ++ 59 ∷ more in
    ap (λ n. name_end (take n text) (drop n text)) (run_is (λ d. not (d == 59)) name 59 more a refl)
    ∙ ap (λ u. name_end u (drop (length name) text)) (take-append_seam name (59 ∷ more)) ∙ ap (name_end name) (drop-append_seam name (59 ∷ more))

pub name_item_all : (name : List ℕ) → list_all (λ d. not (d == 59)) name ≡ true → name_item name ≡ None
name_item_all name a =
    ap (λ n. name_end (take n name) (drop n name)) (run_all (λ d. not (d == 59)) name a) ∙ ap (name_end (take (length name) name)) (drop-length name)

pub has_end : (name more : List ℕ) → list_any (λ d. d == 59) (name ++ 59 ∷ more) ≡ true
has_end [] more = refl
has_end (c ∷ name) more = ap (λ b. (c == 59) || b) (has_end name more) ∙ (elim (c == 59) as (λ t. (t || true) ≡ true) [ true ↦ refl | false ↦ refl ])

pub has_none : (name : List ℕ) → list_all (λ d. not (d == 59)) name ≡ true → list_any (λ d. d == 59) name ≡ false
has_none [] a = refl
has_none (c ∷ name) a =
    let p = and_parts (not (c == 59)) (list_all (λ d. not (d == 59)) name) a in
    ap (λ b. b || list_any (λ d. d == 59) name) (not-true (c == 59) p.0) ∙ has_none name p.1

pub no_end : (name : List ℕ) → begins_name name ≡ true → list_all (λ d. not (d == 59)) name ≡ true
no_end [] b = absurd (false≢true b)
no_end (c ∷ cs) b = (and_parts (not (c == 35)) (list_all (λ d. not (d == 59)) (c ∷ cs)) b).1

pub entity_of_name : (name rest : List ℕ) → begins_name name ≡ true → entity_item (name ++ rest) ≡ name_item (name ++ rest)
entity_of_name [] rest b = absurd (false≢true b)
entity_of_name (c ∷ cs) rest b =
    let p = and_parts (not (c == 35)) (list_all (λ d. not (d == 59)) (c ∷ cs)) b in
    let q = and_parts (not (c == 59)) (list_all (λ d. not (d == 59)) cs) p.1 in
    ap (λ t. cond t None (cond (c == 35) (numbered_item (cs ++ rest)) (name_item (c ∷ (cs ++ rest))))) (not-true (c == 59) q.0)
    ∙ ap (λ t. cond t (numbered_item (cs ++ rest)) (name_item (c ∷ (cs ++ rest)))) (not-true (c == 35) p.0)

pub fault_of_name : (name rest : List ℕ) → begins_name name ≡ true → entity_fault (name ++ rest) ≡ name_fault (name ++ rest)
fault_of_name [] rest b = absurd (false≢true b)
fault_of_name (c ∷ cs) rest b =
    let p = and_parts (not (c == 35)) (list_all (λ d. not (d == 59)) (c ∷ cs)) b in
    let q = and_parts (not (c == 59)) (list_all (λ d. not (d == 59)) cs) p.1 in
    ap (λ t. cond t UnknownEntity (cond (c == 35) (number_fault (cs ++ rest)) (name_fault (c ∷ (cs ++ rest))))) (not-true (c == 59) q.0)
    ∙ ap (λ t. cond t (number_fault (cs ++ rest)) (name_fault (c ∷ (cs ++ rest)))) (not-true (c == 35) p.0)

-- An item of the grammar is found again, whatever follows it.
digits_of : (base : ℕ) (ds : List ℕ) (c : ℕ) → numbered base ds ≡ Some c → are_digits base ds ≡ true
digits_of base ds c e =
    elim (are_digits base ds) as (λ b. cond (b && (scalar (digits_value base ds) && true)) (Some (digits_value base ds)) None ≡ Some c → b ≡ true) [
      | true ↦ λ h. refl
      | false ↦ λ h. cc
    ] e

plain_stays : (d c : ℕ) → meaning (Plain d) ≡ Some c → (d == 38) ≡ false
plain_stays d c e = elim (d == 38) as (λ b. cond b None (Some d) ≡ Some c → b ≡ false) [ true ↦ λ h. cc | false ↦ λ h. refl ] e

stop_10 : is_digit 59 10 ≡ false
stop_10 = refl

stop_16 : is_digit 59 16 ≡ false
stop_16 = refl

pub item_back : (item : Item) (c : ℕ) (more : List ℕ) → meaning item ≡ Some c → item_at (spelled item ++ more) ≡ Some (item, more)
unfolding item_at
item_back (Plain d) c more e = ap (λ b. cond b (entity_item more) (Some (Plain d, more))) (plain_stays d c e)
item_back (Name name) c more e =
    let b = named_begins name c e in
    ap entity_item (append_assoc name (59 ∷ []) more) ∙ entity_of_name name (59 ∷ more) b ∙ name_item_is name more (no_end name b) ∙ ap (checked (Name name) more) e
item_back (Decimal ds) c more e =
    let a = digits_of 10 ds c e in
    let all = (and_parts (nat_lt 0 (length ds)) (list_all (λ d. is_digit d 10) ds) a).1 in
    ap numbered_item (append_assoc ds (59 ∷ []) more) ∙ decimal_item ds (59 ∷ more) a ∙ digits_item_is 10 Decimal ds 59 more all stop_10 ∙ ap (checked (Decimal ds) more) e
item_back (Hexadecimal ds) c more e =
    let a = digits_of 16 ds c e in
    let all = (and_parts (nat_lt 0 (length ds)) (list_all (λ d. is_digit d 16) ds) a).1 in
    ap (digits_item 16 Hexadecimal) (append_assoc ds (59 ∷ []) more) ∙ digits_item_is 16 Hexadecimal ds 59 more all stop_16 ∙ ap (checked (Hexadecimal ds) more) e

pub none_begins : (rest : List ℕ) → item_at rest ≡ None → NoItem rest
none_begins rest n item c more e h = let s = ap item_at h ∙ item_back item c more e in cc
