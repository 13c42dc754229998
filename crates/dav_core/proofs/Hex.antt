-- Hexadecimal digits, the last one apart.
use Rattle.std.proofs.Common.{◌≡◌, ℕ, zero, suc, ◌+◌, ◌-◌, ◌/◌, ◌%◌, ◌^◌, ◌<◌, ◌≤◌, ltb, cond, false, ◌≢◌, List, [], ◌∷◌, ◌++◌, length, drop, slice_set, length-append, Option, None, Some, MatchOption, refl, sym, ap, ◌∙◌, ⊎_elim, append_assoc, eq-eqb, ne_eqb, arith}
use Rattle.std.proofs.lemmas.Bool.{cases_lt as order, le-ltb, lt-ltb}
use Rattle.std.proofs.lemmas.List.{append_cancel_right}
use Rattle.std.specs.Fmt.{digit_glyph, digits_onto, digits}
use Rattle.std.specs.Borrow.{Bor}
use Rattle.std.proofs.lemmas.Grind.{common_steps, drop-set_at}
use Rattle.std.proofs.Math.Nat.{pow-suc}
use Rattle.dav_core.specs.Grammar.{EndsOtherwise}
use Rattle.dav_core.specs.Info.{hex}

abbrev spell : ℕ → ℕ → List ℕ → List ℕ
spell k n acc = digits_onto k 16 false n acc

abbrev pub last_digit : ℕ → ℕ
last_digit n = digit_glyph false (n % 16)

spell_last : (k n : ℕ) (acc : List ℕ) → n < 16 → spell (suc k) n acc ≡ last_digit n ∷ acc
spell_last k n acc h = ap (λ t. cond t (last_digit n ∷ acc) (spell k (n / 16) (last_digit n ∷ acc))) (eq-eqb (n / 16) 0 (omega arith))

spell_next : (k n : ℕ) (acc : List ℕ) → 16 ≤ n → spell (suc k) n acc ≡ spell k (n / 16) (last_digit n ∷ acc)
spell_next k n acc h = ap (λ t. cond t (last_digit n ∷ acc) (spell k (n / 16) (last_digit n ∷ acc))) (ne_eqb (n / 16) 0 (λ e. omega arith))

spell-append : (k n : ℕ) (acc : List ℕ) → spell k n acc ≡ spell k n [] ++ acc
spell-append zero n acc = refl
spell-append (suc k) n acc = ⊎_elim
    (λ l. spell_last k n acc l ∙ ap (λ x. x ++ acc) (sym (spell_last k n [] l)))
    (λ l. spell_next k n acc l ∙ spell-append k (n / 16) (last_digit n ∷ acc) ∙ sym (append_assoc (spell k (n / 16) []) (last_digit n ∷ []) acc) ∙ ap (λ x. x ++ acc) (sym (spell_next k n [] l ∙ spell-append k (n / 16) (last_digit n ∷ []))))
    (order n 16)

-- the digit limit does not matter once it is large enough
spell_enough : (j k n : ℕ) (acc : List ℕ) → n < 16 ^ suc j → n < 16 ^ suc k → spell (suc j) n acc ≡ spell (suc k) n acc
spell_enough zero k n acc p q = spell_last zero n acc (omega arith) ∙ sym (spell_last k n acc (omega arith))
spell_enough (suc j) zero n acc p q = spell_last (suc j) n acc (omega arith) ∙ sym (spell_last zero n acc (omega arith))
spell_enough (suc j) (suc k) n acc p q = ⊎_elim
    (λ l. spell_last (suc j) n acc l ∙ sym (spell_last (suc k) n acc l))
    (λ l. spell_next (suc j) n acc l ∙ spell_enough j k (n / 16) (last_digit n ∷ acc) (omega arith) (omega arith) ∙ sym (spell_next (suc k) n acc l))
    (order n 16)

onto_nil : (n : ℕ) → spell 64 n [] ≡ hex n
unfolding digits
onto_nil n = refl

pub hex_one : (n : ℕ) → n < 16 → hex n ≡ last_digit n ∷ []
hex_one n h = sym (onto_nil n) ∙ spell_last 63 n [] h

pub hex_more : (n : ℕ) → 16 ≤ n → n < 2 ^ 64 → hex n ≡ hex (n / 16) ++ (last_digit n ∷ [])
hex_more n h small =
    sym (onto_nil n) ∙ spell_next 63 n [] h ∙ spell_enough 62 63 (n / 16) (last_digit n ∷ []) (omega arith) (omega arith) ∙ spell-append 64 (n / 16) (last_digit n ∷ [])
    ∙ ap (λ x. x ++ (last_digit n ∷ [])) (onto_nil (n / 16))

-- ends of texts

pub snoc_same : (a b : List ℕ) (x y : ℕ) → a ++ (x ∷ []) ≡ b ++ (y ∷ []) → (a ≡ b) × (x ≡ y)
snoc_same [] [] x y e = (refl, cc)
snoc_same [] (d ∷ []) x y e = cc
snoc_same [] (d ∷ f ∷ b) x y e = cc
snoc_same (c ∷ []) [] x y e = cc
snoc_same (c ∷ f ∷ a) [] x y e = cc
snoc_same (c ∷ a) (d ∷ b) x y e =
    let tails : a ++ (x ∷ []) ≡ b ++ (y ∷ []) = cc in
    let same = snoc_same a b x y tails in
    let heads : c ≡ d = cc in
    ((λ i. heads i ∷ same.0 i), same.1)

-- all digits but the last
stem : (n : ℕ) → n < 2 ^ 64 → (s : List ℕ) × (hex n ≡ s ++ (last_digit n ∷ []))
stem n small = ⊎_elim (λ l. ([], hex_one n l)) (λ l. (hex (n / 16), hex_more n l small)) (order n 16)

pub none_ends : (text : List ℕ) (n : ℕ) → n < 2 ^ 64 → length text ≡ 0 → EndsOtherwise text (hex n)
none_ends text n small none front e =
    let s = stem n small in
    let lengths = ap length (e ∙ ap (λ x. front ++ x) s.1) in
    omega (arith, lengths, length-append front (s.0 ++ (last_digit n ∷ [])), length-append s.0 (last_digit n ∷ []))

pub other_digit : (text rest : List ℕ) (last n : ℕ) → n < 2 ^ 64 → text ≡ rest ++ (last ∷ []) → last ≢ last_digit n → EndsOtherwise text (hex n)
other_digit text rest last n small parts other front e =
    let s = stem n small in
    other (snoc_same rest (front ++ s.0) last (last_digit n) (sym parts ∙ e ∙ ap (λ x. front ++ x) s.1 ∙ sym (append_assoc front s.0 (last_digit n ∷ [])))).1

pub one_digit : (text rest : List ℕ) (last n : ℕ) → n < 16 → text ≡ rest ++ (last ∷ []) → last ≡ last_digit n → text ≡ rest ++ hex n
one_digit text rest last n small parts same = parts ∙ ap (λ d. rest ++ (d ∷ [])) same ∙ ap (λ x. rest ++ x) (sym (hex_one n small))

pub more_digits : (text rest front : List ℕ) (last n : ℕ) → 16 ≤ n → n < 2 ^ 64 → text ≡ rest ++ (last ∷ []) → last ≡ last_digit n → rest ≡ front ++ hex (n / 16) → text ≡ front ++ hex n
more_digits text rest front last n large small parts same e =
    parts ∙ ap (λ d. rest ++ (d ∷ [])) same ∙ ap (λ x. x ++ (last_digit n ∷ [])) e ∙ append_assoc front (hex (n / 16)) (last_digit n ∷ []) ∙ ap (λ x. front ++ x) (sym (hex_more n large small))

pub more_otherwise : (text rest : List ℕ) (last n : ℕ) → 16 ≤ n → n < 2 ^ 64 → text ≡ rest ++ (last ∷ []) → EndsOtherwise rest (hex (n / 16)) → EndsOtherwise text (hex n)
more_otherwise text rest last n large small parts never front e =
    never front (snoc_same rest (front ++ hex (n / 16)) last (last_digit n)
    (sym parts ∙ e ∙ ap (λ x. front ++ x) (hex_more n large small) ∙ sym (append_assoc front (hex (n / 16)) (last_digit n ∷ [])))).0

pub found_more : (r : Option (Bor (List ℕ))) (text rest : List ℕ) (last n : ℕ) → 16 ≤ n → n < 2 ^ 64 → text ≡ rest ++ (last ∷ []) → last ≡ last_digit n
    → MatchOption r (EndsOtherwise rest (hex (n / 16))) (λ front. rest ≡ front.now ++ hex (n / 16))
    → MatchOption r (EndsOtherwise text (hex n)) (λ front. text ≡ front.now ++ hex n)
found_more None text rest last n large small parts same never = more_otherwise text rest last n large small parts never
found_more (Some front) text rest last n large small parts same e = more_digits text rest front.now last n large small parts same e

-- a dash and an end

-- a text that doesn't end so doesn't end with more
pub longer_otherwise : (text end : List ℕ) (b : ℕ) → EndsOtherwise text end → EndsOtherwise text (b ∷ end)
longer_otherwise text end b never front e = never (front ++ (b ∷ [])) (e ∙ sym (append_assoc front (b ∷ []) end))

pub other_dash : (text rest front end : List ℕ) (last b : ℕ) → text ≡ rest ++ end → rest ≡ front ++ (last ∷ []) → last ≢ b → EndsOtherwise text (b ∷ end)
other_dash text rest front end last b parts snoc other f e =
    other (snoc_same front f last b (sym snoc ∙ append_cancel_right rest (f ++ (b ∷ [])) end (sym parts ∙ e ∙ sym (append_assoc f (b ∷ []) end)))).1

-- what stands before an end decides a whole
pub whole_by_front : (text front start end : List ℕ) → text ≡ front ++ end → ((text ≡ start ++ end) → front ≡ start) × ((front ≡ start) → text ≡ start ++ end)
whole_by_front text front start end parts =
    ((λ e. append_cancel_right front start end (sym parts ∙ e)), (λ e. parts ∙ ap (λ x. x ++ end) e))

-- digits from the last one on

-- the digits of a number before its last
abbrev pub front : ℕ → List ℕ
front n = cond (ltb n 16) [] (hex (n / 16))

pub front_short : (n : ℕ) → n < 16 → front n ≡ []
front_short n h = ap (λ b. cond b [] (hex (n / 16))) (lt-ltb n 16 h)

front_long : (n : ℕ) → 16 ≤ n → front n ≡ hex (n / 16)
front_long n h = ap (λ b. cond b [] (hex (n / 16))) (le-ltb n 16 h)

pub front_last : (n : ℕ) → n < 2 ^ 64 → hex n ≡ front n ++ (last_digit n ∷ [])
front_last n small = ⊎_elim
    (λ l. hex_one n l ∙ ap (λ x. x ++ (last_digit n ∷ [])) (sym (front_short n l)))
    (λ l. hex_more n l small ∙ ap (λ x. x ++ (last_digit n ∷ [])) (sym (front_long n l)))
    (order n 16)

-- one digit more is written
pub front_moves : (n : ℕ) (digits behind : List ℕ) → 16 ≤ n → n < 2 ^ 64 → digits ≡ front n ++ behind → digits ≡ front (n / 16) ++ (last_digit (n / 16) ∷ behind)
front_moves n digits behind large small e =
    e ∙ ap (λ x. x ++ behind) (front_long n large ∙ front_last (n / 16) (omega arith)) ∙ append_assoc (front (n / 16)) (last_digit (n / 16) ∷ []) behind

-- a number of two digits or more has a place before its last
pub some_left : (at n : ℕ) → n < 16 ^ suc at → 16 ≤ n → 0 < at
some_left zero n h large = absurd (omega arith)
some_left (suc at) n h large = omega arith

pub one_fewer : (at less n : ℕ) → n < 16 ^ suc at → at ≡ suc less → n / 16 < 16 ^ suc less
one_fewer at less n h e =
    let more : n < 16 ^ suc (suc less) = rw (sym e) h in
    omega (arith, more, pow-suc 16 (suc less))

-- sixteen places are left at first
pub few_at_first : (end n : ℕ) → 0 < end → n < 2 ^ 64 → n < 16 ^ suc (end - 1 + 16 - end)
few_at_first end n some small =
    let same : end - 1 + 16 - end ≡ 15 = omega arith in
    rw same (omega arith)

-- the last digit is written, right before an end
pub first_written : (end n : ℕ) (into : List ℕ) (d : ℕ) → 0 < end → end ≤ length into → n < 2 ^ 64 → d ≡ last_digit n
    → hex n ++ drop end into ≡ front n ++ drop (end - 1) (slice_set into (end - 1) d)
first_written end n into d some within small same =
    let written : drop (end - 1) (slice_set into (end - 1) d) ≡ d ∷ drop (end - 1 + 1) into = drop-set_at into (end - 1) (end - 1) d refl (omega arith) in
    let next : end - 1 + 1 ≡ end = omega arith in
    ap (λ x. x ++ drop end into) (front_last n small) ∙ append_assoc (front n) (last_digit n ∷ []) (drop end into)
    ∙ ap (λ x. front n ++ x) (ap (λ b. b ∷ drop end into) (sym same) ∙ sym (written ∙ ap (λ k. d ∷ drop k into) next))

-- the digit before those that are written
pub next_written : (at n : ℕ) (digits into : List ℕ) (d : ℕ) → 0 < at → at ≤ length into → 16 ≤ n → n < 2 ^ 64 → digits ≡ front n ++ drop at into
    → d ≡ last_digit (n / 16) → digits ≡ front (n / 16) ++ drop (at - 1) (slice_set into (at - 1) d)
next_written at n digits into d some within large small e same =
    let written : drop (at - 1) (slice_set into (at - 1) d) ≡ d ∷ drop (at - 1 + 1) into = drop-set_at into (at - 1) (at - 1) d refl (omega arith) in
    let next : at - 1 + 1 ≡ at = omega arith in
    front_moves n digits (drop at into) large small e
    ∙ ap (λ x. front (n / 16) ++ x) (ap (λ b. b ∷ drop at into) (sym same) ∙ sym (written ∙ ap (λ k. d ∷ drop k into) next))

-- texts between quotes, from their ends on

pub none_behind : (n : ℕ) (into : List ℕ) → length into ≡ n → drop n into ≡ []
none_behind n into len = grind (arith, common_steps)

pub two_quoted : (n m old a b c d : List ℕ) → old ≡ [] → a ≡ 34 ∷ old → b ≡ 45 ∷ (m ++ a) → c ≡ n ++ b → d ≡ 34 ∷ c → d ≡ 34 ∷ ((n ++ 45 ∷ m) ++ 34 ∷ [])
two_quoted n m old a b c d none p q r s =
    s ∙ ap (λ x. 34 ∷ x) (r ∙ ap (λ x. n ++ x) (q ∙ ap (λ x. 45 ∷ (m ++ x)) (p ∙ ap (λ x. 34 ∷ x) none)) ∙ sym (append_assoc n (45 ∷ m) (34 ∷ [])))

pub three_quoted : (n k m old a b c d e : List ℕ) → old ≡ [] → a ≡ 34 ∷ old → b ≡ 45 ∷ (m ++ a) → c ≡ 45 ∷ (k ++ b) → d ≡ n ++ c → e ≡ 34 ∷ d
    → e ≡ 34 ∷ ((n ++ 45 ∷ (k ++ 45 ∷ m)) ++ 34 ∷ [])
three_quoted n k m old a b c d e none p q r s t =
    t ∙ ap (λ x. 34 ∷ x) (s ∙ ap (λ x. n ++ x) (r ∙ ap (λ x. 45 ∷ (k ++ x)) (q ∙ ap (λ x. 45 ∷ (m ++ x)) (p ∙ ap (λ x. 34 ∷ x) none))
    ∙ ap (λ x. 45 ∷ x) (sym (append_assoc k (45 ∷ m) (34 ∷ [])))) ∙ sym (append_assoc n (45 ∷ (k ++ 45 ∷ m)) (34 ∷ [])))
