-- What of a text decides whether a line with the size of a chunk stands at its front.
use Rattle.std.proofs.Common.{◌≡◌, ◌≢◌, ℕ, zero, suc, ◌+◌, ◌-◌, ◌*◌, ◌^◌, ◌<◌, ◌≤◌, List, [], ◌∷◌, ◌++◌, length, take, drop, All, get_or, refl, sym, ap, ap₂, ◌∙◌, subst, arith, append_assoc, append-nil, inl, inr, length-append}
use Rattle.std.specs.Char.{digit_value}
use Rattle.std.specs.List.{AllByRecursion}
use Rattle.std.specs.Str.Parse.{AllDigits, digits_value}
use Rattle.std.proofs.lemmas.List.{take-append-drop, length-take-le, length-drop, drop_all, take_all}
use Rattle.std.proofs.lemmas.List.Elements.{All-head, All-tail}
use Rattle.std.proofs.lemmas.Bool.{cases_lt}
use Rattle.std.proofs.Math.Seq.{drop-cons, take-append_seam}
use Rattle.std.proofs.Math.Nat.{pow-suc, pow-le-pow_right}
use Rattle.dav_wire.specs.declared.size_line.EndFound.TheVariants.{Here, Partly}
use Rattle.dav_wire.specs.declared.size_line.SizeFound.TheVariants.{Line, More}
use Rattle.dav_wire.specs.Bodies.{HasNoSize, NeverHasSize, NeverEndsLine}
use Rattle.dav_wire.specs.Chunks.{line_end, HasSize, IsSize, IsWithinLine, IsExtension}
use Rattle.dav_wire.specs.SizeLines.{FindsEnd, FindsSize, EndsExtension, IsLongExtension}
use Rattle.dav_wire.proofs.Chunking.{split_once, IsDigit, digits_each, behind_size}

-- below 16 ^ 16 there is room for a digit more
pub few_digits : (value at : ℕ) → value < 16 ^ at → at < 16 → value * 16 + 16 ≤ 2 ^ 64
few_digits value at few short =
    let most : 16 ^ suc at ≤ 16 ^ 16 = pow-le-pow_right {n = 16} (omega arith) {i = suc at} {j = 16} (omega arith) in
    let next = pow-suc 16 at in
    omega arith

pub digits_more : (xs : List ℕ) (i : ℕ) → i < length xs → AllDigits 16 (take i xs) → digit_value (get_or xs i 0) < 16 → AllDigits 16 (take (suc i) xs)
digits_more [] i within all is = absurd (omega arith)
digits_more (x ∷ xs) zero within all is = (is, tt)
digits_more (x ∷ xs) (suc i) within all is = (all.0, digits_more xs i (omega arith) all.1 is)

pub digit_at : (xs : List ℕ) (i : ℕ) → i < length xs → AllDigits 16 (drop i xs) → digit_value (get_or xs i 0) < 16
digit_at [] i within all = absurd (omega arith)
digit_at (x ∷ xs) zero within all = all.0
digit_at (x ∷ xs) (suc i) within all = digit_at xs i (omega arith) all

-- the end of a line

pub partly_none : (text : List ℕ) → length text ≡ 0 → FindsEnd text Partly
partly_none [] none = (omega arith, line_end, refl)
partly_none (x ∷ text) none = absurd (omega arith)

pub partly_one : (text : List ℕ) → 0 < length text → length text < 2 → get_or text 0 0 ≡ 13 → FindsEnd text Partly
partly_one [] some few first = absurd (omega arith)
partly_one (x ∷ []) some few first = (omega arith, 10 ∷ [], ap (λ (b : ℕ). b ∷ 10 ∷ []) first)
partly_one (x ∷ y ∷ text) some few first = absurd (omega arith)

pub nowhere_first : (text : List ℕ) → 0 < length text → get_or text 0 0 ≢ 13 → NeverEndsLine text
nowhere_first [] some other more rest e = absurd (omega arith)
nowhere_first (x ∷ text) some other more rest e = let same : x ≡ 13 = cc in other same

pub nowhere_second : (text : List ℕ) → 1 < length text → get_or text 1 0 ≢ 10 → NeverEndsLine text
nowhere_second [] some other more rest e = absurd (omega arith)
nowhere_second (x ∷ []) some other more rest e = absurd (omega arith)
nowhere_second (x ∷ y ∷ text) some other more rest e = let same : y ≡ 10 = cc in other same

pub here_both : (text : List ℕ) → 1 < length text → get_or text 0 0 ≡ 13 → get_or text 1 0 ≡ 10 → text ≡ line_end ++ drop 2 text
here_both [] some first second = absurd (omega arith)
here_both (x ∷ []) some first second = absurd (omega arith)
here_both (x ∷ y ∷ text) some first second = ap₂ (λ (a b : ℕ). a ∷ b ∷ text) first second

-- A front of which each has a property is no longer than another that something without it ends.
front_fits : (P : ℕ → Type 0) (front other rest : List ℕ) (y : ℕ) (behind : List ℕ) → AllByRecursion P front → (P y → ⊥)
    → front ++ rest ≡ other ++ y ∷ behind → length front ≤ length other
front_fits P [] other rest y behind all not_y e = omega arith
front_fits P (c ∷ front) [] rest y behind (is, more) not_y e = let same : c ≡ y = cc in absurd (not_y (subst P same is))
front_fits P (c ∷ front) (d ∷ other) rest y behind (is, more) not_y e =
    let later : front ++ rest ≡ other ++ y ∷ behind = cc in
    let fits = front_fits P front other rest y behind more not_y later in
    omega arith

no_digit : (x : ℕ) → 16 ≤ digit_value x → IsDigit x → ⊥
no_digit x much is = omega arith

-- the size of a line that begins with these digits has no fewer
digits_fit : (digits behind : List ℕ) (size : ℕ) (rest : List ℕ) → AllDigits 16 digits → (has : HasSize (digits ++ behind) size rest)
    → length digits ≤ length has.number
digits_fit digits behind size rest all has =
    let after = behind_size has.extension rest has.extension_is in
    front_fits IsDigit digits has.number behind after.0 after.1 (digits_each digits all) after.3 (has.whole ∙ ap (λ x. has.number ++ x) after.2)

pub never_long : (digits behind : List ℕ) → AllDigits 16 digits → 16 < length digits → NeverHasSize (digits ++ behind)
never_long digits behind all long more size rest has =
    let whole = subst (λ (x : List ℕ). HasSize x size rest) (append_assoc digits behind more) has in
    let fits = digits_fit digits (behind ++ more) size rest all whole in
    let few = whole.number_is.few in
    omega arith

pub never_none : (x : ℕ) (behind : List ℕ) → 16 ≤ digit_value x → NeverHasSize (x ∷ behind)
never_none x behind much more size rest has =
    none has.number (x ∷ behind ++ more) (has.extension ++ (line_end ++ rest)) has.number_is.some has.number_is.hexadecimal has.whole
  where
    none : (number text after : List ℕ) → 0 < length number → AllDigits 16 number → x ∷ behind ++ more ≡ number ++ after → ⊥
    none [] text after some all e = absurd (omega arith)
    none (c ∷ number) text after some all e = let same : x ≡ c = cc in no_digit x much (subst IsDigit (sym same) all.0)

-- only digits are no line with a size
pub none_in_digits : (digits : List ℕ) → AllDigits 16 digits → HasNoSize digits
none_in_digits digits all size rest has =
    let whole = subst (λ (x : List ℕ). HasSize x size rest) (sym (append-nil digits)) has in
    let fits = digits_fit digits [] size rest all whole in
    let size_now = ap (length {A = ℕ}) whole.whole in
    let left = length-append digits [] in
    let right = length-append whole.number (whole.extension ++ (line_end ++ rest)) in
    let behind = length-append whole.extension (line_end ++ rest) in
    omega arith

-- the digits in front of another byte are the size, and behind them stand its extension and the end of the line
shape : (digits : List ℕ) (x : ℕ) (behind : List ℕ) (size : ℕ) (rest : List ℕ) → AllDigits 16 digits → 16 ≤ digit_value x
    → (has : HasSize (digits ++ x ∷ behind) size rest) → has.extension ++ (line_end ++ rest) ≡ x ∷ behind
shape digits x behind size rest all much has =
    let after = behind_size has.extension rest has.extension_is in
    let split = split_once IsDigit digits has.number x after.0 behind after.1 (digits_each digits all) (digits_each has.number has.number_is.hexadecimal)
    (no_digit x much) after.3 (has.whole ∙ ap (λ y. has.number ++ y) after.2) in
    after.2 ∙ sym split.1

within_each : (bytes : List ℕ) → All IsWithinLine bytes → AllByRecursion IsWithinLine bytes
within_each [] all = tt
within_each (b ∷ bytes) all = (All-head IsWithinLine b bytes all, within_each bytes (All-tail IsWithinLine b bytes all))

no_return : IsWithinLine 13 → ⊥
no_return within = within.0 refl

-- An extension in front of the end of a line, where it begins with a semicolon.
extension_fits : (bytes other rest behind : List ℕ) → All IsWithinLine bytes → IsExtension other
    → other ++ (line_end ++ rest) ≡ 59 ∷ (bytes ++ behind)
    → length bytes ≤ 256
extension_fits bytes [] rest behind all is e = let no : ◌≡◌ {A = ℕ} 13 59 = cc in absurd (omega (arith, no))
extension_fits bytes (b ∷ other) rest behind all is e =
    let later : bytes ++ behind ≡ other ++ 13 ∷ 10 ∷ rest = cc in
    let fits = front_fits IsWithinLine bytes other behind 13 (10 ∷ rest) (within_each bytes all) no_return later in
    omega (arith, fits, is.1)

extension_none : (bytes other rest : List ℕ) → All IsWithinLine bytes → IsExtension other → other ++ (line_end ++ rest) ≡ 59 ∷ bytes → ⊥
extension_none bytes [] rest all is e = let no : ◌≡◌ {A = ℕ} 13 59 = cc in absurd (omega (arith, no))
extension_none bytes (b ∷ other) rest all is e =
    let later : bytes ≡ other ++ 13 ∷ 10 ∷ rest = cc in
    let fits = front_fits IsWithinLine bytes other [] 13 (10 ∷ rest) (within_each bytes all) no_return (append-nil bytes ∙ later) in
    let sizes = ap (length {A = ℕ}) later in
    let right = length-append other (13 ∷ 10 ∷ rest) in
    omega arith

extension_one : (bytes other rest : List ℕ) (y : ℕ) (behind : List ℕ) → All IsWithinLine bytes → (IsWithinLine y → ⊥) → IsExtension other
    → other ++ (line_end ++ rest) ≡ 59 ∷ (bytes ++ y ∷ behind) → line_end ++ rest ≡ y ∷ behind
extension_one bytes [] rest y behind all not_y is e = let no : ◌≡◌ {A = ℕ} 13 59 = cc in absurd (omega (arith, no))
extension_one bytes (b ∷ other) rest y behind all not_y is e =
    let later : other ++ 13 ∷ 10 ∷ rest ≡ bytes ++ y ∷ behind = cc in
    (split_once IsWithinLine other bytes 13 y (10 ∷ rest) behind (within_each other is.2) (within_each bytes all) no_return not_y later).1

extension_empty : (other rest : List ℕ) (x : ℕ) (behind : List ℕ) → x ≢ 59 → IsExtension other → other ++ (line_end ++ rest) ≡ x ∷ behind
    → line_end ++ rest ≡ x ∷ behind
extension_empty [] rest x behind other is e = e
extension_empty (b ∷ bytes) rest x behind other is e = let same : b ≡ x = cc in absurd (other (sym same ∙ is.0))

-- a semicolon, the bytes of the extension, and what stands behind it
long_shape : (behind : List ℕ) (len : ℕ) → IsLongExtension behind len → behind ≡ 59 ∷ (take (len - 1) (drop 1 behind) ++ drop len behind)
long_shape [] len long = let within = long.within in let some = long.some in absurd (omega arith)
long_shape (b ∷ bytes) zero long = let some = long.some in absurd (omega arith)
long_shape (b ∷ bytes) (suc n) long =
    let same : suc n - 1 ≡ n = omega arith in
    ap₂ (λ (x : ℕ) (xs : List ℕ). x ∷ xs) long.semicolon (sym (ap (λ k. take k bytes ++ drop n bytes) same ∙ take-append-drop n bytes))

-- the bytes in front of the end of a line are an extension
extension_is : (behind : List ℕ) (len : ℕ) → EndsExtension behind len → len ≤ 257 → IsExtension (take len behind)
extension_is behind len (inl (none, other)) few = subst (λ (k : ℕ). IsExtension (take k behind)) (sym none) tt
extension_is [] len (inr long) few = let within = long.within in let some = long.some in absurd (omega arith)
extension_is (b ∷ bytes) zero (inr long) few = let some = long.some in absurd (omega arith)
extension_is (b ∷ bytes) (suc n) (inr long) few =
    let same : suc n - 1 ≡ n = omega arith in
    let within = long.within in
    (long.semicolon, omega (arith, length-take-le n bytes (omega arith)), subst (λ (k : ℕ). All IsWithinLine (take k bytes)) same long.all)

-- a text that begins with another byte than a digit
abbrev Begins : List ℕ → Type 0
Begins behind = (0 < length behind) × (16 ≤ digit_value (get_or behind 0 0))

-- what stands behind the digits of a size
tail_of : (digits behind : List ℕ) (size : ℕ) (rest : List ℕ) → AllDigits 16 digits → Begins behind → HasSize (digits ++ behind) size rest
    → (other : List ℕ) × IsExtension other × (other ++ (line_end ++ rest) ≡ behind)
tail_of digits [] size rest all begins has = absurd (omega (arith, begins.0))
tail_of digits (x ∷ behind) size rest all begins has = (has.extension, has.extension_is, shape digits x behind size rest all begins.1 has)

begins_more : (behind more : List ℕ) → Begins behind → Begins (behind ++ more)
begins_more [] more begins = absurd (omega (arith, begins.0))
begins_more (x ∷ behind) more begins = (omega arith, begins.1)

tail_more : (digits behind more : List ℕ) (size : ℕ) (rest : List ℕ) → AllDigits 16 digits → Begins behind
    → HasSize ((digits ++ behind) ++ more) size rest
    → (other : List ℕ) × IsExtension other × (other ++ (line_end ++ rest) ≡ behind ++ more)
tail_more digits behind more size rest all begins has =
    tail_of digits (behind ++ more) size rest all (begins_more behind more begins) (subst (λ (x : List ℕ). HasSize x size rest) (append_assoc digits behind more) has)

-- how an extension ends decides what stands as the end of its line
decides : (behind more : List ℕ) (len : ℕ) (other rest : List ℕ) → EndsExtension behind len → len < length behind → IsExtension other
    → other ++ (line_end ++ rest) ≡ behind ++ more → line_end ++ rest ≡ drop len behind ++ more
decides [] more len other rest ends within is e = absurd (omega arith)
decides (b ∷ bytes) more len other rest (inl (none, first)) within is e =
    extension_empty other rest b (bytes ++ more) first is e ∙ ap (λ (k : ℕ). drop k (b ∷ bytes) ++ more) (sym none)
decides (b ∷ bytes) more len other rest (inr long) within is e =
    let behind : List ℕ = b ∷ bytes in
    let next : drop len behind ≡ get_or behind len 0 ∷ drop (suc len) behind = drop-cons behind len 0 within in
    let body : List ℕ = take (len - 1) (drop 1 behind) in
    let whole : other ++ (line_end ++ rest) ≡ 59 ∷ (body ++ get_or behind len 0 ∷ (drop (suc len) behind ++ more)) =
    e ∙ ap (λ x. x ++ more) (long_shape behind len long) ∙ ap (λ x. 59 ∷ x) (append_assoc body (drop len behind) more ∙ ap (λ x. body ++ (x ++ more)) next) in
    extension_one body other rest (get_or behind len 0) (drop (suc len) behind ++ more) long.all (long.ends within) is whole
    ∙ ap (λ x. x ++ more) (sym next)

pub never_extension : (digits behind : List ℕ) (len : ℕ) → AllDigits 16 digits → Begins behind → EndsExtension behind len → 257 < len
    → NeverHasSize (digits ++ behind)
never_extension digits behind len all begins (inl (none, other)) much more size rest has = absurd (omega arith)
never_extension digits behind len all begins (inr long) much more size rest has =
    let tail = tail_more digits behind more size rest all begins has in
    let body : List ℕ = take (len - 1) (drop 1 behind) in
    let whole : tail.0 ++ (line_end ++ rest) ≡ 59 ∷ (body ++ (drop len behind ++ more)) =
    tail.2 ∙ ap (λ x. x ++ more) (long_shape behind len long) ∙ ap (λ x. 59 ∷ x) (append_assoc body (drop len behind) more) in
    let fits = extension_fits body tail.0 rest (drop len behind ++ more) long.all tail.1 whole in
    let within = long.within in
    let sizes = ap (length {A = ℕ}) (long_shape behind len long) in
    let parts = length-append body (drop len behind) in
    let left = length-drop len behind in
    omega arith

pub never_line_end : (digits behind : List ℕ) (len : ℕ) → AllDigits 16 digits → Begins behind → EndsExtension behind len → len ≤ length behind
    → NeverEndsLine (drop len behind) → NeverHasSize (digits ++ behind)
never_line_end digits behind len all begins ends within none more size rest has =
    let tail = tail_more digits behind more size rest all begins has in
    elim (cases_lt len (length behind)) [
      | inl inside ↦ none more rest (sym (decides behind more len tail.0 rest ends inside tail.1 tail.2))
      | inr over ↦
          let empty : drop len behind ≡ [] = drop_all len behind over in
          none line_end [] (ap (λ x. x ++ line_end) empty)
    ]

no_size_yet : (digits behind : List ℕ) (len : ℕ) → AllDigits 16 digits → Begins behind → EndsExtension behind len → len ≤ length behind
    → length (drop len behind) < 2 → HasNoSize (digits ++ behind)
no_size_yet digits behind len all begins ends within few size rest has =
    let tail = tail_of digits behind size rest all begins has in
    elim (cases_lt len (length behind)) [
      | inl inside ↦
          let same = decides behind [] len tail.0 rest ends inside tail.1 (tail.2 ∙ sym (append-nil behind)) ∙ append-nil (drop len behind) in
          let sizes = ap (length {A = ℕ}) same in
          absurd (omega arith)
      | inr over ↦ over_none behind len tail.0 rest ends within over begins.0 tail.1 tail.2
    ]
  where
    over_none : (behind : List ℕ) (len : ℕ) (other rest : List ℕ) → EndsExtension behind len → len ≤ length behind → length behind ≤ len
        → 0 < length behind
        → IsExtension other → other ++ (line_end ++ rest) ≡ behind → ⊥
    over_none behind len other rest (inl (none, first)) within over some is e = absurd (omega arith)
    over_none behind len other rest (inr long) within over some is e =
        let body : List ℕ = take (len - 1) (drop 1 behind) in
        let whole : other ++ (line_end ++ rest) ≡ 59 ∷ body =
        e ∙ long_shape behind len long ∙ ap (λ x. 59 ∷ x) (ap (λ x. body ++ x) (drop_all len behind over) ∙ append-nil body) in
        extension_none body other rest long.all is whole

-- the parts of a line whose end stands there, with these bytes more
line_with : (digits behind more after : List ℕ) (len : ℕ) → IsSize digits (digits_value 16 digits) → EndsExtension behind len → len ≤ 257
    → drop len behind ++ more ≡ line_end ++ after → HasSize ((digits ++ behind) ++ more) (digits_value 16 digits) after
line_with digits behind more after len is ends few e = record {
  number = digits;
  extension = take len behind;
  whole = append_assoc digits behind more
      ∙ ap (λ x. digits ++ x) (ap (λ x. x ++ more) (sym (take-append-drop len behind)) ∙ append_assoc (take len behind) (drop len behind) more ∙ ap (λ x. take len behind ++ x) e);
  number_is = is;
  extension_is = extension_is behind len ends few;
}

pub more_line_end : (digits behind : List ℕ) (len : ℕ) → IsSize digits (digits_value 16 digits) → Begins behind → EndsExtension behind len
    → len ≤ length behind
    → len ≤ 257 → FindsEnd (drop len behind) Partly → FindsSize (digits ++ behind) More
more_line_end digits behind len is begins ends within few (short, more, e) = (
  (let both = length-append digits behind in let left = length-drop len behind in let most = is.few in omega arith),
  no_size_yet digits behind len is.hexadecimal begins ends within short,
  (more, digits_value 16 digits, [], line_with digits behind more [] len is ends few (e ∙ sym (append-nil line_end))),
)

pub more_digits : (digits : List ℕ) → AllDigits 16 digits → length digits ≤ 16 → FindsSize digits More
more_digits [] all few = (
  omega arith,
  none_in_digits [] tt,
  (
    48 ∷ line_end,
    0,
    [],
    record { number = 48 ∷ []; extension = []; whole = refl; number_is = record { some = omega arith; few = omega arith; hexadecimal = (omega arith, tt); value = refl }; extension_is = tt },
  ),
)
more_digits (d ∷ digits) all few = (
  omega arith,
  none_in_digits (d ∷ digits) all,
  (
    line_end,
    digits_value 16 (d ∷ digits),
    [],
    record { number = d ∷ digits; extension = []; whole = refl; number_is = record { some = omega arith; few = few; hexadecimal = all; value = refl }; extension_is = tt },
  ),
)

pub line_here : (digits behind : List ℕ) (len : ℕ) → IsSize digits (digits_value 16 digits) → EndsExtension behind len → len ≤ 257
    → FindsEnd (drop len behind) Here → FindsSize (digits ++ behind) (Line (digits_value 16 digits) (length digits + len + 2))
line_here digits behind len is ends few (long, e) =
    let after : List ℕ = drop 2 (drop len behind) in
    let front : List ℕ = digits ++ (take len behind ++ line_end) in
    let left = length-drop len behind in
    let size : length front ≡ length digits + len + 2 =
    length-append digits (take len behind ++ line_end) ∙ (let inner = length-append (take len behind) line_end in let taken = length-take-le len behind (omega arith) in omega arith) in
    let whole : digits ++ behind ≡ front ++ after =
    ap (λ x. digits ++ x) (sym (take-append-drop len behind) ∙ ap (λ x. take len behind ++ x) e ∙ sym (append_assoc (take len behind) line_end after))
    ∙ sym (append_assoc digits (take len behind ++ line_end) after) in
    let all = length-append digits behind in (
      omega arith,
      omega arith,
      record {
        number = digits;
        extension = take len behind;
        whole = ap (take (length digits + len + 2)) whole ∙ ap (λ k. take k (front ++ after)) (sym size) ∙ take-append_seam front after
            ∙ ap (λ x. digits ++ (take len behind ++ x)) (sym (append-nil line_end));
        number_is = is;
        extension_is = extension_is behind len ends few;
      },
    )

-- What a reader of the line knows: so many digits stand at the front, and behind them another byte or nothing.
pub record Digits (text : List ℕ) (count : ℕ) : Type 0 where
  pub within : count ≤ length text
  pub all : AllDigits 16 (take count text)
  pub ends : count < length text → 16 ≤ digit_value (get_or text count 0)

pub counted : {text : List ℕ} {count : ℕ} → count ≤ length text → AllDigits 16 (take count text) → (count < length text → 16 ≤ digit_value (get_or text count 0))
    → Digits text count
counted within all ends = record { within = within; all = all; ends = ends }

pub at_long : (text : List ℕ) (count : ℕ) → Digits text count → 16 < count → NeverHasSize text
at_long text count digits long =
    let within = digits.within in
    subst NeverHasSize (take-append-drop count text) (never_long (take count text) (drop count text) digits.all (omega (arith, length-take-le count text within)))

pub at_end : (text : List ℕ) (count : ℕ) → Digits text count → count ≤ 16 → count ≡ length text → FindsSize text More
at_end text count digits few all =
    let whole : take count text ≡ text = take_all count text (omega arith) in
    subst (λ (x : List ℕ). FindsSize x More) whole (more_digits (take count text) digits.all (subst (λ (x : List ℕ). length x ≤ 16) (sym whole) (omega arith)))

pub at_none : (text : List ℕ) (count : ℕ) → Digits text count → count ≢ length text → count ≡ 0 → NeverHasSize text
at_none [] count digits not_all none = absurd (not_all none)
at_none (x ∷ text) count digits not_all none =
    never_none x text (subst (λ (k : ℕ). 16 ≤ digit_value (get_or (x ∷ text) k 0)) none (digits.ends (omega arith)))

-- What it knows further: digits of a size, and the length of an extension behind them.
pub record Split (text behind : List ℕ) (count len : ℕ) : Type 0 where
  pub digits : Digits text count
  pub few : count ≤ 16
  pub not_all : count ≢ length text
  pub not_none : count ≢ 0
  pub behind_is : behind ≡ drop count text
  pub within : len ≤ length behind
  pub ends : EndsExtension behind len

pub split_up : {text behind : List ℕ} {count len : ℕ} → Digits text count → count ≤ 16 → count ≢ length text → count ≢ 0 → behind ≡ drop count text → len ≤ length behind
    → EndsExtension behind len → Split text behind count len
split_up digits few not_all not_none behind_is within ends =
    record { digits = digits; few = few; not_all = not_all; not_none = not_none; behind_is = behind_is; within = within; ends = ends }

begins_at : (text behind : List ℕ) (count len : ℕ) → Split text behind count len → Begins behind
begins_at text behind count len split =
    let within = split.digits.within in
    let not_all = split.not_all in
    let next = split.behind_is ∙ drop-cons text count 0 (omega arith) in
    subst Begins (sym next) (omega arith, split.digits.ends (omega arith))

whole_at : (text behind : List ℕ) (count len : ℕ) → Split text behind count len → take count text ++ behind ≡ text
whole_at text behind count len split = ap (λ x. take count text ++ x) split.behind_is ∙ take-append-drop count text

size_at : (text behind : List ℕ) (count len : ℕ) → Split text behind count len → IsSize (take count text) (digits_value 16 (take count text))
size_at text behind count len split =
    let long = length-take-le count text split.digits.within in
    let few = split.few in
    let some = split.not_none in
    record { some = omega arith; few = omega arith; hexadecimal = split.digits.all; value = refl }

pub at_extension : (text behind : List ℕ) (count len : ℕ) → Split text behind count len → 257 < len → NeverHasSize text
at_extension text behind count len split much =
    subst NeverHasSize (whole_at text behind count len split)
    (never_extension (take count text) behind len split.digits.all (begins_at text behind count len split) split.ends much)

pub at_nowhere : (text behind end : List ℕ) (count len : ℕ) → Split text behind count len → end ≡ drop len behind → NeverEndsLine end
    → NeverHasSize text
at_nowhere text behind end count len split end_is none =
    subst NeverHasSize (whole_at text behind count len split)
    (never_line_end (take count text) behind len split.digits.all (begins_at text behind count len split) split.ends split.within (subst NeverEndsLine end_is none))

pub at_partly : (text behind end : List ℕ) (count len : ℕ) → Split text behind count len → len ≤ 257 → end ≡ drop len behind → FindsEnd end Partly
    → FindsSize text More
at_partly text behind end count len split few end_is partly =
    subst (λ (x : List ℕ). FindsSize x More) (whole_at text behind count len split)
    (more_line_end (take count text) behind len (size_at text behind count len split) (begins_at text behind count len split) split.ends split.within few
    (subst (λ (x : List ℕ). FindsEnd x Partly) end_is partly))

pub at_here : (text behind end : List ℕ) (count len size : ℕ) → Split text behind count len → len ≤ 257 → end ≡ drop len behind → FindsEnd end Here
    → size ≡ digits_value 16 (take count text) → FindsSize text (Line size (count + len + 2))
at_here text behind end count len size split few end_is here size_is =
    let long : length (take count text) ≡ count = length-take-le count text split.digits.within in
    subst (λ (n : ℕ). FindsSize text (Line n (count + len + 2))) (sym size_is)
    (subst (λ (n : ℕ). FindsSize text (Line (digits_value 16 (take count text)) (n + len + 2))) long
    (subst (λ (x : List ℕ). FindsSize x (Line (digits_value 16 (take count text)) (length (take count text) + len + 2))) (whole_at text behind count len split)
    (line_here (take count text) behind len (size_at text behind count len split) split.ends few (subst (λ (x : List ℕ). FindsEnd x Here) end_is here))))
