-- Segments kept and dropped, told from the left.
use Rattle.std.proofs.Common.{◌≡◌, ℕ, zero, suc, ◌-◌, ◌+◌, ◌<◌, Bool, true, false, cond, List, [], ◌∷◌, ◌++◌, length, take, drop, get_or, map, Result, Ok, Err, refl, sym, ap, ◌∙◌, append_assoc, append-nil, IfOk, ◌&&◌, take-append-drop}
use Rattle.std.proofs.lemmas.List.{take_more, map_push, map-append}
use Rattle.std.specs.Borrow.{Bor}
use Rattle.std.specs.Str.{is_utf8}
use Rattle.percent_encoding.specs.Percent.{percent_decode}
use Rattle.dav_core.specs.declared.parse_error.ParseError.{ParseError}
use Rattle.dav_core.specs.declared.parse_error.ParseError.TheVariants.{InvalidPath, NotText}
use Rattle.dav_core.specs.Path.{Names, parent_of, is_plain, all_plain}
use Rattle.dav_core.specs.Grammar.{and_then, is_skipped, is_up, Left, with_name, with_segment, left_of, kept_if, kept_of, without_last, keep, decoded, all_decoded, names_in}
use Rattle.dav_core.proofs.Paths.{parent_cons}

abbrev left : ℕ → Names → Left
left ups kept = record { ups = ups; kept = kept }

-- what a segment leaves, by whether it is skipped and whether it is `..`
abbrev by_kind : List ℕ → Bool → Bool → Left → Left
by_kind segment skipped up behind =
    cond skipped behind (cond up (record behind { ups = suc behind.ups }) (with_name segment behind.ups behind.kept))

-- ---- a segment that is skipped

after_skipped : (ss : Names) (s : List ℕ) → is_skipped s ≡ true → left_of (ss ++ s ∷ []) ≡ left_of ss
after_skipped [] s p = ap (λ b. by_kind s b (is_up s) (left 0 [])) p
after_skipped (x ∷ ss) s p = ap (with_segment x) (after_skipped ss s p)

-- ---- a name

abbrev with_last : List ℕ → Left → Left
with_last s before = left before.ups (before.kept ++ s ∷ [])

name_step : (b c : Bool) (x s : List ℕ) (n : ℕ) (k : Names) → by_kind x b c (with_last s (left n k)) ≡ with_last s (by_kind x b c (left n k))
name_step true c x s n k = refl
name_step false true x s n k = refl
name_step false false x s zero k = refl
name_step false false x s (suc n) k = refl

after_name : (ss : Names) (s : List ℕ) → is_skipped s ≡ false → is_up s ≡ false → left_of (ss ++ s ∷ []) ≡ with_last s (left_of ss)
after_name [] s p q = ap (λ b. by_kind s b (is_up s) (left 0 [])) p ∙ ap (λ c. by_kind s false c (left 0 [])) q
after_name (x ∷ ss) s p q = ap (with_segment x) (after_name ss s p q) ∙ name_step (is_skipped x) (is_up x) x s (left_of ss).ups (left_of ss).kept

-- ---- `..`

abbrev popped : ℕ → Names → Left
popped n [] = left (suc n) []
popped n (k ∷ ks) = left n (parent_of (k ∷ ks))

up_step : (b c : Bool) (x : List ℕ) (n : ℕ) (k : Names) → by_kind x b c (popped n k) ≡ popped (by_kind x b c (left n k)).ups (by_kind x b c (left n k)).kept
up_step true c x n k = refl
up_step false true x n [] = refl
up_step false true x n (k ∷ ks) = refl
up_step false false x zero [] = refl
up_step false false x zero (k ∷ ks) = ap (left 0) (sym (parent_cons x k ks))
up_step false false x (suc n) [] = refl
up_step false false x (suc n) (k ∷ ks) = refl

after_up : (ss : Names) (s : List ℕ) → is_skipped s ≡ false → is_up s ≡ true → left_of (ss ++ s ∷ []) ≡ popped (left_of ss).ups (left_of ss).kept
after_up [] s p q = ap (λ b. by_kind s b (is_up s) (left 0 [])) p ∙ ap (λ c. by_kind s false c (left 0 [])) q
after_up (x ∷ ss) s p q = ap (with_segment x) (after_up ss s p q) ∙ up_step (is_skipped x) (is_up x) x (left_of ss).ups (left_of ss).kept

-- ---- the next segment

abbrev keeps : List ℕ → Bool → Bool → Names → Result Names ParseError
keeps s b c kept = cond b (Ok kept) (cond c (without_last kept) (Ok (kept ++ s ∷ [])))

then_same : (r : Result Names ParseError) → and_then r (λ k. Ok k) ≡ r
then_same (Ok k) = refl
then_same (Err e) = refl

kept_name : (s : List ℕ) (n : ℕ) (k : Names) → kept_if n (k ++ s ∷ []) ≡ and_then (kept_if n k) (keeps s false false)
kept_name s zero k = refl
kept_name s (suc n) k = refl

kept_up : (s : List ℕ) (n : ℕ) (k : Names) → kept_if (popped n k).ups (popped n k).kept ≡ and_then (kept_if n k) (keeps s false true)
kept_up s zero [] = refl
kept_up s zero (k ∷ ks) = refl
kept_up s (suc n) [] = refl
kept_up s (suc n) (k ∷ ks) = refl

by_cases : (ss : Names) (s : List ℕ) (b c : Bool) → is_skipped s ≡ b → is_up s ≡ c → kept_of (ss ++ s ∷ []) ≡ and_then (kept_of ss) (keeps s b c)
by_cases ss s true c p q = ap (λ (l : Left). kept_if l.ups l.kept) (after_skipped ss s p) ∙ sym (then_same (kept_of ss))
by_cases ss s false true p q = ap (λ (l : Left). kept_if l.ups l.kept) (after_up ss s p q) ∙ kept_up s (left_of ss).ups (left_of ss).kept
by_cases ss s false false p q = ap (λ (l : Left). kept_if l.ups l.kept) (after_name ss s p q) ∙ kept_name s (left_of ss).ups (left_of ss).kept

pub kept_behind : (ss : Names) (s : List ℕ) → kept_of (ss ++ s ∷ []) ≡ and_then (kept_of ss) (keep s)
kept_behind ss s = by_cases ss s (is_skipped s) (is_up s) refl refl

-- what was refused stays refused
pub refused_stays : (more ss : Names) (e : ParseError) → kept_of ss ≡ Err e → kept_of (ss ++ more) ≡ Err e
refused_stays [] ss e h = ap kept_of (append-nil ss) ∙ h
refused_stays (s ∷ more) ss e h =
    ap kept_of (sym (append_assoc ss (s ∷ []) more))
    ∙ refused_stays more (ss ++ s ∷ []) e (kept_behind ss s ∙ ap (λ r. and_then r (keep s)) h)

-- segments of a slice, one more at a time

abbrev texts : List (Bor (List ℕ)) → Names
texts segments = map (λ s. s.now) segments

pub kept_more : (segments : List (Bor (List ℕ))) (i : ℕ) (d : Bor (List ℕ)) (kept now : Names) → i < length segments
    → kept_of (texts (take i segments)) ≡ Ok kept → keep (get_or segments i d).now kept ≡ Ok now → kept_of (texts (take (i + 1) segments)) ≡ Ok now
kept_more segments i d kept now inside before step =
    ap (λ (s : List (Bor (List ℕ))). kept_of (texts s)) (take_more segments i d inside) ∙ ap kept_of (map_push (λ s. s.now) (take i segments) (get_or segments i d))
    ∙ kept_behind (texts (take i segments)) (get_or segments i d).now ∙ ap (λ r. and_then r (keep (get_or segments i d).now)) before ∙ step

pub kept_refused : (segments : List (Bor (List ℕ))) (i : ℕ) (d : Bor (List ℕ)) (kept : Names) (e : ParseError) → i < length segments
    → kept_of (texts (take i segments)) ≡ Ok kept → keep (get_or segments i d).now kept ≡ Err e → kept_of (texts segments) ≡ Err e
kept_refused segments i d kept e inside before step =
    ap (λ (s : List (Bor (List ℕ))). kept_of (texts s)) (sym (take-append-drop (i + 1) segments)) ∙ ap kept_of (map-append (λ s. s.now) (take (i + 1) segments) (drop (i + 1) segments))
    ∙ refused_stays (texts (drop (i + 1) segments)) (texts (take (i + 1) segments)) e
    (ap (λ (s : List (Bor (List ℕ))). kept_of (texts s)) (take_more segments i d inside) ∙ ap kept_of (map_push (λ s. s.now) (take i segments) (get_or segments i d))
    ∙ kept_behind (texts (take i segments)) (get_or segments i d).now ∙ ap (λ r. and_then r (keep (get_or segments i d).now)) before ∙ step)

-- ---- decoded names are plain

name_plain : (bytes name : List ℕ) (plain utf8 : Bool) → is_plain bytes ≡ plain → cond plain (cond utf8 (Ok bytes) (Err NotText)) (Err InvalidPath) ≡ Ok name → is_plain name ≡ true
name_plain bytes name true true p e = let same : bytes ≡ name = cc in ap is_plain (sym same) ∙ p
name_plain bytes name true false p e = cc
name_plain bytes name false utf8 p e = cc

all_plain_of : (kept names : Names) → all_decoded kept ≡ Ok names → all_plain names ≡ true
all_plain_of [] names e = let none : [] ≡ names = cc in ap all_plain (sym none)
all_plain_of (s ∷ kept) names e = both (decoded s) (all_decoded kept) names (λ name d. name_plain (percent_decode s) name (is_plain (percent_decode s)) (is_utf8 (percent_decode s)) refl d) (all_plain_of kept) e
  where
    both : (first : Result (List ℕ) ParseError) (rest : Result Names ParseError) (names : Names) → ((name : List ℕ) → first ≡ Ok name → is_plain name ≡ true)
        → ((others : Names) → rest ≡ Ok others → all_plain others ≡ true)
        → and_then first (λ name. and_then rest (λ others. Ok (name ∷ others))) ≡ Ok names → all_plain names ≡ true
    both (Err e) rest names one more h = cc
    both (Ok name) (Err e) names one more h = cc
    both (Ok name) (Ok others) names one more h =
        let same : name ∷ others ≡ names = cc in
        ap all_plain (sym same) ∙ ap (λ b. b && all_plain others) (one name refl) ∙ more others refl

pub plain_names : {A : Type 0} (kept : Names) (r : Result A ParseError) (items : A → Names) → IfOk r (λ names. all_decoded kept ≡ Ok (items names)) → IfOk r (λ names. all_plain (items names) ≡ true)
plain_names kept (Ok names) items e = all_plain_of kept (items names) e
plain_names kept (Err e) items h = tt

pub said_plain : (segments names : Names) → names_in segments ≡ Ok names → all_plain names ≡ true
said_plain segments names e = by_kept (kept_of segments) e
  where
    by_kept : (r : Result Names ParseError) → and_then r all_decoded ≡ Ok names → all_plain names ≡ true
    by_kept (Ok kept) e = all_plain_of kept names e
    by_kept (Err fault) e = cc

-- ---- a walk over segments

-- where nothing is left, the names are those of all segments
pub said_all : (all left names : Names) → left ≡ [] → ((more : Names) → names_in left ≡ Ok more → names_in all ≡ Ok (names ++ more)) → names_in all ≡ Ok names
said_all all left names none walked = walked [] (ap names_in none) ∙ ap Ok (append-nil names)
