-- Pieces one after another, and what the members among them come to.
use Rattle.std.proofs.Common.{◌≡◌, ◌==◌, ◌<◌, ◌+◌, ◌++◌, ◌||◌, ℕ, Bool, true, false, cond, not, Bor, length, map, drop, filter, get_or, add-one, drop-cons, List, [], ◌∷◌, Option, None, Some, option_map, refl, sym, ap, ◌∙◌, append_assoc, append-nil}
use Rattle.std.specs.List.{filter_map, list_any}
use Rattle.dav_core.specs.Blanks.{trimmed}
use Rattle.dav_model.specs.declared.ranges.Slice.{Slice}
use Rattle.dav_model.specs.declared.ranges.Judged.{Judged}
use Rattle.dav_model.specs.declared.ranges.Judged.TheVariants.{Unmet, Part, Everything}
use Rattle.dav_model.specs.declared.ranges.Ranges.{Ranges}
use Rattle.dav_model.specs.Slices.{all_judged, asked, is_everything, judged, part_of, with_one}
use Rattle.dav_get.specs.Found.{continued, ended, pieces_judged}

-- what was found so far goes on behind a member
after_unmet : (some everything : Bool) (slices : List Slice) (rest : Option (List Judged))
    → continued some everything slices (with_one (Some Unmet) rest) ≡ continued true everything slices rest
after_unmet some everything slices None = refl
after_unmet some true slices (Some []) = refl
after_unmet some false slices (Some []) = ap (λ all. ended true false all) (append-nil slices)
after_unmet some everything slices (Some (one ∷ more)) = refl

after_part : (some everything : Bool) (slices : List Slice) (slice : Slice) (rest : Option (List Judged))
    → continued some everything slices (with_one (Some (Part slice)) rest) ≡ continued true everything (slices ++ slice ∷ []) rest
after_part some everything slices slice None = refl
after_part some true slices slice (Some []) = refl
after_part some false slices slice (Some []) = refl
after_part some everything slices slice (Some (one ∷ more)) =
    ap (ended true (everything || list_any is_everything (one ∷ more))) (sym (append_assoc slices (slice ∷ []) (filter_map part_of (one ∷ more))))

after_everything : (some everything : Bool) (slices : List Slice) (rest : Option (List Judged))
    → continued some everything slices (with_one (Some Everything) rest) ≡ continued true true slices rest
after_everything some everything slices None = refl
after_everything some true slices (Some []) = refl
after_everything some false slices (Some []) = refl
after_everything some true slices (Some (one ∷ more)) = refl
after_everything some false slices (Some (one ∷ more)) = refl

abbrev pub texts : List (Bor (List ℕ)) → List (List ℕ)
texts pieces = map (λ p. p.now) pieces

next : (pieces : List (Bor (List ℕ))) (i : ℕ) (d : Bor (List ℕ)) → i < length pieces → texts (drop i pieces) ≡ (get_or pieces i d).now ∷ texts (drop (i + 1) pieces)
next pieces i d inside = let here : drop i pieces ≡ get_or pieces i d ∷ drop (i + 1) pieces = rw (add-one, drop-cons pieces i d) in ap texts here

abbrev among : List ℕ → Bool → List (List ℕ) → List (List ℕ)
among member t rest = cond t (member ∷ rest) rest

abbrev others : List (List ℕ) → List (List ℕ)
others pieces = filter (λ m. not (length m == 0)) (map trimmed pieces)

empty_first : (len : ℕ) (text : List ℕ) (more : List (List ℕ)) → (length (trimmed text) == 0) ≡ true → pieces_judged len (text ∷ more) ≡ pieces_judged len more
empty_first len text more e = ap (λ t. all_judged len (among (trimmed text) (not t) (others more))) e

member_first : (len : ℕ) (text : List ℕ) (more : List (List ℕ)) → (length (trimmed text) == 0) ≡ false
    → pieces_judged len (text ∷ more) ≡ with_one (option_map (judged len) (asked (trimmed text))) (pieces_judged len more)
member_first len text more e = ap (λ t. all_judged len (among (trimmed text) (not t) (others more))) e

-- a piece more: an empty one, or a member, and what it comes to
abbrev pub now_due : ℕ → List (Bor (List ℕ)) → ℕ → Bool → Bool → List Slice → Ranges
now_due len pieces i some everything slices = continued some everything slices (pieces_judged len (texts (drop i pieces)))

pub passed_empty : (len : ℕ) (pieces : List (Bor (List ℕ))) (i : ℕ) (d : Bor (List ℕ)) (due : Ranges) (some everything : Bool) (slices : List Slice) → i < length pieces
    → due ≡ now_due len pieces i some everything slices → (length (trimmed (get_or pieces i d).now) == 0) ≡ true
    → due ≡ now_due len pieces (i + 1) some everything slices
passed_empty len pieces i d due some everything slices inside before e =
    before ∙ ap (λ ps. continued some everything slices (pieces_judged len ps)) (next pieces i d inside)
    ∙ ap (continued some everything slices) (empty_first len (get_or pieces i d).now (texts (drop (i + 1) pieces)) e)

passed_member : (len : ℕ) (pieces : List (Bor (List ℕ))) (i : ℕ) (d : Bor (List ℕ)) (due : Ranges) (some everything : Bool) (slices : List Slice) (one : Judged) → i < length pieces
    → due ≡ now_due len pieces i some everything slices → (length (trimmed (get_or pieces i d).now) == 0) ≡ false → Some one ≡ option_map (judged len) (asked (trimmed (get_or pieces i d).now))
    → due ≡ continued some everything slices (with_one (Some one) (pieces_judged len (texts (drop (i + 1) pieces))))
passed_member len pieces i d due some everything slices one inside before e same =
    let rest = pieces_judged len (texts (drop (i + 1) pieces)) in
    before ∙ ap (λ ps. continued some everything slices (pieces_judged len ps)) (next pieces i d inside)
    ∙ ap (continued some everything slices) (member_first len (get_or pieces i d).now (texts (drop (i + 1) pieces)) e)
    ∙ ap (λ o. continued some everything slices (with_one o rest)) (sym same)

pub passed_unmet : (len : ℕ) (pieces : List (Bor (List ℕ))) (i : ℕ) (d : Bor (List ℕ)) (due : Ranges) (some everything : Bool) (slices : List Slice) → i < length pieces
    → due ≡ now_due len pieces i some everything slices → (length (trimmed (get_or pieces i d).now) == 0) ≡ false → Some Unmet ≡ option_map (judged len) (asked (trimmed (get_or pieces i d).now))
    → due ≡ now_due len pieces (i + 1) true everything slices
passed_unmet len pieces i d due some everything slices inside before e same =
    passed_member len pieces i d due some everything slices Unmet inside before e same ∙ after_unmet some everything slices (pieces_judged len (texts (drop (i + 1) pieces)))

pub passed_part : (len : ℕ) (pieces : List (Bor (List ℕ))) (i : ℕ) (d : Bor (List ℕ)) (due : Ranges) (some everything : Bool) (slices now : List Slice) (slice : Slice) → i < length pieces
    → due ≡ now_due len pieces i some everything slices → (length (trimmed (get_or pieces i d).now) == 0) ≡ false → Some (Part slice) ≡ option_map (judged len) (asked (trimmed (get_or pieces i d).now))
    → now ≡ slices ++ slice ∷ [] → due ≡ now_due len pieces (i + 1) true everything now
passed_part len pieces i d due some everything slices now slice inside before e same more =
    let rest = pieces_judged len (texts (drop (i + 1) pieces)) in
    passed_member len pieces i d due some everything slices (Part slice) inside before e same
    ∙ after_part some everything slices slice rest ∙ ap (λ all. continued true everything all rest) (sym more)

pub passed_everything : (len : ℕ) (pieces : List (Bor (List ℕ))) (i : ℕ) (d : Bor (List ℕ)) (due : Ranges) (some everything : Bool) (slices : List Slice) → i < length pieces
    → due ≡ now_due len pieces i some everything slices → (length (trimmed (get_or pieces i d).now) == 0) ≡ false → Some Everything ≡ option_map (judged len) (asked (trimmed (get_or pieces i d).now))
    → due ≡ now_due len pieces (i + 1) true true slices
passed_everything len pieces i d due some everything slices inside before e same =
    passed_member len pieces i d due some everything slices Everything inside before e same
    ∙ after_everything some everything slices (pieces_judged len (texts (drop (i + 1) pieces)))
