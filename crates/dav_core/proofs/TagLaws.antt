-- What the readers of tags and lists read is what the grammar has.
use Rattle.std.proofs.Common.{◌≡◌, ◌==◌, ◌<◌, ◌&&◌, ◌++◌, ◌∷◌, [], ℕ, Bool, true, false, cond, not, List, length, take, drop, reverse, codes, bytes_eq, Option, None, Some, option_map, filter_map, refl, sym, ap, subst, ◌∙◌, inl, inr, arith, append_assoc, append-nil, take-append-drop, true≢false, eqb-true, ne_eqb}
use Rattle.std.specs.List.{list_all, cons_option, onto_first, join_with_byte, AllZip}
use Rattle.std.proofs.lemmas.Bool.{and_parts, and_from, and_right, or_cases}
use Rattle.std.proofs.lemmas.List.{reverse-append, reverse-reverse}
use Rattle.std.proofs.lemmas.List.Folds.{list_all-append}
use Rattle.std.proofs.lemmas.Slice.Eq.{bytes_eq-Decides}
use Rattle.dav_core.specs.Blanks.{is_blank, without_front, without_end, trimmed}
use Rattle.dav_core.specs.Tags.{is_tag_byte, weak_mark, spelled, IsTag, IsMember, IsTagList, IsList}
use Rattle.dav_core.specs.TagReading.{closed_by, unquoted, marked, tag_of, after_byte, members, said_in, with_said, all_tags, some_tags, list_of}
use Rattle.dav_core.proofs.TagMembers.{cut}
use Rattle.dav_core.specs.declared.etag.ETag.{ETag}
use Rattle.dav_core.specs.declared.etag_list.EtagList.{EtagList}
use Rattle.dav_core.specs.declared.etag_list.EtagList.TheVariants.{Any, Tags}

-- ---- one tag

closed_last : (text : List ℕ) (last : ℕ) → closed_by (reverse (text ++ last ∷ [])) ≡ cond (last == 34 && list_all is_tag_byte text) (Some text) None
closed_last text last =
    ap closed_by (reverse-append text (last ∷ []))
    ∙ ap (λ t. cond (last == 34 && list_all is_tag_byte t) (Some t) None) (reverse-reverse text)

closed_found : (bytes text : List ℕ) → closed_by bytes ≡ Some text → (reverse bytes ≡ text ++ 34 ∷ []) × (list_all is_tag_byte text ≡ true)
closed_found [] text e = cc
closed_found (last ∷ front) text e = by (last == 34 && list_all is_tag_byte (reverse front)) refl e
  where
    by : (t : Bool) → (last == 34 && list_all is_tag_byte (reverse front)) ≡ t → cond t (Some (reverse front)) None ≡ Some text
        → (reverse (last ∷ front) ≡ text ++ 34 ∷ []) × (list_all is_tag_byte text ≡ true)
    by false f none = cc
    by true f found =
        let same : reverse front ≡ text = cc in
        let parts = and_parts _ _ f in
        (reverse-append (last ∷ []) front ∙ ap (λ b. reverse front ++ b ∷ []) (eqb-true last 34 parts.0) ∙ ap (λ t. t ++ 34 ∷ []) same, ap (list_all is_tag_byte) (sym same) ∙ parts.1)

unquoted_found : (quoted text : List ℕ) → unquoted quoted ≡ Some text → (quoted ≡ 34 ∷ (text ++ 34 ∷ [])) × (list_all is_tag_byte text ≡ true)
unquoted_found [] text e = cc
unquoted_found (first ∷ rest) text e = by (first == 34) refl e
  where
    by : (t : Bool) → (first == 34) ≡ t → cond t (closed_by (reverse rest)) None ≡ Some text → (first ∷ rest ≡ 34 ∷ (text ++ 34 ∷ [])) × (list_all is_tag_byte text ≡ true)
    by false f none = cc
    by true f found =
        let closed = closed_found (reverse rest) text found in
        (ap (λ b. b ∷ rest) (eqb-true first 34 f) ∙ ap (λ r. 34 ∷ r) (sym (reverse-reverse rest) ∙ closed.0), closed.1)

marked_found : (weak : Bool) (text : Option (List ℕ)) (tag : ETag) → marked weak text ≡ Some tag → (t : List ℕ) × (text ≡ Some t) × (tag ≡ record { weak = weak; tag = t })
marked_found weak None tag e = cc
marked_found weak (Some t) tag e = let same : record { weak = weak; tag = t } ≡ tag = cc in (t, refl, sym same)

spelled_so : (text rest t : List ℕ) (weak : Bool) (tag : ETag) → text ≡ weak_mark weak ++ rest → rest ≡ 34 ∷ (t ++ 34 ∷ []) → list_all is_tag_byte t ≡ true → tag ≡ record { weak = weak; tag = t } → IsTag text tag
spelled_so text rest t weak tag front same all is = record {
  bytes = ap (λ (g : ETag). list_all is_tag_byte g.tag) is ∙ all;
  same = front ∙ ap (λ r. weak_mark weak ++ r) same ∙ sym (ap spelled is);
}

pub tag_sound : (text : List ℕ) (tag : ETag) → tag_of text ≡ Some tag → IsTag text tag
tag_sound text tag e = by (bytes_eq (take 2 text) (codes "W/")) refl e
  where
    read : (weak : Bool) (rest : List ℕ) → text ≡ weak_mark weak ++ rest → marked weak (unquoted rest) ≡ Some tag → IsTag text tag
    read weak rest front found =
        let parts = marked_found weak (unquoted rest) tag found in
        let quoted = unquoted_found rest parts.0 parts.1 in
        spelled_so text rest parts.0 weak tag front quoted.0 quoted.1 parts.2

    by : (t : Bool) → bytes_eq (take 2 text) (codes "W/") ≡ t → cond t (marked true (unquoted (drop 2 text))) (marked false (unquoted text)) ≡ Some tag → IsTag text tag
    by true f found = read true (drop 2 text) (sym (take-append-drop 2 text) ∙ ap (λ front. front ++ drop 2 text) ((bytes_eq-Decides _ _).0 f)) found
    by false f found = read false text refl found

closed_whole : (text : List ℕ) → list_all is_tag_byte text ≡ true → closed_by (reverse (text ++ 34 ∷ [])) ≡ Some text
closed_whole text all = closed_last text 34 ∙ ap (λ t. cond t (Some text) None) all

spelled_read : (weak : Bool) (text : List ℕ) → list_all is_tag_byte text ≡ true → tag_of (weak_mark weak ++ (34 ∷ (text ++ 34 ∷ []))) ≡ Some (record { weak = weak; tag = text })
spelled_read true text all = ap (marked true) (closed_whole text all)
spelled_read false text all = ap (marked false) (closed_whole text all)

pub tag_complete : (text : List ℕ) (tag : ETag) → IsTag text tag → tag_of text ≡ Some tag
tag_complete text tag is = ap tag_of is.same ∙ spelled_read tag.weak tag.tag is.bytes

-- ---- members: what stands between commas that aren't quoted

onto : List ℕ → List (List ℕ) → List (List ℕ)
onto [] parts = parts
onto (b ∷ bytes) parts = onto_first b (onto bytes parts)

onto_both : (a b : List ℕ) (parts : List (List ℕ)) → onto (a ++ b) parts ≡ onto a (onto b parts)
unfolding onto
onto_both [] b parts = refl
onto_both (x ∷ a) b parts = ap (onto_first x) (onto_both a b parts)

onto_empty : (a : List ℕ) (parts : List (List ℕ)) → onto a ([] ∷ parts) ≡ a ∷ parts
unfolding onto
onto_empty [] parts = refl
onto_empty (x ∷ a) parts = ap (onto_first x) (onto_empty a parts)

-- a text that is passed over whole, from outside or inside of quotes to outside or inside
abbrev Passes : Bool → List ℕ → Bool → Type 0
Passes before text now = (rest : List ℕ) → members before (text ++ rest) ≡ onto text (members now rest)

pass_both : (p q r : Bool) (a b : List ℕ) → Passes p a q → Passes q b r → Passes p (a ++ b) r
pass_both p q r a b first second rest =
    ap (members p) (append_assoc a b rest) ∙ first (b ++ rest) ∙ ap (onto a) (second rest) ∙ sym (onto_both a b (members r rest))

pass_byte : (q : Bool) (b : ℕ) (bytes : List ℕ) → (b == 44 && not q) ≡ false → (b == 34) ≡ false → Passes q bytes q → Passes q (b ∷ bytes) q
unfolding onto
pass_byte q b bytes comma quote more rest =
    ap (λ t. cond t ([] ∷ members false (bytes ++ rest)) (onto_first b (members (after_byte q b) (bytes ++ rest)))) comma
    ∙ ap (λ t. onto_first b (members (cond t (not q) q) (bytes ++ rest))) quote ∙ ap (onto_first b) (more rest)

blank_byte : (b : ℕ) → is_blank b ≡ true → ((b == 44) ≡ false) × ((b == 34) ≡ false)
blank_byte b e = elim (or_cases (b == 32) (b == 9) e) [
  | inl space ↦ let same = eqb-true b 32 space in (ap (λ x. x == 44) same, ap (λ x. x == 34) same)
  | inr tab ↦ let same = eqb-true b 9 tab in (ap (λ x. x == 44) same, ap (λ x. x == 34) same)
]

blanks_pass : (bytes : List ℕ) → list_all is_blank bytes ≡ true → Passes false bytes false
unfolding onto
blanks_pass [] all = λ rest. refl
blanks_pass (b ∷ bytes) all =
    let parts = and_parts (is_blank b) (list_all is_blank bytes) all in
    let free = blank_byte b parts.0 in
    pass_byte false b bytes (ap (λ t. t && true) free.0) free.1 (blanks_pass bytes parts.1)

tag_byte : (b : ℕ) → is_tag_byte b ≡ true → (b == 34) ≡ false
tag_byte b e = ne_eqb b 34 (λ same. true≢false (sym e ∙ ap is_tag_byte same))

text_passes : (bytes : List ℕ) → list_all is_tag_byte bytes ≡ true → Passes true bytes true
unfolding onto
text_passes [] all = λ rest. refl
text_passes (b ∷ bytes) all =
    let parts = and_parts (is_tag_byte b) (list_all is_tag_byte bytes) all in
    pass_byte true b bytes (and_right (b == 44) false refl) (tag_byte b parts.0) (text_passes bytes parts.1)

mark_passes : (weak : Bool) → Passes false (weak_mark weak) false
unfolding onto
mark_passes true rest = refl
mark_passes false rest = refl

opens : Passes false (34 ∷ []) true
unfolding onto
opens rest = refl

closes : Passes true (34 ∷ []) false
unfolding onto
closes rest = refl

spelled_passes : (tag : ETag) → list_all is_tag_byte tag.tag ≡ true → Passes false (spelled tag) false
spelled_passes tag all =
    pass_both false false false (weak_mark tag.weak) (34 ∷ (tag.tag ++ 34 ∷ [])) (mark_passes tag.weak)
    (pass_both false true false (34 ∷ []) (tag.tag ++ 34 ∷ []) opens (pass_both true true false tag.tag (34 ∷ []) (text_passes tag.tag all) closes))

-- ---- a text is blanks, the trimmed text and blanks

abbrev FrontBlanks : List ℕ → List ℕ → Type 0
FrontBlanks bytes rest = (front : List ℕ) × (list_all is_blank front ≡ true) × (bytes ≡ front ++ rest)

front_blank : (b : ℕ) (bytes : List ℕ) (t : Bool) → is_blank b ≡ t → FrontBlanks bytes (without_front bytes) → FrontBlanks (b ∷ bytes) (cond t (without_front bytes) (b ∷ bytes))
front_blank b bytes true e more = (b ∷ more.0, and_from (is_blank b) (list_all is_blank more.0) e more.1, ap (λ r. b ∷ r) more.2)
front_blank b bytes false e more = ([], refl, refl)

front_blanks : (bytes : List ℕ) → FrontBlanks bytes (without_front bytes)
front_blanks [] = ([], refl, refl)
front_blanks (b ∷ bytes) = front_blank b bytes (is_blank b) refl (front_blanks bytes)

all_reversed : (p : ℕ → Bool) (bytes : List ℕ) → list_all p bytes ≡ true → list_all p (reverse bytes) ≡ true
all_reversed p [] all = refl
all_reversed p (b ∷ bytes) all =
    let parts = and_parts (p b) (list_all p bytes) all in
    ap (list_all p) (reverse-append (b ∷ []) bytes) ∙ list_all-append p (reverse bytes) (b ∷ [])
    ∙ and_from (list_all p (reverse bytes)) (list_all p (b ∷ [])) (all_reversed p bytes parts.1) (and_from (p b) true parts.0 refl)

end_blanks : (bytes : List ℕ) → (back : List ℕ) × (list_all is_blank back ≡ true) × (bytes ≡ without_end bytes ++ back)
end_blanks bytes =
    let split = front_blanks (reverse bytes) in
    (reverse split.0, all_reversed is_blank split.0 split.1, sym (reverse-reverse bytes) ∙ ap reverse split.2 ∙ reverse-append split.0 (without_front (reverse bytes)))

-- a text passes where what is left of it without blanks passes
trimmed_passes : (text : List ℕ) → Passes false (trimmed text) false → Passes false text false
trimmed_passes text middle =
    let front = front_blanks text in
    let back = end_blanks (without_front text) in
    let whole = front.2 ∙ ap (λ r. front.0 ++ r) back.2 in
    subst (λ t. Passes false t false) (sym whole)
    (pass_both false false false front.0 (trimmed text ++ back.0) (blanks_pass front.0 front.1)
    (pass_both false false false (trimmed text) back.0 middle (blanks_pass back.0 back.1)))

nothing_passes : Passes false [] false
unfolding onto
nothing_passes rest = refl

member_passes : (text : List ℕ) (said : Option ETag) → IsMember text said → Passes false text false
member_passes text None empty = trimmed_passes text (subst (λ t. Passes false t false) (sym empty) nothing_passes)
member_passes text (Some tag) is = trimmed_passes text (subst (λ t. Passes false t false) (sym is.same) (spelled_passes tag is.bytes))

alone : (text : List ℕ) → Passes false text false → members false text ≡ text ∷ []
alone text passes = ap (members false) (sym (append-nil text)) ∙ passes [] ∙ onto_empty text []

followed : (text rest : List ℕ) → Passes false text false → members false (text ++ (44 ∷ rest)) ≡ text ∷ members false rest
followed text rest passes = passes (44 ∷ rest) ∙ onto_empty text (members false rest)

joined_members : (texts : List (List ℕ)) (said : List (Option ETag)) → 0 < length texts → AllZip IsMember texts said → members false (join_with_byte 44 texts) ≡ texts
joined_members [] said some each = absurd (omega arith)
joined_members (text ∷ texts) [] some each = absurd each
joined_members (text ∷ []) (one ∷ said) some each = alone text (member_passes text one each.0)
joined_members (text ∷ next ∷ texts) (one ∷ said) some each =
    followed text (join_with_byte 44 (next ∷ texts)) (member_passes text one each.0)
    ∙ ap (λ m. text ∷ m) (joined_members (next ∷ texts) said (omega arith) each.1)

-- ---- lists

abbrev Says : List ℕ → Option ETag → Type 0
Says text None = text ≡ []
Says text (Some tag) = IsTag text tag

to_member : (text : List ℕ) (one : Option ETag) → Says (trimmed text) one → IsMember text one
to_member text None says = says
to_member text (Some tag) says = says

from_member : (text : List ℕ) (one : Option ETag) → IsMember text one → Says (trimmed text) one
from_member text None is = is
from_member text (Some tag) is = is

tag_said : (text : List ℕ) (tag : Option ETag) (one : Option ETag) → tag_of text ≡ tag → option_map (λ t. Some t) tag ≡ Some one → Says text one
tag_said text None one e found = cc
tag_said text (Some tag) one e found = let same : Some tag ≡ one = cc in subst (Says text) same (tag_sound text tag e)

says_sound : (text : List ℕ) (one : Option ETag) → said_in text ≡ Some one → Says text one
says_sound [] one e = let none : None ≡ one = cc in subst (Says []) none refl
says_sound (b ∷ bytes) one e = tag_said (b ∷ bytes) (tag_of (b ∷ bytes)) one refl e

nonempty_tag : (weak : Bool) (rest : List ℕ) → [] ≡ weak_mark weak ++ (34 ∷ rest) → ⊥
nonempty_tag true rest e = cc
nonempty_tag false rest e = cc

says_complete : (text : List ℕ) (one : Option ETag) → Says text one → said_in text ≡ Some one
says_complete text None says = ap said_in says
says_complete [] (Some tag) says = absurd (nonempty_tag tag.weak (tag.tag ++ 34 ∷ []) says.same)
says_complete (b ∷ bytes) (Some tag) says = ap (option_map (λ t. Some t)) (tag_complete (b ∷ bytes) tag says)

abbrev Said : List (List ℕ) → List ETag → Type 0
Said texts tags = (said : List (Option ETag)) × AllZip IsMember texts said × (tags ≡ filter_map (λ one. one) said)

one_said : (text : List ℕ) (texts : List (List ℕ)) (tags : List ETag) (one : Option (Option ETag)) (rest : Option (List ETag)) → said_in (trimmed text) ≡ one → all_tags texts ≡ rest
    → ((more : List ETag) → all_tags texts ≡ Some more → Said texts more) → with_said one rest ≡ Some tags → Said (text ∷ texts) tags
one_said text texts tags None rest here behind go found = cc
one_said text texts tags (Some one) None here behind go found = cc
one_said text texts tags (Some one) (Some more) here behind go found =
    let later = go more behind in
    let same : cons_option one more ≡ tags = cc in
    (one ∷ later.0, (to_member text one (says_sound (trimmed text) one here), later.1), sym same ∙ ap (cons_option one) later.2)

all_said : (texts : List (List ℕ)) (tags : List ETag) → all_tags texts ≡ Some tags → Said texts tags
all_said [] tags e = let none : [] ≡ tags = cc in ([], tt, sym none)
all_said (text ∷ texts) tags e = one_said text texts tags (said_in (trimmed text)) (all_tags texts) refl refl (all_said texts) e

all_read : (texts : List (List ℕ)) (said : List (Option ETag)) → AllZip IsMember texts said → all_tags texts ≡ Some (filter_map (λ one. one) said)
all_read [] [] each = refl
all_read [] (one ∷ said) each = absurd each
all_read (text ∷ texts) [] each = absurd each
all_read (text ∷ texts) (one ∷ said) each =
    ap (λ s. with_said s (all_tags texts)) (says_complete (trimmed text) one (from_member text one each.0)) ∙ ap (option_map (cons_option one)) (all_read texts said each.1)

-- the members joined are the text
first_joined : (b : ℕ) (parts : List (List ℕ)) (first : List ℕ) (more : List (List ℕ)) → parts ≡ first ∷ more → join_with_byte 44 (onto_first b parts) ≡ b ∷ join_with_byte 44 parts
first_joined b parts first more e = ap (λ p. join_with_byte 44 (onto_first b p)) e ∙ by more ∙ ap (λ p. b ∷ join_with_byte 44 p) (sym e)
  where
    by : (more : List (List ℕ)) → join_with_byte 44 ((b ∷ first) ∷ more) ≡ b ∷ join_with_byte 44 (first ∷ more)
    by [] = refl
    by (next ∷ more) = refl

comma_joined : (parts : List (List ℕ)) (first : List ℕ) (more : List (List ℕ)) → parts ≡ first ∷ more → join_with_byte 44 ([] ∷ parts) ≡ 44 ∷ join_with_byte 44 parts
comma_joined parts first more e = ap (λ p. join_with_byte 44 ([] ∷ p)) e ∙ ap (λ p. 44 ∷ join_with_byte 44 p) (sym e)

byte_joined : (quoted : Bool) (b : ℕ) (bytes : List ℕ) (t : Bool) → (b == 44 && not quoted) ≡ t
    → join_with_byte 44 (members false bytes) ≡ bytes → join_with_byte 44 (members (after_byte quoted b) bytes) ≡ bytes
    → join_with_byte 44 (cond t ([] ∷ members false bytes) (onto_first b (members (after_byte quoted b) bytes))) ≡ b ∷ bytes
byte_joined quoted b bytes true comma plain other =
    comma_joined (members false bytes) _ _ (cut false bytes) ∙ ap (λ r. 44 ∷ r) plain ∙ ap (λ c. c ∷ bytes) (sym (eqb-true b 44 (and_parts (b == 44) (not quoted) comma).0))
byte_joined quoted b bytes false comma plain other =
    first_joined b (members (after_byte quoted b) bytes) _ _ (cut (after_byte quoted b) bytes) ∙ ap (λ r. b ∷ r) other

members_joined : (quoted : Bool) (text : List ℕ) → join_with_byte 44 (members quoted text) ≡ text
members_joined quoted [] = refl
members_joined quoted (b ∷ bytes) = byte_joined quoted b bytes (b == 44 && not quoted) refl (members_joined false bytes) (members_joined (after_byte quoted b) bytes)

to_list : (text : List ℕ) (list : EtagList) (found : Option (List ETag)) → all_tags (members false text) ≡ found → some_tags found ≡ Some list → IsList text list
to_list text list None e found = cc
to_list text list (Some []) e found = cc
to_list text list (Some (tag ∷ more)) e found =
    let same : Tags (tag ∷ more) ≡ list = cc in
    let said = all_said (members false text) (tag ∷ more) e in
    subst (IsList text) same (record {
      members = members false text;
      said = said.0;
      joined = sym (members_joined false text);
      each = said.1;
      tags_are = said.2;
      some = omega arith;
    })

list_by : (text : List ℕ) (list : EtagList) (t : Bool) → bytes_eq (trimmed text) (codes "*") ≡ t → cond t (Some Any) (some_tags (all_tags (members false text))) ≡ Some list → IsList text list
list_by text list true star found = let same : Any ≡ list = cc in subst (IsList text) same ((bytes_eq-Decides (trimmed text) (codes "*")).0 star)
list_by text list false star found = to_list text list (all_tags (members false text)) refl found

pub list_sound : (text : List ℕ) (list : EtagList) → list_of text ≡ Some list → IsList text list
list_sound text list e = list_by text list (bytes_eq (trimmed text) (codes "*")) refl e

some_found : (tags : List ETag) → 0 < length tags → some_tags (Some tags) ≡ Some (Tags tags)
some_found [] some = absurd (omega arith)
some_found (tag ∷ more) some = refl

-- a star is no tag
star_passes : Passes false (codes "*") false
unfolding onto
star_passes rest = refl

no_tags : (text : List ℕ) → trimmed text ≡ codes "*" → all_tags (members false text) ≡ None
no_tags text star =
    ap all_tags (alone text (trimmed_passes text (subst (λ t. Passes false t false) (sym star) star_passes)))
    ∙ ap (λ t. with_said (said_in t) (Some [])) star

texts_some : (texts : List (List ℕ)) (said : List (Option ETag)) → AllZip IsMember texts said → 0 < length (filter_map (λ one. one) said) → 0 < length texts
texts_some [] [] each some = absurd (omega arith)
texts_some [] (one ∷ said) each some = absurd each
texts_some (text ∷ texts) said each some = omega arith

tags_found : (text : List ℕ) (tags : List ETag) → IsTagList text tags → all_tags (members false text) ≡ Some tags
tags_found text tags is =
    let some = texts_some is.members is.said is.each (subst (λ (l : List ETag). 0 < length l) is.tags_are is.some) in
    ap (λ t. all_tags (members false t)) is.joined ∙ ap all_tags (joined_members is.members is.said some is.each)
    ∙ all_read is.members is.said is.each ∙ ap (λ l. Some l) (sym is.tags_are)

tags_by : (text : List ℕ) (tags : List ETag) (t : Bool) → bytes_eq (trimmed text) (codes "*") ≡ t → IsTagList text tags
    → cond t (Some Any) (some_tags (all_tags (members false text))) ≡ Some (Tags tags)
tags_by text tags true star is = let none = no_tags text ((bytes_eq-Decides (trimmed text) (codes "*")).0 star) in let found = tags_found text tags is in cc
tags_by text tags false star is = ap some_tags (tags_found text tags is) ∙ some_found tags is.some

pub list_complete : (text : List ℕ) (list : EtagList) → IsList text list → list_of text ≡ Some list
list_complete text Any star = ap (λ t. cond t (Some Any) (some_tags (all_tags (members false text)))) ((bytes_eq-Decides (trimmed text) (codes "*")).1 star)
list_complete text (Tags tags) is = tags_by text tags (bytes_eq (trimmed text) (codes "*")) refl is

pub one_tag : (text : List ℕ) (a b : ETag) → IsTag text a → IsTag text b → a ≡ b
one_tag text a b first second = let x = tag_complete text a first in let y = tag_complete text b second in cc

pub one_list : (text : List ℕ) (a b : EtagList) → IsList text a → IsList text b → a ≡ b
one_list text a b first second = let x = list_complete text a first in let y = list_complete text b second in cc
