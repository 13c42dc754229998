-- Where a value is the tag of what stands and nothing else, the list that it is matches.
use Rattle.std.proofs.Common.{◌≡◌, ◌∙◌, ◌++◌, ◌∷◌, ◌&&◌, if◌then◌else◌, [], ℕ, Bool, true, false, List, reverse, codes, Option, None, Some, option_map, refl, sym, ap, subst, arith, append-nil}
use Rattle.std.specs.List.{list_any}
use Rattle.std.proofs.lemmas.List.{reverse-append, reverse-reverse}
use Rattle.std.proofs.lemmas.Slice.Eq.{bytes_eq-Decides}
use Rattle.dav_core.specs.Blanks.{trimmed, without_front}
use Rattle.dav_core.specs.TagReading.{list_of}
use Rattle.dav_core.specs.Tags.{HasTagBytes, IsTagText, IsTagList, equal_weakly}
use Rattle.dav_core.specs.declared.etag.ETag.{ETag}
use Rattle.dav_core.specs.declared.etag_list.EtagList.{EtagList}
use Rattle.dav_core.specs.declared.etag_list.EtagList.TheVariants.{Tags}
use Rattle.dav_core.specs.declared.method.DavMethod.{DavMethod}
use Rattle.dav_core.specs.declared.time.FileTime.{FileTime}
use Rattle.dav_core.proofs.TagLaws.{list_complete}
use Rattle.dav_model.specs.Conditions.{is_unmodified, joined, matches, reads, repeated, strong}
use Rattle.dav_model.specs.Head.{quoted}
use Rattle.dav_conditions.specs.Names.{only}

-- without a value there is no list
pub no_list : list_of [] ≡ None
no_list = refl

-- one value alone is the whole text
pub joined_only : (texts : List (List ℕ)) (text : List ℕ) → only texts ≡ Some text → joined texts ≡ text
joined_only [] text e = cc
joined_only (one ∷ []) text e = let same : one ≡ text = cc in append-nil one ∙ same
joined_only (one ∷ next ∷ more) text e = cc

-- the status by whether the list matches
abbrev pub repeated_by : DavMethod → Option Bool → Option ℕ → Option FileTime → Option ℕ
repeated_by method (Some matched) date time = if matched then Some (if reads method then 304 else 412) else None
repeated_by method None (Some date) time = if reads method && is_unmodified time date then Some 304 else None
repeated_by method None None time = None

pub by_match : (method : DavMethod) (list : Option EtagList) (date : Option ℕ) (stands : Bool) (tag : Option ETag) (time : Option FileTime)
    → repeated method list date stands tag time ≡ repeated_by method (option_map (matches equal_weakly stands tag) list) date time
by_match method (Some list) date stands tag time = refl
by_match method None (Some date) stands tag time = refl
by_match method None None stands tag time = refl

-- no blank is at an end of what stands between quotes
trimmed_quoted : (text : List ℕ) → trimmed (quoted text) ≡ quoted text
trimmed_quoted text =
    let back = reverse-append (34 ∷ text) (34 ∷ []) in
    ap (λ b. reverse (without_front b)) back ∙ ap reverse (sym back) ∙ reverse-reverse (quoted text)

-- the strong tag of a text
abbrev own : List ℕ → ETag
own text = record { weak = false; tag = text }

is_list : (text : List ℕ) → IsTagText text → IsTagList (quoted text) (own text ∷ [])
is_list text fits = record {
  members = quoted text ∷ [];
  said = Some (own text) ∷ [];
  joined = refl;
  each = (record { bytes = fits; same = trimmed_quoted text }, tt);
  tags_are = refl;
  some = omega arith;
}

own_equal : (text : List ℕ) → matches equal_weakly true (Some (own text)) (Tags (own text ∷ [])) ≡ true
own_equal text = rw ((bytes_eq-Decides text text).1 refl) refl

-- the value is the tag of what stands
pub own_matches : (tag : Option (List ℕ)) (text value : List ℕ) → HasTagBytes tag → tag ≡ Some text → value ≡ quoted text
    → option_map (matches equal_weakly true (strong tag)) (list_of value) ≡ Some true
own_matches None text value fits is at = cc
own_matches (Some own_text) text value fits is at =
    let same : own_text ≡ text = cc in
    ap (λ v. option_map (matches equal_weakly true (Some (own own_text))) (list_of v)) (at ∙ ap quoted (sym same))
    ∙ ap (option_map (matches equal_weakly true (Some (own own_text)))) (list_complete (quoted own_text) (Tags (own own_text ∷ [])) (is_list own_text fits))
    ∙ ap (λ m. Some m) (own_equal own_text)
