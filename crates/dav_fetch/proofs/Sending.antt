-- What is sent of a file to its request, by what is kept of it.
use Rattle.std.proofs.Common.{◌≡◌, ◌<◌, ◌-◌, ◌^◌, ◌||◌, ◌++◌, ℕ, List, [], ◌∷◌, length, map, reverse, Bool, true, false, cond, codes, bytes_eq, Option, None, Some, option_map, option_and_then, refl, sym, ap, ◌∙◌, arith, append-nil, slice_get}
use Rattle.std.proofs.lemmas.List.{reverse-append, reverse-reverse}
use Rattle.std.proofs.lemmas.Slice.Eq.{bytes_eq-Decides}
use Rattle.http_header.specs.HeaderMap.{get_all}
use Rattle.http_header.specs.FieldValue.{FieldValue}
use Rattle.httpdate.specs.Date.{parse_secs}
use Rattle.dav_io.specs.declared.fields.Field.{Field}
use Rattle.dav_core.specs.declared.etag.ETag.{ETag}
use Rattle.dav_core.specs.declared.etag_list.EtagList.{EtagList}
use Rattle.dav_core.specs.declared.etag_list.EtagList.TheVariants.{Tags}
use Rattle.dav_core.specs.declared.if_range.IfRange.TheVariants.{Tag}
use Rattle.dav_core.specs.declared.method.DavMethod.TheVariants.{Get}
use Rattle.dav_core.specs.declared.time.FileTime.{FileTime}
use Rattle.dav_core.specs.Blanks.{trimmed, without_front}
use Rattle.dav_core.specs.Tags.{IsTagList, IsTagText}
use Rattle.dav_core.specs.TagReading.{if_range_of, list_of}
use Rattle.dav_core.proofs.TagLaws.{list_complete}
use Rattle.dav_core.proofs.IfRangeLaws.{if_range_complete}
use Rattle.dav_model.specs.declared.sent.Sent.{Sent}
use Rattle.dav_model.specs.declared.sent.Sent.TheVariants.{All, Alone, One}
use Rattle.dav_model.specs.Conditions.{Fields, condition, date_in, first_bytes, heard, is_fresh, is_refused, joined, list_in, range_matches, ranges_are_heard, repeated, strong}
use Rattle.dav_model.specs.Head.{Stood, quoted, sent_by, sent_of, sent_ranges}
use Rattle.dav_fetch.specs.declared.copied.Kept.{Kept}
use Rattle.dav_fetch.specs.Asking.{whole, rest, same, asked_for, range_from}
use Rattle.dav_fetch.specs.Peer.{Carries, said_under}
use Rattle.dav_fetch.proofs.Ranging.{resumes}

-- ---- fields that a request has, and fields that it hasn't

first_of : (values : List FieldValue) → option_map (λ (v : FieldValue). v.bytes) (slice_get values 0) ≡ slice_get (map (λ (v : FieldValue). v.bytes) values) 0
first_of [] = refl
first_of (v ∷ values) = refl

-- the first value under a name is that of the list of fields
first_said : (asked : List Field) (fields : Fields) → Carries asked fields → (name : List ℕ) → first_bytes fields name ≡ slice_get (said_under asked name) 0
first_said asked fields carries name = first_of (get_all fields name) ∙ ap (λ vs. slice_get vs 0) (carries name)

list_said : (asked : List Field) (fields : Fields) → Carries asked fields → (name : List ℕ) → list_in fields name ≡ list_of (joined (said_under asked name))
list_said asked fields carries name = ap (λ vs. list_of (joined vs)) (carries name)

date_said : (asked : List Field) (fields : Fields) → Carries asked fields → (name : List ℕ) → date_in fields name ≡ option_and_then parse_secs (slice_get (said_under asked name) 0)
date_said asked fields carries name = ap (option_and_then parse_secs) (first_said asked fields carries name)

abbrev condition_by : Option EtagList → Option ℕ → Option EtagList → Option ℕ → Option ETag → Option FileTime → Option ℕ
condition_by a b c d tag time = cond (is_refused a b true tag time) (Some 412) (repeated Get c d true tag time)

-- By the fields of a list, the others being absent.
condition_said : (asked : List Field) (fields : Fields) (tag : Option ETag) (time : Option FileTime) → Carries asked fields
    → said_under asked (codes "if-match") ≡ [] → said_under asked (codes "if-unmodified-since") ≡ [] → said_under asked (codes "if-modified-since") ≡ []
    → condition Get fields true tag time ≡ repeated Get (list_of (joined (said_under asked (codes "if-none-match")))) None true tag time
condition_said asked fields tag time carries a b d =
    ap (λ x. condition_by x (date_in fields (codes "if-unmodified-since")) (list_in fields (codes "if-none-match")) (date_in fields (codes "if-modified-since")) tag time)
    (list_said asked fields carries (codes "if-match") ∙ ap (λ vs. list_of (joined vs)) a)
    ∙ ap (λ x. condition_by None x (list_in fields (codes "if-none-match")) (date_in fields (codes "if-modified-since")) tag time)
    (date_said asked fields carries (codes "if-unmodified-since") ∙ ap (λ vs. option_and_then parse_secs (slice_get vs 0)) b)
    ∙ ap (λ x. condition_by None None x (date_in fields (codes "if-modified-since")) tag time) (list_said asked fields carries (codes "if-none-match"))
    ∙ ap (λ x. condition_by None None (list_of (joined (said_under asked (codes "if-none-match")))) x tag time)
    (date_said asked fields carries (codes "if-modified-since") ∙ ap (λ vs. option_and_then parse_secs (slice_get vs 0)) d)

-- what is sent, by the list of fields
sent_said : (asked : List Field) (fields : Fields) (stood : Stood) → Carries asked fields
    → said_under asked (codes "if-match") ≡ [] → said_under asked (codes "if-unmodified-since") ≡ [] → said_under asked (codes "if-modified-since") ≡ []
    → sent_of Get fields stood ≡ sent_by (repeated Get (list_of (joined (said_under asked (codes "if-none-match")))) None true (strong stood.tag) stood.modified)
    (heard (slice_get (said_under asked (codes "if-range")) 0) (strong stood.tag) stood.modified) (slice_get (said_under asked (codes "range")) 0) stood.len
sent_said asked fields stood carries a b d =
    ap (λ c. sent_by c (ranges_are_heard fields (strong stood.tag) stood.modified) (first_bytes fields (codes "range")) stood.len)
    (condition_said asked fields (strong stood.tag) stood.modified carries a b d)
    ∙ ap (λ h. sent_by (repeated Get (list_of (joined (said_under asked (codes "if-none-match")))) None true (strong stood.tag) stood.modified)
    (heard h (strong stood.tag) stood.modified) (first_bytes fields (codes "range")) stood.len) (first_said asked fields carries (codes "if-range"))
    ∙ ap (λ r. sent_by (repeated Get (list_of (joined (said_under asked (codes "if-none-match")))) None true (strong stood.tag) stood.modified)
    (heard (slice_get (said_under asked (codes "if-range")) 0) (strong stood.tag) stood.modified) r stood.len) (first_said asked fields carries (codes "range"))

-- ---- the three requests

-- without a field the whole file is sent
pub whole_sent : (fields : Fields) (stood : Stood) → Carries (asked_for whole) fields → sent_of Get fields stood ≡ All
whole_sent fields stood carries = sent_said [] fields stood carries refl refl refl

abbrev pub has_text : Option (List ℕ) → List ℕ → Bool
has_text None text = false
has_text (Some t) text = bytes_eq text t

-- the rest, where the tag is the one kept; else the whole
pub rest_sent : (fields : Fields) (stood : Stood) (f : Kept) (tag : List ℕ) → f.tag ≡ quoted tag → IsTagText tag → Carries (asked_for (rest f)) fields
    → (has_text stood.tag tag ≡ true → length f.bytes < stood.len) → length f.bytes < 2 ^ 64
    → sent_of Get fields stood ≡ cond (has_text stood.tag tag) (One (record { start = length f.bytes; count = stood.len - length f.bytes })) All
rest_sent fields stood f tag is text carries inside small =
    sent_said (asked_for (rest f)) fields stood carries refl refl refl
    ∙ ap (λ (h : List ℕ). sent_by None (is_fresh (if_range_of h) (strong stood.tag) stood.modified) (Some (range_from (length f.bytes))) stood.len) is
    ∙ ap (λ h. sent_by None (is_fresh h (strong stood.tag) stood.modified) (Some (range_from (length f.bytes))) stood.len)
    (if_range_complete (quoted tag) (Tag (record { weak = false; tag = tag })) (record { bytes = text; same = refl }))
    ∙ by stood.tag refl
  where
    by : (t : Option (List ℕ)) → stood.tag ≡ t → sent_by None (range_matches (Tag (record { weak = false; tag = tag })) (strong t) stood.modified) (Some (range_from (length f.bytes))) stood.len
        ≡ cond (has_text t tag) (One (record { start = length f.bytes; count = stood.len - length f.bytes })) All
    by None has = refl
    by (Some t) has = alike (bytes_eq tag t) refl
      where
        alike : (b : Bool) → bytes_eq tag t ≡ b → sent_by None b (Some (range_from (length f.bytes))) stood.len ≡ cond b (One (record { start = length f.bytes; count = stood.len - length f.bytes })) All
        alike true e = ap sent_ranges (resumes (length f.bytes) stood.len (inside (ap (λ o. has_text o tag) has ∙ e)) small)
        alike false e = refl

quoted_trims : (tag : List ℕ) → trimmed (quoted tag) ≡ quoted tag
quoted_trims tag =
    ap (λ r. reverse (without_front r)) (reverse-append (34 ∷ tag) (34 ∷ [])) ∙ ap reverse (sym (reverse-append (34 ∷ tag) (34 ∷ []))) ∙ reverse-reverse (quoted tag)

abbrev by_list : Stood → Option EtagList → Sent
by_list s l = sent_by (repeated Get l None true (strong s.tag) s.modified) true None s.len

-- nothing, where the tag is the one kept; else the whole
pub same_sent : (fields : Fields) (stood : Stood) (f : Kept) (tag : List ℕ) → f.tag ≡ quoted tag → IsTagText tag → Carries (asked_for (same f)) fields
    → sent_of Get fields stood ≡ cond (has_text stood.tag tag) (Alone 304) All
same_sent fields stood f tag is text carries =
    sent_said (asked_for (same f)) fields stood carries refl refl refl
    ∙ ap (λ (h : List ℕ). by_list stood (list_of (h ++ []))) is ∙ ap (λ (h : List ℕ). by_list stood (list_of h)) (append-nil (quoted tag))
    ∙ ap (by_list stood) (list_complete (quoted tag) (Tags (record { weak = false; tag = tag } ∷ [])) listed)
    ∙ by stood.tag
  where
    listed : IsTagList (quoted tag) (record { weak = false; tag = tag } ∷ [])
    listed = record {
      members = quoted tag ∷ [];
      said = Some (record { weak = false; tag = tag }) ∷ [];
      joined = refl;
      each = (record { bytes = text; same = quoted_trims tag }, tt);
      tags_are = refl;
      some = omega arith;
    }

    by : (t : Option (List ℕ)) → sent_by (repeated Get (Some (Tags (record { weak = false; tag = tag } ∷ []))) None true (strong t) stood.modified) true None stood.len
        ≡ cond (has_text t tag) (Alone 304) All
    by None = refl
    by (Some t) = ap (λ b. sent_by (cond b (Some 304) None) true None stood.len) (turned t) ∙ alike (bytes_eq tag t)
      where
        or_false : (b : Bool) → (b || false) ≡ b
        or_false true = refl
        or_false false = refl

        flipped : (a b : List ℕ) → bytes_eq a b ≡ bytes_eq b a
        flipped a b = flip (bytes_eq a b) (bytes_eq b a) refl refl
          where
            flip : (x y : Bool) → bytes_eq a b ≡ x → bytes_eq b a ≡ y → x ≡ y
            flip true true e f = refl
            flip false false e f = refl
            flip true false e f = sym ((bytes_eq-Decides b a).1 (sym ((bytes_eq-Decides a b).0 e))) ∙ f
            flip false true e f = sym e ∙ (bytes_eq-Decides a b).1 (sym ((bytes_eq-Decides b a).0 f))

        turned : (t : List ℕ) → (bytes_eq t tag || false) ≡ bytes_eq tag t
        turned t = or_false (bytes_eq t tag) ∙ flipped t tag

        alike : (b : Bool) → sent_by (cond b (Some 304) None) true None stood.len ≡ cond b (Alone 304) All
        alike true = refl
        alike false = refl
