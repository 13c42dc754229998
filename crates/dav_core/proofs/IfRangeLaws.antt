-- A tag is no date, so a value of `if-range` has one reading.
use Rattle.std.proofs.Common.{◌≡◌, ◌++◌, ◌∷◌, [], ℕ, zero, suc, Bool, true, false, List, get_or, Option, None, Some, option_map, option_and_then, refl, sym, ap, subst, ◌∙◌, arith}
use Rattle.std.specs.Int.{IsInRange}
use Rattle.httpdate.specs.Date.{parse_secs, valid_secs}
use Rattle.httpdate.specs.Reader.{parse, read_name}
use Rattle.httpdate.specs.Text.{day_name}
use Rattle.httpdate.proofs.ReaderLemmas.{read_name_sound}
use Rattle.dav_core.proofs.TagLaws.{tag_sound, tag_complete}
use Rattle.dav_core.specs.Tags.{IsTag, IsIfRange, weak_mark}
use Rattle.dav_core.specs.TagReading.{tag_of, tag_or_date, if_range_of}
use Rattle.dav_core.specs.declared.etag.ETag.{ETag}
use Rattle.dav_core.specs.declared.if_range.IfRange.{IfRange}
use Rattle.dav_core.specs.declared.if_range.IfRange.TheVariants.{Tag, Date}

-- no name of a day begins as a tag does
bytes_differ : (weak : Bool) (text rest : List ℕ) (n : ℕ) → IsInRange 1 7 n → weak_mark weak ++ (34 ∷ text) ≡ day_name n ++ rest → ⊥
bytes_differ weak text rest zero range e = omega (arith, range.0)
bytes_differ false text rest (suc zero) range e = omega (arith, ap (λ l. get_or l 0 0) e)
bytes_differ false text rest (suc (suc zero)) range e = omega (arith, ap (λ l. get_or l 0 0) e)
bytes_differ false text rest (suc (suc (suc zero))) range e = omega (arith, ap (λ l. get_or l 0 0) e)
bytes_differ false text rest (suc (suc (suc (suc zero)))) range e = omega (arith, ap (λ l. get_or l 0 0) e)
bytes_differ false text rest (suc (suc (suc (suc (suc zero))))) range e = omega (arith, ap (λ l. get_or l 0 0) e)
bytes_differ false text rest (suc (suc (suc (suc (suc (suc zero)))))) range e = omega (arith, ap (λ l. get_or l 0 0) e)
bytes_differ false text rest (suc (suc (suc (suc (suc (suc (suc zero))))))) range e = omega (arith, ap (λ l. get_or l 0 0) e)
bytes_differ true text rest (suc zero) range e = omega (arith, ap (λ l. get_or l 1 0) e)
bytes_differ true text rest (suc (suc zero)) range e = omega (arith, ap (λ l. get_or l 1 0) e)
bytes_differ true text rest (suc (suc (suc zero))) range e = omega (arith, ap (λ l. get_or l 1 0) e)
bytes_differ true text rest (suc (suc (suc (suc zero)))) range e = omega (arith, ap (λ l. get_or l 1 0) e)
bytes_differ true text rest (suc (suc (suc (suc (suc zero))))) range e = omega (arith, ap (λ l. get_or l 1 0) e)
bytes_differ true text rest (suc (suc (suc (suc (suc (suc zero)))))) range e = omega (arith, ap (λ l. get_or l 1 0) e)
bytes_differ true text rest (suc (suc (suc (suc (suc (suc (suc zero))))))) range e = omega (arith, ap (λ l. get_or l 1 0) e)
bytes_differ weak text rest (suc (suc (suc (suc (suc (suc (suc (suc n)))))))) range e = omega (arith, range.1)

no_day : (text : List ℕ) (found : Option (ℕ × List ℕ)) → read_name day_name 7 text ≡ found → ((n : ℕ) (rest : List ℕ) → IsInRange 1 7 n → text ≡ day_name n ++ rest → ⊥) → parse text ≡ None
unfolding parse
no_day text None e never = rw e refl
no_day text (Some day) e never = let sound = read_name_sound day_name 7 text day.1 day.0 e in absurd (never day.0 day.1 sound.0 sound.1)

tag_no_date : (text : List ℕ) (tag : ETag) → IsTag text tag → parse_secs text ≡ None
tag_no_date text tag is =
    ap (option_and_then valid_secs) (no_day text (read_name day_name 7 text) refl (λ n rest range e. bytes_differ tag.weak (tag.tag ++ 34 ∷ []) rest n range (sym is.same ∙ e)))

read_by : (text : List ℕ) (tag : Option ETag) (secs : Option ℕ) (r : IfRange) → tag_of text ≡ tag → parse_secs text ≡ secs → tag_or_date tag secs ≡ Some r → IsIfRange text r
read_by text (Some tag) secs r t s e = let same : Tag tag ≡ r = cc in subst (IsIfRange text) same (tag_sound text tag t)
read_by text None (Some secs) r t s e = let same : Date secs ≡ r = cc in subst (IsIfRange text) same s
read_by text None None r t s e = cc

pub if_range_sound : (text : List ℕ) (r : IfRange) → if_range_of text ≡ Some r → IsIfRange text r
if_range_sound text r e = read_by text (tag_of text) (parse_secs text) r refl refl e

date_by : (text : List ℕ) (tag : Option ETag) (secs : ℕ) → tag_of text ≡ tag → parse_secs text ≡ Some secs → tag_or_date tag (parse_secs text) ≡ Some (Date secs)
date_by text None secs t s = ap (option_map (λ n. Date n)) s
date_by text (Some tag) secs t s = let none = tag_no_date text tag (tag_sound text tag t) in cc

pub if_range_complete : (text : List ℕ) (r : IfRange) → IsIfRange text r → if_range_of text ≡ Some r
if_range_complete text (Tag tag) is = ap (λ t. tag_or_date t (parse_secs text)) (tag_complete text tag is)
if_range_complete text (Date secs) is = date_by text (tag_of text) secs refl is
