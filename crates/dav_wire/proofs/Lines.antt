-- Lines of fields, joined, and fields that are put where their names belong.
use Rattle.std.proofs.Common.{◌≡◌, ℕ, Bool, true, false, List, [], ◌∷◌, ◌++◌, take, drop, refl, sym, ap, ◌∙◌, append_assoc, add-one, inl, inr}
use Rattle.std.specs.Ordering.{nat_cmp, is_gt}
use Rattle.std.specs.Cmp.Lexicographic.{slice_cmp}
use Rattle.std.proofs.lemmas.Bool.{cases_Bool}
use Rattle.std.proofs.lemmas.Cmp.{upto, nat_list_cmp_total}
use Rattle.std.proofs.lemmas.Grind.{flat_map-append}
use Rattle.dav_io.specs.declared.fields.Field.{Field}
use Rattle.dav_wire.specs.declared.chunks.Framing.{Framing}
use Rattle.dav_wire.specs.declared.chunks.Framing.TheVariants.{Raw, Chunked}
use Rattle.dav_wire.specs.Answers.{field_line, field_lines, close_field, chunked_field, place, with_field, with_framing, has_close_field, written_fields}

-- text, some lines, one more, and the lines behind it
pub lines_around : (added : Field) (front behind : List Field) (old a b d : List ℕ)
    → a ≡ old ++ field_lines front → b ≡ a ++ field_line added → d ≡ b ++ field_lines behind
    → d ≡ old ++ field_lines (front ++ added ∷ behind)
lines_around added front behind old a b d p q r =
    r ∙ ap (λ x. x ++ field_lines behind) q ∙ ap (λ x. (x ++ field_line added) ++ field_lines behind) p
    ∙ append_assoc (old ++ field_lines front) (field_line added) (field_lines behind)
    ∙ append_assoc old (field_lines front) (field_line added ++ field_lines behind)
    ∙ ap (λ x. old ++ x) (sym (flat_map-append field_line front (added ∷ behind)))

-- a field whose name comes no later stays in front
passes : (added field : Field) (fields : List Field) → is_gt (slice_cmp nat_cmp field.name added.name) ≡ false
    → with_field added (field ∷ fields) ≡ field ∷ with_field added fields
passes added field fields before = rw (before, add-one) refl

-- what comes no later than `connection` comes no later than `transfer-encoding`
before_framing : (field : Field) → is_gt (slice_cmp nat_cmp field.name close_field.name) ≡ false
    → is_gt (slice_cmp nat_cmp field.name chunked_field.name) ≡ false
before_framing field before = upto nat_list_cmp_total field.name close_field.name chunked_field.name before refl

-- of two fields that are put where their names belong, the second stands behind the first
pub framed_behind_close : (framing : Framing) (fields : List Field)
    → with_framing framing (with_field close_field fields)
    ≡ take (place close_field.name fields) fields ++ close_field ∷ with_framing framing (drop (place close_field.name fields) fields)
framed_behind_close Raw fields = refl
framed_behind_close Chunked [] = refl
framed_behind_close Chunked (field ∷ fields) =
    elim (cases_Bool (is_gt (slice_cmp nat_cmp field.name close_field.name))) [
      | inl after ↦ rw after (passes chunked_field close_field (field ∷ fields) refl)
      | inr before ↦
          ap (with_field chunked_field) (passes close_field field fields before)
          ∙ passes chunked_field field (with_field close_field fields) (before_framing field before)
          ∙ ap (λ x. field ∷ x) (framed_behind_close Chunked fields)
          ∙ rw (before, add-one) refl
    ]

-- text, the lines before a field's place, its line, and the lines behind it
pub lines_framed : (framing : Framing) (fields front back : List Field) (n : ℕ) (old a b d : List ℕ) → framing ≡ Chunked
    → n ≡ place chunked_field.name fields → front ≡ take n fields → back ≡ drop n fields
    → a ≡ old ++ field_lines front → b ≡ a ++ field_line chunked_field → d ≡ b ++ field_lines back
    → d ≡ old ++ field_lines (with_framing framing fields)
lines_framed framing fields front back n old a b d chunked same e f p q r =
    let place_is = place chunked_field.name fields in
    lines_around chunked_field front back old a b d p q r
    ∙ ap (λ x. old ++ field_lines (x ++ chunked_field ∷ back)) (e ∙ ap (λ k. take k fields) same)
    ∙ ap (λ x. old ++ field_lines (take place_is fields ++ chunked_field ∷ x)) (f ∙ ap (λ k. drop k fields) same)
    ∙ ap (λ x. old ++ field_lines (with_framing x fields)) (sym chunked)

pub lines_closing : (closing : Bool) (framing : Framing) (fields front back : List Field) (n : ℕ) (old a b d : List ℕ)
    → closing ≡ true → has_close_field fields ≡ false
    → n ≡ place close_field.name fields → front ≡ take n fields → back ≡ drop n fields
    → a ≡ old ++ field_lines front → b ≡ a ++ field_line close_field → d ≡ b ++ field_lines (with_framing framing back)
    → d ≡ old ++ field_lines (written_fields closing framing fields)
lines_closing closing framing fields front back n old a b d closes unsaid same e f p q r =
    let place_is = place close_field.name fields in
    lines_around close_field front (with_framing framing back) old a b d p q r
    ∙ ap (λ x. old ++ field_lines (x ++ close_field ∷ with_framing framing back)) (e ∙ ap (λ k. take k fields) same)
    ∙ ap (λ x. old ++ field_lines (take place_is fields ++ close_field ∷ with_framing framing x)) (f ∙ ap (λ k. drop k fields) same)
    ∙ ap (λ x. old ++ field_lines x) (sym (framed_behind_close framing fields))
    ∙ rw (closes, unsaid) refl
