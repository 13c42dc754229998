-- No part of a body that is answered is empty, and no piece that a poll of it gives.
use Rattle.std.proofs.Common.{◌≡◌, ◌<◌, ◌+◌, ◌-◌, ◌==◌, ◌++◌, ℕ, List, [], ◌∷◌, Bool, true, false, cond, Option, None, Some, length, length-append, map, codes, refl, sym, ap, subst, ◌∙◌, inl, inr, arith, zero, suc, true≢false}
use Rattle.dav_io.specs.Counts.{Rose}
use Rattle.std.specs.List.{AllByRecursion}
use Rattle.dav_core.specs.DavPath.{WebPath, last_name, type_of_last}
use Rattle.dav_core.specs.World.{World}
use Rattle.dav_core.specs.declared.method.DavMethod.{DavMethod}
use Rattle.dav_model.specs.declared.answer.Answer.TheVariants.{Piece, End, Broken}
use Rattle.dav_model.specs.declared.ranges.Slice.{Slice}
use Rattle.dav_model.specs.declared.ranges.Ranges.{Ranges}
use Rattle.dav_model.specs.declared.ranges.Ranges.TheVariants.{Whole, Unsatisfiable, Parts}
use Rattle.dav_model.specs.declared.sent.Sent.{Sent}
use Rattle.dav_model.specs.declared.sent.Sent.TheVariants.{All, Alone, Unsatisfied, One, Several}
use Rattle.dav_page.specs.declared.row.PageRow.{PageRow}
use Rattle.dav_page.specs.Pages.{PageTexts, RowTexts, after_rows, head_text, pieces_of, row_text}
use Rattle.dav_model.specs.Announced.{HasSoundBody}
use Rattle.dav_model.specs.Bodies.{NoneEmpty, Part, Polls, slice, text}
use Rattle.dav_model.specs.Conditions.{Fields, condition, first_bytes, ranges_are_heard, strong}
use Rattle.dav_model.specs.Head.{Reply, Stood, IsSent, given_parts, is_get, last_boundary, part_head, refusal, sent_by, sent_of, sent_parts, sent_parts_of, sent_ranges, sent_status, several_parts, span_text}
use Rattle.dav_model.specs.Indexes.{IsIndexBody, IsIndexReply}
use Rattle.dav_model.specs.Slices.{AreWithin, IsWithin, ranges}
use Rattle.dav_model.proofs.Within.{ranges_within}

abbrev pub IsNonempty : List ℕ → Type 0
IsNonempty piece = 0 < length piece

-- A poll gives a piece that isn't empty.
pub piece_some : (left : List Part) (piece : List ℕ) (rest : List Part) (told : Option World) (whole : Bool) (most before after : ℕ)
    → NoneEmpty left → Polls told whole most (Rose before after) left (Piece piece) rest → IsNonempty piece
piece_some [] piece rest told whole most before after full (e, none) = let f : Piece piece ≡ End = e in cc
piece_some (part ∷ parts) piece rest told whole most before after full (inr (e, none, rose)) = let f : Piece piece ≡ Broken = e in cc
piece_some (text bytes ∷ parts) piece rest told whole most before after full (inl (p, e, (is, are))) =
    let same : piece ≡ p = cc in subst IsNonempty (sym (same ∙ is)) full.0
piece_some (slice number start count ∷ parts) piece rest told whole most before after full (inl (p, e, (some, within, are, right))) =
    let same : piece ≡ p = cc in subst IsNonempty (sym same) some

some_count : (count : ℕ) → ((count == 0) ≡ false) → 0 < count
some_count zero e = absurd (true≢false e)
some_count (suc n) e = omega arith

moved_full : (b : Bool) (number start count : ℕ) (parts : List Part) → ((count == 0) ≡ b) → NoneEmpty parts → NoneEmpty (cond b parts (slice number start count ∷ parts))
moved_full true number start count parts e full = full
moved_full false number start count parts e full = (some_count count e, full)

-- It leaves no part empty.
pub rest_full : (left : List Part) (piece : List ℕ) (rest : List Part) (told : Option World) (whole : Bool) (most before after : ℕ)
    → NoneEmpty left → Polls told whole most (Rose before after) left (Piece piece) rest → NoneEmpty rest
rest_full [] piece rest told whole most before after full (e, none) = let f : Piece piece ≡ End = e in cc
rest_full (part ∷ parts) piece rest told whole most before after full (inr (e, none, rose)) = let f : Piece piece ≡ Broken = e in cc
rest_full (text bytes ∷ parts) piece rest told whole most before after full (inl (p, e, (is, are))) = subst NoneEmpty (sym are) full.1
rest_full (slice number start count ∷ parts) piece rest told whole most before after full (inl (p, e, (some, within, are, right))) =
    subst NoneEmpty (sym are) (moved_full (count - length p == 0) number (start + length p) (count - length p) parts refl full.1)

-- what has no parts
pub sound_empty : (reply : Reply) → reply.parts ≡ [] → HasSoundBody reply
sound_empty reply none = record { full = subst NoneEmpty (sym none) tt; bodiless = λ e. none }

pub sound_refused : (reply : Reply) (fields : Fields) (status : ℕ) (close : Bool) → reply ≡ refusal fields status close → HasSoundBody reply
sound_refused reply fields status close is = sound_empty reply (ap (λ (r : Reply). r.parts) is)

where_full : (b : Bool) (number start count : ℕ) → ((count == 0) ≡ b) → NoneEmpty (cond b [] (slice number start count ∷ []))
where_full true number start count e = tt
where_full false number start count e = (some_count count e, tt)

in_front : (front more : List ℕ) → 0 < length front → 0 < length (front ++ more)
in_front front more some = omega (arith, length-append front more)

part_some : (type : List ℕ) (len : ℕ) (part : Slice) → 0 < length (part_head type len part)
part_some type len part = in_front (codes "\n--BOUNDARY\nContent-Range: bytes ") (span_text len part ++ (codes "\nContent-Type: " ++ (type ++ codes "\n\n"))) (omega arith)

last_some : 0 < length last_boundary
last_some = omega arith

abbrev IsSome : Slice → Type 0
IsSome part = 0 < part.count

-- Of several slices none is empty. (One alone is left out where it is.)
abbrev pub HasSlices : Sent → Type 0
HasSlices All = Unit {0}
HasSlices (Alone status) = Unit {0}
HasSlices Unsatisfied = Unit {0}
HasSlices (One part) = Unit {0}
HasSlices (Several parts) = AllByRecursion IsSome parts

several_full : (type : List ℕ) (number len : ℕ) (parts : List Slice) → AllByRecursion IsSome parts → NoneEmpty (several_parts type number len parts)
several_full type number len [] some = (last_some, tt)
several_full type number len (part ∷ parts) some = (part_some type len part, (some.0, several_full type number len parts some.1))

given_full : (type : List ℕ) (number len : ℕ) (sent : Sent) → HasSlices sent → NoneEmpty (given_parts type number len sent)
given_full type number len All some = where_full (len == 0) number 0 len refl
given_full type number len (Alone status) some = tt
given_full type number len Unsatisfied some = tt
given_full type number len (One part) some = where_full (part.count == 0) number part.start part.count refl
given_full type number len (Several parts) some = several_full type number len parts some

sent_full : (gives : Bool) (type : List ℕ) (number len : ℕ) (sent : Sent) → HasSlices sent → NoneEmpty (sent_parts gives type number len sent)
sent_full true type number len sent some = given_full type number len sent some
sent_full false type number len sent some = tt

given_204 : (type : List ℕ) (number len : ℕ) (sent : Sent) → sent_status sent ≡ 204 → given_parts type number len sent ≡ []
given_204 type number len All e = absurd (omega (arith, e))
given_204 type number len (Alone status) e = refl
given_204 type number len Unsatisfied e = refl
given_204 type number len (One part) e = absurd (omega (arith, e))
given_204 type number len (Several parts) e = absurd (omega (arith, e))

sent_204 : (gives : Bool) (type : List ℕ) (number len : ℕ) (sent : Sent) → sent_status sent ≡ 204 → sent_parts gives type number len sent ≡ []
sent_204 true type number len sent e = given_204 type number len sent e
sent_204 false type number len sent e = refl

-- what is sent of a file
pub sent_sound : (method : DavMethod) (path : WebPath) (stood : Stood) (sent : Sent) (reply : Reply) → HasSlices sent → IsSent method path stood sent reply → HasSoundBody reply
sent_sound method path stood sent reply some (date, dated, is) =
    subst HasSoundBody (sym is) (record {
      full = sent_full (is_get method) (type_of_last (last_name path.names)) stood.number stood.len sent some;
      bodiless = sent_204 (is_get method) (type_of_last (last_name path.names)) stood.number stood.len sent;
    })

all_some : (len : ℕ) (parts : List Slice) → AllByRecursion (IsWithin len) parts → AllByRecursion IsSome parts
all_some len [] within = tt
all_some len (part ∷ parts) within = (within.0.some, all_some len parts within.1)

parts_have : (len : ℕ) (parts : List Slice) → AllByRecursion (IsWithin len) parts → HasSlices (sent_parts_of parts)
parts_have len [] within = tt
parts_have len (part ∷ []) within = tt
parts_have len (part ∷ next ∷ parts) within = all_some len (part ∷ next ∷ parts) within

ranges_have : (len : ℕ) (found : Ranges) → AreWithin len found → HasSlices (sent_ranges found)
ranges_have len Whole within = tt
ranges_have len Unsatisfiable within = tt
ranges_have len (Parts parts) within = parts_have len parts within

by_have : (decided : Option ℕ) (on : Bool) (range : Option (List ℕ)) (len : ℕ) → HasSlices (sent_by decided on range len)
by_have (Some status) on range len = tt
by_have None false range len = tt
by_have None true range len = ranges_have len (ranges range len) (ranges_within range len)

-- No slice that a request asks for is empty.
pub sent_has : (method : DavMethod) (fields : Fields) (stood : Stood) → HasSlices (sent_of method fields stood)
sent_has method fields stood =
    by_have (condition method fields true (strong stood.tag) stood.modified) (ranges_are_heard fields (strong stood.tag) stood.modified) (first_bytes fields (codes "range")) stood.len

-- ---- pages of directories

begins : (b : ℕ) (rest xs : List ℕ) → xs ≡ b ∷ rest → IsNonempty xs
begins b rest xs e = subst IsNonempty (sym e) (omega arith)

rows_full : (rows : List RowTexts) → AllByRecursion IsNonempty (map row_text rows ++ after_rows ∷ [])
rows_full [] = (begins _ _ after_rows refl, tt)
rows_full (row ∷ rows) = (begins _ _ (row_text row) refl, rows_full rows)

-- No piece of a page is empty.
pub pieces_full : (p : PageTexts) → AllByRecursion IsNonempty (pieces_of p)
pieces_full p = (begins _ _ (head_text p) refl, rows_full p.rows)

texts_full : (texts : List (List ℕ)) → AllByRecursion IsNonempty texts → NoneEmpty (map text texts)
texts_full [] all = tt
texts_full (first ∷ texts) all = (all.0, texts_full texts all.1)

pub index_sound : (gives : Bool) (dir : WebPath) (Rows : List PageRow → Type 0) (reply : Reply) → IsIndexReply gives dir Rows reply → HasSoundBody reply
index_sound gives dir Rows reply is = record { full = by gives is.parts; bodiless = λ e. (let never : ⊥ = omega (arith, sym is.status ∙ e) in absurd never) }
  where
    by : (gives : Bool) → IsIndexBody gives dir Rows reply.parts → NoneEmpty reply.parts
    by true (texts, are, index) = subst NoneEmpty (sym are) (texts_full texts (subst (AllByRecursion IsNonempty) (sym index.pieces) (pieces_full index.reads.texts)))
    by false none = subst NoneEmpty (sym none) tt
