-- How the bytes of an answer's body are written, and where a client finds their end.
use Rattle.std.proofs.Common.{◌≡◌, ◌+◌, ◌==◌, ◌&&◌, ◌||◌, ◌++◌, ◌⊎◌, ℕ, List, [], ◌∷◌, Bool, true, false, cond, not, Some, Option, All, length, bytes_eq, codes, refl, sym, ap, subst, ◌∙◌, inl, inr, true≢false, append_assoc, append-nil, length-append, if◌then◌else◌}
use Rattle.std.specs.List.{concat, flat_map}
use Rattle.std.proofs.lemmas.Bool.{eqb-true}
use Rattle.std.proofs.lemmas.Slice.Eq.{bytes_eq-Decides}
use Rattle.http.specs.declared.version.Version.{Version}
use Rattle.http.specs.declared.version.TheConstants.Version.{HTTP_10, HTTP_11}
use Rattle.http.specs.Request.{head_of}
use Rattle.dav_wire.specs.Messages.{Message}
use Rattle.dav_io.specs.declared.clock.Moment.{Moment}
use Rattle.dav_io.specs.declared.fields.Field.{Field}
use Rattle.dav_model.specs.Announced.{bytes_in, value_of}
use Rattle.dav_wire.specs.Answers.{head_text, has_close_field}
use Rattle.dav_wire.specs.Chunks.{written, ending, IsPiece, HasBody}
use Rattle.dav_wire.specs.Framing.{has_length, is_bodiless, is_eleven, takes_chunks}
use Rattle.dav_wire.specs.declared.chunks.Framing.{Framing}
use Rattle.dav_wire.specs.declared.chunks.Framing.TheVariants.{Raw, Chunked}
use Rattle.dav_wire.proofs.Chunking.{body_back, raw_back}
use Rattle.dav_serving.specs.Bodies.{Announces, IsBodiless, IsHeadAlone, TellsEnd}
use Rattle.dav_serving.specs.Exchange.{Exchange, IsOf, framing_of, wire_of}

-- a field has a value where it stands
has_by : (found : Bool) (first : List ℕ) (other : Option (List ℕ)) (others : Bool) (value : List ℕ) → (other ≡ Some value → others ≡ true) → cond found (Some first) other ≡ Some value → found || others ≡ true
has_by true first other others value more e = refl
has_by false first other others value more e = more e

has_where : (fields : List Field) (value : List ℕ) → value_of (codes "content-length") fields ≡ Some value → has_length fields ≡ true
has_where [] value e = cc
has_where (field ∷ fields) value e =
    has_by (bytes_eq field.name (codes "content-length")) field.value (value_of (codes "content-length") fields) (has_length fields) value (has_where fields value) e

abbrev IsSome : Option (List ℕ) → Type 0
IsSome o = (value : List ℕ) × (o ≡ Some value)

value_by : (found : Bool) (first : List ℕ) (other : Option (List ℕ)) (others : Bool) → (others ≡ true → IsSome other) → found || others ≡ true → IsSome (cond found (Some first) other)
value_by true first other others more e = (first, refl)
value_by false first other others more e = more e

value_where : (fields : List Field) → has_length fields ≡ true → IsSome (value_of (codes "content-length") fields)
value_where [] e = absurd (true≢false (sym e))
value_where (field ∷ fields) e =
    value_by (bytes_eq field.name (codes "content-length")) field.value (value_of (codes "content-length") fields) (has_length fields) (value_where fields) e

raw_by : (chunks bodiless long : Bool) → long ≡ true → (if chunks && (not bodiless && not long) then Chunked else Raw) ≡ Raw
raw_by true true long e = refl
raw_by true false long e = rw e refl
raw_by false bodiless long e = refl

-- A body with a length is written as it is.
announced_raw : (x : Exchange) (value : List ℕ) → Announces x value → framing_of x ≡ Raw
announced_raw x value e = raw_by (takes_chunks (head_of x.request)) (is_bodiless x.status) (has_length x.fields) (has_where x.fields value e)

wire_by : (x : Exchange) (way : Framing) → framing_of x ≡ way → wire_of x ≡ head_text x.status x.fields x.closing way ++ (flat_map (written way) x.pieces ++ ending way)
wire_by x way e =
    ap (λ w. (head_text x.status x.fields x.closing w ++ flat_map (written w) x.pieces) ++ ending w) e
    ∙ append_assoc (head_text x.status x.fields x.closing way) (flat_map (written way) x.pieces) (ending way)

-- the bytes of an answer that isn't written in chunks
pub raw_wire : (x : Exchange) → framing_of x ≡ Raw → wire_of x ≡ head_text x.status x.fields x.closing Raw ++ concat x.pieces
raw_wire x e = wire_by x Raw e ∙ ap (λ z. head_text x.status x.fields x.closing Raw ++ z) (raw_back x.pieces)

pub announced_wire : (x : Exchange) (value : List ℕ) → Announces x value → wire_of x ≡ head_text x.status x.fields x.closing Raw ++ concat x.pieces
announced_wire x value e = raw_wire x (announced_raw x value e)

pub counted_bytes : (pieces : List (List ℕ)) → bytes_in pieces ≡ length (concat pieces)
counted_bytes [] = refl
counted_bytes (piece ∷ pieces) = ap (λ n. length piece + n) (counted_bytes pieces) ∙ sym (length-append piece (concat pieces))

-- the bytes of a body, and what ends it, where it isn't written in chunks
pub raw_body : (x : Exchange) (behind : List ℕ) → framing_of x ≡ Raw → flat_map (written (framing_of x)) x.pieces ++ (ending (framing_of x) ++ behind) ≡ concat x.pieces ++ behind
raw_body x behind e =
    ap (λ w. flat_map (written w) x.pieces ++ (ending w ++ behind)) e
    ∙ sym (append_assoc (flat_map (written Raw) x.pieces) (ending Raw) behind)
    ∙ ap (λ z. z ++ behind) (raw_back x.pieces)

raw_head : (eleven head body : Bool) → head ≡ true → (if (eleven && not head) && body then Chunked else Raw) ≡ Raw
raw_head true head body e = rw e refl
raw_head false head body e = refl

raw_bodiless : (chunks bodiless short : Bool) → bodiless ≡ true → (if chunks && (not bodiless && short) then Chunked else Raw) ≡ Raw
raw_bodiless true bodiless short e = rw e refl
raw_bodiless false bodiless short e = refl

-- What has no body isn't written in chunks.
bodiless_raw : (x : Exchange) → IsBodiless x → framing_of x ≡ Raw
bodiless_raw x (inl head) =
    raw_head (is_eleven (head_of x.request).version) (bytes_eq (head_of x.request).method (codes "HEAD")) (not (is_bodiless x.status) && not (has_length x.fields))
    ((bytes_eq-Decides (head_of x.request).method (codes "HEAD")).1 head)
bodiless_raw x (inr (inl e)) = raw_bodiless (takes_chunks (head_of x.request)) (is_bodiless x.status) (not (has_length x.fields)) (ap is_bodiless e)
bodiless_raw x (inr (inr e)) = raw_bodiless (takes_chunks (head_of x.request)) (is_bodiless x.status) (not (has_length x.fields)) (ap is_bodiless e)

pub head_alone : (x : Exchange) → IsBodiless x → x.pieces ≡ [] → IsHeadAlone x
head_alone x is none =
    raw_wire x (bodiless_raw x is) ∙ ap (λ (z : List (List ℕ)). head_text x.status x.fields x.closing Raw ++ concat z) none ∙ append-nil (head_text x.status x.fields x.closing Raw)

-- a body in chunks, and what ends it
pub back_in_chunks : (x : Exchange) (behind : List ℕ) → framing_of x ≡ Chunked → All IsPiece x.pieces
    → HasBody (flat_map (written (framing_of x)) x.pieces ++ (ending (framing_of x) ++ behind)) (concat x.pieces) behind
back_in_chunks x behind e all =
    subst (λ w. HasBody (flat_map (written w) x.pieces ++ (ending w ++ behind)) (concat x.pieces) behind) (sym e) (body_back x.pieces behind all)

-- a request of version 1.0, or of 1.1
old_or_new : (old : Bool) (version : Version) → version ≡ (if old then HTTP_10 else HTTP_11) → (version ≡ HTTP_10) ⊎ (is_eleven version ≡ true)
old_or_new true version e = inl e
old_or_new false version e = inr (ap is_eleven e)

bodiless_status : (status : ℕ) (none not_modified : Bool) → ((status == 204) ≡ none) → ((status == 304) ≡ not_modified) → none || not_modified ≡ true → (status ≡ 204) ⊎ (status ≡ 304)
bodiless_status status true other e f h = inl (eqb-true status 204 e)
bodiless_status status false true e f h = inr (eqb-true status 304 f)
bodiless_status status false false e f h = absurd (true≢false (sym h))

chunked_by : (eleven head bodiless long : Bool) → eleven ≡ true → head ≡ false → bodiless ≡ false → long ≡ false
    → (if (eleven && not head) && (not bodiless && not long) then Chunked else Raw) ≡ Chunked
chunked_by eleven head bodiless long e f g h = rw (e, f, g, h) refl

-- an answer to a request of version 1.1
new_tells : (x : Exchange) (head bodiless long : Bool) → is_eleven (head_of x.request).version ≡ true → bytes_eq (head_of x.request).method (codes "HEAD") ≡ head
    → is_bodiless x.status ≡ bodiless → has_length x.fields ≡ long → TellsEnd x
new_tells x true bodiless long eleven e f g = inl (inl ((bytes_eq-Decides (head_of x.request).method (codes "HEAD")).0 e))
new_tells x false true long eleven e f g = inl (inr (bodiless_status x.status (x.status == 204) (x.status == 304) refl refl f))
new_tells x false false true eleven e f g = inr (inr (inl (value_where x.fields g)))
new_tells x false false false eleven e f g =
    inr (inl (chunked_by (is_eleven (head_of x.request).version) (bytes_eq (head_of x.request).method (codes "HEAD")) (is_bodiless x.status) (has_length x.fields) eleven e f g))

tells_by : (shown : Option Moment) (message : Message) (x : Exchange) → IsOf shown message x
    → ((head_of x.request).version ≡ HTTP_10) ⊎ (is_eleven (head_of x.request).version ≡ true) → TellsEnd x
tells_by shown message x is (inl old) = inr (inr (inr (old, ap (λ b. b || has_close_field x.fields) (is.closing.1 (inl old)))))
tells_by shown message x is (inr new) = new_tells x _ _ _ new refl refl refl

pub tells_end : (shown : Option Moment) (message : Message) (x : Exchange) → IsOf shown message x → TellsEnd x
tells_end shown message x is = tells_by shown message x is (old_or_new (message.head.minor == 0) (head_of x.request).version is.parts.version)
