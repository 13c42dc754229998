-- What each step of a reader of a body in chunks says of the text so far.
use Rattle.std.proofs.Common.{◌≡◌, ℕ, ◌+◌, ◌-◌, ◌<◌, ◌≤◌, List, [], ◌++◌, length, take, drop, refl, sym, ap, ◌∙◌, subst, arith, append_assoc, append-nil, length-append, replicate}
use Rattle.std.proofs.lemmas.List.{take-append-drop, length-take-le, length-replicate, nil_from_length}
use Rattle.std.proofs.Math.Seq.{take-add, take-append_seam}
use Rattle.dav_wire.specs.Bodies.{most_body, IsBody, BeginsBody, BodyRefusal, IsBodyUnfinished, HasNoSize, MayHaveSize, NeverHasSize, NeverEndsLine, NeverHasPiece, bad_line, bad_piece, open_line, open_piece, broken, large}
use Rattle.dav_wire.specs.BodySteps.{StandsInChunk}
use Rattle.dav_wire.specs.Chunks.{line_end, HasSize}
use Rattle.dav_wire.specs.SizeLines.{FindsEnd}
use Rattle.dav_wire.specs.declared.announcing.Announced.{Announced}
use Rattle.dav_wire.specs.declared.announcing.Announced.TheVariants.{InChunks}
use Rattle.dav_wire.specs.declared.next.Flaw.TheVariants.{Malformed, TooLarge}
use Rattle.dav_wire.specs.declared.size_line.EndFound.TheVariants.{Here, Partly}
use Rattle.dav_wire.proofs.BodyLemmas.{begins_stays, begins_more, begins_ends}
use Rattle.dav_wire.proofs.Chunking.{size_stays, front_once}

-- the line in front of what is held is that line of all
pub line_of : (held : List ℕ) (size len : ℕ) → HasSize (take len held) size [] → HasSize held size (drop len held)
line_of held size len line =
    subst (λ (x : List ℕ). HasSize x size (drop len held)) (take-append-drop len held) (size_stays (take len held) size [] (drop len held) line)

-- behind the line with a size
pub goes_inside : (passed held body : List ℕ) (size len : ℕ) → BeginsBody passed body [] → HasSize (take len held) size []
    → size ≤ most_body - length body
    → StandsInChunk (passed ++ take len held) body size size
goes_inside passed held body size len begins line fits = record {
  begun = body;
  rest = take len held;
  got = [];
  begins = begins_stays passed body [] (take len held) begins;
  line = line;
  counted = omega arith;
  joined = append-nil body;
  room = let few = begins.few in omega arith;
}

pub refuses_size : (passed held body : List ℕ) (size len : ℕ) → BeginsBody passed body [] → HasSize (take len held) size []
    → most_body - length body < size
    → BodyRefusal InChunks (passed ++ held) TooLarge
refuses_size passed held body size len begins line much =
    large body held (drop len held) size refl (begins_stays passed body [] held begins) (line_of held size len line) (omega arith)

pub refuses_line : (passed held body : List ℕ) → BeginsBody passed body [] → NeverHasSize held → BodyRefusal InChunks (passed ++ held) Malformed
refuses_line passed held body begins never = broken body held refl (begins_stays passed body [] held begins) (bad_line never)

pub wants_line : (passed held body : List ℕ) → BeginsBody passed body [] → HasNoSize held → MayHaveSize held
    → IsBodyUnfinished InChunks (passed ++ held)
wants_line passed held body begins none may =
    record { begun = body; rest = held; begins = begins_stays passed body [] held begins; unfinished = open_line none may }

-- some bytes of a chunk
pub goes_on : (passed held body : List ℕ) (size left n : ℕ) → StandsInChunk passed body size left → n ≤ left → n ≤ length held
    → StandsInChunk (passed ++ take n held) (body ++ take n held) size (left - n)
goes_on passed held body size left n stands few within = record {
  begun = stands.begun;
  rest = stands.rest ++ take n held;
  got = stands.got ++ take n held;
  begins = begins_stays passed stands.begun stands.rest (take n held) stands.begins;
  line = size_stays stands.rest size stands.got (take n held) stands.line;
  counted =
      let counted = stands.counted in
      let both = length-append stands.got (take n held) in
      let taken = length-take-le n held within in
      omega arith;
  joined = sym (append_assoc stands.begun stands.got (take n held)) ∙ ap (λ x. x ++ take n held) stands.joined;
  room = stands.room;
}

-- behind these bytes of a chunk, and others that are held, more are wanted
wants_piece : (passed held body more piece : List ℕ) (size left : ℕ) → (stands : StandsInChunk passed body size left) → length piece ≡ size
    → (stands.got ++ held) ++ more ≡ piece ++ line_end → length held < left + 2 → IsBodyUnfinished InChunks (passed ++ held)
wants_piece passed held body more piece size left stands long whole short = record {
  begun = stands.begun;
  rest = stands.rest ++ held;
  begins = begins_stays passed stands.begun stands.rest held stands.begins;
  unfinished = open_piece size (stands.got ++ held) (let room = stands.room in omega arith)
      (size_stays stands.rest size stands.got held stands.line)
      (let counted = stands.counted in let both = length-append stands.got held in omega arith)
      (more, piece, [], (long, whole ∙ ap (λ x. piece ++ x) (sym (append-nil line_end))));
}

pub wants_bytes : (passed held body : List ℕ) (size left : ℕ) → StandsInChunk passed body size left → 0 < left → length held ≡ 0
    → IsBodyUnfinished InChunks (passed ++ held)
wants_bytes passed held body size left stands some empty =
    let none = nil_from_length held empty in
    let zeros : List ℕ = replicate left 0 in
    let counted = stands.counted in
    let long : length (stands.got ++ zeros) ≡ size = length-append stands.got zeros ∙ (let all : length zeros ≡ left = length-replicate left 0 in omega arith) in
    let whole : (stands.got ++ held) ++ (zeros ++ line_end) ≡ (stands.got ++ zeros) ++ line_end =
    ap (λ x. (stands.got ++ x) ++ (zeros ++ line_end)) none ∙ ap (λ x. x ++ (zeros ++ line_end)) (append-nil stands.got)
    ∙ sym (append_assoc stands.got zeros line_end) in
    wants_piece passed held body (zeros ++ line_end) (stands.got ++ zeros) size left stands long whole (omega arith)

-- all bytes of a chunk are there

pub wants_end : (passed held body : List ℕ) (size : ℕ) → StandsInChunk passed body size 0 → FindsEnd held Partly
    → IsBodyUnfinished InChunks (passed ++ held)
wants_end passed held body size stands (short, more, e) =
    let counted = stands.counted in
    wants_piece passed held body more stands.got size 0 stands (omega arith)
    (append_assoc stands.got held more ∙ ap (λ x. stands.got ++ x) e) (omega arith)

pub refuses_end : (passed held body : List ℕ) (size : ℕ) → StandsInChunk passed body size 0 → NeverEndsLine held
    → BodyRefusal InChunks (passed ++ held) Malformed
refuses_end passed held body size stands never =
    broken stands.begun (stands.rest ++ held) refl (begins_stays passed stands.begun stands.rest held stands.begins)
    (bad_piece size (stands.got ++ held) (let room = stands.room in omega arith) (size_stays stands.rest size stands.got held stands.line) none)
  where
    none : NeverHasPiece size (stands.got ++ held)
    none more piece rest (long, e) =
        let counted = stands.counted in
        let same : length stands.got ≡ length piece = omega arith in
        never more rest (front_once stands.got piece (held ++ more) (line_end ++ rest) same (sym (append_assoc stands.got held more) ∙ e)).1

two_are : (held : List ℕ) → FindsEnd held Here → take 2 held ≡ line_end
two_are held (long, e) = ap (take 2) e ∙ take-append_seam line_end (drop 2 held)

pub goes_between : (passed held body : List ℕ) (size : ℕ) → 0 < size → StandsInChunk passed body size 0 → FindsEnd held Here
    → BeginsBody (passed ++ take 2 held) body []
goes_between passed held body size some stands here =
    let counted = stands.counted in
    let two = two_are held here in
    let long : size ≡ length stands.got = omega arith in
    let line : HasSize (stands.rest ++ line_end) (length stands.got) (stands.got ++ (line_end ++ [])) =
    subst (λ (n : ℕ). HasSize (stands.rest ++ line_end) n (stands.got ++ (line_end ++ []))) long
    (subst (λ (x : List ℕ). HasSize (stands.rest ++ line_end) size (stands.got ++ x)) (sym (append-nil line_end))
    (size_stays stands.rest size stands.got line_end stands.line)) in
    let few : length (stands.begun ++ stands.got) ≤ most_body =
    (let both = length-append stands.begun stands.got in let room = stands.room in omega arith) in
    subst (λ (x : List ℕ). BeginsBody (passed ++ x) body []) (sym two)
    (subst (λ (x : List ℕ). BeginsBody (passed ++ line_end) x []) stands.joined
    (begins_more (passed ++ line_end) stands.begun (stands.rest ++ line_end) stands.got []
    (begins_stays passed stands.begun stands.rest line_end stands.begins) (omega arith) line few))

pub ends_here : (passed held body : List ℕ) → StandsInChunk passed body 0 0 → FindsEnd held Here → IsBody InChunks (passed ++ take 2 held) body []
ends_here passed held body stands here =
    let counted = stands.counted in
    let none : stands.got ≡ [] = nil_from_length stands.got (omega arith) in
    let two = two_are held here in
    let line : HasSize (stands.rest ++ line_end) 0 (line_end ++ []) =
    subst (λ (x : List ℕ). HasSize (stands.rest ++ line_end) 0 x) (ap (λ x. x ++ line_end) none ∙ sym (append-nil line_end))
    (size_stays stands.rest 0 stands.got line_end stands.line) in
    let same : stands.begun ≡ body = sym (append-nil stands.begun) ∙ ap (λ x. stands.begun ++ x) (sym none) ∙ stands.joined in
    subst (λ (x : List ℕ). IsBody InChunks (passed ++ x) body []) (sym two)
    (subst (λ (x : List ℕ). IsBody InChunks (passed ++ line_end) x []) same
    (begins_ends (passed ++ line_end) stands.begun (stands.rest ++ line_end) [] (begins_stays passed stands.begun stands.rest line_end stands.begins) line))

-- what is said of a body in chunks is said of what is announced
pub in_chunks : (P : Announced → Type 0) (announced : Announced) → announced ≡ InChunks → P InChunks → P announced
in_chunks P announced same is = subst P (sym same) is

-- what is passed in two steps
pub passed_on : (passed held rest : List ℕ) (at used : ℕ) → rest ≡ drop at held
    → (passed ++ take at held) ++ take used rest ≡ passed ++ take (at + used) held
passed_on passed held rest at used same =
    append_assoc passed (take at held) (take used rest) ∙ ap (λ x. passed ++ x) (ap (λ x. take at held ++ take used x) same ∙ sym (take-add at used held))

pub passed_all : (passed held rest : List ℕ) (at : ℕ) → rest ≡ drop at held → (passed ++ take at held) ++ rest ≡ passed ++ held
passed_all passed held rest at same =
    append_assoc passed (take at held) rest ∙ ap (λ x. passed ++ x) (ap (λ x. take at held ++ x) same ∙ take-append-drop at held)
