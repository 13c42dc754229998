-- A request is some bytes, with its body or without.
use Rattle.std.proofs.Common.{◌<◌, ◌≤◌, ◌++◌, ℕ, List, [], ◌∷◌, length, ap, ◌∙◌, arith, length-append}
use Rattle.httparse.specs.Grammar.{print_blank, print_version, print_end, print_section, RequestHead, IsRequestHead, print_request}
use Rattle.httparse.proofs.GrammarLemmas.{print_request-append}
use Rattle.dav_wire.specs.Announced.{announces}
use Rattle.dav_wire.specs.Bodies.{IsBody}
use Rattle.dav_wire.specs.Chunks.{line_end, HasSize, HasChunks}
use Rattle.dav_wire.specs.Messages.{Message, IsMessage}
use Rattle.dav_wire.specs.Requests.{IsRequest}
use Rattle.dav_wire.specs.declared.announcing.Announced.{Announced}
use Rattle.dav_wire.specs.declared.announcing.Announced.TheVariants.{Nothing, Sized, InChunks, Unclear}

method_within : (a b c d e f : List ℕ) → length b ≤ length (a ++ (b ++ 32 ∷ (c ++ 32 ∷ (d ++ (e ++ (f ++ []))))))
method_within a b c d e f = grind (arith, length-append)

pub head_some : (h : RequestHead) → IsRequestHead h → 0 < length (print_request h)
head_some h valid =
    let same = ap (length {A = ℕ}) (print_request-append h []) in
    let whole = length-append (print_request h) [] in
    let part = method_within (print_blank h.blank) h.method h.target (print_version h.minor) (print_end h.line_end) (print_section h.fields h.last) in
    let some = valid.method.0 in
    omega arith

-- what is left behind a request is shorter
pub request_shorter : (left rest : List ℕ) (head : RequestHead) → IsRequest left head rest → length rest < length left
request_shorter left rest head r =
    let some = head_some head r.reads.0 in
    let whole = ap (length {A = ℕ}) r.reads.1 ∙ length-append (print_request head) rest in
    omega arith

size_within : (text : List ℕ) (size : ℕ) (behind : List ℕ) → HasSize text size behind → length behind ≤ length text
size_within text size behind has = omega (arith, ap (length {A = ℕ}) has.whole, length-append has.number (has.extension ++ (line_end ++ behind)), length-append has.extension (line_end ++ behind), length-append line_end behind)

chunks_within : (text : List ℕ) (pieces : List (List ℕ)) (rest : List ℕ) → HasChunks text pieces rest → length rest ≤ length text
chunks_within text [] rest has = omega (arith, size_within text 0 (line_end ++ rest) has, length-append line_end rest)
chunks_within text (piece ∷ pieces) rest (some, after, has, more) = omega (
  arith,
  size_within text (length piece) (piece ++ (line_end ++ after)) has,
  length-append piece (line_end ++ after),
  length-append line_end after,
  chunks_within after pieces rest more,
)

body_within : (announced : Announced) (text body rest : List ℕ) → IsBody announced text body rest → length rest ≤ length text
body_within Nothing text body rest is = let same = ap (length {A = ℕ}) is.1 in omega arith
body_within (Sized size) text body rest is = omega (arith, ap (length {A = ℕ}) is.2, length-append body rest)
body_within InChunks text body rest is = chunks_within text is.1.pieces rest is.1.chunks
body_within Unclear text body rest is = absurd is

-- and what is left behind its body, too
pub message_shorter : (left : List ℕ) (message : Message) (rest : List ℕ) → IsMessage left message rest → length rest < length left
message_shorter left message rest is =
    let first = request_shorter left is.behind message.head is.request in
    let second = body_within (announces message.head) is.behind message.body rest is.body in
    omega arith
