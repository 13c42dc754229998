use Rattle.std.proofs.Common.{ℕ, ◌≤◌, List, length, Ok}
use Rattle.dav_io.specs.Appending.{Appends}
use Rattle.htmlescape.proofs.Encoding.{Left, bytes_for}
use Rattle.htmlescape.proofs.encode.encode_to.Given as goal

-- What was written, the run that stays and the encoding of the characters that are left are the text's encoding.
abbrev pub invariant-loop-c : goal.invariant-loop-c
invariant-loop-c g l =
    let stream = g.W.Sink.stream in
    (done : List ℕ) × Appends (stream l.initial.writer) done (Ok tt) (stream l.writer) × Left l.alphabet (bytes_for l.alphabet l.s) l.rest l.left.rest.now l.run done × (length l.rest ≤ length l.s)

abbrev pub decreases-loop-c : goal.decreases-loop-c
decreases-loop-c g l = length l.left.rest.now
