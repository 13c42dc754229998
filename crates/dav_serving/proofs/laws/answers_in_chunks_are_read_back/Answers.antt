use Rattle.dav_serving.proofs.BodiesAreDelimited.{raw_body}
use Rattle.dav_serving.proofs.PiecesAreSome.{nonempty_pieces, read_back}
use Rattle.dav_serving.proofs.laws.answers_in_chunks_are_read_back.Goals as goal

pub returns : goal.returns
returns c = record {
  chunked = λ a b x behind r. read_back a b x behind r;
  full = λ a b x last r. nonempty_pieces a b x last r;
  raw = raw_body;
}
