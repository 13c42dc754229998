use Rattle.dav_wire.proofs.Chunking.{body_back, raw_back}
use Rattle.dav_wire.proofs.laws.written_pieces_are_read_back.Goals as goal

pub returns : goal.returns
returns c = record { chunked = body_back; raw = raw_back }
