use Rattle.dav_upload.proofs.PieceHeld.{piece_stands}
use Rattle.dav_upload.proofs.laws.pieces_are_held.Goals as goal

pub returns : goal.returns
returns c = piece_stands
